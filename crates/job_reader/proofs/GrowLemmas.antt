-- Lines keep their words if locals are added after those that they name.
use Rattle.std.proofs.Common.{◌≡◌, ℕ, zero, suc, ◌<◌, Bool, true, false, ◌&&◌, List, [], ◌∷◌, ◌++◌, length, refl, sym, ap, ◌∙◌, arith, codes, append_assoc, append-nil, length-append}
use Rattle.std.specs.Prelude.{if◌then◌else◌, nat_lt}
use Rattle.std.specs.List.{list_all}
use Rattle.std.proofs.lemmas.Bool.{ltb-true}
use Rattle.std.proofs.lemmas.List.Folds.{list_all-append}
use Rattle.task_code.specs.Names.{is_among}
use Rattle.task_code.specs.Mentions as mentions
use Rattle.task_code.specs.declared.code.Index.{Index}
use Rattle.task_code.specs.declared.code.Index.TheVariants as index
use Rattle.task_code.specs.declared.code.Cell.{Cell}
use Rattle.task_code.specs.declared.code.Operand.{Operand}
use Rattle.task_code.specs.declared.code.Operand.TheVariants as operand
use Rattle.task_code.specs.declared.code.Expr.{Expr}
use Rattle.task_code.specs.declared.code.Expr.TheVariants.{One, Two}
use Rattle.task_code.specs.declared.code.Action.{Action}
use Rattle.task_code.specs.declared.code.Action.TheVariants as action
use Rattle.task_code.specs.declared.code.Line.{Line}
use Rattle.task_code.specs.declared.code.Line.TheVariants as line
use Rattle.job_reader.specs.Words.{Word, Words, name_at, index_word, noted}
use Rattle.job_reader.specs.Exprs.{Names, cell_word, operand_word, operator_word, expr_words}
use Rattle.job_reader.specs.Lines.{kind_word, action_words, line_words, line_names, line_fits}
use Rattle.job_reader.proofs.SaidLemmas.{and-true, below-true, AllBelow}

pub and-left : (a b : Bool) → (a && b) ≡ true → a ≡ true
and-left true b e = refl
and-left false b e = absurd cc

pub and-right : (a b : Bool) → (a && b) ≡ true → b ≡ true
and-right true b e = e
and-right false b e = absurd cc

pub all-left : (p : ℕ → Bool) (xs ys : List ℕ) → list_all p (xs ++ ys) ≡ true → list_all p xs ≡ true
all-left p xs ys e = and-left _ (list_all p ys) (sym (list_all-append p xs ys) ∙ e)

pub all-right : (p : ℕ → Bool) (xs ys : List ℕ) → list_all p (xs ++ ys) ≡ true → list_all p ys ≡ true
all-right p xs ys e = and-right (list_all p xs) _ (sym (list_all-append p xs ys) ∙ e)

name-grows : (ls more : List Word) (i : ℕ) → i < length ls → name_at (ls ++ more) i ≡ name_at ls i
name-grows [] more i h = absurd (omega arith)
name-grows (l ∷ ls) more zero h = refl
name-grows (l ∷ ls) more (suc i) h = name-grows ls more i (omega arith)

-- with more locals at the end
abbrev pub wider : Names → List Word → Names
wider s more = record s { locals = s.locals ++ more }

index-grows : (ls more : List Word) (i : Index) → list_all (λ k. nat_lt k (length ls)) (mentions.in_index i) ≡ true
    → index_word (ls ++ more) i ≡ index_word ls i
index-grows ls more (index.Number n) e = refl
index-grows ls more (index.Local i) e = name-grows ls more i (ltb-true i (length ls) (and-left _ true e))
index-grows ls more index.Arg e = refl
index-grows ls more index.Step e = refl

cell-grows : (s : Names) (more : List Word) (c : Cell) → AllBelow s (mentions.in_index c.index) → cell_word (wider s more) c ≡ cell_word s c
cell-grows s more c e = ap (λ (x : Word). name_at s.arrays c.array ++ 91 ∷ (x ++ 93 ∷ [])) (index-grows s.locals more c.index e)

operand-grows : (s : Names) (more : List Word) (o : Operand) → AllBelow s (mentions.in_operand o)
    → operand_word (wider s more) o ≡ operand_word s o
operand-grows s more (operand.Plain i) e = index-grows s.locals more i e
operand-grows s more (operand.Cell c) e = cell-grows s more c e

expr-grows : (s : Names) (more : List Word) (x : Expr) → AllBelow s (mentions.in_expr x) → expr_words (wider s more) x ≡ expr_words s x
expr-grows s more (One a) e = ap (λ (t : Word). t ∷ []) (operand-grows s more a e)
expr-grows s more (Two a op b) e =
    ap (λ (t : Word). t ∷ operator_word op ∷ operand_word (wider s more) b ∷ [])
    (operand-grows s more a (all-left _ (mentions.in_operand a) (mentions.in_operand b) e))
    ∙ ap (λ (t : Word). operand_word s a ∷ operator_word op ∷ t ∷ [])
    (operand-grows s more b (all-right _ (mentions.in_operand a) (mentions.in_operand b) e))

action-grows : (s : Names) (more : List Word) (a : Action) → AllBelow s (mentions.in_action a)
    → action_words (wider s more) a ≡ action_words s a
action-grows s more (action.Let i x) e =
    ap (λ (t : Word). codes "let" ∷ t ∷ codes "=" ∷ expr_words (wider s more) x)
    (name-grows s.locals more i (ltb-true i (length s.locals) (and-left (nat_lt i (length s.locals)) true (all-left (λ (k : ℕ). nat_lt k (length s.locals)) (i ∷ []) (mentions.in_expr x) e))))
    ∙ ap (λ (t : Words). codes "let" ∷ name_at s.locals i ∷ codes "=" ∷ t)
    (expr-grows s more x (all-right _ (i ∷ []) (mentions.in_expr x) e))
action-grows s more (action.Put kind c x) e =
    ap (λ (t : Word). kind_word kind ∷ t ∷ codes "=" ∷ expr_words (wider s more) x)
    (cell-grows s more c (all-left _ (mentions.in_index c.index) (mentions.in_expr x) e))
    ∙ ap (λ (t : Words). kind_word kind ∷ cell_word s c ∷ codes "=" ∷ t)
    (expr-grows s more x (all-right _ (mentions.in_index c.index) (mentions.in_expr x) e))
action-grows s more (action.Print x) e = ap (λ (t : Words). codes "print" ∷ t) (expr-grows s more x e)
action-grows s more (action.Spawn b x) e = ap (λ (t : Words). codes "spawn" ∷ name_at s.bodies b ∷ t) (expr-grows s more x e)
action-grows s more action.Sync e = refl
action-grows s more action.Stop e = refl

-- a line whose locals are there keeps its words
pub line-grows : (s : Names) (more : List Word) (l : Line) → line_fits s l ≡ true → line_words (wider s more) l ≡ line_words s l
line-grows s more (line.Do a) e = action-grows s more a (and-right _ _ e)
line-grows s more (line.If x n) e = ap (λ (t : Words). codes "if" ∷ t) (expr-grows s more x (and-right _ _ e))
line-grows s more (line.Else n) e = refl
line-grows s more line.EndIf e = refl
line-grows s more (line.While x n) e = ap (λ (t : Words). codes "while" ∷ t) (expr-grows s more x (and-right _ _ e))
line-grows s more (line.EndWhile x n) e = refl

pub below-grows : (ls more : List Word) (is : List ℕ) → list_all (λ k. nat_lt k (length ls)) is ≡ true
    → list_all (λ k. nat_lt k (length (ls ++ more))) is ≡ true
below-grows ls more [] e = refl
below-grows ls more (i ∷ is) e =
    let h : i < length ls = ltb-true i (length ls) (and-left _ (list_all (λ k. nat_lt k (length ls)) is) e) in
    let w : i < length (ls ++ more) = omega (arith, length-append ls more) in
    and-true _ _ (below-true i (length (ls ++ more)) w) (below-grows ls more is (and-right (nat_lt i (length ls)) _ e))

-- and its names stay there
pub fits-grows : (s : Names) (more : List Word) (l : Line) → line_fits s l ≡ true → line_fits (wider s more) l ≡ true
fits-grows s more l e =
    and-true _ _ (and-left _ _ e)
    (below-grows s.locals more (mentions.in_line l) (and-right (line_names (length s.arrays) (length s.bodies) l) _ e))

-- mentions only add locals at the end
pub noted-grows : (ls ws : List Word) → (more : List Word) × (noted ls ws ≡ ls ++ more)
noted-grows ls [] = ([], sym (append-nil ls))
noted-grows ls (w ∷ ws) = added (is_among ls w) ls w ws (noted-grows ls ws) (noted-grows (ls ++ w ∷ []) ws)
  where
    added : (b : Bool) (ls : List Word) (w : Word) (ws : List Word) → ((more : List Word) × (noted ls ws ≡ ls ++ more))
        → ((more : List Word) × (noted (ls ++ w ∷ []) ws ≡ (ls ++ w ∷ []) ++ more))
        → (more : List Word) × (noted (if b then ls else ls ++ w ∷ []) ws ≡ ls ++ more)
    added true ls w ws x y = x
    added false ls w ws x y = (w ∷ y.0, y.1 ∙ append_assoc ls (w ∷ []) y.0)
