-- What bodies of sound items name exists, and their locals are in the order of first mention.
use Rattle.std.proofs.Common.{◌≡◌, ℕ, ◌+◌, ◌<◌, ◌≤◌, Bool, true, List, [], ◌∷◌, ◌++◌, length, refl, sym, ◌∙◌, arith, length-append}
use Rattle.std.specs.Prelude.{nat_lt}
use Rattle.std.specs.List.{list_all}
use Rattle.std.proofs.lemmas.Bool.{ltb-true}
use Rattle.std.proofs.lemmas.List.Folds.{list_all-append}
use Rattle.task_code.specs.Limits.{is_operand, is_expr, is_action, is_line}
use Rattle.task_code.specs.Mentions.{in_line}
use Rattle.task_code.specs.Tree.{Block, Done, Do, If, IfElse, While, flat}
use Rattle.task_code.specs.declared.code.Operand.{Operand}
use Rattle.task_code.specs.declared.code.Operand.TheVariants as operand
use Rattle.task_code.specs.declared.code.Expr.{Expr}
use Rattle.task_code.specs.declared.code.Expr.TheVariants.{One, Two}
use Rattle.task_code.specs.declared.code.Action.{Action}
use Rattle.task_code.specs.declared.code.Action.TheVariants as action
use Rattle.task_code.specs.declared.code.Line.{Line}
use Rattle.task_code.specs.declared.code.Line.TheVariants as line
use Rattle.job_reader.specs.Words.{Word}
use Rattle.job_reader.specs.Exprs.{Names}
use Rattle.job_reader.specs.Lines.{line_names, line_fits}
use Rattle.job_reader.proofs.SaidLemmas.{and-true, below-true}
use Rattle.job_reader.proofs.GrowLemmas.{and-left, and-right}
use Rattle.job_reader.specs.Trees.{BodyTree, array_names}
use Rattle.job_reader.specs.Grammar.{Item, AnArray, ABody, AStart, names_above, IsSoundBody, AreSound, job_of}

-- with more arrays

wide-operand : (k n : ℕ) (o : Operand) → k ≤ n → is_operand k o ≡ true → is_operand n o ≡ true
wide-operand k n (operand.Plain i) h e = refl
wide-operand k n (operand.Cell c) h e = let there : c.array < k = ltb-true c.array k e in below-true c.array n (omega arith)

wide-expr : (k n : ℕ) (x : Expr) → k ≤ n → is_expr k x ≡ true → is_expr n x ≡ true
wide-expr k n (One a) h e = wide-operand k n a h e
wide-expr k n (Two a o b) h e =
    and-true _ _ (wide-operand k n a h (and-left _ (is_operand k b) e)) (wide-operand k n b h (and-right (is_operand k a) _ e))

wide-action : (k n m : ℕ) (a : Action) → k ≤ n → is_action k m a ≡ true → is_action n m a ≡ true
wide-action k n m (action.Let i x) h e = wide-expr k n x h e
wide-action k n m (action.Put kind c x) h e =
    let there : c.array < k = ltb-true c.array k (and-left _ (is_expr k x) e) in
    and-true _ _ (below-true c.array n (omega arith)) (wide-expr k n x h (and-right (nat_lt c.array k) _ e))
wide-action k n m (action.Print x) h e = wide-expr k n x h e
wide-action k n m (action.Spawn b x) h e = and-true _ _ (and-left _ (is_expr k x) e) (wide-expr k n x h (and-right (nat_lt b m) _ e))
wide-action k n m action.Sync h e = refl
wide-action k n m action.Stop h e = refl

left-all : (p : Line → Bool) (xs ys : List Line) → list_all p (xs ++ ys) ≡ true → list_all p xs ≡ true
left-all p xs ys e = and-left _ (list_all p ys) (sym (list_all-append p xs ys) ∙ e)

right-all : (p : Line → Bool) (xs ys : List Line) → list_all p (xs ++ ys) ≡ true → list_all p ys ≡ true
right-all p xs ys e = and-right (list_all p xs) _ (sym (list_all-append p xs ys) ∙ e)

both-all : (p : Line → Bool) (xs ys : List Line) → list_all p xs ≡ true → list_all p ys ≡ true → list_all p (xs ++ ys) ≡ true
both-all p xs ys e f = list_all-append p xs ys ∙ and-true _ _ e f

-- the end of a loop names what its first line does
block-there : (k n m : ℕ) (b : Block) → k ≤ n → list_all (line_names k m) (flat b) ≡ true → list_all (is_line n m) (flat b) ≡ true
block-there k n m Done h e = refl
block-there k n m (Do a r) h e =
    and-true _ _ (wide-action k n m a h (and-left _ (list_all (line_names k m) (flat r)) e))
    (block-there k n m r h (and-right (is_action k m a) _ e))
block-there k n m (If t a r) h e =
    let inner : list_all (line_names k m) (flat a ++ line.EndIf ∷ flat r) ≡ true = and-right (is_expr k t) _ e in
    and-true _ _ (wide-expr k n t h (and-left _ (list_all (line_names k m) (flat a ++ line.EndIf ∷ flat r)) e))
    (both-all (is_line n m) (flat a) (line.EndIf ∷ flat r) (block-there k n m a h (left-all (line_names k m) (flat a) (line.EndIf ∷ flat r) inner))
    (block-there k n m r h (right-all (line_names k m) (flat a) (line.EndIf ∷ flat r) inner)))
block-there k n m (IfElse t a b r) h e =
    let end : List Line = line.EndIf ∷ flat r in
    let tail : List Line = line.Else (length (flat b) + 1) ∷ (flat b ++ end) in
    let inner : list_all (line_names k m) (flat a ++ tail) ≡ true = and-right (is_expr k t) _ e in
    let second : list_all (line_names k m) (flat b ++ end) ≡ true = right-all (line_names k m) (flat a) tail inner in
    and-true _ _ (wide-expr k n t h (and-left _ (list_all (line_names k m) (flat a ++ tail)) e))
    (both-all (is_line n m) (flat a) tail (block-there k n m a h (left-all (line_names k m) (flat a) tail inner))
    (both-all (is_line n m) (flat b) end (block-there k n m b h (left-all (line_names k m) (flat b) end second))
    (block-there k n m r h (right-all (line_names k m) (flat b) end second))))
block-there k n m (While t a r) h e =
    let end : List Line = line.EndWhile t (length (flat a)) ∷ flat r in
    let inner : list_all (line_names k m) (flat a ++ end) ≡ true = and-right (is_expr k t) _ e in
    let test : is_expr n t ≡ true = wide-expr k n t h (and-left _ (list_all (line_names k m) (flat a ++ end)) e) in
    and-true _ _ test
    (both-all (is_line n m) (flat a) end (block-there k n m a h (left-all (line_names k m) (flat a) end inner))
    (and-true _ _ test (block-there k n m r h (right-all (line_names k m) (flat a) end inner))))

lines-named : (s : Names) (code : List Line) → list_all (line_fits s) code ≡ true
    → list_all (line_names (length s.arrays) (length s.bodies)) code ≡ true
lines-named s [] e = refl
lines-named s (l ∷ ls) e =
    and-true _ _ (and-left _ (list_all (λ i. nat_lt i (length s.locals)) (in_line l)) (and-left _ (list_all (line_fits s) ls) e))
    (lines-named s ls (and-right (line_fits s l) _ e))

-- a body among this many arrays and bodies
abbrev WholeBody : ℕ → ℕ → BodyTree → Type 0
WholeBody n m b = list_all (is_line n m) (flat b.block) ≡ true

body-whole : (format : ℕ) (arrays bodies : List Word) (n : ℕ) (b : BodyTree) → length arrays ≤ n → IsSoundBody format arrays bodies b
    → WholeBody n (length bodies) b
body-whole format arrays bodies n b few sound =
    block-there (length arrays) n (length bodies) b.block few (lines-named (names_above arrays bodies b) (flat b.block) sound.names)

abbrev pub AreWhole : ℕ → ℕ → List BodyTree → Type 0
AreWhole n m [] = Unit {0}
AreWhole n m (b ∷ bs) = WholeBody n m b × AreWhole n m bs

pub items-whole : (format : ℕ) (above bodies : List Word) (n : ℕ) (items : List Item)
    → length above + length (array_names (job_of format items)) ≡ n → AreSound format above bodies items
    → AreWhole n (length bodies) (job_of format items).bodies
items-whole format above bodies n [] many h = tt
items-whole format above bodies n (AnArray name given cells ∷ is) many h =
    items-whole format (above ++ name ∷ []) bodies n is (omega (arith, many, length-append above (name ∷ []))) h.1
items-whole format above bodies n (ABody b ∷ is) many h =
    (body-whole format above bodies n b (omega arith) h.0, items-whole format above bodies n is many h.1)
items-whole format above bodies n (AStart s ∷ is) many h = items-whole format above bodies n is many h.1

pub starts-there : (format : ℕ) (above bodies : List Word) (items : List Item) → AreSound format above bodies items
    → list_all (λ s. nat_lt s.body (length bodies)) (job_of format items).starts ≡ true
starts-there format above bodies [] h = refl
starts-there format above bodies (AnArray name given cells ∷ is) h = starts-there format (above ++ name ∷ []) bodies is h.1
starts-there format above bodies (ABody b ∷ is) h = starts-there format above bodies is h.1
starts-there format above bodies (AStart s ∷ is) h =
    and-true _ _ (below-true s.body (length bodies) h.0) (starts-there format above bodies is h.1)
