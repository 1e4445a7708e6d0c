-- What words say is written so.
use Rattle.std.proofs.Common.{◌≡◌, ℕ, suc, ◌+◌, ◌<◌, Bool, true, false, ◌&&◌, List, [], ◌∷◌, ◌++◌, length, Option, Some, None, Result, Ok, Err, ℤ, refl, sym, ap, subst, ◌∙◌, arith, codes, nat_eq}
use Rattle.std.specs.Prelude.{if◌then◌else◌, nat_lt}
use Rattle.std.specs.List.{list_all}
use Rattle.std.specs.Option.{option_map}
use Rattle.std.specs.Str.{bytes_eq}
use Rattle.std.specs.Fmt.{signed_decimal}
use Rattle.std.proofs.lemmas.Slice.Eq.{bytes_eq-Decides}
use Rattle.std.proofs.lemmas.Grind.{common_steps}
use Rattle.std.proofs.lemmas.List.Folds.{list_all-append}
use Rattle.text_lines.specs.declared.refusal.Code.{Code}
use Rattle.text_lines.specs.Number.{number_of}
use Rattle.text_lines.proofs.NumbersLemmas.{numbers_law}
use Rattle.task_code.specs.Limits.{is_operand, is_expr}
use Rattle.task_code.specs.Mentions as mentions
use Rattle.task_code.specs.declared.code.Index.{Index}
use Rattle.task_code.specs.declared.code.Index.TheVariants as index
use Rattle.task_code.specs.declared.code.Cell.{Cell}
use Rattle.task_code.specs.declared.code.Operand.{Operand}
use Rattle.task_code.specs.declared.code.Operand.TheVariants as operand
use Rattle.task_code.specs.declared.code.Operator.{Operator}
use Rattle.task_code.specs.declared.code.Operator.TheVariants.{Add, Subtract, Multiply, Divide, Remainder, Below, AtMost, Equal, NotEqual}
use Rattle.task_code.specs.declared.code.Expr.{Expr}
use Rattle.task_code.specs.declared.code.Expr.TheVariants.{One}
use Rattle.job_reader.specs.Faults.{both, made}
use Rattle.job_reader.specs.Words.{
  Word,
  Words,
  begins_number,
  named,
  numbered,
  or_bad_number,
  place_from,
  or_unknown,
  declared_at,
  name_at,
  index_word,
  index_of,
}
use Rattle.job_reader.specs.Exprs.{
  Names,
  at_end,
  index_part,
  cell_parts,
  cell_word,
  cell_at,
  cell_from,
  cell_of,
  has_bracket,
  operand_word,
  operand_of,
  operator_word,
  operator_of,
  expr_words,
  expr_of,
  two,
}

pub made-ok : {A B : Type 0} (f : A → B) (r : Result A Code) (y : B) → made f r ≡ Ok y → (x : A) × (r ≡ Ok x) × (f x ≡ y)
made-ok f (Ok x) y e = (x, refl, cc)
made-ok f (Err c) y e = absurd cc

pub both-ok : {A B : Type 0} (a : Result A Code) (b : Result B Code) (x : A × B) → both a b ≡ Ok x → (a ≡ Ok x.0) × (b ≡ Ok x.1)
both-ok {A} {B} (Ok a) (Ok b) x e =
    let same : (a, b) ≡ x = cc in
    (ap (λ (p : A × B). Ok p.0) same, ap (λ (p : A × B). Ok p.1) same)
both-ok (Ok a) (Err d) x e = absurd cc
both-ok (Err c) (Ok b) x e = absurd cc
both-ok (Err c) (Err d) x e = absurd cc

pub and-true : (a b : Bool) → a ≡ true → b ≡ true → (a && b) ≡ true
and-true true b e f = f
and-true false b e f = absurd cc

pub below-true : (i n : ℕ) → i < n → nat_lt i n ≡ true
below-true i n h = grind (arith, common_steps)

pub same-word : (a b : Word) → bytes_eq a b ≡ true → a ≡ b
same-word a b e = (bytes_eq-Decides a b).0 e

-- a name is at a place after the first ones
abbrev pub StandsAt : ℕ → List Word → Word → ℕ → Type 0
StandsAt k names w i = (p : ℕ) × (i ≡ k + p) × (p < length names) × (name_at names p ≡ w)

stands : (b : Bool) (k : ℕ) (n : Word) (ns : List Word) (w : Word) (i : ℕ) → bytes_eq n w ≡ b
    → (place_from (k + 1) ns w ≡ Some i → StandsAt (k + 1) ns w i)
    → (if b then Some k else place_from (k + 1) ns w) ≡ Some i → StandsAt k (n ∷ ns) w i
stands true k n ns w i h rec e = let same : k ≡ i = cc in (0, omega arith, omega arith, same-word n w h)
stands false k n ns w i h rec e = let r = rec e in (suc r.0, omega (arith, r.1), omega (arith, r.2), r.3)

place-stands : (k : ℕ) (names : List Word) (w : Word) (i : ℕ) → place_from k names w ≡ Some i → StandsAt k names w i
place-stands k [] w i e = absurd cc
place-stands k (n ∷ ns) w i e = stands (bytes_eq n w) k n ns w i refl (place-stands (k + 1) ns w i) e

pub place-said : (names : List Word) (w : Word) (i : ℕ) → place_from 0 names w ≡ Some i → (name_at names i ≡ w) × (i < length names)
place-said names w i e =
    let r = place-stands 0 names w i e in
    let same : i ≡ r.0 = omega (arith, r.1) in
    (ap (name_at names) same ∙ r.3, omega (arith, r.2))

unknown-ok : (o : Option ℕ) (i : ℕ) → or_unknown o ≡ Ok i → o ≡ Some i
unknown-ok None i e = absurd cc
unknown-ok (Some j) i e = let same : j ≡ i = cc in ap (λ (x : ℕ). Some x) same

pub declared-said : (names : List Word) (w : Word) (i : ℕ) → declared_at names w ≡ Ok i → (name_at names i ≡ w) × (i < length names)
declared-said names w i e =
    let m = made-ok (λ (p : Unit {0} × ℕ). p.1) _ i e in
    let b = both-ok (named w) (or_unknown (place_from 0 names w)) m.0 m.1 in
    place-said names w i (unknown-ok _ i (b.1 ∙ ap (λ (x : ℕ). Ok x) m.2))

pub number-ok : (o : Option ℤ) (n : ℤ) → or_bad_number o ≡ Ok n → o ≡ Some n
number-ok None n e = absurd cc
number-ok (Some m) n e = let same : m ≡ n = cc in ap (λ (x : ℤ). Some x) same

pub number-said : (w : Word) (n : ℤ) → numbered w ≡ Ok n → w ≡ signed_decimal n
number-said w n e = (numbers_law.1 w n (number-ok (number_of w) n e)).0

-- how an index was said, and that its local is there
abbrev pub IndexSaid : List Word → Word → Index → Type 0
IndexSaid locals w i = (w ≡ index_word locals i) × (list_all (λ k. nat_lt k (length locals)) (mentions.in_index i) ≡ true)

index-cases : (locals : List Word) (w : Word) (i : Index) (a b c : Bool) → bytes_eq w (codes "arg") ≡ b → bytes_eq w (codes "step") ≡ c
    → (if a then made index.Number (numbered w) else if b then Ok index.Arg else if c then Ok index.Step
    else made index.Local (declared_at locals w))
    ≡ Ok i
    → IndexSaid locals w i
index-cases locals w i true b c f g e =
    let m = made-ok index.Number (numbered w) i e in
    subst (IndexSaid locals w) m.2 (number-said w m.0 m.1, refl)
index-cases locals w i false true c f g e = let same : index.Arg ≡ i = cc in
    subst (IndexSaid locals w) same (same-word w (codes "arg") f, refl)
index-cases locals w i false false true f g e = let same : index.Step ≡ i = cc in
    subst (IndexSaid locals w) same (same-word w (codes "step") g, refl)
index-cases locals w i false false false f g e =
    let m = made-ok index.Local (declared_at locals w) i e in
    let d = declared-said locals w m.0 m.1 in
    subst (IndexSaid locals w) m.2 (sym d.0, and-true _ true (below-true m.0 (length locals) d.1) refl)

pub index-said : (locals : List Word) (w : Word) (i : Index) → index_of locals w ≡ Ok i → IndexSaid locals w i
unfolding index_of
index-said locals w i e = index-cases locals w i (begins_number w) (bytes_eq w (codes "arg")) (bytes_eq w (codes "step")) refl refl e

mapped-some : {A B : Type 0} (f : A → B) (o : Option A) (y : B) → option_map f o ≡ Some y → (x : A) × (o ≡ Some x) × (f x ≡ y)
mapped-some f None y e = absurd cc
mapped-some f (Some x) y e = (x, refl, cc)

is-byte : (c n : ℕ) → nat_eq c n ≡ true → c ≡ n
is-byte c n h = grind (arith, common_steps)

end-said : (cs q : Word) → at_end cs ≡ Some q → (cs ≡ []) × (q ≡ [])
end-said [] q e = let same : [] ≡ q = cc in (refl, sym same)
end-said (c ∷ cs) q e = absurd cc

index-part-case : (a b : Bool) (c : ℕ) (cs q : Word) → nat_eq c 93 ≡ b → ((p : Word) → index_part cs ≡ Some p → cs ≡ p ++ 93 ∷ [])
    → (if a then None else if b then at_end cs else option_map (λ (i : Word). c ∷ i) (index_part cs)) ≡ Some q → c ∷ cs ≡ q ++ 93 ∷ []
index-part-case true b c cs q h rec e = absurd cc
index-part-case false true c cs q h rec e =
    let n = end-said cs q e in
    let same : c ≡ 93 = is-byte c 93 h in
    ap (λ (x : ℕ). x ∷ cs) same ∙ ap (λ (x : Word). 93 ∷ x) n.0 ∙ ap (λ (x : Word). x ++ 93 ∷ []) (sym n.1)
index-part-case false false c cs q h rec e =
    let m = mapped-some (λ (i : Word). c ∷ i) (index_part cs) q e in
    ap (λ (x : Word). c ∷ x) (rec m.0 m.1) ∙ ap (λ (x : Word). x ++ 93 ∷ []) m.2

index-part-said : (w q : Word) → index_part w ≡ Some q → w ≡ q ++ 93 ∷ []
index-part-said [] q e = absurd cc
index-part-said (c ∷ cs) q e = index-part-case (nat_eq c 91) (nat_eq c 93) c cs q refl (index-part-said cs) e

parts-case : (a b : Bool) (c : ℕ) (cs : Word) (p : Word × Word) → nat_eq c 91 ≡ a
    → ((q : Word × Word) → cell_parts cs ≡ Some q → cs ≡ q.0 ++ 91 ∷ (q.1 ++ 93 ∷ []))
    → (if a then option_map (λ (i : Word). ([], i)) (index_part cs) else if b then None
    else option_map (λ (q : Word × Word). (c ∷ q.0, q.1)) (cell_parts cs))
    ≡ Some p
    → c ∷ cs ≡ p.0 ++ 91 ∷ (p.1 ++ 93 ∷ [])
parts-case true b c cs p h rec e =
    let m = mapped-some {B = Word × Word} (λ (i : Word). ([], i)) (index_part cs) p e in
    let same : c ≡ 91 = is-byte c 91 h in
    ap (λ (x : ℕ). x ∷ cs) same ∙ ap (λ (x : Word). 91 ∷ x) (index-part-said cs m.0 m.1)
    ∙ ap (λ (x : Word × Word). x.0 ++ 91 ∷ (x.1 ++ 93 ∷ [])) m.2
parts-case false true c cs p h rec e = absurd cc
parts-case false false c cs p h rec e =
    let m = mapped-some {B = Word × Word} (λ (q : Word × Word). (c ∷ q.0, q.1)) (cell_parts cs) p e in
    ap (λ (x : Word). c ∷ x) (rec m.0 m.1) ∙ ap (λ (x : Word × Word). x.0 ++ 91 ∷ (x.1 ++ 93 ∷ [])) m.2

parts-said : (w : Word) (p : Word × Word) → cell_parts w ≡ Some p → w ≡ p.0 ++ 91 ∷ (p.1 ++ 93 ∷ [])
parts-said [] p e = absurd cc
parts-said (c ∷ cs) p e = parts-case (nat_eq c 91) (nat_eq c 93) c cs p refl (parts-said cs) e

-- how a cell was said, and that its array and local are there
abbrev pub CellSaid : Names → Word → Cell → Type 0
CellSaid s w c =
    (w ≡ cell_word s c) × (nat_lt c.array (length s.arrays) ≡ true)
    × (list_all (λ k. nat_lt k (length s.locals)) (mentions.in_index c.index) ≡ true)

cell-from-said : (s : Names) (o : Option (Word × Word)) (w : Word) (c : Cell) → cell_parts w ≡ o → cell_from s o ≡ Ok c → CellSaid s w c
cell-from-said s None w c h e = absurd cc
cell-from-said s (Some p) w c h e =
    let m = made-ok cell_at (both (declared_at s.arrays p.0) (index_of s.locals p.1)) c e in
    let b = both-ok (declared_at s.arrays p.0) (index_of s.locals p.1) m.0 m.1 in
    let a = declared-said s.arrays p.0 m.0.0 b.0 in
    let i = index-said s.locals p.1 m.0.1 b.1 in
    let word : w ≡ name_at s.arrays m.0.0 ++ 91 ∷ (index_word s.locals m.0.1 ++ 93 ∷ []) =
    parts-said w p h ∙ ap (λ (x : Word). x ++ 91 ∷ (p.1 ++ 93 ∷ [])) (sym a.0)
    ∙ ap (λ (x : Word). name_at s.arrays m.0.0 ++ 91 ∷ (x ++ 93 ∷ [])) i.0 in
    subst (CellSaid s w) m.2 (word, below-true m.0.0 (length s.arrays) a.1, i.1)

pub cell-said : (s : Names) (w : Word) (c : Cell) → cell_of s w ≡ Ok c → CellSaid s w c
unfolding cell_of
cell-said s w c e = cell-from-said s (cell_parts w) w c refl e

abbrev pub AllBelow : Names → List ℕ → Type 0
AllBelow s is = list_all (λ k. nat_lt k (length s.locals)) is ≡ true

abbrev pub OperandSaid : Names → Word → Operand → Type 0
OperandSaid s w o = (w ≡ operand_word s o) × (is_operand (length s.arrays) o ≡ true) × AllBelow s (mentions.in_operand o)

operand-cases : (s : Names) (w : Word) (o : Operand) (b : Bool)
    → (if b then made operand.Cell (cell_of s w) else made operand.Plain (index_of s.locals w)) ≡ Ok o → OperandSaid s w o
operand-cases s w o true e = let m = made-ok operand.Cell (cell_of s w) o e in subst (OperandSaid s w) m.2 (cell-said s w m.0 m.1)
operand-cases s w o false e =
    let m = made-ok operand.Plain (index_of s.locals w) o e in
    let i = index-said s.locals w m.0 m.1 in
    subst (OperandSaid s w) m.2 (i.0, refl, i.1)

pub operand-said : (s : Names) (w : Word) (o : Operand) → operand_of s w ≡ Ok o → OperandSaid s w o
unfolding operand_of
operand-said s w o e = operand-cases s w o (has_bracket w) e

pick : (b : Bool) (w : Word) (x op : Operator) (rest : Result Operator Code) → (b ≡ true → w ≡ operator_word x)
    → (rest ≡ Ok op → w ≡ operator_word op) → (if b then Ok x else rest) ≡ Ok op → w ≡ operator_word op
pick true w x op rest is other e = let same : x ≡ op = cc in is refl ∙ ap operator_word same
pick false w x op rest is other e = other e

pub operator-said : (w : Word) (op : Operator) → operator_of w ≡ Ok op → w ≡ operator_word op
unfolding operator_of
operator-said w op e =
    pick (bytes_eq w (codes "+")) w Add op _ (same-word w (codes "+")) (λ e.
    pick (bytes_eq w (codes "-")) w Subtract op _ (same-word w (codes "-")) (λ e.
    pick (bytes_eq w (codes "*")) w Multiply op _ (same-word w (codes "*")) (λ e.
    pick (bytes_eq w (codes "/")) w Divide op _ (same-word w (codes "/")) (λ e.
    pick (bytes_eq w (codes "%")) w Remainder op _ (same-word w (codes "%")) (λ e.
    pick (bytes_eq w (codes "<")) w Below op _ (same-word w (codes "<")) (λ e.
    pick (bytes_eq w (codes "<=")) w AtMost op _ (same-word w (codes "<=")) (λ e.
    pick (bytes_eq w (codes "==")) w Equal op _ (same-word w (codes "==")) (λ e.
    pick (bytes_eq w (codes "!=")) w NotEqual op _ (same-word w (codes "!=")) (λ e.
    absurd cc) e) e) e) e) e) e) e) e) e

abbrev pub ExprSaid : Names → Words → Expr → Type 0
ExprSaid s ws e = (ws ≡ expr_words s e) × (is_expr (length s.arrays) e ≡ true) × AllBelow s (mentions.in_expr e)

pub all-both : (p : ℕ → Bool) (xs ys : List ℕ) → list_all p xs ≡ true → list_all p ys ≡ true → list_all p (xs ++ ys) ≡ true
all-both p xs ys e f = list_all-append p xs ys ∙ and-true _ _ e f

pub expr-said : (s : Names) (ws : Words) (e : Expr) → expr_of s ws ≡ Ok e → ExprSaid s ws e
expr-said s [] e h = absurd cc
expr-said s (a ∷ []) e h =
    let m = made-ok One (operand_of s a) e h in
    let o = operand-said s a m.0 m.1 in
    subst (ExprSaid s (a ∷ [])) m.2 (ap (λ (x : Word). x ∷ []) o.0, o.1, o.2)
expr-said s (a ∷ op ∷ []) e h = absurd cc
expr-said s (a ∷ op ∷ b ∷ []) e h =
    let m = made-ok two (both (both (operand_of s a) (operator_of op)) (operand_of s b)) e h in
    let outer = both-ok (both (operand_of s a) (operator_of op)) (operand_of s b) m.0 m.1 in
    let inner = both-ok (operand_of s a) (operator_of op) m.0.0 outer.0 in
    let x = operand-said s a m.0.0.0 inner.0 in
    let o = operator-said op m.0.0.1 inner.1 in
    let y = operand-said s b m.0.1 outer.1 in
    subst (ExprSaid s (a ∷ op ∷ b ∷ [])) m.2 (
      ap (λ (t : Word). t ∷ op ∷ b ∷ []) x.0 ∙ ap (λ (t : Word). operand_word s m.0.0.0 ∷ t ∷ b ∷ []) o
          ∙ ap (λ (t : Word). operand_word s m.0.0.0 ∷ operator_word m.0.0.1 ∷ t ∷ []) y.0,
      and-true _ _ x.1 y.1,
      all-both _ (mentions.in_operand m.0.0.0) (mentions.in_operand m.0.1) x.2 y.2,
    )
expr-said s (a ∷ op ∷ b ∷ c ∷ ws) e h = absurd cc
