-- Written expressions and lines are read as themselves.
use Rattle.std.proofs.Common.{◌≡◌, ℕ, suc, ◌<◌, ◌≤◌, ◌^◌, Bool, true, false, ◌&&◌, List, [], ◌∷◌, ◌++◌, length, Some, Result, Ok, ℤ, pos, negsuc, FitsSigned, w64, refl, ap, ◌∙◌, arith, nat_eq}
use Rattle.std.specs.Prelude.{if◌then◌else◌, not, ◌||◌, ◌==◌}
use Rattle.std.specs.List.{list_all}
use Rattle.std.specs.Option.{option_map}
use Rattle.std.specs.Fmt.{decimal, signed_decimal}
use Rattle.std.specs.Str.Parse.{AllDigits}
use Rattle.std.proofs.lemmas.Int.{ints}
use Rattle.std.proofs.lemmas.Fmt.{decimal_is_IsNumeral}
use Rattle.std.proofs.lemmas.Str.Parse.{digit_from_value}
use Rattle.std.proofs.lemmas.Grind.{common_steps}
use Rattle.text_lines.specs.declared.refusal.Code.{Code}
use Rattle.text_lines.proofs.NumbersLemmas.{numbers_law, number-begins}
use Rattle.task_code.specs.Names.{is_in_name, is_reserved, is_free, are_names}
use Rattle.task_code.specs.declared.code.Index.{Index}
use Rattle.task_code.specs.declared.code.Index.TheVariants as index
use Rattle.task_code.specs.declared.code.Cell.{Cell}
use Rattle.task_code.specs.declared.code.Operand.{Operand}
use Rattle.task_code.specs.declared.code.Operand.TheVariants as operand
use Rattle.task_code.specs.declared.code.Operator.{Operator}
use Rattle.task_code.specs.declared.code.Expr.{Expr}
use Rattle.task_code.specs.declared.code.Expr.TheVariants.{One, Two}
use Rattle.job_reader.specs.Faults.{both, made}
use Rattle.job_reader.specs.Words.{Word, begins_number, numbered, or_bad_number, name_at, index_word, index_of}
use Rattle.job_reader.specs.Exprs.{Names, index_part, cell_parts, cell_word, cell_at, cell_from, cell_of, has_bracket, operand_word, operand_of, operator_word, operator_of, expr_words, expr_of, two}
use Rattle.job_reader.proofs.SaidLemmas.{and-true}
use Rattle.job_reader.proofs.GrowLemmas.{and-left, and-right}
use Rattle.job_reader.proofs.WrittenLemmas.{names-free, declared-written, local-written, arg-written, step-written, operator-written, not-true}

-- no byte is a bracket
abbrev pub is_plain : Word → Bool
is_plain [] = true
is_plain (c ∷ cs) = not (c == 91) && not (c == 93) && is_plain cs

plain-index : (q : Word) → is_plain q ≡ true → index_part (q ++ 93 ∷ []) ≡ Some q
plain-index [] e = refl
plain-index (c ∷ cs) e =
    let a : nat_eq c 91 ≡ false = not-true _ (and-left _ _ (and-left _ (is_plain cs) e)) in
    let b : nat_eq c 93 ≡ false = not-true _ (and-right (not (c == 91)) _ (and-left _ (is_plain cs) e)) in
    rw (a, b) (ap (option_map (λ (i : Word). c ∷ i)) (plain-index cs (and-right (not (c == 91) && not (c == 93)) _ e)))

pub plain-cell : (p q : Word) → is_plain p ≡ true → is_plain q ≡ true → cell_parts (p ++ 91 ∷ (q ++ 93 ∷ [])) ≡ Some (p, q)
plain-cell [] q e f = ap (option_map {U = Word × Word} (λ (i : Word). ([], i))) (plain-index q f)
plain-cell (c ∷ cs) q e f =
    let a : nat_eq c 91 ≡ false = not-true _ (and-left _ _ (and-left _ (is_plain cs) e)) in
    let b : nat_eq c 93 ≡ false = not-true _ (and-right (not (c == 91)) _ (and-left _ (is_plain cs) e)) in
    rw (a, b)
    (ap (option_map {U = Word × Word} (λ (r : Word × Word). (c ∷ r.0, r.1))) (plain-cell cs q (and-right (not (c == 91) && not (c == 93)) _ e) f))

pub or-true : (a b : Bool) → b ≡ true → (a || b) ≡ true
or-true true b e = refl
or-true false b e = e

pub cell-bracket : (p q : Word) → has_bracket (p ++ 91 ∷ q) ≡ true
cell-bracket [] q = refl
cell-bracket (c ∷ cs) q = or-true (c == 91) _ (cell-bracket cs q)

pub plain-bracket : (w : Word) → is_plain w ≡ true → has_bracket w ≡ false
plain-bracket [] e = refl
plain-bracket (c ∷ cs) e =
    let a : nat_eq c 91 ≡ false = not-true _ (and-left _ _ (and-left _ (is_plain cs) e)) in
    rw a (plain-bracket cs (and-right (not (c == 91) && not (c == 93)) _ e))

name-byte : (c : ℕ) → is_in_name c ≡ true → (not (c == 91) && not (c == 93)) ≡ true
name-byte c e = grind (arith, common_steps)

name-bytes : (w : Word) → list_all is_in_name w ≡ true → is_plain w ≡ true
name-bytes [] e = refl
name-bytes (c ∷ cs) e = and-true _ _ (name-byte c (and-left _ (list_all is_in_name cs) e)) (name-bytes cs (and-right (is_in_name c) _ e))

pub name-plain : (w : Word) → is_free w ≡ true → is_plain w ≡ true
name-plain w e = name-bytes w (and-right _ (list_all is_in_name w) (and-left _ (not (is_reserved w)) e))

digit-plain : (c : ℕ) → (48 ≤ c) × (c ≤ 57) → (not (c == 91) && not (c == 93)) ≡ true
digit-plain c e = let low : 48 ≤ c = e.0 in let high : c ≤ 57 = e.1 in grind (arith, common_steps)

digits-plain : (ds : Word) → AllDigits 10 ds → is_plain ds ≡ true
digits-plain [] e = refl
digits-plain (c ∷ cs) e = and-true _ _ (digit-plain c (digit_from_value c e.0)) (digits-plain cs e.1)

decimal-plain : (n : ℕ) → n < 2 ^ 64 → is_plain (decimal n) ≡ true
decimal-plain n h = digits-plain (decimal n) (decimal_is_IsNumeral n h).0.1

pub number-plain : (n : ℤ) → FitsSigned w64 n → is_plain (signed_decimal n) ≡ true
number-plain (pos n) h = let small : n < 2 ^ 64 = omega (arith, ints, h) in decimal-plain n small
number-plain (negsuc n) h = let small : suc n < 2 ^ 64 = omega (arith, ints, h) in decimal-plain (suc n) small

pub number-written : (n : ℤ) → FitsSigned w64 n → numbered (signed_decimal n) ≡ Ok n
number-written n h = ap or_bad_number (numbers_law.0 n h)

number-index : (locals : List Word) (w : Word) (a : Bool) → begins_number w ≡ a → a ≡ true
    → index_of locals w ≡ made index.Number (numbered w)
unfolding index_of
number-index locals w a h x = rw (h ∙ x) refl

-- the numbers of an index are of 64 bits, and its local is there
abbrev pub IndexIs : List Word → Index → Type 0
IndexIs locals (index.Number n) = FitsSigned w64 n
IndexIs locals (index.Local i) = i < length locals
IndexIs locals index.Arg = Unit {0}
IndexIs locals index.Step = Unit {0}

pub index-written : (locals : List Word) (i : Index) → are_names locals ≡ true → IndexIs locals i
    → index_of locals (index_word locals i) ≡ Ok i
index-written locals (index.Number n) e h =
    number-index locals (signed_decimal n) (begins_number (signed_decimal n)) refl (number-begins n h)
    ∙ ap (made index.Number) (number-written n h)
index-written locals (index.Local i) e h = local-written locals i e h
index-written locals index.Arg e h = arg-written locals
index-written locals index.Step e h = step-written locals

pub index-plain : (locals : List Word) (i : Index) → are_names locals ≡ true → IndexIs locals i → is_plain (index_word locals i) ≡ true
index-plain locals (index.Number n) e h = number-plain n h
index-plain locals (index.Local i) e h = name-plain (name_at locals i) (names-free locals i e h)
index-plain locals index.Arg e h = refl
index-plain locals index.Step e h = refl

-- names that may be used, each once
pub record AreGood (s : Names) : Type 0 where
  pub arrays : are_names s.arrays ≡ true
  pub bodies : are_names s.bodies ≡ true
  pub locals : are_names s.locals ≡ true

abbrev pub CellIs : Names → Cell → Type 0
CellIs s c = (c.array < length s.arrays) × IndexIs s.locals c.index

pub cell-written : (s : Names) (c : Cell) → AreGood s → CellIs s c → cell_of s (cell_word s c) ≡ Ok c
unfolding cell_of
cell-written s c g h =
    let name : Word = name_at s.arrays c.array in
    let at : Word = index_word s.locals c.index in
    let parts : cell_parts (cell_word s c) ≡ Some (name, at) =
    plain-cell name at (name-plain name (names-free s.arrays c.array g.arrays h.0)) (index-plain s.locals c.index g.locals h.1) in
    ap (cell_from s) parts
    ∙ ap (λ (r : Result ℕ Code). made cell_at (both r (index_of s.locals at))) (declared-written s.arrays c.array g.arrays h.0)
    ∙ ap (λ (r : Result Index Code). made cell_at (both (Ok c.array) r)) (index-written s.locals c.index g.locals h.1)

abbrev pub OperandIs : Names → Operand → Type 0
OperandIs s (operand.Plain i) = IndexIs s.locals i
OperandIs s (operand.Cell c) = CellIs s c

operand-by : (s : Names) (w : Word) (a b : Bool) → has_bracket w ≡ a → a ≡ b
    → operand_of s w ≡ (if b then made operand.Cell (cell_of s w) else made operand.Plain (index_of s.locals w))
unfolding operand_of
operand-by s w a b h x = ap (λ (t : Bool). if t then made operand.Cell (cell_of s w) else made operand.Plain (index_of s.locals w)) (h ∙ x)

pub operand-written : (s : Names) (o : Operand) → AreGood s → OperandIs s o → operand_of s (operand_word s o) ≡ Ok o
operand-written s (operand.Plain i) g h =
    operand-by s (index_word s.locals i) _ false refl (plain-bracket (index_word s.locals i) (index-plain s.locals i g.locals h))
    ∙ ap (made operand.Plain) (index-written s.locals i g.locals h)
operand-written s (operand.Cell c) g h =
    operand-by s (cell_word s c) _ true refl (cell-bracket (name_at s.arrays c.array) (index_word s.locals c.index ++ 93 ∷ []))
    ∙ ap (made operand.Cell) (cell-written s c g h)

abbrev pub ExprIs : Names → Expr → Type 0
ExprIs s (One a) = OperandIs s a
ExprIs s (Two a op b) = OperandIs s a × OperandIs s b

-- a written expression has no fault, and says itself
pub expr-written : (s : Names) (e : Expr) → AreGood s → ExprIs s e → expr_of s (expr_words s e) ≡ Ok e
expr-written s (One a) g h = ap (made One) (operand-written s a g h)
expr-written s (Two a op b) g h =
    ap (λ (r : Result Operand Code). made two (both (both r (operator_of (operator_word op))) (operand_of s (operand_word s b))))
    (operand-written s a g h.0)
    ∙ ap (λ (r : Result Operator Code). made two (both (both (Ok a) r) (operand_of s (operand_word s b)))) (operator-written op)
    ∙ ap (λ (r : Result Operand Code). made two (both (Ok (a, op)) r)) (operand-written s b g h.1)
