-- Written lines of a body are printed words, and none is skipped.
use Rattle.std.proofs.Common.{◌≡◌, ℕ, suc, ◌<◌, ◌≤◌, ◌^◌, true, ◌&&◌, List, [], ◌∷◌, ◌++◌, length, ℤ, pos, negsuc, FitsSigned, w64, refl, ◌∙◌, arith}
use Rattle.std.specs.Prelude.{not, nat_le, nat_lt}
use Rattle.std.specs.List.{list_all}
use Rattle.std.specs.Fmt.{decimal, signed_decimal}
use Rattle.std.specs.Str.Parse.{AllDigits}
use Rattle.std.proofs.lemmas.Int.{ints}
use Rattle.std.proofs.lemmas.Bool.{ltb-true}
use Rattle.std.proofs.lemmas.Fmt.{decimal_is_IsNumeral}
use Rattle.std.proofs.lemmas.Str.Parse.{digit_from_value}
use Rattle.std.proofs.lemmas.Grind.{common_steps}
use Rattle.std.proofs.lemmas.List.Folds.{list_all-append}
use Rattle.task_code.specs.Names.{begins_lower, is_in_name, is_name, is_reserved, is_free, are_names}
use Rattle.task_code.specs.Limits.{is_operand, is_expr, is_action, fits_index, fits_operand, fits_expr, fits_action, fits_line}
use Rattle.task_code.specs.Mentions as mentions
use Rattle.task_code.specs.declared.code.Index.{Index}
use Rattle.task_code.specs.declared.code.Index.TheVariants as index
use Rattle.task_code.specs.declared.code.Cell.{Cell}
use Rattle.task_code.specs.declared.code.Operand.{Operand}
use Rattle.task_code.specs.declared.code.Operand.TheVariants as operand
use Rattle.task_code.specs.declared.code.Operator.{Operator}
use Rattle.task_code.specs.declared.code.Operator.TheVariants.{
  Add,
  Subtract,
  Multiply,
  Divide,
  Remainder,
  Below,
  AtMost,
  Equal,
  NotEqual,
}
use Rattle.task_code.specs.declared.code.Expr.{Expr}
use Rattle.task_code.specs.declared.code.Expr.TheVariants.{One, Two}
use Rattle.task_code.specs.declared.code.Action.{Action}
use Rattle.task_code.specs.declared.code.Action.TheVariants as action
use Rattle.task_code.specs.declared.code.Line.{Line}
use Rattle.task_code.specs.declared.code.Line.TheVariants as line
use Rattle.superstep_memory.specs.declared.arrays.PutKind.TheVariants.{Set, Add}
use Rattle.job_reader.specs.Words.{Word, name_at, index_word}
use Rattle.job_reader.specs.Exprs.{Names, cell_word, operand_word, operator_word, expr_words}
use Rattle.job_reader.specs.Lines.{line_words, line_fits, action_words}
use Rattle.job_reader.proofs.SaidLemmas.{and-true, AllBelow}
use Rattle.job_reader.proofs.GrowLemmas.{and-left, and-right, all-left, all-right}
use Rattle.job_reader.proofs.WrittenLemmas.{names-free}
use Rattle.job_reader.proofs.WrittenExprs.{IndexIs, AreGood, CellIs, OperandIs, ExprIs}
use Rattle.job_reader.proofs.WrittenLines.{ActionIs, LineIs}
use Rattle.text_laws.proofs.TextOfLines.{is_seen, is_printed, is_plain_line, printed-seen}
use Rattle.text_lines.proofs.NumbersLemmas.{fits as fits-signed}

name-seen : (c : ℕ) → is_in_name c ≡ true → is_seen c ≡ true
name-seen c e = grind (arith, common_steps)

names-seen : (w : Word) → list_all is_in_name w ≡ true → list_all is_seen w ≡ true
names-seen [] e = refl
names-seen (c ∷ cs) e = and-true _ _ (name-seen c (and-left _ (list_all is_in_name cs) e)) (names-seen cs (and-right (is_in_name c) _ e))

name-cases : (w : Word) → begins_lower w ≡ true → list_all is_in_name w ≡ true → is_printed w ≡ true
name-cases [] b e = absurd cc
name-cases (c ∷ cs) b e = names-seen (c ∷ cs) e

-- a name that may be used
pub name-printed : (w : Word) → is_free w ≡ true → is_printed w ≡ true
name-printed w e =
    let name : is_name w ≡ true = and-left _ (not (is_reserved w)) e in
    name-cases w (and-left (begins_lower w) _ (and-left (begins_lower w && nat_le (length w) 16) (list_all is_in_name w) name))
    (and-right (begins_lower w && nat_le (length w) 16) (list_all is_in_name w) name)

digit-seen : (c : ℕ) → (48 ≤ c) × (c ≤ 57) → is_seen c ≡ true
digit-seen c e = let low : 48 ≤ c = e.0 in let high : c ≤ 57 = e.1 in grind (arith, common_steps)

digits-seen : (ds : Word) → AllDigits 10 ds → list_all is_seen ds ≡ true
digits-seen [] e = refl
digits-seen (c ∷ cs) e = and-true _ _ (digit-seen c (digit_from_value c e.0)) (digits-seen cs e.1)

digits-printed : (ds : Word) → 0 < length ds → AllDigits 10 ds → is_printed ds ≡ true
digits-printed [] h e = absurd (omega arith)
digits-printed (c ∷ cs) h e = digits-seen (c ∷ cs) e

pub decimal-printed : (n : ℕ) → n < 2 ^ 64 → is_printed (decimal n) ≡ true
decimal-printed n h = let d = (decimal_is_IsNumeral n h).0 in digits-printed (decimal n) d.0 d.1

decimal-seen : (n : ℕ) → n < 2 ^ 64 → list_all is_seen (decimal n) ≡ true
decimal-seen n h = digits-seen (decimal n) (decimal_is_IsNumeral n h).0.1

-- a number of 64 bits
pub number-printed : (n : ℤ) → FitsSigned w64 n → is_printed (signed_decimal n) ≡ true
number-printed (pos n) h = let small : n < 2 ^ 64 = omega (arith, ints, h) in decimal-printed n small
number-printed (negsuc n) h = let small : suc n < 2 ^ 64 = omega (arith, ints, h) in decimal-seen (suc n) small

-- the numbers of a line fit, and what it names is there
index-is : (locals : List Word) (i : Index) → fits_index i ≡ true → list_all (λ k. nat_lt k (length locals)) (mentions.in_index i) ≡ true
    → IndexIs locals i
index-is locals (index.Number n) e h = fits-signed n e
index-is locals (index.Local i) e h = ltb-true i (length locals) (and-left _ true h)
index-is locals index.Arg e h = tt
index-is locals index.Step e h = tt

operand-is : (s : Names) (o : Operand) → is_operand (length s.arrays) o ≡ true → fits_operand o ≡ true → AllBelow s (mentions.in_operand o)
    → OperandIs s o
operand-is s (operand.Plain i) a e h = index-is s.locals i e h
operand-is s (operand.Cell c) a e h = (ltb-true c.array (length s.arrays) a, index-is s.locals c.index e h)

expr-is : (s : Names) (e : Expr) → is_expr (length s.arrays) e ≡ true → fits_expr e ≡ true → AllBelow s (mentions.in_expr e) → ExprIs s e
expr-is s (One a) x e h = operand-is s a x e h
expr-is s (Two a op b) x e h = (
  operand-is s a (and-left _ (is_operand (length s.arrays) b) x) (and-left _ (fits_operand b) e)
      (all-left _ (mentions.in_operand a) (mentions.in_operand b) h),
  operand-is s b (and-right (is_operand (length s.arrays) a) _ x) (and-right (fits_operand a) _ e)
      (all-right _ (mentions.in_operand a) (mentions.in_operand b) h),
)

action-is : (s : Names) (a : Action) → is_action (length s.arrays) (length s.bodies) a ≡ true → fits_action a ≡ true
    → AllBelow s (mentions.in_action a) → ActionIs s a
action-is s (action.Let i e) x f h = (
  ltb-true i (length s.locals)
      (and-left (nat_lt i (length s.locals)) true (all-left (λ (k : ℕ). nat_lt k (length s.locals)) (i ∷ []) (mentions.in_expr e) h)),
  expr-is s e x f (all-right _ (i ∷ []) (mentions.in_expr e) h),
)
action-is s (action.Put kind c e) x f h = (
  (
    ltb-true c.array (length s.arrays) (and-left _ (is_expr (length s.arrays) e) x),
    index-is s.locals c.index (and-left _ (fits_expr e) f) (all-left _ (mentions.in_index c.index) (mentions.in_expr e) h),
  ),
  expr-is s e (and-right (nat_lt c.array (length s.arrays)) _ x) (and-right (fits_index c.index) _ f)
      (all-right _ (mentions.in_index c.index) (mentions.in_expr e) h),
)
action-is s (action.Print e) x f h = expr-is s e x f h
action-is s (action.Spawn b e) x f h = (
  ltb-true b (length s.bodies) (and-left _ (is_expr (length s.arrays) e) x),
  expr-is s e (and-right (nat_lt b (length s.bodies)) _ x) f h,
)
action-is s action.Sync x f h = tt
action-is s action.Stop x f h = tt

pub line-is : (s : Names) (l : Line) → line_fits s l ≡ true → fits_line l ≡ true → LineIs s true l
line-is s (line.Do a) e f =
    action-is s a (and-left _ (list_all (λ i. nat_lt i (length s.locals)) (mentions.in_action a)) e) f
    (and-right (is_action (length s.arrays) (length s.bodies) a) _ e)
line-is s (line.If x n) e f =
    expr-is s x (and-left _ (list_all (λ i. nat_lt i (length s.locals)) (mentions.in_expr x)) e) f
    (and-right (is_expr (length s.arrays) x) _ e)
line-is s (line.Else n) e f = refl
line-is s line.EndIf e f = tt
line-is s (line.While x n) e f =
    expr-is s x (and-left _ (list_all (λ i. nat_lt i (length s.locals)) (mentions.in_expr x)) e) f
    (and-right (is_expr (length s.arrays) x) _ e)
line-is s (line.EndWhile x n) e f = tt

behind-printed : (p q : Word) → is_printed p ≡ true → list_all is_seen q ≡ true → is_printed (p ++ q) ≡ true
behind-printed [] q e f = absurd cc
behind-printed (c ∷ cs) q e f = list_all-append is_seen (c ∷ cs) q ∙ and-true _ _ e f

index-printed : (locals : List Word) (i : Index) → are_names locals ≡ true → IndexIs locals i → is_printed (index_word locals i) ≡ true
index-printed locals (index.Number n) g h = number-printed n h
index-printed locals (index.Local i) g h = name-printed (name_at locals i) (names-free locals i g h)
index-printed locals index.Arg g h = refl
index-printed locals index.Step g h = refl

cell-printed : (s : Names) (c : Cell) → AreGood s → CellIs s c → is_printed (cell_word s c) ≡ true
cell-printed s c g h =
    let i : is_printed (index_word s.locals c.index) ≡ true = index-printed s.locals c.index g.locals h.1 in
    let tail : list_all is_seen (index_word s.locals c.index ++ 93 ∷ []) ≡ true =
    list_all-append is_seen (index_word s.locals c.index) (93 ∷ []) ∙ and-true _ true (printed-seen (index_word s.locals c.index) i) refl in
    behind-printed (name_at s.arrays c.array) (91 ∷ (index_word s.locals c.index ++ 93 ∷ []))
    (name-printed (name_at s.arrays c.array) (names-free s.arrays c.array g.arrays h.0)) tail

operand-printed : (s : Names) (o : Operand) → AreGood s → OperandIs s o → is_printed (operand_word s o) ≡ true
operand-printed s (operand.Plain i) g h = index-printed s.locals i g.locals h
operand-printed s (operand.Cell c) g h = cell-printed s c g h

operator-printed : (op : Operator) → is_printed (operator_word op) ≡ true
operator-printed Add = refl
operator-printed Subtract = refl
operator-printed Multiply = refl
operator-printed Divide = refl
operator-printed Remainder = refl
operator-printed Below = refl
operator-printed AtMost = refl
operator-printed Equal = refl
operator-printed NotEqual = refl

expr-printed : (s : Names) (e : Expr) → AreGood s → ExprIs s e → list_all is_printed (expr_words s e) ≡ true
expr-printed s (One a) g h = and-true _ true (operand-printed s a g h) refl
expr-printed s (Two a op b) g h =
    and-true _ _ (operand-printed s a g h.0) (and-true _ _ (operator-printed op) (and-true _ true (operand-printed s b g h.1) refl))

action-plain : (s : Names) (a : Action) → AreGood s → ActionIs s a → is_plain_line (action_words s a) ≡ true
action-plain s (action.Let i e) g h =
    and-true _ _ (name-printed (name_at s.locals i) (names-free s.locals i g.locals h.0)) (expr-printed s e g h.1)
action-plain s (action.Put Set c e) g h = and-true _ _ (cell-printed s c g h.0) (expr-printed s e g h.1)
action-plain s (action.Put Add c e) g h = and-true _ _ (cell-printed s c g h.0) (expr-printed s e g h.1)
action-plain s (action.Print e) g h = expr-printed s e g h
action-plain s (action.Spawn b e) g h =
    and-true _ _ (name-printed (name_at s.bodies b) (names-free s.bodies b g.bodies h.0)) (expr-printed s e g h.1)
action-plain s action.Sync g h = refl
action-plain s action.Stop g h = refl

-- a line of a body
pub line-plain : (s : Names) (l : Line) → AreGood s → LineIs s true l → is_plain_line (line_words s l) ≡ true
line-plain s (line.Do a) g h = action-plain s a g h
line-plain s (line.If e n) g h = expr-printed s e g h
line-plain s (line.Else n) g h = refl
line-plain s line.EndIf g h = refl
line-plain s (line.While e n) g h = expr-printed s e g h
line-plain s (line.EndWhile e n) g h = refl
