-- A line that fits its names may be written by them.
use Rattle.std.proofs.Common.{◌≡◌, ℕ, ◌<◌, true, false, List, [], ◌∷◌, length, Some, refl, ap}
use Rattle.std.specs.Prelude.{not, nat_lt}
use Rattle.std.proofs.lemmas.Bool.{ltb-true}
use Rattle.task_code.specs.Names.{are_names}
use Rattle.task_code.specs.Mentions as mentions
use Rattle.task_code.specs.Limits.{is_operand, is_expr, is_action, fits_index, fits_operand, fits_expr, fits_action, fits_line}
use Rattle.task_code.specs.Tree.{Block}
use Rattle.task_code.specs.Open.{Frame, InIf, InElse, InWhile, step_of}
use Rattle.task_code.specs.declared.code.Index.{Index}
use Rattle.task_code.specs.declared.code.Index.TheVariants as index
use Rattle.task_code.specs.declared.code.Operand.{Operand}
use Rattle.task_code.specs.declared.code.Operand.TheVariants as operand
use Rattle.task_code.specs.declared.code.Expr.{Expr}
use Rattle.task_code.specs.declared.code.Expr.TheVariants.{One, Two}
use Rattle.task_code.specs.declared.code.Action.{Action}
use Rattle.task_code.specs.declared.code.Action.TheVariants as action
use Rattle.task_code.specs.declared.code.Line.{Line}
use Rattle.task_code.specs.declared.code.Line.TheVariants as line
use Rattle.superstep_memory.specs.declared.arrays.PutKind.TheVariants.{Set, Add}
use Rattle.job_reader.specs.Words.{Word}
use Rattle.job_reader.specs.Exprs.{Names}
use Rattle.job_reader.specs.Lines.{line_words, line_names, line_fits}
use Rattle.job_reader.proofs.GrowLemmas.{and-left, and-right, all-left, all-right}
use Rattle.job_reader.proofs.WrittenExprs.{IndexIs, OperandIs, ExprIs}
use Rattle.job_reader.proofs.WrittenLines.{ActionIs, LineIs}
use Rattle.job_reader.specs.Above.{can_else}
use Rattle.job_reader.specs.Reading.{is_missing}
use Rattle.text_laws.proofs.Known.{are_below, name-among}
use Rattle.text_lines.proofs.NumbersLemmas.{fits as number-fits}

pub below : (i n : ℕ) → nat_lt i n ≡ true → i < n
below i n e = ltb-true i n e

index-is : (locals : List Word) (i : Index) → fits_index i ≡ true → are_below (length locals) (mentions.in_index i) ≡ true
    → IndexIs locals i
index-is locals (index.Number n) f e = number-fits n f
index-is locals (index.Local i) f e = below i (length locals) (and-left (nat_lt i (length locals)) true e)
index-is locals index.Arg f e = tt
index-is locals index.Step f e = tt

operand-is : (s : Names) (o : Operand) → fits_operand o ≡ true → is_operand (length s.arrays) o ≡ true
    → are_below (length s.locals) (mentions.in_operand o) ≡ true
    → OperandIs s o
operand-is s (operand.Plain i) f n e = index-is s.locals i f e
operand-is s (operand.Cell c) f n e = (below c.array (length s.arrays) n, index-is s.locals c.index f e)

expr-is : (s : Names) (x : Expr) → fits_expr x ≡ true → is_expr (length s.arrays) x ≡ true
    → are_below (length s.locals) (mentions.in_expr x) ≡ true
    → ExprIs s x
expr-is s (One a) f n e = operand-is s a f n e
expr-is s (Two a op b) f n e =
    let k : ℕ = length s.locals in (
      operand-is s a (and-left (fits_operand a) (fits_operand b) f)
          (and-left (is_operand (length s.arrays) a) (is_operand (length s.arrays) b) n)
          (all-left (λ i. nat_lt i k) (mentions.in_operand a) (mentions.in_operand b) e),
      operand-is s b (and-right (fits_operand a) (fits_operand b) f)
          (and-right (is_operand (length s.arrays) a) (is_operand (length s.arrays) b) n)
          (all-right (λ i. nat_lt i k) (mentions.in_operand a) (mentions.in_operand b) e),
    )

action-is : (s : Names) (a : Action) → fits_action a ≡ true → is_action (length s.arrays) (length s.bodies) a ≡ true
    → are_below (length s.locals) (mentions.in_action a) ≡ true
    → ActionIs s a
action-is s (action.Let i x) f n e =
    let k : ℕ = length s.locals in (
      below i k (and-left (nat_lt i k) (are_below k (mentions.in_expr x)) e),
      expr-is s x f n (and-right (nat_lt i k) (are_below k (mentions.in_expr x)) e),
    )
action-is s (action.Put kind c x) f n e =
    let k : ℕ = length s.locals in
    let a : ℕ = length s.arrays in (
      (
        below c.array a (and-left (nat_lt c.array a) (is_expr a x) n),
        index-is s.locals c.index (and-left (fits_index c.index) (fits_expr x) f)
            (all-left (λ i. nat_lt i k) (mentions.in_index c.index) (mentions.in_expr x) e),
      ),
      expr-is s x (and-right (fits_index c.index) (fits_expr x) f) (and-right (nat_lt c.array a) (is_expr a x) n)
          (all-right (λ i. nat_lt i k) (mentions.in_index c.index) (mentions.in_expr x) e),
    )
action-is s (action.Print x) f n e = expr-is s x f n e
action-is s (action.Spawn b x) f n e =
    let m : ℕ = length s.bodies in (
      below b m (and-left (nat_lt b m) (is_expr (length s.arrays) x) n),
      expr-is s x f (and-right (nat_lt b m) (is_expr (length s.arrays) x) n) e,
    )
action-is s action.Sync f n e = tt
action-is s action.Stop f n e = tt

-- an `else` is allowed if it is taken
else-fits : (n : ℕ) (fs : List Frame) (b : Block) (s : List Frame × Block) → step_of (line.Else n) fs b ≡ Some s → can_else fs ≡ true
else-fits n [] b s e = absurd cc
else-fits n (InIf x y ∷ fs) b s e = refl
else-fits n (InElse x y z ∷ fs) b s e = absurd cc
else-fits n (InWhile x y ∷ fs) b s e = absurd cc

names-left : (s : Names) (l : Line) → line_fits s l ≡ true → line_names (length s.arrays) (length s.bodies) l ≡ true
names-left s l h = and-left (line_names (length s.arrays) (length s.bodies) l) (are_below (length s.locals) (mentions.in_line l)) h

pub locals-below : (s : Names) (l : Line) → line_fits s l ≡ true → are_below (length s.locals) (mentions.in_line l) ≡ true
locals-below s l h = and-right (line_names (length s.arrays) (length s.bodies) l) (are_below (length s.locals) (mentions.in_line l)) h

-- a line that is taken fits
pub line-is : (s : Names) (l : Line) (fs : List Frame) (b : Block) (st : List Frame × Block) → fits_line l ≡ true → line_fits s l ≡ true
    → step_of l fs b ≡ Some st
    → LineIs s (can_else fs) l
line-is s (line.Do a) fs b st f h e = action-is s a f (names-left s (line.Do a) h) (locals-below s (line.Do a) h)
line-is s (line.If x n) fs b st f h e = expr-is s x f (names-left s (line.If x n) h) (locals-below s (line.If x n) h)
line-is s (line.Else n) fs b st f h e = else-fits n fs b st e
line-is s line.EndIf fs b st f h e = tt
line-is s (line.While x n) fs b st f h e = expr-is s x f (names-left s (line.While x n) h) (locals-below s (line.While x n) h)
line-is s (line.EndWhile x n) fs b st f h e = tt

-- the bodies that a line names are there
action-found : (s : Names) (a : Action) → are_names s.bodies ≡ true → is_action (length s.arrays) (length s.bodies) a ≡ true
    → is_missing s.bodies (line_words s (line.Do a)) ≡ false
action-found s (action.Let i x) g h = refl
action-found s (action.Put Set c x) g h = refl
action-found s (action.Put Add c x) g h = refl
action-found s (action.Print (One a)) g h = refl
action-found s (action.Print (Two a op b)) g h = refl
action-found s (action.Spawn b x) g h =
    ap not (name-among s.bodies b g (below b (length s.bodies) (and-left (nat_lt b (length s.bodies)) (is_expr (length s.arrays) x) h)))
action-found s action.Sync g h = refl
action-found s action.Stop g h = refl

pub line-found : (s : Names) (l : Line) → are_names s.bodies ≡ true → line_fits s l ≡ true → is_missing s.bodies (line_words s l) ≡ false
line-found s (line.Do a) g h = action-found s a g (names-left s (line.Do a) h)
line-found s (line.If (One a) n) g h = refl
line-found s (line.If (Two a op b) n) g h = refl
line-found s (line.Else n) g h = refl
line-found s line.EndIf g h = refl
line-found s (line.While (One a) n) g h = refl
line-found s (line.While (Two a op b) n) g h = refl
line-found s (line.EndWhile x n) g h = refl
