-- What each operator gives, in plain words and worked out (own; that `/` rounds to 0 and `%` has the sign of the left number is C's, 1999).
use Rattle.std.specs.Prelude.{◌≡◌, ◌≢◌, ◌↔◌, ◌<◌, ◌<ℤ◌, ◌≤ℤ◌, ℤ, pos, negsuc, ◌+ℤ◌, ◌*ℤ◌, unsigned_abs, FitsSigned, Ok, Err}
use Rattle.std.specs.Int.{w64}
use Rattle.task_code.specs.declared.code.Operator.TheVariants.{
  Add,
  Subtract,
  Multiply,
  Divide,
  Remainder,
  Below,
  AtMost,
  Equal,
  NotEqual,
}
use Rattle.task_lang.specs.declared.fault.Fault.TheVariants.{Overflow, DivideByZero}
use Rattle.task_lang.specs.Meaning.{applied}

-- x is q times y plus r; r is less than y, and has the sign of x or is 0
pub record IsDivided (x y q r : ℤ) : Type 0 where
  pub whole : q *ℤ y +ℤ r ≡ x
  pub less : unsigned_abs r < unsigned_abs y
  pub above : pos 0 ≤ℤ x → pos 0 ≤ℤ r
  pub below : x <ℤ pos 0 → r ≤ℤ pos 0

-- Of numbers of 64 signed bits a sum, a difference, a product and a quotient is what it is if it has 64 signed bits. A
-- comparison is 1 if it holds.
pub record OperatorsAreArithmetic : Type 0 where
  pub sums : (x y : ℤ) → FitsSigned w64 (x +ℤ y) → applied Add x y ≡ Ok (x +ℤ y)
  pub differences : (x y z : ℤ) → z +ℤ y ≡ x → FitsSigned w64 z → applied Subtract x y ≡ Ok z
  pub products : (x y : ℤ) → FitsSigned w64 (x *ℤ y) → applied Multiply x y ≡ Ok (x *ℤ y)
  pub quotients : (x y q : ℤ) → applied Divide x y ≡ Ok q → (r : ℤ) × IsDivided x y q r
  pub remainders : (x y r : ℤ) → applied Remainder x y ≡ Ok r → (q : ℤ) × IsDivided x y q r
  pub below : (x y : ℤ) → (applied Below x y ≡ Ok (pos 1)) ↔ (x <ℤ y)
  pub at_most : (x y : ℤ) → (applied AtMost x y ≡ Ok (pos 1)) ↔ (x ≤ℤ y)
  pub equal : (x y : ℤ) → (applied Equal x y ≡ Ok (pos 1)) ↔ (x ≡ y)
  pub not_equal : (x y : ℤ) → (applied NotEqual x y ≡ Ok (pos 1)) ↔ (x ≢ y)

-- the greatest and the least number of 64 signed bits
abbrev pub most : ℤ
most = pos 9223372036854775807

abbrev pub least : ℤ
least = negsuc 9223372036854775807

pub record OperatorsAreWorkedOut : Type 0 where
  pub sum : applied Add (pos 6) (negsuc 6) ≡ Ok (negsuc 0)
  pub sum_over : applied Add most (pos 1) ≡ Err Overflow
  pub difference : applied Subtract (pos 6) (pos 7) ≡ Ok (negsuc 0)
  pub difference_over : applied Subtract least (pos 1) ≡ Err Overflow
  pub product : applied Multiply (pos 6) (pos 7) ≡ Ok (pos 42)
  pub product_below : applied Multiply (negsuc 5) (pos 7) ≡ Ok (negsuc 41)
  pub product_above : applied Multiply (negsuc 5) (negsuc 6) ≡ Ok (pos 42)
  pub product_over : applied Multiply most (pos 2) ≡ Err Overflow
  -- rounded to 0, on both sides of it
  pub quotient : applied Divide (pos 7) (pos 2) ≡ Ok (pos 3)
  pub quotient_left : applied Divide (negsuc 6) (pos 2) ≡ Ok (negsuc 2)
  pub quotient_right : applied Divide (pos 7) (negsuc 1) ≡ Ok (negsuc 2)
  pub quotient_both : applied Divide (negsuc 6) (negsuc 1) ≡ Ok (pos 3)
  pub quotient_none : applied Divide (pos 7) (pos 0) ≡ Err DivideByZero
  pub quotient_over : applied Divide least (negsuc 0) ≡ Err Overflow
  -- with the sign of the left number
  pub remainder : applied Remainder (pos 7) (pos 2) ≡ Ok (pos 1)
  pub remainder_left : applied Remainder (negsuc 6) (pos 2) ≡ Ok (negsuc 0)
  pub remainder_right : applied Remainder (pos 7) (negsuc 1) ≡ Ok (pos 1)
  pub remainder_none : applied Remainder (pos 7) (pos 0) ≡ Err DivideByZero
  pub remainder_over : applied Remainder least (negsuc 0) ≡ Err Overflow
  pub below : applied Below (negsuc 0) (pos 0) ≡ Ok (pos 1)
  pub not_below : applied Below (pos 0) (pos 0) ≡ Ok (pos 0)
  pub at_most : applied AtMost (pos 0) (pos 0) ≡ Ok (pos 1)
  pub above : applied AtMost (pos 1) (pos 0) ≡ Ok (pos 0)
  pub equal : applied Equal (pos 7) (pos 7) ≡ Ok (pos 1)
  pub unequal : applied Equal (pos 7) (negsuc 6) ≡ Ok (pos 0)
  pub other : applied NotEqual (pos 7) (negsuc 6) ≡ Ok (pos 1)
  pub same : applied NotEqual (pos 7) (pos 7) ≡ Ok (pos 0)
