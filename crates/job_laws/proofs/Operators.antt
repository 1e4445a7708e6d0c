-- What each operator gives.
use Rattle.std.proofs.Common.{◌≡◌, ◌≢◌, ◌↔◌, ℕ, suc, ◌<◌, ◌<ℤ◌, ◌≤ℤ◌, Bool, true, false, not, if◌then◌else◌, ℤ, pos, negsuc, ◌+ℤ◌, ◌-ℤ◌, ◌*ℤ◌, neg_ℤ, ◌%◌, unsigned_abs, int_div, int_rem, int_lt, int_le, int_eq, FitsSigned, w64, Result, Ok, Err, refl, ap, ◌∙◌, subst, arith}
use Rattle.std.proofs.lemmas.Int.{ints, quot-rem, rem_below}
use Rattle.text_lines.specs.Number.{fits_i64}
use Rattle.text_lines.proofs.NumbersLemmas.{fits_back}
use Rattle.task_lang.specs.declared.fault.Fault.{Fault}
use Rattle.task_lang.specs.declared.fault.Fault.TheVariants.{Overflow, DivideByZero}
use Rattle.task_lang.specs.Meaning.{in_range, one_if}
use Rattle.job_laws.specs.WorkedOperators.{IsDivided, OperatorsAreArithmetic}

fitting : (z : ℤ) → FitsSigned w64 z → in_range z ≡ Ok z
fitting z f = (let fits : fits_i64 z ≡ true = fits_back z f in rw fits refl)

difference : (x y z : ℤ) → z +ℤ y ≡ x → FitsSigned w64 z → in_range (x -ℤ y) ≡ Ok z
difference x y z e f = let same : x -ℤ y ≡ z = omega (arith, ints, e) in ap in_range same ∙ fitting z f

ranged : (b : Bool) (z q : ℤ) → (if b then Ok z else Err Overflow) ≡ Ok q → z ≡ q
ranged true z q e = cc
ranged false z q e = absurd (let wrong : ◌≡◌ {A = Result ℤ Fault} (Err Overflow) (Ok q) = e in cc)

-- a number by which is divided isn't 0
divisor : (y : ℤ) → int_eq y (pos 0) ≡ false → 0 < unsigned_abs y
divisor y e = grind (arith, ints)

above : (x y : ℤ) → pos 0 ≤ℤ x → pos 0 ≤ℤ int_rem x y
above (pos a) y h = omega (arith, ints)
above (negsuc a) y h = absurd (omega (arith, ints, h))

under : (n : ℕ) → neg_ℤ (pos n) ≤ℤ pos 0
under n = omega (arith, ints)

below : (x y : ℤ) → x <ℤ pos 0 → int_rem x y ≤ℤ pos 0
below (pos a) y h = absurd (omega (arith, ints, h))
below (negsuc a) y h = under (suc a % unsigned_abs y)

divided : (x y : ℤ) → int_eq y (pos 0) ≡ false → IsDivided x y (int_div x y) (int_rem x y)
divided x y e = record { whole = quot-rem x y; less = rem_below x y (divisor y e); above = above x y; below = below x y }

quotient : (x y q : ℤ) (b : Bool) → int_eq y (pos 0) ≡ b → (if b then Err DivideByZero else in_range (int_div x y)) ≡ Ok q
    → (r : ℤ) × IsDivided x y q r
quotient x y q true e h = absurd (let wrong : ◌≡◌ {A = Result ℤ Fault} (Err DivideByZero) (Ok q) = h in cc)
quotient x y q false e h =
    (int_rem x y, subst (λ (p : ℤ). IsDivided x y p (int_rem x y)) (ranged (fits_i64 (int_div x y)) (int_div x y) q h) (divided x y e))

remainder : (x y r : ℤ) (b : Bool) → int_eq y (pos 0) ≡ b
    → (if b then Err DivideByZero else if fits_i64 (int_div x y) then Ok (int_rem x y) else Err Overflow) ≡ Ok r
    → (q : ℤ) × IsDivided x y q r
remainder x y r true e h = absurd (let wrong : ◌≡◌ {A = Result ℤ Fault} (Err DivideByZero) (Ok r) = h in cc)
remainder x y r false e h =
    (int_div x y, subst (λ (p : ℤ). IsDivided x y (int_div x y) p) (ranged (fits_i64 (int_div x y)) (int_rem x y) r h) (divided x y e))

one : (b : Bool) → (one_if b ≡ Ok (pos 1)) ↔ (b ≡ true)
one true = (λ e. refl, λ e. refl)
one false = (
  λ e. absurd
      (let bad : ◌≡◌ {A = Result ℤ Fault} (Ok (pos 0)) (Ok (pos 1)) = e in let wrong : pos 0 ≡ pos 1 = cc in omega (arith, ints, wrong)),
  λ e. absurd cc,
)

holds : (b : Bool) (P : Type 0) → (b ≡ true → P) → (P → b ≡ true) → (one_if b ≡ Ok (pos 1)) ↔ P
holds b P to from = (λ e. to ((one b).0 e), λ p. (one b).1 (from p))

flipped : (b : Bool) → not b ≡ true → b ≡ false
flipped false e = refl
flipped true e = absurd cc

unequal : (x y : ℤ) → not (int_eq x y) ≡ true → x ≢ y
unequal x y e same =
    (let off : int_eq x y ≡ false = flipped (int_eq x y) e in let on : int_eq x y ≡ true = grind (arith, ints) in absurd cc)

other : (x y : ℤ) → x ≢ y → not (int_eq x y) ≡ true
other x y h = by (int_eq x y) refl
  where
    by : (b : Bool) → int_eq x y ≡ b → not b ≡ true
    by true e = absurd (h (grind (arith, ints)))
    by false e = refl

pub arithmetic : OperatorsAreArithmetic
arithmetic = record {
  sums = λ x y f. fitting (x +ℤ y) f;
  differences = difference;
  products = λ x y f. fitting (x *ℤ y) f;
  quotients = λ x y q. quotient x y q (int_eq y (pos 0)) refl;
  remainders = λ x y r. remainder x y r (int_eq y (pos 0)) refl;
  below = λ x y. holds (int_lt x y) (x <ℤ y) (λ e. grind (arith, ints)) (λ h. grind (arith, ints));
  at_most = λ x y. holds (int_le x y) (x ≤ℤ y) (λ e. grind (arith, ints)) (λ h. grind (arith, ints));
  equal = λ x y. holds (int_eq x y) (x ≡ y) (λ e. grind (arith, ints)) (λ h. grind (arith, ints));
  not_equal = λ x y. holds (not (int_eq x y)) (x ≢ y) (unequal x y) (other x y);
}
