-- The digits of the numbers from 1 to 64.
use Rattle.std.proofs.Common.{◌≡◌, ℕ, ◌+◌, ◌*◌, ◌/◌, ◌%◌, ◌<◌, ◌≤◌, List, [], ◌∷◌, ◌++◌, length, get_or, refl, sym, ap, ◌∙◌, subst, arith, inl, inr}
use Rattle.std.proofs.lemmas.Bool.{cases_lt}
use Rattle.std.proofs.lemmas.Fmt.{decimal_digit, decimal_step}
use Rattle.std.specs.Fmt.{decimal}
use Rattle.tier_shape.specs.Widths.{IsWidth}

pub one_digit : (n : ℕ) → n < 10 → decimal n ≡ (48 + n) ∷ []
one_digit n small = decimal_digit n small

pub two_digits : (n : ℕ) → 10 ≤ n → n < 100 → decimal n ≡ (48 + n / 10) ∷ (48 + n % 10) ∷ []
two_digits n low high =
    let tens : n / 10 < 10 = omega arith in
    decimal_step n low (omega arith) ∙ ap (λ ds. ds ++ ((48 + n % 10) ∷ [])) (decimal_digit (n / 10) tens)

-- the digits of a width: one or two, without a leading zero
pub record IsDigits (width : ℕ) (ds : List ℕ) : Type 0 where
  pub some : 0 < length ds
  pub short : length ds ≤ 2
  pub first : 49 ≤ get_or ds 0 0
  pub high : get_or ds 0 0 ≤ 57
  pub one : length ds < 2 → get_or ds 0 0 ≡ 48 + width
  pub low : 1 < length ds → 48 ≤ get_or ds 1 0
  pub small : 1 < length ds → get_or ds 1 0 ≤ 57
  pub two : 1 < length ds → 10 * get_or ds 0 0 + get_or ds 1 0 ≡ 528 + width

digits_of_width : (width : ℕ) → IsWidth width → IsDigits width (decimal width)
digits_of_width width is = elim (cases_lt width 10) [
  | inl small ↦ subst (IsDigits width) (sym (one_digit width small)) (record {
    some = omega arith;
    short = omega arith;
    first = omega arith;
    high = omega arith;
    one = λ h. refl;
    low = λ h. absurd (omega arith);
    small = λ h. absurd (omega arith);
    two = λ h. absurd (omega arith);
  })
  | inr more ↦ subst (IsDigits width) (sym (two_digits width more (omega arith))) (record {
    some = omega arith;
    short = omega arith;
    first = omega arith;
    high = omega arith;
    one = λ h. absurd (omega arith);
    low = λ h. omega arith;
    small = λ h. omega arith;
    two = λ h. omega arith;
  })
]

pub width_digits : (width : ℕ) (ds : List ℕ) → IsWidth width → decimal width ≡ ds → IsDigits width ds
width_digits width ds is same = subst (IsDigits width) same (digits_of_width width is)

-- and these digits are the width's
pub reads_one : (ds : List ℕ) (width : ℕ) → length ds ≡ 1 → get_or ds 0 0 ≡ 48 + width → width < 10 → decimal width ≡ ds
reads_one [] width long first small = absurd (omega arith)
reads_one (a ∷ []) width long first small = one_digit width small ∙ ap (λ d. d ∷ []) (sym first)
reads_one (a ∷ b ∷ ds) width long first small = absurd (omega arith)

pub reads_two : (ds : List ℕ) (tens ones : ℕ) → length ds ≡ 2 → get_or ds 0 0 ≡ 48 + tens → get_or ds 1 0 ≡ 48 + ones → 0 < tens → tens < 10
    → ones < 10 → decimal (tens * 10 + ones) ≡ ds
reads_two [] tens ones long first second some small low = absurd (omega arith)
reads_two (a ∷ []) tens ones long first second some small low = absurd (omega arith)
reads_two (a ∷ b ∷ []) tens ones long first second some small low =
    let t : 48 + (tens * 10 + ones) / 10 ≡ a = omega arith in
    let o : 48 + (tens * 10 + ones) % 10 ≡ b = omega arith in
    two_digits (tens * 10 + ones) (omega arith) (omega arith) ∙ ap (λ d. d ∷ (48 + (tens * 10 + ones) % 10) ∷ []) t ∙ ap (λ d. a ∷ d ∷ []) o
reads_two (a ∷ b ∷ d ∷ ds) tens ones long first second some small low = absurd (omega arith)
