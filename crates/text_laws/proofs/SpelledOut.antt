-- Which bytes and names there are, and which fault of a line counts.
use Rattle.std.proofs.Common.{◌≡◌, ◌↔◌, ◌⊎◌, inl, inr, ⊎_elim, ℕ, ◌≤◌, Bool, true, false, ◌&&◌, ◌||◌, nat_le, ◌==◌, List, [], ◌∷◌, refl, ◌∙◌, arith}
use Rattle.std.proofs.lemmas.Grind.{common_steps}
use Rattle.std.specs.List.{list_any}
use Rattle.std.specs.Str.{bytes_eq}
use Rattle.task_code.specs.Names as names
use Rattle.task_code.specs.Names.{is_lower, is_digit, is_in_name, is_reserved}
use Rattle.text_lines.specs.Text.{is_allowed}
use Rattle.text_laws.specs.WorkedNames.{IsFrom, words}
use Rattle.job_reader.proofs.WrittenExprs.{or-true as or_right}
use Rattle.job_reader.proofs.NotedNames.{or-true-left as or_left}

pub from_to : (a b c : ℕ) → ((nat_le a c && nat_le c b) ≡ true) ↔ IsFrom a b c
from_to a b c = (
  λ e. (let low : a ≤ c = grind (arith, common_steps) in let high : c ≤ b = grind (arith, common_steps) in (low, high)),
  λ h. (let low : a ≤ c = h.0 in let high : c ≤ b = h.1 in grind (arith, common_steps)),
)

or_either : (a b : Bool) → (a || b) ≡ true → (a ≡ true) ⊎ (b ≡ true)
or_either true b e = inl refl
or_either false b e = inr e

equal : (a b : ℕ) → (a == b) ≡ true → a ≡ b
equal a b e = grind (arith, common_steps)

same : (a b : ℕ) → a ≡ b → (a == b) ≡ true
same a b e = grind (arith, common_steps)

pub allowed : (c : ℕ) → (is_allowed c ≡ true) ↔ ((c ≡ 10) ⊎ IsFrom 32 126 c)
allowed c = (
  λ e. ⊎_elim (λ h. inl (equal c 10 h)) (λ h. inr ((from_to 32 126 c).0 h)) (or_either (c == 10) (nat_le 32 c && nat_le c 126) e),
  ⊎_elim (λ h. or_left (c == 10) (nat_le 32 c && nat_le c 126) (same c 10 h))
      (λ h. or_right (c == 10) (nat_le 32 c && nat_le c 126) ((from_to 32 126 c).1 h)),
)

pub skipped : (c : ℕ) → ((c == 35) ≡ true) ↔ (c ≡ 35)
skipped c = (equal c 35, same c 35)

pub meant_as_number : (c : ℕ) → (((c == 45) || (nat_le 48 c && nat_le c 57)) ≡ true) ↔ ((c ≡ 45) ⊎ IsFrom 48 57 c)
meant_as_number c = (
  λ e. ⊎_elim (λ h. inl (equal c 45 h)) (λ h. inr ((from_to 48 57 c).0 h)) (or_either (c == 45) (nat_le 48 c && nat_le c 57) e),
  ⊎_elim (λ h. or_left (c == 45) (nat_le 48 c && nat_le c 57) (same c 45 h))
      (λ h. or_right (c == 45) (nat_le 48 c && nat_le c 57) ((from_to 48 57 c).1 h)),
)

pub in_name : (c : ℕ) → (is_in_name c ≡ true) ↔ (IsFrom 97 122 c ⊎ (IsFrom 48 57 c ⊎ (c ≡ 95)))
in_name c = (
  λ e. ⊎_elim
      (λ h. ⊎_elim (λ k. inl ((from_to 97 122 c).0 k)) (λ k. inr (inl ((from_to 48 57 c).0 k))) (or_either (is_lower c) (is_digit c) h))
      (λ h. inr (inr (equal c 95 h)))
      (or_either (is_lower c || is_digit c) (c == 95) e),
  ⊎_elim (λ h. or_left (is_lower c || is_digit c) (c == 95) (or_left (is_lower c) (is_digit c) ((from_to 97 122 c).1 h)))
      (⊎_elim (λ h. or_left (is_lower c || is_digit c) (c == 95) (or_right (is_lower c) (is_digit c) ((from_to 48 57 c).1 h)))
      (λ h. or_right (is_lower c || is_digit c) (c == 95) (same c 95 h))),
)

or_nothing : (b : Bool) → b ≡ (b || false)
or_nothing true = refl
or_nothing false = refl

or_three : (a b c : Bool) → ((a || b) || c) ≡ (a || (b || c))
or_three true b c = refl
or_three false b c = refl

-- a word is one of these, or this holds
abbrev one_of : Bool → List (List ℕ) → List ℕ → Bool
one_of b [] w = b
one_of b (x ∷ xs) w = one_of (b || bytes_eq w x) xs w

is_one_of : (b : Bool) (xs : List (List ℕ)) (w : List ℕ) → one_of b xs w ≡ (b || list_any (bytes_eq w) xs)
is_one_of b [] w = or_nothing b
is_one_of b (x ∷ xs) w = is_one_of (b || bytes_eq w x) xs w ∙ or_three b (bytes_eq w x) (list_any (bytes_eq w) xs)

pub reserved : (w : List ℕ) → is_reserved w ≡ list_any (bytes_eq w) words
unfolding names.is_reserved
reserved w = is_one_of false words w
