-- The path from a tier up to the root, step by step.
use Rattle.std.proofs.Common.{◌≡◌, ℕ, zero, suc, ◌+◌, ◌-◌, ◌<◌, ◌≤◌, ◌==◌, List, [], ◌∷◌, length, ◌++◌, append_assoc, get_or, refl, sym, ap, subst, ◌∙◌, arith, add-one, false}
use Rattle.tier_shape.specs.Parents.{parent_of, IsShape}
use Rattle.tier_shape.specs.Paths.{path_within, path_of, IsPathUp}

pub path_at_root : (steps : ℕ) (ps : List ℕ) → path_within steps ps 0 ≡ 0 ∷ []
path_at_root zero ps = refl
path_at_root (suc steps) ps = refl

pub path_above : (steps : ℕ) (ps : List ℕ) (tier : ℕ) → 0 < tier
    → path_within (suc steps) ps tier ≡ tier ∷ path_within steps ps (parent_of ps tier)
path_above steps ps tier some = let e : (tier == 0) ≡ false = grind arith in rw e refl

-- more steps than the tier's number change nothing
pub steps_enough : (n m : ℕ) (ps : List ℕ) (tier : ℕ) → IsShape ps → tier < length ps → tier ≤ n → tier ≤ m
    → path_within n ps tier ≡ path_within m ps tier
steps_enough n m ps zero shape within a b = path_at_root n ps ∙ sym (path_at_root m ps)
steps_enough zero m ps (suc t) shape within a b = absurd (omega arith)
steps_enough (suc n) zero ps (suc t) shape within a b = absurd (omega arith)
steps_enough (suc n) (suc m) ps (suc t) shape within a b =
    let below : parent_of ps (suc t) < suc t = shape.earlier (suc t) (omega arith) within in
    path_above n ps (suc t) (omega arith)
    ∙ ap (λ p. suc t ∷ p) (steps_enough n m ps (parent_of ps (suc t)) shape (omega arith) (omega arith) (omega arith))
    ∙ sym (path_above m ps (suc t) (omega arith))

-- the path of a tier below the root is the tier and its parent's path
pub path_goes : (ps : List ℕ) (tier : ℕ) → IsShape ps → tier < length ps → 0 < tier
    → path_of ps tier ≡ tier ∷ path_of ps (parent_of ps tier)
path_goes ps zero shape within some = absurd (omega arith)
path_goes ps (suc t) shape within some =
    let below : parent_of ps (suc t) < suc t = shape.earlier (suc t) some within in
    path_above t ps (suc t) some
    ∙ ap (λ p. suc t ∷ p) (steps_enough t (parent_of ps (suc t)) ps (parent_of ps (suc t)) shape (omega arith) (omega arith) (omega arith))

pub length-path : (ps : List ℕ) (tier : ℕ) → IsShape ps → tier < length ps → 0 < tier
    → length (path_of ps tier) ≡ length (path_of ps (parent_of ps tier)) + 1
length-path ps tier shape within some = let e = ap length (path_goes ps tier shape within some) in omega (arith, e)

-- a step of a loop that collects a path
pub way_more : (items before up here whole : List ℕ) (at : ℕ) → items ≡ before ++ (at ∷ []) → before ++ here ≡ whole → here ≡ at ∷ up
    → items ++ up ≡ whole
way_more items before up here whole at pushed so_far goes =
    ap (λ l. l ++ up) pushed ∙ append_assoc before (at ∷ []) up ∙ ap (λ l. before ++ l) (sym goes) ∙ so_far

-- a tier before a way up from its parent
path_cons : (ps : List ℕ) (tier : ℕ) (rest : List ℕ) → parent_of ps tier < tier → IsPathUp ps (parent_of ps tier) rest
    → IsPathUp ps tier (tier ∷ rest)
path_cons ps tier rest below up = record {
  some = omega arith;
  first = refl;
  parent = next;
  falls = lower;
  last = end;
} where
  next : (place : ℕ) → place + 1 < length (tier ∷ rest) → get_or (tier ∷ rest) (place + 1) 0 ≡ parent_of ps (get_or (tier ∷ rest) place 0)
  next zero h = up.first
  next (suc k) h = rw (add-one, ← add-one k) (up.parent k (omega arith))

  lower : (place : ℕ) → place + 1 < length (tier ∷ rest) → get_or (tier ∷ rest) (place + 1) 0 < get_or (tier ∷ rest) place 0
  lower zero h = rw up.first below
  lower (suc k) h = rw (add-one, ← add-one k) (up.falls k (omega arith))

  end : get_or (tier ∷ rest) (length (tier ∷ rest) - 1) 0 ≡ 0
  end = let some = up.some in let e : length (tier ∷ rest) - 1 ≡ suc (length rest - 1) = omega arith in rw e up.last

pub goes_up : (n : ℕ) (ps : List ℕ) (tier : ℕ) → IsShape ps → tier < length ps → tier ≤ n → IsPathUp ps tier (path_of ps tier)
goes_up n ps zero shape within few = record {
  some = omega arith;
  first = refl;
  parent = λ k h. absurd (omega arith);
  falls = λ k h. absurd (omega arith);
  last = refl;
}
goes_up zero ps (suc t) shape within few = absurd (omega arith)
goes_up (suc n) ps (suc t) shape within few =
    let below : parent_of ps (suc t) < suc t = shape.earlier (suc t) (omega arith) within in
    let rest = goes_up n ps (parent_of ps (suc t)) shape (omega arith) (omega arith) in
    subst (IsPathUp ps (suc t)) (sym (path_goes ps (suc t) shape within (omega arith)))
    (path_cons ps (suc t) (path_of ps (parent_of ps (suc t))) below rest)
