-- The places of a round's slots, as they are gone through.
use Rattle.std.proofs.Common.{◌≡◌, ℕ, zero, suc, ◌+◌, ◌<◌, false, List, [], ◌∷◌, length, Some, slice_get, drop, add-one, sym, ap, ◌∙◌, subst, arith}
use Rattle.std.specs.Prelude.{◌||◌}
use Rattle.std.specs.Str.{bytes_eq}
use Rattle.step_core.specs.SlotParts.{IsPlaceOf, IsPath}
use Rattle.step_core.specs.SlotValue.{SlotValue}
use Rattle.step_core.specs.Taking.{is_live}

pub there_below : (ss : List SlotValue) (p : ℕ) (s : SlotValue) → slice_get ss p ≡ Some s → p < length ss
there_below [] p s h = cc
there_below (x ∷ xs) zero s h = omega arith
there_below (x ∷ xs) (suc p) s h = let l = there_below xs p s h in omega (arith, l)

-- the slot in front of what is left
pub slot_left : (ss rest after : List SlotValue) (p : ℕ) (s : SlotValue) → rest ≡ drop p ss → rest ≡ s ∷ after → slice_get ss p ≡ Some s
slot_left ss rest after p s d e = by ss p (sym d ∙ e)
  where
    by : (ss : List SlotValue) (p : ℕ) → drop p ss ≡ s ∷ after → slice_get ss p ≡ Some s
    by [] zero h = cc
    by [] (suc p) h = cc
    by (x ∷ xs) zero h = cc
    by (x ∷ xs) (suc p) h = by xs p h

pub rest_left : (ss rest after : List SlotValue) (p : ℕ) (s : SlotValue) → rest ≡ drop p ss → rest ≡ s ∷ after → after ≡ drop (p + 1) ss
rest_left ss rest after p s d e = by ss p (sym d ∙ e) ∙ ap (λ (k : ℕ). drop k ss) (sym (add-one p))
  where
    by : (ss : List SlotValue) (p : ℕ) → drop p ss ≡ s ∷ after → after ≡ drop (suc p) ss
    by [] zero h = cc
    by [] (suc p) h = cc
    by (x ∷ xs) zero h = cc
    by (x ∷ xs) (suc p) h = by xs p h

-- it is counted
pub rest_below : (ss rest after : List SlotValue) (p : ℕ) (s : SlotValue) → rest ≡ s ∷ after → p + length rest ≡ length ss → p < length ss
rest_below ss rest after p s e h = let l : length rest ≡ suc (length after) = ap length e in omega (arith, l, h)

pub rest_count : (ss rest after : List SlotValue) (p : ℕ) (s : SlotValue) → rest ≡ s ∷ after → p + length rest ≡ length ss
    → (p + 1) + length after ≡ length ss
rest_count ss rest after p s e h = let l : length rest ≡ suc (length after) = ap length e in omega (arith, l, h)

pub is_place : (ss : List SlotValue) (path : List ℕ) (p : ℕ) (s : SlotValue) → p < length ss → slice_get ss p ≡ Some s → s.task.path ≡ path
    → IsPlaceOf ss path p
is_place ss path p s lt at e = record { below = lt; path = subst (IsPath path) (sym at) e }

pub live_left : (rest after : List SlotValue) (path : List ℕ) (s : SlotValue) → rest ≡ s ∷ after → bytes_eq s.task.path path ≡ false
    → is_live rest path ≡ is_live after path
live_left rest after path s e h = ap (λ ss. is_live ss path) e ∙ ap (λ b. b || is_live after path) h
