-- What a close means for each task.
use Rattle.std.proofs.Common.{◌≡◌, ℕ, zero, suc, ◌+◌, List, [], ◌∷◌, Some, ap, ◌∙◌, refl, arith}
use Rattle.std.specs.Prelude.{slice_get}
use Rattle.std.specs.Option.{option_map}
use Rattle.task_bodies.specs.Bodies.{MemberValue, framed}
use Rattle.bsp_steps.specs.declared.given.Origin.{Origin}
use Rattle.bsp_steps.specs.Given.{placed_at, placed_from}
use Rattle.bsp_steps.specs.Laws.{TasksLeaveWhatWasGiven, EachTaskHasItsPlace}

pub leave_what_was_given : TasksLeaveWhatWasGiven
leave_what_was_given deeds t arrays step g h = h.is ∙ ap (framed arrays t) h.allowed

place_from : (base place : ℕ) (tasks : List (MemberValue Origin))
    → slice_get (placed_from base tasks) place ≡ option_map (placed_at (base + place)) (slice_get tasks place)
place_from base place [] = refl
place_from base zero (t ∷ ts) = let at : base ≡ base + 0 = omega arith in λ i. Some (placed_at (at i) t)
place_from base (suc n) (t ∷ ts) =
    let at : suc base + n ≡ base + suc n = omega arith in
    place_from (suc base) n ts ∙ (λ i. option_map (placed_at (at i)) (slice_get ts n))

pub has_its_place : EachTaskHasItsPlace
has_its_place tasks place =
    let at : 0 + place ≡ place = omega arith in
    place_from 0 place tasks ∙ (λ i. option_map (placed_at (at i)) (slice_get tasks place))
