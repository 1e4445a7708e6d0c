-- What a close means for each task (own).
use Rattle.std.specs.Prelude.{◌≡◌, ℕ, ℤ, List, slice_get}
use Rattle.std.specs.Option.{option_map}
use Rattle.programs.specs.Meaning.{Segment}
use Rattle.task_bodies.specs.Bodies.{MemberValue, framed}
use Rattle.bsp_steps.specs.declared.given.Deed.{Deed}
use Rattle.bsp_steps.specs.declared.given.Origin.{Origin}
use Rattle.bsp_steps.specs.Given.{placed_at, placed_from, given_of}
use Rattle.bsp_steps.specs.Runs.{AsGiven}

-- what was given for a task says all that it leaves
abbrev pub TasksLeaveWhatWasGiven : Type 0
TasksLeaveWhatWasGiven =
    (deeds : List Deed) (t : MemberValue Origin) (arrays : List (List ℕ × List ℤ)) (step : ℕ) (g : Segment (MemberValue Origin))
    → AsGiven deeds t arrays step g → g ≡ framed arrays t (given_of deeds t.kept)

-- each task has its deed at its place
abbrev pub EachTaskHasItsPlace : Type 0
EachTaskHasItsPlace =
    (tasks : List (MemberValue Origin)) (place : ℕ)
    → slice_get (placed_from 0 tasks) place ≡ option_map (placed_at place) (slice_get tasks place)
