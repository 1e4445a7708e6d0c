-- A run whose supersteps are given (own).
use Rattle.std.specs.Prelude.{◌≡◌, ◌⊎◌, ℕ, ℤ, pos, Bool, false, ◌||◌, nat_lt, List, [], ◌++◌, map, length, Option, Some, None, IsSome}
use Rattle.phase_records.specs.PrintValue.{PrintValue}
use Rattle.phase_records.specs.ReportText.{report_text}
use Rattle.phase_records.specs.Status.{Status, Ended, Fault, Limit}
use Rattle.programs.specs.Meaning.{Segment}
use Rattle.programs.specs.Steps.{StepsValue, IsRunning, HasStepped, begun, ended, left_by}
use Rattle.task_bodies.specs.Bodies.{MemberValue, BodyMay, member_frame, numbered, are_too_many}
use Rattle.bsp_steps.specs.declared.given.ArrayGiven.{ArrayGiven}
use Rattle.bsp_steps.specs.declared.given.Deed.{Deed}
use Rattle.bsp_steps.specs.declared.given.Origin.{Origin}
use Rattle.bsp_steps.specs.Given.{array_given, Fit, given_of, placed_from, start_origins}

abbrev pub RunValue : Type 0
RunValue = StepsValue (MemberValue Origin)

-- each live task with the place that it has now
abbrev pub placed : RunValue → RunValue
placed v = record v { tasks = placed_from 0 v.tasks }

-- a run that has printed this before
abbrev pub after_prints : List PrintValue → RunValue → RunValue
after_prints before v = record v { prints = before ++ v.prints }

-- a task leaves exactly what was given for it
abbrev pub AsGiven : List Deed → MemberValue Origin → List (List ℕ × List ℤ) → ℕ → Segment (MemberValue Origin) → Type 0
AsGiven deeds t arrays step g = BodyMay (λ path seen n k o. o ≡ given_of deeds k) t arrays step g

-- these may not be start tasks: more than may live, or than a path's first number counts; or more may live than 2147483647
abbrev pub refused_starts : ℕ → ℕ → Bool
refused_starts starts most = nat_lt 2147483647 most || are_too_many most starts

-- a run of these arrays and of so many start tasks, of which no superstep was taken
abbrev pub fresh : List ArrayGiven → ℕ → ℕ → ℕ → RunValue
fresh arrays starts most limit = begun (map array_given arrays) (numbered [] 0 (start_origins 0 starts)) most limit

-- the status of a run that goes on (0), or has ended (1), by a fault (2) or at its limit (3)
abbrev pub closing : Option Status → ℤ
closing None = pos 0
closing (Some (Ended steps)) = pos 1
closing (Some (Fault code step path)) = pos 2
closing (Some (Limit steps)) = pos 3

-- a superstep was taken, in which each task left what was given for it; or memory ran out (6), and nothing was changed
abbrev pub Takes : RunValue → RunValue → List Deed → ℤ → Type 0
Takes v w deeds status =
    ((status ≡ closing (ended w)) × HasStepped member_frame (AsGiven deeds) (λ t. t) (placed v) w)
    ⊎ ((status ≡ pos 6) × (w ≡ v))

-- the run was over (12); what was given doesn't fit the live tasks (11); or a superstep was taken. No run is left that can't go on.
pub record IsClosed (v w : RunValue) (deeds : List Deed) (status : ℤ) : Type 0 where
  pub over : IsSome (ended v) → (status ≡ pos 12) × (w ≡ v)
  pub unfit : IsRunning v → (Fit deeds (length v.tasks) → ⊥) → (status ≡ pos 11) × (w ≡ v)
  pub taken : IsRunning v → Fit deeds (length v.tasks) → Takes v w deeds status
  pub sound : (v.failed ≡ false) × (w.failed ≡ false)

-- the text of the report of a run that has ended so
abbrev pub text_by : RunValue → Option Status → Option (List ℕ)
text_by v None = None
text_by v (Some s) = Some (report_text (left_by v s))
