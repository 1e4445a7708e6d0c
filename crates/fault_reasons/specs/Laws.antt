-- What a walk says of a segment, and the end of a job of its supersteps (own).
use Rattle.std.specs.Prelude.{◌≡◌, ℕ, true, List, length, Some}
use Rattle.phase_records.specs.ReportValue.{ReportValue}
use Rattle.phase_records.specs.Status.{Status, Ended, Fault, Limit}
use Rattle.step_core.specs.JobMeaning.{report_of}
use Rattle.step_core.specs.Program.{program_of}
use Rattle.task_code.specs.JobValue.{JobValue}
use Rattle.step_core.specs.OrderValue.{is_synced}
use Rattle.task_code.specs.Reading.{IsMatched, tree_of}
use Rattle.task_code.specs.Tree.{rest_at}
use Rattle.task_code.specs.declared.code.Line.{Line}
use Rattle.task_lang.specs.Meaning.{Doing, Segment, Setting, faulted, run}
use Rattle.programs.specs.Meaning.{Stopped}
use Rattle.fault_reasons.specs.Begun.{GetsTo}
use Rattle.fault_reasons.specs.Done.{Done}
use Rattle.fault_reasons.specs.Walk.{walked}
use Rattle.fault_reasons.specs.declared.walk.End.{End}
use Rattle.fault_reasons.specs.declared.walk.End.TheVariants as end

-- what a segment has done so far, as far as it matters where it ends
abbrev pub done_of : Doing → Done
done_of x = record { locals = x.locals; puts = x.puts; spawned = length x.spawns }

-- a segment that made these puts and spawned so many tasks
abbrev pub HasDone : Done → Segment → Type 0
HasDone d g = (g.puts ≡ d.puts) × (length g.spawns ≡ d.spawned)

-- a walk that ends so is that of a segment which leaves this
abbrev pub IsOf : End × Done → Segment → Type 0
IsOf (end.Fault f place, d) g = g ≡ faulted f
IsOf (end.Stopped, d) g = (g.after ≡ Stopped) × HasDone d g
IsOf (end.Synced, d) g = (is_synced g.after ≡ true) × HasDone d g

-- From each place of a body, with whatever is left of the budget, a walk ends as the segment does: by the same fault, or by a sync
-- or a stop, with the same puts and as many spawns.
abbrev pub WalksAreSegments : Type 0
WalksAreSegments =
    (s : Setting) (code : List Line) (n place : ℕ) (x : Doing) → IsMatched code
    → IsOf (walked s code n place (done_of x)) (run s n (rest_at (tree_of code) place) x)

-- the superstep that a job's end names is one that the job gets to
abbrev pub IsReached : JobValue → Status → Type 0
IsReached j (Ended step) = Unit {0}
IsReached j (Fault code step path) = GetsTo j step
IsReached j (Limit step) = GetsTo j step

abbrev pub EndsAreReached : Type 0
EndsAreReached = (j : JobValue) (limit : ℕ) (r : ReportValue) → report_of (program_of j) limit ≡ Some r → IsReached j r.status
