-- The paths of live tasks rise.
use Rattle.std.proofs.Common.{◌≡◌, true, ap, ◌∙◌}
use Rattle.superstep_memory.specs.Paths.{is_rising}
use Rattle.programs.proofs.Apart as program
use Rattle.step_core.specs.Program.{program_of}
use Rattle.step_core.specs.Superstep.{State, live_paths, job_says}
use Rattle.step_core.specs.JobMeaning.{starts}
use Rattle.step_core.specs.RoundValue.{RoundValue, IsRound, state_of}
use Rattle.step_core.proofs.Formed.{numbers, stays}
use Rattle.step_core.proofs.Starts.{starts_begin}
use Rattle.step_core.specs.Laws.{LivePathsRise}

pub live-paths-rise : LivePathsRise
live-paths-rise p limit k =
    program.live-paths-rise (job_says p.plans) (numbers p.plans) (stays p.plans) p.arrays (starts p) limit k (starts_begin p)

pub reached_rises : (r : RoundValue) → IsRound r → is_rising (live_paths (state_of r)) ≡ true
reached_rises r h = ap (λ (x : State). is_rising (live_paths x)) h.reached.1 ∙ live-paths-rise (program_of r.job) r.limit h.reached.0
