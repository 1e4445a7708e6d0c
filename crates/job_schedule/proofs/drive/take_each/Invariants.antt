use Rattle.std.proofs.Common.{◌≡◌, ◌++◌, map, drop}
use Rattle.job_schedule.specs.AnswerValue.{answer_seen}
use Rattle.job_schedule.specs.Parts.{IsKept, IsReached, world_of}
use Rattle.job_schedule.specs.World.{answers}
use Rattle.job_schedule.proofs.drive.take_each.Given as goal

abbrev pub invariant-loop-step : goal.invariant-loop-step
invariant-loop-step l = record {
  replies : map answer_seen l.replies.items ++ answers (world_of l.schedule) (drop l.step-index l.steps) ≡ answers (world_of l.fn.schedule) l.fn.steps;
  reached : IsReached (world_of l.schedule);
  kept : IsKept l.schedule.round (world_of l.schedule);
}
