use Rattle.std.proofs.Common.{◌≡◌, map, drop}
use Rattle.job_schedule.specs.Parts.{path_items, world_of}
use Rattle.job_schedule.specs.World.{with_starts}
use Rattle.job_schedule.proofs.schedule.Schedule.start_all.Given as goal

abbrev pub invariant-loop-path : goal.invariant-loop-path
invariant-loop-path l = record {
  starts : with_starts (world_of l.self) (map path_items (drop l.path-index l.paths)) ≡ with_starts (world_of l.fn.self) (map path_items l.fn.paths);
  round : l.self.round ≡ l.fn.self.round;
}
