use Rattle.std.proofs.Common.{◌≡◌, ◌<◌, length, map, drop}
use Rattle.job_schedule.specs.Parts.{path_items, world_of}
use Rattle.job_schedule.specs.World.{with_children}
use Rattle.job_schedule.proofs.schedule.Schedule.add_children.Given as goal

abbrev pub invariant-loop-path : goal.invariant-loop-path
invariant-loop-path l = record {
  children : with_children (world_of l.self) l.place (map path_items (drop l.path-index l.paths))
      ≡ with_children (world_of l.fn.self) l.place (map path_items l.fn.paths);
  place : l.place < length l.self.participants.items;
  round : l.self.round ≡ l.fn.self.round;
}
