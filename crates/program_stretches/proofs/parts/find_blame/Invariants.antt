use Rattle.std.proofs.Common.{◌≡◌, ◌-◌, length, drop}
use Rattle.programs.specs.InPlace.{maker}
use Rattle.program_stretches.specs.Parts.{EachDid, settled_at, tasks_in, deeds_in}
use Rattle.program_stretches.proofs.parts.find_blame.Given as goal

abbrev pub invariant-loop-place : goal.invariant-loop-place
invariant-loop-place g l = record {
  each : EachDid (drop l.place l.parts);
  same : maker g.T.OnPath.path_of (tasks_in (drop l.place l.parts)) (deeds_in (drop l.place l.parts)) l.left
      ≡ maker g.T.OnPath.path_of (tasks_in l.fn.parts) (deeds_in l.fn.parts) l.fn.place;
  at : settled_at (drop l.place l.parts) l.left ≡ settled_at l.fn.parts l.fn.place;
}

abbrev pub decreases-loop-place : goal.decreases-loop-place
decreases-loop-place g l = length l.parts - l.place
