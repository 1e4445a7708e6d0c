use Rattle.std.proofs.Common.{◌≡◌, ◌≤◌, ◌-◌, [], length}
use Rattle.programs.proofs.Ranged.{IsRanging}
use Rattle.programs.proofs.in_place.do_range.Given as goal

abbrev pub invariant-loop-place : goal.invariant-loop-place
invariant-loop-place g l = record {
  ranging : IsRanging (g.P.Program.frame l.scene.program.now) (g.P.Program.may l.scene.program.now) (g.P.Program.meant l.scene.program.now)
      g.P.Task.OnPath.path_of
      l.scene.arrays.now l.scene.step l.first l.place l.fn.work.puts l.work.puts l.fn.tasks.items l.tasks.items l.fn.deeds l.deeds
      l.fn.prints.items l.prints.items;
  count : length l.tasks.items ≡ length l.fn.tasks.items;
  below : l.place ≤ l.end;
  logged : l.logged ≡ length l.work.puts;
  prints : l.work.prints.items ≡ [];
  spawns : l.work.spawns.items ≡ [];
}

abbrev pub decreases-loop-place : goal.decreases-loop-place
decreases-loop-place g l = l.end - l.place
