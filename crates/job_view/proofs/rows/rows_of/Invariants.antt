use Rattle.std.proofs.Common.{◌≡◌, ◌-◌, ◌≤◌}
use Rattle.step_core.specs.Program.{program_of}
use Rattle.job_view.specs.Rows.{rows}
use Rattle.job_view.proofs.Steps.{IsAt}
use Rattle.job_view.proofs.rows.rows_of.Given as goal

abbrev pub invariant-loop-done : goal.invariant-loop-done
invariant-loop-done l = record {
  values : l.values.items ≡ rows (program_of l.job) l.limit l.name l.every l.done;
  at : IsAt l.job l.limit l.every (l.done - 1) l.run;
  some : 1 ≤ l.done;
  within : l.done ≤ l.count;
}

abbrev pub decreases-loop-done : goal.decreases-loop-done
decreases-loop-done l = l.count - l.done
