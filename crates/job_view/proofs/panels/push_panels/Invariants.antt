use Rattle.std.proofs.Common.{◌≡◌, ◌++◌, drop}
use Rattle.job_view.specs.Panels.{panels_from}
use Rattle.job_view.proofs.panels.push_panels.Given as goal

abbrev pub invariant-loop-panel : goal.invariant-loop-panel
invariant-loop-panel l = l.out.items ++ panels_from l.top (drop l.panel-index l.panels) ≡ l.fn.out.items ++ panels_from l.fn.top l.panels
