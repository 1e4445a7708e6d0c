use Rattle.std.proofs.Common.{◌≡◌, ◌+◌, drop}
use Rattle.job_view.specs.Panels.{height_of}
use Rattle.job_view.proofs.panels.whole_height.Given as goal

abbrev pub invariant-loop-panel : goal.invariant-loop-panel
invariant-loop-panel l = l.high + height_of (drop l.panel-index l.panels) ≡ 320 + height_of l.panels
