use Rattle.std.proofs.Common.{◌≡◌, ◌++◌, drop}
use Rattle.phase_records.specs.ReportText.{path_text}
use Rattle.phase_records.proofs.ReportProofs.{points_text}
use Rattle.fault_reasons.proofs.task.push_path.Given as goal

abbrev pub invariant-loop-number : goal.invariant-loop-number
invariant-loop-number l = l.out.items ++ points_text (drop l.number-index l.rest) ≡ l.fn.out.items ++ path_text l.fn.path
