use Rattle.phase_records.proofs.ReportLawProofs.{each-step-has-its-prints}
use Rattle.phase_records.proofs.laws.each_step_has_its_prints.Goals as goal

pub returns : goal.returns
returns c = each-step-has-its-prints
