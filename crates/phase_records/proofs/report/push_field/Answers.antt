use Rattle.phase_records.proofs.TakenProofs.{took_then}
use Rattle.phase_records.proofs.report.push_field.Goals as goal

pub returns : goal.returns
returns g c = took_then _ _ _ _ _ c.put.ensures c.push_number.ensures
