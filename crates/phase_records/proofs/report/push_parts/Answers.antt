use Rattle.phase_records.proofs.TakenProofs.{took_then}
use Rattle.phase_records.proofs.report.push_parts.Goals as goal

pub returns : goal.returns
returns g c = took_then _ _ _ _ _ (took_then _ _ _ _ _ c.push_steps.ensures c.push_arrays.ensures) c.push_status.ensures
