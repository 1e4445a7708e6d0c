use Rattle.phase_records.proofs.LinesTaken.{record_taken}
use Rattle.phase_records.proofs.report.push_record.Goals as goal

pub returns : goal.returns
returns g c =
    record_taken _ _ _ _ _ _ c.args.counts c.push_field.ensures c.push_field-2.ensures c.push_field-3.ensures c.push_field-4.ensures
    c.put.ensures
