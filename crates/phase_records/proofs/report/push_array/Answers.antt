use Rattle.phase_records.proofs.LinesTaken.{array_taken}
use Rattle.phase_records.proofs.report.push_array.Goals as goal

pub returns : goal.returns
returns g c =
    array_taken _ _ _ _ _ c.args.name.now c.args.cells.now c.put.ensures (rw c.as_bytes.ensures.value at c.put-2.ensures)
    c.push_cells.ensures c.put-3.ensures
