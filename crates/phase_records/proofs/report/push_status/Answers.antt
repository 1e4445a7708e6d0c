use Rattle.std.specs.Prelude.{codes}
use Rattle.phase_records.proofs.TakenProofs.{took_then}
use Rattle.phase_records.proofs.LinesTaken.{fault_taken}
use Rattle.phase_records.proofs.report.push_status.Goals as goal
use Rattle.phase_records.proofs.report.push_status.Goals.{in-Ended, in-Fault, in-Limit}

pub returns : goal.returns
returns g c = elim c.match-status.branch [
  | in-Ended w ↦ rw w.in-Ended.is (took_then _ _ _ _ (codes "\n") (rw (← w.out-is) at w.push_field.ensures) c.put-2.ensures)
  | in-Fault w ↦ rw w.in-Fault.is
      (fault_taken _ _ _ _ _ _ w.in-Fault.code w.in-Fault.step w.in-Fault.path.items w.push_field-in-Fault.ensures
      w.push_field-in-Fault-2.ensures w.put.ensures (rw (← w.out-is, w.as_slice.ensures) at w.push_shown_path.ensures) c.put-2.ensures)
  | in-Limit w ↦ rw w.in-Limit.is (took_then _ _ _ _ (codes "\n") (rw (← w.out-is) at w.push_field-in-Limit.ensures) c.put-2.ensures)
]
