use Rattle.phase_records.specs.ReportText.{array_line}
use Rattle.phase_records.proofs.ReportProofs.{arrays_next, arrays_end}
use Rattle.phase_records.proofs.TakenProofs.{front_none, front_more, front_same}
use Rattle.phase_records.proofs.report.push_arrays.Goals as goal
use Rattle.phase_records.proofs.report.push_arrays.Goals.{in-Some, in_default}

pub loop-place-init : goal.loop-place-init
loop-place-init g c = front_none _ _

pub loop-place-preserved : goal.loop-place-preserved
loop-place-preserved g c = elim c.match-get.branch [
  | in-Some w ↦
      rw w.out-is
      (front_more _ _ _ _ (array_line (w.in-Some.name.now, w.in-Some.cells.now)) _ _ c.loop-place.invariant w.push_array.ensures
      (arrays_next c.args.arrays.now c.loop-place.place (w.in-Some.name.now, w.in-Some.cells.now) w.in-Some.ensures.seen))
  | in_default w ↦
      rw w.out-is (front_same _ _ _ _ _ c.loop-place.invariant (arrays_end c.args.arrays.now c.loop-place.place w.in_default.ensures.seen))
]
