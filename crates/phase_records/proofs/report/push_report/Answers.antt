use Rattle.phase_records.specs.Taken.{Took}
use Rattle.phase_records.specs.ReportText.{steps_text}
use Rattle.phase_records.proofs.TakenProofs.{took_then}
use Rattle.phase_records.proofs.report.push_report.Goals as goal

pub returns : goal.returns
returns g c =
    let r = c.report.inside in
    let steps : Took (g.S.Sink.seen c.args.out.now) (g.S.Sink.seen c.push_steps.new.out) (steps_text r.prints.items r.records.items) =
    rw (c.deref.ensures.value, c.deref-2.ensures.value) at c.push_steps.ensures in
    rw (← c.report.view_is) (took_then _ _ _ _ _ (took_then _ _ _ _ _ steps c.push_arrays.ensures) c.push_status.ensures)
