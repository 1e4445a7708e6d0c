use Rattle.std.proofs.Common.{◌∙◌, sym}
use Rattle.phase_records.proofs.TakenProofs.{front_none, front_more, front_failed, took_then}
use Rattle.phase_records.proofs.LinesTaken.{steps_next}
use Rattle.phase_records.proofs.report.push_steps.Goals as goal

pub loop-counts-init : goal.loop-counts-init
loop-counts-init g c = front_none _ _

pub returns-then-has_failed : goal.returns-then-has_failed
returns-then-has_failed g c = front_failed _ _ _ _ c.loop-counts.invariant (sym c.has_failed.ensures ∙ c.if-has_failed.true)

pub loop-counts-preserved : goal.loop-counts-preserved
loop-counts-preserved g c =
    front_more _ _ _ _ _ _ _ c.loop-counts.invariant (took_then _ _ _ _ _ c.push_prints-prints.ensures.lines c.push_record.ensures)
    (steps_next c.loop-counts.prints.now c.push_prints-prints.result.now c.in-Some.counts.now c.in-Some.after.now c.loop-counts.rest.now c.in-Some.ensures.cases.0 c.push_prints-prints.ensures.others)
