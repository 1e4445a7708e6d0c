use Rattle.std.proofs.Common.{◌≡◌, ◌∙◌, ap, sym, refl}
use Rattle.phase_records.specs.PrintValue.{PrintValue}
use Rattle.phase_records.specs.ReportText.{print_line}
use Rattle.phase_records.proofs.TakenProofs.{front_none, front_more}
use Rattle.phase_records.proofs.LinesTaken.{lines_next, others_next}
use Rattle.phase_records.proofs.report.push_prints.Goals as goal

pub loop-print-init : goal.loop-print-init
loop-print-init g c = record { lines = front_none _ _; others = refl }

pub loop-print-preserved : goal.loop-print-preserved
loop-print-preserved g c =
    let p = c.in-Some.print.now in
    let step : p.step ≡ c.args.step = ap (λ (v : PrintValue). v.step) (sym c.print.view_is) ∙ c.if-print-step.false in
    record {
      lines = front_more _ _ _ _ (print_line p) _ _ c.loop-print.invariant.lines c.push_print.ensures
          (lines_next c.args.step p c.in-Some.after.now c.loop-print.rest.now c.in-Some.ensures.cases.0 step);
      others =
          sym (others_next c.args.step p c.in-Some.after.now c.loop-print.rest.now c.in-Some.ensures.cases.0 step)
          ∙ c.loop-print.invariant.others;
    }
