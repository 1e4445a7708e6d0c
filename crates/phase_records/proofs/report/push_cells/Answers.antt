use Rattle.std.proofs.Common.{◌∙◌, ap, List, rules}
use Rattle.std.specs.Prelude.{ℤ}
use Rattle.std.specs.List.{flat_map}
use Rattle.std.proofs.lemmas.List.Concat.{flat_map-cons}
use Rattle.phase_records.specs.Taken.{Took}
use Rattle.phase_records.specs.ReportText.{cell_text}
use Rattle.phase_records.proofs.TakenProofs.{front_none, front_more}
use Rattle.phase_records.proofs.report.push_cells.Goals as goal

pub loop-cell-init : goal.loop-cell-init
loop-cell-init g c = front_none _ _

pub loop-cell-preserved : goal.loop-cell-preserved
loop-cell-preserved g c =
    let cell : Took (g.S.Sink.seen c.loop-cell.out) (g.S.Sink.seen c.push_cell.new.out) (cell_text c.in-Some.cell.now) =
    search (rules, c.push_cell.ensures) in
    front_more _ _ _ _ (cell_text c.in-Some.cell.now) _ _ c.loop-cell.invariant cell
    (ap (λ (vs : List ℤ). flat_map cell_text vs) c.in-Some.ensures.cases.0 ∙ flat_map-cons cell_text c.in-Some.cell.now c.in-Some.after.now)
