use Rattle.std.proofs.Common.{◌≡◌, ◌++◌, rules, w64, to_z, of_z}
use Rattle.std.specs.Prelude.{codes}
use Rattle.phase_records.specs.ReportText.{path_text, cell_text}
use Rattle.phase_records.specs.Taken.{Took}
use Rattle.phase_records.proofs.LinesTaken.{print_taken}
use Rattle.phase_records.proofs.report.push_print.Goals as goal

pub returns : goal.returns
returns g c =
    let path : Took (g.S.Sink.seen c.push_field.new.out) (g.S.Sink.seen c.push_path_behind.new.out)
    (codes " " ++ path_text c.print.inside.path.items) =
    search (rules, c.push_path_behind.ensures, c.as_slice.ensures) in
    let same : to_z w64 (of_z w64 c.print.inside.value) ≡ c.print.inside.value = search rules in
    let value : Took (g.S.Sink.seen c.push_path_behind.new.out) (g.S.Sink.seen c.push_cell.new.out) (cell_text c.print.inside.value) =
    rw same at c.push_cell.ensures in
    rw (← c.print.view_is) (print_taken _ _ _ _ _ _ c.push_field.ensures path value c.put.ensures)
