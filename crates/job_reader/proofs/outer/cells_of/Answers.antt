use Rattle.std.proofs.Common.{rules, ◌∙◌, sym}
use Rattle.text_lines.specs.Text.{words_of}
use Rattle.job_reader.proofs.OuterRefused.{cells-said, cells-failed}
use Rattle.job_reader.proofs.outer.cells_of.Goals as goal

pub returns-in_err-len : goal.returns-in_err-len
returns-in_err-len c =
    let refused =
    cells-failed c.args.len.now (words_of c.args.values.now) c.numbered.result c.all_numbered.result _ c.numbered.ensures.number
    c.all_numbered.ensures
    (sym c.joined.ensures ∙ c.in_err-len.was) in
    search (rules, refused)

pub returns : goal.returns
returns c =
    cells-said c.args.len.now (words_of c.args.values.now) c.numbered.result c.all_numbered.result (c.in_ok-len.len, c.in_ok-len.values) _
    c.numbered.ensures.number c.numbered.ensures.fits
    c.all_numbered.ensures (sym c.in_ok-len.ensures) c.filled.ensures
