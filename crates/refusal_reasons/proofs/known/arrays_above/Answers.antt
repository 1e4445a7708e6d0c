use Rattle.std.proofs.Common.{◌<◌, arith}
use Rattle.text_lines.specs.Text.{lines_of}
use Rattle.job_reader.specs.Views.{lent}
use Rattle.refusal_reasons.proofs.Noted.{arrays-noted}
use Rattle.refusal_reasons.proofs.known.arrays_above.Goals as goal

pub loop-line-preserved : goal.loop-line-preserved
loop-line-preserved c =
    let more : 1 < c.loop-line.left = omega (arith, c.if-left-le1.false) in
    arrays-noted c.loop-line.left (lent c.loop-line.names.items) (lent c.note_array.new.names.items) _ c.in-Some.line.now
    (lines_of c.in-Some.after.now) (lines_of c.loop-line.rest.now) more
    c.in-Some.ensures.lines c.in_ok-note_array.ensures c.loop-line.invariant
