use Rattle.text_lines.proofs.LinesLemmas.{line_split}
use Rattle.text_lines.proofs.split.split_line.Goals as goal

pub returns-then-byte-eq10-clause-lines : goal.returns-then-byte-eq10-clause-lines
returns-then-byte-eq10-clause-lines c =
    line_split _ _ _ _ c.loop-i.i c.loop-i-test.true c.loop-i.invariant c.if-byte-eq10.true c.split_at.ensures.front c.split_at.ensures.back
    c.split_at-then-byte-eq10.ensures.back
