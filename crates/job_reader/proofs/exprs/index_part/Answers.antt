use Rattle.std.proofs.Common.{◌∙◌, sym, ap, Some}
use Rattle.job_reader.proofs.CellLemmas.{index-opens, index-goes-on, index-closes, index-none}
use Rattle.job_reader.proofs.exprs.index_part.Goals as goal

pub returns-then-byte-eq91 : goal.returns-then-byte-eq91
returns-then-byte-eq91 c = index-opens _ c.loop-i.i c.loop-i-test.true c.loop-i.invariant c.if-byte-eq91.true

pub returns-then-i-rest : goal.returns-then-i-rest
returns-then-i-rest c = index-goes-on _ c.loop-i.i c.if-i-rest.true c.loop-i.invariant c.if-byte-eq93.true

pub returns-then-byte-eq93 : goal.returns-then-byte-eq93
returns-then-byte-eq93 c =
    index-closes _ c.loop-i.i c.loop-i-test.true c.if-i-rest.false c.loop-i.invariant c.if-byte-eq93.true
    ∙ ap Some (sym c.split_at.ensures.front)

pub returns : goal.returns
returns c = index-none _ c.loop-i.i c.loop-i-test.false c.loop-i.invariant
