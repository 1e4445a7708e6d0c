use Rattle.std.proofs.Common.{Some, None, rules}
use Rattle.job_reader.proofs.CellLemmas.{cell-closes, cell-split, cell-none}
use Rattle.job_reader.proofs.exprs.cell_parts.Goals as goal

pub returns-then-byte-eq93 : goal.returns-then-byte-eq93
returns-then-byte-eq93 c = cell-closes _ c.loop-i.i c.loop-i-test.true c.loop-i.invariant c.if-byte-eq93.true

pub returns-then-byte-eq91 : goal.returns-then-byte-eq91
returns-then-byte-eq91 c =
    cell-split _ _ _ _ c.loop-i.i (Some c.in_ok-index.index.now) c.loop-i-test.true c.loop-i.invariant c.if-byte-eq91.true
    c.split_at.ensures.front c.split_at.ensures.back c.split_at-then-byte-eq91.ensures.back c.in_ok-index.ensures

pub returns-in_err-index : goal.returns-in_err-index
returns-in_err-index c =
    let none = cell-split _ _ _ _ c.loop-i.i None c.loop-i-test.true c.loop-i.invariant c.if-byte-eq91.true
    c.split_at.ensures.front c.split_at.ensures.back c.split_at-then-byte-eq91.ensures.back c.in_err-index.ensures in search (rules, none)

pub returns : goal.returns
returns c = cell-none _ c.loop-i.i c.loop-i-test.false c.loop-i.invariant
