use Rattle.std.proofs.Common.{[]}
use Rattle.phase_records.proofs.TakenProofs.{took_then}
use Rattle.phase_records.proofs.pieces.PiecesSink.put.Goals as goal

pub returns-then-not-keep : goal.returns-then-not-keep
returns-then-not-keep g c =
    took_then _ _ _ [] c.args.bytes.now (rw c.if-keep.false at c.keep.ensures)
    (took_then _ _ _ [] c.args.bytes.now c.flush.ensures.took (took_then _ _ _ [] c.args.bytes.now (rw c.if-not-keep.true at c.keep-2.ensures) c.pass.ensures))

pub returns-else-not-keep : goal.returns-else-not-keep
returns-else-not-keep g c =
    took_then _ _ _ [] c.args.bytes.now (rw c.if-keep.false at c.keep.ensures)
    (took_then _ _ _ [] c.args.bytes.now c.flush.ensures.took (rw c.if-not-keep.false at c.keep-2.ensures))
