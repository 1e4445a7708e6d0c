use Rattle.std.proofs.Common.{[], refl}
use Rattle.phase_records.proofs.TakenProofs.{took_then, failed_more, wrote}
use Rattle.phase_records.proofs.pieces.Pieces.pass.Goals as goal

pub returns-then-not-self : goal.returns-then-not-self
returns-then-not-self g c =
    took_then _ _ _ _ _ c.flush.ensures.took
    (wrote c.write_all.result _ _ c.args.bytes.now c.flush.ensures.empty c.flush.ensures.empty c.if-not-self.true refl c.is_err-self.ensures.value
    c.write_all.ensures.ok c.write_all.ensures.err c.write_all.ensures.failures)

pub returns-else-not-self : goal.returns-else-not-self
returns-else-not-self g c = failed_more _ _ [] c.args.bytes.now c.flush.ensures.took c.if-not-self.false
