use Rattle.std.proofs.Common.{refl}
use Rattle.phase_records.proofs.TakenProofs.{may_wait, took_none}
use Rattle.phase_records.proofs.pieces.Pieces.keep.Goals as goal

pub returns-then-saturating_sub-bytes : goal.returns-then-saturating_sub-bytes
returns-then-saturating_sub-bytes g c = took_none _

pub returns : goal.returns
returns g c = may_wait _ _ c.args.bytes.now c.is_ok.result refl refl refl refl (rw c.is_ok.ensures.value c.extend_from_slice.ensures.items)
