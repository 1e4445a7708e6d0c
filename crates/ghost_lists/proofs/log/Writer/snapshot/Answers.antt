use Rattle.std.proofs.Common.{sym, ap, ◌∙◌, arith}
use Rattle.ghost_lists.proofs.Agreeing.{copies}
use Rattle.ghost_lists.proofs.log.Writer.snapshot.Goals as goal

pub split_seat-seat-requires : goal.split_seat-seat-requires
split_seat-seat-requires g c =
    let n = c.log.invariant.words in (
      ap (λ v. v.name) c.self.view_is ∙ c.requires ∙ sym c.log.view_is,
      omega (arith, n),
      copies _ _ c.self.invariant.first,
    )
