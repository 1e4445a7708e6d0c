use Rattle.std.proofs.Common.{sym, ap, ◌∙◌, arith}
use Rattle.ghost_lists.proofs.Agreeing.{hears, compares}
use Rattle.ghost_lists.proofs.log.Writer.compare.Goals as goal

pub join_seat-requires : goal.join_seat-requires
join_seat-requires g c =
    let n = c.log.invariant.words in (
      ap (λ v. v.name) c.self.view_is ∙ c.requires.writer ∙ sym c.log.view_is,
      ap (λ v. v.name) c.snapshot.view_is ∙ c.requires.snapshot ∙ sym c.log.view_is,
      c.snapshot.invariant,
      omega (arith, n),
      hears _ _ _ _ c.self.invariant.first,
    )

pub load-requires : goal.load-requires
load-requires g c =
    let n = c.log.invariant.words in (
      c.join_seat.ensures.0 ∙ ap (λ v. v.name) c.self.view_is ∙ c.requires.writer ∙ sym c.log.view_is,
      omega (arith, n),
      compares _ _ _ (c.join_seat.ensures.1 ∙ c.self.invariant.first),
    )
