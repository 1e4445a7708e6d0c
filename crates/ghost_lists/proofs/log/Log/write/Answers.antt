use Rattle.std.proofs.Common.{sym, ◌∙◌, arith}
use Rattle.ghost_lists.proofs.Agreeing.{takes_place}
use Rattle.ghost_lists.proofs.log.Log.write.Goals as goal

pub load-requires : goal.load-requires
load-requires g c =
    let n = c.self.invariant.words in (
      c.start.view_is ∙ c.requires ∙ sym c.self.view_is,
      omega (arith, n),
      takes_place _ _ _ c.start.invariant.first c.start.invariant.nothing,
    )
