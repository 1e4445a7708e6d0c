use Rattle.std.proofs.Common.{sym, ap, ◌∙◌, arith, ◌∷◌, Some}
use Rattle.atomic_table.specs.Table.{rest}
use Rattle.ghost_lists.proofs.Agreeing.{notes}
use Rattle.ghost_lists.proofs.log.Writer.note.Goals as goal

pub load-requires : goal.load-requires
load-requires g c =
    let n = c.log.invariant.words in (
      c.exchange.ensures.0 ∙ ap (λ v. v.name) c.self.view_is ∙ c.requires ∙ sym c.log.view_is,
      omega (arith, n),
      notes _ _ _ (c.exchange.ensures.1 ∙ c.self.invariant.first),
    )

pub exchange-requires-2 : goal.exchange-requires-2
exchange-requires-2 g c =
    let held = ap (λ m. m.1) c.load.ensures.2 ∙ ap (λ m. m.1) c.exchange.ensures.3 in (
      c.load.ensures.0 ∙ c.exchange.ensures.0 ∙ ap (λ v. v.name) c.self.view_is ∙ c.requires ∙ sym c.log.view_is,
      (Some c.args.value, held ∙ ap (λ cs. (0, Some c.args.value) ∷ rest cs) (sym held)),
    )
