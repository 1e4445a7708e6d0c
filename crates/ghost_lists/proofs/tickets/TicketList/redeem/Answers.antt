use Rattle.std.specs.Prelude.{IfSome}
use Rattle.std.proofs.Common.{◌≡◌, ◌⊎◌, sym, ap, ◌∙◌, subst, arith}
use Rattle.ghost_lists.specs.declared.tickets_rule.TicketEntry.{TicketEntry}
use Rattle.ghost_lists.specs.Passed.{IsOut}
use Rattle.ghost_lists.proofs.Passing.{receives, redeems, list_after, others_after}
use Rattle.ghost_lists.proofs.tickets.TicketList.redeem.Goals as goal

pub join_seat-requires : goal.join_seat-requires
join_seat-requires g c =
    let n = c.self.invariant.words in (
      c.self.invariant.named,
      ap (λ p. p.name) c.pass.view_is ∙ c.requires ∙ sym (ap (λ v. v.name) c.self.view_is) ∙ c.self.invariant.named,
      c.pass.invariant,
      omega (arith, n),
      receives _ _ _ _ c.self.invariant.first,
    )

pub load-requires : goal.load-requires
load-requires g c =
    let n = c.self.invariant.words in (
      c.join_seat.ensures.0 ∙ c.self.invariant.named,
      omega (arith, n),
      redeems _ _ _ (c.join_seat.ensures.1 ∙ c.self.invariant.first),
    )

pub invariant_of-self : goal.invariant_of-self
invariant_of-self g c =
    list_after _ _ _ _ _ _ _ _ c.pass.inside.seat.me.0 c.self.invariant c.join_seat.ensures.2 c.load.ensures.2.0
    (c.load.ensures.0 ∙ c.join_seat.ensures.0) (c.load.ensures.1 ∙ c.join_seat.ensures.1)

pub returns-clause-others : goal.returns-clause-others
returns-clause-others g c =
    let o = others_after _ _ _ _ _ _ c.pass.inside.seat.me.0 c.self.invariant c.join_seat.ensures.2 c.load.ensures.2.0 c.load.ensures.2.1 in
    subst
    (λ p. IfSome p.held (λ t. (u : TicketEntry g.row.T.Denot) → IsOut u c.args.self.now.out → (t ≡ u) ⊎ IsOut u c.load.new.seat.me.0.out))
    c.pass.view_is
    (subst (λ v. IfSome c.pass.inside.seat.me.0.held (λ t. (u : TicketEntry g.row.T.Denot) → IsOut u v.out → (t ≡ u) ⊎ IsOut u c.load.new.seat.me.0.out)) c.self.view_is o)
