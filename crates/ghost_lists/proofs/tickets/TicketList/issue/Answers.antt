use Rattle.std.proofs.Common.{◌∙◌, arith, rules}
use Rattle.ghost_lists.proofs.Passing.{issues, gives}
use Rattle.ghost_lists.proofs.tickets.TicketList.issue.Goals as goal

pub compare_exchange_with-requires : goal.compare_exchange_with-requires
compare_exchange_with-requires g c =
    let n = c.self.invariant.words in (
      c.self.invariant.named,
      omega (arith, n),
      issues _ _ _ _ _ _ c.self.invariant.first,
    )

pub split_seat-requires : goal.split_seat-requires
split_seat-requires g c =
    let n = c.self.invariant.words in (
      c.compare_exchange_with.ensures.0 ∙ c.self.invariant.named,
      omega (arith, n),
      gives _ _ (c.compare_exchange_with.ensures.1 ∙ c.self.invariant.first),
    )

pub returns : goal.returns
returns g c = record { listed = (c.self.inside.seat.me.0.next, (search rules, search rules)) }
