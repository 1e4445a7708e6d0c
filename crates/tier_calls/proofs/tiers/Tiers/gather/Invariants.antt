use Rattle.std.proofs.Common.{◌≡◌, [], ◌++◌, All, vec_len}
use Rattle.tier_calls.specs.declared.tokens.Token.{Token}
use Rattle.tier_calls.specs.Closes.{held, sights_in}
use Rattle.tier_calls.proofs.tiers.Tiers.gather.Given as goal

abbrev pub invariant-loop-token : goal.invariant-loop-token
invariant-loop-token l =
    (l.seat.table_id ≡ l.fn.seat.table_id) × (l.seat.me.1 ≡ []) × All (λ (t : Token). (held t).tree ≡ l.self) l.tokens.items
    × (sights_in l.tokens.items ++ l.seat.me.0 ≡ sights_in l.fn.tokens.items ++ l.fn.seat.me.0)

abbrev pub decreases-loop-token : goal.decreases-loop-token
decreases-loop-token l = vec_len l.tokens
