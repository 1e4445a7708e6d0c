use Rattle.std.proofs.Common.{◌≡◌, take, map, vec_capacity}
use Rattle.tier_calls.specs.Closes.{held, plain_of}
use Rattle.tier_calls.proofs.closing.plain_all.Given as goal

abbrev pub invariant-loop-token : goal.invariant-loop-token
invariant-loop-token l =
    (l.plains.items ≡ map (λ t. plain_of (held t).view) (take l.token-index l.tokens)) × (vec_capacity l.plains ≡ vec_capacity l.fn.plains)
