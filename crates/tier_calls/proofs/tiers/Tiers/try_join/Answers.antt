use Rattle.std.proofs.Common.{◌+◌, refl, arith}
use Rattle.tier_calls.proofs.ArrivingAll.{keeps_none, keeps_then}
use Rattle.tier_calls.proofs.ExchangeTries.{still_eager, split_none, split_then}
use Rattle.tier_calls.proofs.JoiningTries.{joins_then}
use Rattle.tier_calls.proofs.tiers.Tiers.try_join.Goals as goal

pub loop-init : goal.loop-init
loop-init c = (keeps_none c.args.group, split_none c.args.door.now)

pub try_join_once-requires-clause-eager : goal.try_join_once-requires-clause-eager
try_join_once-requires-clause-eager c = still_eager c.loop.invariant.0 c.requires.eager

pub returns-in_default : goal.returns-in_default
returns-in_default c = record {
  went =
      joins_then c.loop.counter c.args.tries c.args.n (let a = c.loop-test.true in omega arith) c.loop.invariant.0 c.try_join_once.result
      (λ group is. c.in_default.not-Yet group is) c.try_join_once.ensures.went;
  door = split_then c.loop.invariant.1 c.try_join_once.ensures.door;
}

pub loop-preserved : goal.loop-preserved
loop-preserved c = (
  keeps_then c.loop.counter 1 (c.loop.counter + 1) refl c.loop.invariant.0 c.in-Yet.ensures.went,
  split_then c.loop.invariant.1 c.in-Yet.ensures.door,
)
