use Rattle.std.proofs.Common.{◌+◌, ◌≤◌, ◌∙◌, arith}
use Rattle.tier_calls.specs.Kept.{MayBegin}
use Rattle.tier_calls.proofs.ExchangeTries.{split_none, split_then}
use Rattle.tier_calls.proofs.Keeping.{so_far_none, so_far_still, so_far_begin}
use Rattle.tier_calls.proofs.KeepingWith.{first_fits, first_begins, so_far_eager, with_next, with_done}
use Rattle.tier_calls.proofs.tiers.Tiers.try_with.Goals as goal

pub loop-init : goal.loop-init
loop-init c = (so_far_none c.args.kept c.args.group, split_none c.args.door.now)

pub try_with_once-requires-clause-own : goal.try_with_once-requires-clause-own
try_with_once-requires-clause-own c =
    (c.loop.invariant.1.tree ∙ c.requires.own.0, (so_far_still c.args.kept c.loop.kept c.loop.invariant.0).tree ∙ c.requires.own.1)

pub try_with_once-requires-clause-place : goal.try_with_once-requires-clause-place
try_with_once-requires-clause-place c = let a = (so_far_still c.args.kept c.loop.kept c.loop.invariant.0).tier in
    let b = c.requires.place in
    omega arith

pub try_with_once-requires-clause-unarrived : goal.try_with_once-requires-clause-unarrived
try_with_once-requires-clause-unarrived c = (so_far_still c.args.kept c.loop.kept c.loop.invariant.0).none c.requires.unarrived

pub try_with_once-requires-clause-eager : goal.try_with_once-requires-clause-eager
try_with_once-requires-clause-eager c =
    so_far_eager c.args.kept c.loop.kept (first_begins c.args.tries c.args.joining c.args.kept c.args.group c.requires.kept)
    c.loop.invariant.0 c.requires.eager

pub try_with_once-requires-clause-few : goal.try_with_once-requires-clause-few
try_with_once-requires-clause-few c = let a = (so_far_still c.args.kept c.loop.kept c.loop.invariant.0).long in
    let b = c.requires.few in
    omega arith

pub try_with_once-requires-clause-come : goal.try_with_once-requires-clause-come
try_with_once-requires-clause-come c = let a = (so_far_still c.args.kept c.loop.kept c.loop.invariant.0).long in
    let b = c.requires.come in
    omega arith

pub try_with_once-requires-clause-kept : goal.try_with_once-requires-clause-kept
try_with_once-requires-clause-kept c =
    so_far_begin (λ g w. MayBegin g w × (w.parties + c.args.joining ≤ 65535)) c.args.kept c.loop.kept
    (first_fits c.args.tries c.args.joining c.args.kept c.args.group c.requires.kept) c.loop.invariant.0

pub returns-in_default : goal.returns-in_default
returns-in_default c = record {
  went =
      with_done c.args.joining c.args.leaving c.args.tries c.args.kept c.loop.kept (let a = c.loop-test.true in omega arith)
      c.loop.invariant.0 c.try_with_once.result (λ group is. c.in_default.not-Yet group is) c.try_with_once.ensures.went;
  door = split_then c.loop.invariant.1 c.try_with_once.ensures.door;
}

pub loop-preserved : goal.loop-preserved
loop-preserved c = (
  with_next c.args.joining c.args.leaving c.args.kept c.loop.kept c.loop.invariant.0 c.in-Yet.ensures.went,
  split_then c.loop.invariant.1 c.in-Yet.ensures.door,
)
