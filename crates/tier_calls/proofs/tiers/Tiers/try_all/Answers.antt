use Rattle.std.proofs.Common.{◌∙◌, arith}
use Rattle.tier_calls.specs.Kept.{MayBegin}
use Rattle.tier_calls.proofs.Keeping.{so_far_none, so_far_still, so_far_begin, so_far_done, yet_next, begins_only}
use Rattle.tier_calls.proofs.tiers.Tiers.try_all.Goals as goal

pub loop-init : goal.loop-init
loop-init c = so_far_none c.args.kept c.args.group

pub try_all_once-requires-clause-own : goal.try_all_once-requires-clause-own
try_all_once-requires-clause-own c = (so_far_still c.args.kept c.loop.kept c.loop.invariant).tree ∙ c.requires.own

pub try_all_once-requires-clause-place : goal.try_all_once-requires-clause-place
try_all_once-requires-clause-place c = let a = (so_far_still c.args.kept c.loop.kept c.loop.invariant).tier in
    let b = c.requires.place in
    omega arith

pub try_all_once-requires-clause-unled : goal.try_all_once-requires-clause-unled
try_all_once-requires-clause-unled c = (so_far_still c.args.kept c.loop.kept c.loop.invariant).unled c.requires.unled

pub try_all_once-requires-clause-unarrived : goal.try_all_once-requires-clause-unarrived
try_all_once-requires-clause-unarrived c = (so_far_still c.args.kept c.loop.kept c.loop.invariant).none c.requires.unarrived

pub try_all_once-requires-clause-kept : goal.try_all_once-requires-clause-kept
try_all_once-requires-clause-kept c =
    so_far_begin MayBegin c.args.kept c.loop.kept (begins_only c.args.tries c.args.kept c.args.group c.requires.kept) c.loop.invariant

pub returns-in_default : goal.returns-in_default
returns-in_default c =
    so_far_done c.args.tries c.args.kept c.loop.kept (let a = c.loop-test.true in omega arith) c.loop.invariant c.try_all_once.result
    (λ group is. c.in_default.not-Yet group is) c.try_all_once.ensures

pub loop-preserved : goal.loop-preserved
loop-preserved c = yet_next c.args.kept c.loop.kept c.loop.invariant c.in-Yet.ensures
