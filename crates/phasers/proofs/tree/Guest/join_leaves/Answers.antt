use Rattle.std.proofs.Common.{◌∙◌, ap, sym, subst, arith}
use Rattle.tier_shape.specs.Leaves.{leaves_of}
use Rattle.tier_calls.specs.Holding.{Named}
use Rattle.tier_calls.specs.declared.TheConstants.{TRIES}
use Rattle.tier_table.specs.Beginning.{RegistersNot}
use Rattle.tier_table.proofs.AtLeaves.{leaves_are_tiers, all_own, stopped_own}
use Rattle.phasers.proofs.tree.Guest.join_leaves.Goals as goal

pub register_leaves-requires-clause-tiers : goal.register_leaves-requires-clause-tiers
register_leaves-requires-clause-tiers g c =
    let reported = ap (λ (n : Named). leaves_of n.key.shape) c.shared.view_is in
    leaves_are_tiers c.shared.inside.tiers.key.shape c.leaves-leaves.result.now (c.leaves-leaves.ensures ∙ sym reported)

pub parties_of-requires-clause-groups : goal.parties_of-requires-clause-groups
parties_of-requires-clause-groups g c = λ k d h.
    (all_own c.shared.inside.tiers c.phase-phase.result c.leaves-leaves.result.now c.args.counts.now c.in-Ok-register_leaves.groups.items c.in-Ok-register_leaves.ensures.groups).own
    k d h
    ∙ c.shared.view_is

pub parties_of-requires-clause-capacity : goal.parties_of-requires-clause-capacity
parties_of-requires-clause-capacity g c =
    let few =
    (all_own c.shared.inside.tiers c.phase-phase.result c.leaves-leaves.result.now c.args.counts.now c.in-Ok-register_leaves.groups.items c.in-Ok-register_leaves.ensures.groups).few in
    let capacity = c.in-Ok.ensures.exact in
    omega (arith, few, capacity)

pub parties_of-parties-requires-clause-groups : goal.parties_of-parties-requires-clause-groups
parties_of-parties-requires-clause-groups g c = λ k d h.
    (stopped_own TRIES c.shared.inside.tiers c.phase-phase.result c.leaves-leaves.result.now c.args.counts.now c.in-Err-Stopped.groups.items c.in-Err-Stopped.tier c.in-Err-Stopped.answer
    (subst (RegistersNot TRIES c.shared.inside.tiers c.phase-phase.result c.leaves-leaves.result.now c.args.counts.now) c.in-Err-Stopped.field-0-is c.in-Err-Stopped.ensures.refused).1).0.own
    k d h
    ∙ c.shared.view_is

pub parties_of-parties-requires-clause-capacity : goal.parties_of-parties-requires-clause-capacity
parties_of-parties-requires-clause-capacity g c =
    let few =
    (stopped_own TRIES c.shared.inside.tiers c.phase-phase.result c.leaves-leaves.result.now c.args.counts.now c.in-Err-Stopped.groups.items c.in-Err-Stopped.tier c.in-Err-Stopped.answer
    (subst (RegistersNot TRIES c.shared.inside.tiers c.phase-phase.result c.leaves-leaves.result.now c.args.counts.now) c.in-Err-Stopped.field-0-is c.in-Err-Stopped.ensures.refused).1).0.few in
    let capacity = c.in-Ok.ensures.exact in
    omega (arith, few, capacity)

pub of-answer-requires-clause-group : goal.of-answer-requires-clause-group
of-answer-requires-clause-group g c =
    (stopped_own TRIES c.shared.inside.tiers c.phase-phase.result c.leaves-leaves.result.now c.args.counts.now c.in-Err-Stopped.groups.items c.in-Err-Stopped.tier c.in-Err-Stopped.answer
    (subst (RegistersNot TRIES c.shared.inside.tiers c.phase-phase.result c.leaves-leaves.result.now c.args.counts.now) c.in-Err-Stopped.field-0-is c.in-Err-Stopped.ensures.refused).1).1
    ∙ c.shared.view_is
