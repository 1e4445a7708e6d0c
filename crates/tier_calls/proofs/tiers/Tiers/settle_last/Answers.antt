use Rattle.std.proofs.Common.{List, ℕ, ◌∙◌, ap}
use Rattle.atomic_table.specs.Table.{Me}
use Rattle.tier_steps.specs.declared.kind.Kind.{Kind}
use Rattle.tier_rule.specs.declared.sight.Sight.{Sight}
use Rattle.tier_shape.specs.Parents.{parent_of}
use Rattle.tier_calls.proofs.LastOnes.{from_match}
use Rattle.tier_calls.proofs.Settled.{come_long, others_crowd, first_seated, first_owes, settles_now}
use Rattle.tier_calls.proofs.tiers.Tiers.settle_last.Goals as goal

pub part_first-behind-requires-clause-bare : goal.part_first-behind-requires-clause-bare
part_first-behind-requires-clause-bare c = ap (λ (z : Me Kind (List Sight)). z.1) c.requires.come.seat

pub part_first-behind-requires-clause-count : goal.part_first-behind-requires-clause-count
part_first-behind-requires-clause-count c = (come_long _ _ _ _ _ _ _ c.requires.come, c.requires.come.some)

pub others_of-others-requires : goal.others_of-others-requires
others_of-others-requires c =
    from_match _ _ _ c.part_first-behind.result c.part_first-behind.ensures.given
    (λ s b. others_crowd _ _ _ _ _ _ _ c.requires.come s.me b.1 b.2)

pub invariant_of-token : goal.invariant_of-token
invariant_of-token c =
    first_seated _ _ _ _ _ _ _ c.requires.come c.part_first-behind.new.seat.me _ _ _ c.part_first-behind.ensures.kept
    (c.above-above.ensures ∙ ap (λ (l : List ℕ). parent_of l c.args.view.tier) c.shape.ensures.value) c.errand_after-errand.ensures
    c.of.ensures

pub owing-requires-clause-owes : goal.owing-requires-clause-owes
owing-requires-clause-owes c = first_owes _ _ _ _ _ _ _ c.requires.come _ _ c.errand_after-errand.ensures

pub returns : goal.returns
returns c =
    let seated = first_seated _ _ _ _ _ _ _ c.requires.come c.part_first-behind.new.seat.me _ _ _ c.part_first-behind.ensures.kept
    (c.above-above.ensures ∙ ap (λ (l : List ℕ). parent_of l c.args.view.tier) c.shape.ensures.value) c.errand_after-errand.ensures
    c.of.ensures in
    settles_now c.part_first-behind.new.seat.table_id c.args.seat.table_id c.args.seat.me c.part_first-behind.new.seat.me (λ s. s.me)
    (λ s. s.table_id) c.part_first-behind.result c.requires.come seated c.owing.ensures
    c.part_first-behind.ensures.table c.requires.own c.part_first-behind.ensures.kept c.part_first-behind.ensures.given
    c.others_of-others.ensures
