use Rattle.std.proofs.Common.{List, ap, sym, ◌∙◌, arith}
use Rattle.atomic_table.specs.Table.{Me}
use Rattle.tier_steps.specs.declared.kind.Kind.{Kind}
use Rattle.tier_rule.specs.declared.sight.Sight.{Sight}
use Rattle.tier_rule.proofs.Allowed.{joins_allow}
use Rattle.tier_calls.proofs.Gathering.{kept_groups, gathered_group, last_group, group_id, table_id}
use Rattle.tier_calls.proofs.tiers.Tiers.gather_groups.Goals as goal

pub join_seat-requires : goal.join_seat-requires
join_seat-requires c =
    let own = last_group c.loop-group.groups.items c.pop.new.self.items c.in-Some.group c.in-Some.ensures.items c.loop-group.invariant.2 in
    let words = c.self.invariant.words_are in
    let some = c.self.invariant.shape.shape.some in (
      group_id c.in-Some.group c.self.view_is own c.into_seat-next.ensures.table,
      c.loop-group.invariant.0 ∙ table_id c.self.view_is c.requires.own.0,
      c.loop-group.invariant.1,
      omega arith,
      joins_allow _ _ _ _ _,
    )

pub loop-group-preserved : goal.loop-group-preserved
loop-group-preserved c =
    let kept = c.loop-group.invariant in
    let own = last_group c.loop-group.groups.items c.pop.new.self.items c.in-Some.group c.in-Some.ensures.items kept.2 in (
      c.join_seat.ensures.0
          ∙ (group_id c.in-Some.group c.self.view_is own c.into_seat-next.ensures.table ∙ sym (table_id c.self.view_is c.requires.own.0)),
      ap (λ (m : Me Kind (List Sight)). m.1) c.join_seat.ensures.2 ∙ ap (λ (m : Me Kind (List Sight)). m.1) c.into_seat-next.ensures.seat,
      kept_groups c.loop-group.groups.items c.pop.new.self.items c.in-Some.group c.in-Some.ensures.items kept.2,
      gathered_group c.loop-group.groups.items c.pop.new.self.items c.in-Some.group c.loop-group.seat.me c.into_seat-next.ensures.seat
          c.in-Some.ensures.items c.join_seat.ensures.2
          ∙ kept.3,
    )
