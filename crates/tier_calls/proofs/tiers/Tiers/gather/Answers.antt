use Rattle.std.proofs.Common.{List, ap, sym, ◌∙◌, arith}
use Rattle.atomic_table.specs.Table.{Me}
use Rattle.tier_steps.specs.declared.kind.Kind.{Kind}
use Rattle.tier_rule.specs.declared.sight.Sight.{Sight}
use Rattle.tier_rule.proofs.Allowed.{joins_allow}
use Rattle.tier_calls.proofs.Gathering.{kept_front, gathered, last_tree, same_id, table_id}
use Rattle.tier_calls.proofs.tiers.Tiers.gather.Goals as goal

pub join_seat-requires : goal.join_seat-requires
join_seat-requires c =
    let own = last_tree c.loop-token.tokens.items c.pop.new.self.items c.in-Some.token c.in-Some.ensures.items c.loop-token.invariant.2 in
    let words = c.self.invariant.words_are in
    let some = c.self.invariant.shape.shape.some in (
      same_id c.self.view_is own c.into_seated.ensures c.into_seat-next.ensures.table,
      c.loop-token.invariant.0 ∙ table_id c.self.view_is c.requires.own.0,
      c.loop-token.invariant.1,
      omega arith,
      joins_allow _ _ _ _ _,
    )

pub loop-token-preserved : goal.loop-token-preserved
loop-token-preserved c =
    let kept = c.loop-token.invariant in
    let own = last_tree c.loop-token.tokens.items c.pop.new.self.items c.in-Some.token c.in-Some.ensures.items kept.2 in (
      c.join_seat.ensures.0
          ∙ (same_id c.self.view_is own c.into_seated.ensures c.into_seat-next.ensures.table
          ∙ sym (table_id c.self.view_is c.requires.own.0)),
      ap (λ (m : Me Kind (List Sight)). m.1) c.join_seat.ensures.2 ∙ ap (λ (m : Me Kind (List Sight)). m.1) c.into_seat-next.ensures.seat,
      kept_front c.loop-token.tokens.items c.pop.new.self.items c.in-Some.token c.in-Some.ensures.items kept.2,
      gathered c.loop-token.tokens.items c.pop.new.self.items c.in-Some.token c.loop-token.seat.me c.into_seated.ensures
          c.into_seat-next.ensures.seat c.in-Some.ensures.items
          c.join_seat.ensures.2 ∙ kept.3,
    )
