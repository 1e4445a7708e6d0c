use Rattle.std.proofs.Common.{◌≤◌, length, ◌∙◌, sym, ap, arith, subst, ◌+◌}
use Rattle.tier_steps.proofs.Legal.{legal_open}
use Rattle.tier_rule.specs.Group.{looked_all}
use Rattle.tier_rule.proofs.Allowed.{joins_allow}
use Rattle.tier_calls.specs.Holding.{Named}
use Rattle.tier_calls.specs.Groups.{GroupHeld, glanced}
use Rattle.tier_calls.specs.NewTokens.{TokensHeld}
use Rattle.tier_calls.specs.JoinsAll.{sights_joined}
use Rattle.tier_calls.proofs.JoiningTry.{may_join, joining, joins_may, lost_count, lost_seated, lost_join, joined_seated, joined_all}
use Rattle.tier_calls.proofs.tiers.Tiers.exchange_joins_as.Goals as goal

pub join_seat-requires : goal.join_seat-requires
join_seat-requires g c =
    let some = c.self.invariant.shape.shape.some in
    let there = ap (λ (z : Named). z.id) (sym c.self.view_is) in (
      ap (λ (z : TokensHeld). z.table) c.new_tokens.view_is ∙ (c.requires.own.1 ∙ there),
      ap (λ (z : GroupHeld). z.tree.id) c.group.view_is ∙ (ap (λ (z : Named). z.id) c.requires.own.0 ∙ there),
      c.group.invariant.0.bare,
      (let a = c.self.invariant.words_are in omega arith),
      joins_allow _ _ _ _ _,
    )

pub go_together-requires-clause-may : goal.go_together-requires-clause-may
go_together-requires-clause-may g c =
    let x = joining c.group.inside.seat.me c.new_tokens.inside.seat.me c.group.invariant.0 c.new_tokens.invariant c.group.view_is
    c.new_tokens.view_is
    (may_join c.requires.own c.requires.blank c.requires.may c.requires.eager c.requires.place c.requires.some c.requires.enough
    c.requires.capacity) in
    let sights = c.requires.sights ∙ (λ i. sights_joined (sym c.group.view_is i) (sym c.new_tokens.view_is i) c.args.word) in
    joins_may x c.join_seat.new.seat.me _ _ c.after_joins-next.ensures.legal c.join_seat.ensures.2 sights
    c.after_joins-next.ensures.after

pub keep_last-olds-requires-clause-count : goal.keep_last-olds-requires-clause-count
keep_last-olds-requires-clause-count g c =
    let x = joining c.group.inside.seat.me c.new_tokens.inside.seat.me c.group.invariant.0 c.new_tokens.invariant c.group.view_is
    c.new_tokens.view_is
    (may_join c.requires.own c.requires.blank c.requires.may c.requires.eager c.requires.place c.requires.some c.requires.enough
    c.requires.capacity) in
    lost_count x c.join_seat.new.seat.me c.go_together.new.seat.me c.in-Some.other c.join_seat.ensures.2
    c.in-Some.ensures.gone

pub invariant_of-result : goal.invariant_of-result
invariant_of-result g c = (
  let x = joining c.group.inside.seat.me c.new_tokens.inside.seat.me c.group.invariant.0 c.new_tokens.invariant c.group.view_is
      c.new_tokens.view_is
      (may_join c.requires.own c.requires.blank c.requires.may c.requires.eager c.requires.place c.requires.some c.requires.enough
      c.requires.capacity) in
      lost_seated x c.join_seat.new.seat.me c.go_together.new.seat.me c.keep_last-olds.result.me c.in-Some.other _
      c.join_seat.ensures.2 c.in-Some.ensures.gone c.keep_last-olds.ensures.given c.view_glanced-view.ensures,
  tt,
)

pub returns-in-Some : goal.returns-in-Some
returns-in-Some g c =
    let x = joining c.group.inside.seat.me c.new_tokens.inside.seat.me c.group.invariant.0 c.new_tokens.invariant c.group.view_is
    c.new_tokens.view_is
    (may_join c.requires.own c.requires.blank c.requires.may c.requires.eager c.requires.place c.requires.some c.requires.enough
    c.requires.capacity) in
    let r =
    lost_join x c.join_seat.new.seat.me c.go_together.new.seat.me c.keep_last-olds.result.me c.in-Some.other _
    c.keep_last-olds.result.table_id c.join_seat.ensures.2 c.in-Some.ensures.gone c.keep_last-olds.ensures.given c.view_glanced-view.ensures
    (c.keep_last-olds.ensures.table
    ∙ (c.go_together.ensures.table
    ∙ (c.join_seat.ensures.0 ∙ (ap (λ (z : TokensHeld). z.table) c.new_tokens.view_is ∙ c.requires.own.1)))) in (
      r.0,
      r.1 ∙ ap (λ (z : GroupHeld). z.tree) c.group.view_is,
      r.2 ∙ ap (λ (z : GroupHeld). glanced z.view.tier c.in-Some.other z.view) c.group.view_is,
      r.3 ∙ ap (λ (z : GroupHeld). looked_all z.view.tier c.in-Some.other 1 z.tokens) c.group.view_is,
    )

pub overflow_add-result : goal.overflow_add-result
overflow_add-result g c =
    let a : length c.group.inside.seat.me.0 ≤ c.args.word.unarrived =
    subst (λ (z : GroupHeld). length z.tokens ≤ c.args.word.unarrived) (sym c.group.view_is) c.requires.enough in
    let b : c.args.word.parties + length c.new_tokens.inside.seat.me.0 ≤ 65535 =
    subst (λ (z : TokensHeld). c.args.word.parties + length z.tokens ≤ 65535) (sym c.new_tokens.view_is) c.requires.capacity in
    let d = c.group.invariant.0.long in let e = c.new_tokens.invariant.long in
    let f = legal_open c.args.word c.after_joins-next.ensures.legal c.requires.some in
    omega arith

pub invariant_of-result-2 : goal.invariant_of-result-2
invariant_of-result-2 g c = (
  let x = joining c.group.inside.seat.me c.new_tokens.inside.seat.me c.group.invariant.0 c.new_tokens.invariant c.group.view_is
      c.new_tokens.view_is
      (may_join c.requires.own c.requires.blank c.requires.may c.requires.eager c.requires.place c.requires.some c.requires.enough
      c.requires.capacity) in
      let sights = c.requires.sights ∙ (λ i. sights_joined (sym c.group.view_is i) (sym c.new_tokens.view_is i) c.args.word) in
      joined_seated x c.join_seat.new.seat.me c.go_together.new.seat.me _ _ sights c.in_default.ensures.gone,
  tt,
)

pub returns : goal.returns
returns g c =
    let x = joining c.group.inside.seat.me c.new_tokens.inside.seat.me c.group.invariant.0 c.new_tokens.invariant c.group.view_is
    c.new_tokens.view_is
    (may_join c.requires.own c.requires.blank c.requires.may c.requires.eager c.requires.place c.requires.some c.requires.enough
    c.requires.capacity) in
    let sights = c.requires.sights ∙ (λ i. sights_joined (sym c.group.view_is i) (sym c.new_tokens.view_is i) c.args.word) in
    let r =
    joined_all x c.join_seat.new.seat.me c.go_together.new.seat.me _ _ c.go_together.new.seat.table_id sights
    c.in_default.ensures.gone
    (c.go_together.ensures.table ∙ (c.join_seat.ensures.0 ∙ (ap (λ (z : TokensHeld). z.table) c.new_tokens.view_is ∙ c.requires.own.1))) in (
      r.0 ∙ ap (λ (z : GroupHeld). z.tree) c.group.view_is,
      ap (λ (z : GroupHeld). z.view) c.group.view_is,
      r.1 ∙ (λ i. sights_joined (c.group.view_is i) (c.new_tokens.view_is i) c.args.word),
    )
