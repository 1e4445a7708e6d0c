use Rattle.std.proofs.Common.{◌∙◌, sym, ap, arith, subst, ◌+◌, ◌-◌}
use Rattle.phaser_word.specs.Fields.{Fields, IsLegal}
use Rattle.tier_rule.specs.Group.{looked_all}
use Rattle.tier_rule.proofs.Allowed.{joins_allow}
use Rattle.tier_calls.specs.Holding.{Named, sight_held}
use Rattle.tier_calls.specs.LastOnes.{tokens_in}
use Rattle.tier_calls.specs.Settles.{OthersOf}
use Rattle.tier_calls.specs.Groups.{GroupHeld, glanced}
use Rattle.tier_calls.specs.NewTokens.{TokensHeld}
use Rattle.tier_calls.specs.Exchanges.{sights_with}
use Rattle.tier_calls.specs.Kept.{as_seat, ahead}
use Rattle.tier_calls.proofs.Keeping.{begun_is, begun_from, begun_long}
use Rattle.tier_calls.proofs.KeepingWith.{begun_with, ahead_joined, joined_from}
use Rattle.tier_calls.proofs.ExchangeTry.{exchange, all_own, pass_may, lost_long, lost_crowd, lost_now, won_long, won_last, last_passed}
use Rattle.tier_calls.proofs.tiers.Tiers.exchange_last_as.Goals as goal

pub join_seat-requires : goal.join_seat-requires
join_seat-requires g c =
    let some = c.self.invariant.shape.shape.some in
    let there = ap (λ (z : Named). z.id) (sym c.self.view_is) in (
      ap (λ (z : TokensHeld). z.table) c.new_tokens.view_is ∙ (c.requires.may.own.1 ∙ there),
      ap (λ (z : GroupHeld). z.tree.id) c.group.view_is ∙ (ap (λ (z : Named). z.id) c.requires.may.own.0 ∙ there),
      c.group.invariant.0.bare,
      (let a = c.self.invariant.words_are in omega arith),
      joins_allow _ _ _ _ _,
    )

pub go_from-requires-clause-from : goal.go_from-requires-clause-from
go_from-requires-clause-from g c =
    let x = exchange c.group.inside.seat.me c.new_tokens.inside.seat.me c.group.invariant.0 c.new_tokens.invariant c.group.view_is
    c.new_tokens.view_is c.requires.may in
    let from = begun_from {me = c.group.inside.seat.me} c.group.invariant.0 c.group.view_is c.requires.begins c.requires.may.own.0 in
    let own = all_own x c.join_seat.new.seat.me c.join_seat.ensures.2 in
    joined_from c.group.inside.seat.me c.new_tokens.inside.seat.me c.join_seat.new.seat.me g.B.Begun.before c.join_seat.ensures.2
    (begun_long {me = c.group.inside.seat.me} c.group.invariant.0 c.group.view_is c.requires.begins ∙ sym c.group.invariant.0.long)
    c.new_tokens.invariant.bare own from

pub go_from-requires-clause-may : goal.go_from-requires-clause-may
go_from-requires-clause-may g c =
    let at' =
    ahead_joined c.group.inside.seat.me c.new_tokens.inside.seat.me c.join_seat.new.seat.me g.B.Begun.before c.join_seat.ensures.2
    (begun_long {me = c.group.inside.seat.me} c.group.invariant.0 c.group.view_is c.requires.begins ∙ sym c.group.invariant.0.long)
    c.new_tokens.invariant.bare in
    let is' = begun_is {me = c.group.inside.seat.me} c.group.invariant.0 c.group.view_is c.requires.begins in
    let x = begun_with c.group.inside.seat.me c.new_tokens.inside.seat.me g.B.Begun.before c.group.invariant.0 c.new_tokens.invariant
    c.group.view_is c.new_tokens.view_is c.requires.begins c.requires.may in
    let sights = c.requires.sights ∙ (λ i. sights_with (sym is' i) (sym c.new_tokens.view_is i) c.args.leaving c.args.word) in
    pass_may x (as_seat (ahead c.join_seat.new.seat.me.0 g.B.Begun.before)) _ _
    (subst IsLegal c.word.view_is c.word.invariant) at' sights
    (ap (λ (w : Fields). record w { parties = w.parties + c.new_tokens.inside.count - c.args.leaving; unarrived = w.unarrived - c.group.inside.count }) c.word.view_is)

pub keep_last-olds-requires-clause-count : goal.keep_last-olds-requires-clause-count
keep_last-olds-requires-clause-count g c =
    let x = exchange c.group.inside.seat.me c.new_tokens.inside.seat.me c.group.invariant.0 c.new_tokens.invariant c.group.view_is
    c.new_tokens.view_is c.requires.may in
    let a = lost_long x c.join_seat.new.seat.me c.go_from.new.seat.me c.in-Some.other c.join_seat.ensures.2 c.in-Some.ensures.gone in
    let b = c.group.invariant.0.some in
    omega arith

pub invariant_of-result : goal.invariant_of-result
invariant_of-result g c = (
  let x = exchange c.group.inside.seat.me c.new_tokens.inside.seat.me c.group.invariant.0 c.new_tokens.invariant c.group.view_is
      c.new_tokens.view_is c.requires.may in
      lost_crowd x c.join_seat.new.seat.me c.go_from.new.seat.me c.keep_last-olds.result.me c.in-Some.other _
      c.join_seat.ensures.2 c.in-Some.ensures.gone c.keep_last-olds.ensures.given c.view_glanced-view.ensures,
  tt,
)

pub returns-in-Some : goal.returns-in-Some
returns-in-Some g c =
    let x = exchange c.group.inside.seat.me c.new_tokens.inside.seat.me c.group.invariant.0 c.new_tokens.invariant c.group.view_is
    c.new_tokens.view_is c.requires.may in
    let r =
    lost_now x c.join_seat.new.seat.me c.go_from.new.seat.me c.keep_last-olds.result.me c.in-Some.other _
    c.keep_last-olds.result.table_id c.join_seat.ensures.2 c.in-Some.ensures.gone c.keep_last-olds.ensures.given c.view_glanced-view.ensures
    (c.keep_last-olds.ensures.table
    ∙ (c.go_from.ensures.table
    ∙ (c.join_seat.ensures.0 ∙ (ap (λ (z : TokensHeld). z.table) c.new_tokens.view_is ∙ c.requires.may.own.1)))) in (
      r.0,
      r.1 ∙ ap (λ (z : GroupHeld). z.tree) c.group.view_is,
      r.2 ∙ ap (λ (z : GroupHeld). glanced z.view.tier c.in-Some.other z.view) c.group.view_is,
      r.3 ∙ ap (λ (z : GroupHeld). looked_all z.view.tier c.in-Some.other 1 z.tokens) c.group.view_is,
    )

pub keep_first-requires-clause-count : goal.keep_first-requires-clause-count
keep_first-requires-clause-count g c =
    let is' = begun_is {me = c.group.inside.seat.me} c.group.invariant.0 c.group.view_is c.requires.begins in
    let x = begun_with c.group.inside.seat.me c.new_tokens.inside.seat.me g.B.Begun.before c.group.invariant.0 c.new_tokens.invariant
    c.group.view_is c.new_tokens.view_is c.requires.begins c.requires.may in
    let sights = c.requires.sights ∙ (λ i. sights_with (sym is' i) (sym c.new_tokens.view_is i) c.args.leaving c.args.word) in
    won_long x (as_seat (ahead c.join_seat.new.seat.me.0 g.B.Begun.before)) c.go_from.new.seat.me _ _ sights
    c.in_default.ensures.gone

pub settle_last-errand-requires-clause-come : goal.settle_last-errand-requires-clause-come
settle_last-errand-requires-clause-come g c =
    let is' = begun_is {me = c.group.inside.seat.me} c.group.invariant.0 c.group.view_is c.requires.begins in
    let x = begun_with c.group.inside.seat.me c.new_tokens.inside.seat.me g.B.Begun.before c.group.invariant.0 c.new_tokens.invariant
    c.group.view_is c.new_tokens.view_is c.requires.begins c.requires.may in
    let sights = c.requires.sights ∙ (λ i. sights_with (sym is' i) (sym c.new_tokens.view_is i) c.args.leaving c.args.word) in
    won_last x (as_seat (ahead c.join_seat.new.seat.me.0 g.B.Begun.before)) c.go_from.new.seat.me
    c.keep_first.new.seat.me _ _ _ sights c.in_default.ensures.gone c.keep_first.ensures.kept
    (c.requires.begins.long ∙ c.requires.last)
    (ap (λ (w : Fields). record w { parties = w.parties + c.new_tokens.inside.count - c.args.leaving; unarrived = 1 }) c.word.view_is)
    (ap (λ (w : Fields). record w { parties = w.parties + c.new_tokens.inside.count - c.args.leaving; unarrived = w.unarrived - c.group.inside.count }) c.word.view_is)

pub returns : goal.returns
returns g c =
    let is' = begun_is {me = c.group.inside.seat.me} c.group.invariant.0 c.group.view_is c.requires.begins in
    let x = begun_with c.group.inside.seat.me c.new_tokens.inside.seat.me g.B.Begun.before c.group.invariant.0 c.new_tokens.invariant
    c.group.view_is c.new_tokens.view_is c.requires.begins c.requires.may in
    let sights = c.requires.sights ∙ (λ i. sights_with (sym is' i) (sym c.new_tokens.view_is i) c.args.leaving c.args.word) in
    let e = c.settle_last-errand.ensures in
    let r =
    last_passed x (as_seat (ahead c.join_seat.new.seat.me.0 g.B.Begun.before)) c.go_from.new.seat.me c.keep_first.new.seat.me _
    _ (sight_held c.settle_last-errand.result.0.token) (tokens_in c.settle_last-errand.result.1) sights c.in_default.ensures.gone
    c.keep_first.ensures.kept e.all in (
      e.tree ∙ sym c.requires.may.own.0,
      e.view ∙ ap (λ (z : GroupHeld). record z.view { arrived = 1; errand = c.settle_last-errand.result.0.token.view.errand }) is',
      subst (λ (z : Named). OthersOf z c.args.group.view c.settle_last-errand.result.1) (sym c.requires.may.own.0)
          (subst (λ (z : GroupHeld). OthersOf c.args.self.now z.view c.settle_last-errand.result.1) is' e.others),
      (r.0, r.1 ∙ (λ i. sights_with (is' i) (c.new_tokens.view_is i) c.args.leaving c.args.word), r.2),
    )
