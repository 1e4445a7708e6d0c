use Rattle.std.proofs.Common.{List, ℕ, ◌∙◌, refl, sym, ap, subst, length, ◌-◌}
use Rattle.phaser_word.specs.Fields.{Fields, IsLegal}
use Rattle.tier_shape.specs.Parents.{parent_of}
use Rattle.tier_calls.specs.Groups.{GroupHeld}
use Rattle.tier_calls.specs.Kept.{as_seat}
use Rattle.tier_calls.proofs.Grouping.{looked_crowd, all_lost}
use Rattle.tier_calls.proofs.Arrivals.{less, early_may}
use Rattle.tier_calls.proofs.Keeping.{begun_seated, begun_is, begun_from}
use Rattle.tier_calls.proofs.LastOnes.{last_seated, rest_crowd, is_last, from_match, last_arrived, gone_long}
use Rattle.tier_calls.proofs.tiers.Tiers.arrive_last.Goals as goal

pub go_from-requires-clause-from : goal.go_from-requires-clause-from
go_from-requires-clause-from g c =
    begun_from {me = c.group.inside.seat.me} c.group.invariant.0 c.group.view_is c.requires.begins c.requires.own

pub go_from-requires-clause-may : goal.go_from-requires-clause-may
go_from-requires-clause-may g c =
    early_may {me = as_seat g.B.Begun.before}
    (begun_seated {me = c.group.inside.seat.me} c.group.invariant.0 c.group.view_is c.requires.begins)
    (begun_is {me = c.group.inside.seat.me} c.group.invariant.0 c.group.view_is c.requires.begins) c.requires.own
    (subst IsLegal c.word.view_is c.word.invariant) c.requires.may (ap (λ (w : Fields). less w c.group.inside.count) c.word.view_is)

pub invariant_of-result : goal.invariant_of-result
invariant_of-result g c = (
  looked_crowd _ _ _ _ _ _ _ _ _ c.group.invariant.0 c.in-Some.ensures.gone.bare c.in-Some.ensures.gone.looked c.view_glanced-view.ensures,
  tt,
)

pub part_first-behind-requires-clause-count : goal.part_first-behind-requires-clause-count
part_first-behind-requires-clause-count g c = (
  gone_long (as_seat g.B.Begun.before) c.go_from.new.seat.me
      (begun_seated {me = c.group.inside.seat.me} c.group.invariant.0 c.group.view_is c.requires.begins) c.in_default.ensures.gone,
  c.group.invariant.0.some,
)

pub others_of-others-requires : goal.others_of-others-requires
others_of-others-requires g c =
    from_match _ _ _ c.part_first-behind.result c.part_first-behind.ensures.given
    (λ s b. rest_crowd s.me (begun_seated {me = c.group.inside.seat.me} c.group.invariant.0 c.group.view_is c.requires.begins)
    (begun_is {me = c.group.inside.seat.me} c.group.invariant.0 c.group.view_is c.requires.begins) c.requires.own c.requires.may
    (c.requires.begins.long ∙ c.requires.last) c.in_default.ensures.gone b.2 b.1)

pub invariant_of-token : goal.invariant_of-token
invariant_of-token g c =
    last_seated {me = as_seat g.B.Begun.before}
    (begun_seated {me = c.group.inside.seat.me} c.group.invariant.0 c.group.view_is c.requires.begins)
    (begun_is {me = c.group.inside.seat.me} c.group.invariant.0 c.group.view_is c.requires.begins) c.requires.own c.requires.may
    (ap (λ (w : Fields). less w c.group.inside.count) c.word.view_is)
    (ap (λ (w : Fields). less w (c.group.inside.count - 1)) c.word.view_is)
    c.of.ensures (c.above-above.ensures ∙ ap (λ (l : List ℕ). parent_of l c.group.inside.view.tier) c.shape.ensures.value)
    c.errand_after-errand.ensures c.in_default.ensures.gone c.part_first-behind.ensures.kept

pub owing-requires-clause-owes : goal.owing-requires-clause-owes
owing-requires-clause-owes g c =
    is_last _ _ c.args.word _ c.group.inside.count _
    (sym c.group.invariant.0.long ∙ (ap (λ (z : GroupHeld). length z.tokens) c.group.view_is ∙ c.requires.last))
    c.group.invariant.0.some (ap (λ (w : Fields). less w (c.group.inside.count - 1)) c.word.view_is) c.errand_after-errand.ensures

pub returns : goal.returns
returns g c =
    let seated' = begun_seated {me = c.group.inside.seat.me} c.group.invariant.0 c.group.view_is c.requires.begins in
    let is' = begun_is {me = c.group.inside.seat.me} c.group.invariant.0 c.group.view_is c.requires.begins in
    let seated =
    last_seated {me = as_seat g.B.Begun.before} seated' is' c.requires.own c.requires.may
    (ap (λ (w : Fields). less w c.group.inside.count) c.word.view_is)
    (ap (λ (w : Fields). less w (c.group.inside.count - 1)) c.word.view_is)
    c.of.ensures (c.above-above.ensures ∙ ap (λ (l : List ℕ). parent_of l c.group.inside.view.tier) c.shape.ensures.value)
    c.errand_after-errand.ensures c.in_default.ensures.gone c.part_first-behind.ensures.kept in
    last_arrived c.part_first-behind.new.seat.table_id c.go_from.new.seat.table_id (λ s. s.me) (λ s. s.table_id) c.part_first-behind.result
    seated' is' c.requires.own c.requires.may (c.requires.begins.long ∙ c.requires.last) c.in_default.ensures.gone
    seated refl c.owing.ensures c.part_first-behind.ensures.table c.go_from.ensures.table c.part_first-behind.ensures.kept
    c.part_first-behind.ensures.given c.others_of-others.ensures

pub returns-in-Some : goal.returns-in-Some
returns-in-Some g c =
    all_lost c.group.inside.seat.me c.go_from.new.seat.me c.group.invariant.0 c.group.view_is c.requires.own c.go_from.ensures.table
    c.in-Some.ensures.gone c.view_glanced-view.ensures
