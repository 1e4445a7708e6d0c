use Rattle.std.proofs.Common.{◌∙◌, ◌<◌, sym, ap, subst, length, slice_get}
use Rattle.step_core.specs.RoundView.{round_of}
use Rattle.step_core.specs.Taking.{is_done}
use Rattle.step_core.proofs.Rounds.{meets, met_below, is_double, is_first}
use Rattle.step_core.proofs.round.Round.refuses.Goals as goal

pub is_done-requires : goal.is_done-requires
is_done-requires c =
    let m = meets (round_of c.self.inside) _ c.self.invariant.0 c.self.view_is c.requires.running _ c.requires.job
    (c.is_of_step.ensures.0 c.if-not-is_of_step.false) c.path-known.ensures.known in
    subst (λ p. p < length c.self.inside.live) (sym c.place-place.ensures) (met_below _ _ m)

pub returns-then-is_done-clause-answered : goal.returns-then-is_done-clause-answered
returns-then-is_done-clause-answered c =
    let m = meets (round_of c.self.inside) _ c.self.invariant.0 c.self.view_is c.requires.running _ c.requires.job
    (c.is_of_step.ensures.0 c.if-not-is_of_step.false) c.path-known.ensures.known in
    is_double _ _ c.self.view_is _ m
    (ap (λ p. is_done (slice_get c.self.inside.live p)) (sym c.place-place.ensures) ∙ sym c.is_done.ensures ∙ c.if-is_done.true)

pub returns-clause-answered : goal.returns-clause-answered
returns-clause-answered c =
    let m = meets (round_of c.self.inside) _ c.self.invariant.0 c.self.view_is c.requires.running _ c.requires.job
    (c.is_of_step.ensures.0 c.if-not-is_of_step.false) c.path-known.ensures.known in
    is_first _ _ c.self.view_is _ m
    (ap (λ p. is_done (slice_get c.self.inside.live p)) (sym c.place-place.ensures) ∙ sym c.is_done.ensures ∙ c.if-is_done.false)
