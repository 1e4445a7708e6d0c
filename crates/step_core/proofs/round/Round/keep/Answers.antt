use Rattle.std.proofs.Common.{◌≡◌, ◌∙◌, ◌<◌, sym, ap, subst, arith, length, List}
use Rattle.step_core.specs.SlotValue.{SlotValue}
use Rattle.step_core.specs.Slots.{with_segment, missing_in}
use Rattle.step_core.specs.RoundView.{round_of}
use Rattle.step_core.specs.RoundValue.{RoundValue, IsRound, with_slots}
use Rattle.step_core.specs.Taking.{with_delivery}
use Rattle.step_core.proofs.Rounds.{takes, met_below, met_kept, met_fewer}
use Rattle.step_core.proofs.round.Round.keep.Goals as goal

pub put-requires : goal.put-requires
put-requires c =
    let t =
    takes (round_of c.self.inside) _ c.self.invariant.0 c.self.view_is c.requires.running c.args.delivery c.requires.taken
    c.into_segment-segment.ensures.known in
    subst (λ p. p < length c.self.inside.live) (sym c.place-place.ensures) (met_below _ _ t.0)

pub invariant_of-self : goal.invariant_of-self
invariant_of-self c =
    let r = round_of c.self.inside in
    let t =
    takes r _ c.self.invariant.0 c.self.view_is c.requires.running c.args.delivery c.requires.taken c.into_segment-segment.ensures.known in
    let put : c.put.new.self ≡ with_segment c.self.inside.live c.args.delivery.place c.args.delivery.segment =
    c.put.ensures ∙ (λ i. with_segment c.self.inside.live (c.place-place.ensures i) (c.into_segment-segment.ensures.same i)) in
    let fewer = met_fewer r c.args.delivery t.0 t.1 in
    let same = ap missing_in put in (
      subst (λ (ss : List SlotValue). IsRound (with_slots r ss)) (sym put) (met_kept r c.args.delivery t.0),
      omega (arith, fewer, same, c.self.invariant.1),
    )

pub overflow_sub-self : goal.overflow_sub-self
overflow_sub-self c =
    let r = round_of c.self.inside in
    let t =
    takes r _ c.self.invariant.0 c.self.view_is c.requires.running c.args.delivery c.requires.taken c.into_segment-segment.ensures.known in
    let fewer = met_fewer r c.args.delivery t.0 t.1 in
    omega (arith, fewer, c.self.invariant.1)

pub returns : goal.returns
returns c =
    let r = round_of c.self.inside in
    let put : c.put.new.self ≡ with_segment c.self.inside.live c.args.delivery.place c.args.delivery.segment =
    c.put.ensures ∙ (λ i. with_segment c.self.inside.live (c.place-place.ensures i) (c.into_segment-segment.ensures.same i)) in
    ap (λ (ss : List SlotValue). with_slots r ss) put
    ∙ ap (λ (x : RoundValue). with_delivery x c.args.delivery) c.self.view_is
