-- Each end has a cause, and lasts.
use Rattle.std.proofs.Common.{◌≡◌, ℕ, inl, inr, ⊎_elim, true, false, List, refl, sym, ◌∙◌, subst}
use Rattle.phaser_word.specs.Fields.{Fields}
use Rattle.tier_steps.specs.declared.kind.Kind.{Kind}
use Rattle.tier_steps.specs.declared.kind.Kind.TheVariants.{Look, Glance, Refuse, Join, Arrive, Leave, Advance, Force, Claim, Settle, SettleBack, Climb, Refresh}
use Rattle.tier_steps.specs.Tally.{word_at, root_phase}
use Rattle.tier_steps.specs.Laws.{words_after}
use Rattle.tier_steps.specs.Due.{is_advance}
use Rattle.tier_steps.proofs.Ready.{phases_stay}
use Rattle.tier_rule.specs.declared.sight.Key.{Key}
use Rattle.tier_rule.specs.declared.sight.Sight.{Sight}
use Rattle.tier_rule.specs.Reach.{opens, steps, cuts, sits, joins, parts}
use Rattle.tier_rule.specs.Laws.{MayStep, ended_by}
use Rattle.tier_rule.specs.Run.{HasEnd, EachEndHasACause, EndsLast}
use Rattle.tier_rule.proofs.Seats.{amid}
use Rattle.tier_rule.proofs.Groups.{step_amid}
use Rattle.tier_rule.proofs.Standing.{open_at_first, ends_are_forced_or_planned}
use Rattle.tier_rule.proofs.FlatRun.{never_ended}

-- once the root has ended, a step leaves its phase
phase_stays : (k : Key) (ws : List Fields) (vs : List (List Sight)) (id t : ℕ) (f : List Sight) (x : Sight) (b : List Sight) (kind : Kind)
    → MayStep k ws vs id t f x b kind → (word_at ws 0).ended ≡ true
    → root_phase (words_after ws kind t x.view) ≡ root_phase ws
phase_stays k ws vs id t f x b kind m e =
    let a = amid vs id f x b m.seat in
    let step = step_amid k ws vs id t f x b kind m in
    phases_stay k.shape ws a.front x.view a.back t kind 0 step (never_ended k ws vs id t f x b kind m e) step.tally.some refl

-- and its end
by_kind : (k : Key) (ws : List Fields) (vs : List (List Sight)) (kind : Kind) → (word_at ws 0).ended ≡ true → is_advance kind ≡ false
    → ended_by k ws vs kind ≡ true
by_kind k ws vs Look e a = e
by_kind k ws vs Glance e a = e
by_kind k ws vs (Refuse tier claimed size) e a = e
by_kind k ws vs (Join tier claimed size) e a = e
by_kind k ws vs Arrive e a = e
by_kind k ws vs Leave e a = e
by_kind k ws vs (Advance ends) e a = absurd (let b : true ≡ false = a in cc)
by_kind k ws vs Force e a = refl
by_kind k ws vs (Claim tier claimed size) e a = e
by_kind k ws vs (Settle tier claimed size) e a = e
by_kind k ws vs (SettleBack tier claimed size) e a = e
by_kind k ws vs (Climb passage) e a = e
by_kind k ws vs Refresh e a = e

end_stays : (k : Key) (ws : List Fields) (vs : List (List Sight)) (id t : ℕ) (f : List Sight) (x : Sight) (b : List Sight) (kind : Kind)
    → MayStep k ws vs id t f x b kind → (word_at ws 0).ended ≡ true
    → (word_at (words_after ws kind t x.view) 0).ended ≡ true
end_stays k ws vs id t f x b kind m e =
    ends_are_forced_or_planned k ws vs id t f x b kind m ∙ by_kind k ws vs kind e (never_ended k ws vs id t f x b kind m e)

pub each_end_has_a_cause : EachEndHasACause
each_end_has_a_cause k ws vs (opens x shape small is) ended = absurd (let a = sym ended ∙ open_at_first k.shape k.phase in cc)
each_end_has_a_cause k ws vs (steps us ts id t tries f b x y kind r at within needs says own is few) ended =
    let m : MayStep k us ts id t f x b kind = record { reached = r; seat = at; within = within; needs = needs; says = says } in
    elim (word_at us 0).ended as
    (λ c. (word_at us 0).ended ≡ c → HasEnd (steps us ts id t tries f b x y kind r at within needs says own is few) (root_phase ws)) [
      | true ↦ λ e. inr (subst (λ (p : ℕ). HasEnd r p) (sym (phase_stays k us ts id t f x b kind m e)) (each_end_has_a_cause k us ts r e))
      | false ↦ λ e. inl (e, sym (ends_are_forced_or_planned k us ts id t f x b kind m) ∙ ended, refl)
    ] refl
each_end_has_a_cause k ws vs (cuts us ts id l r at) ended = each_end_has_a_cause k us ts r ended
each_end_has_a_cause k ws vs (sits us ts id n r at) ended = each_end_has_a_cause k us ts r ended
each_end_has_a_cause k ws vs (joins us ts id other l m r at apart there) ended = each_end_has_a_cause k us ts r ended
each_end_has_a_cause k ws vs (parts us ts id x l y m r at) ended = each_end_has_a_cause k us ts r ended

pub ends_last : EndsLast
ends_last k ws vs (opens x shape small is) phase has = absurd has
ends_last k ws vs (steps us ts id t tries f b x y kind r at within needs says own is few) phase has =
    let m : MayStep k us ts id t f x b kind = record { reached = r; seat = at; within = within; needs = needs; says = says } in
    ⊎_elim
    (λ (here : ((word_at us 0).ended ≡ false) × (ended_by k us ts kind ≡ true) × (root_phase (words_after us kind t x.view) ≡ phase)).
    (ends_are_forced_or_planned k us ts id t f x b kind m ∙ here.1, here.2))
    (λ (before : HasEnd r phase). let a = ends_last k us ts r phase before in
    (end_stays k us ts id t f x b kind m a.0, phase_stays k us ts id t f x b kind m a.0 ∙ a.1))
    has
ends_last k ws vs (cuts us ts id l r at) phase has = ends_last k us ts r phase has
ends_last k ws vs (sits us ts id n r at) phase has = ends_last k us ts r phase has
ends_last k ws vs (joins us ts id other l m r at apart there) phase has = ends_last k us ts r phase has
ends_last k ws vs (parts us ts id x l y m r at) phase has = ends_last k us ts r phase has
