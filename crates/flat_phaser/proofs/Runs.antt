-- What holds of every run and every step.
use Rattle.std.proofs.Common.{◌≡◌, ℕ, ◌+◌, Bool, true, false, cond, List, [], ◌∷◌, refl, sym, ◌∙◌, ap, arith}
use Rattle.flat_phaser.specs.Flat.{Flat, Member, arrived_of, empty_in}
use Rattle.flat_phaser.specs.Step.{FlatStep, Join, Arrive, Leave, Advance, Force, taken, flat_step, MayTake, flat_run}
use Rattle.flat_phaser.specs.Alike.{IsSound}
use Rattle.flat_phaser.specs.Laws.{AdvancesWhenAllArrived, EveryoneIsEachOwner, ArrivalsCountOnce, NoArrivalIsLost, is_advance, arrivals_of}
use Rattle.flat_phaser.proofs.Counts.{newcomers_arrived}
use Rattle.flat_phaser.proofs.Everyone.{everyone_from, everyone_each, none_arrived}
use Rattle.flat_phaser.proofs.Places.{first_place, marked_arrived, dropped_arrived}
use Rattle.flat_phaser.proofs.Alikeness.{next_differs}

no_contradiction : false ≡ true → {A : Type 0} → A
no_contradiction e = absurd (let wrong : false ≡ true = e in cc)

taken_sound : (step : FlatStep) (f : Flat) → IsSound (taken step f)
taken_sound (Join owner count) f h = no_contradiction h
taken_sound (Arrive owner) f h = h
taken_sound (Leave owner) f h = h
taken_sound (Advance ends) f h = no_contradiction h
taken_sound Force f h = no_contradiction h

chosen_sound : (b : Bool) (f g : Flat) → IsSound f → IsSound g → IsSound (cond b f g)
chosen_sound true f g h k = h
chosen_sound false f g h k = k

pub step_sound : (step : FlatStep) (f : Flat) → IsSound f → IsSound (flat_step step f)
step_sound step f h = chosen_sound f.ended f (taken step f) h (taken_sound step f)

pub run_sound : (steps : List FlatStep) (f : Flat) → IsSound f → IsSound (flat_run steps f)
run_sound [] f h = h
run_sound (step ∷ steps) f h = run_sound steps (flat_step step f) (step_sound step f h)

pub empty_sound : (phase : ℕ) → IsSound (empty_in phase)
empty_sound phase h = no_contradiction h

pub advances_law : AdvancesWhenAllArrived
advances_law phase steps run = run_sound steps (empty_in phase) (empty_sound phase)

pub everyone_law : EveryoneIsEachOwner
everyone_law phase members =
    (everyone_each phase members, λ h. everyone_from phase members (λ owner. let same = h owner in omega arith))

pub once_law : ArrivalsCountOnce
once_law f ends h owner = none_arrived f.phase _ f.members (next_differs f.phase) h owner

pub not_ended : (step : FlatStep) (f : Flat) → f.ended ≡ false → flat_step step f ≡ taken step f
not_ended step f e = ap (λ (b : Bool). cond b f (taken step f)) e

kept : (step : FlatStep) (f : Flat) → MayTake step f → is_advance step ≡ false
    → ((taken step f).phase ≡ f.phase)
    × ((owner : ℕ) → arrived_of f.phase owner (taken step f).members ≡ arrived_of f.phase owner f.members + arrivals_of step owner)
kept (Join who count) f h e = (refl, λ owner. let same = newcomers_arrived f.phase who count owner f.members in omega arith)
kept (Arrive who) f h e =
    let p = first_place who f.phase f.members h in (
      refl,
      λ owner.
          ap (arrived_of f.phase owner) p.marked ∙ marked_arrived who f.phase owner p.front p.here p.back p.awaited
          ∙ ap (λ (ms : List Member). arrived_of f.phase owner ms + arrivals_of (Arrive who) owner) (sym p.whole),
    )
kept (Leave who) f h e =
    let p = first_place who f.phase f.members h in (
      refl,
      λ owner.
          let same : arrived_of f.phase owner (taken (Leave who) f).members ≡ arrived_of f.phase owner f.members =
          ap (arrived_of f.phase owner) p.dropped ∙ dropped_arrived who f.phase owner p.front p.here p.back p.awaited
          ∙ ap (arrived_of f.phase owner) (sym p.whole) in
          omega arith,
    )
kept (Advance ends) f h e = no_contradiction (sym e)
kept Force f h e = (refl, λ owner. omega arith)

pub lost_law : NoArrivalIsLost
lost_law f step e h n = rw (not_ended step f e) (kept step f h n)
