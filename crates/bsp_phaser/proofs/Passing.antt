-- A phase passes if all have arrived.
use Rattle.std.proofs.Common.{◌≡◌, ◌≤◌, ◌<◌, ℕ, Bool, true, false, cond, ⊎_elim, ◌⊎◌, inl, inr, nat_lt, Option, None, Some, refl, sym, ◌∙◌, ap, arith}
use Rattle.std.proofs.lemmas.Grind.{common_steps}
use Rattle.advance_rule.specs.declared.CountPlan.{CountPlan}
use Rattle.flat_phaser.specs.declared.FlatStep.{FlatStep}
use Rattle.flat_phaser.specs.Flat.{Flat, registered, unarrived}
use Rattle.flat_phaser.specs.Step.{taken}
use Rattle.flat_phaser.proofs.Everyone.{either}
use Rattle.phaser_one.specs.declared.call.Call.{Call}
use Rattle.phaser_one.specs.Calls.{answer, after, is_refused, settled, step_of, taken_by}
use Rattle.phaser_one.specs.Laws.{Advances, Stays}
use Rattle.phaser_one.specs.Seen.{flat_of}
use Rattle.phaser_one.proofs.Following.{registered_is, unarrived_is, unchanged}
use Rattle.phaser_one.proofs.LawProofs.{moves_by_one, not_all}
use Rattle.phaser_one.proofs.WordProofs.{alike_self}
use Rattle.bsp_phaser.specs.Runs.{NoPhasePassesEarly}

taken_same : (step : Option FlatStep) (f : Flat) → f.ended ≡ true → taken_by step f ≡ f
taken_same None f e = refl
taken_same (Some s) f e = ap (λ (b : Bool). cond b f (taken s f)) e

called_same : (b : Bool) (call : Call) (f : Flat) → f.ended ≡ true → cond b f (taken_by (step_of call) f) ≡ f
called_same true call f e = refl
called_same false call f e = taken_same (step_of call) f e

ended_after : (plan : CountPlan) (call : Call) (f : Flat) → f.ended ≡ true → f.due ≡ false → after plan call f ≡ f
ended_after plan call f e d = ap (settled plan) (called_same (is_refused (answer call f)) call f e) ∙ unchanged plan true f f d refl

at_most_one : (n : ℕ) → (n ≤ 1) ⊎ (1 < n)
at_most_one n = ⊎_elim
    (λ (e : nat_lt 1 n ≡ true). inr (grind (arith, common_steps)))
    (λ (e : nat_lt 1 n ≡ false). inl (grind (arith, common_steps)))
    (either (nat_lt 1 n))

pub passes : NoPhasePassesEarly
passes plan call old number next status answer step word other =
    let s = step.done old word in
    let f = flat_of old in
    let alike = (s.follows f (alike_self f)).0 in
    let counted = s.packs.counted in
    let few : old.unarrived ≤ 1 = ⊎_elim
    (λ (h : old.unarrived ≤ 1). h)
    (λ (h : 1 < old.unarrived). absurd
    (let many : unarrived f ≡ old.unarrived = unarrived_is f old word.counted (alike_self f) in
    let stays = not_all plan call f refl (omega arith) in
    other (sym alike.phase ∙ stays.phase)))
    (at_most_one old.unarrived) in
    ⊎_elim
    (λ (e : old.ended ≡ true). absurd (other (sym alike.phase ∙ ap (λ (g : Flat). g.phase) (ended_after plan call f e refl))))
    (λ (e : old.ended ≡ false). ⊎_elim
    (λ (a : Advances plan call f).
    let all : registered (after plan call f) ≡ s.new.parties = registered_is (after plan call f) s.new counted alike in
    let absent : unarrived (after plan call f) ≡ s.new.unarrived = unarrived_is (after plan call f) s.new counted alike in
    record { last = few; next = sym alike.phase ∙ a.next; fresh = sym absent ∙ a.nobody_has_arrived ∙ sym a.everybody_stays ∙ all })
    (λ (h : Stays plan call f). absurd (other (sym alike.phase ∙ h.phase)))
    (moves_by_one plan call f e refl))
    (either old.ended)
