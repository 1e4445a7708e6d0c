-- A call on the state that a number packs is a call on the number.
use Rattle.std.proofs.Common.{◌≡◌, ◌≢◌, ◌≤◌, ◌<◌, ◌<ℤ◌, ◌⊎◌, nat_lt, negsuc, ℕ, ℤ, pos, true, false, nat_eq, ⊎_elim, Option, Some, refl, sym, ◌∙◌, ap, subst, arith}
use Rattle.std.proofs.lemmas.Int.{ints}
use Rattle.std.proofs.lemmas.Grind.{common_steps}
use Rattle.std.proofs.lemmas.Bool.{eqb-true, eq-eqb}
use Rattle.flat_phaser.proofs.Everyone.{either}
use Rattle.phaser_word.specs.Fields.{Fields, IsLegal}
use Rattle.phaser_word.specs.Packed.{packed}
use Rattle.advance_rule.specs.declared.CountPlan.{CountPlan}
use Rattle.flat_phaser.specs.Flat.{Flat}
use Rattle.flat_phaser.specs.Alike.{IsAlike}
use Rattle.phaser_one.specs.declared.call.Call.{Call}
use Rattle.phaser_one.specs.declared.call.Call.TheVariants.{Await}
use Rattle.phaser_one.specs.declared.call.Reply.{Reply}
use Rattle.phaser_one.specs.declared.call.Reply.TheVariants.{Number, Waiting, Refused}
use Rattle.phaser_one.specs.declared.call.OneFault.TheVariants.{TooMany, Full, NobodyUnarrived, Negative}
use Rattle.phaser_one.specs.Calls.{answer, after}
use Rattle.phaser_one.specs.Seen.{Follows, flat_of}
use Rattle.phaser_one.specs.Laws.{is_arrival, is_number}
use Rattle.phaser_one.proofs.WordProofs.{alike_self, alike_words, asks_no_plan, refusals_leave, awaits_leave}
use Rattle.bsp_phaser.specs.Numbers.{IsWordOf, IsNoWord}
use Rattle.bsp_phaser.specs.Steps.{IsStep, Stepped, status_of, answer_of, status_of_new, status_of_count}

reported_one : (r : Reply) → status_of r ≡ pos 1 → ⊥
reported_one (Number phase) e = (let wrong : pos 0 ≡ pos 1 = e in omega (arith, ints, wrong))
reported_one Waiting e = (let wrong : pos 2 ≡ pos 1 = e in omega (arith, ints, wrong))
reported_one (Refused TooMany) e = (let wrong : pos 3 ≡ pos 1 = e in omega (arith, ints, wrong))
reported_one (Refused Full) e = (let wrong : pos 4 ≡ pos 1 = e in omega (arith, ints, wrong))
reported_one (Refused NobodyUnarrived) e = (let wrong : pos 5 ≡ pos 1 = e in omega (arith, ints, wrong))
reported_one (Refused Negative) e = (let wrong : pos 6 ≡ pos 1 = e in omega (arith, ints, wrong))

reported_none : (r : Reply) → status_of r ≢ pos 0 → (is_number r ≡ false) × (answer_of r ≡ pos 0)
reported_none (Number phase) h = absurd (h refl)
reported_none Waiting h = (refl, refl)
reported_none (Refused fault) h = (refl, refl)

-- what isn't done leaves the state as it was
stays : (plan : CountPlan) (call : Call) (w v : Fields) (reply : Reply) → w.unarrived ≤ w.parties → v.unarrived ≤ v.parties
    → Follows plan call w v reply → is_number reply ≡ false → w ≡ v
stays plan call w v reply h k follows r =
    let step = follows (flat_of w) (alike_self (flat_of w)) in
    let same : after plan call (flat_of w) ≡ flat_of w = refusals_leave plan call (flat_of w) refl (ap is_number (sym step.1) ∙ r) in
    let P : Flat → Type 0 = λ f. IsAlike f (flat_of v) in
    alike_words w v h k (subst P same step.0)

pub stepped : (plan : CountPlan) (call : Call) (w v : Fields) (number next : ℕ) (status answer : ℤ) (reply : Reply)
    → IsWordOf w number → ((u : Fields) → IsWordOf u number → w ≡ u) → IsWordOf v next → Follows plan call w v reply
    → status ≡ status_of reply → answer ≡ answer_of reply
    → IsStep plan call number next status answer
stepped plan call w v number next status answer reply word only new follows reported shown = record {
  done = λ u it.
      let P : Fields → Type 0 = λ x. Follows plan call x v reply in
      record { new = v; reply = reply; packs = new; follows = subst P (only u it) follows; reported = reported; shown = shown };
  none = (λ e. absurd (reported_one reply (sym reported ∙ e)), λ nobody. absurd (nobody w word));
  kept = λ other.
      let none = reported_none reply (λ e. other (reported ∙ e)) in
      (sym new.packs ∙ ap packed (sym (stays plan call w v reply word.counted new.counted follows none.0)) ∙ word.packs, shown ∙ none.1);
}

pub no_step : (plan : CountPlan) (call : Call) (number : ℕ) → IsNoWord number → IsStep plan call number number (pos 1) (pos 0)
no_step plan call number none = record {
  done = λ u it. absurd (none u it);
  none = (λ e. none, λ n. refl);
  kept = λ other. (refl, refl);
}

-- a call that asks no plan is a call by each
pub any_plan : (p q : CountPlan) (call : Call) (number next : ℕ) (status answer : ℤ) → is_arrival call ≡ false
    → IsStep p call number next status answer → IsStep q call number next status answer
any_plan p q call number next status answer quiet step = record {
  done = λ u it.
      let s = step.done u it in
      let P : Flat → Type 0 = λ f. IsAlike f (flat_of s.new) in
      record {
        new = s.new;
        reply = s.reply;
        packs = s.packs;
        follows = λ f a. (subst P (asks_no_plan p q call f a.due quiet) ((s.follows f a).0), (s.follows f a).1);
        reported = s.reported;
        shown = s.shown;
      };
  none = step.none;
  kept = step.kept;
}

pub only_word : (o : Option Fields) (w u : Fields) → o ≡ Some w → o ≡ Some u → w ≡ u
only_word o w u e h = let both : Some w ≡ Some u = sym e ∙ h in cc

-- waiting for the end of a phase leaves the number
still : (plan : CountPlan) (phase : ℤ) (w : Fields) (number next : ℕ) (status answer : ℤ) → IsWordOf w number
    → Stepped plan (Await phase) w next status answer → next ≡ number
still plan phase w number next status answer word s =
    let step = s.follows (flat_of w) (alike_self (flat_of w)) in
    let P : Flat → Type 0 = λ f. IsAlike f (flat_of s.new) in
    let same : w ≡ s.new = alike_words w s.new word.counted s.packs.counted (subst P (awaits_leave plan phase (flat_of w) refl) step.0) in
    sym s.packs.packs ∙ ap packed (sym same) ∙ word.packs

pub awaited : (p q : CountPlan) (phase : ℤ) (number next : ℕ) (status answer : ℤ)
    → IsStep p (Await phase) number next status answer → IsStep q (Await phase) number number status answer
awaited p q phase number next status answer step =
    let same : next ≡ number = ⊎_elim
    (λ (e : nat_eq next number ≡ true). eqb-true next number e)
    (λ (e : nat_eq next number ≡ false). absurd
    (let other : next ≢ number = λ same. (let yes' : nat_eq next number ≡ true = eq-eqb next number same in cc) in
    let none : IsNoWord number = λ w it. other (still p phase w number next status answer it (step.done w it)) in
    let one : status ≡ pos 1 = step.none.1 none in
    other ((step.kept (λ z. (let wrong : pos 1 ≡ pos 0 = sym one ∙ z in omega (arith, ints, wrong)))).0)))
    (either (nat_eq next number)) in
    let P : ℕ → Type 0 = λ n. IsStep q (Await phase) number n status answer in
    subst P same (any_plan p q (Await phase) number next status answer refl step)

pub new_status : (w : Fields) (parties : ℤ) (phase : ℕ) → IsLegal w → pos w.parties ≡ parties → phase ≤ 2147483647
    → status_of_new parties phase ≡ pos 0
new_status w parties phase legal e early =
    let phases : nat_lt 2147483647 phase ≡ false = grind (arith, common_steps) in
    let many : nat_lt 65535 w.parties ≡ false = (let few : w.parties ≤ 65535 = legal.parties in grind (arith, common_steps)) in
    let count : status_of_count parties ≡ pos 0 = ap status_of_count (sym e) ∙ (rw many refl) in
    rw phases count

pub many_status : (parties : ℤ) (phase : ℕ) → (parties <ℤ pos 0) ⊎ (pos 65535 <ℤ parties) → phase ≤ 2147483647
    → pos 3 ≡ status_of_new parties phase
many_status (negsuc n) phase h early = let phases : nat_lt 2147483647 phase ≡ false = grind (arith, common_steps) in rw phases refl
many_status (pos n) phase h early =
    let phases : nat_lt 2147483647 phase ≡ false = grind (arith, common_steps) in
    let many : nat_lt 65535 n ≡ true =
    ⊎_elim (λ low. absurd (let l : pos n <ℤ pos 0 = low in omega (arith, ints, l)))
    (λ high. (let l : pos 65535 <ℤ pos n = high in let m : 65535 < n = omega (arith, ints, l) in grind (arith, common_steps))) h in
    rw (phases, many) refl

pub late_status : (parties : ℤ) (phase : ℕ) → 2147483647 < phase → pos 1 ≡ status_of_new parties phase
late_status parties phase late = let phases : nat_lt 2147483647 phase ≡ true = grind (arith, common_steps) in rw phases refl
