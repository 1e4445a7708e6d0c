-- Sixteen steps are enough for a command that goes on with a call.
use Rattle.std.proofs.Common.{◌≡◌, inl, inr, ℕ, zero, suc, ◌+◌, ◌<◌, Bool, true, false, List, ◌++◌, length, refl, sym, ap, ◌∙◌, subst, arith}
use Rattle.std.specs.Prelude.{if◌then◌else◌, codes}
use Rattle.std.proofs.lemmas.Bool.{lt-ltb}
use Rattle.std.proofs.lemmas.List.{get_or-set_same}
use Rattle.tier_core.specs.declared.call.Call.{Call}
use Rattle.tier_core.specs.declared.call.Answer.TheVariants as answer
use Rattle.tier_core.specs.declared.call.Played.{Played}
use Rattle.tier_core.specs.declared.call.Played.TheVariants as played
use Rattle.tier_core.specs.declared.call.Progress.{Progress}
use Rattle.tier_core.specs.declared.call.Progress.TheVariants.{Idle, Begun}
use Rattle.tier_core.specs.declared.call.Step.TheVariants as step
use Rattle.tier_core.specs.Machine.{State, IsCore, call_at}
use Rattle.tier_core.specs.Run.{is_idle, may_begin, begun, after, answer_to}
use Rattle.tier_core.proofs.Runs.{begun_core}
use Rattle.tier_laws.specs.Reports.{is_last}
use Rattle.tier_laws.specs.Count.{IsAnswered, IsAnsweredWithin}
use Rattle.tier_laws.proofs.Along.{begun_known}
use Rattle.tier_laws.proofs.Sixteen.{sixteen_steps_are_enough}
use Rattle.trace_text.specs.TreeAnswers.{call_of, has_tier, is_token, rest_text, rest_after, going_on, is_underway, advance_reported, answer_text}
use Rattle.text_laws.specs.Enough.{RunsReachTheirAnswer, CallsDoneReachTheirAnswer}

-- a call that has its last answer doesn't go on
not_underway : (p : Played) → is_last p ≡ true → is_underway (answer.Played p) ≡ false
not_underway played.GoesOn e = cc
not_underway (played.Done phase) e = refl
not_underway (played.Passed phase) e = refl
not_underway played.Waiting e = refl
not_underway (played.Held phase why) e = refl
not_underway (played.Full parties) e = refl
not_underway (played.AlreadyArrived phase) e = refl
not_underway (played.Ended shown) e = refl
not_underway (played.MustAdvance phase parties) e = cc

pub answered : (s : State) (token : ℕ) → IsAnswered s token → is_underway (answer_to s (going_on s token)) ≡ false
answered s token a = ap is_underway a.answer ∙ not_underway a.played a.last

-- if it goes on, what comes is the same
same_part : {A : Type 0} (b : Bool) (x y z : A) → (b ≡ true → x ≡ y) → (if b then x else z) ≡ (if b then y else z)
same_part true x y z h = h refl
same_part false x y z h = refl

no_more : {A : Type 0} (b : Bool) → b ≡ false → b ≡ true → A
no_more b f t = let bad : true ≡ false = sym t ∙ f in absurd cc

pub text_step : (steps token : ℕ) (s : State)
    → rest_text (suc steps) token s
    ≡ advance_reported s token
    ++ (if is_underway (answer_to s (going_on s token)) then rest_text steps token (after s (going_on s token))
    else answer_text (answer_to s (going_on s token)))
unfolding rest_text
text_step steps token s = refl

pub after_step : (steps token : ℕ) (s : State)
    → rest_after (suc steps) token s
    ≡ (if is_underway (answer_to s (going_on s token)) then rest_after steps token (after s (going_on s token))
    else after s (going_on s token))
unfolding rest_after
after_step steps token s = refl

one_text : (n more token : ℕ) (s : State)
    → (is_underway (answer_to s (going_on s token)) ≡ true
    → rest_text (n + more) token (after s (going_on s token)) ≡ rest_text n token (after s (going_on s token)))
    → rest_text (suc n + more) token s ≡ rest_text (suc n) token s
one_text n more token s h =
    let e : suc n + more ≡ suc (n + more) = omega arith in
    ap (λ (k : ℕ). rest_text k token s) e ∙ text_step (n + more) token s
    ∙ ap (λ (l : List ℕ). advance_reported s token ++ l)
    (same_part (is_underway (answer_to s (going_on s token))) (rest_text (n + more) token (after s (going_on s token)))
    (rest_text n token (after s (going_on s token))) (answer_text (answer_to s (going_on s token))) h)
    ∙ sym (text_step n token s)

one_after : (n more token : ℕ) (s : State)
    → (is_underway (answer_to s (going_on s token)) ≡ true
    → rest_after (n + more) token (after s (going_on s token)) ≡ rest_after n token (after s (going_on s token)))
    → rest_after (suc n + more) token s ≡ rest_after (suc n) token s
one_after n more token s h =
    let e : suc n + more ≡ suc (n + more) = omega arith in
    ap (λ (k : ℕ). rest_after k token s) e ∙ after_step (n + more) token s
    ∙ same_part (is_underway (answer_to s (going_on s token))) (rest_after (n + more) token (after s (going_on s token)))
    (rest_after n token (after s (going_on s token))) (after s (going_on s token)) h
    ∙ sym (after_step n token s)

same_text : (n more token : ℕ) (s : State) → IsAnsweredWithin n token s → rest_text (n + more) token s ≡ rest_text n token s
same_text zero more token s h = absurd h
same_text (suc n) more token s (inl a) =
    one_text n more token s (no_more (is_underway (answer_to s (going_on s token))) (answered s token a))
same_text (suc n) more token s (inr h) = one_text n more token s (λ on. same_text n more token (after s (going_on s token)) h)

same_after : (n more token : ℕ) (s : State) → IsAnsweredWithin n token s → rest_after (n + more) token s ≡ rest_after n token s
same_after zero more token s h = absurd h
same_after (suc n) more token s (inl a) =
    one_after n more token s (no_more (is_underway (answer_to s (going_on s token))) (answered s token a))
same_after (suc n) more token s (inr h) = one_after n more token s (λ on. same_after n more token (after s (going_on s token)) h)

pub runs_reach : RunsReachTheirAnswer
runs_reach s token more tiers core known going =
    let within : IsAnsweredWithin 16 token s = sixteen_steps_are_enough s token tiers core known going in
    let is : is_token s token ≡ true = lt-ltb token (length s.views) known in (
      ap (λ (b : Bool). if b then rest_text 16 token s else codes "no token\n") is ∙ sym (same_text 16 more token s within),
      ap (λ (b : Bool). if b then rest_after 16 token s else s) is ∙ sym (same_after 16 more token s within),
    )

pub begun_goes : (s : State) (token : ℕ) (c : Call) → IsCore s → may_begin s token c ≡ true
    → is_idle (call_at (begun s token c).calls token) ≡ false
begun_goes s token c core may =
    subst (λ (p : Progress). is_idle p ≡ false)
    (sym (get_or-set_same s.calls token (Begun c) Idle (let l = core.long in let h = begun_known s token c may in omega arith))) refl

pub calls_reach : CallsDoneReachTheirAnswer
calls_reach s token more c tiers core is tier may =
    let k : Call = call_of c in
    let now : State = begun s token k in
    let known : token < length s.views = begun_known s token k may in
    let within : IsAnsweredWithin 16 token now =
    sixteen_steps_are_enough now token tiers (begun_core s token k core is may) known (begun_goes s token k core may) in
    let here : is_token s token ≡ true = lt-ltb token (length s.views) known in
    let begins : after s (step.Begin token k) ≡ now = ap (λ (b : Bool). if b then now else s) may in (
      ap
          (λ (b : Bool). if b
          then (if has_tier s c then (if may_begin s token k then rest_text 16 token (after s (step.Begin token k)) else codes "not now\n")
          else codes "no tier\n")
          else codes "no token\n")
          here
          ∙ ap
          (λ (b : Bool). if b then (if may_begin s token k then rest_text 16 token (after s (step.Begin token k)) else codes "not now\n")
          else codes "no tier\n")
          tier
          ∙ ap (λ (b : Bool). if b then rest_text 16 token (after s (step.Begin token k)) else codes "not now\n") may
          ∙ ap (rest_text 16 token) begins ∙ sym (same_text 16 more token now within),
      ap (λ (b : Bool). if b then rest_after 16 token (after s (step.Begin token k)) else s) may
          ∙ ap (rest_after 16 token) begins ∙ sym (same_after 16 more token now within),
    )
