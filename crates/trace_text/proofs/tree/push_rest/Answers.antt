use Rattle.std.proofs.Common.{◌≡◌, ◌+◌, ◌-◌, ◌++◌, ℕ, Bool, Result, Ok, Err, sym, ap, ◌∙◌, arith}
use Rattle.std.specs.Prelude.{OnOk}
use Rattle.tier_core.specs.declared.call.Answer.{Answer}
use Rattle.tier_core.specs.declared.call.Step.{Step}
use Rattle.tier_core.specs.Machine.{State}
use Rattle.tier_core.specs.Run.{answer_to, after}
use Rattle.trace_text.specs.TreeAnswers.{going_on, is_underway, answer_text, rest_text, rest_after}
use Rattle.trace_text.proofs.TreeRuns.{goes_text, goes_after, ends_text, ends_after, spent_text, spent_after}
use Rattle.trace_text.proofs.tree.push_rest.Goals as goal

on_ok : {A E : Type 0} {P Q : Type 0} (result : Result A E) → OnOk result P → (P → Q) → OnOk result Q
on_ok (Ok a) p f = f p
on_ok (Err e) p f = p

always : {A E : Type 0} {Q : Type 0} (result : Result A E) → Q → OnOk result Q
always (Ok a) q = q
always (Err e) q = tt

-- the answer is that of the step
underway : (s : State) (token : ℕ) (step : Step) (a : Answer) (b : Bool) → step ≡ going_on s token → a ≡ answer_to s step
    → b ≡ is_underway a
    → is_underway (answer_to s (going_on s token)) ≡ b
underway s token step a b e f g = sym (g ∙ ap is_underway f ∙ ap (λ x. is_underway (answer_to s x)) e)

pub returns-then-not-is_underway-clause-text : goal.returns-then-not-is_underway-clause-text
returns-then-not-is_underway-clause-text c =
    let u =
    underway c.loop.core c.args.token _ _ _ c.going_on.ensures c.step-answer.ensures.answer c.is_underway.ensures
    ∙ c.if-not-is_underway.true in
    let a : c.step-answer.result ≡ answer_to c.loop.core (going_on c.loop.core c.args.token) =
    c.step-answer.ensures.answer ∙ ap (answer_to c.loop.core) c.going_on.ensures in
    on_ok c.push_answer.result c.push_answer.ensures (λ text.
    text ∙ ap (λ x. c.push_advance_of.new.out.items ++ answer_text x) a
    ∙ ends_text _ _ _ _ _ _ c.loop-test.true (c.in_ok-push_advance_of.ensures) u c.loop.invariant.text)

pub returns-then-not-is_underway-clause-after : goal.returns-then-not-is_underway-clause-after
returns-then-not-is_underway-clause-after c =
    let u =
    underway c.loop.core c.args.token _ _ _ c.going_on.ensures c.step-answer.ensures.answer c.is_underway.ensures
    ∙ c.if-not-is_underway.true in
    always c.push_answer.result
    (c.step-answer.ensures.after ∙ ap (after c.loop.core) c.going_on.ensures ∙ ends_after _ _ _ _ c.loop-test.true u c.loop.invariant.after)

pub loop-preserved : goal.loop-preserved
loop-preserved c =
    let u =
    underway c.loop.core c.args.token _ _ _ c.going_on.ensures c.step-answer.ensures.answer c.is_underway.ensures
    ∙ c.if-not-is_underway.false in
    let next : c.step-answer.new.self ≡ after c.loop.core (going_on c.loop.core c.args.token) =
    c.step-answer.ensures.after ∙ ap (after c.loop.core) c.going_on.ensures in
    record {
      text = ap (λ s. c.push_advance_of.new.out.items ++ rest_text (16 - (c.loop.counter + 1)) c.args.token s) next
          ∙ goes_text _ _ _ _ _ _ c.loop-test.true (c.in_ok-push_advance_of.ensures) u c.loop.invariant.text;
      after =
          ap (λ s. rest_after (16 - (c.loop.counter + 1)) c.args.token s) next
          ∙ goes_after _ _ _ _ c.loop-test.true u c.loop.invariant.after;
    }

pub returns-clause-text : goal.returns-clause-text
returns-clause-text c = spent_text _ _ _ _ _ (omega arith) c.loop.invariant.text

pub returns-clause-after : goal.returns-clause-after
returns-clause-after c = spent_after _ _ _ _ (omega arith) c.loop.invariant.after
