use Rattle.std.proofs.Common.{◌∙◌, ap, sym, List, ℕ, Vec}
use Rattle.std.specs.Prelude.{option_map}
use Rattle.std.specs.declared.alloc.Global.{Global}
use Rattle.refusal_reasons.specs.Faults.{repaired}
use Rattle.refusal_reasons.proofs.Listed.{ended, last_fault, next_fault, none_left, refusal_is}
use Rattle.refusal_reasons.proofs.faults.faults_of.Goals as goal

pub returns-in_default : goal.returns-in_default
returns-in_default c =
    ended c.loop-left.faults.items _ c.loop-left.left c.loop-left.other.items c.deref.result.now c.in_ok-refusal.field-0
    c.deref.ensures.value
    c.in_ok-refusal.ensures c.in_default.is c.loop-left.invariant

pub returns-in_default-2 : goal.returns-in_default-2
returns-in_default-2 c =
    last_fault c.loop-left.faults.items _ c.push.new.self.items c.loop-left.left c.loop-left.other.items c.in-Some.refusal
    c.loop-left-test.true
    (refusal_is c.loop-left.other.items c.deref.result.now c.in_ok-refusal.field-0 c.in-Some.refusal c.deref.ensures.value c.in_ok-refusal.ensures c.in-Some.is)
    (ap (λ (text : List ℕ). repaired text c.in-Some.refusal) (sym c.deref-in-loop-left.ensures.value)
    ∙ sym c.in_ok-next.ensures
    ∙ ap (option_map (λ (text : Vec ℕ Global). text.items)) c.in_default-2.is)
    c.in_ok-push.ensures.items c.loop-left.invariant

pub loop-left-preserved : goal.loop-left-preserved
loop-left-preserved c =
    next_fault c.loop-left.faults.items _ c.push.new.self.items c.loop-left.left c.loop-left.other.items c.in-Some-2.next.items
    c.in-Some.refusal
    c.loop-left-test.true
    (refusal_is c.loop-left.other.items c.deref.result.now c.in_ok-refusal.field-0 c.in-Some.refusal c.deref.ensures.value c.in_ok-refusal.ensures c.in-Some.is)
    (ap (λ (text : List ℕ). repaired text c.in-Some.refusal) (sym c.deref-in-loop-left.ensures.value)
    ∙ sym c.in_ok-next.ensures
    ∙ ap (option_map (λ (text : Vec ℕ Global). text.items)) c.in-Some-2.is)
    c.in_ok-push.ensures.items c.loop-left.invariant

pub returns : goal.returns
returns c = none_left c.loop-left.faults.items _ c.loop-left.left c.loop-left.other.items c.loop-left-test.false c.loop-left.invariant
