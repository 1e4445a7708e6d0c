use Rattle.std.proofs.Common.{rules, ◌≡◌, ℕ, List, [], true, not, eqb, ap, sym, ◌∙◌}
use Rattle.std.proofs.lemmas.Fn.{filter_same}
use Rattle.cyclic_gate.specs.Steps.{Answer, is_in, others, Breaks}
use Rattle.cyclic_gate.proofs.state.BarrierState.abandon.Goals as goal

abbrev broken_in : Answer → List ℕ
broken_in (Breaks callers) = callers
broken_in _ = []

pub returns-clause-answer : goal.returns-clause-answer
returns-clause-answer c =
    let found : is_in c.args.caller c.args.self.now.waiting ≡ true = sym c.is_waiting.ensures ∙ c.if-not-is_waiting.false in
    let kept = filter_same _ (λ x. not (eqb x c.args.caller)) _ (λ x b f k. search rules) _ _ c.retain.ensures.filtered in
    rw found (ap Breaks (ap (others c.args.caller) (ap broken_in c.break_off-others.ensures.answer) ∙ sym kept))
