use Rattle.std.proofs.Common.{◌≢◌, ℕ, Ok, refl, ap, ◌∙◌, inl}
use Rattle.tier_calls.proofs.Waits.{waited_for}
use Rattle.tier_table.specs.declared.waiting.AwaitedAdvance.TheVariants as awaited
use Rattle.tier_table.proofs.groups.await_after.Goals as goal

pub returns-then-now-phase-clause-answer : goal.returns-then-now-phase-clause-answer
returns-then-now-phase-clause-answer g c =
    let differs : c.args.group.view.phase ≢ c.args.phase = λ e. c.if-now-phase.true (c.phase-now.ensures ∙ e) in
    inl (differs, refl, ap (λ (p : ℕ). Ok (awaited.Passed p)) c.phase-now.ensures, waited_for c.args.group.tree c.args.phase c.args.group.view.phase differs)
