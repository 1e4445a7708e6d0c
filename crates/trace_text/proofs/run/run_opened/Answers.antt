use Rattle.std.proofs.Common.{◌≡◌, ◌∙◌, Bool, true, false, ℤ, FitsSigned, w64, to_z, of_z, ap, subst, arith, rules}
use Rattle.std.proofs.lemmas.Int.{ints}
use Rattle.advance_rule.specs.declared.CountPlan.{CountPlan}
use Rattle.phaser_one.specs.Calls.{opened}
use Rattle.trace_text.specs.Answers.{command_text, command_after, opened_text}
use Rattle.trace_text.specs.Runs.{run_text}
use Rattle.trace_text.specs.Outcome.{Writes}
use Rattle.trace_text.proofs.TracedRuns.{opened_writes}
use Rattle.trace_text.proofs.run.run_opened.Goals as goal

pub returns-in-Ok-clause-writes : goal.returns-in-Ok-clause-writes
returns-in-Ok-clause-writes g c =
    let W : CountPlan → Type 0 =
    λ plan. Writes (g.W.CountedWrite.contents c.args.writer.now) (g.W.CountedWrite.contents c.run_commands.new.writer) c.run_commands.result
    (run_text command_text (command_after plan) c.args.commands.now (opened c.in-Ok.phaser.word.parties c.args.head.phase)) in
    let parties : ℤ = to_z w64 (of_z w64 c.args.head.parties) in
    let fits : FitsSigned w64 c.args.head.parties = search rules in
    let back : parties ≡ c.args.head.parties = omega (arith, ints, fits) in
    let T : ℤ → Type 0 =
    λ n. Writes (g.W.CountedWrite.contents c.args.writer.now) (g.W.CountedWrite.contents c.run_commands.new.writer) c.run_commands.result
    (opened_text c.args.head.plan c.args.commands.now c.args.head.phase n) in
    subst T back
    (opened_writes _ _ c.run_commands.result c.args.head.plan c.args.commands.now c.args.head.phase c.in-Ok.phaser.word.parties parties
    c.in-Ok.ensures.word.0 (λ out. absurd (let wrong : ◌≡◌ {A = Bool} false true = c.in-Ok.ensures.refused.1 out in cc))
    (subst W (ap (λ r. r.plan) c.in-Ok.ensures.rule ∙ c.requires.plan)
    (c.run_commands.ensures.writes (opened c.in-Ok.phaser.word.parties c.args.head.phase) c.in-Ok.ensures.word.1)))
