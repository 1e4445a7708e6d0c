use Rattle.std.proofs.Common.{◌≡◌, Result, Err, rules, ◌∙◌, drop, [], refl}
use Rattle.std.proofs.lemmas.List.{drop_more}
use Rattle.std.proofs.lemmas.Grind.{common_steps}
use Rattle.std.proofs.Common.{arith}
use Rattle.trace_text.specs.declared.fault.TraceFault.{TraceFault}
use Rattle.trace_text.proofs.CommandRuns.{runs_begin, runs_more, runs_stopped, runs_whole, cause_from}
use Rattle.trace_text.proofs.run.run_commands.Goals as goal

pub loop-command-preserved : goal.loop-command-preserved
loop-command-preserved g c = record {
  flat = λ f s.
      runs_more _ _ _ _ _ _ _ _ _ _ _ f _ _ (drop_more _ _ _ c.loop-command-test.true) (c.loop-command.invariant.flat f s)
      c.in_ok-run_command.ensures.moves (rw c.loop-command.invariant.rule at c.in_ok-run_command.ensures.after);
  rule = c.in_ok-run_command.ensures.rule ∙ c.loop-command.invariant.rule;
  failures = c.in_ok-run_command.ensures.failures ∙ c.loop-command.invariant.failures;
}

pub returns-in_err-run_command-clause-writes : goal.returns-in_err-run_command-clause-writes
returns-in_err-run_command-clause-writes g c = λ f s.
    let is : ◌≡◌ {A = Result (Unit {0}) TraceFault} c.from_residual.result (Err c.in_err-run_command.field-0.0) = search rules in
    rw is
    (runs_stopped _ _ _ _ _ _ c.run_command.new.out.items _ _ _ _ f _ _ (drop_more _ _ _ c.loop-command-test.true) (c.loop-command.invariant.flat f s)
    c.in_err-run_command.ensures.moves)

pub returns-clause-writes : goal.returns-clause-writes
returns-clause-writes g c = λ f s.
    let none : drop c.loop-command.command-index c.args.commands.now ≡ [] = grind (arith, common_steps) in
    runs_whole _ _ _ _ _ _ _ _ f _ _ none (c.loop-command.invariant.flat f s) c.flush.ensures.writes

pub returns-in_err-run_command-clause-failures : goal.returns-in_err-run_command-clause-failures
returns-in_err-run_command-clause-failures g c =
    let is : ◌≡◌ {A = Result (Unit {0}) TraceFault} c.from_residual.result (Err c.in_err-run_command.field-0.0) = search rules in
    rw is
    (cause_from {T = Unit {0}} _ _ (g.W.CountedWrite.failures c.run_command.new.writer) (Err c.in_err-run_command.field-0.0)
    c.loop-command.invariant.failures c.in_err-run_command.ensures.failures)

pub returns-clause-failures : goal.returns-clause-failures
returns-clause-failures g c =
    cause_from _ _ (g.W.CountedWrite.failures c.flush.new.writer) c.flush.result c.loop-command.invariant.failures c.flush.ensures.failures

pub loop-command-init : goal.loop-command-init
loop-command-init g c = record {
  flat = λ f s. rw c.new-out.ensures.items (runs_begin _ _ _ _ f _ s);
  rule = refl;
  failures = refl;
}
