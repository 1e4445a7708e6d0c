use Rattle.std.proofs.Common.{◌≡◌, Result, Err, rules, ◌∙◌, drop, [], sym, ap, arith}
use Rattle.std.proofs.lemmas.List.{drop_more}
use Rattle.std.proofs.lemmas.Grind.{common_steps}
use Rattle.trace_text.specs.TreeAnswers.{tree_text, tree_after}
use Rattle.trace_text.specs.declared.fault.TraceFault.{TraceFault}
use Rattle.trace_text.proofs.CommandRuns.{exact, runs_more, runs_stopped, runs_whole, cause_from}
use Rattle.trace_text.proofs.run.run_tree_commands.Goals as goal

pub loop-command-preserved : goal.loop-command-preserved
loop-command-preserved g c = record {
  runs = runs_more tree_text tree_after _ _ _ _ _ _ _ _ _ _ (λ s. s ≡ c.loop-command.core) (λ s. s ≡ c.run_tree_command.new.core)
      (drop_more _ _ _ c.loop-command-test.true) c.loop-command.invariant.runs
      (exact _ c.in_ok-run_tree_command.ensures.moves)
      (λ s e. ap (tree_after _) e ∙ sym c.in_ok-run_tree_command.ensures.after);
  failures = c.in_ok-run_tree_command.ensures.failures ∙ c.loop-command.invariant.failures;
}

pub returns-in_err-run_tree_command-clause-writes : goal.returns-in_err-run_tree_command-clause-writes
returns-in_err-run_tree_command-clause-writes g c =
    let is : ◌≡◌ {A = Result (Unit {0}) TraceFault} c.from_residual.result (Err c.in_err-run_tree_command.field-0.0) = search rules in
    rw is (runs_stopped tree_text tree_after _ _ _ _ c.run_tree_command.new.out.items _ _ _ _ _ (λ s. s ≡ c.loop-command.core) _
    (drop_more _ _ _ c.loop-command-test.true) c.loop-command.invariant.runs
    (exact _ c.in_err-run_tree_command.ensures.moves))

pub returns-clause-writes : goal.returns-clause-writes
returns-clause-writes g c =
    let none : drop c.loop-command.command-index c.args.commands.now ≡ [] = grind (arith, common_steps) in
    runs_whole tree_text tree_after _ _ _ _ _ _ _ _ _ none c.loop-command.invariant.runs c.flush.ensures.writes

pub returns-in_err-run_tree_command-clause-failures : goal.returns-in_err-run_tree_command-clause-failures
returns-in_err-run_tree_command-clause-failures g c =
    let is : ◌≡◌ {A = Result (Unit {0}) TraceFault} c.from_residual.result (Err c.in_err-run_tree_command.field-0.0) = search rules in
    rw is
    (cause_from {T = Unit {0}} _ _ (g.W.CountedWrite.failures c.run_tree_command.new.writer) (Err c.in_err-run_tree_command.field-0.0)
    c.loop-command.invariant.failures c.in_err-run_tree_command.ensures.failures)

pub returns-clause-failures : goal.returns-clause-failures
returns-clause-failures g c =
    cause_from _ _ (g.W.CountedWrite.failures c.flush.new.writer) c.flush.result c.loop-command.invariant.failures c.flush.ensures.failures
