use Rattle.std.proofs.Common.{◌≡◌, Result, Err, rules, ◌∙◌, drop, [], sym, ap, arith}
use Rattle.std.proofs.lemmas.List.{drop_more}
use Rattle.std.proofs.lemmas.Grind.{common_steps}
use Rattle.trace_text.specs.BarrierAnswers.{barrier_text, barrier_after}
use Rattle.trace_text.specs.declared.fault.TraceFault.{TraceFault}
use Rattle.trace_text.proofs.CommandRuns.{exact, runs_more, runs_stopped, runs_whole, cause_from}
use Rattle.trace_text.proofs.run.run_barrier_commands.Goals as goal

pub loop-command-preserved : goal.loop-command-preserved
loop-command-preserved g c =
    let plan = c.args.core.now.action.plan in
    record {
      runs =
          runs_more (barrier_text plan) (barrier_after plan) _ _ _ _ _ _ _ _ _ _ (λ m. m ≡ c.loop-command.core.barrier)
          (λ m. m ≡ c.run_barrier_command.new.core.barrier)
          (drop_more _ _ _ c.loop-command-test.true) c.loop-command.invariant.runs
          (exact _ (rw c.loop-command.invariant.action at c.in_ok-run_barrier_command.ensures.moves))
          (λ m e. ap (barrier_after plan _) e ∙ sym (rw c.loop-command.invariant.action at c.in_ok-run_barrier_command.ensures.after));
      action = c.in_ok-run_barrier_command.ensures.action ∙ c.loop-command.invariant.action;
      failures = c.in_ok-run_barrier_command.ensures.failures ∙ c.loop-command.invariant.failures;
    }

pub returns-in_err-run_barrier_command-clause-writes : goal.returns-in_err-run_barrier_command-clause-writes
returns-in_err-run_barrier_command-clause-writes g c =
    let plan = c.args.core.now.action.plan in
    let is : ◌≡◌ {A = Result (Unit {0}) TraceFault} c.from_residual.result (Err c.in_err-run_barrier_command.field-0.0) = search rules in
    rw is
    (runs_stopped (barrier_text plan) (barrier_after plan) _ _ _ _ c.run_barrier_command.new.out.items _ _ _ _ _ (λ m. m ≡ c.loop-command.core.barrier) _
    (drop_more _ _ _ c.loop-command-test.true) c.loop-command.invariant.runs
    (exact _ (rw c.loop-command.invariant.action at c.in_err-run_barrier_command.ensures.moves)))

pub returns-clause-writes : goal.returns-clause-writes
returns-clause-writes g c =
    let plan = c.args.core.now.action.plan in
    let none : drop c.loop-command.command-index c.args.commands.now ≡ [] = grind (arith, common_steps) in
    runs_whole (barrier_text plan) (barrier_after plan) _ _ _ _ _ _ _ _ _ none c.loop-command.invariant.runs c.flush.ensures.writes

pub returns-in_err-run_barrier_command-clause-failures : goal.returns-in_err-run_barrier_command-clause-failures
returns-in_err-run_barrier_command-clause-failures g c =
    let is : ◌≡◌ {A = Result (Unit {0}) TraceFault} c.from_residual.result (Err c.in_err-run_barrier_command.field-0.0) = search rules in
    rw is
    (cause_from {T = Unit {0}} _ _ (g.W.CountedWrite.failures c.run_barrier_command.new.writer)
    (Err c.in_err-run_barrier_command.field-0.0) c.loop-command.invariant.failures c.in_err-run_barrier_command.ensures.failures)

pub returns-clause-failures : goal.returns-clause-failures
returns-clause-failures g c =
    cause_from _ _ (g.W.CountedWrite.failures c.flush.new.writer) c.flush.result c.loop-command.invariant.failures c.flush.ensures.failures
