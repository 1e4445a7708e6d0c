use Rattle.std.proofs.Common.{◌≡◌, drop}
use Rattle.trace_text.specs.BarrierAnswers.{barrier_text, barrier_after}
use Rattle.trace_text.proofs.CommandRuns.{RunsOn}
use Rattle.trace_text.proofs.run.run_barrier_commands.Given as goal

abbrev pub invariant-loop-command : goal.invariant-loop-command
invariant-loop-command g l =
    record {
      runs : RunsOn (barrier_text l.fn.core.action.plan) (barrier_after l.fn.core.action.plan) (g.W.CountedWrite.contents l.fn.writer)
          (g.W.CountedWrite.contents l.writer)
          l.lines.items l.fn.commands (drop l.command-index l.commands) l.fn.core.barrier (λ m. m ≡ l.core.barrier);
      action : l.core.action ≡ l.fn.core.action;
      failures : g.W.CountedWrite.failures l.writer ≡ g.W.CountedWrite.failures l.fn.writer;
    }
