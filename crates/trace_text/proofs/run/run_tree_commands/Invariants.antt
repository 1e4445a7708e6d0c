use Rattle.std.proofs.Common.{◌≡◌, drop}
use Rattle.trace_text.specs.TreeAnswers.{tree_text, tree_after}
use Rattle.trace_text.proofs.CommandRuns.{RunsOn}
use Rattle.trace_text.proofs.run.run_tree_commands.Given as goal

abbrev pub invariant-loop-command : goal.invariant-loop-command
invariant-loop-command g l =
    record {
      runs : RunsOn tree_text tree_after (g.W.CountedWrite.contents l.fn.writer) (g.W.CountedWrite.contents l.writer)
          l.lines.items l.fn.commands (drop l.command-index l.commands) l.fn.core (λ s. s ≡ l.core);
      failures : g.W.CountedWrite.failures l.writer ≡ g.W.CountedWrite.failures l.fn.writer;
    }
