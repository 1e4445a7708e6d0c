use Rattle.std.proofs.Common.{◌≡◌, drop}
use Rattle.flat_phaser.specs.Flat.{Flat}
use Rattle.flat_phaser.specs.Alike.{IsAlike}
use Rattle.phaser_one.specs.Seen.{flat_of}
use Rattle.trace_text.specs.Answers.{command_text, command_after}
use Rattle.trace_text.proofs.CommandRuns.{RunsOn}
use Rattle.trace_text.proofs.run.run_commands.Given as goal

abbrev pub invariant-loop-command : goal.invariant-loop-command
invariant-loop-command g l =
    record {
      flat : (f : Flat) → IsAlike f (flat_of l.fn.phaser.word)
          → RunsOn command_text (command_after l.fn.phaser.rule.plan) (g.W.CountedWrite.contents l.fn.writer)
          (g.W.CountedWrite.contents l.writer)
          l.out.items l.fn.commands (drop l.command-index l.commands) f (λ h. IsAlike h (flat_of l.phaser.word));
      rule : l.phaser.rule ≡ l.fn.phaser.rule;
      failures : g.W.CountedWrite.failures l.writer ≡ g.W.CountedWrite.failures l.fn.writer;
    }
