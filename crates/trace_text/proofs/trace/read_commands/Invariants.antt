use Rattle.std.proofs.Common.{◌≡◌, ◌+◌, ◌≤◌, length, vec_len, All}
use Rattle.text_lines.specs.Text.{lines_of}
use Rattle.trace_text.specs.Trace.{commands_from, with_front}
use Rattle.trace_text.proofs.trace.read_commands.Given as goal

abbrev pub invariant-loop-this : goal.invariant-loop-this
invariant-loop-this g l = record {
  same : commands_from g.C.Command.says g.C.Command.brings l.fn.first 0 0 (lines_of l.fn.text)
      ≡ with_front l.commands.items
      (commands_from g.C.Command.says g.C.Command.brings l.line (vec_len l.commands) l.tokens (lines_of l.rest));
  small : l.line + length l.rest ≤ l.fn.first + length l.fn.text;
  few : l.tokens ≤ 256;
  range : All g.C.Command.fits l.commands.items;
}

abbrev pub decreases-loop-this : goal.decreases-loop-this
decreases-loop-this g l = length l.rest
