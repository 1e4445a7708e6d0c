use Rattle.std.proofs.Common.{◌≡◌, ◌+◌, ◌≤◌, length}
use Rattle.text_lines.specs.Text.{lines_of}
use Rattle.trace_text.specs.Trace.{asked_from}
use Rattle.trace_text.proofs.trace.split_head.Given as goal

abbrev pub invariant-loop-first : goal.invariant-loop-first
invariant-loop-first l =
    record {
      same : asked_from 1 (lines_of l.fn.text) ≡ asked_from l.line (lines_of l.rest);
      small : l.line + length l.rest ≤ length l.fn.text + 1;
    }

abbrev pub decreases-loop-first : goal.decreases-loop-first
decreases-loop-first l = length l.rest
