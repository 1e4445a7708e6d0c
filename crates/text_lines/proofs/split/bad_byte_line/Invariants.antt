use Rattle.std.proofs.Common.{◌≡◌, ◌+◌, ◌≤◌, drop}
use Rattle.text_lines.specs.Text.{bad_byte_line}
use Rattle.text_lines.proofs.split.bad_byte_line.Given as goal

abbrev pub invariant-loop-byte : goal.invariant-loop-byte
invariant-loop-byte l =
    record { same : bad_byte_line 1 l.fn.text ≡ bad_byte_line l.line (drop l.byte-index l.text); small : l.line ≤ l.byte-index + 1 }
