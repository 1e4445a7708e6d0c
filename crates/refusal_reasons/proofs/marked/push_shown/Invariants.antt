use Rattle.std.proofs.Common.{◌≡◌, ◌++◌, drop}
use Rattle.refusal_reasons.specs.Reasons.{shown}
use Rattle.refusal_reasons.proofs.marked.push_shown.Given as goal

abbrev pub invariant-loop-byte : goal.invariant-loop-byte
invariant-loop-byte l = l.out.items ++ shown (drop l.byte-index l.line) ≡ l.fn.out.items ++ shown l.line
