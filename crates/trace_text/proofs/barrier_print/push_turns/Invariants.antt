use Rattle.std.proofs.Common.{◌≡◌, ◌++◌, drop}
use Rattle.trace_text.specs.BarrierAnswers.{turns_text}
use Rattle.trace_text.proofs.barrier_print.push_turns.Given as goal

abbrev pub invariant-loop-caller : goal.invariant-loop-caller
invariant-loop-caller l = l.out.items ++ turns_text (drop l.caller-index l.turns) ≡ l.fn.out.items ++ turns_text l.turns
