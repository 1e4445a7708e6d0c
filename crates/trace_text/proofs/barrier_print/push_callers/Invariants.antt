use Rattle.std.proofs.Common.{◌≡◌, ◌++◌, drop}
use Rattle.trace_text.specs.BarrierAnswers.{callers_text}
use Rattle.trace_text.proofs.barrier_print.push_callers.Given as goal

abbrev pub invariant-loop-caller : goal.invariant-loop-caller
invariant-loop-caller l = l.out.items ++ callers_text (drop l.caller-index l.callers) ≡ l.fn.out.items ++ callers_text l.callers
