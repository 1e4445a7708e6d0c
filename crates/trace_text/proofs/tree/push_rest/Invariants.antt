use Rattle.std.proofs.Common.{◌≡◌, ◌-◌, ◌++◌}
use Rattle.trace_text.specs.TreeAnswers.{rest_text, rest_after}
use Rattle.trace_text.proofs.tree.push_rest.Given as goal

-- what is printed and what is still to come are the text of the whole call
abbrev pub invariant-loop : goal.invariant-loop
invariant-loop l = record {
  text : l.out.items ++ rest_text (16 - l.counter) l.token l.core ≡ l.fn.out.items ++ rest_text 16 l.fn.token l.fn.core;
  after : rest_after (16 - l.counter) l.token l.core ≡ rest_after 16 l.fn.token l.fn.core;
}
