use Rattle.std.proofs.Common.{◌∙◌}
use Rattle.std.specs.Prelude.{codes, decimal}
use Rattle.trace_text.proofs.PrintedLines.{field_and_text}
use Rattle.trace_text.proofs.barrier_print.push_barrier_rest.Goals as goal

pub returns : goal.returns
returns c =
    field_and_text c.extend_from_slice.result c.args.out.now.items _ _ (codes " generation ") (decimal c.args.generation) _ _
    c.in_ok-push_field.ensures (c.as_bytes.ensures.value ∙ c.broken_line.ensures) c.extend_from_slice.ensures.items
