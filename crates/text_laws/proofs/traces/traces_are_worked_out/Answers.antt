use Rattle.std.proofs.Common.{refl}
use Rattle.std.specs.Fmt as fmt
use Rattle.trace_text.specs.TreeAnswers as tree
use Rattle.tier_shape.specs.InText as in_text
use Rattle.trace_text.specs.Trace as trace
use Rattle.trace_text.specs.Answers as answers
use Rattle.text_laws.proofs.traces.traces_are_worked_out.Goals as goal

pub returns : goal.returns
unfolding trace.asked_of answers.output_of fmt.digits tree.rest_text tree.rest_after in_text.width_in_text
returns c = record { phaser = refl; tree = refl; barrier = refl }
