use Rattle.std.proofs.Common.{refl}
use Rattle.std.specs.Fmt as fmt
use Rattle.trace_text.specs.TreeAnswers as tree
use Rattle.tier_shape.specs.InText as in_text
use Rattle.trace_text.specs.Trace as trace
use Rattle.trace_text.specs.Answers as answers
use Rattle.text_laws.proofs.traces.refused_traces_are_worked_out.Goals as goal

pub returns : goal.returns
unfolding trace.asked_of answers.output_of fmt.digits tree.rest_text tree.rest_after in_text.width_in_text
returns c = record {
  begin_most = refl;
  begin_more = refl;
  do_most = refl;
  do_more = refl;
  go_most = refl;
  go_more = refl;
  tier_most = refl;
  tier_more = refl;
  members_most = refl;
  members_more = refl;
  members_none = refl;
  slash_head = refl;
  slash_line = refl;
  colon_is_no_number = refl;
  minus_is_number = refl;
  last_command = refl;
  one_command_more = refl;
  unknown_comes_first = refl;
  number_comes_first = refl;
  barrier_comes_first = refl;
  last_token = refl;
  one_token_more = refl;
  other_command = refl;
  words_come_first = refl;
}
