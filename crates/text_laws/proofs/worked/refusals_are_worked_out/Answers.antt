use Rattle.std.proofs.Common.{refl}
use Rattle.std.specs.Fmt as fmt
use Rattle.task_code.specs.Names as names
use Rattle.job_reader.specs.Words as words
use Rattle.job_reader.specs.Exprs as exprs
use Rattle.job_reader.specs.Lines as lines
use Rattle.job_reader.specs.Reading as reading
use Rattle.text_laws.proofs.worked.refusals_are_worked_out.Goals as goal

pub returns : goal.returns
unfolding fmt.digits names.is_reserved reading.job_in reading.outer_of words.index_of words.in_index exprs.cell_of exprs.operand_of
    exprs.in_operand exprs.operator_of lines.keyword_of lines.line_behind lines.mentions_behind
returns c = record {
  nesting_first = refl;
  words_before_reserved = refl;
  words_before_operands = refl;
  few_words_before_reserved = refl;
  reserved_before_name = refl;
  reserved_behind_name = refl;
  reserved_before_number = refl;
  name_before_number = refl;
  name_behind_number = refl;
  number_before_length = refl;
  number_before_unknown = refl;
  name_before_unknown = refl;
  number_before_twice = refl;
  length_before_twice = refl;
  length_before_many = refl;
  twice_before_many = refl;
  many = refl;
  many_mentions = refl;
  let_alone = refl;
  put_alone = refl;
  add_alone = refl;
  print_alone = refl;
  spawn_alone = refl;
  if_alone = refl;
  while_alone = refl;
  array_alone = refl;
  body_alone = refl;
  start_alone = refl;
  start_without = refl;
  slash_counts = refl;
  slash_in_body = refl;
  colon_is_name = refl;
  first_line = refl;
  line_before_missing = refl;
  two_missing = refl;
  two_missing_behind = refl;
  unclosed_before_missing = refl;
  byte_before_line = refl;
}
