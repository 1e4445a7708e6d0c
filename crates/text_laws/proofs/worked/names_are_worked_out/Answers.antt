use Rattle.std.proofs.Common.{refl}
use Rattle.std.specs.Fmt as fmt
use Rattle.task_code.specs.Names as names
use Rattle.job_reader.specs.Words as words
use Rattle.job_reader.specs.Exprs as exprs
use Rattle.job_reader.specs.Lines as lines
use Rattle.job_reader.specs.Reading as reading
use Rattle.text_laws.proofs.worked.names_are_worked_out.Goals as goal

pub returns : goal.returns
unfolding fmt.digits names.is_reserved reading.job_in reading.outer_of words.index_of words.in_index exprs.cell_of exprs.operand_of
    exprs.in_operand exprs.operator_of lines.keyword_of lines.line_behind lines.mentions_behind
returns c = record {
  colon = refl;
  slash = refl;
  capital = refl;
  caret = refl;
  quote = refl;
  brace = refl;
  digit = refl;
  underscore = refl;
  adding = refl;
  putting = refl;
  header = refl;
}
