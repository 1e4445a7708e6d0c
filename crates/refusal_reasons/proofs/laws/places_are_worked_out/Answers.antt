use Rattle.std.proofs.Common.{refl}
use Rattle.std.specs.Fmt as fmt
use Rattle.task_code.specs.Names as names
use Rattle.job_reader.specs.Lines as lines
use Rattle.refusal_reasons.proofs.laws.places_are_worked_out.Goals as goal

pub returns : goal.returns
unfolding fmt.digits names.is_reserved lines.keyword_of
returns c = record {
  number = refl;
  name = refl;
  reserved = refl;
  array = refl;
  local = refl;
  body = refl;
  twice = refl;
  long = refl;
  line = refl;
  words = refl;
  byte = refl;
  unclosed = refl;
  cell_name = refl;
  cell_number = refl;
  cell_reserved = refl;
  put_value = refl;
  compared = refl;
  own_name = refl;
  other_local = refl;
  value = refl;
  length = refl;
  argument = refl;
  twice_listed = refl;
  last_listed = refl;
}
