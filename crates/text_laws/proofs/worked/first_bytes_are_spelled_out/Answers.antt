use Rattle.std.proofs.Common.{refl}
use Rattle.text_laws.proofs.SpelledOut.{meant_as_number, skipped}
use Rattle.text_laws.proofs.worked.first_bytes_are_spelled_out.Goals as goal

pub returns : goal.returns
returns c = record {
  skipped = λ d ds ws. skipped d;
  number = λ d ds. meant_as_number d;
  count = refl;
  comments = refl;
  numbers = refl;
}
