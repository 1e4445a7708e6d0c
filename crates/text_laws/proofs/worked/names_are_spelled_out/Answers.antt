use Rattle.std.proofs.Common.{refl}
use Rattle.text_laws.proofs.SpelledOut.{from_to, in_name, reserved}
use Rattle.text_laws.proofs.worked.names_are_spelled_out.Goals as goal

pub returns : goal.returns
returns c = record {
  first = λ d ds. from_to 97 122 d;
  all = in_name;
  letters_begin = refl;
  count = refl;
  in_names = refl;
  longest = refl;
  too_long = refl;
  none = refl;
  reserved = reserved;
  seventeen = refl;
}
