use Rattle.std.proofs.Common.{refl}
use Rattle.text_laws.proofs.SpelledOut.{allowed}
use Rattle.text_laws.proofs.worked.bytes_are_spelled_out.Goals as goal

pub returns : goal.returns
returns c = record {
  allowed = allowed;
  below_line_end = refl;
  line_end = refl;
  below_space = refl;
  space = refl;
  tilde = refl;
  above_tilde = refl;
}
