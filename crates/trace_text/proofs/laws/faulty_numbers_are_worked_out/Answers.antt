use Rattle.std.proofs.Common.{refl}
use Rattle.std.specs.Fmt.{digits}
use Rattle.trace_text.proofs.laws.faulty_numbers_are_worked_out.Goals as goal

pub returns : goal.returns
unfolding digits
returns c = record {
  least = refl;
  at = refl;
  phase = refl;
  parties = refl;
  fails = refl;
  awaited = refl;
  members = refl;
  tier = refl;
  token = refl;
}
