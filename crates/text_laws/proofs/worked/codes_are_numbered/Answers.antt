use Rattle.std.proofs.Common.{refl}
use Rattle.text_laws.proofs.worked.codes_are_numbered.Goals as goal

pub returns : goal.returns
returns c = refl
