use Rattle.std.proofs.Common.{refl}
use Rattle.refusal_reasons.proofs.laws.places_are_of_refusals.Goals as goal

pub returns : goal.returns
returns c = λ text r m. (refl, refl)
