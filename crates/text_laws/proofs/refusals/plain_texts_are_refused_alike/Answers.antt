use Rattle.text_laws.proofs.Held.{refused-alike}
use Rattle.text_laws.proofs.refusals.plain_texts_are_refused_alike.Goals as goal

pub returns : goal.returns
returns c = refused-alike
