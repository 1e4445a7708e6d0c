use Rattle.text_laws.proofs.CanonicalJob.{canonical-text}
use Rattle.text_laws.proofs.canonical.canonical_texts_are_texts.Goals as goal

pub returns : goal.returns
returns c = canonical-text
