use Rattle.text_laws.proofs.Joined.{canonical-read}
use Rattle.text_laws.proofs.laws.canonical_texts_are_read.Goals as goal

pub returns : goal.returns
returns c = canonical-read
