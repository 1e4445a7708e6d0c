use Rattle.text_laws.proofs.Joined.{texts-are-read}
use Rattle.text_laws.proofs.laws.texts_are_read_as_their_jobs.Goals as goal

pub returns : goal.returns
returns c = texts-are-read
