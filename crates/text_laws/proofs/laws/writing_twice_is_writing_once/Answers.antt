use Rattle.text_laws.proofs.Joined.{twice-once}
use Rattle.text_laws.proofs.laws.writing_twice_is_writing_once.Goals as goal

pub returns : goal.returns
returns c = twice-once
