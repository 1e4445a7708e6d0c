use Rattle.text_laws.proofs.Upgraded.{upgraded-read}
use Rattle.text_laws.proofs.upgrades.upgraded_texts_are_read.Goals as goal

pub returns : goal.returns
returns c = upgraded-read
