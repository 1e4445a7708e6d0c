use Rattle.text_laws.proofs.Upgraded.{twice-once}
use Rattle.text_laws.proofs.upgrades.upgrading_twice_is_upgrading_once.Goals as goal

pub returns : goal.returns
returns c = twice-once
