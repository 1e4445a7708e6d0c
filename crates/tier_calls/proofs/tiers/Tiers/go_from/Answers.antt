use Rattle.tier_calls.proofs.Keeping.{from_may, from_gone}
use Rattle.tier_calls.proofs.tiers.Tiers.go_from.Goals as goal

pub go_together-requires-clause-may : goal.go_together-requires-clause-may
go_together-requires-clause-may g c = from_may c.requires.from c.requires.may

pub returns-clause-gone : goal.returns-clause-gone
returns-clause-gone g c = from_gone c.args.next c.go_together.new.seat.me _ c.go_together.result c.requires.from c.go_together.ensures.gone
