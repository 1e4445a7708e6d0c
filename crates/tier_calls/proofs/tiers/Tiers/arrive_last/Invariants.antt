use Rattle.tier_steps.specs.declared.kind.Kind.TheVariants.{Arrive}
use Rattle.tier_rule.specs.Group.{all_stepped}
use Rattle.tier_calls.specs.Holding.{sight_of}
use Rattle.tier_calls.specs.Kept.{as_seat}
use Rattle.tier_calls.proofs.tiers.Tiers.arrive_last.Given as goal

abbrev pub ghosts-go_from : goal.ghosts-go_from
ghosts-go_from g a = record {
  key = a.self.now.key;
  from = a.word;
  to = a.next;
  sights = all_stepped Arrive 1 a.tier (sight_of (as_seat g.B.Begun.before)).view a.word g.B.Begun.before;
}
