use Rattle.tier_steps.specs.declared.view.Passage.TheVariants.{Arrival}
use Rattle.tier_core.specs.Turn.{end_shown}
use Rattle.tier_calls.specs.Calls.{under}
use Rattle.tier_calls.proofs.Tries.{own_turn}
use Rattle.tier_calls.proofs.tiers.Tiers.arrive_at.Goals as goal

pub pass_tier-requires-clause-turn : goal.pass_tier-requires-clause-turn
pass_tier-requires-clause-turn c = (
  end_shown c.args.token.now.word,
  own_turn c.args.self.now.key (under c.args.token.now c.args.course.now) Arrival c.requires.passing c.requires.stands,
)
