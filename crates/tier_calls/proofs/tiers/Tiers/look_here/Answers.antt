use Rattle.std.proofs.Common.{◌<◌, ℕ, ap, sym, subst, length}
use Rattle.tier_steps.specs.declared.view.View.{View}
use Rattle.tier_calls.proofs.Waits.{seat_within}
use Rattle.tier_calls.proofs.StayingHere.{crew_looked}
use Rattle.tier_calls.proofs.tiers.Tiers.look_here.Goals as goal

pub look-requires-clause-tier : goal.look-requires-clause-tier
look-requires-clause-tier c =
    subst (λ (t : ℕ). t < length c.args.self.now.key.shape) (sym (ap (λ (v : View). v.tier) c.view-tier.ensures))
    (seat_within c.requires.own c.requires.crew c.word.ensures.beside)

pub returns-clause-keeps : goal.returns-clause-keeps
returns-clause-keeps c = crew_looked c.requires.crew c.requires.some (ap (λ (v : View). v.tier) c.view-tier.ensures) c.look.ensures
