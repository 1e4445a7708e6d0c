use Rattle.std.proofs.lemmas.Grind.{common_steps}
use Rattle.std.proofs.Common.{◌<◌, ℕ, ap, sym, ◌∙◌, subst, length, arith}
use Rattle.tier_core.specs.Turn.{place}
use Rattle.tier_calls.proofs.Running.{place_within}
use Rattle.tier_calls.proofs.tiers.Tiers.look_next.Goals as goal

pub look-requires-clause-tier : goal.look-requires-clause-tier
look-requires-clause-tier c =
    let b = place_within c.args.self.now.key.shape _ _ _ c.args.progress c.requires.known c.requires.fits c.requires.going in
    subst (λ (t : ℕ). t < length c.args.self.now.key.shape)
    (sym (c.tier_of-tier.ensures ∙ (ap (λ ps. place ps c.args.progress c.view-view.result) c.shape.ensures.value ∙ ap (place c.args.self.now.key.shape c.args.progress) c.view-view.ensures)))
    b

pub returns : goal.returns
returns = grind (arith, common_steps)
