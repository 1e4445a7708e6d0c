use Rattle.std.proofs.Common.{◌≡◌, ◌∙◌}
use Rattle.tier_table.specs.Closes.{held}
use Rattle.test_phasers.specs.declared.shared.duties.Actor.{Actor}
use Rattle.test_phasers.proofs.Held.{all_kept}
use Rattle.test_phasers.proofs.shared.threads.actors_of.Goals as goal

pub loop-duties-preserved : goal.loop-duties-preserved
loop-duties-preserved g c = (
  (λ i. (c.split.ensures.same i).tree) ∙ c.loop-duties.invariant.0,
  all_kept (λ (a : Actor). (held a.token).tree ≡ c.args.tree.now.tree) _ _ _ _ c.push.ensures.items c.loop-duties.invariant.1
      c.split.ensures.new.own,
)
