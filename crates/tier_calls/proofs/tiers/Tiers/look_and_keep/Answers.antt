use Rattle.std.proofs.Common.{subst, sym}
use Rattle.tier_calls.specs.Groups.{GroupHeld, AllLooked}
use Rattle.tier_calls.proofs.Keeping.{found_after}
use Rattle.tier_calls.proofs.tiers.Tiers.look_and_keep.Goals as goal

pub invariant_of-group : goal.invariant_of-group
invariant_of-group c =
    let looked =
    subst (λ (z : GroupHeld). AllLooked 0 c.look_all-word.result 0 c.args.group.now z) (sym c.group.view_is) c.look_all-word.ensures in
    (c.group.invariant.0, found_after c.group.inside.seat.me c.kept_after-group-inside.result looked c.kept_after-group-inside.ensures)
