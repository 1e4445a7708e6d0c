use Rattle.std.proofs.Common.{◌+◌, ◌/◌}
use Rattle.tier_shape.proofs.Levels.{child_pushed}
use Rattle.tier_shape.proofs.widths.push_level.Goals as goal

pub loop-place-preserved : goal.loop-place-preserved
loop-place-preserved c =
    child_pushed (λ place. c.args.first + place / c.args.width) c.loop-place.place c.args.parents.now.items c.loop-place.parents.items
    c.push.new.self.items
    c.loop-place.invariant c.in_ok-push.ensures.items
