use Rattle.std.proofs.Common.{◌≡◌, [], ◌∷◌, ◌++◌, ◌∙◌, length, ap, arith}
use Rattle.std.specs.Vec.Iter.{into_iter_items}
use Rattle.tier_table.proofs.AtLeaves.{once}
use Rattle.tier_table.proofs.GroupsLasting.{split_then}
use Rattle.phasers.proofs.EachGroup.{moved, all_later}
use Rattle.phasers.proofs.parties.parties_of.Goals as goal

pub loop-group-preserved : goal.loop-group-preserved
loop-group-preserved g c =
    let kept = c.loop-group.invariant in
    let rest = into_iter_items c.loop-group.group-iterator in
    let others = into_iter_items c.next.new.self in
    let step = c.in-Some.ensures.steps.0 in (
      tt,
      tt,
      split_then kept.2 (once c.open_door-door.ensures.counted),
      moved c.loop-group.parties.items c.push_reserved.new.self.items rest others c.args.groups.items c.in-Some.group step
          (c.push_reserved.ensures.items ∙ ap (λ z. c.loop-group.parties.items ++ (z ∷ [])) c.of.ensures) kept.3,
      all_later (λ group. group.tree ≡ c.args.shared.now) c.in-Some.group rest others step kept.4,
      let r = kept.5 in
          let e = ap length step in
          let l = c.push_reserved.ensures.len in
          let k = c.push_reserved.ensures.capacity in
          omega (arith, r, e, l, k),
    )
