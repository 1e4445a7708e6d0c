use Rattle.std.proofs.Common.{◌≡◌, ◌<◌, length, ap, inl, inr, arith}
use Rattle.tier_table.proofs.AtLeaves.{once, all_by_leaf, stops_by_leaf, with_one, with_none, one_longer, stopped_at, completed, all_after}
use Rattle.tier_table.proofs.GroupsLasting.{split_then}
use Rattle.tier_table.proofs.beginning.register_leaves.Goals as goal
use Rattle.tier_table.proofs.beginning.register_leaves.Goals.{in_default-2, in_default-2-2}

pub returns-in-Err-clause-refused : goal.returns-in-Err-clause-refused
returns-in-Err-clause-refused g c =
    let kept = c.loop-count.invariant in
    let reported = c.in-Err.ensures.answer in (
      kept.all_fit,
      stopped_at c.args.tiers.now c.args.phase c.in-Some-Some.leaf.now c.in-Some-Some.count.now c.args.leaves.now c.args.counts.now
          c.loop-count.places.now c.loop-count.rest.now c.in-Some-Some.others.now
          c.in-Some-Some.more.now c.loop-count.groups.items c.in-Err.answer c.in-Some-Some.ensures'.cases.0 c.in-Some-Some.ensures.cases.0
          c.if-count-gt0.true reported.0 reported.1
          (kept.stops c.in-Some-Some.leaf.now c.in-Err.answer),
    )

pub loop-count-preserved-in-Ok : goal.loop-count-preserved-in-Ok
loop-count-preserved-in-Ok g c =
    let kept = c.loop-count.invariant in
    let n = c.args.tiers.now in
    record {
      groups =
          with_one n c.args.phase c.args.leaves.now c.args.counts.now c.loop-count.places.now c.loop-count.rest.now
          c.in-Some-Some.others.now c.in-Some-Some.more.now c.in-Some-Some.leaf.now c.in-Some-Some.count.now
          c.loop-count.groups.items c.push_reserved.new.self.items c.in-Ok.group (all_by_leaf n c.args.phase)
          c.in-Some-Some.ensures'.cases.0 c.in-Some-Some.ensures.cases.0 c.if-count-gt0.true
          c.in-Ok.ensures.answer c.push_reserved.ensures.items kept.groups;
      stops = λ tier answer.
          with_one n c.args.phase c.args.leaves.now c.args.counts.now c.loop-count.places.now c.loop-count.rest.now
          c.in-Some-Some.others.now c.in-Some-Some.more.now c.in-Some-Some.leaf.now c.in-Some-Some.count.now
          c.loop-count.groups.items c.push_reserved.new.self.items c.in-Ok.group (stops_by_leaf n c.args.phase tier answer)
          c.in-Some-Some.ensures'.cases.0 c.in-Some-Some.ensures.cases.0 c.if-count-gt0.true
          c.in-Ok.ensures.answer c.push_reserved.ensures.items (kept.stops tier answer);
      all_fit = kept.all_fit;
      door = split_then kept.door (once c.register_leaf.ensures.same);
      opened =
          let e = one_longer c.loop-count.groups.items c.push_reserved.new.self.items c.in-Ok.group c.push_reserved.ensures.items in
          let d = ap (λ h. h.opened) c.register_leaf.ensures.same in
          let o = kept.opened in
          omega (arith, e, d, o);
      tiers =
          all_after (λ leaf. leaf < length n.key.shape) c.in-Some-Some.leaf.now c.in-Some-Some.others.now c.loop-count.places.now
          c.in-Some-Some.ensures'.cases.0 kept.tiers;
      capacity =
          let r = kept.capacity in
          let e = ap length c.in-Some-Some.ensures.cases.0 in
          let l = c.push_reserved.ensures.len in
          let k = c.push_reserved.ensures.capacity in
          omega (arith, r, e, l, k);
    }

pub loop-count-preserved : goal.loop-count-preserved
loop-count-preserved g c =
    let kept = c.loop-count.invariant in
    let n = c.args.tiers.now in
    let none : c.in-Some-Some.count.now ≡ 0 = let f = c.if-count-gt0.false in omega (arith, f) in
    record {
      groups =
          with_none n c.args.phase c.args.leaves.now c.args.counts.now c.loop-count.places.now c.loop-count.rest.now
          c.in-Some-Some.others.now c.in-Some-Some.more.now c.in-Some-Some.leaf.now c.in-Some-Some.count.now
          c.loop-count.groups.items (all_by_leaf n c.args.phase) c.in-Some-Some.ensures'.cases.0 c.in-Some-Some.ensures.cases.0 none
          kept.groups;
      stops = λ tier answer.
          with_none n c.args.phase c.args.leaves.now c.args.counts.now c.loop-count.places.now c.loop-count.rest.now
          c.in-Some-Some.others.now c.in-Some-Some.more.now c.in-Some-Some.leaf.now c.in-Some-Some.count.now
          c.loop-count.groups.items (stops_by_leaf n c.args.phase tier answer) c.in-Some-Some.ensures'.cases.0
          c.in-Some-Some.ensures.cases.0 none (kept.stops tier answer);
      all_fit = kept.all_fit;
      door = kept.door;
      opened = kept.opened;
      tiers =
          all_after (λ leaf. leaf < length n.key.shape) c.in-Some-Some.leaf.now c.in-Some-Some.others.now c.loop-count.places.now
          c.in-Some-Some.ensures'.cases.0 kept.tiers;
      capacity = let r = kept.capacity in let e = ap length c.in-Some-Some.ensures.cases.0 in omega (arith, r, e);
    }

pub returns-clause-groups : goal.returns-clause-groups
returns-clause-groups g c =
    completed c.args.tiers.now c.args.phase c.args.leaves.now c.args.counts.now c.loop-count.places.now c.loop-count.rest.now
    c.loop-count.groups.items
    (elim c.match-split_first.branch [
      | in_default-2 w ↦ inr (rw w.in_default-2.is-1 at c.split_first-in-loop-count.ensures.cases)
      | in_default-2-2 w ↦ inl w.in_default-2.ensures.cases
    ])
    c.loop-count.invariant.groups
