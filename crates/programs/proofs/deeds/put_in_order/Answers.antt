use Rattle.std.proofs.lemmas.Grind.{common_steps}
use Rattle.std.proofs.Common.{◌≡◌, ◌+◌, ◌++◌, ◌∷◌, List, arith, ◌∙◌, sym, ap, subst, length, reverse}
use Rattle.std.specs.Prelude.{take}
use Rattle.std.specs.Option.{option_map}
use Rattle.std.proofs.lemmas.List.{length-append, length-reverse}
use Rattle.superstep_memory.specs.PathOrder.{in_path_order}
use Rattle.programs.specs.DeedsView.{behind, deeds_with, spawned_by}
use Rattle.programs.specs.InPlace.{living_with, kept}
use Rattle.programs.specs.Regroup.{AreWithin, HasPut}
use Rattle.programs.proofs.Listed.{behind_length, take_length}
use Rattle.programs.proofs.Regrouping.{IsAlong, goes_along, goes_within, ends_apart, ends_within, outside}
use Rattle.programs.proofs.Turned.{reverse_last, reverse_none}
use Rattle.programs.proofs.deeds.put_in_order.Goals as goal

pub loop-deed-preserved : goal.loop-deed-preserved
loop-deed-preserved g c =
    let q = g.T.OnPath.path_of in
    let bound = option_map (λ p. p.items) c.args.bound.now in
    let v = c.loop-deed.invariant in
    let d = c.in-Some.deed in
    let u = c.in-Some-pop.task in
    let us = reverse c.pop.new.self.items in
    let es = c.in-Some.after in
    let ss = reverse c.loop-deed.spawns.items in
    let end = in_path_order q (living_with (reverse c.args.tasks.now.items) (deeds_with c.args.each (reverse c.args.spawns.now.items))) in
    let tasks : reverse c.loop-deed.tasks.items ≡ u ∷ us = ap reverse c.in-Some-pop.ensures.items ∙ reverse_last c.pop.new.self.items u in
    let each : c.loop-deed.rest ≡ d ∷ es = c.in-Some.ensures in
    let left : reverse c.put_next.new.spawns.items ≡ behind d.spawned ss = c.put_next.ensures.rest in
    let total : d.spawned + spawned_by es ≡ length c.loop-deed.spawns.items = ap spawned_by (sym each) ∙ v.all in
    let long = length-reverse c.loop-deed.spawns.items in
    let rest = behind_length d.spawned ss (omega (arith, total, long)) in
    let taken = take_length d.spawned ss (omega (arith, total, long)) in
    let shorter : length c.put_next.new.spawns.items ≡ length (behind d.spawned ss) =
    sym (length-reverse c.put_next.new.spawns.items) ∙ ap length left in
    let living = living_with us (deeds_with es (behind d.spawned ss)) in
    let many : length (living_with (reverse c.loop-deed.tasks.items) (deeds_with c.loop-deed.rest ss))
    ≡ length ((kept d.synced u ++ take d.spawned ss) ++ living) =
    (λ i. length (living_with (tasks i) (deeds_with (each i) ss))) in
    let split = length-append (kept d.synced u ++ take d.spawned ss) living in
    let parts = length-append (kept d.synced u) (take d.spawned ss) in
    let fewer : length (living_with us (deeds_with es (reverse c.put_next.new.spawns.items))) ≡ length living =
    (λ i. length (living_with us (deeds_with es (left i)))) in
    let along : IsAlong q end c.loop-deed.living.items (reverse c.loop-deed.waiting.items) (u ∷ us) (deeds_with (d ∷ es) ss) =
    subst
    (λ (xs : List g.row.T.Denot). IsAlong q end c.loop-deed.living.items (reverse c.loop-deed.waiting.items) xs (deeds_with (d ∷ es) ss))
    tasks
    (subst (λ xs. IsAlong q end c.loop-deed.living.items (reverse c.loop-deed.waiting.items) (reverse c.loop-deed.tasks.items) (deeds_with xs ss)) each v.along) in
    let put : HasPut q bound u d.synced us (take d.spawned ss) c.loop-deed.living.items c.put_next.new.living.items
    (reverse c.loop-deed.waiting.items) (reverse c.put_next.new.waiting.items) =
    subst
    (λ (xs : List g.row.T.Denot). HasPut q bound u d.synced (reverse xs) (take d.spawned ss) c.loop-deed.living.items
    c.put_next.new.living.items (reverse c.loop-deed.waiting.items) (reverse c.put_next.new.waiting.items))
    c.deref.ensures.value c.put_next.ensures.put in
    record {
      same = let l = ap length each in omega (arith, v.same, c.in-Some-pop.ensures.cases, l);
      all = omega (arith, total, rest, long, shorter);
      along =
          subst
          (λ (xs : List g.row.T.Denot). IsAlong q end c.put_next.new.living.items (reverse c.put_next.new.waiting.items) us (deeds_with es xs))
          (sym left)
          (goes_along q bound end c.loop-deed.living.items (reverse c.loop-deed.waiting.items) us c.put_next.new.living.items (reverse c.put_next.new.waiting.items) u
          (record { synced = d.synced; puts = d.puts; spawns = take d.spawned ss }) (deeds_with es (behind d.spawned ss)) along
          put);
      within = λ h.
          let w = v.within h in
          let here : AreWithin q bound (u ∷ us) = subst (AreWithin q bound) tasks w.1 in (
            goes_within q bound c.loop-deed.living.items (reverse c.loop-deed.waiting.items) us c.put_next.new.living.items
                (reverse c.put_next.new.waiting.items) (take d.spawned ss) u d.synced put w.0 here,
            here.1,
          );
      capacity = omega (arith, v.capacity, many, split, parts, taken, fewer, c.put_next.ensures.count, c.put_next.ensures.capacity.0);
      wait = omega (arith, v.wait, c.put_next.ensures.wait, c.put_next.ensures.capacity.1, rest, long, shorter);
    }

pub returns-clause-living : goal.returns-clause-living
returns-clause-living g c =
    let q = g.T.OnPath.path_of in
    let v = c.loop-deed.invariant in
    let bound = option_map (λ p. p.items) c.args.bound.now in
    let end = in_path_order q (living_with (reverse c.args.tasks.now.items) (deeds_with c.args.each (reverse c.args.spawns.now.items))) in
    let ds = deeds_with c.loop-deed.rest (reverse c.loop-deed.spawns.items) in
    let none = reverse_none c.loop-deed.tasks.items (omega (arith, v.same, ap length c.in_default.ensures)) in
    ends_apart q bound end c.loop-deed.living.items (reverse c.loop-deed.waiting.items) c.move_within.new.living.items
    (reverse c.move_within.new.waiting.items) ds
    (subst (λ (xs : List g.row.T.Denot). IsAlong q end c.loop-deed.living.items (reverse c.loop-deed.waiting.items) xs ds) none v.along)
    c.move_within.ensures.moved

pub returns-clause-strays : goal.returns-clause-strays
returns-clause-strays g c =
    let q = g.T.OnPath.path_of in
    let v = c.loop-deed.invariant in
    let bound = option_map (λ p. p.items) c.args.bound.now in
    let end = in_path_order q (living_with (reverse c.args.tasks.now.items) (deeds_with c.args.each (reverse c.args.spawns.now.items))) in
    let ds = deeds_with c.loop-deed.rest (reverse c.loop-deed.spawns.items) in
    let none = reverse_none c.loop-deed.tasks.items (omega (arith, v.same, ap length c.in_default.ensures)) in
    outside q bound end c.loop-deed.living.items (reverse c.loop-deed.waiting.items) c.move_within.new.living.items
    (reverse c.move_within.new.waiting.items) ds
    (subst (λ (xs : List g.row.T.Denot). IsAlong q end c.loop-deed.living.items (reverse c.loop-deed.waiting.items) xs ds) none v.along)
    c.move_within.ensures.moved c.move_within.ensures.rest

pub returns-clause-within : goal.returns-clause-within
returns-clause-within g c = λ h.
    let q = g.T.OnPath.path_of in
    let bound = option_map (λ p. p.items) c.args.bound.now in
    ends_within q bound c.loop-deed.living.items (reverse c.loop-deed.waiting.items) c.move_within.new.living.items
    (reverse c.move_within.new.waiting.items) c.move_within.ensures.moved (c.loop-deed.invariant.within h).0

pub put_next-requires-clause-capacity : goal.put_next-requires-clause-capacity
put_next-requires-clause-capacity = grind (arith, common_steps)
