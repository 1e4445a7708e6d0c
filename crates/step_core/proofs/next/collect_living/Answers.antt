use Rattle.std.proofs.Common.{◌∙◌, arith}
use Rattle.step_core.specs.SlotParts.{path_in, living_by, living_of}
use Rattle.superstep_memory.proofs.InOrder.{put_next_all, length_cut}
use Rattle.step_core.proofs.Deeds.{living_last}
use Rattle.step_core.proofs.next.collect_living.Goals as goal

pub put_done-requires : goal.put_done-requires
put_done-requires c = record {
  capacity =
      let cut = living_last c.loop-one.done.items c.pop.new.self.items c.in-Some.one c.in-Some.ensures.items in
      let l = length_cut _ (living_by c.pop.new.self.items) (living_of c.in-Some.one) cut in
      omega (arith, l, c.loop-one.invariant.capacity);
}

pub loop-one-preserved : goal.loop-one-preserved
loop-one-preserved c =
    let cut = living_last c.loop-one.done.items c.pop.new.self.items c.in-Some.one c.in-Some.ensures.items in
    record {
      items =
          put_next_all path_in (living_by c.loop-one.done.items) (living_by c.pop.new.self.items) (living_of c.in-Some.one)
          c.loop-one.living.items c.put_done.new.living.items _ cut c.put_done.ensures.items c.loop-one.invariant.items;
      capacity =
          let l = length_cut _ (living_by c.pop.new.self.items) (living_of c.in-Some.one) cut in
          omega (arith, l, c.loop-one.invariant.capacity, c.put_done.ensures.more, c.put_done.ensures.capacity);
      done = c.in-Some.ensures.capacity ∙ c.loop-one.invariant.done;
    }
