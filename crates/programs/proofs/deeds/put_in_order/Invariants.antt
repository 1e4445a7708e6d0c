use Rattle.std.proofs.Common.{◌≡◌, ◌+◌, ◌≤◌, length, reverse}
use Rattle.std.specs.Option.{option_map}
use Rattle.std.specs.Vec.{vec_len, vec_capacity}
use Rattle.superstep_memory.specs.PathOrder.{in_path_order}
use Rattle.programs.specs.InPlace.{living_with}
use Rattle.programs.specs.DeedsView.{deeds_with, spawned_by}
use Rattle.programs.specs.Regroup.{AreWithin}
use Rattle.programs.proofs.Regrouping.{IsAlong}
use Rattle.programs.proofs.deeds.put_in_order.Given as goal

abbrev pub invariant-loop-deed : goal.invariant-loop-deed
invariant-loop-deed g l = record {
  same : length l.tasks.items ≡ length l.rest;
  all : spawned_by l.rest ≡ length l.spawns.items;
  along : IsAlong g.T.OnPath.path_of
      (in_path_order g.T.OnPath.path_of (living_with (reverse l.fn.tasks.items) (deeds_with l.fn.each (reverse l.fn.spawns.items))))
      l.living.items (reverse l.waiting.items) (reverse l.tasks.items) (deeds_with l.rest (reverse l.spawns.items));
  within : AreWithin g.T.OnPath.path_of (option_map (λ p. p.items) l.fn.bound) (reverse l.fn.tasks.items)
      → AreWithin g.T.OnPath.path_of (option_map (λ p. p.items) l.fn.bound) l.living.items
      × AreWithin g.T.OnPath.path_of (option_map (λ p. p.items) l.fn.bound) (reverse l.tasks.items);
  capacity : vec_len l.living + vec_len l.waiting
      + length (living_with (reverse l.tasks.items) (deeds_with l.rest (reverse l.spawns.items)))
      ≤ vec_capacity l.living;
  wait : vec_len l.waiting + length l.spawns.items ≤ vec_capacity l.waiting;
}

abbrev pub decreases-loop-deed : goal.decreases-loop-deed
decreases-loop-deed g l = length l.rest
