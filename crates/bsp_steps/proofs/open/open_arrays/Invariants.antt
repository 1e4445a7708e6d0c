use Rattle.std.proofs.Common.{◌≡◌, ◌≤◌, ◌-◌, ◌++◌, [], true, map, drop, length}
use Rattle.std.specs.List.{list_all}
use Rattle.bsp_steps.specs.Given.{array_given, is_named, is_small, MayFollow}
use Rattle.bsp_steps.proofs.open.open_arrays.Given as goal

abbrev pub invariant-loop-place : goal.invariant-loop-place
invariant-loop-place l = record {
  made : l.arrays ++ map array_given (drop l.place l.given) ≡ map array_given l.fn.given;
  rest : MayFollow [] l.fn.given → MayFollow l.arrays (drop l.place l.given);
  all : MayFollow l.arrays (drop l.place l.given) → MayFollow [] l.fn.given;
  named : list_all is_named (drop l.place l.given) ≡ true;
  small : list_all is_small (drop l.place l.given) ≡ true;
  within : l.place ≤ length l.given;
}

abbrev pub decreases-loop-place : goal.decreases-loop-place
decreases-loop-place l = length l.given - l.place
