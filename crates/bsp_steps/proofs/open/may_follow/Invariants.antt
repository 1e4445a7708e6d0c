use Rattle.std.proofs.Common.{◌≤◌, ◌-◌, [], map, take, drop, length}
use Rattle.bsp_steps.specs.Given.{array_given, MayFollow}
use Rattle.bsp_steps.proofs.open.may_follow.Given as goal

abbrev pub invariant-loop-place : goal.invariant-loop-place
invariant-loop-place l = record {
  rest : MayFollow [] l.fn.given → MayFollow (map array_given (take l.place l.given)) (drop l.place l.given);
  all : MayFollow (map array_given (take l.place l.given)) (drop l.place l.given) → MayFollow [] l.fn.given;
  within : l.place ≤ length l.given;
}

abbrev pub decreases-loop-place : goal.decreases-loop-place
decreases-loop-place l = length l.given - l.place
