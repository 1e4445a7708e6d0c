use Rattle.phasers.specs.Late.{HasOnlyWatched, HasWaitedFor}
use Rattle.phasers.proofs.late.await_phase_within.Given as goal

abbrev pub invariant-loop : goal.invariant-loop
invariant-loop g l =
    (goal.iterator-loop g).can_next l.iterator' × (goal.iterator-loop g).is_finite l.iterator' × HasOnlyWatched l.fn.door l.door
    × HasWaitedFor l.phase l.fn.door l.door
