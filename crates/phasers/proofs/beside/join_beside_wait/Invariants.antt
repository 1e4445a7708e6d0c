use Rattle.std.proofs.Common.{◌≡◌, ℕ, Some}
use Rattle.phasers.specs.Thin.{HaveTried}
use Rattle.phasers.proofs.beside.join_beside_wait.Given as goal

abbrev pub invariant-loop : goal.invariant-loop
invariant-loop g l =
    (goal.iterator-loop g).can_next l.iterator' × (goal.iterator-loop g).is_finite l.iterator' × HaveTried l.fn.crew l.crew l.fn.door l.door
    × ((phase : ℕ) → l.fn.crew.view.end_seen ≡ Some phase → l.crew.view.end_seen ≡ Some phase)
