-- What a guest answers that waits for a phase.
use Rattle.std.specs.Prelude.{◌≡◌, ◌≤◌, ◌<◌, ℕ, ℤ, Result, Ok, Err}
use Rattle.tier_calls.specs.Holding.{Holding}
use Rattle.tier_calls.specs.Made.{MadeOnly, is_glance}
use Rattle.tier_calls.specs.Passes.{EndSeen, IsFresh}
use Rattle.tier_calls.specs.Watches.{HasWatchedRoot}
use Rattle.sleepers.specs.declared.TimedOut.{TimedOut}
use Rattle.phasers.specs.declared.answers.TreeEnded.{TreeEnded}

-- a token that has only looked at the root, however often
pub record HasOnlyWatched (old new : Holding) : Type 0 where
  pub tree : new.tree ≡ old.tree
  pub size : new.view.size ≡ old.view.size
  pub tried : new.tried ≡ old.tried
  pub opened : new.opened ≡ old.opened
  pub made : MadeOnly is_glance old.steps new.steps

-- looks at the root, each of which found a phase before this one
pub data HasWaitedFor (phase : ℕ) (old : Holding) : Holding → Type 0 where
  none : HasWaitedFor phase old old
  more : (last new : Holding) → HasWaitedFor phase old last → HasWatchedRoot last new → new.view.phase < phase → HasWaitedFor phase old new

-- the last look of a wait for a phase
abbrev pub LooksAfter : ℕ → Holding → Holding → Type 0
LooksAfter phase old new = (last : Holding) × HasWaitedFor phase old last × HasWatchedRoot last new

-- the phase that it saw at last, which is not before the one that it waited for, or the end of the tree
abbrev pub SeesPhase : ℕ → Holding → Holding → Result ℕ ℤ → Type 0
SeesPhase phase old new (Ok now) =
    HasOnlyWatched old new × LooksAfter phase old new × IsFresh new.view × (now ≡ new.view.phase) × (phase ≤ now)
SeesPhase phase old new (Err shown) = HasOnlyWatched old new × LooksAfter phase old new × EndSeen new.view shown

-- the same, or a wait that was given up: all looks found a phase before that one, and no end
abbrev pub SeesPhaseWithin : ℕ → Holding → Holding → Result (Result ℕ ℤ) TimedOut → Type 0
SeesPhaseWithin phase old new (Ok answer) = SeesPhase phase old new answer
SeesPhaseWithin phase old new (Err fault) = HasOnlyWatched old new × HasWaitedFor phase old new × IsFresh new.view × (new.view.phase < phase)

abbrev pub AwaitsPhase : ℕ → Holding → Holding → Result ℕ TreeEnded → Type 0
AwaitsPhase phase old new (Ok now) = SeesPhase phase old new (Ok now)
AwaitsPhase phase old new (Err fault) = SeesPhase phase old new (Err fault.shown)

abbrev pub AwaitsPhaseWithin : ℕ → Holding → Holding → Result (Result ℕ TreeEnded) TimedOut → Type 0
AwaitsPhaseWithin phase old new (Ok answer) = AwaitsPhase phase old new answer
AwaitsPhaseWithin phase old new (Err fault) = SeesPhaseWithin phase old new (Err fault)
