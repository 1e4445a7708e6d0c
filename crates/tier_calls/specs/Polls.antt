-- What a poll answers, by the view of its token (not part of Java's API).
use Rattle.std.specs.Prelude.{◌≡◌, ◌<◌, ◌⊎◌}
use Rattle.tier_steps.specs.declared.kind.Kind.TheVariants.{Refresh}
use Rattle.tier_steps.specs.Word.{next_phase_of}
use Rattle.tier_calls.specs.Holding.{Holding, Lost}
use Rattle.tier_calls.specs.Passes.{EndSeen, IsFresh}
use Rattle.tier_calls.specs.Made.{HasLooked}
use Rattle.tier_calls.specs.Arrives.{IsLooked, IsSoon}
use Rattle.tier_calls.specs.declared.polling.Polled.{Polled}
use Rattle.tier_calls.specs.declared.polling.Polled.TheVariants.{Passed, Waiting, Here, Ended}

-- all members had arrived in the phase before, and this one is the next
pub record HasPassedOn (old new : Holding) : Type 0 where
  pub all : old.view.arrived ≡ old.view.size
  pub next : new.view.phase ≡ next_phase_of old.view.phase
  pub nobody : new.view.arrived ≡ 0

-- What each answer says. All but Ended follow a look that cleared the mark of an advance and did not see the end. Here says that no phase
-- has passed since the look before.
abbrev pub Polls : Holding → Holding → Polled → Type 0
Polls old new (Passed phase) =
    IsSoon 1 old new × IsLooked old.view new.view × IsFresh new.view × HasPassedOn old new × (phase ≡ new.view.phase)
    × HasLooked old.steps new.steps
Polls old new Waiting =
    IsSoon 1 old new × IsLooked old.view new.view × IsFresh new.view × (new.view.arrived ≡ new.view.size) × HasLooked old.steps new.steps
Polls old new (Here phase) =
    IsSoon 1 old new × IsLooked old.view new.view × IsFresh new.view × (new.view.arrived < new.view.size) × (phase ≡ new.view.phase)
    × HasLooked old.steps new.steps × (new.view.phase ≡ old.view.phase)
Polls old new (Ended shown) = IsSoon 1 old new × IsLooked old.view new.view × EndSeen new.view shown × HasLooked old.steps new.steps

-- The token's last step was at its tier, which is now in its phase. Or that step was a try to bring the tier into it,
-- and the try was lost.
abbrev pub HasCaughtUp : Holding → Type 0
HasCaughtUp new = (new.tier ≡ new.view.tier) × ((new.word.phase ≡ new.view.phase) ⊎ ((before : Holding) × Lost Refresh before new))

-- if a member is to arrive, its tier was brought into its phase
abbrev pub CaughtUpBy : Polled → Holding → Type 0
CaughtUpBy (Passed phase) new = HasCaughtUp new
CaughtUpBy Waiting new = Unit {0}
CaughtUpBy (Here phase) new = HasCaughtUp new
CaughtUpBy (Ended shown) new = Unit {0}

-- the answer says that the tree has ended
abbrev pub HasEnded : Polled → Type 0
HasEnded (Ended shown) = Unit {0}
HasEnded _ = ⊥
