-- What arrivals and departures answer, by the view of their token (the calls of Java SE 21's `Phaser`; tokens are not part of its API).
use Rattle.std.specs.Prelude.{true, false, ◌≡◌, ℕ, ◌+◌, ◌<◌, ◌≤◌, ◌⊎◌, ◌∷◌}
use Rattle.tier_steps.specs.declared.kind.Kind.TheVariants.{Look}
use Rattle.tier_steps.specs.Word.{next_phase_of}
use Rattle.tier_steps.specs.declared.view.View.{View}
use Rattle.tier_steps.specs.declared.view.Errand.TheVariants.{Rest}
use Rattle.tier_steps.specs.declared.view.Passage.{Passage}
use Rattle.tier_steps.specs.declared.view.Passage.TheVariants.{Departure}
use Rattle.tier_core.specs.declared.call.Progress.TheVariants as progress
use Rattle.tier_core.specs.declared.call.Played.TheVariants as played
use Rattle.tier_calls.specs.declared.going.Going.{Going}
use Rattle.tier_calls.specs.Holding.{Holding}
use Rattle.tier_calls.specs.Made.{is_upward, MadeOnly, HasLooked, HasStepped, LedBy}
use Rattle.tier_calls.specs.Calls.{IsAt}
use Rattle.tier_calls.specs.Next.{is_owing}
use Rattle.tier_calls.specs.Passes.{IsSame, HasCounted, EndSeen, IsFresh, PassAt}
use Rattle.tier_calls.specs.declared.arriving.Arrived.{Arrived}
use Rattle.tier_calls.specs.declared.arriving.Arrived.TheVariants.{Done, Left, AlreadyArrived, Ended, Busy, Owing}
use Rattle.tier_calls.specs.declared.arriving.Resumed.{Resumed}
use Rattle.tier_calls.specs.declared.arriving.Resumed.TheVariants as resumed

-- the view of a token with members after the first look of a call: as before, or in the next phase with nobody arrived
pub record IsLooked (old new : View) : Type 0 where
  pub tier : new.tier ≡ old.tier
  pub size : new.size ≡ old.size
  pub phase : ((new.phase ≡ old.phase) × (new.arrived ≡ old.arrived))
      ⊎ ((old.arrived ≡ old.size) × (new.phase ≡ next_phase_of old.phase) × (new.arrived ≡ 0))

-- a view after the first look and one counted member, with no advance taken before that
pub record HasPassed (own : Passage) (old new : View) : Type 0 where
  pub from : View
  pub looked : IsLooked old from
  pub unled : from.led ≡ false
  pub counted : HasCounted own from new

-- the same token, after at most `tries` tries, off which no other was split meanwhile
pub record IsSoon (tries : ℕ) (old new : Holding) : Type 0 where
  pub tree : new.tree ≡ old.tree
  pub tried : new.tried ≤ old.tried + tries
  pub opened : new.opened ≡ old.opened

-- the same token, after exactly `tries` tries, off which no other was split meanwhile
pub record IsSpent (tries : ℕ) (old new : Holding) : Type 0 where
  pub tree : new.tree ≡ old.tree
  pub tried : new.tried ≡ old.tried + tries
  pub opened : new.opened ≡ old.opened

-- What each answer says. `led` says that the token took the advance after the call's first look, which clears that mark. After Done and
-- Left the token owes nothing. After Owing it owes a climb or the advance, and has not led. After Busy and AlreadyArrived it has not seen
-- the end.
abbrev pub Arrives : Passage → Holding → ℕ → Arrived → Type 0
Arrives own h tries (Done crew phase led) =
    IsSoon tries h crew × HasPassed own h.view crew.view × (crew.view.errand ≡ Rest) × (phase ≡ crew.view.phase) × (led ≡ crew.view.led)
    × LedBy (HasStepped own h.steps) led crew.steps
Arrives own h tries (Left door phase led) =
    (own ≡ Departure) × IsSoon tries h door × HasPassed own h.view door.view × (door.view.errand ≡ Rest) × (phase ≡ door.view.phase)
    × (led ≡ door.view.led)
    × LedBy (HasStepped own h.steps) led door.steps
Arrives own h tries (AlreadyArrived crew phase) =
    IsSoon tries h crew × IsLooked h.view crew.view × IsFresh crew.view × (crew.view.arrived ≡ crew.view.size) × (phase ≡ crew.view.phase)
    × HasLooked h.steps crew.steps
Arrives own h tries (Ended crew shown) =
    IsSoon tries h crew × IsLooked h.view crew.view × EndSeen crew.view shown × HasLooked h.steps crew.steps
Arrives own h tries (Busy crew) = IsSpent tries h crew × IsLooked h.view crew.view × IsFresh crew.view × HasLooked h.steps crew.steps
Arrives own h tries (Owing errand) =
    IsSpent tries h errand.token × HasPassed own h.view errand.token.view × (is_owing errand.progress ≡ true)
    × (errand.token.view.led ≡ false)
    × HasStepped own h.steps errand.token.steps

-- All members had arrived just if the look that begins the call found so: AlreadyArrived follows that look alone, and a
-- call that goes on has an unarrived member.
abbrev pub FindsArrived : Holding → Arrived → Type 0
FindsArrived h (Done crew phase led) = Unit {0}
FindsArrived h (Left door phase led) = Unit {0}
FindsArrived h (AlreadyArrived crew phase) = crew.steps ≡ Look ∷ h.steps
FindsArrived h (Ended crew shown) = Unit {0}
FindsArrived h (Busy crew) = crew.view.arrived < crew.view.size
FindsArrived h (Owing errand) = Unit {0}

-- the answer says that the tree has ended
abbrev pub HasEnded : Arrived → Type 0
HasEnded (Ended crew shown) = Unit {0}
HasEnded _ = ⊥

-- What each answer of a resumed call says. No further member is counted.
abbrev pub Resumes : Going → ℕ → Resumed → Type 0
Resumes g tries (resumed.Done crew phase led) =
    IsSoon tries g.token crew × IsSame g.token.view crew.view × (crew.view.errand ≡ Rest) × (phase ≡ crew.view.phase)
    × (led ≡ crew.view.led)
    × LedBy (MadeOnly is_upward g.token.steps) led crew.steps
Resumes g tries (resumed.Left door phase led) =
    IsSoon tries g.token door × IsSame g.token.view door.view × (door.view.errand ≡ Rest) × (phase ≡ door.view.phase)
    × (led ≡ door.view.led)
    × LedBy (MadeOnly is_upward g.token.steps) led door.steps
Resumes g tries (resumed.Owing errand) =
    IsSpent tries g.token errand.token × IsSame g.token.view errand.token.view × (is_owing errand.progress ≡ true)
    × (errand.token.view.led ≡ false)
    × MadeOnly is_upward g.token.steps errand.token.steps

-- an arrival or a departure, whose token has members until the last one has left
pub record MaySettle (g : Going) : Type 0 where
  pub at : IsAt g.token.tree g
  pub passage : Passage
  pub shown : PassAt passage (λ u. 0 < u.size) (λ u. Unit {0}) g.token.view g.answer g.progress

-- an arrival or a departure whose member was counted
pub record MayEnd (g : Going) : Type 0 where
  pub at : IsAt g.token.tree g
  pub passage : Passage
  pub shown : PassAt passage (λ u. ⊥) (λ u. Unit {0}) g.token.view g.answer g.progress

-- the answer of such a call, by how far it has come
abbrev pub Settles : Going → Arrived → Type 0
Settles g (Done crew phase led) =
    (crew ≡ g.token) × (g.progress ≡ progress.Idle) × (g.answer ≡ played.Done phase) × (led ≡ g.token.view.led)
Settles g (Left door phase led) =
    (door ≡ g.token) × (g.progress ≡ progress.Idle) × (g.answer ≡ played.Done phase) × (led ≡ g.token.view.led) × (g.token.view.size ≡ 0)
Settles g (AlreadyArrived crew phase) = ⊥
Settles g (Ended crew shown) = (crew ≡ g.token) × (g.progress ≡ progress.Idle) × (g.answer ≡ played.Ended shown)
Settles g (Busy crew) = (crew ≡ g.token) × ((passage : Passage) × (g.progress ≡ progress.Passing passage))
Settles g (Owing errand) = (errand ≡ g) × (is_owing g.progress ≡ true)

abbrev pub Ends : Going → Resumed → Type 0
Ends g (resumed.Done crew phase led) =
    (crew ≡ g.token) × (g.progress ≡ progress.Idle) × (phase ≡ g.token.view.phase) × (led ≡ g.token.view.led)
Ends g (resumed.Left door phase led) =
    (door ≡ g.token) × (g.progress ≡ progress.Idle) × (phase ≡ g.token.view.phase) × (led ≡ g.token.view.led)
Ends g (resumed.Owing errand) = (errand ≡ g) × (is_owing g.progress ≡ true)
