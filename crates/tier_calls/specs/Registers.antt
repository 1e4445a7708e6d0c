-- What registrations answer, by the view of their token (`register` and `bulkRegister` of Java SE 21's `Phaser`; tokens are not part of its
-- API).
use Rattle.std.specs.Prelude.{◌≡◌, ◌≢◌, ℕ, ◌<◌, List}
use Rattle.tier_steps.specs.declared.kind.Kind.{Kind}
use Rattle.tier_steps.specs.declared.view.View.{View}
use Rattle.tier_steps.specs.declared.view.Errand.TheVariants.{Rest}
use Rattle.tier_core.specs.declared.call.Progress.TheVariants as progress
use Rattle.tier_core.specs.declared.call.Played.TheVariants as played
use Rattle.tier_core.specs.Turn.{claimed_by}
use Rattle.tier_calls.specs.declared.going.Going.{Going}
use Rattle.tier_calls.specs.Holding.{Holding, shape_of}
use Rattle.tier_calls.specs.Calls.{IsAt}
use Rattle.tier_calls.specs.Openings.{asked_tier, asked_size}
use Rattle.tier_calls.specs.Joins.{IsJoined, Refusal, JoinAt}
use Rattle.tier_calls.specs.Passes.{IsFresh}
use Rattle.tier_calls.specs.Made.{HasEntered, HasWatched}
use Rattle.tier_calls.specs.Arrives.{IsSoon, IsSpent}
use Rattle.tier_calls.specs.declared.joining.Registered.{Registered}
use Rattle.tier_calls.specs.declared.joining.Registered.TheVariants.{Joined, Held, Full, Ended, Busy, Owing}
use Rattle.tier_calls.specs.declared.joining.Opened.{Opened}
use Rattle.tier_calls.specs.declared.joining.Opened.TheVariants as opened

-- the view of a token without members after the first look of a call, in any phase
pub record IsLookedAround (old new : View) : Type 0 where
  pub tier : new.tier ≡ old.tier
  pub size : new.size ≡ old.size
  pub arrived : new.arrived ≡ old.arrived

-- a call that opens a path for the tier and the members that were asked for, and has claimed a tier
pub record IsFor (tier size : ℕ) (g : Going) : Type 0 where
  pub place : asked_tier g.token.view.errand ≡ tier
  pub members : asked_size g.token.view.errand ≡ size
  pub claims : 0 < claimed_by g.token.view.errand

-- What each answer says. After Joined the token owes nothing. After Busy it has not seen the end and has claimed nothing.
abbrev pub Registers : Holding → ℕ → ℕ → ℕ → Registered → Type 0
Registers h tier size tries (Joined crew phase) =
    IsSoon tries h crew × IsJoined tier size crew.view × (crew.view.errand ≡ Rest) × (phase ≡ crew.view.phase)
Registers h tier size tries (Held door phase cause) =
    IsSoon tries h door × Refusal (shape_of h) tier size door.view (played.Held phase cause)
Registers h tier size tries (Full door count) = IsSoon tries h door × Refusal (shape_of h) tier size door.view (played.Full count)
Registers h tier size tries (Ended door shown) = IsSoon tries h door × Refusal (shape_of h) tier size door.view (played.Ended shown)
Registers h tier size tries (Busy door) = IsSpent tries h door × IsLookedAround h.view door.view × IsFresh door.view
Registers h tier size tries (Owing opening) = IsSpent tries h opening.token × IsFor tier size opening

-- which steps the token took: before Busy only looks and refusals, so it has claimed no tier, not even for a while
abbrev pub EnteredBy : Registered → List Kind → List Kind → Type 0
EnteredBy (Joined crew phase) old new = HasEntered old new
EnteredBy (Held door phase cause) old new = HasEntered old new
EnteredBy (Full door count) old new = HasEntered old new
EnteredBy (Ended door shown) old new = HasEntered old new
EnteredBy (Busy door) old new = HasWatched old new
EnteredBy (Owing opening) old new = HasEntered old new

-- the token in an answer
abbrev pub token_of : Registered → Holding
token_of (Joined crew phase) = crew
token_of (Held door phase cause) = door
token_of (Full door count) = door
token_of (Ended door shown) = door
token_of (Busy door) = door
token_of (Owing opening) = opening.token

abbrev pub opened_of : Opened → Holding
opened_of (opened.Joined crew phase) = crew
opened_of (opened.Held door phase cause) = door
opened_of (opened.Full door count) = door
opened_of (opened.Ended door shown) = door
opened_of (opened.Owing opening) = opening.token

-- the answer says that the tree has ended
abbrev pub HasEnded : Registered → Type 0
HasEnded (Ended door shown) = Unit {0}
HasEnded _ = ⊥

-- What each answer of a resumed registration says, for these members at this tier.
abbrev pub OpensFor : ℕ → ℕ → Going → ℕ → Opened → Type 0
OpensFor tier size g tries (opened.Joined crew phase) =
    IsSoon tries g.token crew × IsJoined tier size crew.view × (crew.view.errand ≡ Rest) × (phase ≡ crew.view.phase)
OpensFor tier size g tries (opened.Held door phase cause) =
    IsSoon tries g.token door × Refusal (shape_of g.token) tier size door.view (played.Held phase cause)
OpensFor tier size g tries (opened.Full door count) =
    IsSoon tries g.token door × Refusal (shape_of g.token) tier size door.view (played.Full count)
OpensFor tier size g tries (opened.Ended door shown) =
    IsSoon tries g.token door × Refusal (shape_of g.token) tier size door.view (played.Ended shown)
OpensFor tier size g tries (opened.Owing opening) = IsSpent tries g.token opening.token × IsFor tier size opening

abbrev pub Opens : Going → ℕ → Opened → Type 0
Opens g tries answer = OpensFor (asked_tier g.token.view.errand) (asked_size g.token.view.errand) g tries answer

-- the answer says that the tree has ended, or its claimed tiers are not released yet
abbrev pub IsEndedOrOwed : Opened → Type 0
IsEndedOrOwed (opened.Ended door shown) = Unit {0}
IsEndedOrOwed (opened.Owing opening) = Unit {0}
IsEndedOrOwed _ = ⊥

-- a join, however far it has come
pub record MayAnswer (g : Going) : Type 0 where
  pub at : IsAt g.token.tree g
  pub least : ℕ
  pub home : ℕ
  pub tier : ℕ
  pub size : ℕ
  pub some : 0 < size
  pub shown : JoinAt (shape_of g.token) least home tier size g.token.view g.answer g.progress

-- the answer of a join, by how far it has come
abbrev pub AnswersJoin : Going → Registered → Type 0
AnswersJoin g (Joined crew phase) = (crew ≡ g.token) × (g.progress ≡ progress.Idle) × (g.answer ≡ played.Done phase)
AnswersJoin g (Held door phase cause) = (door ≡ g.token) × (g.progress ≡ progress.Idle) × (g.answer ≡ played.Held phase cause)
AnswersJoin g (Full door count) = (door ≡ g.token) × (g.progress ≡ progress.Idle) × (g.answer ≡ played.Full count)
AnswersJoin g (Ended door shown) = (door ≡ g.token) × (g.progress ≡ progress.Idle) × (g.answer ≡ played.Ended shown)
AnswersJoin g (Busy door) = (door ≡ g.token) × (g.progress ≢ progress.Idle) × (claimed_by g.token.view.errand ≡ 0)
AnswersJoin g (Owing opening) = (opening ≡ g) × (g.progress ≢ progress.Idle) × (claimed_by g.token.view.errand ≢ 0)

abbrev pub NoBusy : Registered → Type 0
NoBusy (Busy door) = ⊥
NoBusy _ = Unit {0}

abbrev pub SameAnswer : Registered → Opened → Type 0
SameAnswer a (opened.Joined crew phase) = a ≡ Joined crew phase
SameAnswer a (opened.Held door phase cause) = a ≡ Held door phase cause
SameAnswer a (opened.Full door count) = a ≡ Full door count
SameAnswer a (opened.Ended door shown) = a ≡ Ended door shown
SameAnswer a (opened.Owing opening) = a ≡ Owing opening
