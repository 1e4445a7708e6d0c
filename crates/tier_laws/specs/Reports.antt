-- What each answer of a call says of the flat phaser at the moments of the call (not part of Java's API).
use Rattle.std.specs.Prelude.{◌≡◌, ◌≢◌, ◌↔◌, ℕ, ◌+◌, ◌<◌, ◌≤◌, Bool, true, false, if◌then◌else◌, Option, Some, None, List, [], ◌∷◌, length, ℤ}
use Rattle.std.specs.List.{Any}
use Rattle.phaser_word.specs.Phase.{next_phase_of}
use Rattle.phaser_word.specs.Fields.{Fields}
use Rattle.flat_phaser.specs.declared.FlatStep.{FlatStep}
use Rattle.flat_phaser.specs.declared.FlatStep.TheVariants as flat
use Rattle.flat_phaser.specs.Flat.{Flat, members_of, arrived_of, registered, shown}
use Rattle.tier_steps.specs.declared.kind.Kind.TheVariants.{Refuse}
use Rattle.tier_steps.specs.Word.{is_being_opened}
use Rattle.tier_steps.specs.View.{claim_share}
use Rattle.tier_steps.specs.Tally.{word_at}
use Rattle.tier_steps.specs.Step.{added}
use Rattle.tier_steps.specs.Marks.{sees_root}
use Rattle.tier_steps.specs.Image.{label, LooksAlike}
use Rattle.tier_core.specs.declared.call.Call.{Call}
use Rattle.tier_core.specs.declared.call.Call.TheVariants as call
use Rattle.tier_core.specs.declared.call.Cause.{Cause}
use Rattle.tier_core.specs.declared.call.Cause.TheVariants as cause
use Rattle.tier_core.specs.declared.call.Played.{Played}
use Rattle.tier_core.specs.declared.call.Played.TheVariants.{GoesOn, Done, Passed, Waiting, Held, Full, AlreadyArrived, Ended, MustAdvance}
use Rattle.tier_core.specs.declared.call.Progress.TheVariants.{Idle, Begun}
use Rattle.tier_core.specs.Turn.{giving_back}
use Rattle.tier_core.specs.Machine.{State, IsCore, view_at, call_at, is_active, is_due, played}
use Rattle.tier_laws.specs.Frame.{flat_of}
use Rattle.tier_core.specs.Run.{may_begin, begun, IsCall}
use Rattle.tier_laws.specs.Moments.{Moment, Event, flat_at, flat_after, moments, AreEvents, AreOfCall}

-- the number of the token's members at a moment, and the number of those that have arrived in a phase
abbrev pub members_at : ℕ → Moment → ℕ
members_at token m = members_of token (flat_at m).members

abbrev pub arrived_at : ℕ → ℕ → Moment → ℕ
arrived_at token phase m = arrived_of phase token (flat_at m).members

-- the flat step that the call is
abbrev pub step_of : ℕ → Call → Option FlatStep
step_of token (call.Join tier size) = Some (flat.Join token size)
step_of token call.Arrive = Some (flat.Arrive token)
step_of token call.Leave = Some (flat.Leave token)
step_of token call.Poll = None
step_of token call.Force = Some flat.Force

-- The moment of that flat step. After the tree has ended the step is still taken, and changes nothing.
pub record IsCounted (token : ℕ) (c : Call) (now : ℕ) (m : Moment) : Type 0 where
  pub label : label token m.turn.kind ≡ step_of token c
  pub phase : (flat_at m).phase ≡ now

-- the first look at the root, before any other step of the call, when the flat phaser was in this phase
pub record IsFirstLook (token : ℕ) (c : Call) (now : ℕ) (m : Moment) : Type 0 where
  pub first : call_at m.state.calls token ≡ Begun c
  pub going : (flat_at m).ended ≡ false
  pub phase : (flat_at m).phase ≡ now

-- at that look a member of the token had not arrived
pub record IsAwaiting (token : ℕ) (now : ℕ) (m : Moment) : Type 0 where
  pub look : IsFirstLook token call.Poll now m
  pub some : arrived_at token now m < members_at token m

-- at that look all its members had arrived
pub record AreAllHere (token : ℕ) (c : Call) (now : ℕ) (m : Moment) : Type 0 where
  pub look : IsFirstLook token c now m
  pub all : arrived_at token now m ≡ members_at token m

-- At that look the phase was the one after the token's, in which all its members had arrived. The tree says so, because a flat phaser
-- doesn't record who arrived in an earlier phase.
pub record HasPassed (token : ℕ) (now : ℕ) (m : Moment) : Type 0 where
  pub look : IsFirstLook token call.Poll now m
  pub next : now ≡ next_phase_of (view_at m.state.views token).phase
  pub all : arrived_of (view_at m.state.views token).phase token (flat_of m.state).members ≡ members_of token (flat_of m.state).members

-- after a step the flat phaser had ended and showed this phase
pub record HasEnded (token : ℕ) (number : ℤ) (m : Moment) : Type 0 where
  pub ended : (flat_after m).ended ≡ true
  pub shows : shown (flat_after m) ≡ number

-- the step that makes the advance due in this phase and leaves this many parties at the root, none exactly if there are no members
pub record MakesDue (token : ℕ) (now parties : ℕ) (m : Moment) : Type 0 where
  pub going : (flat_after m).ended ≡ false
  pub due : (flat_after m).due ≡ true
  pub phase : (flat_after m).phase ≡ now
  pub root : (word_at (played m.state token m.turn).words 0).parties ≡ parties
  pub nobody : (parties ≡ 0) ↔ (registered (flat_after m) ≡ 0)

-- the step that refuses a join: the call gives this answer at once, or after it has released its claimed tiers
pub record IsRefusal (c : Call) (tier claimed size : ℕ) (answer : Played) (m : Moment) : Type 0 where
  pub call : c ≡ call.Join tier size
  pub kind : m.turn.kind ≡ Refuse tier claimed size
  pub next : m.turn.next ≡ giving_back claimed answer

-- the word that refuses
abbrev pub refusing : Moment → Fields
refusing m = word_at m.state.words m.turn.tier

-- a tier that another token has claimed
pub record IsClaimedByAnother (token tier : ℕ) (s : State) : Type 0 where
  pub other : ℕ
  pub another : other ≢ token
  pub known : other < length s.views
  pub claims : 0 < claim_share s.parents tier (view_at s.views other)

-- a tier below the root whose parties have all arrived, in this phase or in another
pub record IsFullyArrived (m : Moment) : Type 0 where
  pub below : 0 < m.turn.tier
  pub arrived : (refusing m).unarrived ≡ 0

abbrev pub IsCause : ℕ → ℕ → Moment → Cause → Type 0
IsCause token now m cause.BeingOpened = (is_being_opened (refusing m) ≡ true) × IsClaimedByAnother token m.turn.tier m.state
IsCause token now m cause.AllArrived = IsFullyArrived m × ((refusing m).phase ≡ now)
IsCause token now m cause.Lagging = IsFullyArrived m × ((refusing m).phase ≢ now)
IsCause token now m cause.Advancing = (m.turn.tier ≡ 0) × ((refusing m).unarrived ≡ 0)

pub record IsHeldBy (token : ℕ) (c : Call) (now : ℕ) (why : Cause) (m : Moment) : Type 0 where
  pub tier : ℕ
  pub claimed : ℕ
  pub size : ℕ
  pub refusal : IsRefusal c tier claimed size (Held now why) m
  -- there was room, because a lack of room is answered first
  pub capacity : (refusing m).parties + added claimed size ≤ 65535
  pub cause : IsCause token now m why

-- the word had this many parties, and with those that the join would add there would be too many
pub record IsFullWith (c : Call) (parties : ℕ) (m : Moment) : Type 0 where
  pub tier : ℕ
  pub claimed : ℕ
  pub size : ℕ
  pub refusal : IsRefusal c tier claimed size (Full parties) m
  pub here : (refusing m).parties ≡ parties
  pub many : 65535 < parties + added claimed size

-- the phase at the last step that looked at the root
abbrev pub last_seen : List Moment → ℕ
last_seen [] = 0
last_seen (m ∷ past) = if sees_root m.turn.tier m.turn.kind then (flat_at m).phase else last_seen past

-- what Done in this phase says, for each call
abbrev pub IsDoneIn : ℕ → Call → ℕ → List Moment → Type 0
IsDoneIn token (call.Join tier size) now ms = Any (IsCounted token (call.Join tier size) now) ms
IsDoneIn token call.Arrive now ms = Any (IsCounted token call.Arrive now) ms
IsDoneIn token call.Leave now ms = Any (IsCounted token call.Leave now) ms
IsDoneIn token call.Poll now ms = Any (IsAwaiting token now) ms
IsDoneIn token call.Force now ms = ⊥

-- what an answer says; `m` is the moment of the step that gives it, and `past` are the earlier moments, the latest
-- first
abbrev pub Tells : ℕ → Call → Moment → List Moment → Played → Type 0
Tells token c m past GoesOn = is_active m.turn.next ≡ true
Tells token c m past (Done phase) = IsDoneIn token c phase (m ∷ past)
Tells token c m past (Passed phase) = Any (HasPassed token phase) (m ∷ past)
Tells token c m past Waiting = Any (λ n. AreAllHere token c (flat_at n).phase n) (m ∷ past)
Tells token c m past (Held phase why) = (phase ≡ last_seen (m ∷ past)) × Any (IsHeldBy token c phase why) (m ∷ past)
Tells token c m past (Full parties) = Any (IsFullWith c parties) (m ∷ past)
Tells token c m past (AlreadyArrived phase) = Any (AreAllHere token c phase) (m ∷ past)
Tells token c m past (Ended number) = Any (HasEnded token number) (m ∷ past)
Tells token c m past (MustAdvance phase parties) = (is_due m.turn.next ≡ true) × MakesDue token phase parties m

-- the answers with which a call is over
abbrev pub is_last : Played → Bool
is_last GoesOn = false
is_last (MustAdvance phase parties) = false
is_last _ = true

pub record IsReported (token : ℕ) (c : Call) (m : Moment) (past : List Moment) : Type 0 where
  pub tells : Tells token c m past m.turn.answer
  pub ends : is_last m.turn.answer ≡ true → m.turn.next ≡ Idle

abbrev pub LatestTells : ℕ → Call → List Moment → Type 0
LatestTells token c [] = Unit {0}
LatestTells token c (m ∷ past) = IsReported token c m past

-- Each answer of a call says what `Tells` says, of the flat phaser that the labels reach from any that looks like the tree before the call.
-- It holds whatever steps other tokens take between those of the call, and whatever tokens are added.
abbrev pub AnswersTell : Type 0
AnswersTell =
    (s : State) (token : ℕ) (c : Call) (events : List Event) (f : Flat) → IsCore s → IsCall c → may_begin s token c ≡ true
    → AreEvents events → AreOfCall token events → LooksAlike f (flat_of s)
    → LatestTells token c (moments token events (begun s token c) f [])
