-- How often a call counts, at which tier a join places its members, and what a refused join notes (not part of Java's
-- API).
use Rattle.std.specs.Prelude.{◌≡◌, ℕ, ◌≤◌, Bool, true, false, Some, List, [], ◌∷◌, count_by}
use Rattle.std.specs.List.{Any}
use Rattle.tier_steps.specs.declared.kind.Kind.{Kind}
use Rattle.tier_steps.specs.declared.kind.Kind.TheVariants.{Refuse, Join, Arrive, Leave}
use Rattle.tier_steps.specs.declared.view.View.{View}
use Rattle.tier_core.specs.declared.call.Call.{Call}
use Rattle.tier_core.specs.declared.call.Call.TheVariants as call
use Rattle.tier_core.specs.declared.call.Played.{Played}
use Rattle.tier_core.specs.declared.call.Played.TheVariants.{GoesOn, Done, Held, Full, Ended, MustAdvance}
use Rattle.tier_core.specs.Machine.{State, IsCore, view_at, played}
use Rattle.tier_core.specs.Run.{may_begin, begun, IsCall}
use Rattle.tier_laws.specs.Frame.{flat_of}
use Rattle.tier_laws.specs.Moments.{Moment, Event, moments, AreEvents, AreOfCall}
use Rattle.tier_laws.specs.Calls.{IsPlaced}
use Rattle.tier_laws.specs.Reports.{refusing}

-- the steps that register members, or count an arrival or a departure
abbrev pub is_counting : Kind → Bool
is_counting (Join tier claimed size) = true
is_counting Arrive = true
is_counting Leave = true
is_counting _ = false

abbrev pub times_counted : List Moment → ℕ
times_counted ms = count_by (λ m. is_counting m.turn.kind) ms

-- how often a call that is done has counted
abbrev pub counts_when_done : Call → ℕ
counts_when_done (call.Join tier size) = 1
counts_when_done call.Arrive = 1
counts_when_done call.Leave = 1
counts_when_done call.Poll = 0
counts_when_done call.Force = 0

-- A call that is done or must advance the root has counted once. A call with another answer has counted nothing.
abbrev pub CountsAs : Call → Played → ℕ → Type 0
CountsAs c GoesOn times = times ≤ 1
CountsAs c (Done phase) times = times ≡ counts_when_done c
CountsAs c (MustAdvance phase parties) times = times ≡ 1
CountsAs c _ times = times ≡ 0

abbrev pub LatestCounts : Call → List Moment → Type 0
LatestCounts c [] = Unit {0}
LatestCounts c (m ∷ past) = CountsAs c m.turn.answer (times_counted (m ∷ past))

abbrev pub CallsCountOnce : Type 0
CallsCountOnce =
    (s : State) (token : ℕ) (c : Call) (events : List Event) → IsCore s → IsCall c → may_begin s token c ≡ true → AreEvents events
    → AreOfCall token events → LatestCounts c (moments token events (begun s token c) (flat_of s) [])

-- what the token knows after a moment of its call
abbrev pub view_after_turn : ℕ → Moment → View
view_after_turn token m = view_at (played m.state token m.turn).views token

-- After a join is done, its members are at the tier that was asked for, unarrived in the phase of the answer.
abbrev pub PlacesAs : ℕ → ℕ → Played → View → Type 0
PlacesAs tier size (Done phase) v = IsPlaced tier size phase v
PlacesAs tier size (Held phase why) v = v.size ≡ 0
PlacesAs tier size (Full parties) v = v.size ≡ 0
PlacesAs tier size (Ended number) v = v.size ≡ 0
PlacesAs tier size _ v = Unit {0}

abbrev pub LatestPlaces : ℕ → ℕ → ℕ → List Moment → Type 0
LatestPlaces token tier size [] = Unit {0}
LatestPlaces token tier size (m ∷ past) = PlacesAs tier size m.turn.answer (view_after_turn token m)

abbrev pub JoinsPlaceWhereAsked : Type 0
JoinsPlaceWhereAsked =
    (s : State) (token tier size : ℕ) (events : List Event) → IsCore s → IsCall (call.Join tier size)
    → may_begin s token (call.Join tier size) ≡ true → AreEvents events → AreOfCall token events
    → LatestPlaces token tier size (moments token events (begun s token (call.Join tier size)) (flat_of s) [])

-- the moment of the refusal, as the token has noted it: the tier, and the word that it found there
pub record IsNotedAt (v : View) (m : Moment) : Type 0 where
  pub tier : ℕ
  pub claimed : ℕ
  pub size : ℕ
  pub kind : m.turn.kind ≡ Refuse tier claimed size
  pub note : v.note ≡ Some (m.turn.tier, refusing m)

-- A join that is held off or finds no room has noted the tier and the word that refused it.
abbrev pub NotesAs : Played → View → List Moment → Type 0
NotesAs (Held phase why) v ms = Any (IsNotedAt v) ms
NotesAs (Full parties) v ms = Any (IsNotedAt v) ms
NotesAs _ v ms = Unit {0}

abbrev pub LatestNotes : ℕ → List Moment → Type 0
LatestNotes token [] = Unit {0}
LatestNotes token (m ∷ past) = NotesAs m.turn.answer (view_after_turn token m) (m ∷ past)

abbrev pub RefusalsAreNoted : Type 0
RefusalsAreNoted =
    (s : State) (token : ℕ) (c : Call) (events : List Event) → IsCore s → IsCall c → may_begin s token c ≡ true → AreEvents events
    → AreOfCall token events → LatestNotes token (moments token events (begun s token c) (flat_of s) [])
