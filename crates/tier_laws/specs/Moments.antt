-- The steps that a token takes for one call, each with the state that it was taken in (own).
use Rattle.std.specs.Prelude.{◌≡◌, ◌≢◌, ℕ, ◌==◌, if◌then◌else◌, List, [], ◌∷◌, ◌++◌}
use Rattle.std.specs.List.{AllByRecursion}
use Rattle.flat_phaser.specs.Flat.{Flat}
use Rattle.tier_core.specs.declared.call.Turn.{Turn}
use Rattle.tier_core.specs.declared.call.Answer.TheVariants as answer
use Rattle.tier_core.specs.declared.call.Played.{Played}
use Rattle.tier_core.specs.declared.call.Step.{Step}
use Rattle.tier_core.specs.declared.call.Step.TheVariants.{Begin, Go, Finish}
use Rattle.tier_core.specs.Machine.{State, IsCore, turn_at, played, with_token}
use Rattle.tier_core.specs.Run.{may_go, may_finish, finish_at, plan_ends, after, answer_to, step_label, IsStepOfCalls}
use Rattle.tier_steps.specs.Image.{label, labelled, LooksAlike}
use Rattle.tier_laws.specs.Frame.{flat_of, actor}

-- a state, the turn that the token took there, and the flat phaser that the labels had reached before it and after it
pub record Moment : Type 0 where
  pub state : State
  pub turn : Turn
  pub before : Flat
  pub afterwards : Flat

abbrev pub flat_at : Moment → Flat
flat_at m = m.before

abbrev pub flat_after : Moment → Flat
flat_after m = m.afterwards

-- a turn, beside the flat phaser that takes the flat step of its label
abbrev pub moment_of : ℕ → State → Flat → Turn → Moment
moment_of token s f turn = record { state = s; turn = turn; before = f; afterwards = labelled (label token turn.kind) f }

-- the moment that a step of a run is, if it is a turn of this token
abbrev pub own_turn : ℕ → State → Flat → Step → List Moment
own_turn token s f (Begin other c) = []
own_turn token s f (Go other) =
    if other == token then (if may_go s other then moment_of other s f (turn_at s other) ∷ [] else []) else []
own_turn token s f (Finish other) =
    if other == token then (if may_finish s other then moment_of other s f (finish_at s other (plan_ends s)) ∷ [] else []) else []

-- what comes next in a run: a step of some token, or a further token
pub data Event : Type 0 where
  Takes : Step → Event
  Enters : Event

abbrev pub state_then : State → Event → State
state_then s (Takes step) = after s step
state_then s Enters = with_token s

abbrev pub run_of : List Event → State → State
run_of [] s = s
run_of (event ∷ events) s = run_of events (state_then s event)

-- The moments of a run before those that are given, the latest first, beside a flat phaser that takes the labels of all
-- steps. A token that is added has none.
abbrev pub moments : ℕ → List Event → State → Flat → List Moment → List Moment
moments token [] s f past = past
moments token (Takes step ∷ events) s f past =
    moments token events (after s step) (labelled (step_label s step) f) (own_turn token s f step ++ past)
moments token (Enters ∷ events) s f past = moments token events (with_token s) f past

-- the caller's condition of each step
abbrev pub AreEvents : List Event → Type 0
AreEvents [] = Unit {0}
AreEvents (Takes step ∷ events) = IsStepOfCalls step × AreEvents events
AreEvents (Enters ∷ events) = AreEvents events

-- steps during which the token begins no other call
abbrev pub IsOfCall : ℕ → Step → Type 0
IsOfCall token (Begin other c) = token ≢ other
IsOfCall token (Go other) = Unit {0}
IsOfCall token (Finish other) = Unit {0}

abbrev pub AreOfCall : ℕ → List Event → Type 0
AreOfCall token [] = Unit {0}
AreOfCall token (Takes step ∷ events) = IsOfCall token step × AreOfCall token events
AreOfCall token (Enters ∷ events) = AreOfCall token events

-- What a step of the token answers in a run is what its moment answers.
abbrev pub MomentsAreAnswers : Type 0
MomentsAreAnswers =
    (s : State) (f : Flat) (step : Step) (played : Played) → answer_to s step ≡ answer.Played played
    → (m : Moment) × (own_turn (actor step) s f step ≡ m ∷ []) × (m.state ≡ s) × (m.before ≡ f) × (m.turn.answer ≡ played)

-- the flat phasers of a moment look like the tree before its turn and after it
pub record LooksLikeTheTree (token : ℕ) (m : Moment) : Type 0 where
  pub before : LooksAlike m.before (flat_of m.state)
  pub afterwards : LooksAlike m.afterwards (flat_of (played m.state token m.turn))

-- So do those that the labels reach from one that looks like the tree before the run.
abbrev pub MomentsLookLikeTheTree : Type 0
MomentsLookLikeTheTree =
    (s : State) (token : ℕ) (events : List Event) (f : Flat) → IsCore s → AreEvents events → LooksAlike f (flat_of s)
    → AllByRecursion (LooksLikeTheTree token) (moments token events s f [])
