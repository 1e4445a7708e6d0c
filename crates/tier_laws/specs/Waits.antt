-- What the root is between the answer that a token must advance it and that advance (own).
use Rattle.std.specs.Prelude.{◌≡◌, ◌≢◌, ℕ, true, List, [], ◌∷◌}
use Rattle.tier_steps.specs.Tally.{word_at}
use Rattle.tier_core.specs.declared.call.Call.{Call}
use Rattle.tier_core.specs.declared.call.Played.TheVariants.{MustAdvance}
use Rattle.tier_core.specs.declared.call.Step.{Step}
use Rattle.tier_core.specs.Machine.{State, IsCore, call_at, is_due}
use Rattle.tier_core.specs.Run.{may_begin, may_finish, begun, after, IsCall, IsStepOfCalls}
use Rattle.tier_laws.specs.Frame.{flat_of, actor}
use Rattle.tier_laws.specs.Moments.{Moment, Event, run_of, moments, AreEvents, AreOfCall}

-- the root's phase and its parties
pub record HasRoot (s : State) (now count : ℕ) : Type 0 where
  pub phase : (flat_of s).phase ≡ now
  pub parties : (word_at s.words 0).parties ≡ count

-- While a token has to advance the root, no step of another token changes them, nor does the end by force.
abbrev pub TheRootWaits : Type 0
TheRootWaits =
    (s : State) (step : Step) (token phase parties : ℕ) → IsCore s → IsStepOfCalls step → may_finish s token ≡ true → token ≢ actor step
    → HasRoot s phase parties → HasRoot (after s step) phase parties

-- the token that was last to be asked to advance the root still has to, and the root is as the token's answer said
pub record IsAsReported (s : State) (token phase parties : ℕ) : Type 0 where
  pub due : is_due (call_at s.calls token) ≡ true
  pub root : HasRoot s phase parties

abbrev pub LatestIsKept : ℕ → State → List Moment → Type 0
LatestIsKept token s [] = Unit {0}
LatestIsKept token s (m ∷ past) = (phase parties : ℕ) → m.turn.answer ≡ MustAdvance phase parties → IsAsReported s token phase parties

-- Until a token takes the advance that its answer asks for, the root is in the phase and has the parties that the
-- answer says.
abbrev pub AdvancesAreAwaited : Type 0
AdvancesAreAwaited =
    (s : State) (token : ℕ) (c : Call) (events : List Event) → IsCore s → IsCall c → may_begin s token c ≡ true → AreEvents events
    → AreOfCall token events → LatestIsKept token (run_of events (begun s token c)) (moments token events (begun s token c) (flat_of s) [])
