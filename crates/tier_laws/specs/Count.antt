-- How many steps a call takes (not part of Java's API).
use Rattle.std.specs.Prelude.{◌≡◌, ℕ, zero, suc, ◌<◌, ◌≤◌, ◌⊎◌, ◌||◌, true, false, if◌then◌else◌, List, [], length}
use Rattle.tier_shape.specs.Paths.{IsTiers}
use Rattle.tier_core.specs.declared.call.Call.{Call}
use Rattle.tier_core.specs.declared.call.Call.TheVariants as call
use Rattle.tier_core.specs.Machine.{State, IsCore, call_at}
use Rattle.tier_core.specs.Run.{is_idle, may_begin, may_go, may_finish, begun, after, answer_to, IsCall}
use Rattle.tier_core.specs.declared.call.Answer.TheVariants as answer
use Rattle.tier_core.specs.declared.call.Played.{Played}
use Rattle.tier_core.specs.declared.call.Step.{Step}
use Rattle.tier_core.specs.declared.call.Step.TheVariants.{Go, Finish}
use Rattle.tier_laws.specs.Reports.{is_last}
use Rattle.tier_laws.specs.Frame.{flat_of}
use Rattle.tier_laws.specs.Moments.{Moment, Event, run_of, moments, AreEvents, AreOfCall}

-- The most steps of each call. On a path of 7 tiers, a join looks at the root, goes up 7 tiers, and settles or releases the 6 below the
-- root. An arrival or a departure looks at the root, refreshes each of these 6, passes all 7, and advances the root.
abbrev pub most_steps : Call → ℕ
most_steps (call.Join tier size) = 14
most_steps call.Arrive = 15
most_steps call.Leave = 15
most_steps call.Poll = 2
most_steps call.Force = 1

-- a call after these moments of the call
pub record IsShort (s : State) (token : ℕ) (c : Call) (ms : List Moment) : Type 0 where
  pub few : length ms ≤ most_steps c
  pub sixteen : length ms ≤ 16
  -- until it has its answer there is a next step, which the token may take at once
  pub goes_on : is_idle (call_at s.calls token) ≡ false → length ms < most_steps c
  pub may : is_idle (call_at s.calls token) ≡ false → (may_go s token || may_finish s token) ≡ true

-- Each call has its answer after at most `most_steps` steps of its token, whatever steps other tokens take between them, and whatever
-- tokens are added.
abbrev pub CallsAreShort : Type 0
CallsAreShort =
    (s : State) (token : ℕ) (c : Call) (events : List Event) → IsTiers s.parents → IsCore s → IsCall c → may_begin s token c ≡ true
    → AreEvents events → AreOfCall token events
    → IsShort (run_of events (begun s token c)) token c (moments token events (begun s token c) (flat_of s) [])

-- how a token goes on with its call: by the advance that it must take, or by a step
abbrev pub going_on : State → ℕ → Step
going_on s token = if may_finish s token then Finish token else Go token

-- that step answers the call
pub record IsAnswered (s : State) (token : ℕ) : Type 0 where
  pub played : Played
  pub answer : answer_to s (going_on s token) ≡ answer.Played played
  pub last : is_last played ≡ true

-- one of the next `steps` steps of the token alone answers the call
abbrev pub IsAnsweredWithin : ℕ → ℕ → State → Type 0
IsAnsweredWithin zero token s = ⊥
IsAnsweredWithin (suc steps) token s = IsAnswered s token ⊎ IsAnsweredWithin steps token (after s (going_on s token))

-- However far a call has come, 16 steps of its token alone are enough for its answer.
abbrev pub SixteenStepsAreEnough : Type 0
SixteenStepsAreEnough =
    (s : State) (token : ℕ) → IsTiers s.parents → IsCore s → token < length s.views → is_idle (call_at s.calls token) ≡ false
    → IsAnsweredWithin 16 token s
