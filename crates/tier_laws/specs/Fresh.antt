-- Joins on a tree in which nobody has arrived (own).
use Rattle.std.specs.Prelude.{◌≡◌, ◌≢◌, ℕ, ◌+◌, ◌≤◌, ◌<◌, ◌⊎◌, false, Option, Some, None, List, [], ◌∷◌, length, replicate, sum_by}
use Rattle.phaser_word.specs.Fields.{Fields}
use Rattle.tier_shape.specs.Paths.{IsTiers}
use Rattle.tier_shape.specs.Parents.{IsShape}
use Rattle.advance_rule.specs.declared.EndPlan.{EndPlan}
use Rattle.tier_steps.specs.Tally.{word_at}
use Rattle.tier_core.specs.declared.call.Call.TheVariants as call
use Rattle.tier_core.specs.declared.call.Played.{Played}
use Rattle.tier_core.specs.declared.call.Played.TheVariants.{Done}
use Rattle.tier_core.specs.declared.call.Progress.TheVariants.{Idle}
use Rattle.tier_core.specs.declared.call.Step.TheVariants.{Begin, Go}
use Rattle.tier_core.specs.Machine.{State, IsCore, view_at, call_at, opened, with_token}
use Rattle.tier_laws.specs.Frame.{flat_of}
use Rattle.tier_laws.specs.Moments.{Moment, Event, Takes, run_of, moments}
use Rattle.tier_laws.specs.Calls.{IsPlaced}
use Rattle.tier_laws.specs.Hold.{IsAwaited}

-- a tier that is empty, or whose parties are all unarrived in this phase
abbrev pub IsFreshWord : ℕ → Fields → Type 0
IsFreshWord now w = ((w.parties ≡ 0) × (w.unarrived ≡ 1)) ⊎ ((0 < w.parties) × (w.unarrived ≡ w.parties) × (w.phase ≡ now))

-- a tree in which nobody has arrived, and no token is in a call
pub record IsFresh (s : State) : Type 0 where
  pub going : (flat_of s).ended ≡ false
  pub words : (t : ℕ) → t < length s.words → IsFreshWord (flat_of s).phase (word_at s.words t)
  pub idle : (token : ℕ) → token < length s.views → call_at s.calls token ≡ Idle

-- a join by one token alone: it begins, and takes up to 14 steps
abbrev pub join_alone : ℕ → ℕ → ℕ → List Event
join_alone token tier size = Takes (Begin token (call.Join tier size)) ∷ replicate 14 (Takes (Go token))

abbrev pub last_answer : List Moment → Option Played
last_answer [] = None
last_answer (m ∷ past) = Some m.turn.answer

-- the token has its members, in a tree that is fresh again; nothing else is known otherwise than before
pub record IsJoined (old new : State) (token tier size : ℕ) (ms : List Moment) : Type 0 where
  pub answer : last_answer ms ≡ Some (Done (flat_of old).phase)
  pub fresh : IsFresh new
  pub core : IsCore new
  pub phase : (flat_of new).phase ≡ (flat_of old).phase
  pub placed : IsPlaced tier size (flat_of old).phase (view_at new.views token)
  pub tokens : length new.views ≡ length old.views
  pub others : (other : ℕ) → other ≢ token → view_at new.views other ≡ view_at old.views other
  pub sizes : sum_by (λ v. v.size) new.views ≡ sum_by (λ v. v.size) old.views + size

-- On a fresh tree with room a join by one token alone is done within 14 steps.
abbrev pub JoinsAreDoneAlone : Type 0
JoinsAreDoneAlone =
    (s : State) (token tier size : ℕ) → IsTiers s.parents → IsCore s → IsFresh s → token < length s.views → (view_at s.views token).size ≡ 0
    → tier < length s.parents → 0 < size → sum_by (λ v. v.size) s.views + size + length s.parents ≤ 65535
    → IsJoined s (run_of (join_alone token tier size) s) token tier size (moments token (join_alone token tier size) s (flat_of s) [])

-- A new tree is fresh, and stays so when a token is added.
abbrev pub NewTreesAreFresh : Type 0
NewTreesAreFresh = (parents : List ℕ) (phase : ℕ) (plan : EndPlan) → IsShape parents → IsFresh (opened parents phase plan)

abbrev pub NewTokensKeepItFresh : Type 0
NewTokensKeepItFresh = (s : State) → IsCore s → IsFresh s → IsFresh (with_token s)

-- the tier of an awaited token, in the root's phase, is open and has an unarrived party
abbrev pub AwaitedTiersWait : Type 0
AwaitedTiersWait =
    (s : State) (token : ℕ) → IsCore s → (flat_of s).ended ≡ false → IsAwaited s token
    → (word_at s.words (view_at s.views token).tier).phase ≡ (flat_of s).phase
    → (0 < (word_at s.words (view_at s.views token).tier).parties) × (0 < (word_at s.words (view_at s.views token).tier).unarrived)
