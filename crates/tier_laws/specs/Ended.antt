-- Who may begin a call, and what calls do on a tree that has ended (own; the end by force is that of Java SE 21,
-- `Phaser.forceTermination`).
use Rattle.std.specs.Prelude.{◌≡◌, ◌↔◌, ℕ, ◌<◌, true, List, length}
use Rattle.flat_phaser.specs.Flat.{shown}
use Rattle.tier_steps.specs.declared.view.View.{View}
use Rattle.tier_core.specs.declared.call.Call.{Call}
use Rattle.tier_core.specs.declared.call.Call.TheVariants as call
use Rattle.tier_core.specs.declared.call.Played.TheVariants.{Ended}
use Rattle.tier_core.specs.declared.call.Progress.TheVariants.{Idle, Begun}
use Rattle.tier_core.specs.declared.call.Step.TheVariants.{Go}
use Rattle.tier_core.specs.Machine.{State, IsCore, view_at, call_at}
use Rattle.tier_core.specs.Run.{may_begin, after}
use Rattle.tier_laws.specs.Frame.{flat_of}
use Rattle.tier_laws.specs.Calls.{view_then, call_then, answer_then, IsSame}

-- A join is of a tier that exists, by a token without members; who arrives, leaves or polls has a member; anybody may end the tree.
abbrev pub IsFor : List ℕ → Call → View → Type 0
IsFor parents (call.Join tier size) v = (tier < length parents) × (v.size ≡ 0)
IsFor parents call.Arrive v = 0 < v.size
IsFor parents call.Leave v = 0 < v.size
IsFor parents call.Poll v = 0 < v.size
IsFor parents call.Force v = Unit {0}

-- a token that exists, is in no call, and is of the kind that the call is for
pub record MayBegin (s : State) (token : ℕ) (c : Call) : Type 0 where
  pub known : token < length s.views
  pub idle : call_at s.calls token ≡ Idle
  pub fits : IsFor s.parents c (view_at s.views token)

abbrev pub TokensBeginCalls : Type 0
TokensBeginCalls = (s : State) (token : ℕ) (c : Call) → (may_begin s token c ≡ true) ↔ MayBegin s token c

-- A call that takes its first step on a tree that has ended answers so, with the phase that the tree shows, and changes nothing of it.
pub record IsTurnedAway (s : State) (token : ℕ) : Type 0 where
  pub answer : answer_then s token ≡ Ended (shown (flat_of s))
  pub call : call_then s token ≡ Idle
  pub flat : flat_of (after s (Go token)) ≡ flat_of s
  pub words : (after s (Go token)).words ≡ s.words
  pub same : IsSame (view_at s.views token) (view_then s token)

abbrev pub EndedTreesTurnCallsAway : Type 0
EndedTreesTurnCallsAway =
    (s : State) (token : ℕ) (c : Call) → IsCore s → token < length s.views → (flat_of s).ended ≡ true → call_at s.calls token ≡ Begun c
    → IsTurnedAway s token

-- The end by force ends the tree at its one step, in the phase that it is in, and changes no members.
pub record IsForced (s : State) (token : ℕ) : Type 0 where
  pub ended : (flat_of (after s (Go token))).ended ≡ true
  pub phase : (flat_of (after s (Go token))).phase ≡ (flat_of s).phase
  pub members : (flat_of (after s (Go token))).members ≡ (flat_of s).members
  pub answer : answer_then s token ≡ Ended (shown (flat_of (after s (Go token))))
  pub call : call_then s token ≡ Idle

abbrev pub ForceEndsTheTree : Type 0
ForceEndsTheTree = (s : State) (token : ℕ) → IsCore s → token < length s.views → call_at s.calls token ≡ Begun call.Force → IsForced s token
