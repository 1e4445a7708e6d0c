-- What the steps of each call do to their token (not part of Java's API).
use Rattle.std.specs.Prelude.{◌≡◌, ◌≢◌, ℕ, ◌+◌, ◌≤◌, ◌<◌, ◌⊎◌, Bool, true, false, Option, Some, None, length}
use Rattle.flat_phaser.specs.declared.FlatStep.{FlatStep}
use Rattle.flat_phaser.specs.declared.FlatStep.TheVariants as flat
use Rattle.tier_steps.specs.declared.view.View.{View}
use Rattle.tier_steps.specs.declared.view.Errand.TheVariants.{Rest, Climbing, Advancing}
use Rattle.tier_steps.specs.declared.view.Passage.{Passage}
use Rattle.tier_steps.specs.declared.view.Passage.TheVariants.{Arrival, Departure}
use Rattle.tier_steps.specs.Tally.{word_at}
use Rattle.tier_steps.specs.Image.{label}
use Rattle.tier_core.specs.declared.call.Call.{Call}
use Rattle.tier_core.specs.declared.call.Call.TheVariants as call
use Rattle.tier_core.specs.declared.call.Played.{Played}
use Rattle.tier_core.specs.declared.call.Played.TheVariants.{GoesOn, Done, Passed, MustAdvance}
use Rattle.tier_core.specs.declared.call.Progress.{Progress}
use Rattle.tier_core.specs.declared.call.Progress.TheVariants.{Idle, Begun, Seeking as ToSeek, Settling, GivingBack as ToGiveBack, Passing, Owing, Due, Refreshing}
use Rattle.tier_core.specs.declared.call.Step.{Step}
use Rattle.tier_core.specs.declared.call.Step.TheVariants.{Go, Finish}
use Rattle.tier_core.specs.Machine.{State, IsCore, view_at, call_at, turn_at}
use Rattle.tier_core.specs.Run.{IsStepOfCalls, after, step_label, finish_at, plan_ends}
use Rattle.tier_laws.specs.Frame.{flat_of}
use Rattle.tier_laws.specs.Hold.{IsAwaited}

-- only an advance and a forced end change the flat phase, or whether it has ended
abbrev pub moves_root : Option FlatStep → Bool
moves_root (Some (flat.Advance ends)) = true
moves_root (Some flat.Force) = true
moves_root _ = false

pub record RootStays (old new : State) : Type 0 where
  pub phase : (flat_of new).phase ≡ (flat_of old).phase
  pub ended : (flat_of new).ended ≡ (flat_of old).ended
  -- a tier in the root's phase stays there
  pub tiers : (t : ℕ) → t < length old.words → (word_at old.words t).phase ≡ (flat_of old).phase
      → (word_at new.words t).phase ≡ (flat_of old).phase

abbrev pub OnlyAdvancesMove : Type 0
OnlyAdvancesMove =
    (s : State) (step : Step) → IsCore s → IsStepOfCalls step → moves_root (step_label s step) ≡ false → RootStays s (after s step)

-- after a token's next step: what it knows, how far its call has come, and what the step answered
abbrev pub view_then : State → ℕ → View
view_then s token = view_at (after s (Go token)).views token

abbrev pub call_then : State → ℕ → Progress
call_then s token = call_at (after s (Go token)).calls token

abbrev pub answer_then : State → ℕ → Played
answer_then s token = (turn_at s token).answer

-- the members are as before
pub record IsSame (old new : View) : Type 0 where
  pub tier : new.tier ≡ old.tier
  pub size : new.size ≡ old.size
  pub phase : new.phase ≡ old.phase
  pub arrived : new.arrived ≡ old.arrived

-- A poll by an awaited token brings it into the root's phase, and the word of its tier too.
pub record IsPollStep (s : State) (token : ℕ) : Type 0 where
  pub errand : (view_then s token).errand ≡ Rest
  pub tier : (view_then s token).tier ≡ (view_at s.views token).tier
  pub size : (view_then s token).size ≡ (view_at s.views token).size
  pub phase : (view_then s token).phase ≡ (flat_of s).phase
  pub awaited : (view_then s token).arrived < (view_then s token).size
  pub kept : (view_at s.views token).phase ≡ (flat_of s).phase → (view_then s token).arrived ≡ (view_at s.views token).arrived
  pub begins : (view_at s.views token).phase ≢ (flat_of s).phase → (view_then s token).arrived ≡ 0
  pub goes_on : ((answer_then s token ≡ GoesOn) × ((moved : Bool) × (call_then s token ≡ Refreshing moved)))
      ⊎ (((answer_then s token ≡ Passed (flat_of s).phase) ⊎ (answer_then s token ≡ Done (flat_of s).phase)) × (call_then s token ≡ Idle)
      × ((word_at (after s (Go token)).words (view_at s.views token).tier).phase ≡ (flat_of s).phase))

abbrev pub is_poll : Progress → Bool
is_poll (Begun call.Poll) = true
is_poll (Refreshing moved) = true
is_poll _ = false

abbrev pub PollsFollowTheRoot : Type 0
PollsFollowTheRoot =
    (s : State) (token : ℕ) → IsCore s → (flat_of s).ended ≡ false → IsAwaited s token → is_poll (call_at s.calls token) ≡ true
    → IsPollStep s token

-- If its token has an unarrived member in the root's phase, the first step of an arrival or a departure changes no members.
abbrev pub call_by : Passage → Call
call_by Arrival = call.Arrive
call_by Departure = call.Leave

pub record IsLookStep (s : State) (token : ℕ) (next : Progress) : Type 0 where
  pub same : IsSame (view_at s.views token) (view_then s token)
  pub errand : (view_then s token).errand ≡ Rest
  pub answer : answer_then s token ≡ GoesOn
  pub call : call_then s token ≡ next

abbrev pub PassesBeginWithALook : Type 0
PassesBeginWithALook =
    (s : State) (token : ℕ) (passage : Passage) → IsCore s → (flat_of s).ended ≡ false → IsAwaited s token
    → (view_at s.views token).phase ≡ (flat_of s).phase → call_at s.calls token ≡ Begun (call_by passage)
    → IsLookStep s token (Passing passage)

-- what a token owes after a party arrives at or leaves a tier, and how its call goes on: it is done, climbs, or must advance the root
abbrev pub GoesAsOwed : State → ℕ → Passage → Type 0
GoesAsOwed s token own =
    let phase : ℕ = (view_at s.views token).phase in
    ((answer_then s token ≡ Done phase) × ((view_then s token).errand ≡ Rest) × (call_then s token ≡ Idle))
    ⊎ ((answer_then s token ≡ GoesOn) × ((t : ℕ) × (passage : Passage) × ((view_then s token).errand ≡ Climbing t passage))
    × (call_then s token ≡ Owing own))
    ⊎ (((parties : ℕ) × (answer_then s token ≡ MustAdvance phase parties)) × ((view_then s token).errand ≡ Advancing)
    × (call_then s token ≡ Due own))

-- one member has arrived, or has left
abbrev pub Counts : Passage → View → View → Type 0
Counts Arrival old new = (new.tier ≡ old.tier) × (new.size ≡ old.size) × (new.phase ≡ old.phase) × (new.arrived ≡ old.arrived + 1)
Counts Departure old new = (new.tier ≡ old.tier) × (new.size + 1 ≡ old.size) × (new.phase ≡ old.phase) × (new.arrived ≡ old.arrived)

-- If the word of its tier is in the root's phase, the second step of an arrival or a departure counts the member.
pub record IsOwnStep (s : State) (token : ℕ) (passage : Passage) : Type 0 where
  pub counts : Counts passage (view_at s.views token) (view_then s token)
  pub owes : GoesAsOwed s token passage

abbrev pub PassesCount : Type 0
PassesCount =
    (s : State) (token : ℕ) (passage : Passage) → IsCore s → token < length s.views → (flat_of s).ended ≡ false
    → call_at s.calls token ≡ Passing passage
    → (word_at s.words (view_at s.views token).tier).phase ≡ (flat_of s).phase → IsOwnStep s token passage

-- A step of a climb changes no members. It refreshes the tier, or passes on what the token owes. If the root has ended, the call is done in
-- the phase in which it was counted.
pub record IsClimbStep (s : State) (token : ℕ) (own : Passage) : Type 0 where
  pub same : IsSame (view_at s.views token) (view_then s token)
  pub owes : GoesAsOwed s token own

abbrev pub ClimbsKeepMembers : Type 0
ClimbsKeepMembers =
    (s : State) (token : ℕ) (own : Passage) → IsCore s → token < length s.views → call_at s.calls token ≡ Owing own
    → IsClimbStep s token own

-- The advance changes no members of its token, and neither does the look in its place if the root has ended.
pub record IsAdvanceStep (s : State) (token : ℕ) : Type 0 where
  pub same : IsSame (view_at s.views token) (view_at (after s (Finish token)).views token)
  pub errand : (view_at (after s (Finish token)).views token).errand ≡ Rest
  pub call : call_at (after s (Finish token)).calls token ≡ Idle
  pub answer : (finish_at s token (plan_ends s)).answer ≡ Done (view_at s.views token).phase

abbrev pub AdvancesKeepMembers : Type 0
AdvancesKeepMembers =
    (s : State) (token : ℕ) (own : Passage) → IsCore s → token < length s.views → call_at s.calls token ≡ Due own → IsAdvanceStep s token

-- `many` members at a tier, all unarrived in this phase
pub record IsPlaced (there many now : ℕ) (v : View) : Type 0 where
  pub tier : v.tier ≡ there
  pub size : v.size ≡ many
  pub phase : v.phase ≡ now
  pub arrived : v.arrived ≡ 0

-- A join begins with a look, which leaves the token without members and in the root's phase.
pub record IsJoinLook (s : State) (token tier size : ℕ) : Type 0 where
  pub none : (view_then s token).size ≡ 0
  pub errand : (view_then s token).errand ≡ Rest
  pub phase : (view_then s token).phase ≡ (flat_of s).phase
  pub answer : answer_then s token ≡ GoesOn
  pub call : call_then s token ≡ ToSeek tier size

abbrev pub JoinsBeginWithALook : Type 0
JoinsBeginWithALook =
    (s : State) (token tier size : ℕ) → IsCore s → token < length s.views → (flat_of s).ended ≡ false
    → call_at s.calls token ≡ Begun (call.Join tier size) → IsJoinLook s token tier size

-- The further steps of a join leave its token without members, until one admits them all.
abbrev pub JoinsPlaceAtOnce : Type 0
JoinsPlaceAtOnce =
    (s : State) (token tier size : ℕ) → IsCore s → token < length s.views → call_at s.calls token ≡ ToSeek tier size
    → ((label token (turn_at s token).kind ≡ None) × ((view_then s token).size ≡ 0))
    ⊎ ((label token (turn_at s token).kind ≡ Some (flat.Join token size)) × IsPlaced tier size (flat_of s).phase (view_then s token))

-- A tier in the root's phase with an unarrived party and room admits the members of a join at the first step after the look.
pub record IsAdmitted (s : State) (token tier size : ℕ) : Type 0 where
  pub placed : IsPlaced tier size (flat_of s).phase (view_then s token)
  pub errand : (view_then s token).errand ≡ Rest
  pub answer : answer_then s token ≡ Done (flat_of s).phase
  pub call : call_then s token ≡ Idle

abbrev pub OpenTiersAdmit : Type 0
OpenTiersAdmit =
    (s : State) (token tier size : ℕ) → IsCore s → token < length s.views → (flat_of s).ended ≡ false
    → call_at s.calls token ≡ ToSeek tier size
    → (view_at s.views token).errand ≡ Rest → 0 < (word_at s.words tier).parties → 0 < (word_at s.words tier).unarrived
    → (word_at s.words tier).parties + size ≤ 65535 → IsAdmitted s token tier size

-- a join that gives claimed tiers their parties, or releases them
abbrev pub is_settling : Progress → Bool
is_settling Settling = true
is_settling (ToGiveBack answer) = true
is_settling _ = false

abbrev pub SettlingKeepsMembers : Type 0
SettlingKeepsMembers =
    (s : State) (token : ℕ) → IsCore s → token < length s.views → is_settling (call_at s.calls token) ≡ true
    → IsSame (view_at s.views token) (view_then s token)
