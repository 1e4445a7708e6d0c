-- What a token does in a superstep, by what it knows and how far its call has come (own).
use Rattle.std.specs.Prelude.{◌≡◌, ℕ, Bool, false, ◌<◌, true, length}
use Rattle.tier_steps.specs.declared.view.Passage.{Passage}
use Rattle.tier_steps.specs.declared.view.Passage.TheVariants.{Arrival, Departure}
use Rattle.tier_steps.specs.Tally.{word_at}
use Rattle.tier_core.specs.declared.call.Call.TheVariants as call
use Rattle.tier_core.specs.declared.call.Played.{Played}
use Rattle.tier_core.specs.declared.call.Played.TheVariants.{GoesOn, Done, Passed, Waiting, Held, Full, AlreadyArrived, Ended, MustAdvance}
use Rattle.tier_core.specs.declared.call.Progress.{Progress}
use Rattle.tier_core.specs.declared.call.Progress.TheVariants.{Idle, Begun, Seeking as ToSeek, Settling, GivingBack as ToGiveBack, Passing, Owing, Due}
use Rattle.tier_core.specs.Turn.{claimed_by}
use Rattle.tier_core.specs.Machine.{State, view_at, call_at}
use Rattle.job_schedule.specs.ParticipantValue.{is_refused}
use Rattle.tier_laws.specs.Frame.{flat_of}
use Rattle.tier_laws.specs.Hold.{IsAwaited}
use Rattle.tier_laws.specs.Calls.{is_poll, call_by}

-- A token has at most one member, at its home tier.
pub data Role : Type 0 where
  -- no member, in no call
  Out : Role
  -- it is to join there: its call has begun, seeks its place and has claimed this many tiers, settles these, or gives
  -- them back
  Joins : ℕ → Role
  Seeks : ℕ → ℕ → Role
  Settles : ℕ → Role
  GivesBack : Role
  -- its member is awaited: it is in no call, and may be one phase late
  Late : ℕ → Role
  Polls : ℕ → Role
  -- it is in the root's phase and in no call; its tier is in that phase as well
  Ready : ℕ → Role
  Here : ℕ → Role
  -- it is to arrive or to leave: its call has begun, passes its tier, climbs, or has to advance the root
  Looks : ℕ → Passage → Role
  Passes : ℕ → Passage → Role
  Owes : ℕ → Passage → Role
  Leads : ℕ → Passage → Role
  -- it has arrived, or left, and is in no call
  Past : ℕ → Passage → Role

pub record IsOut (s : State) (token : ℕ) : Type 0 where
  pub known : token < length s.views
  pub none : (view_at s.views token).size ≡ 0

pub record IsLate (s : State) (token home : ℕ) : Type 0 where
  pub awaited : IsAwaited s token
  pub tier : (view_at s.views token).tier ≡ home
  pub one : (view_at s.views token).size ≡ 1

pub record IsReady (s : State) (token home : ℕ) : Type 0 where
  pub late : IsLate s token home
  pub phase : (view_at s.views token).phase ≡ (flat_of s).phase

pub record IsHere (s : State) (token home : ℕ) : Type 0 where
  pub ready : IsReady s token home
  pub word : (word_at s.words home).phase ≡ (flat_of s).phase

-- its member has arrived in the root's phase, or it has none any more
abbrev pub HasCounted : State → ℕ → ℕ → Passage → Type 0
HasCounted s token home Arrival = (token < length s.views) × ((view_at s.views token).tier ≡ home) × ((view_at s.views token).size ≡ 1)
    × ((view_at s.views token).phase ≡ (flat_of s).phase) × ((view_at s.views token).arrived ≡ 1)
HasCounted s token home Departure = (token < length s.views) × ((view_at s.views token).size ≡ 0)

abbrev pub Calls : State → ℕ → Progress → Type 0
Calls s token progress = call_at s.calls token ≡ progress

-- the token plays this role
abbrev pub Plays : State → ℕ → Role → Type 0
Plays s token Out = IsOut s token × Calls s token Idle
Plays s token (Joins home) = IsOut s token × Calls s token (Begun (call.Join home 1))
Plays s token (Seeks home claimed) = IsOut s token × (claimed_by (view_at s.views token).errand ≡ claimed) × Calls s token (ToSeek home 1)
Plays s token (Settles home) = (token < length s.views) × ((view_at s.views token).tier ≡ home) × ((view_at s.views token).size ≡ 1)
    × ((view_at s.views token).arrived ≡ 0) × ((view_at s.views token).phase ≡ (flat_of s).phase) × Calls s token Settling
Plays s token GivesBack = IsOut s token × ((answer : Played) × (is_refused answer ≡ true) × Calls s token (ToGiveBack answer))
Plays s token (Late home) = IsLate s token home × Calls s token Idle
Plays s token (Polls home) = IsLate s token home × (is_poll (call_at s.calls token) ≡ true)
Plays s token (Ready home) = IsReady s token home × Calls s token Idle
Plays s token (Here home) = IsHere s token home × Calls s token Idle
Plays s token (Looks home passage) = IsReady s token home × Calls s token (Begun (call_by passage))
Plays s token (Passes home passage) = IsReady s token home × Calls s token (Passing passage)
Plays s token (Owes home passage) = HasCounted s token home passage × Calls s token (Owing passage)
Plays s token (Leads home passage) = HasCounted s token home passage × Calls s token (Due passage)
Plays s token (Past home passage) = HasCounted s token home passage × Calls s token Idle
