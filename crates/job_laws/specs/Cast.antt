-- All tokens of a tree in a superstep, each with its role, and how the roles go on (own).
use Rattle.std.specs.Prelude.{◌≡◌, ◌≢◌, ℕ, ◌+◌, ◌<◌, ◌≤◌, ◌⊎◌, Bool, true, false, List, [], ◌∷◌, ◌++◌, length, slice_index_or, slice_set, map, sum_by}
use Rattle.flat_phaser.specs.Flat.{registered}
use Rattle.phaser_word.specs.Phase.{next_phase_of}
use Rattle.tier_steps.specs.declared.view.Passage.{Passage}
use Rattle.tier_steps.specs.declared.view.Passage.TheVariants.{Arrival, Departure}
use Rattle.tier_steps.specs.Tally.{word_at}
use Rattle.tier_core.specs.declared.call.Call.{Call}
use Rattle.tier_core.specs.declared.call.Call.TheVariants as call
use Rattle.tier_core.specs.declared.call.Played.{Played}
use Rattle.tier_core.specs.declared.call.Played.TheVariants.{GoesOn, Done, Passed, MustAdvance}
use Rattle.tier_core.specs.declared.call.Step.TheVariants.{Begin, Go, Finish}
use Rattle.tier_core.specs.Machine.{State, IsCore, with_token}
use Rattle.tier_core.specs.Run.{after, may_begin}
use Rattle.tier_laws.specs.Frame.{flat_of}
use Rattle.tier_laws.specs.Plan.{flat_ends}
use Rattle.tier_laws.specs.Calls.{answer_then, call_by}
use Rattle.job_laws.specs.Roles.{Role, Out, Joins, Seeks, Settles, GivesBack, Late, Polls, Ready, Here, Looks, Passes, Owes, Leads, Past, Plays}
use Rattle.job_schedule.specs.ParticipantValue.{is_refused}

abbrev pub role_at : List Role → ℕ → Role
role_at roles token = slice_index_or roles token Out

-- Each token plays its role, in a tree that goes on.
pub record IsCast (s : State) (roles : List Role) : Type 0 where
  pub core : IsCore s
  pub going : (flat_of s).ended ≡ false
  pub long : length roles ≡ length s.views
  pub plays : (token : ℕ) → token < length s.views → Plays s token (role_at roles token)

-- how many members a token has by its role
abbrev pub members_in : Role → ℕ
members_in Out = 0
members_in (Joins home) = 0
members_in (Seeks home claimed) = 0
members_in GivesBack = 0
members_in (Owes home Departure) = 0
members_in (Leads home Departure) = 0
members_in (Past home Departure) = 0
members_in _ = 1

-- whether a member of the token is awaited
abbrev pub is_awaited : Role → Bool
is_awaited (Late home) = true
is_awaited (Polls home) = true
is_awaited (Ready home) = true
is_awaited (Here home) = true
is_awaited (Looks home passage) = true
is_awaited (Passes home passage) = true
is_awaited _ = false

abbrev pub is_leading : Role → Bool
is_leading (Leads home passage) = true
is_leading _ = false

-- what the next step of a call answers, and the role that it leaves
abbrev pub Follows : ℕ → Role → Played → Role → Type 0
Follows now Out answer next = ⊥
Follows now (Joins home) answer next = (answer ≡ GoesOn) × (next ≡ Seeks home 0)
Follows now (Seeks home claimed) answer next = ((answer ≡ Done now) × (next ≡ Ready home)) ⊎ ((answer ≡ GoesOn) × (next ≡ Settles home))
    ⊎ ((answer ≡ GoesOn) × ((more : ℕ) × (next ≡ Seeks home more))) ⊎ ((is_refused answer ≡ true) × (next ≡ Out))
    ⊎ ((answer ≡ GoesOn) × (next ≡ GivesBack))
Follows now (Settles home) answer next = ((answer ≡ Done now) × (next ≡ Ready home)) ⊎ ((answer ≡ GoesOn) × (next ≡ Settles home))
Follows now GivesBack answer next = ((is_refused answer ≡ true) × (next ≡ Out)) ⊎ ((answer ≡ GoesOn) × (next ≡ GivesBack))
Follows now (Late home) answer next = ⊥
Follows now (Polls home) answer next =
    ((answer ≡ GoesOn) × (next ≡ Polls home)) ⊎ (((answer ≡ Passed now) ⊎ (answer ≡ Done now)) × (next ≡ Here home))
Follows now (Ready home) answer next = ⊥
Follows now (Here home) answer next = ⊥
Follows now (Looks home passage) answer next = (answer ≡ GoesOn) × (next ≡ Passes home passage)
Follows now (Passes home passage) answer next =
    ((answer ≡ GoesOn) × (next ≡ Passes home passage)) ⊎ ((answer ≡ Done now) × (next ≡ Past home passage))
    ⊎ ((answer ≡ GoesOn) × (next ≡ Owes home passage))
    ⊎ (((parties : ℕ) × (answer ≡ MustAdvance now parties)) × (next ≡ Leads home passage))
Follows now (Owes home passage) answer next =
    (((phase : ℕ) × (answer ≡ Done phase)) × (next ≡ Past home passage)) ⊎ ((answer ≡ GoesOn) × (next ≡ Owes home passage))
    ⊎ (((parties : ℕ) × (phase : ℕ) × (answer ≡ MustAdvance phase parties)) × (next ≡ Leads home passage))
Follows now (Leads home passage) answer next = ⊥
Follows now (Past home passage) answer next = ⊥

-- whether the role has such a next step
abbrev pub is_on_its_way : Role → Bool
is_on_its_way Out = false
is_on_its_way (Late home) = false
is_on_its_way (Ready home) = false
is_on_its_way (Here home) = false
is_on_its_way (Leads home passage) = false
is_on_its_way (Past home passage) = false
is_on_its_way _ = true

-- The next step of a token leaves a cast tree, in which only the token's role has gone on; the root is in its phase.
pub record GoesTo (s : State) (roles : List Role) (token : ℕ) (next : Role) : Type 0 where
  pub follows : Follows (flat_of s).phase (role_at roles token) (answer_then s token) next
  pub cast : IsCast (after s (Go token)) (slice_set roles token next)
  pub phase : (flat_of (after s (Go token))).phase ≡ (flat_of s).phase

abbrev pub StepsKeepTheCast : Type 0
StepsKeepTheCast =
    (s : State) (roles : List Role) (token : ℕ) → IsCast s roles → token < length s.views → is_on_its_way (role_at roles token) ≡ true
    → (next : Role) × GoesTo s roles token next

-- A poll, an arrival, a departure or a join may begin if the role says so.
abbrev pub Begins : ℕ → Role → Call → Role → Type 0
Begins tiers role c next = ((home : ℕ) × (role ≡ Late home) × (c ≡ call.Poll) × (next ≡ Polls home))
    ⊎ ((home : ℕ) × (passage : Passage) × ((role ≡ Here home) ⊎ (role ≡ Ready home)) × (c ≡ call_by passage) × (next ≡ Looks home passage))
    ⊎ ((home : ℕ) × (home < tiers) × (role ≡ Out) × (c ≡ call.Join home 1) × (next ≡ Joins home))

abbrev pub BeginningsKeepTheCast : Type 0
BeginningsKeepTheCast =
    (s : State) (roles : List Role) (token : ℕ) (c : Call) (next : Role) → IsCast s roles → token < length s.views
    → Begins (length s.parents) (role_at roles token) c next
    → (may_begin s token c ≡ true) × IsCast (after s (Begin token c)) (slice_set roles token next)
    × ((flat_of (after s (Begin token c))).phase ≡ (flat_of s).phase)

-- If a member is awaited nobody leads.
abbrev pub NobodyLeads : Type 0
NobodyLeads =
    (s : State) (roles : List Role) (token other : ℕ) → IsCast s roles → token < length s.views → other < length s.views
    → is_awaited (role_at roles token) ≡ true → is_leading (role_at roles other) ≡ false

-- If one token leads no other climbs, or leads.
abbrev pub LeadersAreAlone : Type 0
LeadersAreAlone =
    (s : State) (roles : List Role) (token other home : ℕ) (passage : Passage) → IsCast s roles → token < length s.views
    → other < length s.views
    → other ≢ token → is_leading (role_at roles token) ≡ true
    → (role_at roles other ≡ Owes home passage) ⊎ (role_at roles other ≡ Leads home passage) → ⊥

-- the role at the beginning of the next superstep
abbrev pub turned : Role → Role
turned (Joins home) = Joins home
turned (Seeks home claimed) = Seeks home claimed
turned (Settles home) = Settles home
turned GivesBack = GivesBack
turned (Late home) = Late home
turned (Polls home) = Polls home
turned (Ready home) = Ready home
turned (Here home) = Here home
turned (Looks home passage) = Looks home passage
turned (Passes home passage) = Passes home passage
turned (Owes home passage) = Owes home passage
turned (Leads home Arrival) = Late home
turned (Past home Arrival) = Late home
turned _ = Out

-- The advance turns all roles.
pub record IsTurned (s : State) (roles : List Role) (token : ℕ) : Type 0 where
  pub phase : (flat_of (after s (Finish token))).phase ≡ next_phase_of (flat_of s).phase
  pub ended : (flat_of (after s (Finish token))).ended ≡ flat_ends s
  pub cast : flat_ends s ≡ false → IsCast (after s (Finish token)) (map turned roles)

-- no token is in a join: before an advance
abbrev pub is_settled : Role → Bool
is_settled (Joins home) = false
is_settled (Seeks home claimed) = false
is_settled (Settles home) = false
is_settled GivesBack = false
is_settled _ = true

abbrev pub AdvancesTurnTheCast : Type 0
AdvancesTurnTheCast =
    (s : State) (roles : List Role) (token : ℕ) → IsCast s roles → token < length s.views → is_leading (role_at roles token) ≡ true
    → ((other : ℕ) → other < length s.views → is_settled (role_at roles other) ≡ true)
    → IsTurned s roles token

-- The flat members are those that the roles say.
abbrev pub MembersAreInRoles : Type 0
MembersAreInRoles = (s : State) (roles : List Role) → IsCast s roles → registered (flat_of s) ≡ sum_by members_in roles

abbrev pub NewTokensAreOut : Type 0
NewTokensAreOut = (s : State) (roles : List Role) → IsCast s roles → IsCast (with_token s) (roles ++ Out ∷ [])

-- If a token's member is awaited at a tier that is in the root's phase, a join there by a token that has looked is done
-- at once, if there is room.
pub record IsAdmittedAt (s : State) (roles : List Role) (token home : ℕ) : Type 0 where
  pub answer : answer_then s token ≡ Done (flat_of s).phase
  pub cast : IsCast (after s (Go token)) (slice_set roles token (Ready home))

abbrev pub HomesAdmit : Type 0
HomesAdmit =
    (s : State) (roles : List Role) (own token home : ℕ) → IsCast s roles → own < length s.views → token < length s.views
    → role_at roles own ≡ Here home → role_at roles token ≡ Seeks home 0 → (word_at s.words home).parties + 1 ≤ 65535
    → IsAdmittedAt s roles token home
