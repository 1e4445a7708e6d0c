-- What is true of a world between two steps of workers, while its job runs (own).
use Rattle.std.specs.Prelude.{◌≡◌, ◌≢◌, ℕ, zero, suc, ◌+◌, ◌<◌, ◌≤◌, ◌⊎◌, Bool, true, false, List, length, map, sum_by, is_some}
use Rattle.std.specs.List.{AllByRecursion}
use Rattle.tier_steps.specs.declared.view.Passage.{Passage}
use Rattle.tier_steps.specs.declared.view.Passage.TheVariants.{Arrival, Departure}
use Rattle.tier_laws.specs.Frame.{flat_of}
use Rattle.programs.specs.Supersteps.{status}
use Rattle.job_laws.specs.Roles.{Role, Out, Joins, Seeks, Settles, GivesBack, Late, Polls, Ready, Here, Looks, Passes, Owes, Leads, Past}
use Rattle.job_laws.specs.Cast.{role_at, IsCast, turned}
use Rattle.job_schedule.specs.declared.stage.Mode.{Mode}
use Rattle.job_schedule.specs.declared.stage.Mode.TheVariants as mode
use Rattle.job_schedule.specs.declared.stage.Stage.{Stage}
use Rattle.job_schedule.specs.declared.stage.Stage.TheVariants.{Waits, Taken, Polling, Joining, Arriving, Leaving, Over}
use Rattle.job_schedule.specs.ParticipantValue.{ChildValue, ParticipantValue, child_at, participant_at, all_over, living_participants}
use Rattle.job_schedule.specs.World.{World, plan_for}

-- a task that synced arrives, any other leaves
abbrev pub passage_if : Bool → Passage
passage_if true = Arrival
passage_if false = Departure

-- a token that is to take such a passage from its tier, or is on its way
abbrev pub IsOwnPassing : ℕ → Passage → Role → Type 0
IsOwnPassing home passage own =
    (own ≡ Here home) ⊎ (own ≡ Looks home passage) ⊎ (own ≡ Passes home passage) ⊎ (own ≡ Owes home passage) ⊎ (own ≡ Leads home passage)

-- the role of a task's token, by how far the task has come
abbrev pub OwnFits : Stage → ℕ → Bool → Role → Type 0
OwnFits Waits home synced own = own ≡ Late home
OwnFits Taken home synced own = own ≡ Late home
OwnFits Polling home synced own = (own ≡ Late home) ⊎ (own ≡ Polls home)
OwnFits (Joining joined) home synced own = own ≡ Here home
OwnFits (Arriving arrived) home synced own = own ≡ Here home
OwnFits Leaving home synced own = IsOwnPassing home (passage_if synced) own
OwnFits Over home synced own = own ≡ Past home (passage_if synced)

-- A token that is to join at this tier, or is on its way. At the tier of its spawner it joins at once: only elsewhere
-- it may have claimed tiers on its way, settle them, or give them back.
abbrev pub ComesTo : ℕ → ℕ → Role → Type 0
ComesTo own home child =
    (child ≡ Out) ⊎ (child ≡ Joins home) ⊎ (child ≡ Seeks home 0)
    ⊎ ((home ≢ own) × (((claimed : ℕ) × (child ≡ Seeks home claimed)) ⊎ (child ≡ Settles home) ⊎ (child ≡ GivesBack)))

-- one that is to arrive there, or is on its way
abbrev pub ArrivesAt : ℕ → Role → Type 0
ArrivesAt home child = (child ≡ Ready home) ⊎ (child ≡ Looks home Arrival) ⊎ (child ≡ Passes home Arrival) ⊎ (child ≡ Owes home Arrival)

-- the role of the token of the spawned task of this number, one after another
abbrev pub ChildFits : Stage → ℕ → ℕ → ℕ → Role → Type 0
ChildFits Waits own number home child = ⊥
ChildFits Taken own number home child = ⊥
ChildFits Polling own number home child = child ≡ Out
ChildFits (Joining joined) own number home child =
    (number < joined → child ≡ Ready home) × (number ≡ joined → ComesTo own home child) × (joined < number → child ≡ Out)
ChildFits (Arriving arrived) own number home child =
    (number < arrived → child ≡ Past home Arrival) × (number ≡ arrived → ArrivesAt home child) × (arrived < number → child ≡ Ready home)
ChildFits Leaving own number home child = child ≡ Past home Arrival
ChildFits Over own number home child = child ≡ Past home Arrival

-- the one that joins, or arrives, is one of them
abbrev pub HasTurn : Stage → ℕ → Type 0
HasTurn (Joining joined) children = joined < children
HasTurn (Arriving arrived) children = arrived < children
HasTurn _ _ = Unit {0}

-- a task at this stage, whose token has its member at this tier, and those of the spawned tasks each at theirs, out of
-- a number of tiers
pub record SitsAt (stage : Stage) (roles : List Role) (tiers token home : ℕ) (children : List ChildValue) (synced : Bool) : Type 0 where
  pub own : OwnFits stage home synced (role_at roles token)
  pub each : (number : ℕ) → number < length children
      → ChildFits stage home number (child_at children number).home (role_at roles (child_at children number).token)
  pub turn : HasTurn stage (length children)
  pub homes : (number : ℕ) → number < length children → (child_at children number).home < tiers

abbrev pub Sits : List Role → ℕ → ParticipantValue → Type 0
Sits roles tiers g = SitsAt g.stage roles tiers g.token g.home g.children g.synced

-- a measure of tokens over those of a task, and over all tokens up to a number
abbrev pub of_participant : (ℕ → ℕ) → ParticipantValue → ℕ
of_participant measure g = measure g.token + sum_by (λ (k : ChildValue). measure k.token) g.children

abbrev pub of_all : ℕ → (ℕ → ℕ) → ℕ
of_all zero measure = 0
of_all (suc n) measure = of_all n measure + measure n

-- Each token up to a number is a live task's, or a spawned one's, or free, and it is so once: by any measure they count
-- the same.
abbrev pub AreShared : List ParticipantValue → List ℕ → ℕ → Type 0
AreShared participants free tokens =
    (measure : ℕ → ℕ) → sum_by (of_participant measure) participants + sum_by measure free ≡ of_all tokens measure

-- what no step of a superstep changes
pub record IsBuilt (parents : List ℕ) (w : World) : Type 0 where
  pub shape : w.tree.parents ≡ parents
  pub plan : w.tree.plan ≡ plan_for w.limit
  pub leaves : AllByRecursion (λ leaf. leaf < length parents) w.leaves

-- A superstep: each token plays its role, and free ones none; the root is in the phase of the superstep, and goes on.
pub record IsWorking (parents : List ℕ) (w : World) (roles : List Role) : Type 0 where
  pub built : IsBuilt parents w
  pub cast : IsCast w.tree roles
  pub phase : (flat_of w.tree).phase ≡ w.job.step
  pub sits : (place : ℕ) → place < length w.participants → Sits roles (length parents) (participant_at w.participants place)
  pub shared : AreShared w.participants w.free (length w.tree.views)
  pub free : AllByRecursion (λ token. role_at roles token ≡ Out) w.free
  pub waits : (place : ℕ) → w.taken ≤ place → place < length w.participants → (participant_at w.participants place).stage ≡ Waits

-- After the advance: all live tasks are over; if the tree goes on, it does so in the next phase, and those that stay
-- are awaited there. It has ended if nobody stays, or in the last phase of the limit.
pub record IsTurning (parents : List ℕ) (w : World) (roles : List Role) : Type 0 where
  pub built : IsBuilt parents w
  pub over : all_over w.participants ≡ true
  pub sits : (place : ℕ) → place < length w.participants → Sits roles (length parents) (participant_at w.participants place)
  pub shared : AreShared w.participants w.free (length w.tree.views)
  pub free : AllByRecursion (λ token. role_at roles token ≡ Out) w.free
  pub cast : (flat_of w.tree).ended ≡ false → IsCast w.tree (map turned roles)
  pub phase : (flat_of w.tree).ended ≡ false → (flat_of w.tree).phase ≡ suc w.job.step
  pub last : (flat_of w.tree).ended ≡ true → (length (living_participants w.participants) ≡ 0) ⊎ (w.limit ≤ suc w.job.step)

-- While a job runs its superstep works, or turns; a job that is over before it begins has no tasks.
abbrev pub IsKept : List ℕ → World → Mode → Type 0
IsKept parents w mode.Runs =
    ((is_some (status w.limit w.job) ≡ true) × (length w.participants ≡ 0))
    ⊎ ((is_some (status w.limit w.job) ≡ false) × ((roles : List Role) × IsWorking parents w roles))
IsKept parents w (mode.Advanced closer token) =
    (is_some (status w.limit w.job) ≡ false) × (closer < 64) × ((roles : List Role) × IsTurning parents w roles)
IsKept parents w (mode.Forces closer token) = Unit {0}
IsKept parents w mode.Over = Unit {0}
