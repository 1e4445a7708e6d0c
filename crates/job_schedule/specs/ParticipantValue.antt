-- Live tasks as participants at a tree (own).
use Rattle.std.specs.Prelude.{ℕ, suc, nat_lt, Bool, true, false, ◌&&◌, if◌then◌else◌, List, [], ◌∷◌, ◌++◌, length, map, slice_index_or, slice_set}
use Rattle.superstep_memory.specs.PathOrder.{in_path_order}
use Rattle.tier_core.specs.declared.call.Played.{Played}
use Rattle.tier_core.specs.declared.call.Played.TheVariants.{Done, Passed, Held, Full}
pub use Rattle.job_schedule.specs.declared.stage.Stage.{Stage}
pub use Rattle.job_schedule.specs.declared.stage.Stage.TheVariants.{Waits, Taken, Polling, Joining, Arriving, Leaving, Over}

-- a spawned task: its token, and the tier at which that has its member or is to join
pub record ChildValue : Type 0 where
  pub path : List ℕ
  pub token : ℕ
  pub home : ℕ

-- a live task: its token, the tier at which that has its member, the tasks that it has spawned, whether it synced, and
-- how far it has come
pub record ParticipantValue : Type 0 where
  pub path : List ℕ
  pub token : ℕ
  pub home : ℕ
  pub children : List ChildValue
  pub synced : Bool
  pub stage : Stage

abbrev pub participant_path : ParticipantValue → List ℕ
participant_path g = g.path

-- a task that begins its superstep
abbrev pub waiting : List ℕ → ℕ → ℕ → ParticipantValue
waiting path token home = record { path = path; token = token; home = home; children = []; synced = false; stage = Waits }

abbrev pub no_child : ChildValue
no_child = record { path = []; token = 0; home = 0 }

abbrev pub child_at : List ChildValue → ℕ → ChildValue
child_at children n = slice_index_or children n no_child

abbrev pub no_participant : ParticipantValue
no_participant = record { path = []; token = 0; home = 0; children = []; synced = false; stage = Over }

abbrev pub participant_at : List ParticipantValue → ℕ → ParticipantValue
participant_at participants place = slice_index_or participants place no_participant

abbrev pub is_over : Stage → Bool
is_over Over = true
is_over _ = false

-- whether its segment was handed in
abbrev pub is_delivered : Stage → Bool
is_delivered Waits = false
is_delivered Taken = false
is_delivered _ = true

abbrev pub child_path : ChildValue → List ℕ
child_path k = k.path

abbrev pub all_over : List ParticipantValue → Bool
all_over [] = true
all_over (g ∷ gs) = is_over g.stage && all_over gs

-- the answers of a call that is over: it was done, or it was refused
abbrev pub is_done : Played → Bool
is_done (Done phase) = true
is_done (Passed phase) = true
is_done _ = false

abbrev pub is_refused : Played → Bool
is_refused (Held phase why) = true
is_refused (Full parties) = true
is_refused _ = false

-- this many of the spawned tasks have joined, or arrived; when all have, the next calls follow
abbrev pub arriving : ℕ → ℕ → Stage
arriving arrived spawned = if nat_lt arrived spawned then Arriving arrived else Leaving

abbrev pub joining : ℕ → ℕ → Stage
joining joined spawned = if nat_lt joined spawned then Joining joined else arriving 0 spawned

-- the stage after a call that is done, by how many tasks were spawned
abbrev pub next_stage : Stage → ℕ → Stage
next_stage Waits spawned = Waits
next_stage Taken spawned = Taken
next_stage Polling spawned = joining 0 spawned
next_stage (Joining joined) spawned = joining (suc joined) spawned
next_stage (Arriving arrived) spawned = arriving (suc arrived) spawned
next_stage Leaving spawned = Over
next_stage Over spawned = Over

-- the spawned task that couldn't join at its preferred leaf is to join at the tier of its spawner
abbrev pub sent_home : ParticipantValue → Stage → ParticipantValue
sent_home g Waits = g
sent_home g Taken = g
sent_home g Polling = g
sent_home g (Joining joined) = record g { children = slice_set g.children joined record (child_at g.children joined) { home = g.home } }
sent_home g (Arriving arrived) = g
sent_home g Leaving = g
sent_home g Over = g

-- a task after such an answer of its call
abbrev pub answered : ParticipantValue → Played → ParticipantValue
answered g a =
    if is_done a then record g { stage = next_stage g.stage (length g.children) } else (if is_refused a then sent_home g g.stage else g)

-- The next participants: a task that synced keeps its token, a spawned task has the one that joined for it; in path order.
abbrev pub own_participant : ParticipantValue → List ParticipantValue
own_participant g = if g.synced then waiting g.path g.token g.home ∷ [] else []

abbrev pub child_participant : ChildValue → ParticipantValue
child_participant k = waiting k.path k.token k.home

abbrev pub living_participants : List ParticipantValue → List ParticipantValue
living_participants [] = []
living_participants (g ∷ gs) = (own_participant g ++ map child_participant g.children) ++ living_participants gs

abbrev pub next_participants : List ParticipantValue → List ParticipantValue
next_participants gs = in_path_order participant_path (living_participants gs)

-- the free tokens, with those of the tasks that left
abbrev pub freed : List ParticipantValue → List ℕ → List ℕ
freed [] free = free
freed (g ∷ gs) free = freed gs (if g.synced then free else g.token ∷ free)
