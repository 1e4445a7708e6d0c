-- What a schedule keeps beside its world: which segments the round has, by the stages of the participants.
use Rattle.std.proofs.Common.{◌≡◌, ◌≢◌, ◌⊎◌, ⊎_elim, ℕ, zero, suc, ◌<◌, ◌≤◌, Bool, true, false, List, [], ◌∷◌, ◌++◌, length, map, set, refl, sym, ap, subst, arith, ◌∙◌, Some, None, Option}
use Rattle.std.specs.Prelude.{◌||◌, is_some, nat_le, nat_lt, slice_get, if◌then◌else◌}
use Rattle.std.specs.List.{AllByRecursion}
use Rattle.std.specs.Option.{option_map}
use Rattle.std.specs.Str.{bytes_eq}
use Rattle.std.proofs.lemmas.Bool.{cases_eq}
use Rattle.std.proofs.lemmas.List.{get_or-set_same, get_or-set_other, length-set}
use Rattle.std.proofs.lemmas.Slice.Eq.{bytes_eq-Decides}
use Rattle.phase_records.specs.Status.{Status, Ended, Fault, Limit}
use Rattle.phase_records.specs.ReportValue.{ReportValue}
use Rattle.superstep_memory.specs.Paths.{path_lt, is_rising}
use Rattle.superstep_memory.proofs.PathOrder.{rising_rest, rising_all}
use Rattle.task_code.specs.JobValue.{JobValue}
use Rattle.task_lang.specs.SegmentValue.{SegmentValue}
use Rattle.task_lang.specs.Meaning.{Plan, Task}
use Rattle.task_lang.specs.Views.{plans, meant}
use Rattle.tier_core.specs.declared.call.Played.{Played}
use Rattle.tier_core.specs.declared.call.Answer.{Answer as TreeAnswer}
use Rattle.tier_core.specs.declared.call.Answer.TheVariants as answer
use Rattle.tier_core.specs.Machine.{State as Tree}
use Rattle.step_core.specs.Program.{program_of}
use Rattle.step_core.specs.Superstep.{State, live_paths}
use Rattle.step_core.specs.JobMeaning.{initial}
use Rattle.programs.specs.Supersteps.{status, status_of, report_with, report_in}
use Rattle.step_core.specs.SlotValue.{SlotValue}
use Rattle.step_core.specs.Slots.{slots_of, with_segment, first_missing, or_missing}
use Rattle.step_core.specs.RoundValue.{RoundValue, AllFresh, IsRound, Opens, state_of, slots_in, status_in}
use Rattle.step_core.specs.Taking.{IsFor, is_done, is_live}
use Rattle.step_core.proofs.Apart.{reached_rises}
use Rattle.job_schedule.specs.declared.stage.Mode.TheVariants as mode
use Rattle.job_schedule.specs.declared.stage.Stage.{Stage}
use Rattle.job_schedule.specs.declared.stage.Stage.TheVariants.{Waits, Taken, Polling, Joining, Arriving, Leaving, Over}
use Rattle.job_schedule.specs.ParticipantValue.{ParticipantValue, no_participant, participant_at, participant_path, is_delivered, all_over, is_done as is_over_by, is_refused, next_stage, sent_home, answered, arriving, joining}
use Rattle.job_schedule.specs.declared.step.JobStep.{JobStep}
use Rattle.job_schedule.specs.Laws.{IsStanding}
use Rattle.job_schedule.specs.World.{World, has_advanced, took, with_child, child_from, with_children, noted, called_by, advanced_by, ended_by, closed_as, mode_after, initial_world, empty_world, reached, world_after}
use Rattle.job_schedule.specs.Moves.{at_stage}
use Rattle.job_schedule.specs.Parts.{IsAsBefore, IsKept, IsNext, IsReached, IsTaken, IsWanted}
use Rattle.job_schedule.proofs.Deeds.{as_before, not_itself}
use Rattle.job_schedule.proofs.Jobs.{run_is_of, initial_is_of}
use Rattle.job_schedule.proofs.Participants.{all_delivered, next_wait}
use Rattle.job_schedule.proofs.Standing.{participants_are_the_live_tasks, starts_stand}

-- one participant has changed, and its task was taken; if it was handed in before it is now, and only then
pub one_kept : (r : RoundValue) (w v : World) (place : ℕ) (g : ParticipantValue) → place < length w.participants
    → v.participants ≡ set w.participants place g
    → w.taken ≤ v.taken → place < v.taken → is_delivered g.stage ≡ is_delivered (participant_at w.participants place).stage
    → (v.mode ≡ mode.Runs → w.mode ≡ mode.Runs) → IsKept r w → IsKept r v
one_kept r w v place g below participants more taken stage runs k =
    let len : length v.participants ≡ length w.participants =
    ap (λ (gs : List ParticipantValue). length gs) participants ∙ length-set w.participants place g in
    record {
      handed = λ on q l. ⊎_elim
          (λ (s : q ≡ place).
          k.handed on q (omega arith)
          ∙ ap (λ (n : ℕ). is_delivered (participant_at w.participants n).stage) s
          ∙ sym stage
          ∙ ap (λ (x : ParticipantValue). is_delivered x.stage) (sym (here q s)))
          (λ (o : q ≢ place). k.handed on q (omega arith) ∙ ap (λ (x : ParticipantValue). is_delivered x.stage) (sym (there q o)))
          (cases_eq q place);
      waiting = λ q from l.
          let other : q ≢ place = (λ s. let bad : place < q = omega arith in absurd (omega (arith, s, bad))) in
          ap (λ (x : ParticipantValue). x.stage) (there q other) ∙ k.waiting q (omega arith) (omega arith);
      runs = λ m some. k.runs (runs m) (omega arith);
    }
  where
    here : (q : ℕ) → q ≡ place → participant_at v.participants q ≡ g
    here q s =
        ap (λ (gs : List ParticipantValue). participant_at gs q) participants ∙ ap (participant_at (set w.participants place g)) s
        ∙ get_or-set_same w.participants place g no_participant below

    there : (q : ℕ) → q ≢ place → participant_at v.participants q ≡ participant_at w.participants q
    there q o =
        ap (λ (gs : List ParticipantValue). participant_at gs q) participants ∙ get_or-set_other w.participants place q g no_participant o

-- a participant whose task was handed in was taken
was_taken : (r : RoundValue) (w : World) (place : ℕ) → place < length w.participants
    → is_delivered (participant_at w.participants place).stage ≡ true → IsKept r w → place < w.taken
was_taken r w place below done k = ⊎_elim (λ h. h) (λ (h : w.taken ≤ place).
    let bad : false ≡ true = sym (ap is_delivered (k.waiting place h below)) ∙ done in cc) (apart place w.taken)
  where
    apart : (a b : ℕ) → (a < b) ⊎ (b ≤ a)
    apart a b = grind arith

-- A task is taken.
pub taken_kept : (r : RoundValue) (w : World) (worker place : ℕ) → place < length w.participants → place ≡ w.taken → IsKept r w
    → IsKept r (took w worker place)
taken_kept r w worker place below at k =
    let first : (participant_at w.participants place).stage ≡ Waits = k.waiting place (omega (arith, at)) below in
    one_kept r w (took w worker place) place (at_stage (participant_at w.participants place) Taken) below refl (omega (arith, at))
    (omega arith)
    (sym (ap is_delivered first)) (λ m. m) k

-- A step of a call.
arrived_is : (arrived n : ℕ) → is_delivered (arriving arrived n) ≡ true
arrived_is arrived n = by (nat_lt arrived n)
  where
    by : (b : Bool) → is_delivered (if b then Arriving arrived else Leaving) ≡ true
    by true = refl
    by false = refl

joined_is : (joined n : ℕ) → is_delivered (joining joined n) ≡ true
joined_is joined n = by (nat_lt joined n)
  where
    by : (b : Bool) → is_delivered (if b then Joining joined else arriving 0 n) ≡ true
    by true = refl
    by false = arrived_is 0 n

next_delivered : (s : Stage) (n : ℕ) → is_delivered (next_stage s n) ≡ is_delivered s
next_delivered Waits n = refl
next_delivered Taken n = refl
next_delivered Polling n = joined_is 0 n
next_delivered (Joining joined) n = joined_is (suc joined) n
next_delivered (Arriving arrived) n = arrived_is (suc arrived) n
next_delivered Leaving n = refl
next_delivered Over n = refl

home_delivered : (g : ParticipantValue) (s : Stage) → (sent_home g s).stage ≡ g.stage
home_delivered g Waits = refl
home_delivered g Taken = refl
home_delivered g Polling = refl
home_delivered g (Joining joined) = refl
home_delivered g (Arriving arrived) = refl
home_delivered g Leaving = refl
home_delivered g Over = refl

answer_delivered : (g : ParticipantValue) (a : Played) → is_delivered (answered g a).stage ≡ is_delivered g.stage
answer_delivered g a = by (is_over_by a) (is_refused a)
  where
    by : (b c : Bool)
        → is_delivered
        (if b then record g { stage = next_stage g.stage (length g.children) } else (if c then sent_home g g.stage else g)).stage
        ≡ is_delivered g.stage
    by true c = next_delivered g.stage (length g.children)
    by false true = ap is_delivered (home_delivered g g.stage)
    by false false = refl

-- if the participants are the same, and the job doesn't begin to run
same_kept : (r : RoundValue) (w v : World) → v.participants ≡ w.participants → v.taken ≡ w.taken → (v.mode ≡ mode.Runs → w.mode ≡ mode.Runs)
    → IsKept r w → IsKept r v
same_kept r w v participants taken runs k =
    let len : length v.participants ≡ length w.participants = ap (λ (gs : List ParticipantValue). length gs) participants in
    record {
      handed =
          λ on q l. k.handed on q (omega arith)
          ∙ ap (λ (gs : List ParticipantValue). is_delivered (participant_at gs q).stage) (sym participants);
      waiting =
          λ q from l. ap (λ (gs : List ParticipantValue). (participant_at gs q).stage) participants
          ∙ k.waiting q (omega arith) (omega arith);
      runs = λ m some. k.runs (runs m) (omega arith);
    }

pub called_kept : (r : RoundValue) (w : World) (worker place : ℕ) (tree : Tree) (a : TreeAnswer) → place < length w.participants
    → is_delivered (participant_at w.participants place).stage ≡ true → IsKept r w → IsKept r (called_by w worker place tree a).1
called_kept r w worker place tree answer.Begun below done k = same_kept r w (record w { tree = tree }) refl refl (λ m. m) k
called_kept r w worker place tree (answer.Played a) below done k =
    one_kept r w (called_by w worker place tree (answer.Played a)).1 place (answered (participant_at w.participants place) a) below refl
    (omega arith)
    (was_taken r w place below done k) (answer_delivered (participant_at w.participants place) a) (λ m. m) k
called_kept r w worker place tree answer.NotNow below done k = same_kept r w (record w { tree = tree }) refl refl (λ m. m) k

-- The root advances.
pub advanced_kept : (r : RoundValue) (w : World) (worker place : ℕ) (tree : Tree) (a : TreeAnswer) → place < length w.participants
    → is_delivered (participant_at w.participants place).stage ≡ true → IsKept r w → IsKept r (advanced_by w worker place tree a).1
advanced_kept r w worker place tree answer.Begun below done k = same_kept r w (record w { tree = tree }) refl refl (λ m. m) k
advanced_kept r w worker place tree (answer.Played a) below done k =
    one_kept r w (has_advanced w worker place tree) place (at_stage (participant_at w.participants place) Over) below refl (omega arith)
    (was_taken r w place below done k) (sym done) (λ m. absurd (advanced_runs m)) k
  where
    advanced_runs : mode.Advanced worker (participant_at w.participants place).token ≡ mode.Runs → ⊥
    advanced_runs e = cc
advanced_kept r w worker place tree answer.NotNow below done k = same_kept r w (record w { tree = tree }) refl refl (λ m. m) k

-- The tree ends by force.
pub ended_kept : (r : RoundValue) (w : World) (tree : Tree) (a : TreeAnswer) → IsKept r w → IsKept r (ended_by w tree a).1
ended_kept r w tree answer.Begun k = same_kept r w (record w { tree = tree }) refl refl (λ m. m) k
ended_kept r w tree (answer.Played a) k = same_kept r w (record w { tree = tree; mode = mode.Over }) refl refl (λ m. absurd (over_runs m)) k
  where
    over_runs : mode.Over ≡ mode.Runs → ⊥
    over_runs e = cc
ended_kept r w tree answer.NotNow k = same_kept r w (record w { tree = tree }) refl refl (λ m. m) k

-- A segment is handed in: the place of its task.
there : (ss : List SlotValue) (path : List ℕ) (place : ℕ) → IsFor path (slice_get ss place) → place < length ss
there [] path place h = absurd h
there (s ∷ ss) path zero h = omega arith
there (s ∷ ss) path (suc place) h = let l = there ss path place h in omega arith

abbrev slot_path : SlotValue → List ℕ
slot_path s = s.task.path

behind : (p : List ℕ) (ss : List SlotValue) (path : List ℕ) (place : ℕ) → AllByRecursion (λ q. path_lt p q ≡ true) (map slot_path ss)
    → IsFor path (slice_get ss place) → path_lt p path ≡ true
behind p [] path place a h = absurd h
behind p (s ∷ ss) path zero a h = subst (λ (q : List ℕ). path_lt p q ≡ true) h a.0
behind p (s ∷ ss) path (suc place) a h = behind p ss path place a.1 h

differ : (p q : List ℕ) → path_lt p q ≡ true → p ≡ q → ⊥
differ p q before same = let bad : false ≡ true = sym (not_itself p q before) ∙ (bytes_eq-Decides p q).1 same in cc

one_place : (ss : List SlotValue) (path : List ℕ) (i j : ℕ) → is_rising (map slot_path ss) ≡ true → IsFor path (slice_get ss i)
    → IsFor path (slice_get ss j) → i ≡ j
one_place [] path i j r h k = absurd h
one_place (s ∷ ss) path zero zero r h k = refl
one_place (s ∷ ss) path zero (suc j) r h k =
    absurd (differ s.task.path path (behind s.task.path ss path j (rising_all s.task.path (map slot_path ss) r) k) h)
one_place (s ∷ ss) path (suc i) zero r h k =
    absurd (differ s.task.path path (behind s.task.path ss path i (rising_all s.task.path (map slot_path ss) r) h) k)
one_place (s ∷ ss) path (suc i) (suc j) r h k = ap suc (one_place ss path i j (rising_rest s.task.path (map slot_path ss) r) h k)

slots_rise : (r : RoundValue) → IsRound r → is_rising (map slot_path r.slots) ≡ true
slots_rise r is = ap is_rising (paths_are r.slots) ∙ reached_rises r is
  where
    paths_are : (ss : List SlotValue) → map slot_path ss ≡ map (λ (t : Task). t.path) (map (λ s. s.task) (slots_of (plans r.job.bodies) ss))
    paths_are [] = refl
    paths_are (s ∷ ss) = ap (λ qs. s.task.path ∷ qs) (paths_are ss)

slot_of_participant : (ss : List SlotValue) (gs : List ParticipantValue) (place : ℕ) → map participant_path gs ≡ map slot_path ss
    → place < length gs
    → IsFor (participant_at gs place).path (slice_get ss place)
slot_of_participant ss [] place e l = absurd (omega arith)
slot_of_participant [] (g ∷ gs) place e l = absurd cc
slot_of_participant (s ∷ ss) (g ∷ gs) zero e l = cc
slot_of_participant (s ∷ ss) (g ∷ gs) (suc place) e l = let rest : map participant_path gs ≡ map slot_path ss = cc in
    slot_of_participant ss gs place rest (omega arith)

live_there : (ss : List SlotValue) (path : List ℕ) (place : ℕ) → IsFor path (slice_get ss place) → is_live ss path ≡ true
live_there [] path place h = absurd h
live_there (s ∷ ss) path zero h = ap (λ (b : Bool). b || is_live ss path) ((bytes_eq-Decides s.task.path path).1 h)
live_there (s ∷ ss) path (suc place) h = by (bytes_eq s.task.path path) (live_there ss path place h)
  where
    by : (b : Bool) → is_live ss path ≡ true → (b || is_live ss path) ≡ true
    by true e = refl
    by false e = e

standing_slots : (r : RoundValue) (w : World) → w.job ≡ state_of r → IsStanding w
    → map participant_path w.participants ≡ map slot_path r.slots
standing_slots r w job is = is.paths ∙ ap live_paths job ∙ sym (paths_are r.slots)
  where
    paths_are : (ss : List SlotValue) → map slot_path ss ≡ map (λ (t : Task). t.path) (map (λ s. s.task) (slots_of (plans r.job.bodies) ss))
    paths_are [] = refl
    paths_are (s ∷ ss) = ap (λ qs. s.task.path ∷ qs) (paths_are ss)

-- the segment of a taken task is wanted
pub is_wanted : (r : RoundValue) (w : World) (place : ℕ) → IsRound r → w.job ≡ state_of r → (status_in r ≡ None → IsStanding w) → IsKept r w
    → place < length w.participants → (participant_at w.participants place).stage ≡ Taken → w.mode ≡ mode.Runs
    → IsWanted r (participant_at w.participants place).path
is_wanted r w place is job stands k below stage m =
    let on : status_in r ≡ None = k.runs m (omega arith) in
    let mine = slot_of_participant r.slots w.participants place (standing_slots r w job (stands on)) below in
    record {
      runs = on;
      live = live_there r.slots (participant_at w.participants place).path place mine;
      first = λ q h.
          let same = one_place r.slots (participant_at w.participants place).path q place (slots_rise r is) h mine in
          ap (λ (n : ℕ). is_done (slice_get r.slots n)) same ∙ k.handed on place below ∙ ap is_delivered stage;
    }

handed_same : (ss : List SlotValue) (path : List ℕ) (place : ℕ) (g : SegmentValue) → IsFor path (slice_get ss place)
    → is_done (slice_get (with_segment ss place g) place) ≡ true
handed_same [] path place g h = absurd h
handed_same (s ∷ ss) path zero g h = refl
handed_same (s ∷ ss) path (suc place) g h = handed_same ss path place g h

handed_other : (ss : List SlotValue) (place q : ℕ) (g : SegmentValue) → q ≢ place
    → is_done (slice_get (with_segment ss place g) q) ≡ is_done (slice_get ss q)
handed_other [] place q g o = refl
handed_other (s ∷ ss) zero zero g o = absurd (o refl)
handed_other (s ∷ ss) zero (suc q) g o = refl
handed_other (s ∷ ss) (suc place) zero g o = refl
handed_other (s ∷ ss) (suc place) (suc q) g o = handed_other ss place q g (λ e. o (ap suc e))

-- the tokens of spawned tasks change no stage
record SameStages (w v : World) : Type 0 where
  count : length v.participants ≡ length w.participants
  stage : (q : ℕ) → (participant_at v.participants q).stage ≡ (participant_at w.participants q).stage
  taken : v.taken ≡ w.taken
  mode : v.mode ≡ w.mode

set_same : (gs : List ParticipantValue) (place q : ℕ) (g : ParticipantValue) → g.stage ≡ (participant_at gs place).stage
    → (participant_at (set gs place g) q).stage ≡ (participant_at gs q).stage
set_same [] place q g e = refl
set_same (x ∷ gs) zero zero g e = e
set_same (x ∷ gs) zero (suc q) g e = refl
set_same (x ∷ gs) (suc place) zero g e = refl
set_same (x ∷ gs) (suc place) (suc q) g e = set_same gs place q g e

child_same : (w : World) (place : ℕ) (path free : List ℕ) → SameStages w (child_from w place path free)
child_same w place path [] = record {
  count = length-set w.participants place (with_child (participant_at w.participants place) w.leaves path (length w.tree.views));
  stage = λ q. set_same w.participants place q (with_child (participant_at w.participants place) w.leaves path (length w.tree.views)) refl;
  taken = refl;
  mode = refl;
}
child_same w place path (token ∷ free) = record {
  count = length-set w.participants place (with_child (participant_at w.participants place) w.leaves path token);
  stage = λ q. set_same w.participants place q (with_child (participant_at w.participants place) w.leaves path token) refl;
  taken = refl;
  mode = refl;
}

children_same : (w : World) (place : ℕ) (paths : List (List ℕ)) → SameStages w (with_children w place paths)
children_same w place [] = record { count = refl; stage = λ q. refl; taken = refl; mode = refl }
children_same w place (path ∷ paths) =
    let one = child_same w place path w.free in
    let more = children_same (child_from w place path w.free) place paths in
    record {
      count = more.count ∙ one.count;
      stage = λ q. more.stage q ∙ one.stage q;
      taken = more.taken ∙ one.taken;
      mode = more.mode ∙ one.mode;
    }

status_stays : (r new : RoundValue) → IsAsBefore r new → status_in new ≡ status_in r
status_stays r new same = ap (λ (n : ℕ). status n (state_of new)) same.limit ∙ ap (status r.limit) same.state

pub delivered_kept : (r new : RoundValue) (w : World) (place : ℕ) (synced : Bool) (paths : List (List ℕ)) → IsRound r → w.job ≡ state_of r
    → (status_in r ≡ None → IsStanding w) → place < length w.participants → (participant_at w.participants place).stage ≡ Taken
    → w.mode ≡ mode.Runs
    → IsTaken r (participant_at w.participants place).path new → IsKept r w → IsKept new (with_children (noted w place synced) place paths)
delivered_kept r new w place synced paths is job stands below stage m h k =
    let g : ParticipantValue = record (at_stage (participant_at w.participants place) Polling) { synced = synced; children = [] } in
    let on : status_in r ≡ None = k.runs m (omega arith) in
    let mine = slot_of_participant r.slots w.participants place (standing_slots r w job (stands on)) below in
    let own : IsFor (participant_at w.participants place).path (slice_get r.slots h.delivery.place) =
    subst (λ (q : List ℕ). IsFor q (slice_get r.slots h.delivery.place)) h.own h.takes.ordered.1 in
    let at : h.delivery.place ≡ place =
    one_place r.slots (participant_at w.participants place).path h.delivery.place place (slots_rise r is) own mine in
    let slots : new.slots ≡ with_segment r.slots place h.delivery.segment =
    ap (λ (x : RoundValue). x.slots) h.added ∙ ap (λ (n : ℕ). with_segment r.slots n h.delivery.segment) at in
    let same = children_same (noted w place synced) place paths in
    let len : length (with_children (noted w place synced) place paths).participants ≡ length w.participants =
    same.count ∙ length-set w.participants place _ in
    let taken : place < w.taken =
    ⊎_elim (λ h. h) (λ (f : w.taken ≤ place). let bad : Waits ≡ Taken = sym (k.waiting place f below) ∙ stage in absurd cc)
    (apart place w.taken) in
    record {
      handed = λ _ q l. ap (λ (ss : List SlotValue). is_done (slice_get ss q)) slots ∙ ⊎_elim
          (λ (s : q ≡ place).
          ap (λ (n : ℕ). is_done (slice_get (with_segment r.slots place h.delivery.segment) n)) s
          ∙ handed_same r.slots (participant_at w.participants place).path place h.delivery.segment mine
          ∙ ap (λ (x : ParticipantValue). is_delivered x.stage) (sym (get_or-set_same w.participants place g no_participant below))
          ∙ ap (λ (n : ℕ). is_delivered (participant_at (set w.participants place g) n).stage) (sym s)
          ∙ ap is_delivered (sym (same.stage q)))
          (λ (o : q ≢ place).
          handed_other r.slots place q h.delivery.segment o
          ∙ k.handed on q (omega arith)
          ∙ ap (λ (x : ParticipantValue). is_delivered x.stage) (sym (get_or-set_other w.participants place q g no_participant o))
          ∙ ap is_delivered (sym (same.stage q)))
          (cases_eq q place);
      waiting = λ q from l.
          let behind_it : place < q = omega (arith, taken, same.taken, from) in
          let o : q ≢ place = λ s. absurd (omega (arith, s, behind_it)) in
          same.stage q ∙ ap (λ (x : ParticipantValue). x.stage) (get_or-set_other w.participants place q g no_participant o)
          ∙ k.waiting q (omega (arith, same.taken, from)) (omega arith);
      runs = λ _ _. status_stays r new (as_before r new h.delivery h.added) ∙ on;
    }
  where
    apart : (a b : ℕ) → (a < b) ⊎ (b ≤ a)
    apart a b = grind arith

-- The round is closed.
fresh_undone : (ss : List SlotValue) (q : ℕ) → AllFresh ss → is_done (slice_get ss q) ≡ false
fresh_undone [] q a = refl
fresh_undone (s ∷ ss) zero a = ap is_some a.0
fresh_undone (s ∷ ss) (suc q) a = fresh_undone ss q a.1

no_report : (st : State) (o : Option Status) → report_with st o ≡ None → o ≡ None
no_report st None h = refl
no_report st (Some s) h = cc

a_report : (st : State) (o : Option Status) (report : ReportValue) → report_with st o ≡ Some report → o ≡ None → ⊥
a_report st None report h e = cc
a_report st (Some s) report h e = cc

after_runs : (worker token : ℕ) (s : Status) → mode_after worker token s ≡ mode.Runs → ⊥
after_runs worker token (Ended steps) e = cc
after_runs worker token (Fault code step path) e = cc
after_runs worker token (Limit steps) e = cc

pub closed_kept : (r new : RoundValue) (w : World) (worker token : ℕ) (job : State) (o : Option ReportValue) → IsNext r new
    → state_of new ≡ job → new.limit ≡ w.limit
    → report_in w.limit job ≡ o → IsKept r w → IsKept new (closed_as w worker token job o).1
closed_kept r new w worker token job None next at limit on k = record {
  handed = λ runs q l. fresh_undone new.slots q (next.fresh runs) ∙ sym (ap is_delivered (next_wait w.participants q l));
  waiting = λ q from l. next_wait w.participants q l;
  runs = λ m some. ap (λ (n : ℕ). status n (state_of new)) limit ∙ ap (status w.limit) at ∙ no_report job (status w.limit job) on;
}
closed_kept r new w worker token job (Some report) next at limit on k = record {
  handed =
      λ runs q l. absurd
      (a_report job (status w.limit job) report on (sym (ap (λ (n : ℕ). status n (state_of new)) limit ∙ ap (status w.limit) at) ∙ runs));
  waiting = k.waiting;
  runs = λ m some. absurd (after_runs worker token report.status m);
}

none_missing : (ps : List Plan) (ss : List SlotValue) → ((place : ℕ) → place < length ss → is_done (slice_get ss place) ≡ true)
    → first_missing (slots_of ps ss) ≡ None
none_missing ps [] h = refl
none_missing ps (s ∷ ss) h = by s.done (h 0 (omega arith)) (none_missing ps ss (λ place l. h (suc place) (omega arith)))
  where
    by : (o : Option SegmentValue) → is_some o ≡ true → first_missing (slots_of ps ss) ≡ None
        → or_missing (option_map (meant ps) o) s.task.path (first_missing (slots_of ps ss)) ≡ None
    by None e more = cc
    by (Some g) e more = more

len_map : {A B : Type 0} (f : A → B) (xs : List A) → length (map f xs) ≡ length xs
len_map f [] = refl
len_map f (x ∷ xs) = ap suc (len_map f xs)

pub all_handed : (r : RoundValue) (w : World) → w.job ≡ state_of r → (status_in r ≡ None → IsStanding w)
    → (status w.limit w.job ≡ None → all_over w.participants ≡ true)
    → w.limit ≡ r.limit → IsKept r w → status_in r ≡ None → first_missing (slots_in r) ≡ None
all_handed r w job stands over limit k on =
    let paths = standing_slots r w job (stands on) in
    let count : length w.participants ≡ length r.slots =
    sym (len_map participant_path w.participants) ∙ ap (λ (ps : List (List ℕ)). length ps) paths ∙ len_map slot_path r.slots in
    let all = over (ap (λ (n : ℕ). status n w.job) limit ∙ ap (status r.limit) job ∙ on) in
    none_missing (plans r.job.bodies) r.slots (λ place l.
    k.handed on place (omega arith) ∙ all_delivered w.participants place all (omega arith))

-- Before the first step of a worker.
pub initial_kept : (job : JobValue) (limit : ℕ) (parents : List ℕ) (r : RoundValue) (w : World) → 1 ≤ limit
    → Opens r job limit (initial (program_of job))
    → w ≡ initial_world (program_of job) parents limit → IsKept r w
initial_kept job limit parents r w some is at = subst (IsKept r) (sym at) (record {
  handed = λ on q l. fresh_undone r.slots q (is.none_yet (ap (λ (st : State). st.fault) is.state)) ∙ sym (ap is_delivered (all.1 q l));
  waiting = λ q from l. all.1 q l;
  runs = λ m there.
      ap (λ (n : ℕ). status n (state_of r)) is.limit
      ∙ ap (status limit) is.state
      ∙ by limit (initial (program_of job)).live some
      (omega (
        arith,
        len_map participant_path (initial_world (program_of job) parents limit).participants,
        ap (λ (ps : List (List ℕ)). length ps) all.0,
        len_map (λ (t : Task). t.path) (initial (program_of job)).live,
      ));
})
  where
    all : (map participant_path (initial_world (program_of job) parents limit).participants ≡ live_paths (initial (program_of job)))
        × ((place : ℕ) → place < length (initial_world (program_of job) parents limit).participants
        → (participant_at (initial_world (program_of job) parents limit).participants place).stage ≡ Waits)
    all =
        starts_stand (empty_world (program_of job) parents limit) (live_paths (initial (program_of job))) (λ place l. absurd (omega arith))

    by : (n : ℕ) (ts : List Task) → 1 ≤ n → 0 < length ts → status_of n 0 None ts ≡ None
    by zero ts low here = absurd (omega arith)
    by (suc n) [] low here = absurd (omega arith)
    by (suc n) (t ∷ ts) low here = let no : nat_le (suc n) 0 ≡ false = grind arith in
        ap (λ (b : Bool). if b then Some (Limit 0) else None) no

-- Worlds that are reached satisfy `IsStanding` while their job runs, and a step leads on.
pub reached_stands : (r : RoundValue) (w : World) → IsReached w → w.job ≡ state_of r → w.limit ≡ r.limit → status_in r ≡ None → IsStanding w
reached_stands r w (p, limit, parents, xs, at) job limited on =
    let is = run_is_of p limit (initial_world p parents limit) xs (initial_is_of p parents limit) in
    let here : w.limit ≡ limit = ap (λ (v : World). v.limit) at ∙ is.limited in
    subst IsStanding (sym at) (participants_are_the_live_tasks p parents limit xs
    (ap (λ (v : World). status limit v.job) (sym at) ∙ ap (λ (n : ℕ). status n w.job) (sym here ∙ limited) ∙ ap (status r.limit) job ∙ on))

one_step_more : (w : World) (xs : List JobStep) (x : JobStep) → reached w (xs ++ x ∷ []) ≡ world_after (reached w xs) x
one_step_more w [] x = refl
one_step_more w (y ∷ xs) x = one_step_more (world_after w y) xs x

pub reached_more : (w v : World) (x : JobStep) → IsReached w → v ≡ world_after w x → IsReached v
reached_more w v x (p, limit, parents, xs, at) e =
    (p, limit, parents, xs ++ x ∷ [], e ∙ ap (λ (u : World). world_after u x) at ∙ sym (one_step_more (initial_world p parents limit) xs x))

pub initial_reached : (job : JobValue) (limit : ℕ) (parents : List ℕ) (w : World) → w ≡ initial_world (program_of job) parents limit
    → IsReached w
initial_reached job limit parents w at = (program_of job, limit, parents, [], at)
