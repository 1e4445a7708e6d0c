-- While a job runs, the participants of each world are those of its live tasks.
use Rattle.std.proofs.Common.{◌≡◌, ◌≢◌, ⊎_elim, ℕ, zero, suc, ◌<◌, Bool, true, false, List, [], ◌∷◌, ◌++◌, length, map, set, refl, sym, ap, subst, arith, ◌∙◌, append_assoc, Some, None, Option}
use Rattle.std.specs.Prelude.{if◌then◌else◌, ◌==◌, ◌&&◌, nat_lt, is_some, slice_index_or}
use Rattle.std.proofs.lemmas.Bool.{cases_eq}
use Rattle.std.proofs.lemmas.List.{get_or-set_same, get_or-set_other, length-set, map-append}
use Rattle.superstep_memory.specs.Paths.{is_rising}
use Rattle.phase_records.specs.Status.{Status}
use Rattle.phase_records.specs.ReportValue.{ReportValue}
use Rattle.tier_core.specs.declared.call.Played.{Played}
use Rattle.tier_core.specs.declared.call.Answer.{Answer as TreeAnswer}
use Rattle.tier_core.specs.declared.call.Answer.TheVariants as answer
use Rattle.tier_core.specs.declared.call.Call.TheVariants as call
use Rattle.tier_core.specs.declared.call.Step.TheVariants.{Begin, Go, Finish}
use Rattle.tier_core.specs.Machine.{State as Tree}
use Rattle.tier_core.specs.Run.{after, answer_to}
use Rattle.task_lang.specs.Meaning.{Segment}
use Rattle.step_core.specs.Program.{Program}
use Rattle.step_core.specs.Superstep.{State, segments, superstep, live_paths}
use Rattle.step_core.specs.JobMeaning.{initial}
use Rattle.programs.specs.Supersteps.{status, report_with, report_in}
use Rattle.step_core.specs.OrderValue.{has_synced, spawned_paths}
use Rattle.step_core.proofs.Apart.{live-paths-rise}
use Rattle.step_core.proofs.LawProofs.{next-live-synced-or-spawned}
use Rattle.job_schedule.specs.declared.stage.Mode.{Mode}
use Rattle.job_schedule.specs.declared.stage.Mode.TheVariants as mode
use Rattle.job_schedule.specs.declared.stage.Move.{Move}
use Rattle.job_schedule.specs.declared.stage.Move.TheVariants.{Takes, Delivers, Calls, Advances, Closes, Ends}
use Rattle.job_schedule.specs.declared.step.JobStep.{JobStep}
use Rattle.job_schedule.specs.AnswerValue.{NotNow}
use Rattle.job_schedule.specs.declared.stage.Stage.{Stage}
use Rattle.job_schedule.specs.declared.stage.Stage.TheVariants.{Waits, Taken, Polling, Joining, Arriving, Leaving, Over}
use Rattle.job_schedule.specs.ParticipantValue.{ParticipantValue, waiting, no_participant, no_child, participant_at, participant_path, child_path, child_at, is_done, is_refused, next_stage, sent_home, answered, next_participants, all_over, is_delivered}
use Rattle.tier_shape.specs.Preferred.{leaf_at}
use Rattle.job_schedule.specs.Moves.{at_stage, by_stage, passing}
use Rattle.job_schedule.specs.World.{World, deed_in, deed_of, with_participant, with_child, child_from, with_children, noted, handed_in, called_by, advanced_by, ended_by, next_job, closed_as, done_by, kind_of, kind_for, if_asked, move_of, worker_of, world_after, reached, by_mode, by_hand, with_start, with_starts, empty_world, initial_world}
use Rattle.job_schedule.specs.Laws.{ParticipantsAreTheLiveTasks}
use Rattle.job_schedule.proofs.Participants.{Notes, map_set, all_delivered, living_paths, next_paths, next_fresh}
use Rattle.job_schedule.proofs.Closing.{one_superstep, from_mode}
use Rattle.job_schedule.proofs.Jobs.{IsOf, step_goes, step_is_of, run_is_of, initial_is_of, initial_job}

abbrev deeds : World → List (List ℕ × Segment)
deeds w = segments w.program w.job.arrays w.job.step w.job.live

record Stands (w : World) : Type 0 where
  paths : map participant_path w.participants ≡ live_paths w.job
  noted : (place : ℕ) → place < length w.participants → is_delivered (participant_at w.participants place).stage ≡ true
      → Notes (deeds w) (participant_at w.participants place)

-- one participant is another, of the same task
one_participant : (w : World) (place : ℕ) (g : ParticipantValue) → g.path ≡ (participant_at w.participants place).path
    → (place < length w.participants → is_delivered g.stage ≡ true → Notes (deeds w) g) → Stands w → Stands (with_participant w place g)
one_participant w place g e n h =
    let len : length (set w.participants place g) ≡ length w.participants = length-set w.participants place g in
    record {
      paths = map_set participant_path w.participants place g no_participant e ∙ h.paths;
      noted = λ q l d. ⊎_elim
          (λ (s : q ≡ place).
          let known : place < length w.participants = omega arith in
          let here : participant_at (set w.participants place g) q ≡ g =
          ap (participant_at (set w.participants place g)) s ∙ get_or-set_same w.participants place g no_participant known in
          subst (λ (x : ParticipantValue). Notes (deeds w) x) (sym here)
          (n known (ap (λ (x : ParticipantValue). is_delivered x.stage) (sym here) ∙ d)))
          (λ (o : q ≢ place).
          let there : participant_at (set w.participants place g) q ≡ participant_at w.participants q =
          get_or-set_other w.participants place q g no_participant o in
          subst (λ (x : ParticipantValue). Notes (deeds w) x) (sym there)
          (h.noted q (omega arith) (ap (λ (x : ParticipantValue). is_delivered x.stage) (sym there) ∙ d)))
          (cases_eq q place);
    }

-- what an answer leaves of a participant
record Keeps (g h : ParticipantValue) : Type 0 where
  path : h.path ≡ g.path
  synced : h.synced ≡ g.synced
  children : map child_path h.children ≡ map child_path g.children
  delivered : is_delivered h.stage ≡ true → is_delivered g.stage ≡ true

keeps_itself : (g : ParticipantValue) → Keeps g g
keeps_itself g = record { path = refl; synced = refl; children = refl; delivered = λ h. h }

next_delivered : (s : Stage) (n : ℕ) → is_delivered (next_stage s n) ≡ true → is_delivered s ≡ true
next_delivered Waits n h = h
next_delivered Taken n h = h
next_delivered Polling n h = refl
next_delivered (Joining joined) n h = refl
next_delivered (Arriving arrived) n h = refl
next_delivered Leaving n h = refl
next_delivered Over n h = refl

home_keeps : (g : ParticipantValue) (s : Stage) → Keeps g (sent_home g s)
home_keeps g Waits = keeps_itself g
home_keeps g Taken = keeps_itself g
home_keeps g Polling = keeps_itself g
home_keeps g (Joining joined) = record {
  path = refl;
  synced = refl;
  children = map_set child_path g.children joined (record (child_at g.children joined) { home = g.home }) no_child refl;
  delivered = λ h. h;
}
home_keeps g (Arriving arrived) = keeps_itself g
home_keeps g Leaving = keeps_itself g
home_keeps g Over = keeps_itself g

answer_keeps : (g : ParticipantValue) (a : Played) → Keeps g (answered g a)
answer_keeps g a = by (is_done a) (is_refused a)
  where
    by : (b c : Bool)
        → Keeps g (if b then record g { stage = next_stage g.stage (length g.children) } else (if c then sent_home g g.stage else g))
    by true c = record { path = refl; synced = refl; children = refl; delivered = next_delivered g.stage (length g.children) }
    by false true = home_keeps g g.stage
    by false false = keeps_itself g

notes_kept : (ss : List (List ℕ × Segment)) (g h : ParticipantValue) → Keeps g h → Notes ss g → Notes ss h
notes_kept ss g h k n = record {
  synced = k.synced ∙ n.synced ∙ ap (λ q. has_synced (deed_in ss q)) (sym k.path);
  children = k.children ∙ n.children ∙ ap (λ q. spawned_paths (deed_in ss q)) (sym k.path);
}

called_stands : (w : World) (worker place : ℕ) (tree : Tree) (a : TreeAnswer) → Stands w → Stands (called_by w worker place tree a).1
called_stands w worker place tree answer.Begun h = record { paths = h.paths; noted = h.noted }
called_stands w worker place tree (answer.Played a) h =
    let k = answer_keeps (participant_at w.participants place) a in
    let one = one_participant w place (answered (participant_at w.participants place) a) k.path
    (λ l d. notes_kept (deeds w) (participant_at w.participants place) (answered (participant_at w.participants place) a) k (h.noted place l (k.delivered d)))
    h in
    record { paths = one.paths; noted = one.noted }
called_stands w worker place tree answer.NotNow h = record { paths = h.paths; noted = h.noted }

-- only a task that passes advances the root
advancing : (g : ParticipantValue) (place at : ℕ) (due : Bool) (s : Stage) → by_stage g place due s ≡ Some (Advances at)
    → (place ≡ at) × (is_delivered s ≡ true)
advancing g place at due Waits h = cc
advancing g place at due Taken h = cc
advancing g place at due Polling h = cc
advancing g place at due (Joining joined) h = cc
advancing g place at due (Arriving arrived) h = cc
advancing g place at due Leaving h = by due h
  where
    by : (b : Bool) → passing b place g.token g.synced ≡ Some (Advances at) → (place ≡ at) × (true ≡ true)
    by true e = (cc, refl)
    by false e = cc
advancing g place at due Over h = cc

hand_advances : (w : World) (hand : Option ℕ) (at : ℕ) → by_hand w hand ≡ Some (Advances at)
    → is_delivered (participant_at w.participants at).stage ≡ true
hand_advances w None at h = by (nat_lt w.taken (length w.participants)) (is_some (status w.limit w.job)) h
  where
    by : (b c : Bool) → (if b then Some (Takes w.taken) else (if c then Some (Closes 0) else None)) ≡ Some (Advances at)
        → is_delivered (participant_at w.participants at).stage ≡ true
    by true c e = cc
    by false true e = cc
    by false false e = cc
hand_advances w (Some place) at h =
    let a = advancing (participant_at w.participants place) place at _ (participant_at w.participants place).stage h in
    ap (λ (n : ℕ). is_delivered (participant_at w.participants n).stage) (sym a.0) ∙ a.1

mode_advances : (w : World) (worker at : ℕ) (m : Mode) → by_mode w worker m ≡ Some (Advances at)
    → is_delivered (participant_at w.participants at).stage ≡ true
mode_advances w worker at mode.Runs h = hand_advances w (slice_index_or w.hands worker None) at h
mode_advances w worker at (mode.Advanced closer token) h = by ((worker == closer) && all_over w.participants) h
  where
    by : (b : Bool) → (if b then Some (Closes token) else None) ≡ Some (Advances at)
        → is_delivered (participant_at w.participants at).stage ≡ true
    by true e = cc
    by false e = cc
mode_advances w worker at (mode.Forces closer token) h = by (worker == closer) h
  where
    by : (b : Bool) → (if b then Some (Ends token) else None) ≡ Some (Advances at)
        → is_delivered (participant_at w.participants at).stage ≡ true
    by true e = cc
    by false e = cc
mode_advances w worker at mode.Over h = cc

move_advances : (w : World) (worker at : ℕ) → move_of w worker ≡ Some (Advances at)
    → is_delivered (participant_at w.participants at).stage ≡ true
move_advances w worker at h = by (nat_lt worker 64) h
  where
    by : (b : Bool) → (if b then by_mode w worker w.mode else None) ≡ Some (Advances at)
        → is_delivered (participant_at w.participants at).stage ≡ true
    by true e = mode_advances w worker at w.mode e
    by false e = cc

advanced_stands : (w : World) (worker place : ℕ) (tree : Tree) (a : TreeAnswer)
    → is_delivered (participant_at w.participants place).stage ≡ true → Stands w
    → Stands (advanced_by w worker place tree a).1
advanced_stands w worker place tree answer.Begun d h = record { paths = h.paths; noted = h.noted }
advanced_stands w worker place tree (answer.Played a) d h =
    let one = one_participant w place (at_stage (participant_at w.participants place) Over) refl
    (λ l e. let n = h.noted place l d in record { synced = n.synced; children = n.children }) h in
    record { paths = one.paths; noted = one.noted }
advanced_stands w worker place tree answer.NotNow d h = record { paths = h.paths; noted = h.noted }

ended_stands : (w : World) (tree : Tree) (a : TreeAnswer) → Stands w → Stands (ended_by w tree a).1
ended_stands w tree answer.Begun h = record { paths = h.paths; noted = h.noted }
ended_stands w tree (answer.Played a) h = record { paths = h.paths; noted = h.noted }
ended_stands w tree answer.NotNow h = record { paths = h.paths; noted = h.noted }

-- A segment is handed in: the participant has what it spawned once the rest has come.
record Mine (ss : List (List ℕ × Segment)) (p : List ℕ) (rest : List (List ℕ)) (g : ParticipantValue) : Type 0 where
  path : g.path ≡ p
  synced : g.synced ≡ has_synced (deed_in ss p)
  children : map child_path g.children ++ rest ≡ spawned_paths (deed_in ss p)

record Half (w : World) (place : ℕ) (p : List ℕ) (rest : List (List ℕ)) (v : World) : Type 0 where
  program : v.program ≡ w.program
  job : v.job ≡ w.job
  paths : map participant_path v.participants ≡ live_paths w.job
  others : (q : ℕ) → q < length v.participants → q ≢ place → is_delivered (participant_at v.participants q).stage ≡ true
      → Notes (deeds w) (participant_at v.participants q)
  mine : place < length v.participants → Mine (deeds w) p rest (participant_at v.participants place)

half_set : (w v : World) (place : ℕ) (p : List ℕ) (rest more : List (List ℕ)) (g : ParticipantValue)
    → g.path ≡ (participant_at v.participants place).path
    → (Mine (deeds w) p rest (participant_at v.participants place) → Mine (deeds w) p more g) → Half w place p rest v
    → Half w place p more (with_participant v place g)
half_set w v place p rest more g e mine h =
    let len : length (set v.participants place g) ≡ length v.participants = length-set v.participants place g in
    record {
      program = h.program;
      job = h.job;
      paths = map_set participant_path v.participants place g no_participant e ∙ h.paths;
      others = λ q l o d.
          let there : participant_at (set v.participants place g) q ≡ participant_at v.participants q =
          get_or-set_other v.participants place q g no_participant o in
          subst (λ (x : ParticipantValue). Notes (deeds w) x) (sym there)
          (h.others q (omega arith) o (ap (λ (x : ParticipantValue). is_delivered x.stage) (sym there) ∙ d));
      mine = λ l.
          let known : place < length v.participants = omega arith in
          subst (λ (x : ParticipantValue). Mine (deeds w) p more x) (sym (get_or-set_same v.participants place g no_participant known))
          (mine (h.mine known));
    }

one_child : (ss : List (List ℕ × Segment)) (p path : List ℕ) (rest : List (List ℕ)) (g : ParticipantValue) (leaves : List ℕ) (token : ℕ)
    → Mine ss p (path ∷ rest) g
    → Mine ss p rest (with_child g leaves path token)
one_child ss p path rest g leaves token m = record {
  path = m.path;
  synced = m.synced;
  children =
      ap (λ (qs : List (List ℕ)). qs ++ rest) (map-append child_path g.children (_ ∷ []))
      ∙ append_assoc (map child_path g.children) (path ∷ []) rest
      ∙ m.children;
}

half_child : (w v : World) (place : ℕ) (p path : List ℕ) (rest : List (List ℕ)) (free : List ℕ) → Half w place p (path ∷ rest) v
    → Half w place p rest (child_from v place path free)
half_child w v place p path rest [] h =
    let k =
    half_set w v place p (path ∷ rest) rest (with_child (participant_at v.participants place) v.leaves path (length v.tree.views)) refl
    (one_child (deeds w) p path rest (participant_at v.participants place) v.leaves (length v.tree.views)) h in
    record { program = k.program; job = k.job; paths = k.paths; others = k.others; mine = k.mine }
half_child w v place p path rest (token ∷ free) h =
    let k = half_set w v place p (path ∷ rest) rest (with_child (participant_at v.participants place) v.leaves path token) refl
    (one_child (deeds w) p path rest (participant_at v.participants place) v.leaves token) h in
    record { program = k.program; job = k.job; paths = k.paths; others = k.others; mine = k.mine }

half_children : (w v : World) (place : ℕ) (p : List ℕ) (paths : List (List ℕ)) → Half w place p paths v
    → Half w place p [] (with_children v place paths)
half_children w v place p [] h = h
half_children w v place p (path ∷ paths) h =
    half_children w (child_from v place path v.free) place p paths (half_child w v place p path paths v.free h)

whole : (w v : World) (place : ℕ) (p : List ℕ) → Half w place p [] v → Stands v
whole w v place p h =
    let same : deeds w ≡ deeds v =
    ap (λ (q : Program). segments q w.job.arrays w.job.step w.job.live) (sym h.program)
    ∙ ap (λ (st : State). segments v.program st.arrays st.step st.live) (sym h.job) in
    record {
      paths = h.paths ∙ ap live_paths (sym h.job);
      noted = λ q l d. subst (λ (ss : List (List ℕ × Segment)). Notes ss (participant_at v.participants q)) same (⊎_elim
          (λ (s : q ≡ place).
          let known : place < length v.participants = omega arith in
          let m = h.mine known in
          subst (λ (n : ℕ). Notes (deeds w) (participant_at v.participants n)) (sym s) (record {
            synced = m.synced ∙ ap (λ x. has_synced (deed_in (deeds w) x)) (sym m.path);
            children =
                sym (nothing_behind (map child_path (participant_at v.participants place).children)) ∙ m.children
                ∙ ap (λ x. spawned_paths (deed_in (deeds w) x)) (sym m.path);
          }))
          (λ (o : q ≢ place). h.others q l o d)
          (cases_eq q place));
    }
  where
    nothing_behind : (xs : List (List ℕ)) → xs ++ [] ≡ xs
    nothing_behind [] = refl
    nothing_behind (x ∷ xs) = ap (λ ys. x ∷ ys) (nothing_behind xs)

handed_stands : (w : World) (place : ℕ) → Stands w → Stands (handed_in w place (deed_of w (participant_at w.participants place).path))
handed_stands w place h =
    let p : List ℕ = (participant_at w.participants place).path in
    let s : Segment = deed_of w (participant_at w.participants place).path in
    let g : ParticipantValue =
    record (at_stage (participant_at w.participants place) Polling) {
      synced =
          has_synced (deed_of w (participant_at w.participants place).path);
      children = [];
    } in
    let len : length
    (set w.participants place (record (at_stage (participant_at w.participants place) Polling) { synced = has_synced (deed_of w (participant_at w.participants place).path); children = [] }))
    ≡ length w.participants =
    length-set w.participants place
    (record (at_stage (participant_at w.participants place) Polling) { synced = has_synced (deed_of w (participant_at w.participants place).path); children = [] }) in
    whole w (handed_in w place (deed_of w (participant_at w.participants place).path)) place (participant_at w.participants place).path
    (half_children w (noted w place (has_synced (deed_of w (participant_at w.participants place).path))) place
    (participant_at w.participants place).path (spawned_paths (deed_of w (participant_at w.participants place).path)) (record {
      program = refl;
      job = refl;
      paths = map_set participant_path w.participants place g no_participant refl ∙ h.paths;
      others = λ q l o d.
          let there : participant_at (set w.participants place g) q ≡ participant_at w.participants q =
          get_or-set_other w.participants place q g no_participant o in
          subst (λ (x : ParticipantValue). Notes (deeds w) x) (sym there)
          (h.noted q (omega arith) (ap (λ (x : ParticipantValue). is_delivered x.stage) (sym there) ∙ d));
      mine = λ l.
          let known : place < length w.participants = omega arith in
          subst
          (λ (x : ParticipantValue). Mine (deeds w) (participant_at w.participants place).path (spawned_paths (deed_of w (participant_at w.participants place).path)) x)
          (sym (get_or-set_same w.participants place g no_participant known)) (record { path = refl; synced = refl; children = refl });
    }))

-- The round is closed, and the job goes on.
no_status : (o : Option Status) (st : State) → report_with st o ≡ None → is_some o ≡ false
no_status None st h = refl
no_status (Some s) st h = cc

no_fault : (limit : ℕ) (st : State) → is_some (status limit st) ≡ false → st.fault ≡ None
no_fault limit st h = by st.fault refl h
  where
    by : (o : Option (ℕ × List ℕ)) → st.fault ≡ o → is_some (status limit (record st { fault = o })) ≡ false → st.fault ≡ None
    by None e k = e
    by (Some f) e k = cc

next_stands : (p : Program) (limit : ℕ) (w : World) → IsOf p limit w → all_over w.participants ≡ true
    → report_in w.limit (next_job w) ≡ None → Stands w
    → (map participant_path (next_participants w.participants) ≡ live_paths (next_job w))
next_stands p limit w is over on h =
    let one = one_superstep w on in
    let running : is_some (status w.limit (next_job w)) ≡ false = no_status (status w.limit (next_job w)) (next_job w) on in
    let unharmed : (superstep w.program w.job).fault ≡ None =
    ap (λ (st : State). st.fault) (sym one.0) ∙ no_fault w.limit (next_job w) running in
    let rising : is_rising (live_paths w.job) ≡ true =
    ap (λ (st : State). is_rising (live_paths st)) is.job.1 ∙ live-paths-rise p limit is.job.0 in
    let left = living_paths w.program w.job.arrays w.job.step w.participants w.job.live h.paths rising
    (λ place l. h.noted place l (all_delivered w.participants place over l)) in
    next_paths w.participants _ left ∙ sym (next-live-synced-or-spawned w.program w.job unharmed) ∙ ap live_paths (sym one.0)

abbrev Standing : World → Type 0
Standing w = is_some (status w.limit w.job) ≡ false → Stands w

closed_stands : (p : Program) (limit : ℕ) (w : World) (worker token : ℕ) (o : Option ReportValue) → IsOf p limit w
    → report_in w.limit (next_job w) ≡ o
    → move_of w worker ≡ Some (Closes token) → Standing w → Standing (closed_as w worker token (next_job w) o).1
closed_stands p limit w worker token None is on m h = λ run.
    let one = one_superstep w on in
    let over : all_over w.participants ≡ true =
    ⊎_elim (λ (q : is_some (status w.limit w.job) ≡ true). let bad : true ≡ false = sym q ∙ one.1 in cc) (λ q. q.1)
    (from_mode w worker token m) in
    record {
      paths = next_stands p limit w is over on (h one.1);
      noted = λ place l d. let bad : true ≡ false = sym d ∙ next_fresh w.participants place l in cc;
    }
closed_stands p limit w worker token (Some r) is on m h = λ run. by (status w.limit (next_job w)) run on
  where
    by : (s : Option Status) → is_some s ≡ false → report_with (next_job w) s ≡ Some r
        → Stands (closed_as w worker token (next_job w) (Some r)).1
    by None e k = cc
    by (Some s) e k = cc

move_stands : (p : Program) (limit : ℕ) (w : World) (worker : ℕ) (m : Move) → IsOf p limit w → move_of w worker ≡ Some m → Standing w
    → Standing (done_by w worker m).1
move_stands p limit w worker (Takes place) is e h = λ run.
    let k = h run in
    let one = one_participant w place (at_stage (participant_at w.participants place) Taken) refl (λ l d. cc) k in
    record { paths = one.paths; noted = one.noted }
move_stands p limit w worker (Delivers place) is e h = λ run. handed_stands w place (h (handed_status w place run))
  where
    handed_status : (w : World) (place : ℕ)
        → is_some (status (done_by w worker (Delivers place)).1.limit (done_by w worker (Delivers place)).1.job) ≡ false
        → is_some (status w.limit w.job) ≡ false
    handed_status w place r =
        children_status (noted w place (has_synced (deed_of w (participant_at w.participants place).path))) place
        (spawned_paths (deed_of w (participant_at w.participants place).path)) r
      where
        child_status : (v : World) (place : ℕ) (path free : List ℕ)
            → is_some (status (child_from v place path free).limit (child_from v place path free).job) ≡ false
            → is_some (status v.limit v.job) ≡ false
        child_status v place path [] r = r
        child_status v place path (token ∷ free) r = r

        children_status : (v : World) (place : ℕ) (paths : List (List ℕ))
            → is_some (status (with_children v place paths).limit (with_children v place paths).job) ≡ false
            → is_some (status v.limit v.job) ≡ false
        children_status v place [] r = r
        children_status v place (path ∷ paths) r =
            child_status v place path v.free (children_status (child_from v place path v.free) place paths r)
move_stands p limit w worker (Calls place token c) is e h = by (answer_to (after w.tree (Begin token c)) (Go token))
  where
    by : (a : TreeAnswer) → Standing (called_by w worker place (after (after w.tree (Begin token c)) (Go token)) a).1
    by answer.Begun = λ run. called_stands w worker place (after (after w.tree (Begin token c)) (Go token)) answer.Begun (h run)
    by (answer.Played a) = λ run. called_stands w worker place (after (after w.tree (Begin token c)) (Go token)) (answer.Played a) (h run)
    by answer.NotNow = λ run. called_stands w worker place (after (after w.tree (Begin token c)) (Go token)) answer.NotNow (h run)
move_stands p limit w worker (Advances place) is e h = by (answer_to w.tree (Finish (participant_at w.participants place).token))
  where
    by : (a : TreeAnswer) → Standing (advanced_by w worker place (after w.tree (Finish (participant_at w.participants place).token)) a).1
    by answer.Begun =
        λ run. advanced_stands w worker place (after w.tree (Finish (participant_at w.participants place).token)) answer.Begun
        (move_advances w worker place e) (h run)
    by (answer.Played a) =
        λ run. advanced_stands w worker place (after w.tree (Finish (participant_at w.participants place).token)) (answer.Played a)
        (move_advances w worker place e) (h run)
    by answer.NotNow =
        λ run. advanced_stands w worker place (after w.tree (Finish (participant_at w.participants place).token)) answer.NotNow
        (move_advances w worker place e) (h run)
move_stands p limit w worker (Closes token) is e h = closed_stands p limit w worker token (report_in w.limit (next_job w)) is refl e h
move_stands p limit w worker (Ends token) is e h = by (answer_to (after w.tree (Begin token call.Force)) (Go token))
  where
    by : (a : TreeAnswer) → Standing (ended_by w (after (after w.tree (Begin token call.Force)) (Go token)) a).1
    by answer.Begun = λ run. ended_stands w (after (after w.tree (Begin token call.Force)) (Go token)) answer.Begun (h run)
    by (answer.Played a) = λ run. ended_stands w (after (after w.tree (Begin token call.Force)) (Go token)) (answer.Played a) (h run)
    by answer.NotNow = λ run. ended_stands w (after (after w.tree (Begin token call.Force)) (Go token)) answer.NotNow (h run)

step_stands : (p : Program) (limit : ℕ) (w : World) (x : JobStep) → IsOf p limit w → Standing w → Standing (world_after w x)
step_stands p limit w x is h = by (move_of w (worker_of x)) refl
  where
    if_so : (m : Move) (b : Bool) → move_of w (worker_of x) ≡ Some m → Standing (if b then done_by w (worker_of x) m else (NotNow, w)).1
    if_so m true e = move_stands p limit w (worker_of x) m is e h
    if_so m false e = h

    by : (o : Option Move) → move_of w (worker_of x) ≡ o → Standing (if_asked w x o).1
    by None e = h
    by (Some m) e = if_so m (kind_of x == kind_for m) e

run_stands : (p : Program) (limit : ℕ) (w : World) (xs : List JobStep) → IsOf p limit w → Standing w → Standing (reached w xs)
run_stands p limit w [] is h = h
run_stands p limit w (x ∷ xs) is h =
    run_stands p limit (world_after w x) xs (step_is_of p limit w (world_after w x) is (step_goes w x)) (step_stands p limit w x is h)

-- the participants of the start tasks
pub starts_stand : (w : World) (paths : List (List ℕ))
    → ((place : ℕ) → place < length w.participants → (participant_at w.participants place).stage ≡ Waits)
    → (map participant_path (with_starts w paths).participants ≡ map participant_path w.participants ++ paths)
    × ((place : ℕ) → place < length (with_starts w paths).participants
    → (participant_at (with_starts w paths).participants place).stage ≡ Waits)
starts_stand w [] h = (sym (nothing_behind (map participant_path w.participants)), h)
  where
    nothing_behind : (xs : List (List ℕ)) → xs ++ [] ≡ xs
    nothing_behind [] = refl
    nothing_behind (x ∷ xs) = ap (λ ys. x ∷ ys) (nothing_behind xs)
starts_stand w (path ∷ paths) h =
    let g : ParticipantValue = waiting path (length w.tree.views) (leaf_at w.leaves (length w.participants)) in
    let more = starts_stand (with_start w path) paths (last_fresh w.participants h) in (
      more.0
          ∙ ap (λ (qs : List (List ℕ)). qs ++ paths)
          (map-append participant_path w.participants (waiting path (length w.tree.views) (leaf_at w.leaves (length w.participants)) ∷ []))
          ∙ append_assoc (map participant_path w.participants) (path ∷ []) paths,
      more.1,
    )
  where
    last_fresh : (gs : List ParticipantValue) → ((place : ℕ) → place < length gs → (participant_at gs place).stage ≡ Waits)
        → (place : ℕ) → place < length (gs ++ waiting path (length w.tree.views) (leaf_at w.leaves (length w.participants)) ∷ [])
        → (participant_at (gs ++ waiting path (length w.tree.views) (leaf_at w.leaves (length w.participants)) ∷ []) place).stage ≡ Waits
    last_fresh [] k zero l = refl
    last_fresh [] k (suc place) l = absurd (omega arith)
    last_fresh (x ∷ gs) k zero l = k 0 (omega arith)
    last_fresh (x ∷ gs) k (suc place) l = last_fresh gs (λ q m. k (suc q) (omega arith)) place (omega arith)

initial_stands : (p : Program) (parents : List ℕ) (limit : ℕ) → Standing (initial_world p parents limit)
initial_stands p parents limit = λ run.
    let all = starts_stand (empty_world p parents limit) (live_paths (initial p)) (λ place l. absurd (omega arith)) in
    record {
      paths = all.0 ∙ ap live_paths (sym (initial_job p parents limit));
      noted = λ place l d. let bad : true ≡ false = sym d ∙ ap is_delivered (all.1 place l) in cc;
    }

pub participants_are_the_live_tasks : ParticipantsAreTheLiveTasks
participants_are_the_live_tasks p parents limit xs run =
    let w : World = reached (initial_world p parents limit) xs in
    let is = initial_is_of p parents limit in
    let all = run_stands p limit (initial_world p parents limit) xs is (initial_stands p parents limit) in
    let stands = all (running run) in
    record {
      paths = stands.paths;
      noted = λ place l d. let n = stands.noted place l d in
          record { synced = n.synced; children = n.children };
    }
  where
    running : status limit (reached (initial_world p parents limit) xs).job ≡ None
        → is_some (status (reached (initial_world p parents limit) xs).limit (reached (initial_world p parents limit) xs).job) ≡ false
    running r =
        ap (λ (n : ℕ). is_some (status n (reached (initial_world p parents limit) xs).job)) (limited xs) ∙ ap is_some r
      where
        limited : (xs : List JobStep) → (reached (initial_world p parents limit) xs).limit ≡ limit
        limited xs = (run_is_of p limit (initial_world p parents limit) xs (initial_is_of p parents limit)).limited
