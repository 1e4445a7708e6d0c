-- A job on a tree, worked at by numbered workers, and what each step of theirs answers and leaves (own).
use Rattle.std.specs.Prelude.{ℕ, zero, suc, ◌-◌, Bool, true, ◌==◌, ◌&&◌, nat_lt, if◌then◌else◌, Option, Some, None, List, [], ◌∷◌, ◌++◌, length, slice_index_or, slice_set, replicate, is_some}
use Rattle.std.specs.Str.{bytes_eq}
use Rattle.advance_rule.specs.declared.EndPlan.{EndPlan}
use Rattle.phase_records.specs.ReportValue.{ReportValue}
use Rattle.phase_records.specs.Status.{Status, Ended as HasEnded, Fault as HasFaulted, Limit as IsAtLimit}
use Rattle.tier_shape.specs.Leaves.{leaves_of}
use Rattle.tier_core.specs.declared.call.Call.TheVariants as call
use Rattle.tier_core.specs.declared.call.Answer.{Answer as TreeAnswer}
use Rattle.tier_core.specs.declared.call.Answer.TheVariants as answer
use Rattle.tier_core.specs.declared.call.Step.TheVariants.{Begin, Go, Finish}
use Rattle.tier_core.specs.Machine.{State as Tree, opened, with_token}
use Rattle.tier_core.specs.Run.{after, answer_to, may_finish}
use Rattle.task_lang.specs.Meaning.{Segment}
use Rattle.programs.specs.Meaning.{Stopped}
use Rattle.step_core.specs.Program.{Program}
use Rattle.step_core.specs.Superstep.{State, segments, superstep, live_paths}
use Rattle.step_core.specs.JobMeaning.{initial}
use Rattle.programs.specs.Supersteps.{status, unless_ended, report_in}
use Rattle.step_core.specs.OrderValue.{has_synced, spawned_paths}
use Rattle.job_schedule.specs.declared.stage.Mode.{Mode}
use Rattle.job_schedule.specs.declared.stage.Mode.TheVariants as mode
use Rattle.job_schedule.specs.declared.stage.Move.{Move}
pub use Rattle.job_schedule.specs.declared.stage.Move.TheVariants.{Takes, Delivers, Calls, Advances, Closes, Ends}
use Rattle.tier_shape.specs.Preferred.{leaf_at, preferred}
use Rattle.job_schedule.specs.Moves.{by_stage, at_stage}
pub use Rattle.job_schedule.specs.Moves.{kind_for}
use Rattle.job_schedule.specs.declared.step.JobStep.{JobStep}
use Rattle.job_schedule.specs.declared.step.JobStep.TheVariants.{Take, Deliver, Tree as TreeStep, Advance, Close}
use Rattle.job_schedule.specs.declared.stage.Stage.{Stage}
use Rattle.job_schedule.specs.declared.stage.Stage.TheVariants.{Taken, Polling, Over}
use Rattle.job_schedule.specs.ParticipantValue.{ParticipantValue, waiting, participant_at, is_over, all_over, answered, next_participants, freed}
use Rattle.job_schedule.specs.AnswerValue.{AnswerValue, Took, Delivered, Stepped, Advanced, Closed, Finished, NotNow}

pub record World : Type 0 where
  pub program : Program
  pub limit : ℕ
  -- the job between two supersteps; the tree, and its leaves in rising order
  pub job : State
  pub tree : Tree
  pub leaves : List ℕ
  -- a participant for each live task, in path order, and how many of these tasks were taken
  pub participants : List ParticipantValue
  pub taken : ℕ
  -- the place of the task that each worker has, if it has one
  pub hands : List (Option ℕ)
  -- the tokens of tasks that have left
  pub free : List ℕ
  pub mode : Mode

-- One start task more: its token is added, and joins the leaf of its number, in at most 16 steps.
abbrev pub gone : ℕ → ℕ → Tree → Tree
gone zero token tree = tree
gone (suc n) token tree = gone n token (after tree (Go token))

abbrev pub joined_at : Tree → ℕ → Tree
joined_at tree home = gone 16 (length tree.views) (after (with_token tree) (Begin (length tree.views) (call.Join home 1)))

abbrev pub with_start : World → List ℕ → World
with_start w path = record w {
  tree = joined_at w.tree (leaf_at w.leaves (length w.participants));
  participants = w.participants ++ waiting path (length w.tree.views) (leaf_at w.leaves (length w.participants)) ∷ [];
}

abbrev pub with_starts : World → List (List ℕ) → World
with_starts w [] = w
with_starts w (path ∷ paths) = with_starts (with_start w path) paths

-- the tree ends when it is empty, and in the last phase that the limit allows at the latest
abbrev pub plan_for : ℕ → EndPlan
plan_for limit = record { when_empty = true; at = Some (limit - 1) }

abbrev pub empty_world : Program → List ℕ → ℕ → World
empty_world program parents limit = record {
  program = program;
  limit = limit;
  job = initial program;
  tree = opened parents 0 (plan_for limit);
  leaves = leaves_of parents;
  participants = [];
  taken = 0;
  hands = replicate 64 None;
  free = [];
  mode = mode.Runs;
}

-- a job with this limit, on a tree of this shape, before the first step of a worker
abbrev pub initial_world : Program → List ℕ → ℕ → World
initial_world program parents limit = with_starts (empty_world program parents limit) (live_paths (initial program))

-- What a worker may do next. Without a task it takes the front ready one; a job that is over as it begins is closed by anybody.
abbrev pub taking : ℕ → ℕ → Bool → Option Move
taking taken live over = if nat_lt taken live then Some (Takes taken) else (if over then Some (Closes 0) else None)

abbrev pub by_participant : World → ParticipantValue → ℕ → Option Move
by_participant w g place = by_stage g place (may_finish w.tree g.token) g.stage

abbrev pub by_hand : World → Option ℕ → Option Move
by_hand w None = taking w.taken (length w.participants) (is_some (status w.limit w.job))
by_hand w (Some place) = by_participant w (participant_at w.participants place) place

-- who advanced the root closes the round once all tasks are over, and after a fault ends the tree
abbrev pub by_mode : World → ℕ → Mode → Option Move
by_mode w worker mode.Runs = by_hand w (slice_index_or w.hands worker None)
by_mode w worker (mode.Advanced closer token) = if (worker == closer) && all_over w.participants then Some (Closes token) else None
by_mode w worker (mode.Forces closer token) = if worker == closer then Some (Ends token) else None
by_mode w worker mode.Over = None

-- workers have the numbers from 0 to 63
abbrev pub move_of : World → ℕ → Option Move
move_of w worker = if nat_lt worker 64 then by_mode w worker w.mode else None

abbrev pub worker_of : JobStep → ℕ
worker_of (Take worker) = worker
worker_of (Deliver worker) = worker
worker_of (TreeStep worker) = worker
worker_of (Advance worker) = worker
worker_of (Close worker) = worker

-- which of the five each step is
abbrev pub kind_of : JobStep → ℕ
kind_of (Take worker) = 0
kind_of (Deliver worker) = 1
kind_of (TreeStep worker) = 2
kind_of (Advance worker) = 3
kind_of (Close worker) = 4

abbrev pub with_participant : World → ℕ → ParticipantValue → World
with_participant w place g = record w { participants = slice_set w.participants place g }

abbrev pub with_hand : World → ℕ → Option ℕ → World
with_hand w worker hand = record w { hands = slice_set w.hands worker hand }

-- A worker takes a task.
abbrev pub took : World → ℕ → ℕ → World
took w worker place =
    with_hand (record (with_participant w place (at_stage (participant_at w.participants place) Taken)) { taken = suc place }) worker
    (Some place)

-- What the live task of this path does in this superstep.
abbrev pub no_deed : Segment
no_deed = record { puts = []; prints = []; spawns = []; after = Stopped }

abbrev pub deed_in : List (List ℕ × Segment) → List ℕ → Segment
deed_in [] path = no_deed
deed_in (s ∷ ss) path = if bytes_eq s.0 path then s.1 else deed_in ss path

abbrev pub deed_of : World → List ℕ → Segment
deed_of w path = deed_in (segments w.program w.job.arrays w.job.step w.job.live) path

-- A spawned task has a token: a free one, else a new one.
abbrev pub with_child : ParticipantValue → List ℕ → List ℕ → ℕ → ParticipantValue
with_child g leaves path token =
    record g { children = g.children ++ record { path = path; token = token; home = preferred leaves g.home path } ∷ [] }

abbrev pub child_from : World → ℕ → List ℕ → List ℕ → World
child_from w place path [] =
    record (with_participant w place (with_child (participant_at w.participants place) w.leaves path (length w.tree.views))) {
      tree =
          with_token w.tree;
    }
child_from w place path (token ∷ free) =
    record (with_participant w place (with_child (participant_at w.participants place) w.leaves path token)) { free = free }

abbrev pub with_children : World → ℕ → List (List ℕ) → World
with_children w place [] = w
with_children w place (path ∷ paths) = with_children (child_from w place path w.free) place paths

-- A worker hands in the segment of its task: whether it synced and what it spawned is known from then on.
abbrev pub noted : World → ℕ → Bool → World
noted w place synced =
    with_participant w place record (at_stage (participant_at w.participants place) Polling) { synced = synced; children = [] }

abbrev pub handed_in : World → ℕ → Segment → World
handed_in w place s = with_children (noted w place (has_synced s)) place (spawned_paths s)

-- A step of a call: the call begins, if none has, and takes one step.
abbrev pub hand_after : Stage → List (Option ℕ) → ℕ → List (Option ℕ)
hand_after stage hands worker = if is_over stage then slice_set hands worker None else hands

abbrev pub stepped : World → ℕ → ℕ → Tree → ParticipantValue → World
stepped w worker place tree g = record (with_participant w place g) { tree = tree; hands = hand_after g.stage w.hands worker }

abbrev pub called_by : World → ℕ → ℕ → Tree → TreeAnswer → AnswerValue × World
called_by w worker place tree answer.Begun = (NotNow, record w { tree = tree })
called_by w worker place tree (answer.Played a) =
    (Stepped a, stepped w worker place tree (answered (participant_at w.participants place) a))
called_by w worker place tree answer.NotNow = (NotNow, record w { tree = tree })

abbrev pub called : World → ℕ → ℕ → ℕ → Tree → AnswerValue × World
called w worker place token tree = called_by w worker place (after tree (Go token)) (answer_to tree (Go token))

-- The root advances: that task is over, and its worker is to close the round.
abbrev pub has_advanced : World → ℕ → ℕ → Tree → World
has_advanced w worker place tree =
    record (with_hand (with_participant w place (at_stage (participant_at w.participants place) Over)) worker None) {
      tree = tree;
      mode = mode.Advanced worker (participant_at w.participants place).token;
    }

abbrev pub advanced_by : World → ℕ → ℕ → Tree → TreeAnswer → AnswerValue × World
advanced_by w worker place tree answer.Begun = (NotNow, record w { tree = tree })
advanced_by w worker place tree (answer.Played a) = (Advanced a, has_advanced w worker place tree)
advanced_by w worker place tree answer.NotNow = (NotNow, record w { tree = tree })

abbrev pub advanced : World → ℕ → ℕ → ℕ → AnswerValue × World
advanced w worker place token = advanced_by w worker place (after w.tree (Finish token)) (answer_to w.tree (Finish token))

-- The round is closed: one superstep more, unless the job had ended. The job is over, or the next tasks are ready.
abbrev pub next_job : World → State
next_job w = unless_ended (status w.limit w.job) w.job (superstep w.program w.job)

abbrev pub mode_after : ℕ → ℕ → Status → Mode
mode_after worker token (HasEnded steps) = mode.Over
mode_after worker token (HasFaulted code step path) = mode.Forces worker token
mode_after worker token (IsAtLimit steps) = mode.Over

abbrev pub renewed : World → World
renewed w = record w { participants = next_participants w.participants; taken = 0; free = freed w.participants w.free; mode = mode.Runs }

abbrev pub closed_as : World → ℕ → ℕ → State → Option ReportValue → AnswerValue × World
closed_as w worker token job (Some report) = (Finished report, record w { job = job; mode = mode_after worker token report.status })
closed_as w worker token job None = (Closed, renewed (record w { job = job }))

-- The tree ends by force.
abbrev pub ended_by : World → Tree → TreeAnswer → AnswerValue × World
ended_by w tree answer.Begun = (NotNow, record w { tree = tree })
ended_by w tree (answer.Played a) = (Stepped a, record w { tree = tree; mode = mode.Over })
ended_by w tree answer.NotNow = (NotNow, record w { tree = tree })

abbrev pub ended : World → ℕ → Tree → AnswerValue × World
ended w token tree = ended_by w (after tree (Go token)) (answer_to tree (Go token))

-- what a move answers, and what it leaves
abbrev pub done_by : World → ℕ → Move → AnswerValue × World
done_by w worker (Takes place) = (Took (participant_at w.participants place).path, took w worker place)
done_by w worker (Delivers place) = (Delivered, handed_in w place (deed_of w (participant_at w.participants place).path))
done_by w worker (Calls place token c) = called w worker place token (after w.tree (Begin token c))
done_by w worker (Advances place) = advanced w worker place (participant_at w.participants place).token
done_by w worker (Closes token) = closed_as w worker token (next_job w) (report_in w.limit (next_job w))
done_by w worker (Ends token) = ended w token (after w.tree (Begin token call.Force))

abbrev pub if_asked : World → JobStep → Option Move → AnswerValue × World
if_asked w x None = (NotNow, w)
if_asked w x (Some move) = if kind_of x == kind_for move then done_by w (worker_of x) move else (NotNow, w)

-- What a step answers, and what it leaves: one that isn't its worker's next answers NotNow and changes nothing.
abbrev pub step_of : World → JobStep → AnswerValue × World
step_of w x = if_asked w x (move_of w (worker_of x))

abbrev pub answer_of : World → JobStep → AnswerValue
answer_of w x = (step_of w x).0

abbrev pub world_after : World → JobStep → World
world_after w x = (step_of w x).1

abbrev pub answers : World → List JobStep → List AnswerValue
answers w [] = []
answers w (x ∷ xs) = answer_of w x ∷ answers (world_after w x) xs

abbrev pub reached : World → List JobStep → World
reached w [] = w
reached w (x ∷ xs) = reached (world_after w x) xs
