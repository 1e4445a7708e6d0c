-- What a task of a job leaves is well formed, and is what its segment left.
use Rattle.std.proofs.Common.{◌≡◌, ℕ, zero, suc, ◌+◌, List, [], ◌∷◌, ◌++◌, length, refl, ap, ◌∙◌, subst, arith}
use Rattle.std.specs.Prelude.{ℤ}
use Rattle.task_lang.specs.FaultCode.{code_of}
use Rattle.task_lang.specs.TaskValue.{TaskValue}
use Rattle.task_lang.specs.Views.{task_of}
use Rattle.task_lang.specs.Meaning as job
use Rattle.task_lang.specs.Laws as task
use Rattle.task_lang.specs.Lent as lent
use Rattle.task_lang.proofs.AllSegments.{numbers-its-spawns, stays-the-same-task}
use Rattle.task_lang.specs.declared.scene.CodeEnd as code
use Rattle.task_lang.specs.declared.scene.CodeEnd.TheVariants as ends
use Rattle.step_core.specs.SlotParts.{path_in}
use Rattle.programs.specs.declared.work.Work.{Work}
use Rattle.programs.specs.declared.work.SegmentEnd.{SegmentEnd}
use Rattle.programs.specs.declared.work.SegmentEnd.TheVariants as ending
use Rattle.programs.specs.Meaning.{children, IsFormed, NumbersItsSpawns, StaysTheSameTask}
use Rattle.step_core.specs.Superstep.{job_frame, job_says}
use Rattle.programs.specs.Lent.{IsLeft, HasLeft}
use Rattle.step_core.specs.JobTasks.{JobMay}

children_cons : (path : List ℕ) (b n : ℕ) → task.children path b (suc n) ≡ (path ++ b ∷ []) ∷ task.children path (suc b) n
children_cons path b zero = let e : b + zero ≡ b = omega arith in ap (λ k. (path ++ k ∷ []) ∷ []) e
children_cons path b (suc n) =
    let e : b + suc n ≡ suc b + n = omega arith in
    ap (λ (xs : List (List ℕ)). xs ++ (path ++ (b + suc n) ∷ []) ∷ []) (children_cons path b n)
    ∙ ap (λ k. (path ++ b ∷ []) ∷ (task.children path (suc b) n ++ (path ++ k ∷ []) ∷ [])) e

children_same : (path : List ℕ) (b n : ℕ) → task.children path b n ≡ children path b n
children_same path b zero = refl
children_same path b (suc n) = children_cons path b n ∙ ap (λ (ps : List (List ℕ)). (path ++ b ∷ []) ∷ ps) (children_same path (suc b) n)

pub job_formed : (plans : List job.Plan) (t : job.Task) (arrays : List (List ℕ × List ℤ)) (step : ℕ)
    → IsFormed job_frame t (job.segment_of plans t arrays step)
job_formed plans t arrays step =
    let h = numbers-its-spawns plans t arrays step in
    record {
      numbered = h.1 ∙ children_same t.path t.begun (length (job.segment_of plans t arrays step).spawns);
      same = λ u e. let k = stays-the-same-task plans t u arrays step e in (k.0, k.2);
    }

pub numbers : (plans : List job.Plan) → NumbersItsSpawns (job_says plans)
numbers plans t arrays step = (job_formed plans t arrays step).numbered

pub stays : (plans : List job.Plan) → StaysTheSameTask (job_says plans)
stays plans t u arrays step e = (job_formed plans t arrays step).same u e

abbrev pub as_ending : code.CodeEnd → SegmentEnd
as_ending (ends.Synced place) = ending.Stays
as_ending ends.Stopped = ending.Stops
as_ending (ends.Fault f) = ending.Fails (code_of f)

left_as : (ps : List job.Plan) (e : code.CodeEnd) (t u : TaskValue) (a b : Work TaskValue) (g : job.Segment)
    → lent.IsLeft ps e t u a b g → IsLeft (task_of ps) path_in (as_ending e) t u a b g
left_as ps (ends.Fault f) t u a b g h = (ap (λ (x : job.Segment). x.after) h.0, ap path_in h.1)
left_as ps ends.Stopped t u a b g h = (record { puts = h.0.puts; prints = h.0.prints; spawns = h.0.spawns }, h.1, ap path_in h.2)
left_as ps (ends.Synced place) t u a b g h = (record { puts = h.0.puts; prints = h.0.prints; spawns = h.0.spawns }, h.1, ap path_in h.2)

-- a segment that ended so left what a task of the program may leave
pub job_left : (ps : List job.Plan) (arrays : List (List ℕ × List ℤ)) (step : ℕ) (d e : code.CodeEnd) (t u : TaskValue)
    (a b : Work TaskValue)
    → d ≡ e → lent.IsLeft ps d t u a b (job.segment_of ps (task_of ps t) arrays step)
    → HasLeft job_frame (JobMay ps) (task_of ps) path_in arrays step (as_ending e) t u a b
job_left ps arrays step d e t u a b is h = record {
  left = job.segment_of ps (task_of ps t) arrays step;
  allowed = refl;
  formed = job_formed ps (task_of ps t) arrays step;
  is =
      left_as ps e t u a b (job.segment_of ps (task_of ps t) arrays step)
      (subst (λ (x : code.CodeEnd). lent.IsLeft ps x t u a b (job.segment_of ps (task_of ps t) arrays step)) is h);
}
