use Rattle.std.proofs.Common.{ℤ, FitsSigned, w64, rules, ◌≡◌, ◌∙◌, ℕ, suc, ◌+◌, List, [], ◌∷◌, ◌++◌, map, refl, sym, ap, arith}
use Rattle.std.proofs.lemmas.Int.{to_z-of_z}
use Rattle.task_lang.specs.TaskValue.{TaskValue}
use Rattle.task_lang.specs.Meaning.{Plan, Task, started}
use Rattle.task_lang.specs.Views.{plans, task_of}
use Rattle.task_code.specs.declared.job.Start.{Start}
use Rattle.step_core.specs.JobMeaning.{start_tasks}
use Rattle.step_core.proofs.job.start_all.Goals as goal

-- one task more was started
one_more : (ps : List Plan) (ts us : List TaskValue) (t : TaskValue) (n : ℕ) (path : List ℕ) (s : Start) (rest after : List Start)
    (all : List Task)
    → us ≡ ts ++ t ∷ [] → task_of ps t ≡ started ps path s.body s.arg → path ≡ n ∷ [] → rest ≡ s ∷ after
    → map (task_of ps) ts ++ start_tasks ps n rest ≡ all → map (task_of ps) us ++ start_tasks ps (n + 1) after ≡ all
one_more ps ts us t n path s rest after all eu et ep er h =
    let next : n + 1 ≡ suc n = omega arith in
    (λ i. map (task_of ps) (eu i) ++ start_tasks ps (next i) after)
    ∙ moved ts (start_tasks ps (suc n) after)
    ∙ ap (λ (x : Task). map (task_of ps) ts ++ x ∷ start_tasks ps (suc n) after) (et ∙ ap (λ (p : List ℕ). started ps p s.body s.arg) ep)
    ∙ ap (λ (ss : List Start). map (task_of ps) ts ++ start_tasks ps n ss) (sym er)
    ∙ h
  where
    moved : (xs : List TaskValue) (ys : List Task) → map (task_of ps) (xs ++ t ∷ []) ++ ys ≡ map (task_of ps) xs ++ task_of ps t ∷ ys
    moved [] ys = refl
    moved (x ∷ xs) ys = ap (λ zs. task_of ps x ∷ zs) (moved xs ys)

pub loop-start-preserved : goal.loop-start-preserved
loop-start-preserved c = record {
  tasks =
      one_more (plans c.args.bodies.now) c.loop-start.tasks.items c.push.new.self.items c.in_ok-task.task c.loop-start.number
      c.in_ok-path.path.items
      c.in-Some.start.now c.loop-start.rest.now c.in-Some.after.now _ c.in_ok-push.ensures.items
      (c.in_ok-task.ensures
      ∙ ap (λ (z : ℤ). started (plans c.args.bodies.now) c.in_ok-path.path.items c.in-Some.start.now.body z)
      (let fits : FitsSigned w64 c.in-Some.start.now.arg = search rules in to_z-of_z w64 c.in-Some.start.now.arg fits))
      c.in_ok-path.ensures.ok
      c.in-Some.ensures.cases.0 c.loop-start.invariant.tasks;
  few = omega (arith, c.in-Some.ensures.cases.1, c.loop-start.invariant.few);
}
