use Rattle.std.proofs.Common.{◌≡◌, ◌≤◌, ◌+◌, ◌-◌, ◌∙◌, ℕ, [], List, ap, sym, subst, arith, map, length}
use Rattle.programs.specs.Meaning.{children}
use Rattle.programs.specs.History.{HasRunTo}
use Rattle.task_bodies.specs.Bodies.{MemberValue, member_setup, numbered, path_of}
use Rattle.worker_pool.specs.JobPlan.{limit_of}
use Rattle.task_bodies.proofs.WellFormed.{numbered_count, numbered_paths}
use Rattle.task_bodies.proofs.Framed.{same_of}
use Rattle.bodies.specs.RunValue.{RunValue, setup_in}
use Rattle.bodies.proofs.watched.WatchedRun.on_with.Goals as goal

limited : (n : ℕ) → 1 ≤ n → n - 1 + 1 ≡ n
limited n h = omega (arith, h)

pub run_program_watched-requires-clause-few : goal.run_program_watched-requires-clause-few
run_program_watched-requires-clause-few g c κs within =
    let l = ap length c.in-Ok.ensures.tasks in
    let n = numbered_count [] 0 c.run.inside.tasks.items in
    omega (arith, l, n, c.if-len-most.false, c.len.ensures, c.run.inside.tasks.ok.0)

pub run_program_watched-requires-clause-paths : goal.run_program_watched-requires-clause-paths
run_program_watched-requires-clause-paths g c κs within =
    let e = c.in-Ok.ensures.tasks in
    let count = ap (λ (ts : List (MemberValue g.row.B-Kept.Denot)). children [] 0 (length ts)) (sym e) in
    (λ i. map path_of (e i)) ∙ numbered_paths [] 0 c.run.inside.tasks.items ∙ count

pub returns-in-Ok-run_program_watched-clause-ran : goal.returns-in-Ok-run_program_watched-clause-ran
returns-in-Ok-run_program_watched-clause-ran g c =
    let run = c.run.inside in
    let plan = c.new-advance.result.plan in
    let left = c.in-Ok-run_program_watched.ran in
    let same = c.run.view_is ∙ c.self.view_is in
    let ended = ap (λ r. limit_of r.plan) c.new-advance.ensures ∙ ap limit_of c.at_phase-plan.ensures in
    let limit : limit_of plan ≡ run.limit = ended ∙ limited run.limit c.run.invariant.supersteps in
    let said = λ (n : ℕ) (ts us : List (MemberValue g.row.B-Kept.Denot)). HasRunTo g.W.Watch.stops g.W.Watch.goes
    (member_setup (g.B.TaskBody.may run.body.now) run.most run.arrays ts n)
    left.report us in
    subst (λ (r : RunValue g.row.B.Denot g.row.B-Kept.Denot).
    HasRunTo g.W.Watch.stops g.W.Watch.goes (setup_in g.B.TaskBody.may r) left.report left.tasks.items) same
    (subst (λ n. said n (numbered [] 0 run.tasks.items) left.tasks.items) limit
    (subst (λ ts. said (limit_of plan) ts left.tasks.items) (same_of c.in-Ok.members.items ∙ c.in-Ok.ensures.tasks)
    (subst (λ us. said (limit_of plan) (map (λ t. t) c.in-Ok.members.items) us) (same_of left.tasks.items)
    c.in-Ok-run_program_watched.ensures.ran)))
