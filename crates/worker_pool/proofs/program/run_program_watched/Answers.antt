use Rattle.std.proofs.Common.{◌≡◌, ◌∙◌, ℕ, List, Result, Ok, Err, map, length, ap, sym, subst}
use Rattle.std.specs.Prelude.{ℤ, IfOk}
use Rattle.phase_records.specs.ReportValue.{ReportValue}
use Rattle.programs.specs.History.{HasRunTo}
use Rattle.program_stretches.specs.SuperstepStart.{live_of}
use Rattle.worker_pool.specs.JobPlan.{limit_of}
use Rattle.worker_pool.proofs.program.run_program_watched.Goals as goal

if_ok : {X E : Type 0} (answer : Result X E) (F G : X → Type 0) → IfOk answer F → ((x : X) → F x → G x) → IfOk answer G
if_ok (Ok x) F G h f = f x h
if_ok (Err e) F G h f = h

pub returns-in-Ok-new-clause-ran : goal.returns-in-Ok-new-clause-ran
returns-in-Ok-new-clause-ran g c =
    let b = c.in-Ok-new.ensures in
    let limit : b.start.limit ≡ limit_of c.args.advance.plan = b.of_limit ∙ c.limit_in-limit.ensures.limit ∙ ap limit_of c.plan.ensures in
    let said = λ (q : g.row.P.Denot) (most : ℕ) (arrays : List (List ℕ × List ℤ)) (ts : List g.row.P-Task.Denot) (n : ℕ)
    (outcome : ReportValue) (living : List g.row.P-Task.Denot).
    HasRunTo g.W.Watch.stops g.W.Watch.goes
    (record { frame = g.P.Program.frame q; may = g.P.Program.may q; most = most; arrays = arrays; tasks = map (g.P.Program.meant q) ts; limit = n })
    outcome (map (g.P.Program.meant q) living) in
    let to = limit_of c.args.advance.plan in
    if_ok c.run_watched.result _ _ c.run_watched.ensures.ran
    (λ ran h.
    subst (λ q. said q c.args.most c.args.arrays c.args.tasks.items to ran.report ran.tasks.items) b.of_program
    (subst (λ n. said b.start.program n c.args.arrays c.args.tasks.items to ran.report ran.tasks.items) b.of_most
    (subst (λ xs. said b.start.program b.start.most xs c.args.tasks.items to ran.report ran.tasks.items) b.of_arrays
    (subst (λ ts. said b.start.program b.start.most b.start.arrays ts to ran.report ran.tasks.items) b.of_tasks
    (subst (λ n. said b.start.program b.start.most b.start.arrays (live_of b.start) n ran.report ran.tasks.items) limit
    (h b.start b.log))))))

pub run_watched-requires-clause-opened : goal.run_watched-requires-clause-opened
run_watched-requires-clause-opened g c = λ lifetimes bounds.
    let b = c.in-Ok-new.ensures in
    record {
      start = b.start;
      log = b.log;
      arrays = b.of_arrays ∙ sym b.with_arrays;
      tasks = ap length b.of_tasks ∙ sym (b.counted ∙ ap length b.whole);
      step = sym b.at_start;
      calm = b.calm;
    }
