use Rattle.std.proofs.Common.{◌≡◌, ◌∙◌, [], map, length, sym, ap, arith}
use Rattle.programs.specs.Meaning.{children}
use Rattle.task_bodies.specs.Bodies.{path_of}
use Rattle.task_bodies.proofs.WellFormed.{numbered_count, numbered_paths}
use Rattle.bsp_steps.specs.Given.{start_origins}
use Rattle.bsp_steps.proofs.Placed.{Tasks, start_count, few_starts}
use Rattle.bsp_steps.proofs.run.Run.begin.Goals as goal

pub start_tasks-requires : goal.start_tasks-requires
start_tasks-requires c =
    let few = few_starts c.args.count c.args.most c.requires.few in
    record { few = omega (arith, few.1) }

pub begin_with-requires-clause-few : goal.begin_with-requires-clause-few
begin_with-requires-clause-few c =
    let few = few_starts c.args.count c.args.most c.requires.few in
    let n : length c.in_ok-tasks.tasks.items ≡ c.args.count =
    ap length c.in_ok-tasks.ensures ∙ numbered_count [] 0 (start_origins 0 c.args.count) ∙ start_count 0 c.args.count in
    omega (arith, n, few.2)

pub begin_with-requires-clause-paths : goal.begin_with-requires-clause-paths
begin_with-requires-clause-paths c =
    let e = c.in_ok-tasks.ensures in
    ap (λ (ts : Tasks). map path_of ts) e ∙ numbered_paths [] 0 (start_origins 0 c.args.count)
    ∙ ap (λ (ts : Tasks). children [] 0 (length ts)) (sym e)
