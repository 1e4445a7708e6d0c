use Rattle.std.proofs.Common.{◌∙◌, [], List, ap, sym, subst, arith, map, length}
use Rattle.programs.specs.Meaning.{children}
use Rattle.programs.specs.History.{HasRunTo}
use Rattle.task_bodies.specs.Bodies.{MemberValue, member_setup, path_of}
use Rattle.task_bodies.proofs.WellFormed.{numbered_count, numbered_paths}
use Rattle.task_bodies.proofs.Many.{not_too_many}
use Rattle.task_bodies.proofs.Framed.{same_of}
use Rattle.task_bodies.proofs.run.run_bodies_watched.Goals as goal

pub run_watched-requires-clause-few : goal.run_watched-requires-clause-few
run_watched-requires-clause-few g c =
    let l = ap length c.in_ok-members.ensures.tasks in
    let n = numbered_count [] 0 c.args.tasks.items in
    omega (arith, l, n, c.if-len-most.false, c.len-else-len-gt65535.ensures, c.args.tasks.ok.0)

pub run_watched-requires-clause-paths : goal.run_watched-requires-clause-paths
run_watched-requires-clause-paths g c =
    let e = c.in_ok-members.ensures.tasks in
    (λ i. map path_of (e i)) ∙ numbered_paths [] 0 c.args.tasks.items
    ∙ ap (λ (ts : List (MemberValue g.row.B-Kept.Denot)). children [] 0 (length ts)) (sym e)

pub returns : goal.returns
returns g c = record {
  ran =
      subst
      (λ (ts : List (MemberValue g.row.B-Kept.Denot)). HasRunTo g.W.Watch.stops g.W.Watch.goes
      (member_setup (g.B.TaskBody.may c.args.body.now) c.args.most c.args.arrays ts c.args.limit)
      c.in_ok-ran.ran.report c.in_ok-ran.ran.tasks.items)
      (same_of c.in_ok-members.members.items ∙ c.in_ok-members.ensures.tasks)
      (subst
      (λ (us : List (MemberValue g.row.B-Kept.Denot)). HasRunTo g.W.Watch.stops g.W.Watch.goes
      (member_setup (g.B.TaskBody.may c.args.body.now) c.args.most c.args.arrays (map (λ t. t) c.in_ok-members.members.items) c.args.limit)
      c.in_ok-ran.ran.report us)
      (same_of c.in_ok-ran.ran.tasks.items) c.in_ok-ran.ensures);
  few =
      not_too_many c.args.most (length c.args.tasks.items)
      (omega (arith, c.if-len-most.false, c.len-else-len-gt65535.ensures, c.args.tasks.ok.0))
      (omega (arith, c.if-len-most.false, c.len-else-len-gt65535.ensures, c.args.tasks.ok.0));
  fault = tt;
}
