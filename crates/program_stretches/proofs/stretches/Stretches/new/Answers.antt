use Rattle.std.proofs.Common.{◌∷◌, ◌∙◌, List, [], Option, ap, sym, refl, subst, arith, length, map}
use Rattle.std.specs.Arc.{arc_value}
use Rattle.programs.specs.Meaning.{children}
use Rattle.program_stretches.specs.PartValue.{PartValue}
use Rattle.program_stretches.specs.Parts.{reading_of, AreFresh, tasks_in}
use Rattle.program_stretches.specs.SuperstepStart.{SuperstepStartValue}
use Rattle.program_stretches.proofs.RunsSoFar.{run_begun}
use Rattle.program_stretches.proofs.stretches.Stretches.new.Goals as goal

pub invariant_of-result : goal.invariant_of-result
invariant_of-result g c =
    let ready = c.in-Ok.ensures in
    let o : SuperstepStartValue g.row.P.Denot g.row.P-Task.Denot =
    record {
      program = c.args.program.now;
      most = c.args.most;
      limit = c.args.limit;
      arrays = arc_value c.in-Ok.ready.shared;
      parts = c.in-Ok.ready.parts.items;
    } in
    let noted = c.note.ensures.noted in
    let log = ap (λ w. w.log) noted ∙ ap (λ w. o ∷ w.log) c.write-writer.ensures in
    let parts = ap (λ (x : SuperstepStartValue g.row.P.Denot g.row.P-Task.Denot). x.parts) (c.parts.view_is ∙ c.note.ensures.same) in
    let l = ap length ready.tasks in
    record {
      run = run_begun (reading_of g.P.Program.frame g.P.Program.may g.P.Program.meant g.P.Task.OnPath.path_of) _ o log refl refl refl
          (ready.arrays.0 ∙ sym ready.arrays.1) parts ready.fresh
          (ap (map g.P.Task.OnPath.path_of) ready.tasks ∙ c.requires.paths
          ∙ ap (λ (ts : List g.row.P-Task.Denot). children [] 0 (length ts)) (sym ready.tasks))
          (ready.count ∙ sym l) (let few = c.requires.few in omega (arith, l, few))
          refl c.new.ensures.items c.new-2.ensures.items refl refl;
      same = sym (ap (λ w. w.name) noted ∙ ap (λ w. w.name) c.write-writer.ensures);
      is_ready = c.requires.ready;
      pieces = c.requires.pieces;
      most = c.requires.most;
      limit = c.ranges.limit.fits;
    }

pub returns : goal.returns
returns g c =
    let ready = c.in-Ok.ensures in
    let o : SuperstepStartValue g.row.P.Denot g.row.P-Task.Denot =
    record {
      program = c.args.program.now;
      most = c.args.most;
      limit = c.args.limit;
      arrays = arc_value c.in-Ok.ready.shared;
      parts = c.in-Ok.ready.parts.items;
    } in
    let noted = c.note.ensures.noted in
    record {
      start = o;
      log = ap (λ w. w.log) noted ∙ ap (λ w. o ∷ w.log) c.write-writer.ensures;
      named = ap (λ w. w.name) noted ∙ ap (λ w. w.name) c.write-writer.ensures;
      of_program = refl;
      of_most = refl;
      of_limit = refl;
      of_arrays = ready.arrays.1;
      of_tasks = ready.tasks;
      at_most = refl;
      to_limit = refl;
      with_arrays = ready.arrays.0;
      at_start = refl;
      calm = refl;
      counted =
          let parts = ap (λ (x : SuperstepStartValue g.row.P.Denot g.row.P-Task.Denot). x.parts) (c.parts.view_is ∙ c.note.ensures.same) in
          ready.count ∙ ap length (sym ready.tasks)
          ∙ ap (λ (ss : List (Option (PartValue g.row.P-Task.Denot))). length (tasks_in ss)) (sym parts);
      nothing_given = refl;
      whole =
          ap tasks_in (ap (λ (x : SuperstepStartValue g.row.P.Denot g.row.P-Task.Denot). x.parts) (c.parts.view_is ∙ c.note.ensures.same))
          ∙ ready.tasks;
      ready =
          subst (AreFresh 0)
          (sym (ap (λ (x : SuperstepStartValue g.row.P.Denot g.row.P-Task.Denot). x.parts) (c.parts.view_is ∙ c.note.ensures.same)))
          ready.fresh;
    }
