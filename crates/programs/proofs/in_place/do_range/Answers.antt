use Rattle.std.proofs.lemmas.Grind.{common_steps}
use Rattle.std.specs.Option.{option_map}
use Rattle.std.proofs.Common.{◌≡◌, ap, sym, refl, ◌∙◌, Some, subst, ℕ, ◌<◌, List, length, arith}
use Rattle.std.proofs.lemmas.List.{length-set}
use Rattle.programs.specs.InPlace.{at_path}
use Rattle.programs.proofs.Ranged.{IsRanging, none_ranged, one_ranged, fault_ranged, all_ranged}
use Rattle.programs.proofs.in_place.do_range.Goals as goal

pub returns-in-Some-clause-done : goal.returns-in-Some-clause-done
returns-in-Some-clause-done g c =
    let q = c.args.scene.now.program.now in
    let t = c.index_mut-task.result.now in
    let below : c.loop-place.place < length c.loop-place.tasks.items =
    omega (arith, c.loop-place-test.true, c.requires.within, c.loop-place.invariant.count) in
    fault_ranged (g.P.Program.frame q) (g.P.Program.may q) (g.P.Program.meant q) g.P.Task.OnPath.path_of c.args.scene.now.arrays.now
    c.args.scene.now.step
    (g.met.P.Program.keeps_paths q) c.args.first c.loop-place.place c.args.end
    c.args.work.now.puts c.loop-place.work.puts c.do_one.new.work.puts c.args.tasks.now.items c.loop-place.tasks.items _
    c.args.deeds.now c.loop-place.deeds c.do_one.new.deeds c.args.prints.now.items c.loop-place.prints.items c.do_one.new.prints.items
    t c.do_one.new.task _ (c.in-Some.code, c.task_path-path.result.items) c.loop-place.invariant.ranging below
    c.index_mut-task.ensures.value c.in_ok-reported.ensures.reported
    (ap (option_map (at_path (g.P.Task.OnPath.path_of c.do_one.new.task))) c.in-Some.is
    ∙ ap (λ (p : List ℕ). Some (c.in-Some.code, p)) (sym c.task_path-path.ensures.path))

pub loop-place-init : goal.loop-place-init
loop-place-init g c =
    let q = c.args.scene.now.program.now in
    record {
      ranging =
          none_ranged (g.P.Program.frame q) (g.P.Program.may q) (g.P.Program.meant q) g.P.Task.OnPath.path_of c.args.scene.now.arrays.now
          c.args.scene.now.step c.args.first c.args.work.now.puts
          c.args.tasks.now.items c.args.deeds.now c.args.prints.now.items (omega (arith, c.requires.rises, c.requires.within));
      count = refl;
      below = c.requires.rises;
      logged = c.len-logged.ensures;
      prints = c.clear.ensures.items;
      spawns = c.clear-2.ensures.items;
    }

pub loop-place-preserved : goal.loop-place-preserved
loop-place-preserved g c =
    let q = c.args.scene.now.program.now in
    let t = c.index_mut-task.result.now in
    let below : c.loop-place.place < length c.loop-place.tasks.items =
    omega (arith, c.loop-place-test.true, c.requires.within, c.loop-place.invariant.count) in
    record {
      ranging =
          one_ranged (g.P.Program.frame q) (g.P.Program.may q) (g.P.Program.meant q) g.P.Task.OnPath.path_of c.args.scene.now.arrays.now
          c.args.scene.now.step c.args.first c.loop-place.place
          c.args.work.now.puts c.loop-place.work.puts c.do_one.new.work.puts c.args.tasks.now.items c.loop-place.tasks.items
          c.args.deeds.now c.loop-place.deeds c.do_one.new.deeds c.args.prints.now.items c.loop-place.prints.items c.do_one.new.prints.items
          t c.do_one.new.task _ c.loop-place.invariant.ranging below c.index_mut-task.ensures.value c.in_ok-reported.ensures.reported
          (ap (option_map (at_path (g.P.Task.OnPath.path_of c.do_one.new.task))) c.in-None.is);
      count = length-set c.loop-place.tasks.items c.loop-place.place c.do_one.new.task ∙ c.loop-place.invariant.count;
      below = omega (arith, c.loop-place-test.true);
      logged = c.in_ok-reported.ensures.logged c.in-None.is;
      prints = (c.in_ok-reported.ensures.emptied c.in-None.is).0;
      spawns = (c.in_ok-reported.ensures.emptied c.in-None.is).1;
    }

pub returns-clause-done : goal.returns-clause-done
returns-clause-done g c =
    let q = c.args.scene.now.program.now in
    let at_end : c.loop-place.place ≡ c.args.end = omega (arith, c.loop-place-test.false, c.loop-place.invariant.below) in
    all_ranged (g.P.Program.frame q) (g.P.Program.may q) (g.P.Program.meant q) g.P.Task.OnPath.path_of c.args.scene.now.arrays.now
    c.args.scene.now.step c.args.first c.args.end _ _ _ _ _ _ _ _
    (subst (λ n. IsRanging (g.P.Program.frame q) (g.P.Program.may q) (g.P.Program.meant q) g.P.Task.OnPath.path_of c.args.scene.now.arrays.now c.args.scene.now.step c.args.first n
    c.args.work.now.puts c.loop-place.work.puts c.args.tasks.now.items c.loop-place.tasks.items c.args.deeds.now c.loop-place.deeds
    c.args.prints.now.items c.loop-place.prints.items)
    at_end c.loop-place.invariant.ranging)

pub overflow_add-place : goal.overflow_add-place
overflow_add-place = grind (arith, common_steps)

pub returns-in-Some-clause-count : goal.returns-in-Some-clause-count
returns-in-Some-clause-count = grind (arith, common_steps)
