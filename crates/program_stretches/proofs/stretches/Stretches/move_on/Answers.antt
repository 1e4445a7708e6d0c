use Rattle.std.proofs.lemmas.Grind.{common_steps}
use Rattle.std.proofs.Common.{◌+◌, ◌++◌, ◌∷◌, ◌∙◌, [], List, length, ap, sym, subst, refl, arith}
use Rattle.superstep_memory.specs.PathOrder.{in_path_order}
use Rattle.phase_records.specs.declared.record.PhaseRecord.{PhaseRecord}
use Rattle.superstep_memory.proofs.InOrder.{count_in_order}
use Rattle.phase_records.specs.PrintValue.{PrintValue}
use Rattle.programs.specs.InPlace.{living_with}
use Rattle.programs.proofs.InPlace.{few_left}
use Rattle.program_stretches.specs.Parts.{reading_of, AreFresh, tasks_in, puts_in, deeds_in, prints_in}
use Rattle.program_stretches.specs.StretchesValue.{StretchesValue, status_in}
use Rattle.program_stretches.specs.StretchesView.{stretches_of}
use Rattle.program_stretches.proofs.Closed.{below_limit}
use Rattle.program_stretches.proofs.Counted.{is_ready, next_count, has_landed, run_landed, after_now, closed_now}
use Rattle.program_stretches.proofs.Finding.{found_on}
use Rattle.program_stretches.proofs.EachDone.{living_joined, living_left, can_unprinted}
use Rattle.program_stretches.proofs.stretches.Stretches.move_on.Goals as goal

pub overflow_sub-count : goal.overflow_sub-count
overflow_sub-count g c =
    let e = ap (λ (r : PhaseRecord). r.left) c.requires.counts in
    let f = ap (λ (r : PhaseRecord). r.parties) c.requires.counts in
    let l = few_left (deeds_in c.args.parts.items) in
    omega (arith, e, f, l)

pub next_parts-requires-clause-can : goal.next_parts-requires-clause-can
next_parts-requires-clause-can g c =
    can_unprinted g.P.Task.OnPath.path_of c.args.parts.items c.give_all_prints.new.parts.items c.give_all_prints.ensures.rest c.requires.can

pub next_parts-requires-clause-count : goal.next_parts-requires-clause-count
next_parts-requires-clause-count g c =
    let m = reading_of g.P.Program.frame g.P.Program.may g.P.Program.meant g.P.Task.OnPath.path_of in
    let a = c.args.self.now in
    let s = is_ready m a (g.met.P.Program.keeps_paths a.program) c.requires.running c.requires.run c.requires.few c.requires.counts in
    ap length (living_left c.args.parts.items c.give_all_prints.new.parts.items c.give_all_prints.ensures.rest c.requires.each)
    ∙ sym (count_in_order g.P.Task.OnPath.path_of (living_with (tasks_in c.args.parts.items) (deeds_in c.args.parts.items)))
    ∙ sym (next_count s)

pub overflow_add-self : goal.overflow_add-self
overflow_add-self g c =
    let b =
    below_limit (stretches_of c.self.inside)
    (ap (λ (x : StretchesValue g.row.P.Denot g.row.P-Task.Denot). status_in x) c.self.view_is ∙ c.requires.running) in
    let l = c.self.invariant.limit in
    omega (arith, b, l)

pub invariant_of-self-in-None : goal.invariant_of-self-in-None
invariant_of-self-in-None g c =
    let m = reading_of g.P.Program.frame g.P.Program.may g.P.Program.meant g.P.Task.OnPath.path_of in
    let a = c.args.self.now in
    let s = is_ready m a (g.met.P.Program.keeps_paths a.program) c.requires.running c.requires.run c.requires.few c.requires.counts in
    let l =
    has_landed s c.self.view_is (ap (λ ps. c.args.puts.now ++ puts_in ps) c.deref-2.ensures.value)
    (sym c.in-None.is ∙ c.in_ok-place.ensures.place) (c.in_ok-place.ensures.lands c.in-None.is)
    (c.give_all_prints.ensures.given ∙ ap (λ (ps : List PrintValue). ps ++ prints_in c.args.parts.items) c.in_ok-make_room.ensures.prints)
    (c.push_reserved.ensures.items ∙ ap (λ (rs : List PhaseRecord). rs ++ c.args.counts ∷ []) c.in_ok-make_room.ensures.records)
    refl in
    record {
      run = run_landed l (next_count s) c.requires.none;
      same = c.self.invariant.same;
      is_ready = c.self.invariant.is_ready;
      pieces = c.self.invariant.pieces;
      most = c.self.invariant.most;
      limit = c.self.invariant.limit;
    }

pub invariant_of-self-in_err-next-in-None : goal.invariant_of-self-in_err-next-in-None
invariant_of-self-in_err-next-in-None g c =
    let m = reading_of g.P.Program.frame g.P.Program.may g.P.Program.meant g.P.Task.OnPath.path_of in
    let a = c.args.self.now in
    let s = is_ready m a (g.met.P.Program.keeps_paths a.program) c.requires.running c.requires.run c.requires.few c.requires.counts in
    let l =
    has_landed s c.self.view_is (ap (λ ps. c.args.puts.now ++ puts_in ps) c.deref-2.ensures.value)
    (sym c.in-None.is ∙ c.in_ok-place.ensures.place) (c.in_ok-place.ensures.lands c.in-None.is)
    (c.give_all_prints.ensures.given ∙ ap (λ (ps : List PrintValue). ps ++ prints_in c.args.parts.items) c.in_ok-make_room.ensures.prints)
    (c.push_reserved.ensures.items ∙ ap (λ (rs : List PhaseRecord). rs ++ c.args.counts ∷ []) c.in_ok-make_room.ensures.records)
    refl in
    record {
      run = run_landed l (next_count s) c.requires.none;
      same = c.self.invariant.same;
      is_ready = c.self.invariant.is_ready;
      pieces = c.self.invariant.pieces;
      most = c.self.invariant.most;
      limit = c.self.invariant.limit;
    }

pub reopen-requires-clause-after : goal.reopen-requires-clause-after
reopen-requires-clause-after g c =
    let m = reading_of g.P.Program.frame g.P.Program.may g.P.Program.meant g.P.Task.OnPath.path_of in
    let a = c.args.self.now in
    let s = is_ready m a (g.met.P.Program.keeps_paths a.program) c.requires.running c.requires.run c.requires.few c.requires.counts in
    let l =
    has_landed s c.self.view_is (ap (λ ps. c.args.puts.now ++ puts_in ps) c.deref-2.ensures.value)
    (sym c.in-None.is ∙ c.in_ok-place.ensures.place) (c.in_ok-place.ensures.lands c.in-None.is)
    (c.give_all_prints.ensures.given ∙ ap (λ (ps : List PrintValue). ps ++ prints_in c.args.parts.items) c.in_ok-make_room.ensures.prints)
    (c.push_reserved.ensures.items ∙ ap (λ (rs : List PhaseRecord). rs ++ c.args.counts ∷ []) c.in_ok-make_room.ensures.records)
    refl in
    let tasks =
    c.in_ok-next-in-None.ensures.tasks
    ∙ ap (in_path_order g.P.Task.OnPath.path_of)
    (living_left c.args.parts.items c.give_all_prints.new.parts.items c.give_all_prints.ensures.rest c.requires.each) in
    after_now l (next_count s) _ tasks

pub returns-in_ok-reopen-in-None-clause-closed : goal.returns-in_ok-reopen-in-None-clause-closed
returns-in_ok-reopen-in-None-clause-closed g c =
    let m = reading_of g.P.Program.frame g.P.Program.may g.P.Program.meant g.P.Task.OnPath.path_of in
    let a = c.args.self.now in
    let s = is_ready m a (g.met.P.Program.keeps_paths a.program) c.requires.running c.requires.run c.requires.few c.requires.counts in
    let l =
    has_landed s c.self.view_is (ap (λ ps. c.args.puts.now ++ puts_in ps) c.deref-2.ensures.value)
    (sym c.in-None.is ∙ c.in_ok-place.ensures.place) (c.in_ok-place.ensures.lands c.in-None.is)
    (c.give_all_prints.ensures.given ∙ ap (λ (ps : List PrintValue). ps ++ prints_in c.args.parts.items) c.in_ok-make_room.ensures.prints)
    (c.push_reserved.ensures.items ∙ ap (λ (rs : List PhaseRecord). rs ++ c.args.counts ∷ []) c.in_ok-make_room.ensures.records)
    refl in
    let tasks =
    c.in_ok-next-in-None.ensures.tasks
    ∙ ap (in_path_order g.P.Task.OnPath.path_of)
    (living_left c.args.parts.items c.give_all_prints.new.parts.items c.give_all_prints.ensures.rest c.requires.each) in
    closed_now l (next_count s) c.in_ok-next-in-None.next.items c.in_ok-next-in-None.ensures.fresh tasks c.reopen.new.self
    c.in_ok-reopen-in-None.ensures.opened

pub returns-in_ok-reopen-in-None-clause-reopened : goal.returns-in_ok-reopen-in-None-clause-reopened
returns-in_ok-reopen-in-None-clause-reopened g c =
    let m = reading_of g.P.Program.frame g.P.Program.may g.P.Program.meant g.P.Task.OnPath.path_of in
    let a = c.args.self.now in
    let s = is_ready m a (g.met.P.Program.keeps_paths a.program) c.requires.running c.requires.run c.requires.few c.requires.counts in
    let is = c.in_ok-reopen-in-None.ensures.opened in
    let there = ap (λ (x : StretchesValue g.row.P.Denot g.row.P-Task.Denot). x.parts) is in
    let tasks =
    c.in_ok-next-in-None.ensures.tasks
    ∙ ap (in_path_order g.P.Task.OnPath.path_of)
    (living_left c.args.parts.items c.give_all_prints.new.parts.items c.give_all_prints.ensures.rest c.requires.each) in
    let all = ap tasks_in there ∙ tasks in (
      subst (AreFresh 0) (sym there) c.in_ok-next-in-None.ensures.fresh,
      ap (λ (x : StretchesValue g.row.P.Denot g.row.P-Task.Denot). x.count) is ∙ next_count s ∙ ap length (sym all),
      λ stay. absurd (c.requires.moves stay),
      ap (λ (x : StretchesValue g.row.P.Denot g.row.P-Task.Denot). x.step) is
          ∙ ap (λ (x : StretchesValue g.row.P.Denot g.row.P-Task.Denot). x.step + 1) c.self.view_is,
      c.requires.each,
      all ∙ ap (in_path_order g.P.Task.OnPath.path_of) (living_joined c.args.parts.items c.requires.each),
    )

pub invariant_of-self-in-Some : goal.invariant_of-self-in-Some
invariant_of-self-in-Some = grind (arith, common_steps)

pub invariant_of-self-in_err-place : goal.invariant_of-self-in_err-place
invariant_of-self-in_err-place = grind (arith, common_steps)

pub overflow-requires-clause-few : goal.overflow-requires-clause-few
overflow-requires-clause-few = grind (arith, common_steps)

pub overflow-requires-clause-none : goal.overflow-requires-clause-none
overflow-requires-clause-none = grind (arith, common_steps)

pub reopen-requires-clause-count : goal.reopen-requires-clause-count
reopen-requires-clause-count = grind (arith, common_steps)

pub reopen-requires-clause-none : goal.reopen-requires-clause-none
reopen-requires-clause-none = grind (arith, common_steps)

pub returns-in_ok-reopen-in-None-clause-given : goal.returns-in_ok-reopen-in-None-clause-given
returns-in_ok-reopen-in-None-clause-given = grind (arith, common_steps)

pub returns-in_ok-reopen-in-None-clause-logs : goal.returns-in_ok-reopen-in-None-clause-logs
returns-in_ok-reopen-in-None-clause-logs = grind (arith, common_steps)

pub overflow-requires-clause-found : goal.overflow-requires-clause-found
overflow-requires-clause-found g c =
    found_on c.args.puts.now c.args.parts.items _ _ c.in-Some.place c.deref-2.ensures.value c.deref-in-Some.ensures.value
    (sym c.in-Some.is ∙ c.in_ok-place.ensures.place)
    (ap (λ (x : StretchesValue g.row.P.Denot g.row.P-Task.Denot). x.arrays) c.self.view_is) c.requires.makers
