use Rattle.std.proofs.lemmas.Grind.{common_steps}
use Rattle.std.proofs.Common.{true, ◌+◌, ◌++◌, ◌∷◌, ◌∙◌, [], List, length, ap, sym, subst, arith}
use Rattle.superstep_memory.specs.PathOrder.{in_path_order}
use Rattle.phase_records.specs.PrintValue.{PrintValue}
use Rattle.phase_records.specs.declared.record.PhaseRecord.{PhaseRecord}
use Rattle.program_stretches.specs.Parts.{reading_of, AreFresh, tasks_in, puts_in, prints_in}
use Rattle.program_stretches.specs.StretchesValue.{StretchesValue}
use Rattle.program_stretches.proofs.Closed.{tasks_renewed, fresh_renewed}
use Rattle.program_stretches.proofs.Counted.{is_ready, count_stays, all_follow, has_landed, run_landed, after_now, closed_now}
use Rattle.program_stretches.proofs.Finding.{found_on}
use Rattle.program_stretches.proofs.EachDone.{living_joined}
use Rattle.program_stretches.proofs.stretches.Stretches.stay.Goals as goal

pub invariant_of-self-in-None : goal.invariant_of-self-in-None
invariant_of-self-in-None g c =
    let m = reading_of g.P.Program.frame g.P.Program.may g.P.Program.meant g.P.Task.OnPath.path_of in
    let a = c.args.self.now in
    let s = is_ready m a (g.met.P.Program.keeps_paths a.program) c.requires.running c.requires.run c.requires.few c.requires.counts in
    let l =
    has_landed s c.self.view_is (ap (λ ps. c.args.puts.now ++ puts_in ps) c.deref-2.ensures.value)
    (sym c.in-None.is ∙ c.in_ok-place.ensures.place) (c.in_ok-place.ensures.lands c.in-None.is)
    (c.print_and_renew.ensures.given ∙ ap (λ (ps : List PrintValue). ps ++ prints_in c.args.parts.items) c.in_ok-make_room.ensures.prints)
    (c.push_reserved.ensures.items ∙ ap (λ (rs : List PhaseRecord). rs ++ c.args.counts ∷ []) c.in_ok-make_room.ensures.records)
    (all_follow s c.requires.stays) in
    let count = ap (λ (x : StretchesValue g.row.P.Denot g.row.P-Task.Denot). x.count) c.self.view_is ∙ count_stays s in
    record {
      run = run_landed l count c.requires.none;
      same = c.self.invariant.same;
      is_ready = c.self.invariant.is_ready;
      pieces = c.self.invariant.pieces;
      most = c.self.invariant.most;
      limit = c.self.invariant.limit;
    }

pub reopen-requires-clause-fresh : goal.reopen-requires-clause-fresh
reopen-requires-clause-fresh g c =
    subst (AreFresh 0) (sym (c.print_and_renew.ensures.renewed))
    (fresh_renewed true c.args.self.now.count 0 c.args.parts.items c.requires.covered)

pub reopen-requires-clause-after : goal.reopen-requires-clause-after
reopen-requires-clause-after g c =
    let m = reading_of g.P.Program.frame g.P.Program.may g.P.Program.meant g.P.Task.OnPath.path_of in
    let a = c.args.self.now in
    let s = is_ready m a (g.met.P.Program.keeps_paths a.program) c.requires.running c.requires.run c.requires.few c.requires.counts in
    let l =
    has_landed s c.self.view_is (ap (λ ps. c.args.puts.now ++ puts_in ps) c.deref-2.ensures.value)
    (sym c.in-None.is ∙ c.in_ok-place.ensures.place) (c.in_ok-place.ensures.lands c.in-None.is)
    (c.print_and_renew.ensures.given ∙ ap (λ (ps : List PrintValue). ps ++ prints_in c.args.parts.items) c.in_ok-make_room.ensures.prints)
    (c.push_reserved.ensures.items ∙ ap (λ (rs : List PhaseRecord). rs ++ c.args.counts ∷ []) c.in_ok-make_room.ensures.records)
    (all_follow s c.requires.stays) in
    let count = ap (λ (x : StretchesValue g.row.P.Denot g.row.P-Task.Denot). x.count) c.self.view_is ∙ count_stays s in
    after_now l count _ (ap tasks_in c.print_and_renew.ensures.renewed ∙ tasks_renewed c.args.parts.items)

pub returns-in_ok-reopen-in-None-clause-closed : goal.returns-in_ok-reopen-in-None-clause-closed
returns-in_ok-reopen-in-None-clause-closed g c =
    let m = reading_of g.P.Program.frame g.P.Program.may g.P.Program.meant g.P.Task.OnPath.path_of in
    let a = c.args.self.now in
    let s = is_ready m a (g.met.P.Program.keeps_paths a.program) c.requires.running c.requires.run c.requires.few c.requires.counts in
    let l =
    has_landed s c.self.view_is (ap (λ ps. c.args.puts.now ++ puts_in ps) c.deref-2.ensures.value)
    (sym c.in-None.is ∙ c.in_ok-place.ensures.place) (c.in_ok-place.ensures.lands c.in-None.is)
    (c.print_and_renew.ensures.given ∙ ap (λ (ps : List PrintValue). ps ++ prints_in c.args.parts.items) c.in_ok-make_room.ensures.prints)
    (c.push_reserved.ensures.items ∙ ap (λ (rs : List PhaseRecord). rs ++ c.args.counts ∷ []) c.in_ok-make_room.ensures.records)
    (all_follow s c.requires.stays) in
    let count = ap (λ (x : StretchesValue g.row.P.Denot g.row.P-Task.Denot). x.count) c.self.view_is ∙ count_stays s in
    let parts = c.print_and_renew.ensures.renewed in
    closed_now l count c.print_and_renew.new.parts.items
    (subst (AreFresh 0) (sym parts) (fresh_renewed true c.args.self.now.count 0 c.args.parts.items c.requires.covered))
    (ap tasks_in parts ∙ tasks_renewed c.args.parts.items) c.reopen.new.self c.in_ok-reopen-in-None.ensures.opened

pub returns-in_ok-reopen-in-None-clause-reopened : goal.returns-in_ok-reopen-in-None-clause-reopened
returns-in_ok-reopen-in-None-clause-reopened g c =
    let m = reading_of g.P.Program.frame g.P.Program.may g.P.Program.meant g.P.Task.OnPath.path_of in
    let a = c.args.self.now in
    let s = is_ready m a (g.met.P.Program.keeps_paths a.program) c.requires.running c.requires.run c.requires.few c.requires.counts in
    let count = ap (λ (x : StretchesValue g.row.P.Denot g.row.P-Task.Denot). x.count) c.self.view_is ∙ count_stays s in
    let is = c.in_ok-reopen-in-None.ensures.opened in
    let there = ap (λ (x : StretchesValue g.row.P.Denot g.row.P-Task.Denot). x.parts) is ∙ c.print_and_renew.ensures.renewed in
    let tasks = ap tasks_in there ∙ tasks_renewed c.args.parts.items in (
      subst (AreFresh 0) (sym there) (fresh_renewed true c.args.self.now.count 0 c.args.parts.items c.requires.covered),
      ap (λ (x : StretchesValue g.row.P.Denot g.row.P-Task.Denot). x.count) is ∙ count ∙ ap length (sym tasks),
      λ stay. there,
      ap (λ (x : StretchesValue g.row.P.Denot g.row.P-Task.Denot). x.step) is
          ∙ ap (λ (x : StretchesValue g.row.P.Denot g.row.P-Task.Denot). x.step + 1) c.self.view_is,
      c.requires.each,
      tasks ∙ all_follow s c.requires.stays ∙ ap (in_path_order g.P.Task.OnPath.path_of) (living_joined c.args.parts.items c.requires.each),
    )

pub print_and_renew-requires-clause-stay : goal.print_and_renew-requires-clause-stay
print_and_renew-requires-clause-stay g c = (
  sym (ap (λ (r : PhaseRecord). r.left) c.requires.counts) ∙ c.requires.stays.0,
  sym (ap (λ (r : PhaseRecord). r.spawned) c.requires.counts) ∙ c.requires.stays.1,
)

pub invariant_of-self-in-Some : goal.invariant_of-self-in-Some
invariant_of-self-in-Some = grind (arith, common_steps)

pub invariant_of-self-in_err-place : goal.invariant_of-self-in_err-place
invariant_of-self-in_err-place = grind (arith, common_steps)

pub overflow-requires-clause-none : goal.overflow-requires-clause-none
overflow-requires-clause-none = grind (arith, common_steps)

pub reopen-requires-clause-count : goal.reopen-requires-clause-count
reopen-requires-clause-count = grind (arith, common_steps)

pub reopen-requires-clause-none : goal.reopen-requires-clause-none
reopen-requires-clause-none = grind (arith, common_steps)

pub returns-in_ok-reopen-in-None-clause-given : goal.returns-in_ok-reopen-in-None-clause-given
returns-in_ok-reopen-in-None-clause-given = grind (arith, common_steps)

pub returns-in_ok-reopen-in-None-clause-logs : goal.returns-in_ok-reopen-in-None-clause-logs
returns-in_ok-reopen-in-None-clause-logs = grind (arith, common_steps)

pub overflow-requires-clause-found : goal.overflow-requires-clause-found
overflow-requires-clause-found g c =
    found_on c.args.puts.now c.args.parts.items _ _ c.in-Some.place c.deref-2.ensures.value c.deref-in-Some.ensures.value
    (sym c.in-Some.is ∙ c.in_ok-place.ensures.place)
    (ap (λ (x : StretchesValue g.row.P.Denot g.row.P-Task.Denot). x.arrays) c.self.view_is) c.requires.makers
