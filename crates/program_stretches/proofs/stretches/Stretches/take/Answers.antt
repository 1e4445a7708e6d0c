use Rattle.std.proofs.Common.{◌≡◌, ◌∙◌, ℕ, List, Bool, true, Option, Some, None, ap, sym, refl, subst, length, slice_get, slice_set}
use Rattle.std.specs.Prelude.{ℤ}
use Rattle.std.specs.Vec.{with_item}
use Rattle.ghost_lists.specs.Agreed.{LogValue}
use Rattle.program_stretches.specs.PartValue.{PartValue}
use Rattle.program_stretches.specs.Parts.{reading_of, IsPartOf}
use Rattle.program_stretches.specs.SuperstepStart.{SuperstepStartValue, live_of}
use Rattle.program_stretches.specs.StretchesValue.{StretchesValue, ready_at, with_slot, IsRunSoFar}
use Rattle.program_stretches.specs.StretchesView.{stretches_of}
use Rattle.program_stretches.proofs.Owning.{ready_part, own_get}
use Rattle.program_stretches.proofs.RunsSoFar.{is_open, run_slot}
use Rattle.program_stretches.proofs.EachDone.{live_rise}
use Rattle.program_stretches.proofs.stretches.Stretches.take.Goals as goal

abbrev done_in : {S : Type 0} → Option (PartValue S) → Bool
done_in None = true
done_in (Some part) = part.done

pub invariant_of-result : goal.invariant_of-result
invariant_of-result g c =
    let m = reading_of g.P.Program.frame g.P.Program.may g.P.Program.meant g.P.Task.OnPath.path_of in
    let v = stretches_of c.self.inside in
    let r =
    ready_part v.parts c.args.number
    (ap (λ (x : StretchesValue g.row.P.Denot g.row.P-Task.Denot). ready_at (slice_get x.parts c.args.number)) c.self.view_is
    ∙ sym c.is_ready.ensures ∙ c.if-not-is_ready.false) in
    let same : Some c.in-Some.part ≡ Some r.part =
    sym c.in-Some.is ∙ c.replace.ensures.value ∙ c.index_mut.ensures.value ∙ r.got c.index_mut.result.now in
    let o = is_open m v c.self.invariant.run c.args.number (Some r.part) r.there in
    let log = ap (λ (w : LogValue (SuperstepStartValue g.row.P.Denot g.row.P-Task.Denot)). w.log) c.snapshot-snapshot.ensures.snapshot in
    record {
      start = o.start;
      older = o.older;
      is = log ∙ o.is;
      count = ap (λ (l : List (SuperstepStartValue g.row.P.Denot g.row.P-Task.Denot)). length l) log ∙ o.count;
      program = o.program;
      arrays = c.in_ok-arrays.ensures ∙ o.arrays;
      is_ready = c.self.invariant.is_ready;
      rising =
          let h = c.self.invariant.run in
          live_rise m v (g.met.P.Program.keeps_paths v.program) h.live h.after (live_of o.start) o.lives;
      part =
          subst (λ (a : List (List ℕ × List ℤ)). IsPartOf (m v.program) a (live_of o.start) v.step c.in-Some.part)
          (sym c.in_ok-arrays.ensures)
          (own_get (m v.program) v.arrays (live_of o.start) v.step v.parts c.args.number c.in-Some.part o.own (r.there ∙ ap (λ (x : Option (PartValue g.row.P-Task.Denot)). Some x) (sym same)));
    }

pub unreachable-requires : goal.unreachable-requires
unreachable-requires g c =
    let v = stretches_of c.self.inside in
    let r =
    ready_part v.parts c.args.number
    (ap (λ (x : StretchesValue g.row.P.Denot g.row.P-Task.Denot). ready_at (slice_get x.parts c.args.number)) c.self.view_is
    ∙ sym c.is_ready.ensures ∙ c.if-not-is_ready.false) in
    let none : None ≡ Some r.part = sym c.in-None.is ∙ c.replace.ensures.value ∙ c.index_mut.ensures.value ∙ r.got c.index_mut.result.now in
    cc

pub invariant_of-self : goal.invariant_of-self
invariant_of-self g c =
    let m = reading_of g.P.Program.frame g.P.Program.may g.P.Program.meant g.P.Task.OnPath.path_of in
    let v = stretches_of c.self.inside in
    let h = c.self.invariant in
    let r =
    ready_part v.parts c.args.number
    (ap (λ (x : StretchesValue g.row.P.Denot g.row.P-Task.Denot). ready_at (slice_get x.parts c.args.number)) c.self.view_is
    ∙ sym c.is_ready.ensures ∙ c.if-not-is_ready.false) in
    let o = is_open m v h.run c.args.number (Some r.part) r.there in
    let slot = c.replace.new.dest in
    let same : stretches_of
    (record c.self.inside { writer = c.snapshot-snapshot.new.self; parts = with_item c.self.inside.parts c.args.number slot })
    ≡ with_slot v c.args.number None =
    (λ i. record v { name = (c.snapshot-snapshot.ensures.same i).name; log = (c.snapshot-snapshot.ensures.same i).log; parts = slice_set v.parts c.args.number (c.replace.ensures.after i) }) in
    record {
      run = subst (IsRunSoFar m) (sym same) (run_slot m v c.args.number None h.run o tt);
      same =
          h.same
          ∙ sym (ap (λ (w : LogValue (SuperstepStartValue g.row.P.Denot g.row.P-Task.Denot)). w.name) c.snapshot-snapshot.ensures.same);
      is_ready = h.is_ready;
      pieces = h.pieces;
      most = h.most;
      limit = h.limit;
    }

pub returns-clause-taken : goal.returns-clause-taken
returns-clause-taken g c =
    let v = stretches_of c.self.inside in
    let r =
    ready_part v.parts c.args.number
    (ap (λ (x : StretchesValue g.row.P.Denot g.row.P-Task.Denot). ready_at (slice_get x.parts c.args.number)) c.self.view_is
    ∙ sym c.is_ready.ensures ∙ c.if-not-is_ready.false) in
    let same : Some c.in-Some.part ≡ Some r.part =
    sym c.in-Some.is ∙ c.replace.ensures.value ∙ c.index_mut.ensures.value ∙ r.got c.index_mut.result.now in
    record {
      number = refl;
      there =
          ap (λ (x : StretchesValue g.row.P.Denot g.row.P-Task.Denot). slice_get x.parts c.args.number) (sym c.self.view_is) ∙ r.there
          ∙ ap (λ (o : Option (PartValue g.row.P-Task.Denot)). Some o) (sym same);
      ready = ap (λ (o : Option (PartValue g.row.P-Task.Denot)). done_in o) same ∙ r.ready;
      left =
          (λ i. record v { name = (c.snapshot-snapshot.ensures.same i).name; log = (c.snapshot-snapshot.ensures.same i).log; parts = slice_set v.parts c.args.number (c.replace.ensures.after i) })
          ∙ ap (λ (x : StretchesValue g.row.P.Denot g.row.P-Task.Denot). with_slot x c.args.number None) c.self.view_is;
      log =
          ap (λ (w : LogValue (SuperstepStartValue g.row.P.Denot g.row.P-Task.Denot)). w.log) c.snapshot-snapshot.ensures.snapshot
          ∙ ap (λ (x : StretchesValue g.row.P.Denot g.row.P-Task.Denot). x.log) c.self.view_is;
      named =
          ap (λ (w : LogValue (SuperstepStartValue g.row.P.Denot g.row.P-Task.Denot)). w.name) c.snapshot-snapshot.ensures.snapshot
          ∙ ap (λ (x : StretchesValue g.row.P.Denot g.row.P-Task.Denot). x.name) c.self.view_is;
      step = ap (λ (x : StretchesValue g.row.P.Denot g.row.P-Task.Denot). x.step) c.self.view_is;
    }
