use Rattle.programs.specs.Reads.{reads}
use Rattle.programs.specs.History.{says_in}
use Rattle.programs.proofs.Known.{calm, known}
use Rattle.programs.proofs.InPlace.{few_left, are_many}
use Rattle.programs.specs.Superstep.{ended_by}
use Rattle.programs.specs.RunState.{state_of_run}
use Rattle.programs.specs.InPlace.{maker, overflow_at}
use Rattle.programs.proofs.RunState.{by_fault, by_many, by_over, by_landing, is_there, cut_off, faulted, tallied}
use Rattle.programs.proofs.steps.take_superstep.Goals as goal
use Rattle.std.proofs.Common.{◌∙◌, sym, ap, arith, refl, ℕ, List, [], ◌∷◌, ◌++◌}
use Rattle.std.specs.Prelude.{ℤ}
use Rattle.std.specs.Option.{option_map}
use Rattle.phase_records.specs.declared.record.PhaseRecord.{PhaseRecord}

pub record-counts-requires : goal.record-counts-requires
record-counts-requires g c =
    let q = c.args.program.now in
    let k =
    calm (g.P.Program.frame q) (g.P.Program.may q) c.args.most (g.P.Program.meant q) g.P.Task.OnPath.path_of (g.met.P.Program.keeps_paths q)
    c.args.run_state.now _ _ _ _ _ c.in_ok-fault.ensures c.requires.rising c.requires.few c.in-None.is in
    let l = few_left c.do_all.new.deeds in
    omega (arith, k.fits.few, l, c.requires.most, c.are_few.ensures.0 c.if-not-are_few.false)

pub returns-then-not-are_few-clause-taken : goal.returns-then-not-are_few-clause-taken
returns-then-not-are_few-clause-taken g c =
    let q = c.args.program.now in
    let done = c.in_ok-fault.ensures in
    let p = reads (says_in (g.P.Program.frame q) c.args.most done.entries) (g.P.Program.meant q) g.P.Task.OnPath.path_of in
    let law = g.met.P.Program.keeps_paths q in
    let k =
    calm (g.P.Program.frame q) (g.P.Program.may q) c.args.most (g.P.Program.meant q) g.P.Task.OnPath.path_of (g.met.P.Program.keeps_paths q)
    c.args.run_state.now _ _ _ _ _ c.in_ok-fault.ensures c.requires.rising c.requires.few c.in-None.is in
    let us = c.do_all.new.tasks.items in
    let ds = c.do_all.new.deeds in
    let many = are_many c.are_few.result _ _ c.are_few.ensures.1 c.if-not-are_few.true in
    let l = k.fits.living in
    record {
      entries = done.entries;
      entered = record { tasks = done.tasks; allowed = done.allowed };
      taken = record {
        fault =
            by_many p law k.numbers k.stays c.args.run_state.now us ds k.done.done (omega (arith, l, many))
            ∙ ap (ended_by (state_of_run p c.args.run_state.now)) (sym c.too_many.ensures);
        step = refl;
        arrays = refl {A = List (List ℕ × List ℤ)};
        prints =
            cut_off c.len-printed.result c.args.run_state.now.prints.items c.do_all.new.prints.items _ _
            c.truncate-then-not-are_few.ensures.items (omega (arith, c.len-printed.ensures, c.args.run_state.now.prints.ok.0)) k.done.shown;
        records = refl {A = List PhaseRecord};
      };
    }

pub go_on-requires-clause-same : goal.go_on-requires-clause-same
go_on-requires-clause-same g c =
    let q = c.args.program.now in
    let k =
    calm (g.P.Program.frame q) (g.P.Program.may q) c.args.most (g.P.Program.meant q) g.P.Task.OnPath.path_of (g.met.P.Program.keeps_paths q)
    c.args.run_state.now _ _ _ _ _ c.in_ok-fault.ensures c.requires.rising c.requires.few c.in-None.is in
    k.fits.same

pub go_on-requires-clause-numbered : goal.go_on-requires-clause-numbered
go_on-requires-clause-numbered g c =
    let q = c.args.program.now in
    let k =
    calm (g.P.Program.frame q) (g.P.Program.may q) c.args.most (g.P.Program.meant q) g.P.Task.OnPath.path_of (g.met.P.Program.keeps_paths q)
    c.args.run_state.now _ _ _ _ _ c.in_ok-fault.ensures c.requires.rising c.requires.few c.in-None.is in
    k.fits.numbered

pub make_room-requires : goal.make_room-requires
make_room-requires g c =
    let q = c.args.program.now in
    let k =
    calm (g.P.Program.frame q) (g.P.Program.may q) c.args.most (g.P.Program.meant q) g.P.Task.OnPath.path_of (g.met.P.Program.keeps_paths q)
    c.args.run_state.now _ _ _ _ _ c.in_ok-fault.ensures c.requires.rising c.requires.few c.in-None.is in
    let counted =
    tallied _ (g.met.P.Program.keeps_paths q) k.numbers k.stays c.args.run_state.now c.do_all.new.tasks.items c.do_all.new.deeds
    c.record-counts.result k.fits c.record-counts.ensures in
    omega (arith, counted)

pub go_on-requires-clause-count : goal.go_on-requires-clause-count
go_on-requires-clause-count g c =
    let q = c.args.program.now in
    let k =
    calm (g.P.Program.frame q) (g.P.Program.may q) c.args.most (g.P.Program.meant q) g.P.Task.OnPath.path_of (g.met.P.Program.keeps_paths q)
    c.args.run_state.now _ _ _ _ _ c.in_ok-fault.ensures c.requires.rising c.requires.few c.in-None.is in
    let counted =
    tallied _ (g.met.P.Program.keeps_paths q) k.numbers k.stays c.args.run_state.now c.do_all.new.tasks.items c.do_all.new.deeds
    c.record-counts.result k.fits c.record-counts.ensures in
    omega (arith, counted)

pub go_on-requires-clause-rising : goal.go_on-requires-clause-rising
go_on-requires-clause-rising g c =
    let q = c.args.program.now in
    let k =
    calm (g.P.Program.frame q) (g.P.Program.may q) c.args.most (g.P.Program.meant q) g.P.Task.OnPath.path_of (g.met.P.Program.keeps_paths q)
    c.args.run_state.now _ _ _ _ _ c.in_ok-fault.ensures c.requires.rising c.requires.few c.in-None.is in
    k.fits.rising

pub returns-in-None-over-clause-taken : goal.returns-in-None-over-clause-taken
returns-in-None-over-clause-taken g c =
    let q = c.args.program.now in
    let done = c.in_ok-fault.ensures in
    let p = reads (says_in (g.P.Program.frame q) c.args.most done.entries) (g.P.Program.meant q) g.P.Task.OnPath.path_of in
    let law = g.met.P.Program.keeps_paths q in
    let k =
    calm (g.P.Program.frame q) (g.P.Program.may q) c.args.most (g.P.Program.meant q) g.P.Task.OnPath.path_of (g.met.P.Program.keeps_paths q)
    c.args.run_state.now _ _ _ _ _ c.in_ok-fault.ensures c.requires.rising c.requires.few c.in-None.is in
    let us = c.do_all.new.tasks.items in
    let ds = c.do_all.new.deeds in
    let e = c.record-counts.ensures in
    let living = k.fits.living in
    let fits_now = c.are_few.ensures.0 c.if-not-are_few.false in
    let gone = c.go_on.ensures in
    let l = c.in_ok-over-in-None.ensures in
    record {
      entries = done.entries;
      entered = record { tasks = done.tasks; allowed = done.allowed };
      taken =
          by_landing p law k.numbers k.stays c.args.run_state.now c.go_on.new.run_state c.do_all.new.work.puts us ds
          c.do_all.new.prints.items c.record-counts.result
          k.done (omega (arith, living, fits_now)) e
          (sym c.in-None-over.is ∙ l.place)
          gone.step
          (gone.arrays ∙ l.lands c.in-None-over.is)
          gone.tasks gone.prints
          (gone.records ∙ ap (λ (rs : List PhaseRecord). rs ++ c.record-counts.result ∷ []) c.in_ok-make_room-in-None.ensures.same);
    }

pub returns-in-Some-over-clause-taken : goal.returns-in-Some-over-clause-taken
returns-in-Some-over-clause-taken g c =
    let q = c.args.program.now in
    let done = c.in_ok-fault.ensures in
    let p = reads (says_in (g.P.Program.frame q) c.args.most done.entries) (g.P.Program.meant q) g.P.Task.OnPath.path_of in
    let law = g.met.P.Program.keeps_paths q in
    let k =
    calm (g.P.Program.frame q) (g.P.Program.may q) c.args.most (g.P.Program.meant q) g.P.Task.OnPath.path_of (g.met.P.Program.keeps_paths q)
    c.args.run_state.now _ _ _ _ _ c.in_ok-fault.ensures c.requires.rising c.requires.few c.in-None.is in
    let us = c.do_all.new.tasks.items in
    let ds = c.do_all.new.deeds in
    let e = c.record-counts.ensures in
    let living = k.fits.living in
    let fits_now = c.are_few.ensures.0 c.if-not-are_few.false in
    let l = c.in_ok-over-in-None.ensures in
    record {
      entries = done.entries;
      entered = record { tasks = done.tasks; allowed = done.allowed };
      taken =
          by_over p law k.numbers k.stays c.args.run_state.now _ c.do_all.new.work.puts us ds c.do_all.new.prints.items c.in-Some-over.place
          c.blame_at.result
          k.done (omega (arith, living, fits_now))
          (sym c.in-Some-over.is ∙ l.place)
          (c.blame_at.ensures
          ∙ (λ i. option_map overflow_at (maker p.path (c.deref.ensures.value i) c.do_all.new.deeds c.in-Some-over.place)))
          refl
          (l.unlanded (is_there c.in-Some-over.is))
          (cut_off c.len-printed.result c.args.run_state.now.prints.items c.do_all.new.prints.items _ _
          c.truncate-in-Some-over.ensures.items (omega (arith, c.len-printed.ensures, c.args.run_state.now.prints.ok.0)) k.done.shown)
          c.in_ok-make_room-in-None.ensures.same;
    }

pub returns-in-Some-clause-taken : goal.returns-in-Some-clause-taken
returns-in-Some-clause-taken g c =
    let q = c.args.program.now in
    let done = c.in_ok-fault.ensures in
    let p = reads (says_in (g.P.Program.frame q) c.args.most done.entries) (g.P.Program.meant q) g.P.Task.OnPath.path_of in
    let law = g.met.P.Program.keeps_paths q in
    let n =
    known (g.P.Program.frame q) (g.P.Program.may q) c.args.most (g.P.Program.meant q) g.P.Task.OnPath.path_of law c.args.run_state.now _ _ _
    _ _ done c.requires.rising in
    let few = n.numbers in
    let same = n.stays in
    let h =
    faulted p law few same c.args.run_state.now c.in_ok-fault.fault c.in-Some.blame c.do_all.new.work.puts c.do_all.new.tasks.items
    c.do_all.new.deeds c.do_all.new.prints.items n.reported c.in-Some.is in
    record {
      entries = done.entries;
      entered = record { tasks = done.tasks; allowed = done.allowed };
      taken = record {
        fault = by_fault p law few same c.args.run_state.now c.in-Some.blame h.0;
        step = refl;
        arrays = refl {A = List (List ℕ × List ℤ)};
        prints =
            cut_off c.len-printed.result c.args.run_state.now.prints.items c.do_all.new.prints.items _ h.1.0 c.truncate.ensures.items
            (omega (arith, c.len-printed.ensures, c.args.run_state.now.prints.ok.0)) h.1.1;
        records = refl {A = List PhaseRecord};
      };
    }

pub go_on-requires-clause-left : goal.go_on-requires-clause-left
go_on-requires-clause-left g c = ap (λ (r : PhaseRecord). r.left) (c.record-counts.ensures)

pub go_on-requires-clause-spawned : goal.go_on-requires-clause-spawned
go_on-requires-clause-spawned g c = ap (λ (r : PhaseRecord). r.spawned) (c.record-counts.ensures)
