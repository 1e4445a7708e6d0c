use Rattle.std.proofs.Common.{◌≡◌, ◌∙◌, Option, Some, None, ap, sym, subst, slice_set, arith}
use Rattle.std.specs.Prelude.{MatchOption}
use Rattle.std.specs.Vec.{with_item}
use Rattle.ghost_lists.specs.Agreed.{LogValue}
use Rattle.program_stretches.specs.Parts.{reading_of}
use Rattle.program_stretches.specs.SuperstepStart.{SuperstepStartValue}
use Rattle.program_stretches.specs.StretchesValue.{StretchesValue, StretchValue, with_slot, IsRunSoFar}
use Rattle.program_stretches.specs.StretchesView.{stretches_of}
use Rattle.program_stretches.specs.StretchView.{stretch_of}
use Rattle.program_stretches.specs.Closing.{Accepts}
use Rattle.program_stretches.proofs.Owning.{there_inside}
use Rattle.program_stretches.proofs.RunsSoFar.{is_open, own_back, run_slot}
use Rattle.program_stretches.proofs.stretches.Stretches.accept.Goals as goal

if_none : {X : Type 0} (o : Option X) (A : Type 0) (B : X → Type 0) → MatchOption o A B → o ≡ None → A
if_none None A B h e = h
if_none (Some x) A B h e = cc

pub index_mut-requires : goal.index_mut-requires
index_mut-requires g c =
    let v = stretches_of c.self.inside in
    let s = stretch_of c.stretch.inside in
    let t =
    subst (λ (x : StretchValue g.row.P.Denot g.row.P-Task.Denot). Accepts v x) (sym c.stretch.view_is)
    (subst (λ (x : StretchesValue g.row.P.Denot g.row.P-Task.Denot). Accepts x c.args.stretch) (sym c.self.view_is)
    (if_none c.refuses.result (Accepts c.args.self.now c.args.stretch) _ c.refuses.ensures c.in_default.is)) in
    let l = there_inside v.parts s.number None t.taken in
    omega (arith, l, c.self.inside.parts.ok.0)

pub invariant_of-self : goal.invariant_of-self
invariant_of-self g c =
    let m = reading_of g.P.Program.frame g.P.Program.may g.P.Program.meant g.P.Task.OnPath.path_of in
    let v = stretches_of c.self.inside in
    let s = stretch_of c.stretch.inside in
    let h = c.self.invariant in
    let t =
    subst (λ (x : StretchValue g.row.P.Denot g.row.P-Task.Denot). Accepts v x) (sym c.stretch.view_is)
    (subst (λ (x : StretchesValue g.row.P.Denot g.row.P-Task.Denot). Accepts x c.args.stretch) (sym c.self.view_is)
    (if_none c.refuses.result (Accepts c.args.self.now c.args.stretch) _ c.refuses.ensures c.in_default.is)) in
    let o = is_open m v h.run s.number None t.taken in
    let own =
    own_back m g.P.Program.ready v h.run o s c.stretch.invariant c.compare.ensures.before.since c.compare.ensures.before.is t.step in
    let same : stretches_of
    (record c.self.inside { writer = c.compare.new.self; parts = with_item c.self.inside.parts s.number (Some s.part) })
    ≡ with_slot v s.number (Some s.part) =
    (λ i. record v { name = (c.compare.ensures.same i).name; log = (c.compare.ensures.same i).log; parts = slice_set v.parts s.number (Some s.part) }) in
    record {
      run = subst (IsRunSoFar m) (sym same) (run_slot m v s.number (Some s.part) h.run o own);
      same = h.same ∙ sym (ap (λ (w : LogValue (SuperstepStartValue g.row.P.Denot g.row.P-Task.Denot)). w.name) c.compare.ensures.same);
      is_ready = h.is_ready;
      pieces = h.pieces;
      most = h.most;
      limit = h.limit;
    }

pub returns-clause-added : goal.returns-clause-added
returns-clause-added g c =
    let v = stretches_of c.self.inside in
    let s = stretch_of c.stretch.inside in
    (λ i. record v { name = (c.compare.ensures.same i).name; log = (c.compare.ensures.same i).log; parts = slice_set v.parts s.number (Some s.part) })
    ∙ (λ i. with_slot (c.self.view_is i) (c.stretch.view_is i).number (Some (c.stretch.view_is i).part))
