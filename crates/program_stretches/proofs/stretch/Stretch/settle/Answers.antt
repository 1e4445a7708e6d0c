use Rattle.std.proofs.Common.{◌≡◌, ◌∙◌, ap, sym, None}
use Rattle.program_stretches.specs.Parts.{reading_of}
use Rattle.program_stretches.specs.StretchView.{stretch_of}
use Rattle.program_stretches.specs.SuperstepStart.{live_of}
use Rattle.program_stretches.specs.StretchesValue.{StretchValue}
use Rattle.program_stretches.proofs.Closed.{nothing_if}
use Rattle.program_stretches.proofs.Owning.{settled_is_part}
use Rattle.program_stretches.proofs.EachDone.{part_settles}
use Rattle.program_stretches.proofs.stretch.Stretch.settle.Goals as goal

pub settle-requires-clause-done : goal.settle-requires-clause-done
settle-requires-clause-done g c =
    let h = c.self.invariant in
    let m = reading_of g.P.Program.frame g.P.Program.may g.P.Program.meant g.P.Task.OnPath.path_of in
    let v = stretch_of c.self.inside in
    let done = ap (λ (s : StretchValue g.row.P.Denot g.row.P-Task.Denot). s.part.done) c.self.view_is ∙ c.requires in
    let none : v.part.fault ≡ None = nothing_if v.part.fault (sym c.has_faulted.ensures ∙ c.if-has_faulted.false) in
    (part_settles (m v.program) (g.met.P.Program.keeps_paths v.program) v.arrays v.step (live_of h.start) h.rising v.part h.part done none).done

pub settle-requires-clause-same : goal.settle-requires-clause-same
settle-requires-clause-same g c =
    let h = c.self.invariant in
    let m = reading_of g.P.Program.frame g.P.Program.may g.P.Program.meant g.P.Task.OnPath.path_of in
    let v = stretch_of c.self.inside in
    let done = ap (λ (s : StretchValue g.row.P.Denot g.row.P-Task.Denot). s.part.done) c.self.view_is ∙ c.requires in
    let none : v.part.fault ≡ None = nothing_if v.part.fault (sym c.has_faulted.ensures ∙ c.if-has_faulted.false) in
    (part_settles (m v.program) (g.met.P.Program.keeps_paths v.program) v.arrays v.step (live_of h.start) h.rising v.part h.part done none).same

pub settle-requires-clause-rising : goal.settle-requires-clause-rising
settle-requires-clause-rising g c =
    let h = c.self.invariant in
    let m = reading_of g.P.Program.frame g.P.Program.may g.P.Program.meant g.P.Task.OnPath.path_of in
    let v = stretch_of c.self.inside in
    let done = ap (λ (s : StretchValue g.row.P.Denot g.row.P-Task.Denot). s.part.done) c.self.view_is ∙ c.requires in
    let none : v.part.fault ≡ None = nothing_if v.part.fault (sym c.has_faulted.ensures ∙ c.if-has_faulted.false) in
    (part_settles (m v.program) (g.met.P.Program.keeps_paths v.program) v.arrays v.step (live_of h.start) h.rising v.part h.part done none).rising

pub settle-requires-clause-numbered : goal.settle-requires-clause-numbered
settle-requires-clause-numbered g c =
    let h = c.self.invariant in
    let m = reading_of g.P.Program.frame g.P.Program.may g.P.Program.meant g.P.Task.OnPath.path_of in
    let v = stretch_of c.self.inside in
    let done = ap (λ (s : StretchValue g.row.P.Denot g.row.P-Task.Denot). s.part.done) c.self.view_is ∙ c.requires in
    let none : v.part.fault ≡ None = nothing_if v.part.fault (sym c.has_faulted.ensures ∙ c.if-has_faulted.false) in
    (part_settles (m v.program) (g.met.P.Program.keeps_paths v.program) v.arrays v.step (live_of h.start) h.rising v.part h.part done none).numbered

pub invariant_of-self : goal.invariant_of-self
invariant_of-self g c =
    let h = c.self.invariant in
    let m = reading_of g.P.Program.frame g.P.Program.may g.P.Program.meant g.P.Task.OnPath.path_of in
    let v = stretch_of c.self.inside in
    let done = ap (λ (s : StretchValue g.row.P.Denot g.row.P-Task.Denot). s.part.done) c.self.view_is ∙ c.requires in
    record {
      start = h.start;
      older = h.older;
      is = h.is;
      count = h.count;
      program = h.program;
      arrays = h.arrays;
      is_ready = h.is_ready;
      rising = h.rising;
      part =
          settled_is_part (m v.program) v.arrays (live_of h.start) v.step v.part c.settle.new.self h.part done
          (sym c.are_sets.ensures ∙ c.if-not-are_sets.false) c.settle.ensures.rest;
    }
