use Rattle.std.proofs.Common.{◌∙◌, ap, Vec, ℕ}
use Rattle.std.specs.declared.alloc.Global.{Global}
use Rattle.job_view.proofs.Strips.{next_strip, no_strip}
use Rattle.job_view.proofs.cells.push_strips.Goals as goal
use Rattle.job_view.proofs.cells.push_strips.Goals.{in-Some+in_ok-push_strip, in_default}

pub loop-place-preserved : goal.loop-place-preserved
loop-place-preserved c = elim c.match-get.branch [
  | in-Some+in_ok-push_strip w ↦
      next_strip c.args.arrays.now c.loop-place.place (w.in-Some.name.now, w.in-Some.cells.now) c.loop-place.out.items _ _
      w.in-Some.ensures.seen (ap (λ (v : Vec ℕ Global). v.items) w.out-is ∙ (rw w.from.ensures at w.in_ok-push_strip.ensures))
      c.loop-place.invariant
  | in_default w ↦
      no_strip c.args.arrays.now c.loop-place.place c.loop-place.out.items _ _ w.in_default.ensures.seen
      (ap (λ (v : Vec ℕ Global). v.items) w.out-is) c.loop-place.invariant
]
