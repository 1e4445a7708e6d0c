use Rattle.std.proofs.Common.{◌∙◌, ℕ, ap}
use Rattle.std.specs.Prelude.{Vec}
use Rattle.std.specs.declared.alloc.Global.{Global}
use Rattle.job_reader.proofs.TextLemmas.{arrays-next, arrays-end}
use Rattle.job_reader.proofs.write.push_arrays.Goals as goal
use Rattle.job_reader.proofs.write.push_arrays.Goals.{in-Some+in_ok-push_array, in_default}

pub loop-place-preserved : goal.loop-place-preserved
loop-place-preserved c = elim c.match-get.branch [
  | in-Some+in_ok-push_array w ↦
      arrays-next c.args.arrays.now c.loop-place.place (w.in-Some.name.now, w.in-Some.cells.now) c.loop-place.out.items
      c.match-get.out.items
      w.in-Some.ensures.seen (ap (λ (v : Vec ℕ Global). v.items) w.out-is ∙ w.in_ok-push_array.ensures)
      ∙ c.loop-place.invariant
  | in_default w ↦
      arrays-end c.args.arrays.now c.loop-place.place c.loop-place.out.items c.match-get.out.items
      w.in_default.ensures.seen (ap (λ (v : Vec ℕ Global). v.items) w.out-is)
      ∙ c.loop-place.invariant
]
