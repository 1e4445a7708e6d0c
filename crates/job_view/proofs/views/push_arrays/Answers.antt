use Rattle.std.proofs.Common.{◌∙◌, ap, Vec}
use Rattle.std.specs.declared.alloc.Global.{Global}
use Rattle.text_lines.specs.Text.{words_of}
use Rattle.job_view.specs.Views.{views_of}
use Rattle.job_view.specs.declared.panels.Panel.{Panel}
use Rattle.job_view.specs.Look.{array_view}
use Rattle.job_view.proofs.Listing.{next_view, no_view}
use Rattle.job_view.proofs.views.push_arrays.Goals as goal
use Rattle.job_view.proofs.views.push_arrays.Goals.{in-Some+in_ok-push_array, in_default}

pub loop-place-preserved : goal.loop-place-preserved
loop-place-preserved c = elim c.match-get.branch [
  | in-Some+in_ok-push_array w ↦
      next_view (array_view (words_of c.args.widths.now)) c.args.arrays.now c.loop-place.place (w.in-Some.name.now, w.in-Some.cells.now)
      (views_of c.loop-place.panels.items) _ _
      w.in-Some.ensures.seen (ap (λ (v : Vec Panel Global). views_of v.items) w.panels-is ∙ w.in_ok-push_array.ensures)
      c.loop-place.invariant
  | in_default w ↦
      no_view (array_view (words_of c.args.widths.now)) c.args.arrays.now c.loop-place.place (views_of c.loop-place.panels.items) _ _
      w.in_default.ensures.seen
      (ap (λ (v : Vec Panel Global). views_of v.items) w.panels-is) c.loop-place.invariant
]
