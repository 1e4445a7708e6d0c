use Rattle.std.proofs.Common.{◌≡◌, ◌++◌, drop, map}
use Rattle.text_lines.specs.Text.{words_of}
use Rattle.job_view.specs.Views.{views_of}
use Rattle.job_view.specs.Look.{array_view}
use Rattle.job_view.proofs.views.push_arrays.Given as goal

abbrev pub invariant-loop-place : goal.invariant-loop-place
invariant-loop-place l =
    views_of l.panels.items ++ map (array_view (words_of l.fn.widths)) (drop l.place l.fn.arrays)
    ≡ views_of l.fn.panels.items ++ map (array_view (words_of l.fn.widths)) l.fn.arrays
