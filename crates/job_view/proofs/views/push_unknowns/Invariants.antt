use Rattle.std.proofs.Common.{◌≡◌, ◌++◌, length}
use Rattle.text_lines.specs.Text.{words_of}
use Rattle.job_view.specs.Views.{views_of}
use Rattle.job_view.specs.Look.{missing_views}
use Rattle.job_view.proofs.views.push_unknowns.Given as goal

abbrev pub invariant-loop-name : goal.invariant-loop-name
invariant-loop-name l =
    views_of l.panels.items ++ missing_views l.arrays (words_of l.rest)
    ≡ views_of l.fn.panels.items ++ missing_views l.arrays (words_of l.widths)

abbrev pub decreases-loop-name : goal.decreases-loop-name
decreases-loop-name l = length l.rest
