use Rattle.std.proofs.Common.{◌≡◌, ◌++◌, map, length}
use Rattle.text_lines.specs.Text.{words_of}
use Rattle.job_view.specs.Views.{views_of}
use Rattle.job_view.specs.Look.{time_views}
use Rattle.job_view.proofs.views.push_times.Given as goal

abbrev pub invariant-loop-word : goal.invariant-loop-word
invariant-loop-word l =
    views_of l.panels.items ++ time_views (words_of l.widths) l.every l.arrays (words_of l.words) (map (λ v. v.items) l.more)
    ≡ views_of l.fn.panels.items ++ time_views (words_of l.widths) l.every l.arrays (words_of l.names) (map (λ v. v.items) l.rows)

abbrev pub decreases-loop-word : goal.decreases-loop-word
decreases-loop-word l = length l.words
