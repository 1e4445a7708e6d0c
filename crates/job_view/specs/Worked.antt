-- Looks worked out by hand (own).
use Rattle.std.specs.Prelude.{◌≡◌, true, false, ℤ, pos, List, [], ◌∷◌, codes, Some, None}
use Rattle.phase_records.specs.ReportValue.{ReportValue}
use Rattle.phase_records.specs.Status.{Ended}
use Rattle.job_view.specs.declared.panels.Form.TheVariants.{Strip, Board, OverTime, Missing}
use Rattle.job_view.specs.Look.{LookValue, every_of, missing_views, row_count, views}
use Rattle.job_view.specs.Words.{are_widths, width_in, words_in}

abbrev pub look : LookValue
look = record { title = None; widths = codes "b=2,c=3"; over_time = codes "a,d" }

abbrev pub report : ReportValue
report = record {
  prints = [];
  records = record { phase = 0; parties = 1; left = 0; spawned = 0 } ∷ record { phase = 1; parties = 1; left = 1; spawned = 0 } ∷ [];
  arrays = (codes "a", pos 1 ∷ pos 2 ∷ []) ∷ (codes "b", pos 3 ∷ pos 4 ∷ pos 5 ∷ []) ∷ [];
  status = Ended 2;
}

abbrev pub rows : List (List ℤ)
rows = (pos 7 ∷ pos 8 ∷ pos 1 ∷ pos 2 ∷ []) ∷ [] ∷ []

pub record LooksAreWorkedOut : Type 0 where
  -- the arrays as they are left, then the first over supersteps, and then a name over supersteps and a name with a width that no array has
  pub drawn : views look rows report
      ≡ record { name = codes "a"; cells = 2; values = pos 1 ∷ pos 2 ∷ []; form = Strip }
      ∷ record { name = codes "b"; cells = 3; values = pos 3 ∷ pos 4 ∷ pos 5 ∷ []; form = Board 2 }
      ∷ record { name = codes "a"; cells = 2; values = pos 7 ∷ pos 8 ∷ pos 1 ∷ pos 2 ∷ []; form = OverTime 1 }
      ∷ record { name = codes "d"; cells = 0; values = []; form = Missing }
      ∷ record { name = codes "c"; cells = 0; values = []; form = Missing } ∷ []
  -- a name without a width, which no array has
  pub unpaired : missing_views report.arrays (codes "b" ∷ codes "2" ∷ codes "c" ∷ [])
      ≡ record { name = codes "c"; cells = 0; values = []; form = Missing } ∷ []
  pub widest : width_in (codes "b") (words_in (codes "a=1,b=4096")) ≡ Some 4096
  pub too_wide : width_in (codes "b") (words_in (codes "b=4097")) ≡ None
  pub no_width : width_in (codes "b") (words_in (codes "b=0")) ≡ None
  pub all_widths : are_widths (words_in (codes "a=2,b=4096,c=2")) ≡ true
  pub twice : are_widths (words_in (codes "a=2,b=3,a=2")) ≡ false
  pub unnumbered : are_widths (words_in (codes "a=2,b")) ≡ false
  pub none : are_widths (words_in (codes "a=0")) ≡ false
  pub all_rows : row_count 999 ≡ 1000
  pub apart : every_of 1000 ≡ 2
  pub fewer_rows : row_count 1000 ≡ 501
  pub far_apart : row_count 2500 ≡ 834
