-- A picture by plain values: what is shown of each array, one below another (own).
use Rattle.std.specs.Prelude.{ℕ, ◌+◌, ℤ, List, [], ◌∷◌, ◌++◌, map, length, codes, Option}
use Rattle.phase_records.specs.ReportValue.{ReportValue}
use Rattle.phase_records.specs.Status.{Status}
use Rattle.job_view.specs.Panels.{drawn, height}
use Rattle.job_view.specs.Picture.{head, most_parties, shown_columns, supersteps}
use Rattle.job_view.specs.declared.columns.Column.{Column}
use Rattle.job_view.specs.declared.panels.Form.{Form}
use Rattle.job_view.specs.declared.panels.Panel.{Panel}

-- what is shown of an array: its name, how many cells it has, which values, and how
pub record View : Type 0 where
  pub name : List ℕ
  pub cells : ℕ
  pub values : List ℤ
  pub form : Form

-- a panel without where it is in memory
abbrev pub view_of : Panel → View
view_of p = record { name = p.name.now; cells = p.cells; values = p.values.now; form = p.form }

abbrev pub views_of : List Panel → List View
views_of ps = map view_of ps

-- views one below another, the first so far below the top
abbrev pub views_from : ℕ → List View → List ℕ
views_from top [] = []
views_from top (v ∷ vs) = drawn top v.name v.cells v.values v.form ++ views_from (top + height v.cells v.values v.form) vs

-- how high they are together
abbrev pub views_height : List View → ℕ
views_height [] = 0
views_height (v ∷ vs) = height v.cells v.values v.form + views_height vs

-- the whole of `steps` supersteps, with at most `most` parties, and of these views
unfoldable pub viewed_file : Option (List ℕ) → ℕ → ℕ → Status → List Column → List View → List ℕ
viewed_file name steps most status columns views =
    head (320 + views_height views) ++ supersteps name steps most status columns ++ views_from 310 views ++ codes "</svg>\n"

-- a report with a given name, and below it these views in place of its arrays
abbrev pub viewed : Option (List ℕ) → List View → ReportValue → List ℕ
viewed name views r = viewed_file name (length r.records) (most_parties r) r.status (shown_columns r) views
