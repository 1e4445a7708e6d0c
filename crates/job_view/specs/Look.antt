-- What the options of `bsp draw` mean (own).
use Rattle.std.specs.Prelude.{ℕ, ◌+◌, ◌/◌, min, if◌then◌else◌, ℤ, List, [], ◌∷◌, ◌++◌, map, length, Option, Some, None, option_map}
use Rattle.std.specs.Str.{bytes_eq}
use Rattle.phase_records.specs.ReportValue.{ReportValue}
use Rattle.job_view.specs.Views.{View, viewed}
use Rattle.job_view.specs.declared.panels.Form.{Form}
use Rattle.job_view.specs.declared.panels.Form.TheVariants.{Strip, Board, OverTime, Boards, Missing}
use Rattle.job_view.specs.Words.{width_in, words_in}
use Rattle.job_view.specs.declared.views.Look.{Look}

-- what is asked of a picture: a title, the text of its widths, and the text of the names that are drawn over supersteps
pub record LookValue : Type 0 where
  pub title : Option (List ℕ)
  pub widths : List ℕ
  pub over_time : List ℕ

abbrev pub look_value : Look → LookValue
look_value l = record { title = option_map (λ s. s.now) l.title; widths = l.widths.now; over_time = l.over_time.now }

-- the cells of an array, if it has this name
abbrev pub cells_if : List ℕ → Option (List ℕ × List ℤ) → Option (List ℤ)
cells_if name None = None
cells_if name (Some a) = if bytes_eq a.0 name then Some a.1 else None

-- the cells of the array of this name
abbrev pub named : List ℕ → List (List ℕ × List ℤ) → Option (List ℤ)
named name [] = None
named name (a ∷ rest) = if bytes_eq a.0 name then Some a.1 else named name rest

-- how far two rows are apart, after `steps` supersteps, so that there are at most 1000 rows
abbrev pub every_of : ℕ → ℕ
every_of steps = min (steps / 1000 + 1) 4294967295

-- how many rows there are: those of the supersteps 0, every, 2 every and so on, and of the end
abbrev pub row_count : ℕ → ℕ
row_count steps = steps / every_of steps + 1

-- an array as the job leaves it: in rows if it has a width, and else as a strip
abbrev pub form_by : Option ℕ → Form
form_by None = Strip
form_by (Some across) = Board across

abbrev pub array_view : List (List ℕ) → List ℕ × List ℤ → View
array_view widths a = record { name = a.0; cells = length a.1; values = a.1; form = form_by (width_in a.0 widths) }

-- an array over supersteps: a row a superstep, or a small board if it has a width
abbrev pub time_form : Option ℕ → ℕ → Form
time_form None every = OverTime every
time_form (Some across) every = Boards across every

abbrev pub found_view : List (List ℕ) → ℕ → List ℕ → List ℤ → Option (List ℤ) → View
found_view widths every name values None = record { name = name; cells = 0; values = []; form = Missing }
found_view widths every name values (Some cells) =
    record { name = name; cells = length cells; values = values; form = time_form (width_in name widths) every }

abbrev pub time_view : List (List ℕ) → ℕ → List (List ℕ × List ℤ) → List ℕ → List ℤ → View
time_view widths every arrays name values = found_view widths every name values (named name arrays)

-- each name with its rows
abbrev pub time_views : List (List ℕ) → ℕ → List (List ℕ × List ℤ) → List (List ℕ) → List (List ℤ) → List View
time_views widths every arrays [] rows = []
time_views widths every arrays (n ∷ ns) [] = []
time_views widths every arrays (n ∷ ns) (r ∷ rs) = time_view widths every arrays n r ∷ time_views widths every arrays ns rs

-- a name with a width that no array has
abbrev pub missing_view : List ℕ → View
missing_view name = record { name = name; cells = 0; values = []; form = Missing }

abbrev pub unless_found : List ℕ → Option (List ℤ) → List View
unless_found name None = missing_view name ∷ []
unless_found name (Some cells) = []

-- the names with a width that no array has, if names and widths take turns
abbrev pub missing_views : List (List ℕ × List ℤ) → List (List ℕ) → List View
missing_views arrays [] = []
missing_views arrays (n ∷ []) = unless_found n (named n arrays)
missing_views arrays (n ∷ w ∷ ws) = unless_found n (named n arrays) ++ missing_views arrays ws

-- first each array as the job leaves it, then each name over supersteps, and then the names with a width that no array has
abbrev pub views_by : List (List ℕ) → List (List ℕ) → List (List ℤ) → ReportValue → List View
views_by widths names rows r =
    map (array_view widths) r.arrays
    ++ (time_views widths (every_of (length r.records)) r.arrays names rows ++ missing_views r.arrays widths)

abbrev pub views : LookValue → List (List ℤ) → ReportValue → List View
views look rows r = views_by (words_in look.widths) (words_in look.over_time) rows r

-- the picture of a report, with these rows of the arrays that are drawn over supersteps
abbrev pub looked : LookValue → List (List ℤ) → ReportValue → List ℕ
looked look rows r = viewed look.title (views look rows r) r
