-- The picture of a report, as the text of an SVG file (own): a title, a column a superstep, and the arrays below.
use Rattle.std.specs.Prelude.{ℕ, ◌+◌, ◌-◌, ◌*◌, max, nat_lt, if◌then◌else◌, ℤ, List, [], ◌∷◌, ◌++◌, length, codes, decimal, Option, Some, None}
use Rattle.std.specs.List.{flat_map}
use Rattle.std.specs.Int.{div_ceil}
use Rattle.phase_records.specs.ReportValue.{ReportValue}
use Rattle.phase_records.specs.Status.{Status, Ended, Fault, Limit}
use Rattle.job_view.specs.Axes.{party_tick, step_tick, ticks}
use Rattle.job_view.specs.Cells.{escape, strips_from}
use Rattle.job_view.specs.Columns.{bars, columns_of, greatest, joined, tick}
use Rattle.job_view.specs.Panels.{height_of, panels_from}
use Rattle.job_view.specs.declared.columns.Column.{Column}
use Rattle.job_view.specs.declared.panels.Panel.{Panel}

-- how many supersteps share a column, so that there are 4000 columns at most
abbrev pub group_of : ℕ → ℕ
group_of steps = max 1 (div_ceil steps 4000)

-- the fault that ended a job
abbrev pub fault_ending : ℕ → ℕ → List ℕ
fault_ending code step = codes "fault " ++ decimal code ++ codes " in superstep " ++ decimal step

-- how the job ended
abbrev pub ending : Status → List ℕ
ending (Ended steps) = codes "ended"
ending (Fault code step path) = fault_ending code step
ending (Limit steps) = codes "stopped at the limit"

-- how many supersteps share a column
abbrev pub shared_by : ℕ → List ℕ
shared_by group = codes ", each column the greatest of " ++ decimal group ++ codes " supersteps"

-- if several do
abbrev pub sharing : ℕ → List ℕ
sharing group = if nat_lt 1 group then shared_by group else []

-- the name of a picture, if it has any bytes
abbrev pub named : Option (List ℕ) → List ℕ
named None = []
named (Some []) = []
named (Some (c ∷ cs)) = escape (c ∷ cs) ++ codes ": "

abbrev pub title : Option (List ℕ) → ℕ → ℕ → Status → List ℕ
title name steps most status =
    codes "<text class=\"t\" x=\"20\" y=\"24\">" ++ named name ++ codes "supersteps " ++ decimal steps ++ codes ", parties at most "
    ++ decimal most ++ codes ", " ++ ending status
    ++ sharing (group_of steps) ++ codes "</text>\n"

-- the size, so high, and the colours of each class
abbrev pub head : ℕ → List ℕ
head high =
    codes "<svg xmlns=\"http://www.w3.org/2000/svg\" viewBox=\"0 0 920 " ++ decimal high
    ++ codes "\" font-family=\"sans-serif\" font-size=\"12\">\n"
    ++ codes
    "<style>.p,.c{fill:#6d9fd6}.l{fill:#d9776c}.s{fill:#6fbf73}.d{fill:#444}.t{font-size:15px;font-weight:bold}.n{text-anchor:end}.m,.v{text-anchor:middle}.a{stroke:#ccc}.o{fill:none;stroke:#999}</style>\n"
    ++ codes "<rect width=\"100%\" height=\"100%\" fill=\"#fff\"/>\n"

-- what the colours mean
abbrev pub legend : List ℕ
legend =
    codes
    "<text class=\"n\" x=\"71\" y=\"42\">parties</text><text class=\"n\" x=\"71\" y=\"265\">printed</text><text class=\"n\" x=\"71\" y=\"279\">superstep</text>\n"
    ++ codes "<rect class=\"p\" x=\"80\" y=\"287\" width=\"10\" height=\"10\"/><text x=\"95\" y=\"296\">lives on</text>"
    ++ codes "<rect class=\"l\" x=\"180\" y=\"287\" width=\"10\" height=\"10\"/><text x=\"195\" y=\"296\">left</text>"
    ++ codes "<rect class=\"s\" x=\"280\" y=\"287\" width=\"10\" height=\"10\"/><text x=\"295\" y=\"296\">spawned</text>"
    ++ codes "<rect class=\"d\" x=\"380\" y=\"287\" width=\"10\" height=\"10\"/><text x=\"395\" y=\"296\">some task printed</text>\n"

-- where a part of the file with other units begins: how high it is, and how many units it has across and up
abbrev pub part_head : List ℕ → ℕ → ℕ → List ℕ
part_head place across up =
    codes "<svg x=\"80\" width=\"800\" " ++ place ++ codes " preserveAspectRatio=\"none\" viewBox=\"0 0 " ++ decimal across ++ codes " "
    ++ decimal up
    ++ codes "\" overflow=\"visible\">\n"

-- the lines across, for `most` parties
abbrev pub lines : ℕ → List ℕ
lines most = part_head (codes "y=\"50\" height=\"200\"") 1 most ++ ticks (party_tick most) most ++ codes "</svg>\n"

-- the columns over them, with units that go up
abbrev pub heights : ℕ → ℕ → List Column → List ℕ
heights steps most columns =
    part_head (codes "y=\"50\" height=\"200\"") steps most ++ codes "<g transform=\"scale(1,-1) translate(0,-" ++ decimal most
    ++ codes ")\">\n"
    ++ flat_map bars columns ++ codes "</g>\n</svg>\n"

-- below them the ticks where tasks printed, and the numbers of supersteps
abbrev pub below : ℕ → List Column → List ℕ
below steps columns =
    part_head (codes "y=\"257\" height=\"8\"") steps 1 ++ flat_map tick columns ++ codes "</svg>\n"
    ++ part_head (codes "y=\"267\" height=\"20\"") steps 1 ++ ticks (step_tick steps) (steps - 1) ++ codes "</svg>\n"

-- the columns of a report
abbrev pub shown_columns : ReportValue → List Column
shown_columns r =
    joined (div_ceil (length r.records) (group_of (length r.records))) (group_of (length r.records)) (columns_of r.prints r.records)

-- the most parties of its supersteps
abbrev pub most_parties : ReportValue → ℕ
most_parties r = (greatest (columns_of r.prints r.records)).counts.parties

-- `steps` supersteps, with at most `most` parties, as these columns
abbrev pub supersteps : Option (List ℕ) → ℕ → ℕ → Status → List Column → List ℕ
supersteps name steps most status columns =
    title name steps most status ++ legend ++ lines (max most 1) ++ heights (max steps 1) (max most 1) columns
    ++ below (max steps 1) columns

-- the whole of `steps` supersteps, with at most `most` parties, and of these panels
unfoldable pub file : Option (List ℕ) → ℕ → ℕ → Status → List Column → List Panel → List ℕ
file name steps most status columns panels =
    head (320 + height_of panels) ++ supersteps name steps most status columns ++ panels_from 310 panels ++ codes "</svg>\n"

-- the whole without a name, and of these arrays as strips
unfoldable pub plain : ℕ → ℕ → Status → List Column → List (List ℕ × List ℤ) → List ℕ
plain steps most status columns arrays =
    head (320 + 50 * length arrays) ++ supersteps None steps most status columns ++ strips_from 0 arrays ++ codes "</svg>\n"

-- a report with a given name, and below it these panels in place of its arrays
abbrev pub picture_with : Option (List ℕ) → List Panel → ReportValue → List ℕ
picture_with name panels r = file name (length r.records) (most_parties r) r.status (shown_columns r) panels

-- a report without a name, and each of its arrays as a strip
abbrev pub picture : ReportValue → List ℕ
picture r = plain (length r.records) (most_parties r) r.status (shown_columns r) r.arrays
