-- The text of a report (own).
use Rattle.std.specs.Prelude.{ℕ, ℤ, ◌==◌, if◌then◌else◌, List, [], ◌∷◌, ◌++◌, map, codes, decimal}
use Rattle.std.specs.List.{flat_map, join_with_byte}
use Rattle.std.specs.Fmt.{signed_decimal}
use Rattle.phase_records.specs.declared.record.PhaseRecord.{PhaseRecord}
use Rattle.phase_records.specs.PrintValue.{PrintValue}
use Rattle.phase_records.specs.Status.{Status, Ended, Fault, Limit}
use Rattle.phase_records.specs.ReportValue.{ReportValue}

-- the numbers of a path, with points between
abbrev pub path_text : List ℕ → List ℕ
path_text path = join_with_byte 46 (map decimal path)

-- a path with no numbers is a dash
abbrev pub shown_path : List ℕ → List ℕ
shown_path [] = codes "-"
shown_path (n ∷ ns) = path_text (n ∷ ns)

abbrev pub print_line : PrintValue → List ℕ
print_line p =
    codes "print " ++ decimal p.step ++ codes " " ++ path_text p.path ++ codes " " ++ signed_decimal p.value ++ codes "\n"

abbrev pub record_line : PhaseRecord → List ℕ
record_line r =
    codes "phase " ++ decimal r.phase ++ codes " parties " ++ decimal r.parties
    ++ codes " left " ++ decimal r.left ++ codes " spawned " ++ decimal r.spawned ++ codes "\n"

abbrev pub cell_text : ℤ → List ℕ
cell_text v = codes " " ++ signed_decimal v

abbrev pub array_line : List ℕ × List ℤ → List ℕ
array_line a = codes "array " ++ a.0 ++ flat_map cell_text a.1 ++ codes "\n"

abbrev pub status_line : Status → List ℕ
status_line (Ended steps) = codes "ended " ++ decimal steps ++ codes "\n"
status_line (Fault code step path) =
    codes "fault " ++ decimal code ++ codes " step " ++ decimal step ++ codes " path " ++ shown_path path ++ codes "\n"
status_line (Limit steps) = codes "limit " ++ decimal steps ++ codes "\n"

-- the prints in front that are of this superstep
abbrev pub front_of : ℕ → List PrintValue → List PrintValue
front_of step [] = []
front_of step (p ∷ ps) = if p.step == step then p ∷ front_of step ps else []

-- the prints behind them
abbrev pub rest_of : ℕ → List PrintValue → List PrintValue
rest_of step [] = []
rest_of step (p ∷ ps) = if p.step == step then rest_of step ps else p ∷ ps

-- each superstep: its prints, then its record
abbrev pub steps_text : List PrintValue → List PhaseRecord → List ℕ
steps_text prints [] = []
steps_text prints (r ∷ rs) =
    flat_map print_line (front_of r.phase prints) ++ record_line r ++ steps_text (rest_of r.phase prints) rs

-- the supersteps, the arrays, and how the job ended
abbrev pub report_text : ReportValue → List ℕ
report_text r = steps_text r.prints r.records ++ flat_map array_line r.arrays ++ status_line r.status
