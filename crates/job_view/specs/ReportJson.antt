-- A report as JSON (own; the text is that of RFC 8259, without spaces).
use Rattle.std.specs.Prelude.{ℕ, ℤ, List, [], ◌∷◌, ◌++◌, map, codes, decimal}
use Rattle.std.specs.Fmt.{signed_decimal}
use Rattle.json.specs.Json.{Json, number, string, array, object, Members, no_members, member}
use Rattle.json.specs.Print.{print}
use Rattle.json.specs.Tree.{json_tokens}
use Rattle.json.specs.Value.{items_of}
use Rattle.phase_records.specs.declared.record.PhaseRecord.{PhaseRecord}
use Rattle.phase_records.specs.PrintValue.{PrintValue}
use Rattle.phase_records.specs.ReportValue.{ReportValue}
use Rattle.phase_records.specs.Status.{Status, Ended, Fault, Limit}

abbrev pub natural : ℕ → Json
natural n = number (decimal n)

abbrev pub integer : ℤ → Json
integer v = number (signed_decimal v)

abbrev pub list : {A : Type 0} → (A → Json) → List A → Json
list form xs = array (items_of (map form xs))

-- names with their values
abbrev pub members : List (List ℕ × Json) → Members
members [] = no_members
members (m ∷ ms) = member m.0 m.1 (members ms)

abbrev pub superstep_json : PhaseRecord → Json
superstep_json r =
    object (members (
    (codes "phase", natural r.phase) ∷ (codes "parties", natural r.parties) ∷ (codes "left", natural r.left)
    ∷ (codes "spawned", natural r.spawned) ∷ []
    ))

abbrev pub print_json : PrintValue → Json
print_json p =
    object (members ((codes "step", natural p.step) ∷ (codes "path", list natural p.path) ∷ (codes "value", integer p.value) ∷ []))

-- an array's name and its cells
abbrev pub array_member : List ℕ × List ℤ → List ℕ × Json
array_member a = (a.0, list integer a.1)

abbrev pub arrays_json : List (List ℕ × List ℤ) → Json
arrays_json arrays = object (members (map array_member arrays))

-- which end it was, and what belongs to it
abbrev pub status_json : Status → Json
status_json (Ended steps) = object (members ((codes "end", string (codes "ended")) ∷ (codes "steps", natural steps) ∷ []))
status_json (Fault code step path) =
    object (members (
    (codes "end", string (codes "fault")) ∷ (codes "code", natural code) ∷ (codes "step", natural step) ∷ (codes "path", list natural path)
    ∷ []
    ))
status_json (Limit steps) = object (members ((codes "end", string (codes "limit")) ∷ (codes "steps", natural steps) ∷ []))

-- supersteps and prints as lists, arrays by name in declared order, and how the job ended
abbrev pub json_of : ReportValue → Json
json_of r =
    object (members (
    (codes "supersteps", list superstep_json r.records) ∷ (codes "prints", list print_json r.prints)
    ∷ (codes "arrays", arrays_json r.arrays)
    ∷ (codes "status", status_json r.status) ∷ []
    ))

-- the object
abbrev pub object_text : ReportValue → List ℕ
object_text r = print (json_tokens (json_of r))

-- and a line feed
abbrev pub json_text : ReportValue → List ℕ
json_text r = object_text r ++ codes "\n"
