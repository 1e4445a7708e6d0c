-- The object's text is read back as the object.
use Rattle.std.proofs.Common.{◌≤◌, ℕ, ℤ, pos, negsuc, List, [], ◌∷◌, map, arith}
use Rattle.json.specs.Json.{Json}
use Rattle.json.specs.Tree.{depth, items_depth, members_depth, HasNumbers, ItemsHaveNumbers, MembersHaveNumbers}
use Rattle.json.specs.Value.{items_of}
use Rattle.json.proofs.Printed.Decimals.{IsNumber-decimal, IsNumber-signed_decimal}
use Rattle.json.proofs.Printed.Trees.{document-print}
use Rattle.phase_records.specs.declared.record.PhaseRecord.{PhaseRecord}
use Rattle.phase_records.specs.PrintValue.{PrintValue}
use Rattle.phase_records.specs.Status.{Status, Ended, Fault, Limit}
use Rattle.job_view.specs.ReportJson.{array_member, integer, json_of, list, members, natural, print_json, status_json, superstep_json}
use Rattle.job_view.specs.JsonLaws.{Each, EachReportIsReadBack, IsShort, IsShortArray, IsShortInteger, IsShortPrint, IsShortRecord, IsShortStatus}

-- ---- numbers

numbers-natural : (n : ℕ) → IsShort n → HasNumbers (natural n)
numbers-natural n h = IsNumber-decimal n h

numbers-integer : (v : ℤ) → IsShortInteger v → HasNumbers (integer v)
numbers-integer (pos n) h = IsNumber-signed_decimal (pos n) h
numbers-integer (negsuc n) h = IsNumber-signed_decimal (negsuc n) h

module _ {A : Type 0} (form : A → Json) (P : A → Type 0) (one : (x : A) → P x → HasNumbers (form x)) where
  numbers-list : (xs : List A) → Each P xs → ItemsHaveNumbers (items_of (map form xs))
  numbers-list [] h = tt
  numbers-list (x ∷ xs) h = (one x h.0, numbers-list xs h.1)

numbers-path : (path : List ℕ) → Each IsShort path → HasNumbers (list natural path)
numbers-path path h = numbers-list natural IsShort numbers-natural path h

numbers-cells : (cells : List ℤ) → Each IsShortInteger cells → HasNumbers (list integer cells)
numbers-cells cells h = numbers-list integer IsShortInteger numbers-integer cells h

numbers-record : (r : PhaseRecord) → IsShortRecord r → HasNumbers (superstep_json r)
numbers-record r h =
    (numbers-natural r.phase h.0, (numbers-natural r.parties h.1, (numbers-natural r.left h.2, (numbers-natural r.spawned h.3, tt))))

numbers-print : (p : PrintValue) → IsShortPrint p → HasNumbers (print_json p)
numbers-print p h = (numbers-natural p.step h.0, (numbers-path p.path h.1, (numbers-integer p.value h.2, tt)))

numbers-arrays : (arrays : List (List ℕ × List ℤ)) → Each IsShortArray arrays → MembersHaveNumbers (members (map array_member arrays))
numbers-arrays [] h = tt
numbers-arrays (a ∷ rest) h = (numbers-cells a.1 h.0, numbers-arrays rest h.1)

numbers-status : (s : Status) → IsShortStatus s → HasNumbers (status_json s)
numbers-status (Ended steps) h = (tt, (numbers-natural steps h, tt))
numbers-status (Fault code step path) h = (tt, (numbers-natural code h.0, (numbers-natural step h.1, (numbers-path path h.2, tt))))
numbers-status (Limit steps) h = (tt, (numbers-natural steps h, tt))

-- ---- depths

module _ {A : Type 0} (form : A → Json) (most : ℕ) (one : (x : A) → depth (form x) ≤ most) where
  depth-list : (xs : List A) → items_depth (items_of (map form xs)) ≤ most
  depth-list [] = omega arith
  depth-list (x ∷ xs) = let h = one x in let k = depth-list xs in omega arith

depth-natural : (n : ℕ) → depth (natural n) ≤ 0
depth-natural n = omega arith

depth-integer : (v : ℤ) → depth (integer v) ≤ 0
depth-integer v = omega arith

depth-path : (path : List ℕ) → depth (list natural path) ≤ 1
depth-path path = let h = depth-list natural 0 depth-natural path in omega arith

depth-cells : (cells : List ℤ) → depth (list integer cells) ≤ 1
depth-cells cells = let h = depth-list integer 0 depth-integer cells in omega arith

depth-record : (r : PhaseRecord) → depth (superstep_json r) ≤ 2
depth-record r = omega arith

depth-print : (p : PrintValue) → depth (print_json p) ≤ 2
depth-print p = let h = depth-path p.path in omega arith

depth-arrays : (arrays : List (List ℕ × List ℤ)) → members_depth (members (map array_member arrays)) ≤ 1
depth-arrays [] = omega arith
depth-arrays (a ∷ rest) = let h = depth-cells a.1 in let k = depth-arrays rest in omega arith

depth-status : (s : Status) → depth (status_json s) ≤ 2
depth-status (Ended steps) = omega arith
depth-status (Fault code step path) = let h = depth-path path in omega arith
depth-status (Limit steps) = omega arith

pub each-report-is-read-back : EachReportIsReadBack
each-report-is-read-back r h =
    let a = depth-list superstep_json 2 depth-record r.records in
    let b = depth-list print_json 2 depth-print r.prints in
    let c = depth-arrays r.arrays in
    let d = depth-status r.status in
    document-print (json_of r) (
      numbers-list superstep_json IsShortRecord numbers-record r.records h.records,
      (
        numbers-list print_json IsShortPrint numbers-print r.prints h.prints,
        (numbers-arrays r.arrays h.arrays, (numbers-status r.status h.status, tt)),
      ),
    )
    (omega arith)
