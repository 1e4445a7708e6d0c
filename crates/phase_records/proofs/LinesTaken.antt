-- Lines of a report that were given piece by piece.
use Rattle.std.proofs.Common.{◌≡◌, Bool, true, false, ◌++◌, List, [], ◌∷◌, ℕ, refl, sym, ap, ◌∙◌, arith}
use Rattle.std.specs.Prelude.{codes, decimal, ℤ, ◌==◌, if◌then◌else◌}
use Rattle.std.proofs.lemmas.List.Concat.{flat_map-cons}
use Rattle.std.specs.Fmt.{signed_decimal}
use Rattle.std.specs.List.{flat_map}
use Rattle.phase_records.specs.declared.record.PhaseRecord.{PhaseRecord}
use Rattle.phase_records.specs.PrintValue.{PrintValue}
use Rattle.phase_records.specs.Status.{Fault}
use Rattle.phase_records.specs.Taken.{Outlet, Took}
use Rattle.phase_records.specs.ReportText.{path_text, shown_path, status_line, print_line, record_line, array_line, cell_text, front_of, rest_of, steps_text}
use Rattle.phase_records.proofs.TakenProofs.{took_then, took_parts}

pub record_taken : (a b c d e f : Outlet) (r : PhaseRecord) → Took a b (codes "phase " ++ decimal r.phase)
    → Took b c (codes " parties " ++ decimal r.parties) → Took c d (codes " left " ++ decimal r.left)
    → Took d e (codes " spawned " ++ decimal r.spawned) → Took e f (codes "\n") → Took a f (record_line r)
record_taken a b c d e f r p q s t end =
    took_then a e f _ (codes "\n")
    (took_parts a d e _ (codes " spawned ") (decimal r.spawned)
    (took_parts a c d _ (codes " left ") (decimal r.left)
    (took_parts a b c _ (codes " parties ") (decimal r.parties) p q) s) t) end

pub print_taken : (a b c d e : Outlet) (p : PrintValue) → Took a b (codes "print " ++ decimal p.step)
    → Took b c (codes " " ++ path_text p.path) → Took c d (codes " " ++ signed_decimal p.value) → Took d e (codes "\n")
    → Took a e (print_line p)
print_taken a b c d e p q r s end =
    took_then a d e _ (codes "\n")
    (took_parts a c d _ (codes " ") (signed_decimal p.value) (took_parts a b c _ (codes " ") (path_text p.path) q r) s) end

pub array_taken : (a b c d e : Outlet) (name : List ℕ) (cells : List ℤ) → Took a b (codes "array ") → Took b c name
    → Took c d (flat_map cell_text cells) → Took d e (codes "\n") → Took a e (array_line (name, cells))
array_taken a b c d e name cells q r s end =
    took_then a d e _ (codes "\n") (took_then a c d _ (flat_map cell_text cells) (took_then a b c (codes "array ") name q r) s) end

-- the words of a fault
pub fault_taken : (a b c d e f : Outlet) (code step : ℕ) (path : List ℕ) → Took a b (codes "fault " ++ decimal code)
    → Took b c (codes " step " ++ decimal step) → Took c d (codes " path ") → Took d e (shown_path path) → Took e f (codes "\n")
    → Took a f (status_line (Fault code step path))
fault_taken a b c d e f code step path p q r s end =
    took_then a e f _ (codes "\n")
    (took_then a d e _ (shown_path path)
    (took_then a c d _ (codes " path ") (took_parts a b c _ (codes " step ") (decimal step) p q) r) s) end

if_true : {T : Type 0} (b : Bool) (x y : T) → b ≡ true → (if b then x else y) ≡ x
if_true true x y e = refl
if_true false x y e = absurd cc

-- one print more
pub lines_next : (step : ℕ) (p : PrintValue) (ps all : List PrintValue) → all ≡ p ∷ ps → p.step ≡ step
    → flat_map print_line (front_of step all) ≡ print_line p ++ flat_map print_line (front_of step ps)
lines_next step p ps all e s =
    let b : (p.step == step) ≡ true = grind arith in
    ap (λ (qs : List PrintValue). flat_map print_line (front_of step qs)) e
    ∙ ap (λ (qs : List PrintValue). flat_map print_line qs) (if_true (p.step == step) (p ∷ front_of step ps) [] b)
    ∙ flat_map-cons print_line p (front_of step ps)

pub others_next : (step : ℕ) (p : PrintValue) (ps all : List PrintValue) → all ≡ p ∷ ps → p.step ≡ step → rest_of step all ≡ rest_of step ps
others_next step p ps all e s =
    let b : (p.step == step) ≡ true = grind arith in
    ap (λ (qs : List PrintValue). rest_of step qs) e ∙ if_true (p.step == step) (rest_of step ps) (p ∷ ps) b

-- one superstep more
pub steps_next : (prints left : List PrintValue) (r : PhaseRecord) (rs all : List PhaseRecord) → all ≡ r ∷ rs
    → left ≡ rest_of r.phase prints
    → steps_text prints all ≡ flat_map print_line (front_of r.phase prints) ++ record_line r ++ steps_text left rs
steps_next prints left r rs all e l =
    ap (λ (qs : List PhaseRecord). steps_text prints qs) e
    ∙ ap (λ (qs : List PrintValue). flat_map print_line (front_of r.phase prints) ++ record_line r ++ steps_text qs rs) (sym l)
