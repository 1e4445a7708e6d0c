-- What holds of the text of reports (own).
use Rattle.std.specs.Prelude.{◌≡◌, ℕ, suc, ◌+◌, ◌≤◌, ◌<◌, ◌==◌, if◌then◌else◌, List, [], ◌∷◌, ◌++◌, length}
use Rattle.std.specs.List.{flat_map}
use Rattle.phase_records.specs.declared.record.PhaseRecord.{PhaseRecord}
use Rattle.phase_records.specs.PrintValue.{PrintValue}
use Rattle.phase_records.specs.ReportText.{print_line, record_line, steps_text}

-- records of supersteps one after another, from this one on
abbrev pub AreFrom : ℕ → List PhaseRecord → Type 0
AreFrom n [] = Unit {0}
AreFrom n (r ∷ rs) = (r.phase ≡ n) × AreFrom (suc n) rs

-- prints by superstep, from this one on and below that one
abbrev pub AreWithin : ℕ → ℕ → List PrintValue → Type 0
AreWithin first last [] = Unit {0}
AreWithin first last (p ∷ ps) = (first ≤ p.step) × (p.step < last) × AreWithin p.step last ps

-- the prints of one superstep
abbrev pub of_step : ℕ → List PrintValue → List PrintValue
of_step step [] = []
of_step step (p ∷ ps) = if p.step == step then p ∷ of_step step ps else of_step step ps

-- the lines of supersteps, each with all its prints
abbrev pub each_step : List PrintValue → List PhaseRecord → List ℕ
each_step prints [] = []
each_step prints (r ∷ rs) = flat_map print_line (of_step r.phase prints) ++ record_line r ++ each_step prints rs

-- Where supersteps are recorded one after another, and prints stand by superstep, the text has for each superstep all its
-- prints and then its record.
abbrev pub EachStepHasItsPrints : Type 0
EachStepHasItsPrints =
    (n : ℕ) (records : List PhaseRecord) (prints : List PrintValue)
    → AreFrom n records → AreWithin n (n + length records) prints → steps_text prints records ≡ each_step prints records
