-- What holds of the faulty lines of a text (own).
use Rattle.std.specs.Prelude.{◌≡◌, ◌≤◌, ℕ, List, [], ◌∷◌, length, MatchResult}
use Rattle.text_lines.specs.declared.refusal.Refusal.{Refusal}
use Rattle.job_reader.specs.Reading.{job_in}
use Rattle.refusal_reasons.specs.Faults.{faults_in}

-- A text that is a job has none, and the first of any other is its refusal.
abbrev pub TheFirstFaultIsTheRefusal : Type 0
TheFirstFaultIsTheRefusal =
    (text : List ℕ) → MatchResult (job_in text) (λ job. faults_in text ≡ []) (λ r. (more : List Refusal) × (faults_in text ≡ r ∷ more))

abbrev pub FaultsAreFew : Type 0
FaultsAreFew = (text : List ℕ) → length (faults_in text) ≤ 20
