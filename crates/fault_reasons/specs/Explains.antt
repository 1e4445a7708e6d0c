-- Why the job of a text ended by a fault or at its limit (own).
use Rattle.std.specs.Prelude.{◌≡◌, ℕ, ℤ, List, Option, Some, None, Result, Ok, Err}
use Rattle.phase_records.specs.Status.{Status, Ended, Fault, Limit}
use Rattle.text_lines.specs.declared.refusal.Refusal.{Refusal}
use Rattle.task_code.specs.JobValue.{JobValue}
use Rattle.task_lang.specs.TaskValue.{TaskValue}
use Rattle.job_reader.specs.Reading.{job_in}
use Rattle.job_reader.specs.Trees.{JobTree, job_tree}
use Rattle.fault_reasons.specs.Begun.{Begins, GetsTo}
use Rattle.fault_reasons.specs.Texts.{Again, fault_text, limit_text}

-- the superstep of this number, which begins with these arrays and tasks
abbrev pub again : List ℕ → JobValue → ℕ → List (List ℕ × List ℤ) → List TaskValue → Again
again text j step arrays tasks = record { text = text; job = j; arrays = arrays; tasks = tasks; step = step }

-- what is said of the superstep of this number
pub record SaysOf (text : List ℕ) (j : JobValue) (step : ℕ) (said_of : Again → List ℕ) (reason : List ℕ) : Type 0 where
  pub arrays : List (List ℕ × List ℤ)
  pub tasks : List TaskValue
  pub begins : Begins j step arrays tasks
  pub said : reason ≡ said_of (again text j step arrays tasks)

-- nothing if the job doesn't get there
abbrev pub SaysIfThere : List ℕ → JobValue → ℕ → (Again → List ℕ) → Option (List ℕ) → Type 0
SaysIfThere text j step said_of None = GetsTo j step → ⊥
SaysIfThere text j step said_of (Some reason) = SaysOf text j step said_of reason

-- why the job ended so
abbrev pub SaysEnd : List ℕ → JobValue → Status → Option (List ℕ) → Type 0
SaysEnd text j (Ended step) reason = reason ≡ None
SaysEnd text j (Fault code step path) reason = SaysIfThere text j step (λ a. fault_text a code path) reason
SaysEnd text j (Limit step) reason = SaysIfThere text j step limit_text reason

-- a text that isn't refused says a job, whose end is explained
abbrev pub ExplainsRead : List ℕ → Result JobTree Refusal → Status → Option (List ℕ) → Type 0
ExplainsRead text (Err r) s reason = reason ≡ None
ExplainsRead text (Ok tree) s reason = (j : JobValue) × (job_tree j ≡ tree) × SaysEnd text j s reason

abbrev pub Explains : List ℕ → Status → Option (List ℕ) → Type 0
Explains text s reason = ExplainsRead text (job_in text) s reason
