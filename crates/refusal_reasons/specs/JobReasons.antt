-- Why the text of a job is refused, in words for people (own).
use Rattle.std.specs.Prelude.{ℕ, List, Option, Some, None, Result, Ok, Err}
use Rattle.text_lines.specs.declared.refusal.Refusal.{Refusal}
use Rattle.job_reader.specs.Trees.{JobTree}
use Rattle.refusal_reasons.specs.Places.{job_mark}
use Rattle.refusal_reasons.specs.Reasons.{refusal_reason}
use Rattle.refusal_reasons.specs.declared.meaning.Kind.TheVariants.{Job}

-- why the text of a job is refused, if it is
abbrev pub job_reason_by : List ℕ → List ℕ → Result JobTree Refusal → Option (List ℕ)
job_reason_by source text (Ok job) = None
job_reason_by source text (Err r) = Some (refusal_reason source text Job r (job_mark text r))
