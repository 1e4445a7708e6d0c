-- What a step of a worker answers, apart from the place of a path in memory (own).
use Rattle.std.specs.Prelude.{ℕ, List}
use Rattle.phase_records.specs.ReportValue.{ReportValue}
use Rattle.tier_core.specs.declared.call.Played.{Played}
use Rattle.job_schedule.specs.declared.step.Answer.{Answer}
use Rattle.job_schedule.specs.declared.step.Answer.TheVariants as answer

pub data AnswerValue : Type 0 where
  Took : List ℕ → AnswerValue
  Delivered : AnswerValue
  Stepped : Played → AnswerValue
  Advanced : Played → AnswerValue
  Closed : AnswerValue
  Finished : ReportValue → AnswerValue
  NotNow : AnswerValue

abbrev pub answer_seen : Answer → AnswerValue
answer_seen (answer.Took path) = Took path.items
answer_seen answer.Delivered = Delivered
answer_seen (answer.Stepped played) = Stepped played
answer_seen (answer.Advanced played) = Advanced played
answer_seen answer.Closed = Closed
answer_seen (answer.Finished report) = Finished report
answer_seen answer.NotNow = NotNow
