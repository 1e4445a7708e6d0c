use Rattle.std.proofs.Common.{map}
use Rattle.step_core.specs.Program.{program_of}
use Rattle.job_schedule.specs.AnswerValue.{answer_seen}
use Rattle.job_schedule.proofs.Jobs.{answers_report}
use Rattle.job_schedule.proofs.drive.drive_job.Goals as goal

pub returns-clause-report : goal.returns-clause-report
returns-clause-report c report =
    answers_report (program_of c.args.job.now) c.args.shape c.args.limit c.args.steps.now (map answer_seen c.in_ok-replies.replies.items)
    report c.in_ok-replies.ensures
