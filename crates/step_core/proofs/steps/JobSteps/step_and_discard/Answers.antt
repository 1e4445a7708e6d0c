use Rattle.step_core.proofs.Stepped.{one_on}
use Rattle.step_core.proofs.steps.JobSteps.step_and_discard.Goals as goal

pub returns-clause-later : goal.returns-clause-later
returns-clause-later c =
    one_on c.args.self.now c.step.new.self c.take_prints.new.self c.take_records.new.self c.in_ok-status.ensures.next
    c.in_ok-status.ensures.job.0 c.in_ok-status.ensures.job.1
    c.take_prints.ensures.kept c.take_records.ensures.kept
