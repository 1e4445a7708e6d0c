use Rattle.std.proofs.Common.{ℕ, subst}
use Rattle.step_core.specs.Program.{program_of}
use Rattle.job_stream.specs.Streamed.{IsRest}
use Rattle.job_stream.proofs.Pieces.{left_rest}
use Rattle.job_stream.proofs.alone.rest_of.Goals as goal

pub returns-then-given-written-clause-report : goal.returns-then-given-written-clause-report
returns-then-given-written-clause-report c =
    let left = c.args.left in
    subst (λ (n : ℕ). IsRest (program_of c.args.job.now) c.args.limit n left.ran.report) c.if-given-written.true
    (left_rest c.args.job.now c.args.limit left.given c.args.first.log left.writer.log left.ran.report left.ran.tasks.items c.requires.run c.compare.ensures.before c.requires.left)
