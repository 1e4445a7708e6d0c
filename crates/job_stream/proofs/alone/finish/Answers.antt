use Rattle.step_core.specs.Program.{program_of}
use Rattle.job_stream.proofs.Streams.{ends_after}
use Rattle.job_stream.proofs.Stepped.{rest_of_report}
use Rattle.job_stream.proofs.alone.finish.Goals as goal

pub returns-clause-text : goal.returns-clause-text
returns-clause-text g c =
    let w = c.requires.run in
    let rest =
    rest_of_report c.args.job.now c.args.limit c.args.written c.args.run w c.requires.ended c.in-Some.field-0.report
    c.in-Some.ensures.report in
    ends_after (program_of c.args.job.now) c.args.limit c.args.written c.in-Some.field-0.report rest
    (g.W.CountedWrite.contents c.args.writer.now) (g.W.CountedWrite.contents c.close_report.new.writer) c.close_report.result
    c.close_report.ensures.text
