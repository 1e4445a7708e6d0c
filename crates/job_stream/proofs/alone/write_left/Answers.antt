use Rattle.step_core.specs.Program.{program_of}
use Rattle.job_stream.proofs.Streams.{ends_after}
use Rattle.job_stream.proofs.alone.write_left.Goals as goal

pub returns-in-Ok-clause-text : goal.returns-in-Ok-clause-text
returns-in-Ok-clause-text g c =
    ends_after (program_of c.args.job.now) c.args.limit c.args.written c.in-Ok.report c.in-Ok.ensures.report
    (g.W.CountedWrite.contents c.args.writer.now) (g.W.CountedWrite.contents c.close_report.new.writer)
    c.close_report.result c.close_report.ensures.text
