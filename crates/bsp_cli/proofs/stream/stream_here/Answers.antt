use Rattle.step_core.specs.Program.{program_of}
use Rattle.bsp_cli.proofs.stream.stream_here.Goals as goal

pub returns-in-Err-clause-streams : goal.returns-in-Err-clause-streams
returns-in-Err-clause-streams g c = λ workers.
    c.fault_alone.ensures.streams workers c.args.limit (program_of c.args.job.now) (g.W.CountedWrite.contents c.args.writer.now)
    (g.W.CountedWrite.contents c.stream_alone.new.writer)
    c.in-Err.ensures.streams

pub returns-in-Err-clause-failures : goal.returns-in-Err-clause-failures
returns-in-Err-clause-failures g c =
    c.fault_alone.ensures.cause (g.W.CountedWrite.failures c.args.writer.now) (g.W.CountedWrite.failures c.stream_alone.new.writer)
    c.in-Err.ensures.failures
