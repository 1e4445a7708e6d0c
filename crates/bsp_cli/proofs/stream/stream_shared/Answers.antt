use Rattle.step_core.specs.Program.{program_of}
use Rattle.bsp_cli.proofs.stream.stream_shared.Goals as goal

pub returns-in-Err-clause-streams : goal.returns-in-Err-clause-streams
returns-in-Err-clause-streams g c =
    c.fault_shared.ensures.streams c.args.workers c.args.limit (program_of c.args.job.now) (g.W.CountedWrite.contents c.args.writer.now)
    (g.W.CountedWrite.contents c.stream_within.new.writer)
    c.in-Err.ensures.streams

pub returns-in-Err-clause-failures : goal.returns-in-Err-clause-failures
returns-in-Err-clause-failures g c =
    c.fault_shared.ensures.cause (g.W.CountedWrite.failures c.args.writer.now) (g.W.CountedWrite.failures c.stream_within.new.writer)
    c.in-Err.ensures.failures
