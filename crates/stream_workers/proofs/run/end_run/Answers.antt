use Rattle.step_core.specs.Program.{program_of}
use Rattle.stretch_queue.specs.Refusals.{IsOfWorkers}
use Rattle.stream_workers.proofs.Outlets.{ends_on, fails_on}
use Rattle.stream_workers.proofs.run.end_run.Goals as goal

pub returns-in-Ok-write_left-clause-streams : goal.returns-in-Ok-write_left-clause-streams
returns-in-Ok-write_left-clause-streams g c = λ held a.
    ends_on c.args.workers (program_of c.args.job.now) c.args.limit c.args.written held (g.W.CountedWrite.contents c.args.writer.now)
    (g.W.CountedWrite.contents c.write_left.new.writer)
    c.in-Ok-write_left.status c.in-Ok-write_left.ensures.text a

pub returns-in-Err-write_left-clause-streams : goal.returns-in-Err-write_left-clause-streams
returns-in-Err-write_left-clause-streams g c = λ held a.
    fails_on c.args.workers (program_of c.args.job.now) c.args.limit c.args.written held (g.W.CountedWrite.contents c.args.writer.now)
    (g.W.CountedWrite.contents c.write_left.new.writer)
    c.in-Err-write_left.fault c.in-Err-write_left.ensures.text a

pub returns-in-Err-clause-streams : goal.returns-in-Err-clause-streams
returns-in-Err-clause-streams g c = λ held a.
    let refused : IsOfWorkers c.args.workers c.in-Err.refused = rw c.in-Err.is at c.requires.refused in
    c.workers_stream_fault.ensures.streams c.args.workers c.args.limit (program_of c.args.job.now) held
    (g.W.CountedWrite.contents c.args.writer.now) refused a

pub returns-in-Err-clause-failures : goal.returns-in-Err-clause-failures
returns-in-Err-clause-failures g c = c.workers_stream_fault.ensures.cause (g.W.CountedWrite.failures c.args.writer.now)
