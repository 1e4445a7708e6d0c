use Rattle.std.proofs.Common.{◌≡◌}
use Rattle.std.specs.Io.KnownBytes.{Appends}
use Rattle.step_core.specs.Program.{program_of}
use Rattle.job_stream.specs.Streamed.{lines_of}
use Rattle.job_stream.specs.Running.{IsWritten}
use Rattle.job_stream.proofs.alone.stream_on.Given as goal

abbrev pub invariant-loop-written : goal.invariant-loop-written
invariant-loop-written g l = record {
  run : IsWritten l.fn.job l.fn.limit l.written l.run;
  out : Appends (g.W.CountedWrite.contents l.fn.writer) (g.W.CountedWrite.contents l.writer)
      (lines_of (program_of l.fn.job) l.fn.limit l.written);
  failures : g.W.CountedWrite.failures l.writer ≡ g.W.CountedWrite.failures l.fn.writer;
}
