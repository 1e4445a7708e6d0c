use Rattle.std.proofs.Common.{◌≡◌, ℕ, ◌+◌, ◌∙◌, subst, arith}
use Rattle.std.specs.Io.KnownBytes.{Appends}
use Rattle.step_core.specs.Program.{program_of}
use Rattle.job_stream.specs.Running.{IsWritten}
use Rattle.job_stream.specs.Streamed.{lines_of}
use Rattle.job_stream.proofs.Streams.{goes_on, streams_failed, streams_ended}
use Rattle.job_stream.proofs.Stepped.{ends_there}
use Rattle.job_stream.proofs.alone.stream_on.Goals as goal

pub returns-then-is_some-clause-streams : goal.returns-then-is_some-clause-streams
returns-then-is_some-clause-streams g c =
    streams_ended (program_of c.args.job.now) c.args.limit c.loop-written.written (g.W.CountedWrite.contents c.args.writer.now)
    (g.W.CountedWrite.contents c.loop-written.writer) (g.W.CountedWrite.contents c.finish.new.writer)
    c.finish.result c.loop-written.invariant.out c.finish.ensures.text

pub returns-in-Err-clause-streams : goal.returns-in-Err-clause-streams
returns-in-Err-clause-streams g c =
    streams_failed (program_of c.args.job.now) c.args.limit c.loop-written.written (g.W.CountedWrite.contents c.args.writer.now)
    (g.W.CountedWrite.contents c.loop-written.writer) (g.W.CountedWrite.contents c.advance.new.writer)
    c.in-Err.fault c.loop-written.invariant.out c.in-Err.ensures.text

pub loop-written-preserved : goal.loop-written-preserved
loop-written-preserved g c =
    let next = c.in-Ok.ensures.run.0 in
    record {
      run = subst (λ (n : ℕ). IsWritten c.args.job.now c.args.limit n c.advance.new.run) next c.in-Ok.ensures.run.1;
      out =
          subst
          (λ (n : ℕ). Appends (g.W.CountedWrite.contents c.args.writer.now) (g.W.CountedWrite.contents c.advance.new.writer) (lines_of (program_of c.args.job.now) c.args.limit n))
          next
          (goes_on (program_of c.args.job.now) c.args.limit c.loop-written.written c.in-Ok.field-0
          (g.W.CountedWrite.contents c.args.writer.now) (g.W.CountedWrite.contents c.loop-written.writer)
          (g.W.CountedWrite.contents c.advance.new.writer)
          c.loop-written.invariant.out c.in-Ok.ensures.text);
      failures = c.in-Ok.ensures.failures ∙ c.loop-written.invariant.failures;
    }

pub finish-requires-2-clause-run : goal.finish-requires-2-clause-run
finish-requires-2-clause-run g c =
    let all : c.loop-written.written ≡ c.args.limit = omega (arith, c.loop-written-test.false, c.loop-written.auto.written-end) in
    subst (λ (n : ℕ). IsWritten c.args.job.now c.args.limit n c.loop-written.run) all c.loop-written.invariant.run

pub finish-requires-2-clause-ended : goal.finish-requires-2-clause-ended
finish-requires-2-clause-ended g c = ends_there (program_of c.args.job.now) c.args.limit

pub returns-clause-streams : goal.returns-clause-streams
returns-clause-streams g c =
    let all : c.loop-written.written ≡ c.args.limit = omega (arith, c.loop-written-test.false, c.loop-written.auto.written-end) in
    let out =
    subst
    (λ (n : ℕ). Appends (g.W.CountedWrite.contents c.args.writer.now) (g.W.CountedWrite.contents c.loop-written.writer) (lines_of (program_of c.args.job.now) c.args.limit n))
    all c.loop-written.invariant.out in
    streams_ended (program_of c.args.job.now) c.args.limit c.args.limit (g.W.CountedWrite.contents c.args.writer.now)
    (g.W.CountedWrite.contents c.loop-written.writer) (g.W.CountedWrite.contents c.finish-2.new.writer)
    c.finish-2.result out c.finish-2.ensures.text
