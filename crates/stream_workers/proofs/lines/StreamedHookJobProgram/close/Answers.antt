use Rattle.std.proofs.Common.{◌≡◌, refl}
use Rattle.job_stream.specs.Running.{IsGivenAfter, job_reading}
use Rattle.job_stream.proofs.Streams.{run_on}
use Rattle.job_stream.proofs.Pieces.{given_piece}
use Rattle.stream_workers.proofs.Left.{lines_there}
use Rattle.stream_workers.proofs.lines.StreamedHookJobProgram.close.Goals as goal

pub invariant_of-result : goal.invariant_of-result
invariant_of-result g c =
    let log = c.args.stretches.now.log in
    let given =
    lines_there (IsGivenAfter job_reading log) _ _ _ c.in-Landed-Some.is c.in-Landed-Some.field-0-is c.in_ok-lines.ensures.given in
    λ le. given_piece g.J.Streaming.job g.J.Streaming.limit log c.in-Landed-Some.lines c.requires.kept.1 given le

pub returns-in-Landed-Some-clause-kept : goal.returns-in-Landed-Some-clause-kept
returns-in-Landed-Some-clause-kept g c = (
  refl,
  run_on g.J.Streaming.job g.J.Streaming.limit c.args.stretches.now.log c.close.new.stretches.log c.requires.kept.1 c.close.ensures.log,
)

pub returns-in-Landed-None-clause-kept : goal.returns-in-Landed-None-clause-kept
returns-in-Landed-None-clause-kept g c = (
  refl,
  run_on g.J.Streaming.job g.J.Streaming.limit c.args.stretches.now.log c.close.new.stretches.log c.requires.kept.1 c.close.ensures.log,
)

pub returns-in-Faulted-clause-kept : goal.returns-in-Faulted-clause-kept
returns-in-Faulted-clause-kept g c = (
  refl,
  run_on g.J.Streaming.job g.J.Streaming.limit c.args.stretches.now.log c.close.new.stretches.log c.requires.kept.1 c.close.ensures.log,
)
