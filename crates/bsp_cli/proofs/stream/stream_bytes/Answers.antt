use Rattle.bsp_cli.proofs.StreamJobs.{runs_stream}
use Rattle.bsp_cli.proofs.stream.stream_bytes.Goals as goal

pub returns-clause-streams : goal.returns-clause-streams
returns-clause-streams g c =
    runs_stream c.args.workers c.args.limit (g.R.CountedRead.remaining c.args.reader.now) (g.W.CountedWrite.contents c.args.writer.now)
    (g.W.CountedWrite.contents c.stream_job.new.writer)
    c.in_ok-job.job c.stream_job.result c.in_ok-job.ensures.takes c.stream_job.ensures.streams
