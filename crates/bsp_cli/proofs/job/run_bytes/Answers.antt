use Rattle.phase_records.specs.ReportText.{report_text}
use Rattle.bsp_cli.proofs.RunJobs.{runs, pool_runs, pool_reads, pool_writes}
use Rattle.bsp_cli.proofs.job.run_bytes.Goals as goal

pub returns-in-Ok-clause-runs : goal.returns-in-Ok-clause-runs
returns-in-Ok-clause-runs g c =
    runs report_text c.args.workers c.args.limit (g.R.CountedRead.remaining c.args.reader.now) (g.W.CountedWrite.contents c.args.writer.now)
    (g.W.CountedWrite.contents c.write_end.new.writer) c.in_ok-job.job c.in-Ok.report c.write_end.result c.in_ok-job.ensures.takes
    c.in-Ok.ensures.report c.write_end.ensures.reports

pub returns-clause-runs : goal.returns-clause-runs
returns-clause-runs g c =
    pool_runs report_text c.args.workers c.args.limit _ _ c.fault_of.result (c.fault_of.ensures c.args.workers c.in-Err.ensures.started)

pub returns-clause-read_failures : goal.returns-clause-read_failures
returns-clause-read_failures g c =
    pool_reads c.args.workers _ _ c.fault_of.result (c.fault_of.ensures c.args.workers c.in-Err.ensures.started)
    c.in_ok-job.ensures.failures

pub returns-clause-write_failures : goal.returns-clause-write_failures
returns-clause-write_failures g c =
    pool_writes c.args.workers _ c.fault_of.result (c.fault_of.ensures c.args.workers c.in-Err.ensures.started)
