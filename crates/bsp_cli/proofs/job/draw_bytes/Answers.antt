use Rattle.job_view.specs.Look.{look_value}
use Rattle.bsp_cli.proofs.RunJobs.{draws_runs, pool_draws, pool_reads, pool_writes}
use Rattle.bsp_cli.proofs.job.draw_bytes.Goals as goal

pub returns-in-Ok-clause-draws : goal.returns-in-Ok-clause-draws
returns-in-Ok-clause-draws g c =
    draws_runs (look_value c.args.look) c.args.workers c.args.limit (g.R.CountedRead.remaining c.args.reader.now)
    (g.W.CountedWrite.contents c.args.writer.now)
    (g.W.CountedWrite.contents c.draw_end.new.writer) c.in_ok-job.job c.in-Ok.report c.draw_end.result c.in_ok-job.ensures.takes
    c.in-Ok.ensures.report c.draw_end.ensures.reports

pub returns-clause-draws : goal.returns-clause-draws
returns-clause-draws g c =
    pool_draws (look_value c.args.look) c.args.workers c.args.limit _ _ c.fault_of.result
    (c.fault_of.ensures c.args.workers c.in-Err.ensures.started)

pub returns-clause-read_failures : goal.returns-clause-read_failures
returns-clause-read_failures g c =
    pool_reads c.args.workers _ _ c.fault_of.result (c.fault_of.ensures c.args.workers c.in-Err.ensures.started)
    c.in_ok-job.ensures.failures

pub returns-clause-write_failures : goal.returns-clause-write_failures
returns-clause-write_failures g c =
    pool_writes c.args.workers _ c.fault_of.result (c.fault_of.ensures c.args.workers c.in-Err.ensures.started)
