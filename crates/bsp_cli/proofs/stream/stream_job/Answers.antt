use Rattle.bsp_cli.proofs.stream.stream_job.Goals as goal

pub returns-then-workers-eq1-clause-streams : goal.returns-then-workers-eq1-clause-streams
returns-then-workers-eq1-clause-streams g c = c.stream_here.ensures.streams c.args.workers
