use Rattle.worker_pool.proofs.run.run_stretches.Goals as goal

pub returns-in-Err-clause-started : goal.returns-in-Err-clause-started
returns-in-Err-clause-started g c = c.in-Err.ensures.refused c.args.workers
