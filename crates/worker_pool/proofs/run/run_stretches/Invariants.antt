use Rattle.worker_pool.proofs.run.run_stretches.Given as goal

abbrev pub ghosts-run_opened : goal.ghosts-run_opened
ghosts-run_opened g a =
    record {
      mark = a.stretches.name;
      workers = a.setup.workers;
      tree = a.meeting.tree.tree;
      passes = a.meeting.lists.stretches.name;
      stops = a.meeting.lists.stops.name;
    }
