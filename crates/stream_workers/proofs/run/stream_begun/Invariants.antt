use Rattle.stream_workers.proofs.run.stream_begun.Given as goal

abbrev pub ghosts-stream_lent : goal.ghosts-stream_lent
ghosts-stream_lent g a = record {
  job = a.job.now;
  limit = a.limit;
  writer = a.lent.writer.ghost_name;
  held = g.W.CountedWrite.contents a.lent.writer.now;
  failures = g.W.CountedWrite.failures a.lent.writer.now;
}
