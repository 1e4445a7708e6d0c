use Rattle.job_reader.proofs.CellLemmas.{Plain}
use Rattle.job_reader.proofs.exprs.index_part.Given as goal

abbrev pub invariant-loop-i : goal.invariant-loop-i
invariant-loop-i l = Plain l.i l.rest
