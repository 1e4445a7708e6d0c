use Rattle.job_reader.proofs.CellLemmas.{Plain}
use Rattle.job_reader.proofs.exprs.cell_parts.Given as goal

abbrev pub invariant-loop-i : goal.invariant-loop-i
invariant-loop-i l = Plain l.i l.word
