use Rattle.std.proofs.Common.{◌≡◌, drop}
use Rattle.job_reader.specs.Exprs.{has_bracket}
use Rattle.job_reader.proofs.exprs.has_bracket.Given as goal

abbrev pub invariant-loop-first : goal.invariant-loop-first
invariant-loop-first l = has_bracket l.word ≡ has_bracket (drop l.first-index l.word)
