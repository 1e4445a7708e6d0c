use Rattle.std.proofs.Common.{◌≡◌, drop}
use Rattle.job_reader.specs.Words.{place_from}
use Rattle.job_reader.specs.Views.{lent}
use Rattle.job_reader.proofs.words.place.Given as goal

abbrev pub invariant-loop-i : goal.invariant-loop-i
invariant-loop-i l = place_from 0 (lent l.names) l.word ≡ place_from l.i (lent (drop l.i l.names)) l.word
