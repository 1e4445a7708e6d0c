use Rattle.std.proofs.Common.{◌≡◌, ◌++◌, map, drop}
use Rattle.job_view.specs.Words.{spaced}
use Rattle.job_view.proofs.words.spaced_text.Given as goal

abbrev pub invariant-loop-byte : goal.invariant-loop-byte
invariant-loop-byte l = l.words.items ++ map spaced (drop l.byte-index l.rest) ≡ map spaced l.text
