use Rattle.std.proofs.Common.{◌≡◌, ◌++◌, length, map}
use Rattle.std.specs.Fmt.{signed_decimal}
use Rattle.job_reader.specs.Grammar.{spaced}
use Rattle.job_reader.proofs.write.push_values.Given as goal

abbrev pub invariant-loop-value : goal.invariant-loop-value
invariant-loop-value l = l.out.items ++ spaced (map signed_decimal l.rest) ≡ l.fn.out.items ++ spaced (map signed_decimal l.values)

abbrev pub decreases-loop-value : goal.decreases-loop-value
decreases-loop-value l = length l.rest
