use Rattle.std.proofs.Common.{◌≡◌, ◌++◌, length}
use Rattle.job_view.specs.Cells.{escape}
use Rattle.job_view.proofs.cells.push_escaped.Given as goal

abbrev pub invariant-loop-byte : goal.invariant-loop-byte
invariant-loop-byte l = l.out.items ++ escape l.rest ≡ l.fn.out.items ++ escape l.fn.name

abbrev pub decreases-loop-byte : goal.decreases-loop-byte
decreases-loop-byte l = length l.rest
