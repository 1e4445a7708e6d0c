use Rattle.std.proofs.Common.{◌≡◌, ◌++◌}
use Rattle.job_view.specs.Axes.{first_ticks, party_tick}
use Rattle.job_view.proofs.axes.push_first_parties.Given as goal

abbrev pub invariant-loop-n : goal.invariant-loop-n
invariant-loop-n l = l.out.items ≡ l.fn.out.items ++ first_ticks (party_tick l.fn.most) l.n
