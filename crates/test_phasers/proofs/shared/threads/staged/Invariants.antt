use Rattle.std.proofs.Common.{◌≡◌, All}
use Rattle.tier_table.specs.Closes.{held}
use Rattle.test_phasers.proofs.shared.threads.staged.Given as goal

abbrev pub invariant-loop-stage : goal.invariant-loop-stage
invariant-loop-stage g l = All (λ a. (held a.token).tree ≡ l.tree.tree) l.actors.items
