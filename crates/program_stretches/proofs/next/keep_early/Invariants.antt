use Rattle.std.proofs.Common.{◌≡◌, ◌++◌, length, reverse}
use Rattle.std.specs.Option.{option_map}
use Rattle.program_stretches.specs.Next.{IsEndWithin}
use Rattle.program_stretches.proofs.next.keep_early.Given as goal

abbrev pub invariant-loop-tasks : goal.invariant-loop-tasks
invariant-loop-tasks g l = record {
  same : l.tasks.items ++ reverse l.strays.items ≡ l.fn.tasks.items ++ reverse l.fn.strays.items;
  end : IsEndWithin g.T.OnPath.path_of (option_map (λ p. p.items) l.fn.low) (reverse l.tasks.items);
}

abbrev pub decreases-loop-tasks : goal.decreases-loop-tasks
decreases-loop-tasks g l = length l.strays.items
