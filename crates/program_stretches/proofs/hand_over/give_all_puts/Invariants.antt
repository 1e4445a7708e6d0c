use Rattle.std.proofs.Common.{◌≡◌, ◌++◌, ◌-◌, length, drop}
use Rattle.program_stretches.specs.Parts.{without_puts, puts_in}
use Rattle.program_stretches.proofs.Along.{half}
use Rattle.program_stretches.proofs.hand_over.give_all_puts.Given as goal

abbrev pub invariant-loop-place : goal.invariant-loop-place
invariant-loop-place g l = record {
  parts : l.parts.items ≡ half without_puts l.place l.fn.parts.items;
  puts : l.puts ++ puts_in (drop l.place l.fn.parts.items) ≡ l.fn.puts ++ puts_in l.fn.parts.items;
}

abbrev pub decreases-loop-place : goal.decreases-loop-place
decreases-loop-place g l = length l.parts.items - l.place
