-- An arrival after which the party stays registered, or leaves.
use Rattle.std.specs.Prelude.{ℕ, ◌-◌}
use Rattle.phaser_one.specs.Calls.{Call, Arrive, Leave}
use Rattle.phaser_one.specs.declared.step.Arrival.{Arrival}
use Rattle.phaser_one.specs.declared.step.Arrival.TheVariants.{Stays, Leaves}

abbrev pub call_of : Arrival → Call
call_of Stays = Arrive
call_of Leaves = Leave

-- the parties that are left
abbrev pub left_by : Arrival → ℕ → ℕ
left_by Stays parties = parties
left_by Leaves parties = parties - 1
