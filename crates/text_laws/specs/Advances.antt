-- The place of an advance's line (own).
use Rattle.std.specs.Prelude.{◌≡◌, ◌≢◌, false, ◌++◌}
use Rattle.advance_rule.specs.declared.CountPlan.{CountPlan}
use Rattle.flat_phaser.specs.Flat.{Flat, registered}
use Rattle.phaser_one.specs.declared.call.Call.{Call}
use Rattle.phaser_one.specs.Calls.{answer, after}
use Rattle.trace_text.specs.declared.words.PhaserCommand.TheVariants as command
use Rattle.trace_text.specs.Lines.{advance_line}
use Rattle.trace_text.specs.Answers.{reply_text, command_text}

-- A call that moves the phase prints first the phase that it ended, with the parties that it left, and then its answer; a
-- call that doesn't prints its answer alone.
abbrev pub AdvancesComeFirst : Type 0
AdvancesComeFirst =
    (plan : CountPlan) (call : Call) (f : Flat) → f.due ≡ false
    → ((after plan call f).phase ≢ f.phase
    → command_text (command.Call call) f ≡ advance_line f.phase (registered (after plan call f)) ++ reply_text (answer call f))
    × ((after plan call f).phase ≡ f.phase → command_text (command.Call call) f ≡ reply_text (answer call f))
