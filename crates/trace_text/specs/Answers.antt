-- What a trace prints (own), over the flat phaser with an advance as soon as it is due.
use Rattle.std.specs.Prelude.{ℕ, Bool, nat_le, if◌then◌else◌, List, [], ◌++◌, Option, None, Some, ℤ, pos, negsuc, codes, decimal}
use Rattle.std.specs.Fmt.{signed_decimal}
use Rattle.advance_rule.specs.declared.CountPlan.{CountPlan}
use Rattle.flat_phaser.specs.Flat.{Flat, registered, unarrived, shown}
use Rattle.phaser_one.specs.declared.call.OneFault.{OneFault}
use Rattle.phaser_one.specs.declared.call.OneFault.TheVariants.{TooMany, Full, NobodyUnarrived, Negative}
use Rattle.phaser_one.specs.declared.call.Reply.{Reply}
use Rattle.phaser_one.specs.declared.call.Reply.TheVariants.{Number, Waiting, Refused}
use Rattle.phaser_one.specs.declared.call.Advance.{Advance}
use Rattle.phaser_one.specs.Calls.{answer, after, opened}
use Rattle.phaser_one.specs.Runs.{advance_of}
use Rattle.trace_text.specs.declared.words.PhaserCommand.{PhaserCommand}
use Rattle.trace_text.specs.declared.words.PhaserCommand.TheVariants.{Call, Show}
use Rattle.trace_text.specs.Lines.{advance_line}
use Rattle.trace_text.specs.Runs.{run_text}
use Rattle.trace_text.specs.Trace.{Asked, AsksPhaser, AsksTree, AsksBarrier}
use Rattle.trace_text.specs.TreeAnswers.{tree_opened_text}
use Rattle.trace_text.specs.BarrierAnswers.{barrier_opened_text}

abbrev pub fault_text : OneFault → List ℕ
fault_text TooMany = codes "refused 1 TooMany\n"
fault_text Full = codes "refused 2 Full\n"
fault_text NobodyUnarrived = codes "refused 3 NobodyUnarrived\n"
fault_text Negative = codes "refused 4 Negative\n"

abbrev pub reply_text : Reply → List ℕ
reply_text (Number n) = signed_decimal n ++ codes "\n"
reply_text Waiting = codes "waiting\n"
reply_text (Refused fault) = fault_text fault

abbrev pub advance_text : Option Advance → List ℕ
advance_text None = []
advance_text (Some a) = advance_line a.phase a.parties

abbrev pub show_numbers : ℤ → ℕ → ℕ → Bool → List ℕ
show_numbers phase parties unarrived ended =
    codes "phase " ++ signed_decimal phase ++ codes " parties " ++ decimal parties
    ++ codes " unarrived " ++ decimal unarrived ++ (if ended then codes " ended yes\n" else codes " ended no\n")

-- what a command prints, and the phaser after it
abbrev pub command_text : PhaserCommand → Flat → List ℕ
command_text (Call call) f = advance_text (advance_of call f) ++ reply_text (answer call f)
command_text Show f = show_numbers (shown f) (registered f) (unarrived f) f.ended

abbrev pub command_after : CountPlan → PhaserCommand → Flat → Flat
command_after plan (Call call) f = after plan call f
command_after plan Show f = f

-- this many parties in this phase, or the refusal of as many
abbrev pub opened_text : CountPlan → List PhaserCommand → ℕ → ℤ → List ℕ
opened_text plan commands phase (negsuc n) = fault_text TooMany
opened_text plan commands phase (pos n) =
    if nat_le n 65535 then run_text command_text (command_after plan) commands (opened n phase) else fault_text TooMany

unfoldable pub output_of : Asked → List ℕ
output_of (AsksPhaser head commands) = opened_text head.plan commands head.phase head.parties
output_of (AsksTree head commands) = tree_opened_text head commands
output_of (AsksBarrier head commands) = barrier_opened_text head commands
