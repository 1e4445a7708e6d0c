-- What a trace asks for, in the words of its lines.
use Rattle.std.specs.Prelude.{◌≡◌, ◌≤◌, ◌↔◌, ℕ, Bool, false, Result, not, List, [], ◌∷◌, length, map, filter, codes, decimal, Ok, Err, FitsSigned}
use Rattle.std.specs.Fmt.{signed_decimal}
use Rattle.std.specs.Int.{w32, w64}
use Rattle.text_lines.specs.Text.{words_of, is_skipped}
use Rattle.text_lines.specs.declared.refusal.Code.{Code}
use Rattle.phaser_one.specs.declared.call.Call.TheVariants as call
use Rattle.cyclic_gate.specs.declared.call.Call.TheVariants as gate
use Rattle.trace_text.specs.declared.words.PhaserCommand.{PhaserCommand}
use Rattle.trace_text.specs.declared.words.PhaserCommand.TheVariants.{Call, Show}
use Rattle.trace_text.specs.declared.tree_words.TokenCall.{TokenCall}
use Rattle.trace_text.specs.declared.tree_words.TokenCall.TheVariants as token
use Rattle.trace_text.specs.declared.tree_words.TreeCommand.{TreeCommand}
use Rattle.trace_text.specs.declared.tree_words.TreeCommand.TheVariants as tree
use Rattle.trace_text.specs.declared.barrier_words.BarrierCommand.{BarrierCommand}
use Rattle.trace_text.specs.declared.barrier_words.BarrierCommand.TheVariants as barrier
use Rattle.trace_text.specs.Words.{Word, command_of}
use Rattle.trace_text.specs.TreeWords.{tree_command_of, brings_token}
use Rattle.trace_text.specs.BarrierWords.{barrier_command_of}
use Rattle.trace_text.specs.Trace.{most_commands, OfPhaser, OfTree, OfBarrier, Asked, AsksPhaser, AsksTree, AsksBarrier, head_of, brings_none, asked_from, commands_from}

-- the lines that aren't skipped, as their words
abbrev pub kept : List (List ℕ) → List (List Word)
kept lines = filter (λ words. not (is_skipped words)) (map words_of lines)

-- These lines are the commands, in order, within the limits.
pub record SaysCommands {C : Type 0} (says : List Word → Result C Code) (brings : C → Bool) (lines : List (List Word))
    (commands : List C) : Type 0 where
  pub each : map says lines ≡ map Ok commands
  pub few : length commands ≤ most_commands
  pub tokens : length (filter brings commands) ≤ 256

-- A line is the head, and those below it are the commands.
abbrev pub SaysAsked : List Word → List (List Word) → Asked → Type 0
SaysAsked head rest (AsksPhaser h commands) = (head_of head ≡ Ok (OfPhaser h)) × SaysCommands command_of brings_none rest commands
SaysAsked head rest (AsksTree h commands) = (head_of head ≡ Ok (OfTree h)) × SaysCommands tree_command_of brings_token rest commands
SaysAsked head rest (AsksBarrier h commands) = (head_of head ≡ Ok (OfBarrier h)) × SaysCommands barrier_command_of brings_none rest commands

-- The lines that aren't skipped are a head and commands, in this order.
pub record SayAsked (lines : List (List Word)) (asked : Asked) : Type 0 where
  pub head : List Word
  pub rest : List (List Word)
  pub whole : lines ≡ head ∷ rest
  pub says : SaysAsked head rest asked

-- Lines ask for a head and commands exactly if those that aren't skipped are that head and those commands; so empty
-- lines and comments change nothing but the numbers of lines.
abbrev pub LinesSayWhatIsAsked : Type 0
LinesSayWhatIsAsked = (line : ℕ) (lines : List (List ℕ)) (asked : Asked) → (asked_from line lines ≡ Ok asked) ↔ SayAsked (kept lines) asked

-- the one way to write a command of a phaser
abbrev pub spelled : PhaserCommand → List Word
spelled (Call call.Register) = codes "register" ∷ []
spelled (Call (call.Bulk n)) = codes "bulk" ∷ signed_decimal n ∷ []
spelled (Call call.Arrive) = codes "arrive" ∷ []
spelled (Call call.Leave) = codes "leave" ∷ []
spelled (Call (call.Await n)) = codes "await" ∷ signed_decimal n ∷ []
spelled (Call call.Force) = codes "force" ∷ []
spelled Show = codes "show" ∷ []

-- whether a command's number fits its type
abbrev pub HasRoom : PhaserCommand → Type 0
HasRoom (Call (call.Bulk n)) = FitsSigned w64 n
HasRoom (Call (call.Await n)) = FitsSigned w32 n
HasRoom _ = Unit {0}

-- a call of a token in words
abbrev pub call_spelled : TokenCall → List Word
call_spelled (token.Join tier n) = codes "join" ∷ decimal tier ∷ decimal n ∷ []
call_spelled token.Arrive = codes "arrive" ∷ []
call_spelled token.Leave = codes "leave" ∷ []
call_spelled token.Poll = codes "poll" ∷ []
call_spelled token.Force = codes "force" ∷ []

-- the one way to write a command of a tree
abbrev pub tree_spelled : TreeCommand → List Word
tree_spelled tree.Token = codes "token" ∷ []
tree_spelled (tree.Begin k c) = codes "begin" ∷ decimal k ∷ call_spelled c
tree_spelled (tree.Go k) = codes "go" ∷ decimal k ∷ []
tree_spelled (tree.Finish k) = codes "finish" ∷ decimal k ∷ []
tree_spelled (tree.Run k) = codes "run" ∷ decimal k ∷ []
tree_spelled (tree.Do k c) = codes "do" ∷ decimal k ∷ call_spelled c
tree_spelled (tree.Show tier) = codes "show" ∷ decimal tier ∷ []

-- a number of 32 bits
abbrev pub IsSmall : ℕ → Type 0
IsSmall n = n ≤ 4294967295

-- a join's tier has 32 bits, and 1 to 65535 members join
abbrev pub CallHasRoom : TokenCall → Type 0
CallHasRoom (token.Join tier n) = IsSmall tier × (1 ≤ n) × (n ≤ 65535)
CallHasRoom _ = Unit {0}

-- whether the numbers of a tree's command fit: tokens and tiers have 32 bits
abbrev pub TreeHasRoom : TreeCommand → Type 0
TreeHasRoom tree.Token = Unit {0}
TreeHasRoom (tree.Begin k c) = IsSmall k × CallHasRoom c
TreeHasRoom (tree.Go k) = IsSmall k
TreeHasRoom (tree.Finish k) = IsSmall k
TreeHasRoom (tree.Run k) = IsSmall k
TreeHasRoom (tree.Do k c) = IsSmall k × CallHasRoom c
TreeHasRoom (tree.Show tier) = IsSmall tier

-- the one way to write a command of a barrier
abbrev pub barrier_spelled : BarrierCommand → List Word
barrier_spelled (barrier.Call (gate.Await k)) = codes "await" ∷ decimal k ∷ []
barrier_spelled (barrier.Call (gate.Abandon k)) = codes "abandon" ∷ decimal k ∷ []
barrier_spelled (barrier.Call gate.BreakOff) = codes "break" ∷ []
barrier_spelled (barrier.Call gate.Reset) = codes "reset" ∷ []
barrier_spelled barrier.Show = codes "show" ∷ []

-- whether a caller's number fits: it has 32 bits
abbrev pub BarrierHasRoom : BarrierCommand → Type 0
BarrierHasRoom (barrier.Call (gate.Await k)) = IsSmall k
BarrierHasRoom (barrier.Call (gate.Abandon k)) = IsSmall k
BarrierHasRoom _ = Unit {0}

-- Each command whose numbers fit is written in one way, and reading that gives the command again; no other words are
-- read as a command.
pub record AreSpelled {C : Type 0} (says : List Word → Result C Code) (spell : C → List Word) (Fits : C → Type 0) : Type 0 where
  pub read_back : (c : C) → Fits c → says (spell c) ≡ Ok c
  pub written : (words : List Word) (c : C) → says words ≡ Ok c → (words ≡ spell c) × Fits c

-- So are the commands of a phaser, of a tree and of a barrier.
pub record CommandsAreSpelled : Type 0 where
  pub phasers : AreSpelled command_of spelled HasRoom
  pub trees : AreSpelled tree_command_of tree_spelled TreeHasRoom
  pub barriers : AreSpelled barrier_command_of barrier_spelled BarrierHasRoom

-- A line whose words are no command is refused by the fault of those words, however many commands and tokens are above
-- it.
abbrev pub RefusesByItself : {C : Type 0} → (List Word → Result C Code) → (C → Bool) → Type 0
RefusesByItself {C} says brings =
    (line count tokens : ℕ) (this : List ℕ) (below : List (List ℕ)) (code : Code) → is_skipped (words_of this) ≡ false
    → says (words_of this) ≡ Err code
    → commands_from says brings line count tokens (this ∷ below) ≡ Err (record { line = line; code = code })

-- So it is in traces of phasers, of trees and of barriers.
pub record FaultsOfLinesComeFirst : Type 0 where
  pub phasers : RefusesByItself command_of brings_none
  pub trees : RefusesByItself tree_command_of brings_token
  pub barriers : RefusesByItself barrier_command_of brings_none
