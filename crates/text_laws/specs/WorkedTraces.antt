-- Traces worked out: what these three print is written down, and not said by any rule (the first two follow Java SE 21, `Phaser`, the third
-- `CyclicBarrier`).
use Rattle.std.specs.Prelude.{◌≡◌, List, [], ◌∷◌, ℕ, MatchResult, Ok, Err, codes}
use Rattle.text_lines.specs.declared.refusal.Code.{Code}
use Rattle.text_lines.specs.declared.refusal.Code.TheVariants.{BadHeader, UnknownLine, BadNumber, BadLine, TooMany}
use Rattle.trace_text.specs.declared.words.PhaserCommand.TheVariants as phaser
use Rattle.trace_text.specs.declared.tree_words.TreeCommand.TheVariants as tree
use Rattle.trace_text.specs.Words.{command_of}
use Rattle.trace_text.specs.TreeWords.{tree_command_of, brings_token}
use Rattle.trace_text.specs.BarrierWords.{barrier_command_of}
use Rattle.trace_text.specs.Trace.{asked_of, brings_none, commands_from}
use Rattle.trace_text.specs.Answers.{output_of}

-- the text is a trace's, which prints this
abbrev pub Prints : List ℕ → List ℕ → Type 0
Prints text output = MatchResult (asked_of text) (λ asked. output_of asked ≡ output) (λ refusal. ⊥)

pub record TracesAreWorkedOut : Type 0 where
  pub phaser : Prints
      (codes "phaser 2\narrive\narrive\nleave\narrive\nbulk 3\nforce\nshow\n")
      (codes "0\nadvance 0 parties 2\n0\n1\nadvance 1 parties 1\n1\n2\n-2147483646\nphase -2147483646 parties 4 unarrived 4 ended yes\n")
  pub tree : Prints
      (codes "tree 2\ntoken\ntoken\ndo 0 join 1 1\ndo 1 join 2 1\ndo 0 arrive\nbegin 1 arrive\ngo 1\ngo 1\ngo 1\nfinish 1\ndo 0 poll\nshow 0\n")
      (codes "token 0\ntoken 1\ndone 0\ndone 0\ndone 0\nbegun\ngoes on\ngoes on\nmust advance 0 2\nadvance 0 parties 2\ndone 0\npassed 1\ntier 0 phase 1 parties 2 unarrived 2 open\n")
  pub barrier : Prints
      (codes "barrier 2 fails 1\nawait 7\nawait 8\nawait 7\nawait 8\nawait 7\nreset\nshow\n")
      (codes "waits 1\ntripped 7:1 8:0\nwaits 1\nfailed 8 broken 7\nbroken\nreset\nbarrier parties 2 waiting 0 generation 2 broken no\n")

-- the text is no trace's, by this line and this code
abbrev pub IsRefused : List ℕ → ℕ → Code → Type 0
IsRefused text line code = asked_of text ≡ Err (record { line = line; code = code })

-- Numbers of tokens and tiers at their limit and one above it; first words; and what counts at the limits of commands
-- and tokens, by how many are above a line.
pub record RefusedTracesAreWorkedOut : Type 0 where
  pub begin_most : Prints (codes "tree 1\nbegin 4294967295 arrive\n") (codes "no token\n")
  pub begin_more : IsRefused (codes "tree 1\nbegin 4294967296 arrive\n") 2 BadNumber
  pub do_most : Prints (codes "tree 1\ndo 4294967295 poll\n") (codes "no token\n")
  pub do_more : IsRefused (codes "tree 1\ndo 4294967296 poll\n") 2 BadNumber
  pub go_most : Prints (codes "tree 1\ngo 4294967295\n") (codes "no token\n")
  pub go_more : IsRefused (codes "tree 1\ngo 4294967296\n") 2 BadNumber
  pub tier_most : Prints (codes "tree 1\ntoken\ndo 0 join 4294967295 1\n") (codes "token 0\nno tier\n")
  pub tier_more : IsRefused (codes "tree 1\ntoken\ndo 0 join 4294967296 1\n") 3 BadNumber
  pub members_most : Prints (codes "tree 1\ntoken\ndo 0 join 0 65535\n") (codes "token 0\ndone 0\n")
  pub members_more : IsRefused (codes "tree 1\ntoken\ndo 0 join 0 65536\n") 3 BadNumber
  pub members_none : IsRefused (codes "tree 1\ntoken\ndo 0 join 0 0\n") 3 BadNumber
  pub slash_head : IsRefused (codes "/ c\nphaser 1\n") 1 BadHeader
  pub slash_line : IsRefused (codes "phaser 1\n/ c\n") 2 UnknownLine
  pub colon_is_no_number : IsRefused (codes "phaser 1 :5\n") 1 BadLine
  pub minus_is_number : IsRefused (codes "phaser 1 -5\n") 1 BadNumber
  pub last_command : commands_from command_of brings_none 5 4095 0 (codes "show" ∷ []) ≡ Ok (phaser.Show ∷ [])
  pub one_command_more : commands_from command_of brings_none 5 4096 0 (codes "show" ∷ []) ≡ Err (record { line = 5; code = TooMany })
  pub unknown_comes_first : commands_from command_of brings_none 5 4096 0 (codes "walk" ∷ [])
      ≡ Err (record { line = 5; code = UnknownLine })
  pub number_comes_first : commands_from command_of brings_none 5 4096 0 (codes "bulk x" ∷ []) ≡ Err (record { line = 5; code = BadNumber })
  pub barrier_comes_first : commands_from barrier_command_of brings_none 5 4096 0 (codes "show 1" ∷ [])
      ≡ Err (record { line = 5; code = BadLine })
  pub last_token : commands_from tree_command_of brings_token 5 255 255 (codes "token" ∷ []) ≡ Ok (tree.Token ∷ [])
  pub one_token_more : commands_from tree_command_of brings_token 5 256 256 (codes "token" ∷ []) ≡ Err (record { line = 5; code = TooMany })
  pub other_command : commands_from tree_command_of brings_token 5 256 256 (codes "go 7" ∷ []) ≡ Ok (tree.Go 7 ∷ [])
  pub words_come_first : commands_from tree_command_of brings_token 5 256 256 (codes "token 1" ∷ [])
      ≡ Err (record { line = 5; code = BadLine })
