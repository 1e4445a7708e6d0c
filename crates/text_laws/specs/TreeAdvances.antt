-- The place of an advance's line in a trace of a tree (own).
use Rattle.std.specs.Prelude.{◌≡◌, ◌≢◌, ℕ, zero, suc, ◌&&◌, if◌then◌else◌, List, ◌++◌, Option, None, Some}
use Rattle.phaser_word.specs.Fields.{Fields}
use Rattle.tier_shape.specs.Paths.{IsTiers}
use Rattle.tier_steps.specs.Tally.{word_at}
use Rattle.tier_core.specs.declared.call.Answer.{Answer}
use Rattle.tier_core.specs.declared.call.Answer.TheVariants as answer
use Rattle.tier_core.specs.declared.call.Played.TheVariants as played
use Rattle.tier_core.specs.declared.call.Step.TheVariants as step
use Rattle.tier_core.specs.Machine.{State, IsCore}
use Rattle.tier_core.specs.Run.{may_begin, begun, after, answer_to}
use Rattle.trace_text.specs.declared.tree_words.TreeCommand.{TreeCommand}
use Rattle.trace_text.specs.declared.tree_words.TreeCommand.TheVariants as command
use Rattle.trace_text.specs.Lines.{advance_line}
use Rattle.trace_text.specs.TreeWords.{InRange}
use Rattle.trace_text.specs.TreeAnswers.{call_of, is_token, has_tier, going_on, is_underway, answer_text, tree_text, tree_after}

abbrev pub root_of : State → Fields
root_of s = word_at s.words 0

-- the answer at which a token stops that goes on with its call alone, after at most this many steps
unfoldable pub last_answer : ℕ → ℕ → State → Answer
last_answer zero token s = answer.NotNow
last_answer (suc steps) token s =
    if is_underway (answer_to s (going_on s token)) then last_answer steps token (after s (going_on s token))
    else answer_to s (going_on s token)

-- the answer to a command's last step, if there are such a token and such a tier
abbrev pub answer_of : TreeCommand → State → Option Answer
answer_of command.Token s = None
answer_of (command.Begin token c) s = if is_token s token && has_tier s c then Some (answer_to s (step.Begin token (call_of c))) else None
answer_of (command.Go token) s = if is_token s token then Some (answer_to s (step.Go token)) else None
answer_of (command.Finish token) s = if is_token s token then Some (answer_to s (step.Finish token)) else None
answer_of (command.Run token) s = if is_token s token then Some (last_answer 16 token s) else None
answer_of (command.Do token c) s =
    if is_token s token && has_tier s c
    then Some (if may_begin s token (call_of c) then last_answer 16 token (begun s token (call_of c)) else answer.NotNow)
    else None
answer_of (command.Show tier) s = None

-- A text that has the line of an advance in front of the answer's exactly if the root has moved on. If it has, the
-- answer is `done`. The advance's line has the phase that the root was in, and the parties that the advance left it.
pub record IsInOrder (old new : State) (text : List ℕ) (a : Answer) : Type 0 where
  pub advances : (root_of new).phase ≢ (root_of old).phase → text ≡ advance_line (root_of old).phase (root_of new).parties ++ answer_text a
  pub done : (root_of new).phase ≢ (root_of old).phase → a ≡ answer.Played (played.Done (root_of old).phase)
  pub stays : (root_of new).phase ≡ (root_of old).phase → text ≡ answer_text a

-- what a command prints and leaves, by its answer; without one it leaves the root in its phase
abbrev pub ComesInOrder : State → TreeCommand → Option Answer → Type 0
ComesInOrder s c None = (root_of (tree_after c s)).phase ≡ (root_of s).phase
ComesInOrder s c (Some a) = IsInOrder s (tree_after c s) (tree_text c s) a

-- A command of a tree that moves the root's phase prints first the phase that ended, with the root's parties, and then its answer; a
-- command that doesn't prints its answer alone.
abbrev pub AdvancesOfTreesComeFirst : Type 0
AdvancesOfTreesComeFirst = (s : State) (c : TreeCommand) → IsTiers s.parents → IsCore s → InRange c → ComesInOrder s c (answer_of c s)
