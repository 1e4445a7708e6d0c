-- The commands of a tree's trace that go on with a call to its answer (own).
use Rattle.std.specs.Prelude.{◌≡◌, ℕ, ◌+◌, ◌<◌, true, false, length}
use Rattle.tier_shape.specs.Paths.{IsTiers}
use Rattle.tier_core.specs.Machine.{State, IsCore, call_at}
use Rattle.tier_core.specs.Run.{is_idle, may_begin, begun, IsCall}
use Rattle.trace_text.specs.declared.tree_words.TokenCall.{TokenCall}
use Rattle.trace_text.specs.declared.tree_words.TreeCommand.TheVariants as command
use Rattle.trace_text.specs.TreeAnswers.{call_of, has_tier, rest_text, rest_after, tree_text, tree_after}

-- With 16 steps `run` goes on to its call's answer: with any more it prints the same, and leaves the same tree.
abbrev pub RunsReachTheirAnswer : Type 0
RunsReachTheirAnswer =
    (s : State) (token more : ℕ) → IsTiers s.parents → IsCore s → token < length s.views → is_idle (call_at s.calls token) ≡ false
    → (tree_text (command.Run token) s ≡ rest_text (16 + more) token s)
    × (tree_after (command.Run token) s ≡ rest_after (16 + more) token s)

-- So does `do`, from the begin of its call.
abbrev pub CallsDoneReachTheirAnswer : Type 0
CallsDoneReachTheirAnswer =
    (s : State) (token more : ℕ) (c : TokenCall) → IsTiers s.parents → IsCore s → IsCall (call_of c) → has_tier s c ≡ true
    → may_begin s token (call_of c) ≡ true
    → (tree_text (command.Do token c) s ≡ rest_text (16 + more) token (begun s token (call_of c)))
    × (tree_after (command.Do token c) s ≡ rest_after (16 + more) token (begun s token (call_of c)))
