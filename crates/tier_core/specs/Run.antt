-- Whole runs of the machine, and the flat run of each (not part of Java's API).
pub use Rattle.tier_core.specs.declared.call.Step.{Step}
pub use Rattle.tier_core.specs.declared.call.Step.TheVariants.{Begin, Go, Finish}
pub use Rattle.tier_core.specs.declared.call.Answer.{Answer}
use Rattle.tier_core.specs.declared.call.Answer.TheVariants as answer
use Rattle.tier_core.specs.declared.call.Call.TheVariants as call
use Rattle.std.specs.Prelude.{ℕ, ◌<◌, ◌≤◌, Bool, true, ◌==◌, nat_lt, ◌&&◌, if◌then◌else◌, Option, None, Some, List, [], ◌∷◌, ◌++◌, length, slice_set}
use Rattle.advance_rule.specs.Plan.{end_ends}
use Rattle.flat_phaser.specs.Flat.{Flat}
use Rattle.flat_phaser.specs.declared.FlatStep.{FlatStep}
use Rattle.flat_phaser.specs.Step.{flat_run, IsFlatRun}
use Rattle.tier_steps.specs.declared.view.View.{View}
use Rattle.tier_steps.specs.Tally.{word_at}
use Rattle.tier_steps.specs.Image.{image, label, LooksAlike}
use Rattle.tier_core.specs.Turn.{Call, Begun, Turn, finish_turn}
pub use Rattle.tier_core.specs.Machine.{is_idle}
use Rattle.tier_core.specs.Machine.{State, IsCore, view_at, call_at, is_active, is_due, turn_at, played}

-- a join needs a tier that exists and a token without members; an arrival, a departure and a poll need a member
abbrev pub may_call : ℕ → Call → View → Bool
may_call tiers (call.Join tier size) v = nat_lt tier tiers && (v.size == 0)
may_call tiers call.Arrive v = nat_lt 0 v.size
may_call tiers call.Leave v = nat_lt 0 v.size
may_call tiers call.Poll v = nat_lt 0 v.size
may_call tiers call.Force v = true

-- a token that exists may begin a call if it is in none, take a step if its call has one, and advance if it must
abbrev pub may_begin : State → ℕ → Call → Bool
may_begin s token c =
    nat_lt token (length s.views) && (is_idle (call_at s.calls token) && may_call (length s.parents) c (view_at s.views token))

abbrev pub may_go : State → ℕ → Bool
may_go s token = nat_lt token (length s.views) && is_active (call_at s.calls token)

abbrev pub may_finish : State → ℕ → Bool
may_finish s token = nat_lt token (length s.views) && is_due (call_at s.calls token)

abbrev pub begun : State → ℕ → Call → State
begun s token c = record s { calls = slice_set s.calls token (Begun c) }

-- the turn of an advance, which ends the tree if `ends` is true
abbrev pub finish_at : State → ℕ → Bool → Turn
finish_at s token ends = finish_turn ends (word_at s.words 0) (view_at s.views token)

-- what the plan says of the root as it is
abbrev pub plan_ends : State → Bool
plan_ends s = end_ends s.plan (word_at s.words 0).phase ((word_at s.words 0).parties == 0)

-- the answer of a step, and the state after it
abbrev pub answer_to : State → Step → Answer
answer_to s (Begin token c) = if may_begin s token c then answer.Begun else answer.NotNow
answer_to s (Go token) = if may_go s token then answer.Played (turn_at s token).answer else answer.NotNow
answer_to s (Finish token) = if may_finish s token then answer.Played (finish_at s token (plan_ends s)).answer else answer.NotNow

abbrev pub after : State → Step → State
after s (Begin token c) = if may_begin s token c then begun s token c else s
after s (Go token) = if may_go s token then played s token (turn_at s token) else s
after s (Finish token) = if may_finish s token then played s token (finish_at s token (plan_ends s)) else s

-- the answers of a run, and the state after it
abbrev pub answers : List Step → State → List Answer
answers [] s = []
answers (x ∷ xs) s = answer_to s x ∷ answers xs (after s x)

abbrev pub run : List Step → State → State
run [] s = s
run (x ∷ xs) s = run xs (after s x)

-- the flat step of a step of a run, by the token's number; a step that does nothing has none
abbrev pub step_label : State → Step → Option FlatStep
step_label s (Begin token c) = None
step_label s (Go token) = if may_go s token then label token (turn_at s token).kind else None
step_label s (Finish token) = if may_finish s token then label token (finish_at s token (plan_ends s)).kind else None

abbrev pub listed : Option FlatStep → List FlatStep
listed None = []
listed (Some step) = step ∷ []

-- the flat steps of a run
abbrev pub labels : List Step → State → List FlatStep
labels [] s = []
labels (x ∷ xs) s = listed (step_label s x) ++ labels xs (after s x)

-- the caller's condition: a join is of 1 to 65535 members
abbrev pub IsCall : Call → Type 0
IsCall (call.Join tier size) = (0 < size) × (size ≤ 65535)
IsCall _ = Unit {0}

abbrev pub IsStepOfCalls : Step → Type 0
IsStepOfCalls (Begin token c) = IsCall c
IsStepOfCalls (Go token) = Unit {0}
IsStepOfCalls (Finish token) = Unit {0}

-- the caller's condition for each step of a run
abbrev pub AreSteps : List Step → Type 0
AreSteps [] = Unit {0}
AreSteps (x ∷ xs) = IsStepOfCalls x × AreSteps xs

-- what a run means for a flat phaser that looks like the tree before it
pub record IsFlat (s : State) (steps : List Step) (f : Flat) : Type 0 where
  -- the labels of its steps are a flat run, after which the flat phaser looks like the tree after the run
  pub allowed : IsFlatRun (labels steps s) f
  pub alike : LooksAlike (flat_run (labels steps s) f) (image (run steps s).words (run steps s).views)
  -- the tally holds in the state after the run
  pub core : IsCore (run steps s)

-- The tree is flat: on every tree, any steps of any tokens are a run of one flat phaser over all members of all tokens. A member counts
-- from the step that admits it.
abbrev pub TheTreeIsFlat : Type 0
TheTreeIsFlat =
    (s : State) (steps : List Step) (f : Flat)
    → IsCore s → AreSteps steps → LooksAlike f (image s.words s.views) → IsFlat s steps f
