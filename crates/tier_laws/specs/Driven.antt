-- A whole run of steps, as `Core::drive` takes it, beside one flat phaser (own).
use Rattle.std.specs.Prelude.{◌≡◌, ℕ, zero, suc, ◌≤◌, true, List, [], ◌∷◌, ◌++◌, length, map}
use Rattle.advance_rule.specs.declared.EndPlan.{EndPlan}
use Rattle.flat_phaser.specs.Flat.{Flat, empty_in}
use Rattle.flat_phaser.specs.Step.{flat_run, IsFlatRun}
use Rattle.flat_phaser.specs.Alike.{IsSound}
use Rattle.tier_shape.specs.Parents.{IsShape}
use Rattle.tier_steps.specs.Image.{LooksAlike}
use Rattle.tier_core.specs.declared.call.Call.{Call}
use Rattle.tier_core.specs.declared.call.Step.{Step}
use Rattle.tier_core.specs.declared.call.Step.TheVariants.{Begin}
use Rattle.tier_core.specs.Machine.{State, IsCore, opened, with_token}
use Rattle.tier_core.specs.Run.{may_begin, begun, after, answer_to, answers, run, labels, AreSteps, IsFlat}
use Rattle.tier_laws.specs.Frame.{flat_of}
use Rattle.tier_laws.specs.Moments.{Takes, moments, AreOfCall}
use Rattle.tier_laws.specs.Reports.{LatestTells}

pub record IsDriven (s : State) (steps : List Step) (f : Flat) : Type 0 where
  -- the labels are a run of the flat phaser, and what it leaves looks like the tree
  pub flat : IsFlat s steps f
  -- each step is answered at the point that the run has reached
  pub answered : (front : List Step) (x : Step) (back : List Step) → steps ≡ front ++ x ∷ back
      → answers steps s ≡ answers front s ++ answer_to (run front s) x ∷ answers back (after (run front s) x)
  -- and each answer of each call says what the table says of the flat phasers that the labels have reached
  pub reported : (front : List Step) (token : ℕ) (c : Call) (during back : List Step) → steps ≡ front ++ Begin token c ∷ (during ++ back)
      → may_begin (run front s) token c ≡ true → AreOfCall token (map (λ x. Takes x) during)
      → LatestTells token c (moments token (map (λ x. Takes x) during) (begun (run front s) token c) (flat_run (labels front s) f) [])

-- The answers of a run are those of the flat phaser: whatever the steps of whatever tokens, and whichever flat phaser looks like the tree
-- before them.
abbrev pub RunsAnswerAsTheFlatPhaser : Type 0
RunsAnswerAsTheFlatPhaser =
    (s : State) (steps : List Step) (f : Flat) → IsCore s → AreSteps steps → LooksAlike f (flat_of s) → IsDriven s steps f

-- this many tokens are added
abbrev pub with_tokens : ℕ → State → State
with_tokens zero s = s
with_tokens (suc many) s = with_tokens many (with_token s)

-- A run on a new tree is a run of the flat phaser that begins without members: there an advance is due only if everyone
-- who is registered has arrived.
abbrev pub NewTreesAdvanceWhenAllArrived : Type 0
NewTreesAdvanceWhenAllArrived =
    (parents : List ℕ) (phase : ℕ) (plan : EndPlan) (many : ℕ) (steps : List Step) → IsShape parents → length parents ≤ 65535
    → phase ≤ 2147483647
    → AreSteps steps
    → IsFlatRun (labels steps (with_tokens many (opened parents phase plan))) (empty_in phase)
    × IsSound (flat_run (labels steps (with_tokens many (opened parents phase plan))) (empty_in phase))
