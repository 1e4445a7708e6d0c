-- A run on a new tree in which each call is made and each answer given, so that no law of this crate is about nothing (own).
use Rattle.std.specs.Prelude.{◌≡◌, ℤ, true, None, List, [], ◌∷◌}
use Rattle.phaser_word.specs.Phase.{shown_of}
use Rattle.tier_shape.specs.Paths.{IsTiers}
use Rattle.tier_core.specs.declared.call.Call.TheVariants.{Join, Arrive, Leave, Poll, Force}
use Rattle.tier_core.specs.declared.call.Cause.TheVariants.{AllArrived}
use Rattle.tier_core.specs.declared.call.Played.TheVariants.{GoesOn, Done, Passed, Waiting, Held, Full, AlreadyArrived, Ended, MustAdvance}
use Rattle.tier_core.specs.declared.call.Answer.TheVariants as answer
use Rattle.tier_core.specs.Machine.{State, IsCore, opened}
use Rattle.tier_core.specs.declared.call.Answer.{Answer}
use Rattle.tier_core.specs.declared.call.Step.{Step}
use Rattle.tier_core.specs.declared.call.Step.TheVariants.{Begin, Go, Finish}
use Rattle.tier_core.specs.Run.{answers, AreSteps}
use Rattle.tier_laws.specs.Driven.{with_tokens}

-- a root with two leaves, in phase 0, and three tokens
abbrev pub two_leaves : State
two_leaves = with_tokens 3 (opened (0 ∷ 0 ∷ 0 ∷ []) 0 (record { when_empty = true; at = None }))

-- Token 0 joins the first leaf, token 1 the second, in which there is no room for 65535 more. Token 0 arrives, has then arrived already,
-- and waits; the first leaf is held while it has arrived. Token 1 arrives last, and advances the root. Token 0 finds the phase passed and
-- then itself awaited, and leaves; token 1 ends the tree by force, and finds it ended.
abbrev pub worked_steps : List Step
worked_steps =
    Begin 0 (Join 1 1) ∷ Go 0 ∷ Go 0 ∷ Go 0 ∷ Go 0 ∷ Begin 1 (Join 2 1) ∷ Go 1 ∷ Go 1 ∷ Go 1 ∷ Go 1
    ∷ Begin 2 (Join 2 65535) ∷ Go 2 ∷ Go 2 ∷ Go 2
    ∷ Begin 0 Arrive ∷ Go 0 ∷ Go 0 ∷ Go 0 ∷ Begin 0 Arrive ∷ Go 0 ∷ Begin 0 Poll ∷ Go 0 ∷ Begin 2 (Join 1 1) ∷ Go 2 ∷ Go 2
    ∷ Begin 1 Arrive ∷ Go 1 ∷ Go 1 ∷ Go 1 ∷ Finish 1
    ∷ Begin 0 Poll ∷ Go 0 ∷ Go 0 ∷ Begin 0 Poll ∷ Go 0 ∷ Begin 0 Leave ∷ Go 0 ∷ Go 0 ∷ Go 0
    ∷ Begin 1 Force ∷ Go 1 ∷ Begin 1 Leave ∷ Go 1 ∷ []

abbrev pub begun : Answer
begun = answer.Begun

abbrev pub goes_on : Answer
goes_on = answer.Played GoesOn

-- the end, as it is shown in phase 1
abbrev pub shown_ended : ℤ
shown_ended = shown_of 1 true

abbrev pub worked_answers : List Answer
worked_answers =
    begun ∷ goes_on ∷ goes_on ∷ goes_on ∷ answer.Played (Done 0) ∷ begun ∷ goes_on ∷ goes_on ∷ goes_on ∷ answer.Played (Done 0)
    ∷ begun ∷ goes_on ∷ answer.Played (Full 1) ∷ answer.NotNow
    ∷ begun ∷ goes_on ∷ goes_on ∷ answer.Played (Done 0) ∷ begun ∷ answer.Played (AlreadyArrived 0) ∷ begun ∷ answer.Played Waiting ∷ begun
    ∷ goes_on ∷ answer.Played (Held 0 AllArrived)
    ∷ begun ∷ goes_on ∷ goes_on ∷ answer.Played (MustAdvance 0 2) ∷ answer.Played (Done 0)
    ∷ begun ∷ goes_on ∷ answer.Played (Passed 1) ∷ begun ∷ answer.Played (Done 1) ∷ begun ∷ goes_on ∷ goes_on ∷ answer.Played (Done 1)
    ∷ begun ∷ answer.Played (Ended shown_ended) ∷ begun ∷ answer.Played (Ended shown_ended) ∷ []

-- The laws' premises hold where this run begins, and, by the law that the tree is flat, at each point that it reaches.
pub record EachAnswerIsGiven : Type 0 where
  pub tiers : IsTiers two_leaves.parents
  pub core : IsCore two_leaves
  pub steps : AreSteps worked_steps
  pub answers : answers worked_steps two_leaves ≡ worked_answers
