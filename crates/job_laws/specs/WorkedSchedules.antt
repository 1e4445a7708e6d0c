-- Three schedules worked out, so that no law of this crate is about nothing (own).
use Rattle.std.specs.Prelude.{◌≡◌, pos, negsuc, List, [], ◌∷◌}
use Rattle.phase_records.specs.Status.{Ended, Fault}
use Rattle.task_code.specs.declared.code.Action.TheVariants.{Print, Spawn, Sync}
use Rattle.task_code.specs.declared.code.Expr.TheVariants.{One, Two}
use Rattle.task_code.specs.declared.code.Operand.TheVariants.{Plain}
use Rattle.task_code.specs.declared.code.Operator.TheVariants.{Divide}
use Rattle.task_code.specs.declared.code.Index.TheVariants.{Number}
use Rattle.task_code.specs.Tree.{Done, Do}
use Rattle.tier_core.specs.declared.call.Cause.TheVariants.{AllArrived}
use Rattle.tier_core.specs.declared.call.Played.TheVariants.{GoesOn, MustAdvance, Held, Done as IsDone, Ended as IsEnded}
use Rattle.step_core.specs.Program.{Program}
use Rattle.job_schedule.specs.declared.step.JobStep.{JobStep}
use Rattle.job_schedule.specs.declared.step.JobStep.TheVariants.{Take, Deliver, Tree, Advance, Close}
use Rattle.job_schedule.specs.AnswerValue.{AnswerValue, Took, Delivered, Stepped, Advanced, Closed, Finished, NotNow}
use Rattle.job_schedule.specs.World.{initial_world, answers}
use Rattle.job_laws.specs.Laws.{IsDriven}

-- one task that stops at once
abbrev pub alone : Program
alone = record { arrays = []; plans = record { ahead = Done; locals = 0 } ∷ []; starts = record { body = 0; arg = pos 0 } ∷ [] }

-- One worker on one tier: the task is taken, delivered, polls, and leaves; as the last it advances the root, and its worker closes the
-- round.
abbrev pub one_worker : List JobStep
one_worker = Take 0 ∷ Deliver 0 ∷ Tree 0 ∷ Tree 0 ∷ Tree 0 ∷ Advance 0 ∷ Close 0 ∷ Take 0 ∷ []

abbrev pub answers_one : List AnswerValue
answers_one =
    Took (0 ∷ []) ∷ Delivered ∷ Stepped (IsDone 0) ∷ Stepped GoesOn ∷ Stepped (MustAdvance 0 0) ∷ Advanced (IsDone 0)
    ∷ Finished
    (record { prints = []; records = record { phase = 0; parties = 1; left = 1; spawned = 0 } ∷ []; arrays = []; status = Ended 1 })
    ∷ NotNow ∷ []

-- two tasks that take another superstep
abbrev pub pair : Program
pair = record {
  arrays = [];
  plans = record { ahead = Do Sync Done; locals = 0 } ∷ [];
  starts = record { body = 0; arg = pos 0 } ∷ record { body = 0; arg = pos 0 } ∷ [];
}

-- Two workers on two leaves: the first task arrives at its leaf, and climbs to the root; nobody closes before the other has, who advances
-- the root. Only the worker that advanced closes, and then the tasks are ready again.
abbrev pub two_workers : List JobStep
two_workers =
    Take 0 ∷ Take 1 ∷ Deliver 0 ∷ Deliver 1 ∷ Tree 0 ∷ Tree 0 ∷ Tree 0 ∷ Tree 0 ∷ Close 0 ∷ Take 0
    ∷ Tree 1 ∷ Tree 1 ∷ Tree 1 ∷ Tree 1 ∷ Close 1 ∷ Advance 1 ∷ Close 0 ∷ Close 1 ∷ Take 0 ∷ []

abbrev pub answers_two : List AnswerValue
answers_two =
    Took (0 ∷ []) ∷ Took (1 ∷ []) ∷ Delivered ∷ Delivered ∷ Stepped (IsDone 0) ∷ Stepped GoesOn ∷ Stepped GoesOn ∷ Stepped (IsDone 0)
    ∷ NotNow ∷ NotNow
    ∷ Stepped (IsDone 0) ∷ Stepped GoesOn ∷ Stepped GoesOn ∷ Stepped (MustAdvance 0 2) ∷ NotNow ∷ Advanced (IsDone 0) ∷ NotNow ∷ Closed
    ∷ Took (0 ∷ []) ∷ []

-- a task that spawns one and goes on, one that goes on, and one that divides by zero
abbrev pub uneven : Program
uneven = record {
  arrays = [];
  plans =
      record { ahead = Do (Spawn 1 (One (Plain (Number (pos 0))))) (Do Sync Done); locals = 0 }
      ∷ record { ahead = Do Sync Done; locals = 0 }
      ∷ record { ahead = Do (Print (Two (Plain (Number (pos 1))) Divide (Plain (Number (pos 0))))) Done; locals = 0 }
      ∷ [];
  starts = record { body = 0; arg = pos 0 } ∷ record { body = 1; arg = pos 0 } ∷ record { body = 2; arg = pos 0 } ∷ [];
}

-- Three workers on a root with two children; the first has a child. So the leaves are 2 and 3. The start tasks are at
-- 2, at 3, and at 2 again. The second arrives at 3, and climbs over 1 to the root. So the spawned task of the first is
-- held at 3, its preferred leaf, and joins at 2. The third task faults, leaves as the last and advances the root; its
-- worker closes the round, and ends the tree by force, which goes on.
abbrev pub three_workers : List JobStep
three_workers =
    Take 0 ∷ Take 1 ∷ Take 2 ∷ Deliver 0 ∷ Deliver 1 ∷ Deliver 2 ∷ Tree 1 ∷ Tree 1 ∷ Tree 1 ∷ Tree 1 ∷ Tree 1 ∷ Tree 1
    ∷ Tree 0 ∷ Tree 0 ∷ Tree 0 ∷ Tree 0 ∷ Tree 0 ∷ Tree 0 ∷ Tree 0 ∷ Tree 0 ∷ Tree 0
    ∷ Tree 2 ∷ Tree 2 ∷ Tree 2 ∷ Tree 2 ∷ Advance 2 ∷ Close 2 ∷ Tree 1 ∷ Tree 2 ∷ Tree 2 ∷ []

abbrev pub answers_three : List AnswerValue
answers_three =
    Took (0 ∷ []) ∷ Took (1 ∷ []) ∷ Took (2 ∷ []) ∷ Delivered ∷ Delivered ∷ Delivered
    ∷ Stepped (IsDone 0) ∷ Stepped GoesOn ∷ Stepped GoesOn ∷ Stepped GoesOn ∷ Stepped (IsDone 0) ∷ NotNow
    ∷ Stepped (IsDone 0) ∷ Stepped GoesOn ∷ Stepped (Held 0 AllArrived) ∷ Stepped GoesOn ∷ Stepped (IsDone 0)
    ∷ Stepped GoesOn ∷ Stepped (IsDone 0) ∷ Stepped GoesOn ∷ Stepped (IsDone 0)
    ∷ Stepped (IsDone 0) ∷ Stepped GoesOn ∷ Stepped GoesOn ∷ Stepped (MustAdvance 0 2) ∷ Advanced (IsDone 0)
    ∷ Finished (record { prints = []; records = []; arrays = []; status = Fault 2 0 (2 ∷ []) })
    ∷ NotNow ∷ Stepped (IsEnded (negsuc 2147483646)) ∷ NotNow ∷ []

pub record SchedulesAreWorkedOut : Type 0 where
  pub alone_is_driven : IsDriven alone (0 ∷ []) 10
  pub one : answers (initial_world alone (0 ∷ []) 10) one_worker ≡ answers_one
  pub pair_is_driven : IsDriven pair (0 ∷ 0 ∷ 0 ∷ []) 10
  pub two : answers (initial_world pair (0 ∷ 0 ∷ 0 ∷ []) 10) two_workers ≡ answers_two
  pub uneven_is_driven : IsDriven uneven (0 ∷ 0 ∷ 0 ∷ 1 ∷ []) 10
  pub three : answers (initial_world uneven (0 ∷ 0 ∷ 0 ∷ 1 ∷ []) 10) three_workers ≡ answers_three
