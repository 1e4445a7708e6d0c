use Rattle.std.proofs.Common.{◌∙◌, ap, map, sym}
use Rattle.std.proofs.lemmas.Result.{IfOk-weaker}
use Rattle.task_lang.specs.Views.{plans}
use Rattle.step_core.specs.Superstep.{live_paths}
use Rattle.step_core.specs.SlotParts.{path_in}
use Rattle.step_core.specs.RoundValue.{RoundValue, state_of}
use Rattle.superstep_memory.specs.Paths.{is_rising}
use Rattle.step_core.proofs.Rounds.{paths_at}
use Rattle.step_core.proofs.Apart.{reached_rises}
use Rattle.step_core.proofs.round.Round.live.Goals as goal

pub returns-clause-live : goal.returns-clause-live
returns-clause-live c =
    IfOk-weaker c.paths_of.result _ _
    (λ paths h. h ∙ (λ i. map path_in ((c.deref-2.ensures.value ∙ (λ j. (c.deref.ensures j).items) ∙ c.in_ok-tasks.ensures) i))
    ∙ paths_at (plans c.self.inside.job.now.bodies) c.self.inside.live
    ∙ ap (λ (r : RoundValue). live_paths (state_of r)) c.self.view_is) c.paths_of.ensures

pub returns-clause-rising : goal.returns-clause-rising
returns-clause-rising c =
    ap (λ (r : RoundValue). is_rising (live_paths (state_of r))) (sym c.self.view_is) ∙ reached_rises _ c.self.invariant.0

pub returns-in_err-tasks-clause-rising : goal.returns-in_err-tasks-clause-rising
returns-in_err-tasks-clause-rising c =
    ap (λ (r : RoundValue). is_rising (live_paths (state_of r))) (sym c.self.view_is) ∙ reached_rises _ c.self.invariant.0
