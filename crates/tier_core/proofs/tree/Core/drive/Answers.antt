use Rattle.std.proofs.Common.{subst, arith}
use Rattle.tier_core.specs.Machine.{State, IsCore}
use Rattle.tier_core.specs.declared.call.Call.TheVariants.{Join}
use Rattle.tier_core.specs.declared.call.Step.TheVariants.{Begin}
use Rattle.tier_core.proofs.Runs.{the_tree_is_flat}
use Rattle.tier_core.proofs.Driving.{next_reported, next_rest, next_are, next_length, all_reported, all_run}
use Rattle.tier_core.proofs.tree.Core.drive.Goals as goal

pub returns-in_err-reported-clause-flat : goal.returns-in_err-reported-clause-flat
returns-in_err-reported-clause-flat c f alike =
    the_tree_is_flat c.args.self.now c.args.steps.now f (subst (λ (s : State). IsCore s) c.self.view_is c.self.invariant) c.requires alike

pub returns-clause-flat : goal.returns-clause-flat
returns-clause-flat c f alike =
    the_tree_is_flat c.args.self.now c.args.steps.now f (subst (λ (s : State). IsCore s) c.self.view_is c.self.invariant) c.requires alike

pub step-requires : goal.step-requires
step-requires c = (next_are c.args.steps.now c.loop-step.step-index (Begin 0 (Join 0 0)) c.loop-step-test.true c.loop-step.invariant.are).0

pub loop-step-preserved : goal.loop-step-preserved
loop-step-preserved c =
    let xs = c.args.steps.now in
    let i = c.loop-step.step-index in
    let none = Begin 0 (Join 0 0) in
    let on = c.loop-step-test.true in
    let before = c.loop-step.invariant in record {
      reported =
          next_reported c.loop-step.self c.loop-step.reported.items xs i none on before.reported c.step.ensures.answer c.step.ensures.after
          c.push_reserved.ensures.items;
      rest = next_rest c.loop-step.self xs i none on before.rest c.step.ensures.after;
      are = (next_are xs i none on before.are).1;
      capacity =
          (let a = next_length xs i none on in
          let b = before.capacity in
          let l = c.push_reserved.ensures.len in
          let k = c.push_reserved.ensures.capacity in
          omega arith);
    }

pub returns-clause-answers : goal.returns-clause-answers
returns-clause-answers c =
    all_reported c.loop-step.self c.args.steps.now c.loop-step.step-index c.loop-step-test.false c.loop-step.invariant.reported

pub returns-clause-state : goal.returns-clause-state
returns-clause-state c = all_run c.args.steps.now c.loop-step.step-index c.loop-step-test.false c.loop-step.invariant.rest
