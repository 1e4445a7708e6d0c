use Rattle.std.proofs.Common.{ℕ, ◌-◌, ap, sym, ◌∙◌, arith}
use Rattle.std.specs.Prelude.{slice_get}
use Rattle.task_lang.specs.Views.{setting}
use Rattle.task_lang.specs.declared.scene.Move.{Move}
use Rattle.fault_reasons.specs.Walk.{after_move, spent, walked}
use Rattle.fault_reasons.proofs.Walks.{out, step}
use Rattle.fault_reasons.proofs.walk.walk.Goals as goal

pub loop-left-preserved : goal.loop-left-preserved
loop-left-preserved c =
    let s = setting c.args.scene.now in
    let code = c.args.code.now in
    let on = step s code c.loop-left.left c.skip-here.result c.loop-left.place c.in_ok-next.field-0 c.loop-left.doing c.play_at.new.doing
    c.skip-here.ensures c.in_ok-next.ensures (omega (arith, c.loop-left-test.true)) in
    sym (on ∙ ap (λ (m : Move). after_move c.skip-here.result (m, c.play_at.new.doing) (walked s code (c.loop-left.left - 1))) c.in-To.is)
    ∙ c.loop-left.invariant

pub returns-in-Syncs : goal.returns-in-Syncs
returns-in-Syncs c =
    let s = setting c.args.scene.now in
    let code = c.args.code.now in
    let on = step s code c.loop-left.left c.skip-here.result c.loop-left.place c.in_ok-next.field-0 c.loop-left.doing c.play_at.new.doing
    c.skip-here.ensures c.in_ok-next.ensures (omega (arith, c.loop-left-test.true)) in
    sym
    (on
    ∙ ap (λ (m : Move). after_move c.skip-here.result (m, c.play_at.new.doing) (walked s code (c.loop-left.left - 1))) c.in-Syncs.is)
    ∙ c.loop-left.invariant

pub returns-in-Stops : goal.returns-in-Stops
returns-in-Stops c =
    let s = setting c.args.scene.now in
    let code = c.args.code.now in
    let on = step s code c.loop-left.left c.skip-here.result c.loop-left.place c.in_ok-next.field-0 c.loop-left.doing c.play_at.new.doing
    c.skip-here.ensures c.in_ok-next.ensures (omega (arith, c.loop-left-test.true)) in
    sym
    (on
    ∙ ap (λ (m : Move). after_move c.skip-here.result (m, c.play_at.new.doing) (walked s code (c.loop-left.left - 1))) c.in-Stops.is)
    ∙ c.loop-left.invariant

pub returns-in-Fails : goal.returns-in-Fails
returns-in-Fails c =
    let s = setting c.args.scene.now in
    let code = c.args.code.now in
    let on = step s code c.loop-left.left c.skip-here.result c.loop-left.place c.in_ok-next.field-0 c.loop-left.doing c.play_at.new.doing
    c.skip-here.ensures c.in_ok-next.ensures (omega (arith, c.loop-left-test.true)) in
    sym
    (on
    ∙ ap (λ (m : Move). after_move c.skip-here.result (m, c.play_at.new.doing) (walked s code (c.loop-left.left - 1))) c.in-Fails.is)
    ∙ c.loop-left.invariant

pub returns : goal.returns
returns c =
    let s = setting c.args.scene.now in
    let code = c.args.code.now in
    c.spent.ensures
    ∙ ap (λ (p : ℕ). spent (slice_get code p) p c.loop-left.doing) c.skip.ensures
    ∙ sym (out s code c.loop-left.left c.loop-left.place c.loop-left.doing (omega (arith, c.loop-left-test.false)))
    ∙ c.loop-left.invariant
