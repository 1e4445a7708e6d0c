use Rattle.std.proofs.Common.{◌≡◌, ◌∙◌, true, Some, None, sym}
use Rattle.std.specs.List.{list_all}
use Rattle.superstep_memory.specs.Cells.{is_cell}
use Rattle.bsp_steps.specs.Given.{puts_given}
use Rattle.bsp_steps.proofs.Left.{refused_so, settles_so, settles_joined}
use Rattle.bsp_steps.proofs.given_deeds.settle.Goals as goal

pub returns-in-Some : goal.returns-in-Some
returns-in-Some c =
    let all : list_all (is_cell c.args.arrays.now) (puts_given c.args.deed.now.puts.now) ≡ true =
    sym c.in_ok-put_each.ensures.all ∙ c.if-not-branch.false in
    settles_so c.args.arrays.now c.args.deed.now c.args.task.now _ _ c.args.ended c.in-Some.code
    (refused_so c.args.arrays.now c.args.deed.now c.args.task.now (Some c.in-Some.code) all (sym c.refuse.ensures ∙ c.in-Some.is))

pub returns : goal.returns
returns c =
    let all : list_all (is_cell c.args.arrays.now) (puts_given c.args.deed.now.puts.now) ≡ true =
    sym c.in_ok-put_each.ensures.all ∙ c.if-not-branch.false in
    settles_joined c.args.arrays.now c.args.deed.now c.args.task.now c.spawn.new.self _ _ c.args.ended
    (refused_so c.args.arrays.now c.args.deed.now c.args.task.now None all (sym c.refuse.ensures ∙ c.in_default.is))
    (c.in_ok-put_each.ensures.put c.if-not-branch.false)
    c.requires.none_printed c.in_ok-print_all.ensures
    c.requires.none_spawned c.in_ok-spawn.ensures.spawned c.in_ok-spawn.ensures.task
