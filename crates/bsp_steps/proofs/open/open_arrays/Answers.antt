use Rattle.std.proofs.Common.{◌≡◌, ◌∙◌, true, false, [], sym}
use Rattle.bsp_steps.proofs.Follow.{small_all}
use Rattle.bsp_steps.proofs.open.open_arrays.Goals as goal

differ : false ≡ true → ⊥
differ e = cc

pub returns-then-not-are_small-clause-refused : goal.returns-then-not-are_small-clause-refused
returns-then-not-are_small-clause-refused c e m =
    differ (sym c.if-not-are_small.true ∙ c.are_small.ensures ∙ small_all [] c.args.given.now m)
