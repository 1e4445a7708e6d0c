use Rattle.std.proofs.Common.{◌≡◌, FitsSigned, w32, to_z, of_z, arith, rules}
use Rattle.std.proofs.lemmas.Int.{ints}
use Rattle.bsp_phaser.proofs.Stepping.{awaited}
use Rattle.bsp_phaser.proofs.bsp_phaser_await.Goals as goal

pub returns : goal.returns
returns c = λ plan.
    let fits : FitsSigned w32 c.step.result = search rules in
    let status : to_z w32 (of_z w32 c.step.result) ≡ c.step.result = omega (arith, ints, fits) in
    let small : FitsSigned w32 c.args.phase = search rules in
    let back : to_z w32 (of_z w32 c.args.phase) ≡ c.args.phase = omega (arith, ints, small) in
    rw status (awaited _ plan _ _ _ _ _ (rw back at c.step.ensures))
