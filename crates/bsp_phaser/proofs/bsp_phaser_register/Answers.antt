use Rattle.std.proofs.Common.{◌≡◌, refl, FitsSigned, w32, w64, to_z, of_z, arith, rules}
use Rattle.std.proofs.lemmas.Int.{ints}
use Rattle.bsp_phaser.proofs.Stepping.{any_plan}
use Rattle.bsp_phaser.proofs.bsp_phaser_register.Goals as goal

pub returns : goal.returns
returns c = λ plan.
    let fits : FitsSigned w32 c.step.result = search rules in
    let status : to_z w32 (of_z w32 c.step.result) ≡ c.step.result = omega (arith, ints, fits) in
    let small : FitsSigned w64 c.args.count = search rules in
    let back : to_z w64 (of_z w64 c.args.count) ≡ c.args.count = omega (arith, ints, small) in
    rw status (any_plan _ plan _ _ _ _ _ refl (rw back at c.step.ensures))
