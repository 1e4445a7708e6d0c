use Rattle.std.proofs.Common.{◌≡◌, FitsSigned, w64, to_z, of_z, arith, rules}
use Rattle.std.proofs.lemmas.Int.{ints}
use Rattle.phaser_one.proofs.phaser.PhaserOne.call.Goals as goal

pub returns-in-Bulk-clause-flat : goal.returns-in-Bulk-clause-flat
returns-in-Bulk-clause-flat g c =
    let fits : FitsSigned w64 c.in-Bulk.count = search rules in
    let back : to_z w64 (of_z w64 c.in-Bulk.count) ≡ c.in-Bulk.count = omega (arith, ints, fits) in
    rw (c.in-Bulk.is, c.reply-in-Bulk.ensures) (rw back at c.bulk_register.ensures.flat)
