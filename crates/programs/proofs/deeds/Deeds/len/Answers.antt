use Rattle.std.proofs.Common.{arith, sym}
use Rattle.programs.proofs.Listed.{counts}
use Rattle.programs.proofs.deeds.Deeds.len.Goals as goal

pub returns : goal.returns
returns g c =
    let k = counts c.self.inside c.args.self.now c.self.invariant (sym c.self.view_is) in
    omega (arith, k.count, c.len.ensures)
