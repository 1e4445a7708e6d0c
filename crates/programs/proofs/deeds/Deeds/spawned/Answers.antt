use Rattle.std.proofs.Common.{arith, sym}
use Rattle.programs.proofs.Listed.{counts}
use Rattle.programs.proofs.deeds.Deeds.spawned.Goals as goal

pub returns : goal.returns
returns g c =
    let k = counts c.self.inside c.args.self.now c.self.invariant (sym c.self.view_is) in
    omega (arith, k.spawned, c.len.ensures, c.self.inside.spawns.ok.0)
