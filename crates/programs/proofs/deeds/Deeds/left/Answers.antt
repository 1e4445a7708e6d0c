use Rattle.std.proofs.Common.{sym}
use Rattle.programs.proofs.Listed.{counts}
use Rattle.programs.proofs.deeds.Deeds.left.Goals as goal

pub returns : goal.returns
returns g c = (counts c.self.inside c.args.self.now c.self.invariant (sym c.self.view_is)).stopped
