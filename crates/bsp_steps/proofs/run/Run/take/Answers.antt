use Rattle.std.proofs.Common.{ℤ, w32, sym, subst}
use Rattle.std.proofs.lemmas.Int.{to_z-of_z}
use Rattle.bsp_steps.specs.Runs.{Takes, after_prints}
use Rattle.bsp_steps.proofs.Took.{joined_same, took}
use Rattle.bsp_steps.proofs.run.Run.take.Goals as goal

pub returns : goal.returns
returns c =
    let joined = c.in-Ok.ensures.joined in
    let same =
    joined_same c.args.self.now c.self.inside.steps c.join_prints.new.steps c.self.inside.printed.items c.join_prints.new.printed.items
    c.self.view_is joined.0 joined.1 in
    subst (λ (n : ℤ). Takes c.args.self.now (after_prints c.join_prints.new.printed.items c.take_given.new.steps) c.args.deeds.now n)
    (sym (to_z-of_z w32 c.reported_as.result c.reported_as.ensures.fits))
    (took c.args.self.now c.join_prints.new.steps c.take_given.new.steps c.join_prints.new.printed.items c.args.deeds.now c.reported_as.result c.take_given.result same
    c.take_given.ensures.stepped c.take_given.ensures.memory c.take_given.ensures.status c.reported_as.ensures.status)
