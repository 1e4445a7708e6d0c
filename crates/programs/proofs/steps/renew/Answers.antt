use Rattle.std.proofs.Common.{◌∙◌, sym, ap}
use Rattle.superstep_memory.specs.PathOrder.{in_path_order}
use Rattle.superstep_memory.proofs.Merged.{rising_stays}
use Rattle.programs.proofs.InPlace.{all_stay}
use Rattle.programs.proofs.steps.renew.Goals as goal

pub returns-then-all_stay : goal.returns-then-all_stay
returns-then-all_stay g c =
    let none = c.all_stay.ensures.0 c.if-all_stay.true in
    let same =
    all_stay c.args.tasks.now.items c.args.deeds.now c.requires.same (sym c.requires.left ∙ none.0) (sym c.requires.spawned ∙ none.1) in
    sym (ap (in_path_order g.T.OnPath.path_of) same ∙ rising_stays g.T.OnPath.path_of c.args.tasks.now.items c.requires.rising)
