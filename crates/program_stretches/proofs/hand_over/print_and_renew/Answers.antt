use Rattle.std.proofs.Common.{◌∙◌, map, ap}
use Rattle.programs.specs.InPlace.{left_in, spawned_in}
use Rattle.program_stretches.specs.Parts.{renewed, deeds_in}
use Rattle.program_stretches.proofs.InTurn.{renewed_again, deeds_stay}
use Rattle.program_stretches.proofs.hand_over.print_and_renew.Goals as goal

pub returns-clause-renewed : goal.returns-clause-renewed
returns-clause-renewed g c = c.renew_all.ensures ∙ ap (map renewed) c.give_all_prints.ensures.rest ∙ renewed_again c.args.parts.now.items

pub renew_all-requires : goal.renew_all-requires
renew_all-requires g c =
    let same = ap deeds_in c.give_all_prints.ensures.rest ∙ deeds_stay c.args.parts.now.items in
    (ap left_in same ∙ c.requires.stay.0, ap spawned_in same ∙ c.requires.stay.1)
