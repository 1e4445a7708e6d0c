use Rattle.std.proofs.Common.{◌∙◌, ap, sym}
use Rattle.superstep_memory.specs.Landing.{landed}
use Rattle.superstep_memory.proofs.Landed.{landed_append}
use Rattle.program_stretches.specs.Parts.{puts_in}
use Rattle.program_stretches.proofs.InTurn.{over_front, over_sets}
use Rattle.program_stretches.proofs.landing.land_all.Goals as goal

pub returns-in-Some-clause-place : goal.returns-in-Some-clause-place
returns-in-Some-clause-place g c =
    over_front c.args.arrays.now c.args.puts.now (puts_in c.args.parts.now) c.in-Some.place (sym c.in-Some.is ∙ c.in_ok-place.ensures.place)

pub returns-in-None-clause-place : goal.returns-in-None-clause-place
returns-in-None-clause-place g c =
    over_sets c.args.arrays.now c.args.puts.now (puts_in c.args.parts.now) (sym c.in-None.is ∙ c.in_ok-place.ensures.place) c.requires.sets

pub returns-in-None-clause-lands : goal.returns-in-None-clause-lands
returns-in-None-clause-lands g c = λ e.
    c.land_each.ensures ∙ ap (landed (puts_in c.args.parts.now)) (c.in_ok-place.ensures.lands c.in-None.is)
    ∙ sym (landed_append c.args.puts.now (puts_in c.args.parts.now) c.args.arrays.now)
