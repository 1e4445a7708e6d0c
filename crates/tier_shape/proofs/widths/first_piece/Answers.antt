use Rattle.std.proofs.Common.{◌∙◌, sym}
use Rattle.tier_shape.proofs.Joined.{cut_off, no_cut}
use Rattle.tier_shape.proofs.widths.first_piece.Goals as goal

pub returns-in-Some-clause-more : goal.returns-in-Some-clause-more
returns-in-Some-clause-more c = cut_off c.args.bytes.now c.in-Some.at (sym c.place_of_x.ensures ∙ c.in-Some.is)

pub returns-in-None-clause-last : goal.returns-in-None-clause-last
returns-in-None-clause-last c = no_cut c.args.bytes.now (sym c.place_of_x.ensures ∙ c.in-None.is)
