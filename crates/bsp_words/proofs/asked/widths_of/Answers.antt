use Rattle.std.proofs.Common.{◌∙◌, ap, codes, ℕ, List, [], Option}
use Rattle.std.specs.Option.{unwrap_or}
use Rattle.clap.specs.Words.{found_of}
use Rattle.clap.proofs.WalkLemmas.{first_value-rows}
use Rattle.bsp_words.proofs.asked.widths_of.Goals as goal

pub returns : goal.returns
returns c =
    c.or_empty.ensures
    ∙ ap (λ (o : Option (List ℕ)). unwrap_or o []) (c.get_str.ensures ∙ first_value-rows (found_of c.args.matches.now) (codes "width"))
