use Rattle.std.proofs.Common.{◌∙◌, ap, codes}
use Rattle.clap.specs.Words.{found_of}
use Rattle.clap.proofs.WalkLemmas.{first_value-rows}
use Rattle.bsp_words.specs.CommandLine.{is_set}
use Rattle.bsp_words.proofs.asked.json_of.Goals as goal

pub returns : goal.returns
returns c = c.is_set.ensures ∙ ap is_set (c.get_str.ensures ∙ first_value-rows (found_of c.args.matches.now) (codes "json"))
