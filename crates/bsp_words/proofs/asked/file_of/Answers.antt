use Rattle.std.proofs.Common.{◌∙◌, ap, codes}
use Rattle.clap.specs.Words.{found_of}
use Rattle.clap.proofs.WalkLemmas.{first_value-rows}
use Rattle.bsp_words.specs.CommandLine.{unless_hyphen}
use Rattle.bsp_words.proofs.asked.file_of.Goals as goal

pub returns : goal.returns
returns c = c.unless_hyphen.ensures ∙ ap unless_hyphen (c.get_str.ensures ∙ first_value-rows (found_of c.args.matches.now) (codes "file"))
