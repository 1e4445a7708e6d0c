use Rattle.std.proofs.Common.{◌∙◌, ap₂, codes}
use Rattle.clap.specs.Words.{found_of}
use Rattle.clap.proofs.WalkLemmas.{first_value-rows}
use Rattle.bsp_words.specs.CommandLine.{title_or}
use Rattle.bsp_words.proofs.asked.title_of.Goals as goal

pub returns : goal.returns
returns c =
    c.title_or.ensures ∙ ap₂ title_or (c.get_str.ensures ∙ first_value-rows (found_of c.args.matches.now) (codes "title")) c.file_of.ensures
