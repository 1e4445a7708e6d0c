use Rattle.bsp_words.proofs.Parsed.{words-files}
use Rattle.bsp_words.proofs.laws.words_name_files.Goals as goal

pub returns : goal.returns
returns c = words-files
