use Rattle.clap.specs.Words.{new_app}
use Rattle.bsp_words.specs.CommandLine.{file_rule}
use Rattle.bsp_words.proofs.parser.text_command.Goals as goal

pub returns-clause-app : goal.returns-clause-app
returns-clause-app c = c.with_argument.ensures.app (new_app c.args.name.now) file_rule c.bare_text.ensures.app c.file_option.ensures.rule
