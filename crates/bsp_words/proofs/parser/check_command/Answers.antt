use Rattle.std.proofs.Common.{codes}
use Rattle.bsp_words.specs.CommandLine.{all_rule, text_app}
use Rattle.bsp_words.proofs.parser.check_command.Goals as goal

pub returns-clause-app : goal.returns-clause-app
returns-clause-app c =
    c.with_argument.ensures.app (text_app (codes "check")) all_rule c.text_command-bare.ensures.app c.all_option.ensures.rule
