use Rattle.std.proofs.Common.{codes}
use Rattle.clap.specs.Words.{App, with_rule}
use Rattle.bsp_words.specs.CommandLine.{number_rule, text_app, tree_rule}
use Rattle.bsp_words.proofs.parser.job_command.Goals as goal

pub returns-clause-app : goal.returns-clause-app
returns-clause-app c =
    let workers = number_rule (codes "workers") 64 in
    let with_workers : App = with_rule (text_app c.args.name.now) workers in
    let workers_are =
    c.with_argument-with_workers.ensures.app (text_app c.args.name.now) workers c.text_command-with_file.ensures.app
    c.workers_option.ensures.rule in
    let tree_is = c.with_argument-with_tree.ensures.app with_workers tree_rule workers_are c.tree_option.ensures.rule in
    c.with_argument.ensures.app (with_rule with_workers tree_rule) (number_rule (codes "limit") 1000000) tree_is c.limit_option.ensures.rule
