use Rattle.std.proofs.Common.{codes}
use Rattle.clap.specs.Words.{App, new_app, with_rule}
use Rattle.bsp_words.specs.CommandLine.{code_rule, number_rule}
use Rattle.bsp_words.proofs.parser.explain_command.Goals as goal

pub returns-clause-app : goal.returns-clause-app
returns-clause-app c =
    let fault = number_rule (codes "fault") 8 in
    let with_code : App = with_rule (new_app (codes "explain")) code_rule in
    let code_is =
    c.with_argument-with_code.ensures.app (new_app (codes "explain")) code_rule c.bare_explain.ensures.app c.code_argument.ensures.rule in
    let fault_is = c.with_argument-with_fault.ensures.app with_code fault code_is c.fault_option.ensures.rule in
    c.with_argument.ensures.app (with_rule with_code fault) (number_rule (codes "trace") 12) fault_is c.trace_option.ensures.rule
