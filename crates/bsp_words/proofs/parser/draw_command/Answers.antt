use Rattle.std.proofs.Common.{codes}
use Rattle.clap.specs.Words.{App, with_rule}
use Rattle.bsp_words.specs.CommandLine.{job_app, text_rule}
use Rattle.bsp_words.proofs.parser.draw_command.Goals as goal

pub returns-clause-app : goal.returns-clause-app
returns-clause-app c =
    let width = text_rule (codes "width") in
    let time = text_rule (codes "over-time") in
    let with_width : App = with_rule (job_app (codes "draw")) width in
    let width_is =
    c.with_argument-with_width.ensures.app (job_app (codes "draw")) width c.job_command-bare.ensures.app c.width_option.ensures.rule in
    let time_is = c.with_argument-with_time.ensures.app with_width time width_is c.over_time_option.ensures.rule in
    c.with_argument.ensures.app (with_rule with_width time) (text_rule (codes "title")) time_is c.title_option.ensures.rule
