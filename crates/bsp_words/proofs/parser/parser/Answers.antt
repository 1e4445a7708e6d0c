use Rattle.std.proofs.Common.{codes, true}
use Rattle.clap.specs.Words.{App, with_subcommand}
use Rattle.bsp_words.specs.CommandLine.{bare, check_app, draw_app, explain_app, run_app, text_app}
use Rattle.bsp_words.proofs.parser.parser.Goals as goal

pub returns-clause-app : goal.returns-clause-app
returns-clause-app c =
    let none : App = record bare { top = record bare.top { subcommand_required = true; has_version = true } } in
    let one = with_subcommand none (text_app (codes "trace")).top in
    let two = with_subcommand one check_app.top in
    let three = with_subcommand two (text_app (codes "upgrade")).top in
    let four = with_subcommand three run_app.top in
    let five = with_subcommand four draw_app.top in
    let trace_is =
    c.with_subcommand-with_trace.ensures.app none (text_app (codes "trace")) c.bare_program.ensures c.trace_command.ensures.app in
    let check_is = c.with_subcommand-with_check.ensures.app one check_app trace_is c.check_command.ensures.app in
    let upgrade_is = c.with_subcommand-with_upgrade.ensures.app two (text_app (codes "upgrade")) check_is c.upgrade_command.ensures.app in
    let run_is = c.with_subcommand-with_run.ensures.app three run_app upgrade_is c.run_command.ensures.app in
    let draw_is = c.with_subcommand-with_draw.ensures.app four draw_app run_is c.draw_command.ensures.app in
    c.with_subcommand.ensures.app five explain_app draw_is c.explain_command.ensures.app
