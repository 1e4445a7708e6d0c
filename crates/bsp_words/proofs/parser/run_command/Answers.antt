use Rattle.std.proofs.Common.{codes}
use Rattle.clap.specs.Words.{App, with_rule}
use Rattle.bsp_words.specs.CommandLine.{job_app, json_rule, progress_rule, stream_rule}
use Rattle.bsp_words.proofs.parser.run_command.Goals as goal

pub returns-clause-app : goal.returns-clause-app
returns-clause-app c =
    let with_progress : App = with_rule (job_app (codes "run")) progress_rule in
    let progress_is =
    c.with_argument-with_progress.ensures.app (job_app (codes "run")) progress_rule c.job_command-bare.ensures.app
    c.progress_option.ensures.rule in
    let json_is = c.with_argument-with_json.ensures.app with_progress json_rule progress_is c.json_option.ensures.rule in
    c.with_argument.ensures.app (with_rule with_progress json_rule) stream_rule json_is c.stream_option.ensures.rule
