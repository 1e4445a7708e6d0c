use Rattle.std.proofs.Common.{◌≡◌, ◌∙◌, ap, true}
use Rattle.clap.specs.Words.{App, app_of}
use Rattle.clap.specs.Simple.{app_of_fields}
use Rattle.bsp_words.specs.CommandLine.{bare}
use Rattle.bsp_words.proofs.parser.bare_program.Goals as goal

pub returns : goal.returns
returns c =
    let versioned : app_of c.version.result ≡ record bare { top = record bare.top { has_version = true } } =
    ap app_of_fields c.version.ensures
    ∙ ap (λ (a : App). record a { top = record a.top { has_version = true } })
    (ap app_of_fields c.after_long_help.ensures ∙ (ap app_of_fields c.about.ensures ∙ c.new.ensures.app)) in
    ap app_of_fields c.subcommand_required.ensures
    ∙ ap (λ (a : App). record a { top = record a.top { subcommand_required = true } }) versioned
