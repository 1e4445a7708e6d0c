use Rattle.std.proofs.Common.{◌≡◌, ◌∙◌, ap, codes}
use Rattle.std.specs.Prelude.{pos}
use Rattle.clap.specs.declared.builder.value_parser.ValueParser.TheVariants as vp
use Rattle.bsp_words.specs.CommandLine.{numbers_rule}
use Rattle.bsp_words.proofs.parser.code_argument.Goals as goal

pub returns-clause-rule : goal.returns-clause-rule
returns-clause-rule c =
    let numbers : c.range-numbers.result ≡ vp.Signed (pos 1) (pos 14) =
    rw (c.value_parser.ensures, c.new.ensures.start, c.new.ensures.end) at c.range-numbers.ensures in
    c.number_argument.ensures.rule ∙ ap (numbers_rule (codes "code")) numbers
