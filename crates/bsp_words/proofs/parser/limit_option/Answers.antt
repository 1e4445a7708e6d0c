use Rattle.std.proofs.Common.{◌≡◌, ◌∙◌, ap, codes, Some}
use Rattle.std.specs.Prelude.{pos}
use Rattle.clap.specs.Words.{Rule, rule_of}
use Rattle.clap.specs.declared.builder.value_parser.ValueParser.TheVariants as vp
use Rattle.bsp_words.specs.CommandLine.{numbers_rule}
use Rattle.bsp_words.proofs.parser.limit_option.Goals as goal

pub returns-clause-rule : goal.returns-clause-rule
returns-clause-rule c =
    let numbers : c.range-numbers.result ≡ vp.Signed (pos 1) (pos 1000000) =
    rw (c.value_parser.ensures, c.new.ensures.start, c.new.ensures.end) at c.range-numbers.ensures in
    ap rule_of c.long.ensures
    ∙ ap (λ (r : Rule). record r { long = Some (codes "limit") })
    (c.number_argument.ensures.rule ∙ ap (numbers_rule (codes "limit")) numbers)
