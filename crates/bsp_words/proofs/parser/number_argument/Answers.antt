use Rattle.std.proofs.Common.{◌≡◌, ◌∙◌, ap, rules, Option, Some, None}
use Rattle.clap.specs.Words.{Rule, rule_of}
use Rattle.clap.specs.declared.builder.value_parser.ValueParser.{ValueParser}
use Rattle.bsp_words.specs.CommandLine.{numbers_rule}
use Rattle.bsp_words.proofs.parser.number_argument.Goals as goal

pub returns-clause-rule : goal.returns-clause-rule
returns-clause-rule c =
    let rule = numbers_rule c.args.name.now c.args.numbers in
    let given = c.value_parser.ensures.given in
    let parser : c.value_parser.result.value_parser ≡ Some c.args.numbers = given.1 ∙ ap (λ (q : ValueParser). Some q) given.2 in
    let action : rule_of c.action.result ≡ record rule { parser = None } = search rules in
    ap rule_of c.value_parser.ensures.others
    ∙ (ap (λ (r : Rule). record r { parser = c.value_parser.result.value_parser }) action
    ∙ ap (λ (p : Option ValueParser). record rule { parser = p }) parser)
