use Rattle.std.proofs.Common.{◌∙◌}
use Rattle.tier_table.specs.declared.waiting.ArrivedAtLast.TheVariants.{Left}
use Rattle.tier_table.proofs.Lasting.{passed_same, left_departs, counted_at_last, steps_at_last}
use Rattle.tier_table.proofs.waiting.settle_wait.Goals as goal

pub returns-in-Left-clause-answer : goal.returns-in-Left-clause-answer
returns-in-Left-clause-answer g c = λ h some tree counted.
    let none = c.phase.ensures.none in
    let reported = c.in-Left.ensures.answer in
    let passed = passed_same counted reported.1 in
    (left_departs c.args.own some passed none, reported.0 ∙ tree, passed, reported.2, reported.3, reported.4)

pub returns-in_default-clause-answer : goal.returns-in_default-clause-answer
returns-in_default-clause-answer g c = λ h some tree counted.
    counted_at_last c.args.own h c.args.errand.token c.resume_wait.result tree counted c.resume_wait.ensures.answer c.in_default.not-Left

pub returns-in-Left-clause-made : goal.returns-in-Left-clause-made
returns-in-Left-clause-made g c =
    λ old m. steps_at_last c.args.own old c.args.errand.token.steps (Left c.in-Left.door c.in-Left.phase c.in-Left.led) m
    c.in-Left.ensures.made

pub returns-in_default-clause-made : goal.returns-in_default-clause-made
returns-in_default-clause-made g c =
    λ old m. steps_at_last c.args.own old c.args.errand.token.steps c.resume_wait.result m c.resume_wait.ensures.made
