use Rattle.std.proofs.Common.{ℕ, ◌++◌, ap, ◌∙◌}
use Rattle.std.specs.Prelude.{codes, decimal}
use Rattle.fault_reasons.specs.AgainSeen.{again_seen}
use Rattle.fault_reasons.specs.Texts.{all_living, step_head}
use Rattle.fault_reasons.proofs.Behind.{three_on}
use Rattle.fault_reasons.proofs.sums.push_too_many.Goals as goal

pub returns : goal.returns
returns c =
    three_on c.args.out.now.items c.push_step.new.out.items c.push_number.new.out.items c.push_text.new.out.items
    (step_head (codes "7 (TooMany)") c.args.at.step)
    (decimal (all_living (again_seen c.args.at) c.args.at.tasks.now)) (codes " tasks would live on, and at most 4096 may\n")
    c.push_text.result c.in_ok-push_step.ensures
    (c.in_ok-push_number.ensures ∙ ap (λ (n : ℕ). c.push_step.new.out.items ++ decimal n) c.in_ok-count.ensures) c.push_text.ensures
