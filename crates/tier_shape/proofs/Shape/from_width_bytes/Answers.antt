use Rattle.tier_shape.proofs.Refusals.{exact_bad, exact_deep, exact_wide}
use Rattle.tier_shape.proofs.Telling.{ok_in_text, err_in_text}
use Rattle.tier_shape.specs.Paths.{IsTiers}
use Rattle.tier_shape.specs.Widths.{IsTreeText}
use Rattle.tier_shape.proofs.Shape.from_width_bytes.Goals as goal

pub returns-clause-bad_text : goal.returns-clause-bad_text
returns-clause-bad_text c =
    exact_bad c.args.text.now (λ shape. IsTreeText c.args.text.now shape × IsTiers shape) (λ shape good. (shape, good.0))
    c.read_shape.result c.read_shape.ensures

pub returns-clause-too_deep : goal.returns-clause-too_deep
returns-clause-too_deep c =
    exact_deep c.args.text.now (λ shape. IsTreeText c.args.text.now shape × IsTiers shape) (λ shape good. (shape, good.0))
    c.read_shape.result c.read_shape.ensures

pub returns-clause-too_many : goal.returns-clause-too_many
returns-clause-too_many c =
    exact_wide c.args.text.now (λ shape. IsTreeText c.args.text.now shape × IsTiers shape) (λ shape good. (shape, good.0))
    c.read_shape.result c.read_shape.ensures

pub returns-clause-spelled_out : goal.returns-clause-spelled_out
returns-clause-spelled_out c = ok_in_text c.args.text.now c.read_shape.result c.read_shape.ensures

pub returns-clause-refused : goal.returns-clause-refused
returns-clause-refused c = err_in_text c.args.text.now c.read_shape.result c.read_shape.ensures
