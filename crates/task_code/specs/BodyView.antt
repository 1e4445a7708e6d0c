-- A body apart from its place in memory.
use Rattle.task_code.specs.declared.body.Body.TheInside.{Inside}
use Rattle.task_code.specs.BodyValue.{BodyValue, body_value}
use Rattle.task_code.specs.Rules.{IsBody}
use Rattle.task_code.specs.Operations.{AllSay}

abbrev pub body_of : Inside → BodyValue
body_of b = body_value b.name b.locals b.code

-- its operations say what its lines say
pub record IsInside (b : Inside) : Type 0 where
  pub body : IsBody (body_of b)
  pub said : AllSay b.code.items b.operations.items
