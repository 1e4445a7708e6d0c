use Rattle.std.proofs.Common.{sym, ◌∙◌, arith}
use Rattle.std.specs.Prelude.{string_bytes}
use Rattle.std.proofs.lemmas.Bool.{false≢true}
use Rattle.task_code.proofs.Mapped.{mapped-at}
use Rattle.task_code.proofs.same.same_names.Goals as goal

pub returns-then-not-same_name : goal.returns-then-not-same_name
returns-then-not-same_name c = (
  λ t. absurd (false≢true t),
  λ e. sym c.if-not-same_name.true
      ∙ c.same_name.ensures.1 (c.as_str.ensures.value
      ∙ mapped-at string_bytes c.args.a.now c.args.b.now c.loop-i.i c.index-a-i.result c.index-b-i.result (omega arith) (omega arith)
      c.index-a-i.is c.index-b-i.is e
      ∙ sym c.as_str-in-loop-i.ensures.value),
)
