use Rattle.std.proofs.Common.{ap, sym, ◌∙◌, List, ◌++◌, ◌∷◌, []}
use Rattle.task_code.specs.declared.code.Line.{Line}
use Rattle.task_code.specs.declared.code.Line.TheVariants as line
use Rattle.task_code.specs.Tree.{Done, Do}
use Rattle.task_code.proofs.Building.{open-then}
use Rattle.task_code.proofs.builder.Builder.action.Goals as goal

pub returns : goal.returns
returns c =
    λ fs b h.
    record {
      code =
          c.in_ok-push.ensures.items ∙ ap (λ (x : List Line). x ++ line.Do c.args.action ∷ []) h.code
          ∙ sym (open-then fs b (Do c.args.action Done));
      places = h.places;
    }
