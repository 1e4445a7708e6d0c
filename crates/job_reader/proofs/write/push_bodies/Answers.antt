use Rattle.std.proofs.Common.{◌∙◌, ℤ, List, ◌++◌, ap, sym, map}
use Rattle.task_code.specs.BodyValue.{BodyValue}
use Rattle.job_reader.specs.Words.{Word}
use Rattle.job_reader.specs.Trees.{body_tree}
use Rattle.job_reader.specs.Grammar.{text_of, bodies_lines}
use Rattle.job_reader.proofs.TextLemmas.{bodies-next}
use Rattle.job_reader.proofs.write.push_bodies.Goals as goal

pub loop-body-preserved : goal.loop-body-preserved
loop-body-preserved c =
    let arrays = map (λ (a : Word × List ℤ). a.0) c.args.arrays.now in
    let bodies = map (λ (b : BodyValue). b.name) c.args.all.now in
    bodies-next c.args.format arrays bodies (body_tree c.in-Some.body.now) (map body_tree c.in-Some.after.now) c.loop-body.out.items
    c.push_body.new.out.items c.in_ok-push_body.ensures
    ∙ ap (λ (x : List BodyValue). c.loop-body.out.items ++ text_of (bodies_lines c.args.format arrays bodies (map body_tree x)))
    (sym c.in-Some.ensures.cases.0)
    ∙ c.loop-body.invariant
