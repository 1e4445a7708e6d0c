-- A job, as its type keeps it, is a job of the grammar.
use Rattle.std.proofs.Common.{◌≡◌, List, [], ◌∷◌, map, refl, sym, ap, subst, ◌∙◌}
use Rattle.std.specs.List.{AllByRecursion}
use Rattle.task_code.specs.BodyValue.{BodyValue}
use Rattle.task_code.specs.JobValue.{JobValue}
use Rattle.task_code.specs.Rules.{IsBody, IsJob}
use Rattle.task_code.specs.declared.code.Line.{Line}
use Rattle.job_reader.specs.Legal.{flat_body, IsJobTree}
use Rattle.job_reader.specs.Trees.{body_tree, job_tree}

flat-back : (bs : List BodyValue) → AllByRecursion IsBody bs → map flat_body (map body_tree bs) ≡ bs
flat-back [] h = refl
flat-back (b ∷ bs) h =
    ap (λ (c : List Line). record b { code = c } ∷ map flat_body (map body_tree bs)) h.0.matched
    ∙ ap (λ (xs : List BodyValue). b ∷ xs) (flat-back bs h.1)

pub jobs : (j : JobValue) → IsJob j → IsJobTree (job_tree j)
jobs j h = subst (λ (bs : List BodyValue). IsJob (record j { bodies = bs })) (sym (flat-back j.bodies h.each)) h
