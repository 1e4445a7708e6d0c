use Rattle.std.proofs.Common.{◌≡◌, sym, ap, ◌∙◌, ◌∷◌, List}
use Rattle.std.proofs.lemmas.Bool.{false≢true}
use Rattle.std.specs.Prelude.{Some, None}
use Rattle.task_code.specs.declared.code.Line.{Line}
use Rattle.task_code.specs.Mentions.{mentioned, mentions, in_line}
use Rattle.task_code.proofs.Mentioned.{stopped, went_on, none_some}
use Rattle.task_code.proofs.mentions.are_in_order.Goals as goal

pub returns-in-None : goal.returns-in-None
returns-in-None c =
    let rest : c.loop-line.rest.now ≡ c.in-Some.line.now ∷ c.in-Some.after.now = c.in-Some.ensures.cases.0 in
    let none : mentioned c.loop-line.known (in_line c.in-Some.line.now) ≡ None = sym c.mention_line.ensures ∙ c.in-None.is in
    let all : mentioned 0 (mentions c.args.code.now) ≡ None =
    c.loop-line.invariant ∙ ap (λ (ls : List Line). mentioned c.loop-line.known (mentions ls)) rest
    ∙ stopped c.loop-line.known (in_line c.in-Some.line.now) (mentions c.in-Some.after.now) none in
    (λ t. absurd (false≢true t), λ h. absurd (none_some c.args.count (sym all ∙ h)))

pub loop-line-preserved : goal.loop-line-preserved
loop-line-preserved c =
    let rest : c.loop-line.rest.now ≡ c.in-Some.line.now ∷ c.in-Some.after.now = c.in-Some.ensures.cases.0 in
    let some : mentioned c.loop-line.known (in_line c.in-Some.line.now) ≡ Some c.in-Some-mention_line.now =
    sym c.mention_line.ensures ∙ c.in-Some-mention_line.is in
    c.loop-line.invariant ∙ ap (λ (ls : List Line). mentioned c.loop-line.known (mentions ls)) rest
    ∙ went_on c.loop-line.known c.in-Some-mention_line.now (in_line c.in-Some.line.now) (mentions c.in-Some.after.now) some
