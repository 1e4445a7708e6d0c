use Rattle.std.proofs.lemmas.Grind.{common_steps}
use Rattle.std.proofs.Common.{rules, ◌∷◌, ◌∙◌, ap, sym, Result, arith}
use Rattle.text_lines.specs.declared.refusal.Code.{Code}
use Rattle.job_reader.specs.Faults.{both}
use Rattle.job_reader.specs.Lines.{is_equals}
use Rattle.job_reader.specs.Views.{lent, names_in}
use Rattle.job_reader.specs.Words.{Words}
use Rattle.job_reader.proofs.LineRefused.{let_refused}
use Rattle.job_reader.proofs.lines.let_of.Goals as goal

pub returns-in_err-local : goal.returns-in_err-local
returns-in_err-local c =
    let refused =
    let_refused (names_in c.args.scope.now) (lent c.args.words.now) c.in-Some.name.now c.in-Some-take_word.is'.now
    (lent c.in-Some-take_word.rest.now)
    c.expr_of.result c.both-front.result _
    (c.in-Some.ensures ∙ ap (λ (ws : Words). c.in-Some.name.now ∷ ws) c.in-Some-take_word.ensures)
    (c.both-front.ensures
    ∙ (ap (λ (x : Result (Unit {0}) Code). both x c.declared_at.result) c.is_equals.ensures
    ∙ ap (both (is_equals c.in-Some-take_word.is'.now)) c.declared_at.ensures.place))
    c.expr_of.ensures (sym c.in_err-local.was ∙ c.both.ensures) in
    search (rules, refused)

pub returns : goal.returns
returns = grind (arith, common_steps)
