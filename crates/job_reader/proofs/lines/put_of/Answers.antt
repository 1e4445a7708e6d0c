use Rattle.std.proofs.lemmas.Grind.{common_steps}
use Rattle.std.proofs.Common.{rules, ◌∷◌, ◌∙◌, ap, sym, Result, arith}
use Rattle.text_lines.specs.declared.refusal.Code.{Code}
use Rattle.task_code.specs.declared.code.Cell.{Cell}
use Rattle.job_reader.specs.Exprs.{cell_of}
use Rattle.job_reader.specs.Faults.{both}
use Rattle.job_reader.specs.Views.{lent, names_in}
use Rattle.job_reader.specs.Words.{Words}
use Rattle.job_reader.proofs.LineRefused.{put_refused}
use Rattle.job_reader.proofs.lines.put_of.Goals as goal

pub returns-in_err-cell : goal.returns-in_err-cell
returns-in_err-cell c =
    let refused =
    put_refused (names_in c.args.scope.now) c.args.kind (lent c.args.words.now) c.in-Some.cell.now c.in-Some-take_word.is'.now
    (lent c.in-Some-take_word.rest.now)
    c.expr_of.result c.both-front.result _
    (c.in-Some.ensures ∙ ap (λ (ws : Words). c.in-Some.cell.now ∷ ws) c.in-Some-take_word.ensures)
    (c.both-front.ensures
    ∙ (ap (λ (x : Result Cell Code). both x c.is_equals.result) c.cell_of.ensures
    ∙ ap (both (cell_of (names_in c.args.scope.now) c.in-Some.cell.now)) c.is_equals.ensures))
    c.expr_of.ensures (sym c.in_err-cell.was ∙ c.both.ensures) in
    search (rules, refused)

pub returns : goal.returns
returns = grind (arith, common_steps)
