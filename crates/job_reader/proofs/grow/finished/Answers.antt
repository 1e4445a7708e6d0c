use Rattle.std.proofs.Common.{◌≡◌, ◌∙◌, ap}
use Rattle.std.specs.List.{list_all}
use Rattle.job_reader.specs.Views.{lent}
use Rattle.task_code.specs.BodyValue.{BodyValue, body_value}
use Rattle.job_reader.proofs.OpenLemmas.{body-ended, if-some}
use Rattle.task_code.specs.Names.{is_free}
use Rattle.job_reader.proofs.AsciiNames.{all-free}
use Rattle.job_reader.proofs.grow.finished.Goals as goal

pub returns : goal.returns
returns c = λ o i none.
    let made : c.in-Some.body ≡ body_value c.in_ok-name.name c.in_ok-locals.locals c.args.inner.builder.code =
    if-some _ c.in-Some.body _ c.in-Some.is c.in_ok-body.ensures.made in
    body-ended o c.args.inner c.in-Some.body i none
    (ap (λ (b : BodyValue). b.name) made ∙ c.in_ok-name.ensures)
    (ap (λ (b : BodyValue). b.locals) made ∙ c.in_ok-locals.ensures ∙ ap lent c.deref.ensures.value)
    (ap (λ (b : BodyValue). b.code) made)

pub name_texts-requires : goal.name_texts-requires
name_texts-requires c =
    ap (λ x. list_all is_free (lent x)) c.deref.ensures.value ∙ ap (list_all is_free) c.requires.1.locals
    ∙ all-free c.requires.0.locals c.requires.2.body.locals
