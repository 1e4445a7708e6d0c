use Rattle.std.proofs.Common.{ap, ◌∙◌}
use Rattle.std.specs.Prelude.{Some}
use Rattle.text_lines.specs.Text.{words_of}
use Rattle.job_reader.specs.Views.{lent}
use Rattle.job_reader.specs.declared.outer.Outer.{Outer}
use Rattle.job_reader.proofs.LineLemmas.{body-begun}
use Rattle.job_reader.proofs.so_far.SoFar.outer_line.Goals as goal

pub returns-in_ok-begin_body-in-Body-clause-line : goal.returns-in_ok-begin_body-in-Body-clause-line
returns-in_ok-begin_body-in-Body-clause-line c = λ j s.
    body-begun (lent c.args.bodies.now) j c.args.begins (words_of c.args.line.now) c.args.self.now c.in_ok-begin_body-in-Body.field-0
    (c.in-Some.is ∙ ap (λ (b : Outer). Some b) c.in-Body.is) s (c.in_ok-begin_body-in-Body.ensures.begun j s)
