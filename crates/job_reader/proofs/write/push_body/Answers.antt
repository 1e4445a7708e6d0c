use Rattle.std.proofs.Common.{◌∙◌, ℕ, ℤ, List, ◌++◌, ap, map}
use Rattle.task_code.specs.declared.code.Line.{Line}
use Rattle.task_code.specs.BodyValue.{BodyValue}
use Rattle.job_reader.specs.Words.{Word}
use Rattle.job_reader.specs.Exprs.{Names}
use Rattle.job_reader.specs.Grammar.{listed_in, spaced, text_of}
use Rattle.job_reader.specs.Writing.{code_lines}
use Rattle.job_reader.proofs.TextLemmas.{body-text}
use Rattle.job_reader.proofs.write.push_body.Goals as goal

abbrev with_locals : List (Word × List ℤ) → List BodyValue → List Word → Names
with_locals arrays bodies locals =
    record { arrays = map (λ (a : Word × List ℤ). a.0) arrays; bodies = map (λ (b : BodyValue). b.name) bodies; locals = locals }

pub returns : goal.returns
returns c =
    let before = c.extend_from_slice-3.new.self.items in
    let front = c.extend_from_slice-2.new.self.items in
    let names : List Word → Names = with_locals c.args.arrays.now c.args.bodies.now in
    body-text c.args.format (names c.args.body.now.locals) c.args.body.now.name c.args.body.now.locals c.args.body.now.code
    c.code.ensures.kept.matched
    c.args.out.now.items c.extend_from_slice.new.self.items front c.push_listed.new.out.items before c.push_code.new.out.items
    c.extend_from_slice-4.new.self.items
    c.in_ok-extend_from_slice.ensures.items
    (c.in_ok-extend_from_slice-2.ensures.items
    ∙ ap (λ (x : List ℕ). c.extend_from_slice.new.self.items ++ x) (c.as_bytes.ensures.value ∙ c.name.ensures))
    (c.in_ok-push_listed.ensures ∙ ap (λ (x : List Word). front ++ spaced (listed_in c.args.format x)) c.locals.ensures)
    c.in_ok-extend_from_slice-3.ensures.items
    (c.in_ok-push_code.ensures
    ∙ ap (λ (x : List Word). before ++ text_of (code_lines (names x) c.code.result.now)) c.locals-2.ensures
    ∙ ap (λ (x : List Line). before ++ text_of (code_lines (names c.args.body.now.locals) x)) c.code.ensures.code)
    c.in_ok-extend_from_slice-4.ensures.items
