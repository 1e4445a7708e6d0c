use Rattle.std.proofs.lemmas.Grind.{common_steps}
use Rattle.std.proofs.Common.{rules, ℕ, ◌∙◌, ap, subst, refl, arith}
use Rattle.job_reader.specs.Views.{lent}
use Rattle.job_reader.specs.Relates.{IsInside}
use Rattle.job_reader.specs.Reading.{mentioning}
use Rattle.job_reader.proofs.LineLemmas.{said-stands, line-refused, line-put}
use Rattle.job_reader.proofs.KeptJobs.{line-ends}
use Rattle.job_reader.proofs.so_far.SoFar.inner_line.Goals as goal

pub returns-in_err-line-clause-line : goal.returns-in_err-line-clause-line
returns-in_err-line-clause-line c = λ j o s i.
    let inside =
    subst (λ (f : ℕ). IsInside (mentioning f o c.args.keyword (lent c.args.words.now)) c.note.new.self) s.format
    (c.in_ok-note.ensures.noted o i) in
    let refused = line-refused _ (lent c.args.bodies.now) j o c.args.keyword (lent c.args.words.now) c.in_err-line.field-0.0
    (ap lent c.deref.ensures.value ∙ s.array_names)
    (c.in_err-line.ensures.said (mentioning j.format o c.args.keyword (lent c.args.words.now)) inside) in
    search (rules, refused)

pub returns-clause-line : goal.returns-clause-line
returns-clause-line c = λ j o s i.
    let noted = mentioning j.format o c.args.keyword (lent c.args.words.now) in
    let inside =
    subst (λ (f : ℕ). IsInside (mentioning f o c.args.keyword (lent c.args.words.now)) c.note.new.self) s.format
    (c.in_ok-note.ensures.noted o i) in
    let said = c.in_ok-line.ensures.said noted inside in
    line-put _ (lent c.args.bodies.now) j o c.args.keyword (lent c.args.words.now) c.in_ok-line.line c.put_line.new.self
    c.in_ok-put_line.field-0
    (ap lent c.deref.ensures.value ∙ s.array_names)
    said
    (c.in_ok-put_line.ensures.line j noted s inside (said-stands _ _ noted c.args.keyword (lent c.args.words.now) c.in_ok-line.line said))

pub put_line-requires-clause-ends : goal.put_line-requires-clause-ends
put_line-requires-clause-ends c =
    line-ends _ (lent c.args.bodies.now) c.args.self.now.format c.args.inner c.note.new.self c.args.keyword (lent c.args.words.now)
    c.in_ok-line.line
    c.in_ok-note.ensures.noted c.requires.known c.in_ok-line.ensures.said c.args.self.now refl c.requires.kept

pub returns-clause-few : goal.returns-clause-few
returns-clause-few = grind (arith, common_steps)
