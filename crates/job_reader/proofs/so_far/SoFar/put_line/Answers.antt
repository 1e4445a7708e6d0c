use Rattle.std.proofs.Common.{◌∙◌, sym}
use Rattle.job_reader.proofs.LineLemmas.{put-ended}
use Rattle.job_reader.proofs.so_far.SoFar.put_line.Goals as goal

pub returns-in_ok-add_body-clause-line : goal.returns-in_ok-add_body-clause-line
returns-in_ok-add_body-clause-line c = λ j o s i fits.
    put-ended j o c.args.line c.add_body.new.self (sym (c.belongs.ensures o i) ∙ c.if-belongs.false) fits
    (λ none. c.in_ok-add_body.ensures j o s i none)
