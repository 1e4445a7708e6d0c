use Rattle.std.proofs.Common.{◌∙◌, sym, ap}
use Rattle.text_lines.specs.Text.{lines_of}
use Rattle.job_reader.specs.Views.{lent}
use Rattle.job_reader.proofs.ReadJobs.{text-says}
use Rattle.job_reader.proofs.read.read_job.Goals as goal

pub read_lines-requires-clause-jobs : goal.read_lines-requires-clause-jobs
read_lines-requires-clause-jobs c =
    text-says c.args.text.now c.in_ok-format.format c.in_ok-format.line (lines_of c.in_ok-format.rest.now) (lent c.deref.result.now)
    c.if-text-gt-MOST_BYTES.false
    (sym c.bad_byte_line.ensures ∙ c.in_default.is) c.in_ok-format.ensures.header
    (ap lent c.deref.ensures.value ∙ c.in_ok-bodies.ensures.names)
