use Rattle.std.proofs.Common.{ap, Err}
use Rattle.trace_text.proofs.TracedRuns.{too_long}
use Rattle.trace_text.proofs.run.read_text.Goals as goal

pub returns-in-Err-TooLong-clause-text : goal.returns-in-Err-TooLong-clause-text
returns-in-Err-TooLong-clause-text g c =
    λ written. too_long _ written (c.in-Err-TooLong.ensures.too_long (ap Err c.in-Err-TooLong.field-0-is))
