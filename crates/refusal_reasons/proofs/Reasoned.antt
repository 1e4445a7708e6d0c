-- What reasons say.
use Rattle.std.proofs.Common.{◌++◌, refl}
use Rattle.std.specs.Fmt as fmt
use Rattle.task_code.specs.Names as names
use Rattle.job_reader.specs.Lines as lines
use Rattle.refusal_reasons.specs.Places.{place_by}
use Rattle.refusal_reasons.specs.Reasons.{ReasonsAreOfRefusals, open_line, open_shown, place_shown, shown_by}
use Rattle.refusal_reasons.specs.WorkedReasons.{ReasonsAreWorkedOut}

pub reasons-are-of-refusals : ReasonsAreOfRefusals
reasons-are-of-refusals source text kind r m =
    ((place_by text r m).column, place_shown (shown_by r.code text r m) text ++ open_shown (open_line r.code text r) text, refl)

pub reasons-are-worked-out : ReasonsAreWorkedOut
unfolding fmt.digits names.is_reserved lines.keyword_of
reasons-are-worked-out = record {
  word = refl;
  byte = refl;
  unclosed = refl;
  unclosed_block = refl;
  block = refl;
  empty = refl;
  trace = refl;
  trace_number = refl;
  far = refl;
  too_long = refl;
  long = refl;
  bytes = refl;
}
