-- Reports as JSON, worked out.
use Rattle.std.proofs.Common.{refl, [], ◌∷◌, arith}
use Rattle.std.specs.Fmt as fmt
use Rattle.json.proofs.OnLiterals.{json_on_literals}
use Rattle.phase_records.specs.Status.{Fault}
use Rattle.job_view.specs.JsonLaws.{HasShortNumbers}
use Rattle.job_view.specs.WorkedJson.{ReportsAreWorkedOut, two_supersteps}

short : HasShortNumbers (two_supersteps (Fault 2 2 (1 ∷ 65535 ∷ [])))
short = record {
  records = ((omega arith, omega arith, omega arith, omega arith), ((omega arith, omega arith, omega arith, omega arith), tt));
  prints = ((omega arith, (omega arith, tt), omega arith), ((omega arith, (omega arith, (omega arith, tt)), omega arith), tt));
  arrays = ((omega arith, (omega arith, tt)), (tt, tt));
  status = (omega arith, omega arith, (omega arith, (omega arith, tt)));
}

pub reports-are-worked-out : ReportsAreWorkedOut
unfolding json_on_literals fmt.digits
reports-are-worked-out = record { short = short; ended = refl; faulted = refl; crowded = refl; limited = refl; idle = refl }
