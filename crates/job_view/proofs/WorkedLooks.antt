-- Looks worked out by hand.
use Rattle.std.proofs.Common.{refl}
use Rattle.std.specs.Fmt as fmt
use Rattle.job_view.specs.Worked.{LooksAreWorkedOut}

pub looks-are-worked-out : LooksAreWorkedOut
unfolding fmt.digits
looks-are-worked-out = record {
  drawn = refl;
  unpaired = refl;
  widest = refl;
  too_wide = refl;
  no_width = refl;
  all_widths = refl;
  twice = refl;
  unnumbered = refl;
  none = refl;
  all_rows = refl;
  apart = refl;
  fewer_rows = refl;
  far_apart = refl;
}
