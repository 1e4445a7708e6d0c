use Rattle.std.proofs.Common.{refl}
use Rattle.job_laws.proofs.operators_are_worked_out.Goals as goal

pub returns : goal.returns
returns c = record {
  sum = refl;
  sum_over = refl;
  difference = refl;
  difference_over = refl;
  product = refl;
  product_below = refl;
  product_above = refl;
  product_over = refl;
  quotient = refl;
  quotient_left = refl;
  quotient_right = refl;
  quotient_both = refl;
  quotient_none = refl;
  quotient_over = refl;
  remainder = refl;
  remainder_left = refl;
  remainder_right = refl;
  remainder_none = refl;
  remainder_over = refl;
  below = refl;
  not_below = refl;
  at_most = refl;
  above = refl;
  equal = refl;
  unequal = refl;
  other = refl;
  same = refl;
}
