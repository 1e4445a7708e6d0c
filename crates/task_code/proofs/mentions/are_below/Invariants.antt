use Rattle.std.proofs.Common.{◌≡◌, drop}
use Rattle.std.specs.List.{list_all}
use Rattle.task_code.specs.Limits.{fits_line}
use Rattle.task_code.specs.Mentions as spec
use Rattle.task_code.proofs.mentions.are_below.Given as goal

abbrev pub invariant-loop-line : goal.invariant-loop-line
invariant-loop-line l = record {
  below : spec.are_below l.count (spec.mentions l.code) ≡ spec.are_below l.count (spec.mentions (drop l.line-index l.code));
  fits : list_all fits_line l.code ≡ list_all fits_line (drop l.line-index l.code);
}
