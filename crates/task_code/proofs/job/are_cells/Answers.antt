use Rattle.std.proofs.Common.{List, ℕ, ℤ, sym, ◌∙◌}
use Rattle.std.specs.List.{list_all}
use Rattle.text_lines.specs.Number.{fits_i64}
use Rattle.task_code.proofs.Alls.{all-next, all-not, all-none}
use Rattle.task_code.proofs.job.are_cells.Goals as goal
use Rattle.task_code.proofs.job.are_cells.Goals.{in-Some+else-not-are_numbers, in_default}

pub returns-then-not-are_numbers : goal.returns-then-not-are_numbers
returns-then-not-are_numbers c =
    sym (c.loop-place.invariant
    ∙ all-not (λ (a : List ℕ × List ℤ). list_all fits_i64 a.1) c.args.arrays.now c.loop-place.place _ c.in-Some.ensures.seen
    (sym c.are_numbers.ensures ∙ c.if-not-are_numbers.true))

pub loop-place-preserved : goal.loop-place-preserved
loop-place-preserved c = elim c.match-get.branch [
  | in-Some+else-not-are_numbers w ↦
      c.loop-place.invariant
      ∙ all-next (λ (a : List ℕ × List ℤ). list_all fits_i64 a.1) c.args.arrays.now c.loop-place.place _ w.in-Some.ensures.seen
      (sym w.are_numbers.ensures ∙ w.if-not-are_numbers.false)
  | in_default w ↦
      c.loop-place.invariant
      ∙ all-none (λ (a : List ℕ × List ℤ). list_all fits_i64 a.1) c.args.arrays.now c.loop-place.place w.in_default.ensures.seen
]
