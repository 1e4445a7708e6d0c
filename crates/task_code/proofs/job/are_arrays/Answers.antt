use Rattle.std.proofs.Common.{◌≤◌, List, ℕ, ap, sym, ◌∙◌, length, arith}
use Rattle.std.proofs.lemmas.Bool.{false≢true}
use Rattle.task_code.specs.Rules.{is_array}
use Rattle.task_code.proofs.Alls.{all-next, all-not, all-none, all-end}
use Rattle.task_code.proofs.Named.{named}
use Rattle.task_code.proofs.job.are_arrays.Goals as goal
use Rattle.task_code.proofs.job.are_arrays.Goals.{in-Some+else-not-is_array, in_default}

pub returns-then-not-is_array : goal.returns-then-not-is_array
returns-then-not-is_array c = record {
  arrays =
      sym
      (c.loop-place.invariant
      ∙ all-not is_array c.args.arrays.now c.loop-place.place (c.in-Some.name.now, c.in-Some.cells.now) c.in-Some.ensures.seen
      (ap (λ (w : List ℕ). is_array (w, c.in-Some.cells.now)) (sym c.as_bytes.ensures.value) ∙ sym c.is_array.ensures
      ∙ c.if-not-is_array.true));
  named = λ e. absurd (false≢true e);
}

pub loop-place-preserved : goal.loop-place-preserved
loop-place-preserved c = elim c.match-get.branch [
  | in-Some+else-not-is_array w ↦
      c.loop-place.invariant
      ∙ all-next is_array c.args.arrays.now c.loop-place.place (w.in-Some.name.now, w.in-Some.cells.now) w.in-Some.ensures.seen
      (ap (λ (v : List ℕ). is_array (v, w.in-Some.cells.now)) (sym w.as_bytes.ensures.value) ∙ sym w.is_array.ensures
      ∙ w.if-not-is_array.false)
  | in_default w ↦ c.loop-place.invariant ∙ all-none is_array c.args.arrays.now c.loop-place.place w.in_default.ensures.seen
]

pub returns-clause-named : goal.returns-clause-named
returns-clause-named c =
    let past : length c.args.arrays.now ≤ c.loop-place.place = omega (arith, c.loop-place-test.false, c.len-place-end.ensures.count) in λ e.
    named c.args.arrays.now c.len-place-end.ensures.distinct
    (c.loop-place.invariant ∙ all-end is_array c.args.arrays.now c.loop-place.place past)
