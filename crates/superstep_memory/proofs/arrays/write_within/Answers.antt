use Rattle.std.proofs.Common.{◌≡◌, ◌++◌, ◌∙◌, List, ap, sym}
use Rattle.std.specs.Prelude.{ℤ}
use Rattle.superstep_memory.specs.Rows.{row_set}
use Rattle.superstep_memory.proofs.Rows.{row_within}
use Rattle.superstep_memory.proofs.arrays.write_within.Goals as goal

pub returns : goal.returns
returns c =
    let front = c.split_at_mut-rest.result.0.now in
    let those = c.split_at_mut-those.result.0.now in
    let back = c.split_at_mut-those.result.1.now in
    let values = c.args.values.now in
    let cut : c.args.cells.now ≡ front ++ (those ++ back) =
    c.split_at_mut-rest.ensures.value ∙ ap (λ (xs : List ℤ). front ++ xs) c.split_at_mut-those.ensures.value in
    ap (λ (xs : List ℤ). front ++ (xs ++ back)) c.copy_from_slice.ensures.after
    ∙ sym (row_within front those back values c.split_at_mut-those.ensures.front_len)
    ∙ (λ i. row_set (sym cut i) (c.split_at_mut-rest.ensures.front_len i) values)
