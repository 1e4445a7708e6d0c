use Rattle.std.proofs.Common.{◌≡◌, ◌∙◌, arith, ap, int_div, pos, get_or, to_z, of_z}
use Rattle.std.specs.Int.{w64, int_wrapping_add}
use Rattle.std.proofs.lemmas.Int.{ints}
use Rattle.example_bodies.proofs.exact.mixed.Goals as goal

pub returns : goal.returns
returns c =
    let back : to_z w64 (of_z w64 c.quarter.result) ≡ c.quarter.result = omega (arith, ints, c.quarter.type_inv) in
    let back_own : to_z w64 (of_z w64 c.at-own.result) ≡ c.at-own.result = omega (arith, ints, c.at-own.type_inv) in
    let back_left : to_z w64 (of_z w64 c.at.result) ≡ c.at.result = omega (arith, ints, c.at.type_inv) in
    let back_right : to_z w64 (of_z w64 c.at-2.result) ≡ c.at-2.result = omega (arith, ints, c.at-2.type_inv) in
    let back_others : to_z w64 (of_z w64 c.sum-others.result) ≡ c.sum-others.result = omega (arith, ints, c.sum-others.type_inv) in
    let back_sum : to_z w64 (of_z w64 c.sum.result) ≡ c.sum.result = omega (arith, ints, c.sum.type_inv) in
    let back_all : to_z w64 (of_z w64 c.sum-2.result) ≡ c.sum-2.result = omega (arith, ints, c.sum-2.type_inv) in
    let own = back_own ∙ c.at-own.ensures in
    let left = back_left ∙ c.at.ensures ∙ ap (λ n. get_or c.args.cells.now n (pos 0)) c.saturating_sub.ensures in
    let right = back_right ∙ c.at-2.ensures in
    let others = back_others ∙ c.sum-others.ensures ∙ (λ i. int_wrapping_add w64 (left i) (right i)) in
    let sum = back_sum ∙ c.sum.ensures ∙ (λ i. int_wrapping_add w64 (others i) (own i)) in
    let all = back_all ∙ c.sum-2.ensures ∙ (λ i. int_wrapping_add w64 (sum i) (own i)) in
    back ∙ c.quarter.ensures ∙ (λ i. int_div (all i) (pos 4))
