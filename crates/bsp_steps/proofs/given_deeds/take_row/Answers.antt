use Rattle.std.proofs.Common.{◌≡◌, ◌∙◌, ◌+◌, ◌++◌, ◌∷◌, [], ℤ, List, true, length, w64, to_z, of_z, sym, ap, append_assoc, arith, rules}
use Rattle.std.specs.Prelude.{FitsSigned}
use Rattle.std.proofs.lemmas.Int.{to_z-of_z}
use Rattle.std.specs.List.{list_all}
use Rattle.superstep_memory.specs.declared.arrays.Put.{Put}
use Rattle.superstep_memory.specs.Cells.{is_cell}
use Rattle.superstep_memory.specs.Rows.{row_puts}
use Rattle.bsp_steps.specs.declared.given.PutGiven.{PutGiven}
use Rattle.bsp_steps.specs.Given.{put_given, puts_given}
use Rattle.bsp_steps.proofs.Rows.{set_at, row_more, sets_at, row_one}
use Rattle.bsp_steps.proofs.given_deeds.take_row.Goals as goal

pub loop-next-preserved : goal.loop-next-preserved
loop-next-preserved c =
    let n : PutGiven = c.in-Some.next.now in
    let vs : List ℤ = c.loop-next.values.items in
    let row : List Put = row_puts c.args.array c.args.first vs in
    let after : List Put = puts_given c.in-Some.after.now in
    let place = c.args.first + length vs in
    let h1 = c.if-next-ne0.false in
    let h2 = c.if-next-array.false in
    let h3 = c.if-not-goes_on.false in
    let at : n.index ≡ place = omega (arith, h3, c.from.ensures, c.from-in-Some.ensures, c.len.ensures, c.loop-next.values.ok) in
    let put : put_given n ≡ set_at c.args.array place n.value = sets_at n c.args.array place h1 h2 at in
    let cell : is_cell c.args.arrays.now (set_at c.args.array place n.value) ≡ true =
    (λ i. is_cell c.args.arrays.now (sym put i)) ∙ (λ i. is_cell c.args.arrays.now (sym c.put_of.ensures i)) ∙ sym c.has_cell.ensures
    ∙ c.if-not-has_cell.false in
    let fits : FitsSigned w64 n.value = search rules in
    let back : to_z w64 (of_z w64 n.value) ≡ n.value = to_z-of_z w64 n.value fits in
    let new =
    ap (row_puts c.args.array c.args.first) (c.in_ok-push.ensures.items ∙ (λ i. vs ++ back i ∷ []))
    ∙ row_more c.args.array c.args.first vs n.value in
    let one = ap length c.in-Some.ensures.cases.0 in
    record {
      row =
          ap (λ (ps : List Put). ps ++ after) new
          ∙ append_assoc row (set_at c.args.array place n.value ∷ []) after
          ∙ (λ i. row ++ sym put i ∷ after)
          ∙ (λ i. row ++ puts_given (sym c.in-Some.ensures.cases.0 i))
          ∙ c.loop-next.invariant.row;
      cells =
          ap (list_all (is_cell c.args.arrays.now)) new ∙ row_one (is_cell c.args.arrays.now) row (set_at c.args.array place n.value) cell
          ∙ c.loop-next.invariant.cells;
      fewer = omega (arith, one, c.loop-next.invariant.fewer);
    }
