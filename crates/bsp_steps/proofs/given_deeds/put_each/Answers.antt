use Rattle.std.proofs.Common.{◌≡◌, ◌∙◌, ◌++◌, ◌∷◌, ◌&&◌, [], List, true, w64, to_z, of_z, refl, sym, ap, append_assoc, rules}
use Rattle.std.specs.Prelude.{FitsSigned}
use Rattle.std.proofs.lemmas.Int.{to_z-of_z}
use Rattle.std.specs.List.{list_all}
use Rattle.superstep_memory.specs.declared.arrays.Put.{Put}
use Rattle.superstep_memory.specs.Cells.{is_cell}
use Rattle.superstep_memory.specs.Rows.{row_puts}
use Rattle.bsp_steps.specs.declared.given.PutGiven.{PutGiven}
use Rattle.bsp_steps.specs.Given.{put_given, puts_given}
use Rattle.bsp_steps.proofs.Rows.{set_at, sets_at, row_rest}
use Rattle.bsp_steps.proofs.given_deeds.put_each.Goals as goal

pub loop-next-preserved-in_ok-put_row : goal.loop-next-preserved-in_ok-put_row
loop-next-preserved-in_ok-put_row c =
    let n : PutGiven = c.in-Some.next.now in
    let in_arrays = is_cell c.args.arrays.now in
    let after : List Put = puts_given c.in-Some.after.now in
    let left : List Put = puts_given c.in_ok-rest.rest.now in
    let row : List Put = row_puts n.array n.index c.take_row.new.values.items in
    let put : put_given n ≡ set_at n.array n.index n.value =
    sets_at n n.array n.index (c.begins_row.ensures c.if-begins_row.true) refl refl in
    let cell : in_arrays (set_at n.array n.index n.value) ≡ true =
    (λ i. in_arrays (sym put i)) ∙ (λ i. in_arrays (sym c.put_of.ensures i)) ∙ sym c.has_cell.ensures ∙ c.if-not-has_cell.false in
    let fits : FitsSigned w64 n.value = search rules in
    let back : to_z w64 (of_z w64 n.value) ≡ n.value = to_z-of_z w64 n.value fits in
    let first : c.push.new.self.items ≡ n.value ∷ [] = c.in_ok-push.ensures.items ∙ (λ i. c.buffer-values.ensures.empty i ++ back i ∷ []) in
    let begun : row_puts n.array n.index c.push.new.self.items ≡ set_at n.array n.index n.value ∷ [] =
    ap (row_puts n.array n.index) first in
    let all : list_all in_arrays row ≡ true = c.in_ok-rest.ensures.cells ∙ ap (list_all in_arrays) begun ∙ (λ i. cell i && true) in
    let cut : puts_given c.loop-next.rest.now ≡ row ++ left =
    ap puts_given c.in-Some.ensures.cases.0 ∙ (λ i. put i ∷ after) ∙ (λ i. sym begun i ++ after) ∙ sym c.in_ok-rest.ensures.row in
    record {
      all = sym (ap (list_all in_arrays) cut ∙ row_rest in_arrays row left all) ∙ c.loop-next.invariant.all;
      put =
          (λ i. c.in_ok-put_row.ensures.added i ++ left)
          ∙ append_assoc c.buffer-values.new.self row left
          ∙ (λ i. c.buffer-values.ensures.same i ++ sym cut i)
          ∙ c.loop-next.invariant.put;
    }
