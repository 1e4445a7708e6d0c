use Rattle.std.proofs.Common.{ℕ, ◌-◌, List, [], ◌∷◌, ◌++◌, get_or, ap, sym, ◌∙◌, arith}
use Rattle.cyclic_gate.proofs.Indexed.{indexed_more, indexed_last}
use Rattle.cyclic_gate.proofs.state.with_indices.Goals as goal

pub loop-caller-preserved : goal.loop-caller-preserved
loop-caller-preserved c =
    let i = c.loop-caller.caller-index in
    let xs = c.args.waiting.now in
    let before = c.loop-caller.invariant in record {
      counted = omega arith;
      whole = omega arith;
      listed =
          c.in_ok-push.ensures.items
          ∙ (ap (λ (l : List (ℕ × ℕ)). l ++ (get_or xs i 0, c.loop-caller.next - 1) ∷ []) before.listed
          ∙ sym (indexed_more c.args.parties i (c.loop-caller.next - 1) xs (omega arith) (omega arith)));
    }

pub returns : goal.returns
returns c =
    let i = c.loop-caller.caller-index in
    let xs = c.args.waiting.now in
    let before = c.loop-caller.invariant in
    c.in_ok-push-2.ensures.items
    ∙ (ap (λ (l : List (ℕ × ℕ)). l ++ (c.args.last, 0) ∷ []) before.listed
    ∙ sym (indexed_last c.args.parties i xs c.args.last (omega arith) (omega arith)))
