use Rattle.std.proofs.Common.{◌∙◌, ap, arith, reverse}
use Rattle.std.specs.Prelude.{◌++◌}
use Rattle.programs.proofs.Turned.{tail_turned, take_first}
use Rattle.programs.proofs.deeds.let_wait.Goals as goal

pub returns-clause-waiting : goal.returns-clause-waiting
returns-clause-waiting g c =
    let v = c.loop-left.invariant in
    tail_turned c.args.waiting.now.items v.front c.deref_mut.result.now c.loop-left.waiting.items c.reverse.new.self c.len-from.result
    c.loop-left.waiting.len
    (c.len-from.ensures ∙ c.args.waiting.now.ok.0) c.deref_mut.ensures.value v.waits c.reverse.ensures.after c.loop-left.waiting.ok.0
    ∙ ap (λ xs. xs ++ reverse c.args.waiting.now.items)
    (take_first c.args.count (reverse c.args.spawns.now.items) v.front (reverse c.loop-left.spawns.items) v.spawned (omega (arith, v.count, c.loop-left-test.false)))
