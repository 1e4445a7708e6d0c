use Rattle.std.proofs.Common.{◌≡◌, ◌++◌, ◌∙◌, sym, ap, arith, reverse}
use Rattle.std.specs.Prelude.{take}
use Rattle.std.specs.Option.{option_map}
use Rattle.programs.specs.DeedsView.{behind}
use Rattle.programs.proofs.Regrouping.{puts, behind_split}
use Rattle.programs.proofs.deeds.put_next.Goals as goal

pub returns-then-left-gt0-clause-put : goal.returns-then-left-gt0-clause-put
returns-then-left-gt0-clause-put g c =
    puts g.T.OnPath.path_of (option_map (λ p. p.items) c.args.bound.now) c.as_slice.result.now c.args.task c.args.deed.synced
    (reverse c.args.tasks.now) (reverse c.args.spawns.now.items)
    (reverse c.move_early-left.new.spawns.items) c.args.living.now.items c.move_before.new.living.items c.push_kept.new.living.items
    c.move_early-left.new.living.items
    (reverse c.args.waiting.now.items) (reverse c.move_before.new.waiting.items) (reverse c.let_wait.new.waiting.items) c.args.deed.spawned
    c.move_early-left.result
    (c.as_slice.ensures ∙ c.path.ensures.path) c.move_before.ensures.moved c.move_before.ensures.rest c.push_kept.ensures.items
    c.move_early-left.ensures.moved
    c.move_early-left.ensures.left c.let_wait.ensures.waiting

pub returns-then-left-gt0-clause-rest : goal.returns-then-left-gt0-clause-rest
returns-then-left-gt0-clause-rest g c =
    let m = c.move_early-left.ensures.moved in
    c.let_wait.ensures.rest
    ∙ sym (ap (behind c.args.deed.spawned) m.cut
    ∙ behind_split g.T.OnPath.path_of c.args.deed.spawned c.move_early-left.result m.now (reverse c.move_early-left.new.spawns.items) m.many
    c.move_early-left.ensures.left)

pub returns-else-left-gt0-clause-put : goal.returns-else-left-gt0-clause-put
returns-else-left-gt0-clause-put g c =
    let none : c.move_early-left.result ≡ 0 = omega (arith, c.if-left-gt0.false) in
    puts g.T.OnPath.path_of (option_map (λ p. p.items) c.args.bound.now) c.as_slice.result.now c.args.task c.args.deed.synced
    (reverse c.args.tasks.now) (reverse c.args.spawns.now.items)
    (reverse c.move_early-left.new.spawns.items) c.args.living.now.items c.move_before.new.living.items c.push_kept.new.living.items
    c.move_early-left.new.living.items
    (reverse c.args.waiting.now.items) (reverse c.move_before.new.waiting.items) (reverse c.move_before.new.waiting.items)
    c.args.deed.spawned c.move_early-left.result
    (c.as_slice.ensures ∙ c.path.ensures.path) c.move_before.ensures.moved c.move_before.ensures.rest c.push_kept.ensures.items
    c.move_early-left.ensures.moved
    c.move_early-left.ensures.left
    (ap (λ n. take n (reverse c.move_early-left.new.spawns.items) ++ reverse c.move_before.new.waiting.items) (sym none))

pub returns-else-left-gt0-clause-rest : goal.returns-else-left-gt0-clause-rest
returns-else-left-gt0-clause-rest g c =
    let m = c.move_early-left.ensures.moved in
    let none : c.move_early-left.result ≡ 0 = omega (arith, c.if-left-gt0.false) in
    ap (λ n. behind n (reverse c.move_early-left.new.spawns.items)) (sym none)
    ∙ sym (ap (behind c.args.deed.spawned) m.cut
    ∙ behind_split g.T.OnPath.path_of c.args.deed.spawned c.move_early-left.result m.now (reverse c.move_early-left.new.spawns.items) m.many
    c.move_early-left.ensures.left)
