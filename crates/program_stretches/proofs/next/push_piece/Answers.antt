use Rattle.std.proofs.Common.{◌∙◌, ◌-◌, ◌∷◌, [], ap, sym, subst, arith}
use Rattle.program_stretches.specs.Next.{AreEmpty, all_in}
use Rattle.program_stretches.proofs.Pieces.{in_last, empty_append, empty_ok, joined_empty, joined_ok}
use Rattle.program_stretches.proofs.next.push_piece.Goals as goal

pub returns-then-are_joined-clause-empty : goal.returns-then-are_joined-clause-empty
returns-then-are_joined-clause-empty g c =
    let ps = c.args.pieces.now.items in
    let k = c.len-count.result - 1 in
    empty_ok c.put_front.result _
    (joined_empty ps k c.index_mut.result.now c.put_front.new.piece
    (omega (arith, c.len-count.ensures, c.if-count-gt0.true, c.args.pieces.now.ok.0)) c.index_mut.ensures.value c.put_front.ensures.same
    c.requires.empty)

pub returns-then-are_joined-clause-tasks : goal.returns-then-are_joined-clause-tasks
returns-then-are_joined-clause-tasks g c =
    let ps = c.args.pieces.now.items in
    let k = c.len-count.result - 1 in
    joined_ok c.put_front.result ps k c.index_mut.result.now c.put_front.new.piece c.args.piece.tasks.items
    (omega (arith, c.len-count.ensures, c.if-count-gt0.true, c.args.pieces.now.ok.0)) c.index_mut.ensures.value
    c.put_front.ensures.tasks

pub returns-clause-empty : goal.returns-clause-empty
returns-clause-empty g c =
    subst AreEmpty (sym c.in_ok-push.ensures.items)
    (empty_append c.args.pieces.now.items (c.args.piece ∷ []) c.requires.empty (c.requires.fresh, tt))

pub returns-clause-tasks : goal.returns-clause-tasks
returns-clause-tasks g c = ap all_in c.in_ok-push.ensures.items ∙ in_last c.args.pieces.now.items c.args.piece
