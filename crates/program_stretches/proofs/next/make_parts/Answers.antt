use Rattle.std.proofs.lemmas.Grind.{common_steps}
use Rattle.std.proofs.Common.{◌≡◌, ◌+◌, ◌-◌, ◌++◌, ◌∙◌, List, Option, length, ap, sym, subst, reverse, arith}
use Rattle.program_stretches.specs.PartValue.{PartValue}
use Rattle.program_stretches.specs.Parts.{AreFresh, tasks_in}
use Rattle.program_stretches.proofs.Making.{made_begins, piece_next}
use Rattle.program_stretches.proofs.next.make_parts.Goals as goal

pub loop-piece-init : goal.loop-piece-init
loop-piece-init g c =
    made_begins c.args.pieces.items c.reverse.new.self.items c.in_ok-parts.parts.items c.args.count c.reverse.ensures.items
    c.in_ok-parts.ensures.items c.requires.empty c.requires.count

pub overflow_sub-from : goal.overflow_sub-from
overflow_sub-from g c =
    let p =
    piece_next c.args.pieces.items c.loop-piece.end 0 c.loop-piece.pieces.items c.pop.new.self.items c.in-Some.piece
    c.loop-piece.parts.items c.loop-piece.invariant c.in-Some.ensures.items in
    let inside = p.inside in
    omega (arith, inside, c.len-in-Some.ensures, c.in-Some.piece.tasks.ok.0)

pub cut_off-requires-clause-fresh : goal.cut_off-requires-clause-fresh
cut_off-requires-clause-fresh g c =
    let from = c.loop-piece.end - c.len-in-Some.result in
    let p =
    piece_next c.args.pieces.items c.loop-piece.end from c.loop-piece.pieces.items c.pop.new.self.items c.in-Some.piece
    c.loop-piece.parts.items c.loop-piece.invariant c.in-Some.ensures.items in
    let at : from ≡ c.loop-piece.end - length c.in-Some.piece.tasks.items =
    omega (arith, c.len-in-Some.ensures, c.in-Some.piece.tasks.ok.0) in
    subst (λ (ps : List (Option (PartValue g.row.T.Denot))). AreFresh (from + length c.in-Some.piece.tasks.items) (reverse ps))
    (sym c.in_ok-reserve.ensures.items) (p.fresh at)

pub with_tasks-requires : goal.with_tasks-requires
with_tasks-requires g c =
    (piece_next c.args.pieces.items c.loop-piece.end 0 c.loop-piece.pieces.items c.pop.new.self.items c.in-Some.piece c.loop-piece.parts.items c.loop-piece.invariant c.in-Some.ensures.items).part

pub loop-piece-preserved : goal.loop-piece-preserved
loop-piece-preserved g c =
    let from = c.loop-piece.end - c.len-in-Some.result in
    let p =
    piece_next c.args.pieces.items c.loop-piece.end from c.loop-piece.pieces.items c.pop.new.self.items c.in-Some.piece
    c.loop-piece.parts.items c.loop-piece.invariant c.in-Some.ensures.items in
    let at : from ≡ c.loop-piece.end - length c.in-Some.piece.tasks.items =
    omega (arith, c.len-in-Some.ensures, c.in-Some.piece.tasks.ok.0) in
    p.next c.cut_off.new.rest.items c.cut_off.new.parts.items c.push_reserved.new.self.items c.with_tasks.result at c.cut_off.ensures.fresh
    (c.cut_off.ensures.tasks
    ∙ ap (λ (ps : List (Option (PartValue g.row.T.Denot))). c.in-Some.piece.tasks.items ++ tasks_in (reverse ps))
    c.in_ok-reserve.ensures.items)
    c.with_tasks.ensures c.push_reserved.ensures.items

pub returns-clause-tasks : goal.returns-clause-tasks
returns-clause-tasks = grind (arith, common_steps)
