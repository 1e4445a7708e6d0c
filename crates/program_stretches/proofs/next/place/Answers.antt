use Rattle.std.proofs.Common.{◌≡◌, ◌-◌, ℕ, suc, reverse, subst, arith}
use Rattle.std.specs.Vec.{vec_len}
use Rattle.programs.proofs.RunState.{none_there, some_there}
use Rattle.programs.proofs.Turned.{reverse_none}
use Rattle.program_stretches.proofs.Pieces.{IsPlaced, next_piece, none_left, last_ok}
use Rattle.program_stretches.proofs.next.place.Goals as goal

pub returns-then-is_empty-clause-tasks : goal.returns-then-is_empty-clause-tasks
returns-then-is_empty-clause-tasks g c =
    let q = g.T.OnPath.path_of in
    let n = none_there (vec_len c.loop-place.strays) c.is_empty.result c.is_empty.ensures c.if-is_empty.true in
    let none = reverse_none c.loop-place.strays.items (omega (arith, n, c.loop-place.strays.ok.0)) in
    none_left q c.args.pieces.now.items (reverse c.args.strays.now.items) c.loop-place.place c.loop-place.pieces.items
    (reverse c.loop-place.strays.items) c.loop-place.invariant none

pub receive_in-requires-clause-tasks : goal.receive_in-requires-clause-tasks
receive_in-requires-clause-tasks g c =
    let q = g.T.OnPath.path_of in
    let ps = c.args.pieces.now.items in
    let ws = reverse c.args.strays.now.items in
    let up : c.loop-place.place ≡ suc (c.loop-place.place - 1) = omega (arith, c.loop-place-test.true) in
    let now =
    subst (λ (k : ℕ). IsPlaced q ps ws k c.loop-place.pieces.items (reverse c.loop-place.strays.items)) up c.loop-place.invariant in
    (next_piece q ps ws (c.loop-place.place - 1) c.loop-place.pieces.items (reverse c.loop-place.strays.items) c.index_mut.result.now now c.index_mut.ensures.value).order

pub loop-place-preserved : goal.loop-place-preserved
loop-place-preserved g c =
    let q = g.T.OnPath.path_of in
    let ps = c.args.pieces.now.items in
    let ws = reverse c.args.strays.now.items in
    let up : c.loop-place.place ≡ suc (c.loop-place.place - 1) = omega (arith, c.loop-place-test.true) in
    let now =
    subst (λ (k : ℕ). IsPlaced q ps ws k c.loop-place.pieces.items (reverse c.loop-place.strays.items)) up c.loop-place.invariant in
    (next_piece q ps ws (c.loop-place.place - 1) c.loop-place.pieces.items (reverse c.loop-place.strays.items) c.index_mut.result.now now c.index_mut.ensures.value).placed
    c.receive_in.new.piece (reverse c.receive_in.new.strays.items) c.in_ok-receive_in.ensures.same c.in_ok-receive_in.ensures.tasks

pub returns-clause-tasks : goal.returns-clause-tasks
returns-clause-tasks g c =
    let q = g.T.OnPath.path_of in
    let ps = c.args.pieces.now.items in
    let ws = reverse c.args.strays.now.items in
    let zero : c.loop-place.place ≡ 0 = omega (arith, c.loop-place-test.false) in
    let now =
    subst (λ (k : ℕ). IsPlaced q ps ws k c.loop-place.pieces.items (reverse c.loop-place.strays.items)) zero c.loop-place.invariant in
    let some = some_there (vec_len c.loop-place.pieces) c.is_empty-2.result c.is_empty-2.ensures c.if-is_empty-2.false in
    last_ok q c.add_all.result ps ws c.loop-place.pieces.items c.index_mut-2.result.now c.add_all.new.piece
    (reverse c.loop-place.strays.items) now
    (omega (arith, some, c.loop-place.pieces.ok.0)) c.index_mut-2.ensures.value c.add_all.ensures.tasks
