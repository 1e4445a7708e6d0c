use Rattle.std.proofs.Common.{◌∙◌, arith}
use Rattle.std.proofs.lemmas.Bool.{false≢true}
use Rattle.phasers.proofs.Again.{tried_first, tried_more}
use Rattle.phasers.proofs.beside.join_beside_wait.Goals as goal

pub loop-init : goal.loop-init
loop-init g c = (tt, tt, tried_first c.args.crew.now c.args.door, λ p e. e)

pub join_beside_once-requires-clause-own : goal.join_beside_once-requires-clause-own
join_beside_once-requires-clause-own g c = let kept = c.loop.invariant.2 in
    (kept.crew_tree ∙ c.requires.own.0, kept.door_tree ∙ c.requires.own.1)

pub join_beside_once-requires-clause-some : goal.join_beside_once-requires-clause-some
join_beside_once-requires-clause-some g c = let kept = c.loop.invariant.2 in
    let a = kept.same.size in
    let b = kept.same.arrived in
    let d = c.requires.some in
    omega arith

pub returns-in-Ok-clause-tree : goal.returns-in-Ok-clause-tree
returns-in-Ok-clause-tree g c = let kept = c.loop.invariant.2 in
    (c.in-Ok.ensures.tree.1 ∙ kept.door_tree, c.in-Ok.ensures.tree.0 ∙ kept.crew_tree)

pub returns-in-Ok-clause-answer : goal.returns-in-Ok-clause-answer
returns-in-Ok-clause-answer g c =
    record { crew = c.loop.crew; went = c.loop.door; before = c.loop.invariant.2; last = c.in-Ok.ensures.answer }

pub returns-in-Ok-clause-ended : goal.returns-in-Ok-clause-ended
returns-in-Ok-clause-ended g c = λ p e. c.in-Ok.ensures.ended p (c.loop.invariant.3 p e)

pub loop-preserved : goal.loop-preserved
loop-preserved g c =
    (tt, tt, tried_more c.loop.invariant.2 c.in-Err.ensures.answer, λ p e. absurd (c.in-Err.ensures.ended p (c.loop.invariant.3 p e)))

pub loop-preserved-derived : goal.loop-preserved-derived
loop-preserved-derived g c = (tt, tt)

pub unreachable-requires : goal.unreachable-requires
unreachable-requires g c = false≢true c.in-None.ensures.steps
