use Rattle.std.proofs.Common.{rules, arith}
use Rattle.std.proofs.lemmas.Bool.{false≢true}
use Rattle.phasers.specs.Late.{HasWaitedFor, none, more}
use Rattle.phasers.proofs.Again.{watched_first, watched_more}
use Rattle.phasers.proofs.late.await_phase_within.Goals as goal

pub loop-init : goal.loop-init
loop-init g c = (tt, tt, watched_first c.args.door.now, none)

pub loop-preserved-derived : goal.loop-preserved-derived
loop-preserved-derived g c = (tt, tt)

pub unreachable-requires : goal.unreachable-requires
unreachable-requires g c = false≢true c.in-None.ensures.steps

pub loop-preserved : goal.loop-preserved
loop-preserved g c =
    let reported = c.in-Ok.ensures.answer in
    let early = c.if-phase-now.false in (
      tt,
      tt,
      watched_more c.loop.invariant.2 c.in-Ok.ensures.seen,
      more _ _ c.loop.invariant.3 c.in-Ok.ensures.seen (let a = reported.0 in omega arith),
    )

pub returns-then-phase-now-clause-answer : goal.returns-then-phase-now-clause-answer
returns-then-phase-now-clause-answer g c = let reported = c.in-Ok.ensures.answer in (
  watched_more c.loop.invariant.2 c.in-Ok.ensures.seen,
  (c.loop.door, c.loop.invariant.3, c.in-Ok.ensures.seen),
  reported.1,
  reported.0,
  c.if-phase-now.true,
)

pub returns-in-Err-clause-answer : goal.returns-in-Err-clause-answer
returns-in-Err-clause-answer g c = let reported = c.in-Err.ensures.answer in (
  watched_more c.loop.invariant.2 c.in-Err.ensures.seen,
  (c.loop.door, c.loop.invariant.3, c.in-Err.ensures.seen),
  (reported.0, reported.1, search rules),
)

pub returns-then-is_err-clause-answer : goal.returns-then-is_err-clause-answer
returns-then-is_err-clause-answer g c =
    let reported = c.in-Ok.ensures.answer in
    let early = c.if-phase-now.false in
    let now = reported.0 in (
      watched_more c.loop.invariant.2 c.in-Ok.ensures.seen,
      more _ _ c.loop.invariant.3 c.in-Ok.ensures.seen (omega arith),
      reported.1,
      omega arith,
    )
