use Rattle.std.proofs.Common.{arith}
use Rattle.tier_calls.specs.Kept.{as_seat}
use Rattle.tier_calls.proofs.Grouping.{looked_crowd, all_lost}
use Rattle.tier_calls.proofs.Arrivals.{early_may, early_seat, early_arrived}
use Rattle.tier_calls.proofs.Keeping.{begun_seated, begun_is, begun_from}
use Rattle.tier_calls.proofs.tiers.Tiers.arrive_early.Goals as goal

pub go_from-requires-clause-from : goal.go_from-requires-clause-from
go_from-requires-clause-from g c =
    begun_from {me = c.group.inside.seat.me} c.group.invariant.0 c.group.view_is c.requires.begins c.requires.own

pub go_from-requires-clause-may : goal.go_from-requires-clause-may
go_from-requires-clause-may g c =
    early_may {me = as_seat g.B.Begun.before}
    (begun_seated {me = c.group.inside.seat.me} c.group.invariant.0 c.group.view_is c.requires.begins)
    (begun_is {me = c.group.inside.seat.me} c.group.invariant.0 c.group.view_is c.requires.begins) c.requires.own
    c.after_arrivals-next.ensures.legal c.requires.may c.after_arrivals-next.ensures.after

pub invariant_of-group : goal.invariant_of-group
invariant_of-group g c =
    let a = c.requires.begins.long in let b = c.requires.more in (
      early_seat {me = as_seat g.B.Begun.before}
          (begun_seated {me = c.group.inside.seat.me} c.group.invariant.0 c.group.view_is c.requires.begins)
          (begun_is {me = c.group.inside.seat.me} c.group.invariant.0 c.group.view_is c.requires.begins) c.requires.may (omega arith)
          c.in-None.ensures.gone,
      tt,
    )

pub invariant_of-group-in-Some : goal.invariant_of-group-in-Some
invariant_of-group-in-Some g c = (
  looked_crowd _ _ _ _ _ _ _ _ _ c.group.invariant.0 c.in-Some.ensures.gone.bare c.in-Some.ensures.gone.looked
      c.view_glanced-group-inside.ensures,
  tt,
)

pub returns-in-None : goal.returns-in-None
returns-in-None g c =
    early_arrived (as_seat g.B.Begun.before) c.go_from.new.seat.me
    (begun_seated {me = c.group.inside.seat.me} c.group.invariant.0 c.group.view_is c.requires.begins)
    (begun_is {me = c.group.inside.seat.me} c.group.invariant.0 c.group.view_is c.requires.begins) c.requires.own _
    c.go_from.ensures.table c.after_arrivals-next.ensures.after c.in-None.ensures.gone

pub returns-in-Some : goal.returns-in-Some
returns-in-Some g c =
    all_lost c.group.inside.seat.me c.go_from.new.seat.me c.group.invariant.0 c.group.view_is c.requires.own c.go_from.ensures.table
    c.in-Some.ensures.gone c.view_glanced-group-inside.ensures
