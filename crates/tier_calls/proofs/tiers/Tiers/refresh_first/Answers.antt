use Rattle.tier_calls.proofs.Grouping.{looked_crowd}
use Rattle.tier_calls.proofs.ArrivingAll.{refresh_runs, refresh_may, refreshed_crowd, refreshed_keeps, lost_keeps}
use Rattle.tier_calls.proofs.CatchingUp.{refreshed_caught_up, lost_caught_up}
use Rattle.tier_calls.proofs.tiers.Tiers.refresh_first.Goals as goal

pub step_word-next-requires : goal.step_word-next-requires
step_word-next-requires c =
    (refresh_runs {me = c.group.inside.seat.me} c.group.invariant.0 c.group.view_is c.requires.own c.requires.among c.requires.may).0

pub go_together-requires-clause-may : goal.go_together-requires-clause-may
go_together-requires-clause-may c =
    refresh_may c.group.invariant.0 c.group.view_is c.requires.own
    (refresh_runs {me = c.group.inside.seat.me} c.group.invariant.0 c.group.view_is c.requires.own c.requires.among c.requires.may).1
    c.requires.may c.step_word-next.ensures

pub invariant_of-group-in-Some : goal.invariant_of-group-in-Some
invariant_of-group-in-Some c = (
  looked_crowd _ _ _ _ _ _ _ _ _ c.group.invariant.0 c.in-Some.ensures.gone.bare c.in-Some.ensures.gone.looked
      c.view_glanced-group-inside.ensures,
  tt,
)

pub invariant_of-group : goal.invariant_of-group
invariant_of-group c =
    (refreshed_crowd c.group.invariant.0 c.in-None.ensures.gone, tt)

pub returns-in-Some-clause-kept : goal.returns-in-Some-clause-kept
returns-in-Some-clause-kept c =
    lost_keeps c.group.inside.seat.me c.go_together.new.seat.me c.group.invariant.0 c.group.view_is c.requires.own c.requires.unarrived
    c.go_together.ensures.table c.in-Some.ensures.gone c.view_glanced-group-inside.ensures

pub returns-in-None-clause-kept : goal.returns-in-None-clause-kept
returns-in-None-clause-kept c =
    refreshed_keeps c.group.inside.seat.me c.go_together.new.seat.me c.group.invariant.0 c.group.view_is c.go_together.ensures.table
    c.in-None.ensures.gone

pub returns-in-Some-clause-caught_up : goal.returns-in-Some-clause-caught_up
returns-in-Some-clause-caught_up c =
    lost_caught_up c.group.inside.seat.me c.go_together.new.seat.me c.group.invariant.0 c.group.view_is c.requires.own c.requires.unarrived
    c.requires.may c.go_together.ensures.table c.in-Some.ensures.gone c.view_glanced-group-inside.ensures

pub returns-in-None-clause-caught_up : goal.returns-in-None-clause-caught_up
returns-in-None-clause-caught_up c =
    refreshed_caught_up c.group.inside.seat.me c.go_together.new.seat.me c.group.invariant.0 c.in-None.ensures.gone
