use Rattle.tier_calls.proofs.Gathering.{kept_groups, gathered_both, shut_with}
use Rattle.tier_calls.proofs.tiers.Tiers.shut_all.Goals as goal

pub gather_groups-seat-requires-clause-groups : goal.gather_groups-seat-requires-clause-groups
gather_groups-seat-requires-clause-groups c =
    kept_groups c.args.groups.items c.pop.new.self.items c.in-Some.group c.in-Some.ensures.items c.requires.groups

pub returns-in-Some-clause-words : goal.returns-in-Some-clause-words
returns-in-Some-clause-words c =
    shut_with _ c.self.view_is c.close_with.ensures.values.2
    (gathered_both c.args.tokens.items c.args.groups.items c.pop.new.self.items c.in-Some.group c.into_seat.result.me
    c.gather_groups-seat.result.me c.gather-seat.result.me c.into_seat.ensures.seat c.in-Some.ensures.items
    c.gather_groups-seat.ensures.sights c.gather-seat.ensures.sights)
