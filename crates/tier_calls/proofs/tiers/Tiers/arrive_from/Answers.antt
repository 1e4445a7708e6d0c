use Rattle.std.proofs.Common.{ap, arith}
use Rattle.phaser_word.specs.Fields.{Fields}
use Rattle.tier_calls.specs.Kept.{begun}
use Rattle.tier_calls.proofs.ArrivingAll.{last_counts}
use Rattle.tier_calls.proofs.Keeping.{early_from}
use Rattle.tier_calls.proofs.tiers.Tiers.arrive_from.Goals as goal

pub returns-then-word-size : goal.returns-then-word-size
returns-then-word-size g c =
    early_from c.args.word _ _ (begun c.args.group g.B.Begun.before) c.tried_early.result c.arrive_early-lost.result c.requires.unarrived
    c.arrive_early-lost.ensures c.tried_early.ensures

pub arrive_last-requires-clause-last : goal.arrive_last-requires-clause-last
arrive_last-requires-clause-last g c =
    let few = c.requires.enough in
    let a = c.size.ensures.size in
    let b = ap (λ (z : Fields). z.unarrived) c.word.view_is in
    let d = c.if-word-size.false in
    omega arith

pub returns-in-Owing : goal.returns-in-Owing
returns-in-Owing g c = last_counts c.in-Owing.ensures

pub returns-in-Lost : goal.returns-in-Lost
returns-in-Lost g c = (_, c.in-Lost.ensures)
