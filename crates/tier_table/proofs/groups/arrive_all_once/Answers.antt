use Rattle.std.proofs.Common.{◌∙◌, refl, sym, inl, inr}
use Rattle.tier_table.proofs.GroupsLasting.{beside_by}
use Rattle.tier_table.proofs.groups.arrive_all_once.Goals as goal

pub finish_wait-group-requires-clause-beside : goal.finish_wait-group-requires-clause-beside
finish_wait-group-requires-clause-beside g c =
    let reported = c.in-Owing.ensures.answer in
    beside_by c.in-Owing.errand.token c.in-Owing.others (λ o is. (let r = reported.2 o is in (r.0 ∙ sym reported.0, r.2)))

pub returns-in-Owing-clause-answer : goal.returns-in-Owing-clause-answer
returns-in-Owing-clause-answer g c =
    (c.args.group, inl refl, inr (c.in-Owing.errand, c.in-Owing.others, c.in-Owing.ensures.answer, c.finish_wait-group.ensures))
