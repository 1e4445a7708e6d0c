use Rattle.std.proofs.Common.{◌∙◌, sym}
use Rattle.tier_table.proofs.GroupsLasting.{beside_by}
use Rattle.test_groups.proofs.calls.arrives_in.Goals as goal

pub finishes-requires-clause-beside : goal.finishes-requires-clause-beside
finishes-requires-clause-beside g c =
    let reported = c.in-Owing.ensures.answer in
    beside_by c.in-Owing.errand.token c.in-Owing.others (λ o is. (let r = reported.2 o is in (r.0 ∙ sym reported.0, r.2)))
