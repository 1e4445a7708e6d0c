use Rattle.std.proofs.Common.{refl, inl, inr}
use Rattle.tier_table.proofs.GroupsLasting.{kept_looked}
use Rattle.tier_table.proofs.groups.arrive_with_once.Goals as goal

pub returns-in-Done-clause-answer : goal.returns-in-Done-clause-answer
returns-in-Done-clause-answer g c = (c.args.group, inl refl, inl (c.in-Done.ensures.answer, refl))

pub returns-in-Busy-clause-answer : goal.returns-in-Busy-clause-answer
returns-in-Busy-clause-answer g c = let reported = c.in-Busy.ensures.answer in kept_looked 16 reported.first reported.kept

pub returns-in-Owing-clause-answer : goal.returns-in-Owing-clause-answer
returns-in-Owing-clause-answer g c =
    (c.args.group, inl refl, inr (c.in-Owing.errand, c.in-Owing.others, c.in-Owing.ensures.answer, c.finish_wait-group.ensures))
