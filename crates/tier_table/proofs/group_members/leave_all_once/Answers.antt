use Rattle.std.proofs.Common.{refl, inl, inr}
use Rattle.tier_table.proofs.group_members.leave_all_once.Goals as goal

pub returns-in-Left-resume_wait-clause-answer : goal.returns-in-Left-resume_wait-clause-answer
returns-in-Left-resume_wait-clause-answer g c =
    let reported = c.in-Left-resume_wait.ensures in (
      c.args.group,
      inl refl,
      inr (c.in-Owing.errand, c.in-Owing.ensures.answer, reported.answer, reported.unsplit, reported.made, reported.waited),
    )
