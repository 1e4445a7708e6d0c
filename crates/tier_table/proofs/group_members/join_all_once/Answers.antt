use Rattle.tier_table.proofs.GroupMembers.{tried_looked}
use Rattle.tier_table.proofs.group_members.join_all_once.Goals as goal

pub returns-in-Busy-clause-answer : goal.returns-in-Busy-clause-answer
returns-in-Busy-clause-answer c = tried_looked 16 c.in-Busy.ensures.answer
