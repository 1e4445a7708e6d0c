use Rattle.task_lang.proofs.Firsts.{by-first-mention}
use Rattle.task_lang.proofs.laws.stand_by_first_mention.Goals as goal

pub returns : goal.returns
returns c = by-first-mention
