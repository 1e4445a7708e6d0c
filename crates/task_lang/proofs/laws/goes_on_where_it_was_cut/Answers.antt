use Rattle.task_lang.proofs.Joined.{goes-on-where-it-was-cut}
use Rattle.task_lang.proofs.laws.goes_on_where_it_was_cut.Goals as goal

pub returns : goal.returns
returns c = goes-on-where-it-was-cut
