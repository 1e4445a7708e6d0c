use Rattle.task_lang.proofs.Unread.{never-reads-its-puts}
use Rattle.task_lang.proofs.laws.never_reads_its_puts.Goals as goal

pub returns : goal.returns
returns c = never-reads-its-puts
