use Rattle.std.proofs.Common.{sym, arith}
use Rattle.step_core.proofs.Rounds.{none_first}
use Rattle.step_core.proofs.round.missing_path.Goals as goal

pub returns-then-missing-eq0 : goal.returns-then-missing-eq0
returns-then-missing-eq0 c = λ ps. sym (none_first ps c.args.slots.now (omega (arith, c.requires)))
