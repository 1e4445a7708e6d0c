use Rattle.cyclic_gate.proofs.Replay.{reached_by}
use Rattle.cyclic_gate.proofs.ledger.Ledger.is_of.Goals as goal

pub returns-then-parties-clause-reached : goal.returns-then-parties-clause-reached
returns-then-parties-clause-reached c = reached_by _ _ _ _ c.self.view_is c.self.invariant.0

pub returns-else-parties-clause-reached : goal.returns-else-parties-clause-reached
returns-else-parties-clause-reached c = reached_by _ _ _ _ c.self.view_is c.self.invariant.0
