use Rattle.std.proofs.Common.{ap}
use Rattle.cyclic_gate.specs.Machine.{Machine}
use Rattle.cyclic_gate.specs.declared.call.Call.TheVariants.{BreakOff}
use Rattle.cyclic_gate.proofs.Replay.{reached_more, nobody_room}
use Rattle.cyclic_gate.proofs.ledger.Ledger.break_off.Goals as goal

pub invariant_of-self : goal.invariant_of-self
invariant_of-self c = (
  reached_more c.self.inside.fails BreakOff c.self.inside.state c.break_off-callers.new.self c.self.invariant.0
      c.break_off-callers.ensures.state,
  nobody_room c.break_off-callers.new.self _ _ (ap (λ (m : Machine). m.waiting) c.break_off-callers.ensures.state),
)
