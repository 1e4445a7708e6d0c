use Rattle.std.proofs.Common.{ap, ◌∙◌}
use Rattle.cyclic_gate.specs.Machine.{Machine}
use Rattle.cyclic_gate.specs.Ledger.{is_end_of_generation}
use Rattle.cyclic_gate.specs.History.{outcome_of}
use Rattle.cyclic_gate.specs.declared.call.Call.TheVariants.{Abandon}
use Rattle.cyclic_gate.proofs.Replay.{reached_more, nobody_room}
use Rattle.cyclic_gate.proofs.Ends.{end_nobody}
use Rattle.cyclic_gate.proofs.ledger.Ledger.abandon.Goals as goal

pub invariant_of-self-2 : goal.invariant_of-self-2
invariant_of-self-2 c =
    let m = c.self.inside.state in
    let call = Abandon c.args.caller in (
      reached_more c.self.inside.fails call m c.abandon.new.self c.self.invariant.0 c.in_ok-others.ensures.state,
      nobody_room c.abandon.new.self _ _
          (ap (λ (x : Machine). x.waiting) c.in_ok-others.ensures.state
          ∙ end_nobody c.self.inside.fails call m (ap (λ a. is_end_of_generation (outcome_of a)) c.in_ok-others.ensures.answer)),
    )
