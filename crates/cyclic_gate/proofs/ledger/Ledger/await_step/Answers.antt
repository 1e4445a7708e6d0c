use Rattle.std.proofs.Common.{◌≡◌, ℕ, Option, ap, sym, ◌∙◌, arith}
use Rattle.std.specs.Prelude.{vec_len, vec_capacity}
use Rattle.cyclic_gate.specs.Steps.{after}
use Rattle.cyclic_gate.specs.Ledger.{Book}
use Rattle.cyclic_gate.specs.declared.call.Call.TheVariants.{Await}
use Rattle.cyclic_gate.proofs.Replay.{reached_more}
use Rattle.cyclic_gate.proofs.Ends.{arrived_room}
use Rattle.cyclic_gate.proofs.ledger.Ledger.await_step.Goals as goal

pub invariant_of-self-2 : goal.invariant_of-self-2
invariant_of-self-2 g c =
    let plan : c.self.inside.fails ≡ c.args.action.now.plan = ap (λ (b : Book). b.fails) c.self.view_is ∙ c.requires.plan in
    let m = c.self.inside.state in
    let call = Await c.args.caller in (
      reached_more c.self.inside.fails call m c.arrive.new.self c.self.invariant.0
          (c.in_ok-arrived.ensures.state ∙ ap (λ (f : Option ℕ). after f call m) (sym plan)),
      arrived_room c.args.action.now.plan c.args.caller m c.arrive.new.self c.in_ok-arrived.arrived (vec_len c.reserve.new.self)
          (vec_capacity c.reserve.new.self) (vec_len c.keep.new.ends) (vec_capacity c.keep.new.ends) c.in_ok-arrived.ensures.answer
          c.in_ok-arrived.ensures.state (omega (arith, c.in-Ok.ensures.ok))
          (λ goes. let same = c.keep.ensures.same (c.outcome.ensures ∙ goes) in (ap vec_len same, ap vec_capacity same)),
    )
