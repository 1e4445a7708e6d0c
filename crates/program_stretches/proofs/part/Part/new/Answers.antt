use Rattle.std.proofs.lemmas.Grind.{common_steps}
use Rattle.std.proofs.Common.{ap, sym, subst, reverse, arith}
use Rattle.program_stretches.specs.declared.part.State.{State}
use Rattle.program_stretches.specs.Kept.{IsKept}
use Rattle.program_stretches.proofs.part.Part.new.Goals as goal

pub invariant_of-result : goal.invariant_of-result
invariant_of-result g c =
    subst
    (λ (v : State g.row.T.Denot). IsKept g.T.OnPath.path_of v.settled v.tasks.items (reverse v.spare.waiting.items) v.notes.items v.done)
    (sym c.in_ok-state.ensures.ok)
    (c.new-9.ensures, ap reverse c.new-8.ensures.1)

pub returns : goal.returns
returns = grind (arith, common_steps)
