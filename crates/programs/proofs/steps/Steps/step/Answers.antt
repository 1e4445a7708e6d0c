use Rattle.std.proofs.lemmas.Grind.{common_steps}
use Rattle.std.proofs.Common.{◌≡◌, ℕ, List, map, Option, Some, None, refl, sym, ap, ◌∙◌, subst, arith}
use Rattle.superstep_memory.specs.Paths.{is_rising}
use Rattle.programs.specs.RunState.{HasTaken}
use Rattle.programs.specs.Order.{AreOrdered}
use Rattle.programs.specs.Steps.{StepsValue}
use Rattle.programs.proofs.Known.{order_kept}
use Rattle.programs.proofs.Reached.{paths_read}
use Rattle.programs.proofs.steps.Steps.step.Goals as goal

none_left : {A : Type 0} (o : Option A) → ((x : A) → o ≡ Some x → ⊥) → o ≡ None
none_left None h = refl
none_left (Some x) h = absurd (h x refl)

pub take_superstep-requires-clause-rising : goal.take_superstep-requires-clause-rising
take_superstep-requires-clause-rising g c =
    let f = g.P.Program.frame c.args.program.now in
    let meant = g.P.Program.meant c.args.program.now in
    ap is_rising
    (sym (paths_read f meant g.T.OnPath.path_of (g.met.P.Program.keeps_paths c.args.program.now) c.self.inside.run_state.tasks.items))
    ∙ ap (λ (v : StepsValue g.row.T.Denot). is_rising (map f.path (map meant v.tasks))) c.self.view_is
    ∙ c.requires.ordered.rising

pub returns-in_default-fault-clause-ordered : goal.returns-in_default-fault-clause-ordered
returns-in_default-fault-clause-ordered g c =
    let f = g.P.Program.frame c.args.program.now in
    let may = g.P.Program.may c.args.program.now in
    let meant = g.P.Program.meant c.args.program.now in
    let path = g.T.OnPath.path_of in
    let none = none_left c.in-Ok.fault (λ x e. c.in_default-fault.not-Some x e) in
    order_kept f may c.self.inside.most meant path (g.met.P.Program.keeps_paths c.args.program.now) c.self.inside.run_state
    c.take_superstep.new.run_state
    (subst (λ (v : StepsValue g.row.T.Denot). AreOrdered f (map meant v.tasks)) (sym c.self.view_is) c.requires.ordered)
    (subst (λ (o : Option (ℕ × List ℕ)). HasTaken f may c.self.inside.most meant path o c.self.inside.run_state c.take_superstep.new.run_state) none c.in-Ok.ensures.taken)

pub returns-clause-over : goal.returns-clause-over
returns-clause-over = grind (arith, common_steps)

pub returns-in_default-clause-failed : goal.returns-in_default-clause-failed
returns-in_default-clause-failed = grind (arith, common_steps)

pub returns-in_default-clause-memory : goal.returns-in_default-clause-memory
returns-in_default-clause-memory = grind (arith, common_steps)
