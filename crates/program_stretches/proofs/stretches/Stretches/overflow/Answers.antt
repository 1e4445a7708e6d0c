use Rattle.std.proofs.Common.{◌≡◌, ◌∙◌, ap, sym, subst, Some, None, Option, ℕ, Bool, false, List, map}
use Rattle.program_stretches.specs.declared.fault.Outcome.TheVariants.{Overflowed}
use Rattle.std.specs.Prelude.{if◌then◌else◌}
use Rattle.std.specs.Option.{option_map}
use Rattle.programs.specs.InPlace.{overflow_at}
use Rattle.program_stretches.proofs.Blaming.{found_at}
use Rattle.program_stretches.specs.Parts.{reading_of, tasks_in, deeds_in, prints_in}
use Rattle.program_stretches.specs.SuperstepStart.{live_of}
use Rattle.program_stretches.specs.Closing.{EndsBy}
use Rattle.program_stretches.proofs.Closed.{ends_over, closed_end}
use Rattle.program_stretches.proofs.stretches.Stretches.overflow.Goals as goal

some_same : (a b : ℕ × List ℕ) → Some a ≡ Some b → a ≡ b
some_same a b e = ap value e
  where
    value : Option (ℕ × List ℕ) → ℕ × List ℕ
    value None = a
    value (Some x) = x

-- the fault that was found is that of the task
found : (o : Option (ℕ × List ℕ)) (t : Bool) (made : Option (List ℕ)) → o ≡ (if t then None else option_map overflow_at made) → t ≡ false
    → {x : ℕ × List ℕ} → o ≡ Some x → Some x ≡ option_map overflow_at made
found o t made e free there = sym there ∙ e ∙ ap (λ (b : Bool). if b then None else option_map overflow_at made) free

pub end-requires-clause-ends : goal.end-requires-clause-ends
end-requires-clause-ends g c =
    let m = reading_of g.P.Program.frame g.P.Program.may g.P.Program.meant g.P.Task.OnPath.path_of in
    let o = c.requires.run in
    let h = o.run in
    let e =
    ends_over m c.args.self.now (g.met.P.Program.keeps_paths c.args.self.now.program) c.requires.running h.start h.begun o.puts
    (tasks_in c.args.parts.now) (deeds_in c.args.parts.now) (prints_in c.args.parts.now) h.did c.args.place (Some c.in-Some.blame)
    c.requires.few o.over
    (found c.find_blame.result _ _ c.find_blame.ensures c.requires.found.0 c.in-Some.is) in
    let same = some_same e.cause c.in-Some.blame (sym e.is) in
    subst (EndsBy m c.args.self.now) same
    (record { live = map (m c.args.self.now.program).meant (live_of h.start); begun = h.begun; count = h.count; step = e.step.step })

pub returns-clause-closed : goal.returns-clause-closed
returns-clause-closed g c =
    let m = reading_of g.P.Program.frame g.P.Program.may g.P.Program.meant g.P.Task.OnPath.path_of in
    let o = c.requires.run in
    let h = o.run in
    let e =
    ends_over m c.args.self.now (g.met.P.Program.keeps_paths c.args.self.now.program) c.requires.running h.start h.begun o.puts
    (tasks_in c.args.parts.now) (deeds_in c.args.parts.now) (prints_in c.args.parts.now) h.did c.args.place (Some c.in-Some.blame)
    c.requires.few o.over
    (found c.find_blame.result _ _ c.find_blame.ensures c.requires.found.0 c.in-Some.is) in
    let same = some_same e.cause c.in-Some.blame (sym e.is) in
    closed_end m c.args.self.now (g.met.P.Program.keeps_paths c.args.self.now.program) c.requires.running h.start h.older h.is e.cause
    c.end.new.self (c.end.ensures ∙ (λ i. record c.args.self.now { fault = Some (sym same i) }))
    Overflowed e.step (λ x live k. (e.cause, k))

pub unreachable-requires : goal.unreachable-requires
unreachable-requires g c =
    found_at g.P.Task.OnPath.path_of c.args.parts.now c.args.place c.requires.each c.requires.found.0 c.requires.found.1
    (sym c.in-None.is ∙ c.find_blame.ensures)
