use Rattle.std.proofs.lemmas.Grind.{common_steps}
use Rattle.std.proofs.Common.{◌≡◌, ◌++◌, List, ℕ, Bool, ℤ, Result, Ok, Err, FitsSigned, w32, to_z, of_z, ap, ◌∙◌, refl, arith, rules}
use Rattle.std.specs.Prelude.{OnOk}
use Rattle.std.proofs.lemmas.Int.{ints}
use Rattle.flat_phaser.specs.Flat.{shown, registered, unarrived}
use Rattle.trace_text.specs.Answers.{show_numbers}
use Rattle.trace_text.proofs.run.push_command.Goals as goal

on_ok : {A E : Type 0} {P Q : Type 0} (result : Result A E) → OnOk result P → (P → Q) → OnOk result Q
on_ok (Ok a) p f = f p
on_ok (Err e) p f = p

same_show : (p q : ℤ) (m m' n n' : ℕ) (e e' : Bool) → p ≡ q → m ≡ m' → n ≡ n' → e ≡ e' → show_numbers p m n e ≡ show_numbers q m' n' e'
same_show p q m m' n n' e e' a b c d = rw (a, b, c, d) refl

pub returns-in-Show-clause-text : goal.returns-in-Show-clause-text
returns-in-Show-clause-text g c = on_ok c.push_show.result c.push_show.ensures (λ text f a.
    let fits : FitsSigned w32 c.phase.result = search rules in
    let back : to_z w32 (of_z w32 c.phase.result) ≡ c.phase.result = omega (arith, ints, fits) in
    rw c.in-Show.is (text ∙ ap (λ (t : List ℕ). c.args.out.now.items ++ t)
    (same_show _ (shown f) _ (registered f) _ (unarrived f) _ f.ended (back ∙ c.phase.ensures f a) (c.registered.ensures f a) (c.unarrived.ensures f a) (c.ended.ensures f a))))

pub returns-in_ok-push_advance-in-Call-clause-text : goal.returns-in_ok-push_advance-in-Call-clause-text
returns-in_ok-push_advance-in-Call-clause-text = grind (arith, common_steps)
