use Rattle.std.proofs.Common.{◌≡◌, ◌∙◌, ℕ, Option, Some, None, sym, ap}
use Rattle.std.specs.Prelude.{IfSome}
use Rattle.programs.specs.InPlace.{made_in}
use Rattle.programs.specs.DeedsView.{made_by}
use Rattle.programs.proofs.Listed.{made_reported}
use Rattle.programs.proofs.deeds.Deeds.put_count.Goals as goal

same_number : (o : Option ℕ) (m n : ℕ) → m ≡ n → IfSome o (λ k. k ≡ m) → IfSome o (λ k. k ≡ n)
same_number None m n e h = tt
same_number (Some k) m n e h = h ∙ e

pub returns : goal.returns
returns g c =
    let e = ap made_by c.all.ensures in
    same_number c.count_puts.result (made_by c.all.result) (made_in c.args.self.now)
    (e ∙ sym (made_reported c.self.inside.each c.self.inside.spawns.items) ∙ ap made_in c.self.view_is) c.count_puts.ensures
