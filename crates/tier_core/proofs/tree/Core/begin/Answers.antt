use Rattle.std.proofs.Common.{◌≡◌, true, sym, ◌∙◌, ap}
use Rattle.tier_core.specs.CoreView.{core_of}
use Rattle.tier_core.specs.Run.{may_begin}
use Rattle.tier_core.proofs.Runs.{begun_core}
use Rattle.tier_core.proofs.tree.Core.begin.Goals as goal

pub invariant_of-self : goal.invariant_of-self
invariant_of-self c =
    let may : may_begin (core_of c.self.inside) c.args.token c.args.call ≡ true =
    ap (λ s. may_begin s c.args.token c.args.call) c.self.view_is ∙ (sym c.may_begin.ensures ∙ c.if-not-may_begin.false) in
    begun_core (core_of c.self.inside) c.args.token c.args.call c.self.invariant c.requires.size may
