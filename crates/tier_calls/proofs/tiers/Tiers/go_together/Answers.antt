use Rattle.std.proofs.Common.{◌∙◌, sym, ap, arith, subst, ◌<◌, length}
use Rattle.phaser_word.specs.Packed.{packed}
use Rattle.tier_rule.specs.declared.sight.Key.{Key}
use Rattle.tier_calls.specs.Holding.{Named}
use Rattle.tier_calls.proofs.Grouping.{go_allow, lost_number_all}
use Rattle.tier_calls.proofs.tiers.Tiers.go_together.Goals as goal

pub compare_exchange-found-requires : goal.compare_exchange-found-requires
compare_exchange-found-requires g c =
    let key = ap (λ (n : Named). n.key) c.self.view_is in
    let there : c.args.tier < length c.self.inside.table.shared.key.shape =
    subst (λ (z : Key). c.args.tier < length z.shape) (sym key) c.requires.tier in (
      c.requires.own ∙ ap (λ (n : Named). n.id) (sym c.self.view_is),
      (let a = c.self.invariant.words_are in let b = c.from.ensures in omega arith),
      go_allow _ _ c.requires.may c.self.view_is c.requires.ends.0 c.requires.ends.1 c.requires.ends.2 c.from.ensures c.requires.tier
          (c.number-old.ensures ∙ ap packed c.of.ensures) (c.number-new.ensures ∙ ap packed c.of-2.ensures),
    )

pub at-other-requires : goal.at-other-requires
at-other-requires g c = lost_number_all _ c.compare_exchange-found.ensures.2 c.if-found-old.false
