use Rattle.std.proofs.Common.{◌≡◌, true, length, sym, ◌∙◌, subst, ltb}
use Rattle.std.proofs.lemmas.Bool.{ltb-true}
use Rattle.flat_phaser.proofs.Everyone.{both_true}
use Rattle.tier_core.specs.Turn.{Turn, IsInRange}
use Rattle.tier_core.specs.Machine.{is_active, call_at}
use Rattle.tier_core.specs.Run.{may_go}
use Rattle.tier_core.proofs.Places.{MayPlay, turn_may, turn_ranges}
use Rattle.tier_core.proofs.tree.Core.go.Goals as goal

pub play-requires-clause-next : goal.play-requires-clause-next
play-requires-clause-next c =
    let may : may_go c.args.self.now c.args.token ≡ true = sym c.may_go.ensures ∙ c.if-not-may_go.false in
    let a = both_true (ltb c.args.token (length c.args.self.now.views)) (is_active (call_at c.args.self.now.calls c.args.token)) may in
    subst (λ (r : Turn). MayPlay c.args.self.now c.args.token r) (sym c.turn-turn.ensures.turn)
    (turn_may c.args.self.now c.args.token c.turn-turn.ensures.core (ltb-true c.args.token (length c.args.self.now.views) a.0) a.1)

pub returns-clause-range : goal.returns-clause-range
returns-clause-range c =
    let may : may_go c.args.self.now c.args.token ≡ true = sym c.may_go.ensures ∙ c.if-not-may_go.false in
    let a = both_true (ltb c.args.token (length c.args.self.now.views)) (is_active (call_at c.args.self.now.calls c.args.token)) may in
    subst (λ (r : Turn). IsInRange r.answer) (sym c.turn-turn.ensures.turn)
    (turn_ranges c.args.self.now c.args.token c.turn-turn.ensures.core (ltb-true c.args.token (length c.args.self.now.views) a.0))
