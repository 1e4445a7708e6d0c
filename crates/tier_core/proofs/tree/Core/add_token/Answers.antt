use Rattle.std.proofs.Common.{List, refl, ap, ◌∙◌}
use Rattle.phaser_word.specs.Fields.{Fields}
use Rattle.tier_steps.specs.Tally.{word_at}
use Rattle.tier_core.specs.CoreView.{core_of}
use Rattle.tier_core.proofs.Opening.{same_core, added_core}
use Rattle.tier_core.proofs.tree.Core.add_token.Goals as goal

pub invariant_of-self : goal.invariant_of-self
invariant_of-self c = same_core (core_of c.self.inside) c.self.invariant _ _ refl c.reserve.ensures.items

pub invariant_of-self-in_err-extend_from_slice : goal.invariant_of-self-in_err-extend_from_slice
invariant_of-self-in_err-extend_from_slice c =
    same_core (core_of c.self.inside) c.self.invariant _ _ c.in_err-extend_from_slice.ensures.items c.reserve.ensures.items

pub invariant_of-self-2 : goal.invariant_of-self-2
invariant_of-self-2 c =
    added_core (core_of c.self.inside) c.phase.inside.phase c.new.result _ _ _ c.self.invariant
    (ap (λ (w : Fields). w.phase) (c.phase.view_is ∙ (c.word_of.ensures ∙ ap (λ (ws : List Fields). word_at ws 0) c.deref.ensures.value)))
    c.new.ensures c.in_ok-extend_from_slice.ensures.items
    c.reserve.ensures.items c.push_reserved.ensures.items
