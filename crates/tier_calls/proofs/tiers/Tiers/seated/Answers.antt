use Rattle.std.proofs.Common.{ap, sym, ◌∙◌}
use Rattle.phaser_word.specs.Packed.{packed}
use Rattle.std.specs.Prelude.{replicate}
use Rattle.tier_calls.proofs.Seating.{seated_as}
use Rattle.tier_calls.proofs.Sitting.{opens, first_seated}
use Rattle.tier_calls.proofs.tiers.Tiers.seated.Goals as goal

pub of_words-requires : goal.of_words-requires
of_words-requires c =
    opens _ c.count.result c.deref.result.now c.count.ensures.tiers c.requires c.count.ensures.value
    (c.deref.ensures.value
    ∙ (c.in_ok-numbers.ensures.items_if_clones_equal (λ y e. e)
    ∙ ap (λ n. replicate c.count.result n) (c.number.ensures ∙ ap packed c.of-word.ensures)))

pub invariant_of-result-2 : goal.invariant_of-result-2
invariant_of-result-2 c =
    seated_as (sym c.of-word.ensures)
    (first_seated (record { shape = c.args.shape; phase = c.args.phase; plan = c.args.plan }) _ _ c.count.ensures.tiers c.requires c.in_ok-table.ensures.4 c.new-view.ensures)
