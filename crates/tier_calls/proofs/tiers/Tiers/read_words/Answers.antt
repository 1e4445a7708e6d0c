use Rattle.std.proofs.Common.{◌≡◌, ℕ, ◌+◌, List, ◌∷◌, ◌++◌, [], length, refl, sym, ap, ◌∙◌, subst, arith, length-append}
use Rattle.phaser_word.specs.Fields.{Fields}
use Rattle.tier_steps.specs.declared.kind.Kind.TheVariants.{Look}
use Rattle.tier_calls.specs.Holding.{Looked}
use Rattle.tier_calls.specs.Reads.{ReadsFrom}
use Rattle.tier_calls.proofs.LooksAlong.{reads_more}
use Rattle.tier_calls.proofs.tiers.Tiers.read_words.Goals as goal

pub loop-tier-preserved : goal.loop-tier-preserved
loop-tier-preserved c =
    let kept = c.loop-tier.invariant in
    let items = c.push_reserved.ensures.items ∙ ap (λ (w : Fields). c.loop-tier.words.items ++ w ∷ []) c.read_word-word.ensures.word in (
      subst (λ (ws : List Fields). ReadsFrom 0 c.args.door.now ws c.read_word-word.new.door) (sym items)
          (reads_more 0 c.args.door.now c.loop-tier.words.items c.loop-tier.door c.read_word-word.new.door kept.0
          (subst (λ (t : ℕ). Looked Look t c.loop-tier.door c.read_word-word.new.door) (let a = kept.2 in omega arith)
          c.read_word-word.ensures.looked)),
      c.read_word-word.ensures.looked.tree ∙ kept.1,
      (let a = ap length c.push_reserved.ensures.items in
          let b = length-append c.loop-tier.words.items (c.read_word-word.result ∷ []) in
          let d = kept.2 in
          omega arith),
      c.push_reserved.ensures.capacity ∙ kept.3,
    )
