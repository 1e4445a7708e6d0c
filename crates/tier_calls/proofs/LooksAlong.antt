-- One look more at the tiers, one after another.
use Rattle.std.proofs.Common.{◌≡◌, ℕ, ◌+◌, List, [], ◌∷◌, ◌++◌, length, refl, sym, subst, arith}
use Rattle.phaser_word.specs.Fields.{Fields}
use Rattle.tier_steps.specs.declared.kind.Kind.TheVariants.{Look}
use Rattle.tier_calls.specs.Holding.{Holding, Looked}
use Rattle.tier_calls.specs.Reads.{ReadsFrom}

pub reads_more : (t : ℕ) (a : Holding) (ws : List Fields) (b c : Holding)
    → ReadsFrom t a ws b → Looked Look (t + length ws) b c → ReadsFrom t a (ws ++ c.word ∷ []) c
reads_more t a [] b c r l =
    (c, subst (λ (h : Holding). Looked Look t h c) r (subst (λ (n : ℕ). Looked Look n b c) (omega arith) l), refl, refl)
reads_more t a (w ∷ ws) b c r l =
    (r.0, r.1, r.2, reads_more (t + 1) r.0 ws b c r.3 (subst (λ (n : ℕ). Looked Look n b c) (omega arith) l))
