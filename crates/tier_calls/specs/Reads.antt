-- What a token finds that reads the words of all tiers (not part of Java's API).
use Rattle.std.specs.Prelude.{◌≡◌, ℕ, ◌+◌, List, [], ◌∷◌, length}
use Rattle.phaser_word.specs.Fields.{Fields}
use Rattle.tier_steps.specs.declared.kind.Kind.TheVariants.{Look}
use Rattle.tier_calls.specs.Holding.{Holding, Looked}

-- Looks at one tier after another, the first of them at tier t. Each found this word: steps of the tree lead to a state in which the tier
-- has it, and the token knows what it knew before that look. So each word was its tier's at some moment of the reading.
abbrev pub ReadsFrom : ℕ → Holding → List Fields → Holding → Type 0
ReadsFrom t old [] new = new ≡ old
ReadsFrom t old (w ∷ ws) new = (mid : Holding) × Looked Look t old mid × (mid.word ≡ w) × ReadsFrom (t + 1) mid ws new

-- one look at each tier of the tree
pub record ReadsWords (old : Holding) (words : List Fields) (new : Holding) : Type 0 where
  pub all : length words ≡ length old.tree.key.shape
  pub each : ReadsFrom 0 old words new
