-- Which numbers of 64 bits are the word of a single phaser (own).
use Rattle.std.specs.Prelude.{◌≡◌, ◌≤◌, ℕ}
use Rattle.phaser_word.specs.Fields.{Fields, IsLegal}
use Rattle.phaser_word.specs.Packed.{packed}

-- the number packs this state of a single phaser, in which no more are unarrived than there are parties
pub record IsWordOf (w : Fields) (number : ℕ) : Type 0 where
  pub legal : IsLegal w
  pub counted : w.unarrived ≤ w.parties
  pub packs : packed w ≡ number

-- the number is no word of a single phaser
abbrev pub IsNoWord : ℕ → Type 0
IsNoWord number = (w : Fields) → IsWordOf w number → ⊥
