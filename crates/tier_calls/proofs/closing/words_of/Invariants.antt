use Rattle.std.proofs.Common.{◌≡◌, ℕ, ◌<◌, List, length, take, map, vec_capacity}
use Rattle.std.specs.Slots.{slots_items}
use Rattle.phaser_word.specs.Fields.{Fields, IsLegal}
use Rattle.phaser_word.specs.Packed.{packed}
use Rattle.tier_steps.specs.Tally.{word_at}
use Rattle.tier_calls.proofs.closing.words_of.Given as goal

abbrev pub invariant-loop-tier : goal.invariant-loop-tier
invariant-loop-tier l =
    ((ws : List Fields) → slots_items l.closed.words ≡ map packed ws → ((t : ℕ) → t < length ws → IsLegal (word_at ws t))
    → length ws ≡ l.count → l.words.items ≡ take l.tier ws)
    × (vec_capacity l.words ≡ vec_capacity l.fn.words) × (length l.words.items ≡ l.tier)
