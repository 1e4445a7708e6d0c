use Rattle.std.proofs.Common.{◌≡◌, length, vec_capacity}
use Rattle.tier_calls.specs.Reads.{ReadsFrom}
use Rattle.tier_calls.proofs.tiers.Tiers.read_words.Given as goal

abbrev pub invariant-loop-tier : goal.invariant-loop-tier
invariant-loop-tier l =
    ReadsFrom 0 l.fn.door l.words.items l.door × (l.door.tree ≡ l.fn.door.tree) × (length l.words.items ≡ l.tier)
    × (vec_capacity l.words ≡ vec_capacity l.fn.words)
