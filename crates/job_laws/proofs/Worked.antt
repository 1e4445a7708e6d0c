-- The worked schedules: they are of jobs that may be driven, and what they answer, by computing it.
use Rattle.std.proofs.Common.{ℕ, zero, suc, ◌<◌, ◌≤◌, [], ◌∷◌, length, refl, All, arith}
use Rattle.tier_shape.specs.Parents.{parent_of}
use Rattle.tier_shape.specs.Paths.{path_of, IsTiers}
use Rattle.tier_shape.specs.Widths.{IsWidth}
use Rattle.tier_shape.proofs.TreeShape.{tree_tiers}
use Rattle.task_lang.specs.Meaning as meaning
use Rattle.job_laws.specs.Laws.{IsDriven}
use Rattle.job_laws.specs.WorkedSchedules.{alone, pair, uneven, SchedulesAreWorkedOut}

nothing : All IsWidth []
nothing k d lt = absurd (grind arith)

two : All IsWidth (2 ∷ [])
two zero d lt = (grind arith, grind arith)
two (suc k) d lt = absurd (grind arith)

one_tier : IsTiers (0 ∷ [])
one_tier = tree_tiers [] nothing (grind arith) (grind arith)

three_tiers : IsTiers (0 ∷ 0 ∷ 0 ∷ [])
three_tiers = tree_tiers (2 ∷ []) two (grind arith) (grind arith)

alone_is_driven : IsDriven alone (0 ∷ []) 10
alone_is_driven = record { tiers = one_tier; starts = grind arith; some = grind arith; few = grind arith }

pair_is_driven : IsDriven pair (0 ∷ 0 ∷ 0 ∷ []) 10
pair_is_driven = record { tiers = three_tiers; starts = grind arith; some = grind arith; few = grind arith }

earlier : (tier : ℕ) → 0 < tier → tier < 4 → parent_of (0 ∷ 0 ∷ 0 ∷ 1 ∷ []) tier < tier
earlier zero some h = absurd (omega arith)
earlier (suc zero) some h = omega arith
earlier (suc (suc zero)) some h = omega arith
earlier (suc (suc (suc zero))) some h = omega arith
earlier (suc (suc (suc (suc tier)))) some h = absurd (omega arith)

short : (tier : ℕ) → tier < 4 → length (path_of (0 ∷ 0 ∷ 0 ∷ 1 ∷ []) tier) ≤ 7
short zero h = omega arith
short (suc zero) h = omega arith
short (suc (suc zero)) h = omega arith
short (suc (suc (suc zero))) h = omega arith
short (suc (suc (suc (suc tier)))) h = absurd (omega arith)

four_tiers : IsTiers (0 ∷ 0 ∷ 0 ∷ 1 ∷ [])
four_tiers = record { shape = record { some = omega arith; root = refl; earlier = earlier }; few = omega arith; short = short }

uneven_is_driven : IsDriven uneven (0 ∷ 0 ∷ 0 ∷ 1 ∷ []) 10
uneven_is_driven = record { tiers = four_tiers; starts = omega arith; some = omega arith; few = omega arith }

pub schedules_are_worked_out : SchedulesAreWorkedOut
unfolding meaning.segment_of meaning.run
schedules_are_worked_out = record {
  alone_is_driven = alone_is_driven;
  one = refl;
  pair_is_driven = pair_is_driven;
  two = refl;
  uneven_is_driven = uneven_is_driven;
  three = refl;
}
