-- The rest of an arrival whose exchange counted a whole group (not part of Java's API).
use Rattle.std.specs.Prelude.{◌≡◌, ℕ, true, Option, Some, None}
use Rattle.tier_calls.specs.Holding.{Holding}
use Rattle.tier_calls.specs.Groups.{GroupHeld}
use Rattle.tier_calls.specs.Splits.{alone, AreTogether, Together}
use Rattle.tier_calls.specs.Arrives.{Resumes}
use Rattle.tier_calls.specs.Led.{LedAfterAll}
use Rattle.tier_calls.specs.declared.going.Going.{Going}
use Rattle.tier_calls.specs.declared.arriving.Resumed.TheVariants as resumed
use Rattle.tier_calls.specs.declared.finishing.Finished.{Finished}
use Rattle.tier_calls.specs.declared.finishing.Finished.TheVariants.{Done, Owing}

-- the others of a token's group: at its tier, in its phase, and arrived if it has
abbrev pub IsBeside : Holding → GroupHeld → Type 0
IsBeside h others = (others.tree ≡ h.tree) × AreTogether h.view others.view

-- a token and the others of its group as one group; if there are others, all have looked at the root
abbrev pub IsWhole : Holding → Option GroupHeld → GroupHeld → Type 0
IsWhole h None whole = whole ≡ alone h
IsWhole h (Some others) whole = Together (alone h) others whole

-- What each answer says. No further member is counted. The call advanced the tree only if all members of all tokens had arrived. If the
-- tries ran out, the others are as before.
abbrev pub Finishes : Going → Option GroupHeld → ℕ → Finished → Type 0
Finishes g others tries (Done group phase led) =
    (crew : Holding) × Resumes g tries (resumed.Done crew phase led) × IsWhole crew others group × (led ≡ true → LedAfterAll crew phase)
Finishes g others tries (Owing errand rest) = Resumes g tries (resumed.Owing errand) × (rest ≡ others)
