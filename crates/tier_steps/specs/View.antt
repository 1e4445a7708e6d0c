-- What a token counts at each tier, by its view alone (not part of Java's API).
pub use Rattle.tier_steps.specs.declared.view.View.{View}
pub use Rattle.tier_steps.specs.declared.view.Errand.{Errand}
pub use Rattle.tier_steps.specs.declared.view.Errand.TheVariants.{Rest, Opening, Climbing, Advancing}
pub use Rattle.tier_steps.specs.declared.view.Passage.{Passage}
pub use Rattle.tier_steps.specs.declared.view.Passage.TheVariants.{Arrival, Departure}
pub use Rattle.tier_steps.specs.declared.view.OpeningStage.{OpeningStage}
pub use Rattle.tier_steps.specs.declared.view.OpeningStage.TheVariants.{Seeking, Joined, GoingBack}
pub use Rattle.tier_shape.specs.Parents.{parent_of}
use Rattle.std.specs.Prelude.{ℕ, zero, suc, ◌+◌, ◌-◌, Bool, true, false, ◌==◌, if◌then◌else◌, None, List, [], ◌∷◌}

-- the tier that is `above` levels above another
abbrev pub ancestor : List ℕ → ℕ → ℕ → ℕ
ancestor parents tier zero = tier
ancestor parents tier (suc above) = parent_of parents (ancestor parents tier above)

-- the tiers that an opening has claimed, the highest first
abbrev pub claimed_tiers : List ℕ → ℕ → ℕ → List ℕ
claimed_tiers parents tier zero = []
claimed_tiers parents tier (suc claimed) = ancestor parents tier claimed ∷ claimed_tiers parents tier claimed

-- a token without members
abbrev pub new_view : ℕ → View
new_view phase = record { tier = 0; size = 0; phase = phase; arrived = 0; end_seen = None; led = false; note = None; errand = Rest }

-- the number of members that have not arrived in the root's phase
abbrev pub absent : ℕ → View → ℕ
absent root v = if v.phase == root then v.size - v.arrived else v.size

-- `count` at one tier, and 0 elsewhere
abbrev pub only_at : ℕ → ℕ → ℕ → ℕ
only_at t n u = if t == u then n else 0

-- What an errand adds to the parties of a tier. A departure is a party of the tier that it climbs to. After a join, the
-- claimed tiers are one party of the tier above them until they have parties.
abbrev pub errand_parties : List ℕ → Errand → ℕ → ℕ
errand_parties parents (Climbing t Departure) u = only_at t 1 u
errand_parties parents (Opening tier claimed Joined size) u = only_at (ancestor parents tier claimed) 1 u
errand_parties parents _ u = 0

-- What an errand adds to the unarrived parties of a tier. A climb of either kind is one.
abbrev pub errand_late : List ℕ → Errand → ℕ → ℕ
errand_late parents (Climbing t passage) u = only_at t 1 u
errand_late parents (Opening tier claimed Joined size) u = only_at (ancestor parents tier claimed) 1 u
errand_late parents _ u = 0

-- the members of a token that opens a path don't count at their tier until it has its parties
abbrev pub is_hidden : Errand → Bool
is_hidden (Opening tier claimed stage size) = true
is_hidden _ = false

-- what a token counts among the parties of a tier
abbrev pub party_share : List ℕ → ℕ → View → ℕ
party_share parents u v = (if is_hidden v.errand then 0 else only_at v.tier v.size u) + errand_parties parents v.errand u

-- what a token counts among the unarrived parties of a tier
abbrev pub late_share : ℕ → List ℕ → ℕ → View → ℕ
late_share root parents u v = (if is_hidden v.errand then 0 else only_at v.tier (absent root v) u) + errand_late parents v.errand u

-- how often an opening has claimed a tier
abbrev pub claims_on : List ℕ → ℕ → ℕ → ℕ → ℕ
claims_on parents tier zero u = 0
claims_on parents tier (suc claimed) u = only_at (ancestor parents tier claimed) 1 u + claims_on parents tier claimed u

abbrev pub errand_claims : List ℕ → ℕ → Errand → ℕ
errand_claims parents u (Opening tier claimed stage size) = claims_on parents tier claimed u
errand_claims parents u _ = 0

abbrev pub claim_share : List ℕ → ℕ → View → ℕ
claim_share parents u v = errand_claims parents u v.errand

abbrev pub errand_advances : Errand → ℕ
errand_advances Advancing = 1
errand_advances _ = 0

abbrev pub advance_share : View → ℕ
advance_share v = errand_advances v.errand
