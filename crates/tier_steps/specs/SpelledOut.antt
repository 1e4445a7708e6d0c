-- The tally in plain terms: who the parties of a tier and its unarrived parties are, who claims it, and who advances (not part of Java's
-- API).
use Rattle.std.specs.Prelude.{◌≡◌, ℕ, zero, suc, ◌+◌, ◌<◌, ◌⊎◌, Bool, true, false, Some, List, length, sum_by}
use Rattle.std.specs.List.{AllByRecursion}
use Rattle.tier_steps.specs.Word.{Fields, next_phase_of, late, is_empty, is_being_opened}
use Rattle.tier_steps.specs.View.{View, Errand, Opening, Climbing, Advancing, Joined, Departure, parent_of, ancestor, absent, only_at, claim_share, advance_share}
use Rattle.tier_steps.specs.Tally.{word_at, root_phase, children, Compared, KeepsUp, Tallies, IsShape}

-- the number of a token's members at a tier, and of those that have not arrived
abbrev pub members_at : ℕ → View → ℕ
members_at t v = only_at v.tier v.size t

abbrev pub absent_at : ℕ → ℕ → View → ℕ
absent_at root t v = only_at v.tier (absent root v) t

-- a departure that climbs to the tier, and a climb of either kind
abbrev pub departing : ℕ → Errand → ℕ
departing t (Climbing to Departure) = only_at to 1 t
departing t _ = 0

abbrev pub climbing : ℕ → Errand → ℕ
climbing t (Climbing to passage) = only_at to 1 t
climbing t _ = 0

-- the number of claimed tiers that are children of a tier
abbrev pub children_on : List ℕ → ℕ → ℕ → ℕ → ℕ
children_on parents tier zero t = 0
children_on parents tier (suc claimed) t =
    only_at (parent_of parents (ancestor parents tier claimed)) 1 t + children_on parents tier claimed t

-- the children of a tier that are claimed by a token whose join was taken, and that still have no parties
abbrev pub claimed_children : List ℕ → ℕ → Errand → ℕ
claimed_children parents t (Opening tier claimed Joined size) = children_on parents tier claimed t
claimed_children parents t _ = 0

-- the parties of a tier: members there, open children, departures that climb to it, and claimed children of joined tokens
abbrev pub parties_counted : List ℕ → List Fields → List View → ℕ → ℕ
parties_counted parents words views t =
    sum_by (members_at t) views
    + children (λ w. w.parties) t parents words
    + sum_by (λ v. departing t v.errand) views
    + sum_by (λ v. claimed_children parents t v.errand) views

-- its unarrived parties: unarrived members there, children with an unarrived party, climbs of both kinds to it, and claimed children of
-- joined tokens
abbrev pub unarrived_counted : List ℕ → List Fields → List View → ℕ → ℕ
unarrived_counted parents words views t =
    sum_by (absent_at (root_phase words) t) views
    + children (late (root_phase words)) t parents words
    + sum_by (λ v. climbing t v.errand) views
    + sum_by (λ v. claimed_children parents t v.errand) views

-- a token that climbs, advances, or has joined and still has claimed tiers
abbrev pub is_under_way : Errand → Bool
is_under_way Advancing = true
is_under_way (Climbing t passage) = true
is_under_way (Opening tier claimed Joined size) = true
is_under_way _ = false

-- what the tally says of one view, for a root in this phase, ended or not
pub record IsViewSpelledOut (root : ℕ) (ended : Bool) (v : View) : Type 0 where
  pub current : 0 < v.size → (v.phase ≡ root) ⊎ ((next_phase_of v.phase ≡ root) × (v.arrived ≡ v.size))
  pub under_way : is_under_way v.errand ≡ true → v.phase ≡ root
  pub seen : (phase : ℕ) → v.end_seen ≡ Some phase → (ended ≡ true) × (phase ≡ root)

pub record IsSpelledOut (parents : List ℕ) (words : List Fields) (views : List View) : Type 0 where
  -- for each open tier, each empty one, and the root until it has ended
  pub parties : (t : ℕ) → t < length words → Compared words t → is_being_opened (word_at words t) ≡ false
      → (word_at words t).parties ≡ parties_counted parents words views t
  pub unarrived : (t : ℕ) → t < length words → Compared words t → is_being_opened (word_at words t) ≡ false
      → late (root_phase words) (word_at words t) ≡ unarrived_counted parents words views t
  -- an open tier is in the root's phase, or one phase earlier with nobody unarrived
  pub phases : (t : ℕ) → t < length words → KeepsUp (root_phase words) (word_at words t)
  pub empty : (t : ℕ) → 0 < t → t < length words → is_empty (word_at words t) ≡ true
      → (parties_counted parents words views t ≡ 0) × (unarrived_counted parents words views t ≡ 0)
  -- a tier that is being opened is claimed by one token, and a claimed tier is being opened
  pub opened : (t : ℕ) → t < length words → is_being_opened (word_at words t) ≡ true → sum_by (claim_share parents t) views ≡ 1
  pub claimed : (t : ℕ) → t < length words → 0 < sum_by (claim_share parents t) views → is_being_opened (word_at words t) ≡ true
  -- the root's field is 0 exactly while one token advances
  pub due : (word_at words 0).ended ≡ false → (word_at words 0).unarrived ≡ 0 → sum_by advance_share views ≡ 1
  pub advances : (word_at words 0).ended ≡ false → 0 < sum_by advance_share views → (word_at words 0).unarrived ≡ 0
  pub each : AllByRecursion (IsViewSpelledOut (root_phase words) (word_at words 0).ended) views

-- The tally says all this.
abbrev pub TallyIsSpelledOut : Type 0
TallyIsSpelledOut = (parents : List ℕ) (words : List Fields) (views : List View) → IsShape parents → Tallies parents words views
    → IsSpelledOut parents words views
