-- When the words of the tiers and the views of the tokens agree (own).
pub use Rattle.tier_shape.specs.Parents.{IsShape}
use Rattle.std.specs.Prelude.{◌≡◌, ℕ, ◌+◌, ◌≤◌, ◌<◌, ◌⊎◌, Bool, true, false, ◌==◌, if◌then◌else◌, Some, List, [], ◌∷◌, length, slice_index_or, sum_by}
use Rattle.std.specs.List.{AllByRecursion}
use Rattle.tier_steps.specs.Word.{Fields, IsLegal, next_phase_of, late, is_being_opened}
use Rattle.tier_steps.specs.View.{View, Errand, Rest, Opening, Climbing, Advancing, Seeking, Joined, GoingBack, party_share, late_share, claim_share, advance_share}

-- the word of a tier; past the last tier it is empty
abbrev pub blank : Fields
blank = record { phase = 0; parties = 0; unarrived = 1; ended = false }

abbrev pub word_at : List Fields → ℕ → Fields
word_at words t = slice_index_or words t blank

abbrev pub root_phase : List Fields → ℕ
root_phase words = (word_at words 0).phase

-- 1 for a tier that counts something, by a measure of words
abbrev pub counted : (Fields → ℕ) → Fields → ℕ
counted measure w = if measure w == 0 then 0 else 1

abbrev pub children_among : (Fields → ℕ) → ℕ → List ℕ → List Fields → ℕ
children_among measure t [] words = 0
children_among measure t (p ∷ parents) [] = 0
children_among measure t (p ∷ parents) (w ∷ words) = (if p == t then counted measure w else 0) + children_among measure t parents words

-- how many children of a tier count something; the first entry is the root's, which is no child
abbrev pub children : (Fields → ℕ) → ℕ → List ℕ → List Fields → ℕ
children measure t [] words = 0
children measure t (p ∷ parents) [] = 0
children measure t (p ∷ parents) (w ∷ words) = children_among measure t parents words

-- the tiers whose counts are compared: all but a root that has ended
abbrev pub Compared : List Fields → ℕ → Type 0
Compared words t = (t ≡ 0) → (word_at words 0).ended ≡ false

-- by a measure of words, each tier counts what the tokens count there, and one for each child that counts something
abbrev pub Balances : (Fields → ℕ) → (ℕ → View → ℕ) → List ℕ → List Fields → List View → Type 0
Balances measure share parents words views =
    (t : ℕ) → t < length words → Compared words t → measure (word_at words t) ≡ sum_by (share t) views + children measure t parents words

-- an open word is in the root's phase, or in the one before with nobody unarrived
abbrev pub KeepsUp : ℕ → Fields → Type 0
KeepsUp root w = 0 < w.parties → (w.phase ≡ root) ⊎ ((next_phase_of w.phase ≡ root) × (w.unarrived ≡ 0))

-- an opening is of an existing tier, for some members, and has claimed at least that tier
pub record OpeningFits (parents : List ℕ) (tier claimed size : ℕ) : Type 0 where
  pub claims : 0 < claimed
  pub place : tier < length parents
  pub some : 0 < size
  pub few : size ≤ 65535

-- whose join was taken, and whose members are all unarrived
pub record JoinFits (root : ℕ) (v : View) (tier size : ℕ) : Type 0 where
  pub phase : v.phase ≡ root
  pub arrived : v.arrived ≡ 0
  pub place : v.tier ≡ tier
  pub members : v.size ≡ size

abbrev pub ErrandFits : List ℕ → ℕ → View → Errand → Type 0
ErrandFits parents root v Rest = Unit {0}
ErrandFits parents root v (Opening tier claimed Seeking size) = OpeningFits parents tier claimed size × (v.size ≡ 0)
ErrandFits parents root v (Opening tier claimed GoingBack size) = OpeningFits parents tier claimed size × (v.size ≡ 0)
ErrandFits parents root v (Opening tier claimed Joined size) = OpeningFits parents tier claimed size × JoinFits root v tier size
ErrandFits parents root v (Climbing t passage) = (v.phase ≡ root) × (t < length parents)
ErrandFits parents root v Advancing = v.phase ≡ root

-- a view fits a root in this phase, ended or not
pub record ViewFits (parents : List ℕ) (root : ℕ) (ended : Bool) (v : View) : Type 0 where
  pub within : v.arrived ≤ v.size
  pub few : v.size ≤ 65535
  pub placed : 0 < v.size → v.tier < length parents
  pub current : 0 < v.size → (v.phase ≡ root) ⊎ ((next_phase_of v.phase ≡ root) × (v.arrived ≡ v.size))
  pub seen : (p : ℕ) → v.end_seen ≡ Some p → (ended ≡ true) × (p ≡ root)
  pub errand : ErrandFits parents root v v.errand

abbrev pub bit : Bool → ℕ
bit b = if b then 1 else 0

-- 1 for a field that is 0
abbrev pub is_zero : ℕ → ℕ
is_zero n = if n == 0 then 1 else 0

-- The tally: parties and unarrived parties balance at each tier, a tier is being opened exactly if a token claims it,
-- and the root's field is 0 exactly while a token advances.
pub record Tallies (parents : List ℕ) (words : List Fields) (views : List View) : Type 0 where
  pub long : length words ≡ length parents
  pub some : 0 < length words
  pub legal : (t : ℕ) → t < length words → IsLegal (word_at words t)
  -- the end is marked at the root alone
  pub ends : (t : ℕ) → 0 < t → t < length words → (word_at words t).ended ≡ false
  pub parties : Balances (λ w. w.parties) (party_share parents) parents words views
  pub unarrived : Balances (late (root_phase words)) (late_share (root_phase words) parents) parents words views
  pub claims : (t : ℕ) → t < length words → bit (is_being_opened (word_at words t)) ≡ sum_by (claim_share parents t) views
  pub root_claims : is_being_opened (word_at words 0) ≡ false
  pub phases : (t : ℕ) → t < length words → KeepsUp (root_phase words) (word_at words t)
  pub advances : (word_at words 0).ended ≡ false → is_zero (word_at words 0).unarrived ≡ sum_by advance_share views
  pub fits : AllByRecursion (ViewFits parents (root_phase words) (word_at words 0).ended) views
