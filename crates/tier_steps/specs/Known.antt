-- What the tally says of one view beside the word of one tier, and nothing of any other token (own).
use Rattle.std.specs.Prelude.{◌≡◌, ℕ, ◌≤◌, ◌<◌, Bool, false, List, [], ◌∷◌, ◌++◌, length, sum_by}
use Rattle.std.specs.List.{AllByRecursion}
use Rattle.tier_steps.specs.Word.{Fields, IsLegal, late, is_being_opened}
use Rattle.tier_steps.specs.View.{View, party_share, late_share, claim_share, advance_share}
use Rattle.tier_steps.specs.Tally.{word_at, root_phase, KeepsUp, ViewFits, bit, is_zero, Tallies, IsShape}
use Rattle.tier_steps.specs.Step.{Kind, Needs, IsRunnable}
use Rattle.tier_steps.specs.Laws.{words_after, stepped_view}

pub record Known (parents : List ℕ) (t : ℕ) (w : Fields) (v : View) : Type 0 where
  -- the root's phase and end, whatever they are
  pub root : ℕ
  pub ended : Bool
  pub root_legal : root ≤ 2147483647
  pub legal : IsLegal w
  pub below : 0 < t → w.ended ≡ false
  pub at_root : t ≡ 0 → (w.phase ≡ root) × (w.ended ≡ ended)
  pub keeps_up : KeepsUp root w
  pub fits : ViewFits parents root ended v
  -- what the token counts there is among what the tier counts
  pub parties : (t ≡ 0 → ended ≡ false) → party_share parents t v ≤ w.parties
  pub unarrived : (t ≡ 0 → ended ≡ false) → late_share root parents t v ≤ late root w
  pub claims : claim_share parents t v ≤ bit (is_being_opened w)
  pub advances : t ≡ 0 → ended ≡ false → advance_share v ≤ is_zero w.unarrived

abbrev pub TallyIsKnown : Type 0
TallyIsKnown =
    (parents : List ℕ) (words : List Fields) (front : List View) (v : View) (back : List View) (t : ℕ)
    → t < length words → Tallies parents words (front ++ v ∷ back) → Known parents t (word_at words t) v

-- A step that a token may take is one that the code can run, as far as the token can know.
abbrev pub StepsAreRunnable : Type 0
StepsAreRunnable =
    (parents : List ℕ) (t : ℕ) (w : Fields) (v : View) (kind : Kind)
    → IsShape parents → length parents ≤ 65535 → Known parents t w v → Needs parents kind t w v → IsRunnable kind t w v

-- seats that hold lists of views
abbrev pub seated_views : List (List View) → List View
seated_views [] = []
seated_views (views ∷ seats) = views ++ seated_views seats

-- A step by a seat with one view keeps the tally.
abbrev pub SeatsKeepTally : Type 0
SeatsKeepTally =
    (parents : List ℕ) (words : List Fields) (front : List (List View)) (v : View) (back : List (List View)) (t : ℕ) (kind : Kind)
    → IsShape parents → t < length words
    → Tallies parents words (seated_views (front ++ (v ∷ []) ∷ back))
    → Needs parents kind t (word_at words t) v
    → Tallies parents (words_after words kind t v) (seated_views (front ++ (stepped_view parents words kind t v ∷ []) ∷ back))

-- two lists of views that no sum distinguishes
pub record SameShares (parents : List ℕ) (root : ℕ) (old new : List View) : Type 0 where
  pub parties : (t : ℕ) → sum_by (party_share parents t) new ≡ sum_by (party_share parents t) old
  pub unarrived : (t : ℕ) → sum_by (late_share root parents t) new ≡ sum_by (late_share root parents t) old
  pub claims : (t : ℕ) → sum_by (claim_share parents t) new ≡ sum_by (claim_share parents t) old
  pub advances : sum_by advance_share new ≡ sum_by advance_share old

-- A regrouping of views that changes no sum keeps the tally.
abbrev pub RegroupingKeepsTally : Type 0
RegroupingKeepsTally =
    (parents : List ℕ) (words : List Fields) (old new : List View)
    → Tallies parents words old → SameShares parents (root_phase words) old new
    → AllByRecursion (ViewFits parents (root_phase words) (word_at words 0).ended) new
    → Tallies parents words new
