-- When the flat phaser that a tree represents is due to advance, and what keeps the root from advancing (not part of
-- Java's API).
use Rattle.std.specs.Prelude.{◌≡◌, ◌≢◌, ◌↔◌, ℕ, ◌<◌, Bool, true, false, List, ◌∷◌, ◌++◌, length, sum_by}
use Rattle.std.specs.List.{AllByRecursion}
use Rattle.flat_phaser.specs.Flat.{everyone_arrived, registered, unarrived}
use Rattle.tier_steps.specs.Word.{Fields}
use Rattle.tier_steps.specs.View.{View, Rest, late_share}
use Rattle.tier_steps.specs.Tally.{word_at, root_phase, Tallies, IsShape}
use Rattle.tier_steps.specs.Step.{Kind, Advance}
use Rattle.tier_steps.specs.Image.{image, all_members}
use Rattle.tier_steps.specs.Laws.{IsStep, words_after}

-- what an advance finds
pub record IsReady (words : List Fields) (views : List View) : Type 0 where
  pub everyone : everyone_arrived (root_phase words) (all_members 0 views) ≡ true
  pub due : (image words views).due ≡ true
  -- the root has no parties exactly if no token has a member
  pub nobody : ((word_at words 0).parties ≡ 0) ↔ (registered (image words views) ≡ 0)

abbrev pub AdvancesAreDue : Type 0
AdvancesAreDue =
    (parents : List ℕ) (words : List Fields) (front : List View) (v : View) (back : List View) (t : ℕ) (ends : Bool)
    → IsStep parents words front v back t (Advance ends) → IsReady words (front ++ v ∷ back)

-- If no token has an errand, no advance is due.
abbrev pub QuietIsNotDue : Type 0
QuietIsNotDue = (words : List Fields) (views : List View) → AllByRecursion (λ v. v.errand ≡ Rest) views → (image words views).due ≡ false

-- The reason is that it waits: if the tree has not ended, no token has an errand and there is a member, some member has not arrived.
abbrev pub QuietTreesAwaitSomebody : Type 0
QuietTreesAwaitSomebody =
    (parents : List ℕ) (words : List Fields) (views : List View) → IsShape parents → Tallies parents words views
    → (word_at words 0).ended ≡ false
    → AllByRecursion (λ v. v.errand ≡ Rest) views → 0 < registered (image words views) → 0 < unarrived (image words views)

-- The image has as many members as the tokens together.
abbrev pub MembersAreSizes : Type 0
MembersAreSizes =
    (parents : List ℕ) (words : List Fields) (views : List View) → Tallies parents words views
    → registered (image words views) ≡ sum_by (λ v. v.size) views

-- While a token counts among the unarrived parties of some tier, the root has unarrived parties.
abbrev pub UnarrivedHoldTheRoot : Type 0
UnarrivedHoldTheRoot =
    (parents : List ℕ) (words : List Fields) (front : List View) (v : View) (back : List View) (t : ℕ)
    → IsShape parents → Tallies parents words (front ++ v ∷ back) → (word_at words 0).ended ≡ false → t < length parents
    → 0 < late_share (root_phase words) parents t v
    → (word_at words 0).unarrived ≢ 0

abbrev pub is_advance : Kind → Bool
is_advance (Advance ends) = true
is_advance _ = false

-- A tier in the root's phase stays there until the root advances.
abbrev pub PhasesStay : Type 0
PhasesStay =
    (parents : List ℕ) (words : List Fields) (front : List View) (v : View) (back : List View) (t : ℕ) (kind : Kind) (u : ℕ)
    → IsStep parents words front v back t kind → is_advance kind ≡ false → u < length words
    → (word_at words u).phase ≡ root_phase words
    → (word_at (words_after words kind t v) u).phase ≡ root_phase words
