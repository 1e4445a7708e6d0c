-- A token's two marks after a step: that it led the last advance, and what refused its join (not part of Java's API).
use Rattle.std.specs.Prelude.{◌≡◌, ℕ, ◌==◌, Bool, true, false, Some, None, List}
use Rattle.tier_steps.specs.Word.{Fields}
use Rattle.tier_steps.specs.View.{View}
use Rattle.tier_steps.specs.Tally.{word_at}
use Rattle.tier_steps.specs.Step.{Kind, Look, Refuse, is_going_back}
use Rattle.tier_steps.specs.Due.{is_advance}
use Rattle.tier_steps.specs.Laws.{stepped_view}

-- the steps that look at the root
abbrev pub sees_root : ℕ → Kind → Bool
sees_root t Look = true
sees_root t (Refuse tier claimed size) = t == 0
sees_root t _ = false

abbrev pub is_refusal : Kind → Bool
is_refusal (Refuse tier claimed size) = true
is_refusal _ = false

-- The mark that a token led is set from an advance that it takes to its next look at the root.
pub record LedIsSpelledOut (t : ℕ) (kind : Kind) (old new : View) : Type 0 where
  pub advance : is_advance kind ≡ true → new.led ≡ true
  pub look : sees_root t kind ≡ true → new.led ≡ false
  pub other : is_advance kind ≡ false → sees_root t kind ≡ false → new.led ≡ old.led

-- A refusal is noted, with its tier and the word found there, until the next look at the root that is not part of releasing claimed tiers.
pub record NoteIsSpelledOut (t : ℕ) (w : Fields) (kind : Kind) (old new : View) : Type 0 where
  pub refused : is_refusal kind ≡ true → new.note ≡ Some (t, w)
  pub look : sees_root t kind ≡ true → is_refusal kind ≡ false → is_going_back old.errand ≡ false → new.note ≡ None
  pub back : is_refusal kind ≡ false → is_going_back old.errand ≡ true → new.note ≡ old.note
  pub other : is_refusal kind ≡ false → sees_root t kind ≡ false → new.note ≡ old.note

abbrev pub MarksAreSpelledOut : Type 0
MarksAreSpelledOut =
    (parents : List ℕ) (words : List Fields) (v : View) (t : ℕ) (kind : Kind)
    → LedIsSpelledOut t kind v (stepped_view parents words kind t v)
    × NoteIsSpelledOut t (word_at words t) kind v (stepped_view parents words kind t v)
