-- How the next live tasks of stretches are put together (own).
use Rattle.std.specs.Prelude.{◌≡◌, ℕ, true, false, List, [], ◌∷◌, ◌++◌, map, length, Option, Some, None}
use Rattle.superstep_memory.specs.Paths.{path_lt, is_rising}
use Rattle.superstep_memory.specs.PathOrder.{put_all}
use Rattle.programs.specs.Regroup.{AreNumbered, IsBefore, IsWithin}
use Rattle.program_stretches.specs.PartValue.{PartValue}
use Rattle.program_stretches.specs.Parts.{fresh_part}
use Rattle.program_stretches.specs.declared.next.Piece.{Piece}

module _ {S : Type 0} where
  -- the last of tasks, which are given from the last to the first, doesn't come after this path
  abbrev pub IsEndWithin : (S → List ℕ) → Option (List ℕ) → List S → Type 0
  IsEndWithin q low [] = Unit {0}
  IsEndWithin q low (t ∷ ts) = IsWithin q low t

  -- there is a stray, and the first comes before this path
  abbrev pub IsFirstBefore : (S → List ℕ) → Option (List ℕ) → List S → Type 0
  IsFirstBefore q low [] = ⊥
  IsFirstBefore q low (w ∷ ws) = IsBefore q low w

  -- the first stray comes after the last of tasks, which are given from the last to the first
  abbrev pub PassesBy : (S → List ℕ) → List S → List S → Type 0
  PassesBy q [] ws = Unit {0}
  PassesBy q (t ∷ ts) [] = Unit {0}
  PassesBy q (t ∷ ts) (w ∷ ws) = path_lt (q t) (q w) ≡ true

  -- there is a stray, and it comes before the last of tasks, which are given from the last to the first, or is at its path
  abbrev pub IsStrayNext : (S → List ℕ) → List S → List S → Type 0
  IsStrayNext q [] ws = ⊥
  IsStrayNext q (t ∷ ts) [] = ⊥
  IsStrayNext q (t ∷ ts) (w ∷ ws) = path_lt (q t) (q w) ≡ false

  -- the last of some was moved to the end of others
  pub record HasMovedLast (from rest before after : List S) : Type 0 where
    pub last : S
    pub cut : from ≡ rest ++ last ∷ []
    pub moved : after ≡ before ++ last ∷ []

  -- the first strays were put in their places among these tasks, so that the others have theirs behind them, whatever is there
  pub record Receives (q : S → List ℕ) (before after waited waits : List S) : Type 0 where
    pub front : List S
    pub cut : waited ≡ front ++ waits
    pub all : (rest : List S) → after ++ put_all q waits rest ≡ put_all q waited (before ++ rest)

  -- the tasks of pieces, of which the last comes first
  abbrev pub all_in : List (Piece S) → List S
  all_in [] = []
  all_in (p ∷ ps) = all_in ps ++ p.tasks.items

  -- the tasks of pieces, of which the first comes first
  abbrev pub all_of : List (Piece S) → List S
  all_of [] = []
  all_of (p ∷ ps) = p.tasks.items ++ all_of ps

  -- their stretches have no tasks
  abbrev pub AreEmpty : List (Piece S) → Type 0
  AreEmpty [] = Unit {0}
  AreEmpty (p ∷ ps) = (p.part ≡ fresh_part 0 []) × AreEmpty ps

  -- its tasks have run, and each has its deed, with numbered tasks
  pub record CanSettle (q : S → List ℕ) (part : PartValue S) : Type 0 where
    pub done : part.done ≡ true
    pub same : length part.tasks ≡ length part.deeds
    pub rising : is_rising (map q part.tasks) ≡ true
    pub numbered : AreNumbered q part.tasks part.deeds

  -- so have those of each that is there
  abbrev pub CanAllSettle : (S → List ℕ) → List (Option (PartValue S)) → Type 0
  CanAllSettle q [] = Unit {0}
  CanAllSettle q (None ∷ ss) = CanAllSettle q ss
  CanAllSettle q (Some part ∷ ss) = CanSettle q part × CanAllSettle q ss
