-- How the heads of traces are written: in these ways and no others (own).
use Rattle.std.specs.Prelude.{◌≡◌, ◌≤◌, ◌↔◌, ◌⊎◌, ℕ, Bool, true, false, not, List, [], ◌∷◌, ◌++◌, Option, None, Some, Ok, codes, decimal, FitsSigned}
use Rattle.std.specs.Fmt.{signed_decimal}
use Rattle.std.specs.Int.{w64}
use Rattle.trace_text.specs.declared.words.PhaserHead.{PhaserHead}
use Rattle.trace_text.specs.declared.barrier_words.BarrierHead.{BarrierHead}
use Rattle.trace_text.specs.Words.{Word}
use Rattle.trace_text.specs.TreeWords.{TreeAsked}
use Rattle.trace_text.specs.Trace.{OfPhaser, OfTree, OfBarrier, head_of}

-- a number, which may be left out if it is this one
abbrev pub IsNumberOr : ℕ → ℕ → List Word → Type 0
IsNumberOr usual n words = (words ≡ decimal n ∷ []) ⊎ ((n ≡ usual) × (words ≡ []))

-- a keyword and a number, which may be left out if it is this one
abbrev pub IsKeyOr : Word → ℕ → ℕ → List Word → Type 0
IsKeyOr key usual n words = (words ≡ key ∷ decimal n ∷ []) ⊎ ((n ≡ usual) × (words ≡ []))

-- a keyword and a number, or nothing if there is none
abbrev pub IsKey : Word → Option ℕ → List Word → Type 0
IsKey key None words = words ≡ []
IsKey key (Some n) words = words ≡ key ∷ decimal n ∷ []

-- a keyword, or nothing
abbrev pub IsWordIf : Word → Bool → List Word → Type 0
IsWordIf key false words = words ≡ []
IsWordIf key true words = words ≡ key ∷ []

abbrev pub IsUpTo : ℕ → Option ℕ → Type 0
IsUpTo most None = Unit {0}
IsUpTo most (Some n) = n ≤ most

-- `phaser PARTIES [PHASE] [least L] [at Q]`, without PHASE in phase 0, and without `least` if it is 1
pub record SpellsPhaser (h : PhaserHead) (words : List Word) : Type 0 where
  pub phase : List Word
  pub least : List Word
  pub at : List Word
  pub whole : words ≡ codes "phaser" ∷ signed_decimal h.parties ∷ (phase ++ (least ++ at))
  pub phase_is : IsNumberOr 0 h.phase phase
  pub least_is : IsKeyOr (codes "least") 1 h.plan.least least
  pub at_is : IsKey (codes "at") h.plan.at at
  pub parties_fit : FitsSigned w64 h.parties
  pub phase_fits : h.phase ≤ 2147483647
  pub least_fits : h.plan.least ≤ 65536
  pub at_fits : IsUpTo 2147483647 h.plan.at

-- `tree WIDTHS [PHASE] [keep] [at Q]`, with `keep` if it doesn't end when it is empty
pub record SpellsTree (h : TreeAsked) (words : List Word) : Type 0 where
  pub phase : List Word
  pub keep : List Word
  pub at : List Word
  pub whole : words ≡ codes "tree" ∷ h.widths ∷ (phase ++ (keep ++ at))
  pub phase_is : IsNumberOr 0 h.phase phase
  pub keep_is : IsWordIf (codes "keep") (not h.plan.when_empty) keep
  pub at_is : IsKey (codes "at") h.plan.at at
  pub phase_fits : h.phase ≤ 2147483647
  pub at_fits : IsUpTo 2147483647 h.plan.at

-- `barrier PARTIES [fails G]`
pub record SpellsBarrier (h : BarrierHead) (words : List Word) : Type 0 where
  pub fails : List Word
  pub whole : words ≡ codes "barrier" ∷ signed_decimal h.parties ∷ fails
  pub fails_is : IsKey (codes "fails") h.fails fails
  pub parties_fit : FitsSigned w64 h.parties
  pub fails_fit : IsUpTo 9223372036854775807 h.fails

-- A line is read as a head exactly if it is written so.
abbrev pub HeadsAreSpelled : Type 0
HeadsAreSpelled =
    ((words : List Word) (h : PhaserHead) → (head_of words ≡ Ok (OfPhaser h)) ↔ SpellsPhaser h words)
    × ((words : List Word) (h : TreeAsked) → (head_of words ≡ Ok (OfTree h)) ↔ SpellsTree h words)
    × ((words : List Word) (h : BarrierHead) → (head_of words ≡ Ok (OfBarrier h)) ↔ SpellsBarrier h words)
