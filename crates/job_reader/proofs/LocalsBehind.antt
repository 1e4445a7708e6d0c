-- The locals of an open body after a line, in either format.
use Rattle.std.proofs.Common.{◌≡◌, ℕ, Bool, true, false, List, [], ◌∷◌, ◌++◌, refl, sym, ap, ◌∙◌, append-nil}
use Rattle.std.specs.Prelude.{◌==◌, if◌then◌else◌}
use Rattle.std.specs.List.{list_all, flat_map}
use Rattle.std.proofs.lemmas.Grind.{flat_map-append}
use Rattle.task_code.specs.Names.{is_free, are_names}
use Rattle.job_reader.specs.Words.{Word, Words, noted}
use Rattle.job_reader.specs.Lines.{mentions_of}
use Rattle.job_reader.proofs.GrowLemmas.{noted-grows}
use Rattle.job_reader.proofs.NotedLemmas.{noted-append}
use Rattle.job_reader.specs.Grammar.{listed_in, locals_behind, locals_by}
use Rattle.job_reader.proofs.NotedNames.{names-noted}

-- they grow at their end
pub locals-grow : (format : ℕ) (ls ws : List Word) → (more : List Word) × (locals_behind format ls ws ≡ ls ++ more)
locals-grow format ls ws = by (format == 1)
  where
    by : (b : Bool) → (more : List Word) × ((if b then noted ls ws else ls) ≡ ls ++ more)
    by true = noted-grows ls ws
    by false = ([], sym (append-nil ls))

-- the body's first line stays the same
pub listed-same : (format : ℕ) (ls ws : List Word) → listed_in format (locals_behind format ls ws) ≡ listed_in format ls
listed-same format ls ws = by (format == 1)
  where
    by : (b : Bool) → (if b then [] else (if b then noted ls ws else ls)) ≡ (if b then [] else ls)
    by true = refl
    by false = refl

pub behind-append : (format : ℕ) (ls xs ys : List Word)
    → locals_behind format ls (xs ++ ys) ≡ locals_behind format (locals_behind format ls xs) ys
behind-append format ls xs ys = by (format == 1)
  where
    by : (b : Bool)
        → (if b then noted ls (xs ++ ys) else ls)
        ≡ (if b then noted (if b then noted ls xs else ls) ys else (if b then noted ls xs else ls))
    by true = noted-append ls xs ys
    by false = refl

pub behind-none : (format : ℕ) (ls : List Word) → locals_behind format ls [] ≡ ls
behind-none format ls = by (format == 1)
  where
    by : (b : Bool) → (if b then noted ls [] else ls) ≡ ls
    by true = refl
    by false = refl

-- a line more
pub by-one : (format : ℕ) (listed : List Word) (xs : List Words) (w : Words)
    → locals_by format listed (xs ++ w ∷ []) ≡ locals_behind format (locals_by format listed xs) (mentions_of w)
by-one format listed xs w =
    ap (locals_behind format listed) (flat_map-append mentions_of xs (w ∷ []))
    ∙ behind-append format listed (flat_map mentions_of xs) (mentions_of w ++ [])
    ∙ ap (locals_behind format (locals_by format listed xs)) (append-nil (mentions_of w))

-- they stay distinct names
pub names-behind : (format : ℕ) (ls ws : List Word) → are_names ls ≡ true → list_all is_free ws ≡ true
    → are_names (locals_behind format ls ws) ≡ true
names-behind format ls ws e f = by (format == 1)
  where
    by : (b : Bool) → are_names (if b then noted ls ws else ls) ≡ true
    by true = names-noted ls ws e f
    by false = e
