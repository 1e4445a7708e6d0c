-- The first byte that isn't allowed, line by line.
use Rattle.std.proofs.Common.{◌≡◌, ◌++◌, ℕ, ◌+◌, ◌≤◌, ◌<◌, Bool, true, false, ◌&&◌, ◌||◌, ◌==◌, List, [], ◌∷◌, take, zero, suc, Option, Some, None, refl, sym, ap, ◌∙◌, arith}
use Rattle.std.specs.Prelude.{if◌then◌else◌, nat_le}
use Rattle.std.specs.List.{list_all}
use Rattle.text_lines.specs.Text.{lines_of, onto_first, is_allowed, bad_byte_line}

abbrev pub bad_line : ℕ → List (List ℕ) → Option ℕ
bad_line n [] = None
bad_line n (l ∷ ls) = if list_all is_allowed l then bad_line (n + 1) ls else Some n

no-lines : (b : Bool) (n : ℕ) → (if b then None else Some n) ≡ (if b && true then None else Some n)
no-lines true n = refl
no-lines false n = refl

some-lines : (a b : Bool) (n : ℕ) (o : Option ℕ) → (if a then if b then o else Some n else Some n) ≡ (if a && b then o else Some n)
some-lines true b n o = refl
some-lines false b n o = refl

-- a byte in front of the first line
onto-bad : (n c : ℕ) (ls : List (List ℕ)) → (if is_allowed c then bad_line n ls else Some n) ≡ bad_line n (onto_first c ls)
onto-bad n c [] = no-lines (is_allowed c) n
onto-bad n c (l ∷ ls) = some-lines (is_allowed c) (list_all is_allowed l) n (bad_line (n + 1) ls)

byte-cases : (c n : ℕ) (cs : List ℕ) (b : Bool) → (c == 10) ≡ b
    → bad_byte_line n cs ≡ bad_line n (lines_of cs) → bad_byte_line (n + 1) cs ≡ bad_line (n + 1) (lines_of cs)
    → (if (b || (nat_le 32 c && nat_le c 126)) then bad_byte_line (if b then n + 1 else n) cs else Some n)
    ≡ bad_line n (if b then [] ∷ lines_of cs else onto_first c (lines_of cs))
byte-cases c n cs true e same next = next
byte-cases c n cs false e same next =
    ap (λ (o : Option ℕ). if nat_le 32 c && nat_le c 126 then o else Some n) same
    ∙ ap (λ (b : Bool). if b || (nat_le 32 c && nat_le c 126) then bad_line n (lines_of cs) else Some n) (sym e)
    ∙ onto-bad n c (lines_of cs)

pub by-lines : (text : List ℕ) (n : ℕ) → bad_byte_line n text ≡ bad_line n (lines_of text)
by-lines [] n = refl
by-lines (c ∷ cs) n = byte-cases c n cs (c == 10) refl (by-lines cs n) (by-lines cs (n + 1))

if-none : (b : Bool) (o : Option ℕ) (n m : ℕ) → (if b then o else Some n) ≡ Some m → (o ≡ Some m → n ≤ m) → n ≤ m
if-none true o n m e h = h e
if-none false o n m e h = let same : n ≡ m = cc in omega (arith, same)

at-least : (ls : List (List ℕ)) (n m : ℕ) → bad_line n ls ≡ Some m → n ≤ m
at-least [] n m e = absurd cc
at-least (l ∷ ls) n m e =
    if-none (list_all is_allowed l) (bad_line (n + 1) ls) n m e
    (λ f. let later : n + 1 ≤ m = at-least ls (n + 1) m f in omega (arith, later))

if-same : (b : Bool) (o p : Option ℕ) (n m : ℕ) → (if b then o else Some n) ≡ Some m → (o ≡ Some m → p ≡ Some m)
    → (if b then p else Some n) ≡ Some m
if-same true o p n m e h = h e
if-same false o p n m e h = e

-- it is found in the lines up to it
pub found-in-front : (ls : List (List ℕ)) (k n m : ℕ) → bad_line n ls ≡ Some m → m < n + k → bad_line n (take k ls) ≡ Some m
found-in-front [] zero n m e h = absurd cc
found-in-front [] (suc k) n m e h = absurd cc
found-in-front (l ∷ ls) zero n m e h = let low : n ≤ m = at-least (l ∷ ls) n m e in absurd omega (arith, low, h)
found-in-front (l ∷ ls) (suc k) n m e h =
    if-same (list_all is_allowed l) (bad_line (n + 1) ls) (bad_line (n + 1) (take k ls)) n m e
    (λ f. found-in-front ls k (n + 1) m f (omega (arith, h)))

-- and in all lines after those
pub found-behind : (ls back : List (List ℕ)) (n m : ℕ) → bad_line n ls ≡ Some m → bad_line n (ls ++ back) ≡ Some m
found-behind [] back n m e = absurd cc
found-behind (l ∷ ls) back n m e =
    if-same (list_all is_allowed l) (bad_line (n + 1) ls) (bad_line (n + 1) (ls ++ back)) n m e (λ f. found-behind ls back (n + 1) m f)
