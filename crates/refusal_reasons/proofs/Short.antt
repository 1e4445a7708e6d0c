-- Reasons have few bytes.
use Rattle.std.proofs.Common.{◌≡◌, ◌==◌, ℕ, zero, suc, ◌+◌, ◌-◌, ◌*◌, ◌≤◌, Bool, true, false, nat_le, nat_lt, List, [], ◌∷◌, ◌++◌, length, take, drop, replicate, Option, Some, None, refl, arith, codes, decimal, length-append, length-take, length-drop}
use Rattle.std.specs.Prelude.{max, ◌/◌, ◌%◌, ◌&&◌, if◌then◌else◌, slice_get, unwrap_or}
use Rattle.std.specs.Str.{bytes_eq}
use Rattle.std.proofs.lemmas.List.{length-replicate}
use Rattle.std.proofs.lemmas.Fmt.{length-decimal-le}
use Rattle.text_lines.specs.Refusals.{code_number}
use Rattle.text_lines.specs.Text.{is_allowed, lines_of, onto_first, words_of}
use Rattle.text_lines.specs.declared.refusal.Code.{Code}
use Rattle.text_lines.specs.declared.refusal.Code.TheVariants.{TooLong, BadByte, BadHeader, UnknownLine, BadName, BadNumber, BadLine, Twice, UnknownName, Unclosed, BadNesting, TooMany, BadLength, Reserved}
use Rattle.text_lines.specs.declared.refusal.Refusal.{Refusal}
use Rattle.job_reader.specs.Words.{Words}
use Rattle.refusal_reasons.specs.Known.{above, open_after, open_block, opening, opens}
use Rattle.refusal_reasons.specs.Lines.{line_at}
use Rattle.refusal_reasons.specs.Meanings.{meaning}
use Rattle.refusal_reasons.specs.Names.{code_name}
use Rattle.refusal_reasons.specs.Places.{before_bad, before_byte, before_fault, before_mark, before_part, before_word, front_word, place_by}
use Rattle.refusal_reasons.specs.Reasons.{ReasonsAreShort, dots, first_word_at, head, hex, hidden, line_shown, mark, most_shown, open_line, open_shown, part_line, place_shown, refusal_reason, shown, shown_by, shown_byte, is_outer}
use Rattle.refusal_reasons.specs.declared.marks.Mark.{Mark}
use Rattle.refusal_reasons.specs.declared.marks.Part.{Part}
use Rattle.refusal_reasons.specs.declared.marks.Part.TheVariants.{Whole, Array, Index}
use Rattle.refusal_reasons.specs.declared.meaning.Kind.{Kind}
use Rattle.refusal_reasons.specs.declared.meaning.Kind.TheVariants.{Job, Trace}
use Rattle.refusal_reasons.specs.declared.place.Place.{Place}

-- ---- numbers and texts

below : (n m : ℕ) → nat_le n m ≡ true → n ≤ m
below n m h = grind arith

-- a text of at most so many bytes
record Short (a : List ℕ) (m : ℕ) : Type 0 where
  few : length a ≤ m

-- a text after another
join : {a b : List ℕ} {m n : ℕ} → Short a m → Short b n → Short (a ++ b) (m + n)
join {a} {b} {m} {n} h g = record { few = let e = length-append a b in let x = h.few in let y = g.few in omega (arith, e, x, y) }

of : (a : List ℕ) (m : ℕ) → length a ≤ m → Short a m
of a m h = record { few = h }

text_of : (a : List ℕ) (m : ℕ) → nat_le (length a) m ≡ true → Short a m
text_of a m h = of a m (below (length a) m h)

same : (a : List ℕ) → length a ≤ length a
same a = omega arith

-- so many of a byte
times : (n m byte : ℕ) → n ≤ m → length (replicate n byte) ≤ m
times n m byte h = let e = length-replicate {A = ℕ} n byte in omega (arith, e, h)

name-short : (c : Code) → length (code_name c) ≤ 11
name-short TooLong = below _ 11 refl
name-short BadByte = below _ 11 refl
name-short BadHeader = below _ 11 refl
name-short UnknownLine = below _ 11 refl
name-short BadName = below _ 11 refl
name-short BadNumber = below _ 11 refl
name-short BadLine = below _ 11 refl
name-short Twice = below _ 11 refl
name-short UnknownName = below _ 11 refl
name-short Unclosed = below _ 11 refl
name-short BadNesting = below _ 11 refl
name-short TooMany = below _ 11 refl
name-short BadLength = below _ 11 refl
name-short Reserved = below _ 11 refl

number-small : (c : Code) → code_number c ≤ 14
number-small TooLong = below _ 14 refl
number-small BadByte = below _ 14 refl
number-small BadHeader = below _ 14 refl
number-small UnknownLine = below _ 14 refl
number-small BadName = below _ 14 refl
number-small BadNumber = below _ 14 refl
number-small BadLine = below _ 14 refl
number-small Twice = below _ 14 refl
number-small UnknownName = below _ 14 refl
number-small Unclosed = below _ 14 refl
number-small BadNesting = below _ 14 refl
number-small TooMany = below _ 14 refl
number-small BadLength = below _ 14 refl
number-small Reserved = below _ 14 refl

meaning-short : (k : Kind) (c : Code) → length (meaning k c) ≤ 70
meaning-short Job TooLong = below _ 70 refl
meaning-short Job BadByte = below _ 70 refl
meaning-short Job BadHeader = below _ 70 refl
meaning-short Job UnknownLine = below _ 70 refl
meaning-short Job BadName = below _ 70 refl
meaning-short Job BadNumber = below _ 70 refl
meaning-short Job BadLine = below _ 70 refl
meaning-short Job Twice = below _ 70 refl
meaning-short Job UnknownName = below _ 70 refl
meaning-short Job Unclosed = below _ 70 refl
meaning-short Job BadNesting = below _ 70 refl
meaning-short Job TooMany = below _ 70 refl
meaning-short Job BadLength = below _ 70 refl
meaning-short Job Reserved = below _ 70 refl
meaning-short Trace TooLong = below _ 70 refl
meaning-short Trace BadByte = below _ 70 refl
meaning-short Trace BadHeader = below _ 70 refl
meaning-short Trace UnknownLine = below _ 70 refl
meaning-short Trace BadName = below _ 70 refl
meaning-short Trace BadNumber = below _ 70 refl
meaning-short Trace BadLine = below _ 70 refl
meaning-short Trace Twice = below _ 70 refl
meaning-short Trace UnknownName = below _ 70 refl
meaning-short Trace Unclosed = below _ 70 refl
meaning-short Trace BadNesting = below _ 70 refl
meaning-short Trace TooMany = below _ 70 refl
meaning-short Trace BadLength = below _ 70 refl
meaning-short Trace Reserved = below _ 70 refl

-- a number of a line or a column
number-short : (n : ℕ) → n ≤ 1048580 → length (decimal n) ≤ 7
number-short n h = length-decimal-le 7 n (omega arith) (omega (arith, h)) (omega (arith, h))

-- ---- lines

-- each of these lines has at most so many bytes
abbrev AllShort : ℕ → List (List ℕ) → Type 0
AllShort b [] = Unit {0}
AllShort b (l ∷ ls) = (length l ≤ b) × AllShort b ls

longer : (b : ℕ) (ls : List (List ℕ)) → AllShort b ls → AllShort (suc b) ls
longer b [] h = tt
longer b (l ∷ ls) h = (let le = h.0 in omega (arith, le), longer b ls h.1)

onto-short : (b c : ℕ) (ls : List (List ℕ)) → AllShort b ls → AllShort (suc b) (onto_first c ls)
onto-short b c [] h = (omega arith, tt)
onto-short b c (l ∷ ls) h = (let le = h.0 in omega (arith, le), longer b ls h.1)

line-more : (b : Bool) (c : ℕ) (cs : List ℕ) → AllShort (length cs) (lines_of cs)
    → AllShort (suc (length cs)) (if b then [] ∷ lines_of cs else onto_first c (lines_of cs))
line-more true c cs h = (omega arith, longer (length cs) (lines_of cs) h)
line-more false c cs h = onto-short (length cs) c (lines_of cs) h

lines-short : (text : List ℕ) → AllShort (length text) (lines_of text)
lines-short [] = tt
lines-short (c ∷ cs) = line-more (c == 10) c cs (lines-short cs)

at-short : (b n : ℕ) (ls : List (List ℕ)) → AllShort b ls → length (unwrap_or (slice_get ls n) []) ≤ b
at-short b n [] h = omega arith
at-short b zero (l ∷ ls) h = h.0
at-short b (suc n) (l ∷ ls) h = at-short b n ls h.1

line-short : (n : ℕ) (text : List ℕ) → length (line_at n (lines_of text)) ≤ length text
line-short zero text = omega arith
line-short (suc n) text = at-short (length text) n (lines_of text) (lines-short text)

-- ---- columns

one-or-none : (b : Bool) (x n : ℕ) → x ≤ n → (if b then x + 1 else 0) ≤ suc n
one-or-none true x n h = omega (arith, h)
one-or-none false x n h = omega arith

none-or-one : (b : Bool) (x n : ℕ) → x ≤ n → (if b then 0 else x + 1) ≤ suc n
none-or-one true x n h = omega arith
none-or-one false x n h = omega (arith, h)

one-or-one : (b : Bool) (x y n : ℕ) → x ≤ n → y ≤ n → (if b then x + 1 else y + 1) ≤ suc n
one-or-one true x y n h g = omega (arith, h)
one-or-one false x y n h g = omega (arith, g)

word-within : (spaced : Bool) (n : ℕ) (line : List ℕ) → before_word spaced n line ≤ length line
word-within spaced n [] = omega arith
word-within true zero (c ∷ cs) = one-or-none (c == 32) (before_word true zero cs) (length cs) (word-within true zero cs)
word-within true (suc n) (c ∷ cs) =
    one-or-one (c == 32) (before_word true (suc n) cs) (before_word false n cs) (length cs) (word-within true (suc n) cs)
    (word-within false n cs)
word-within false n (c ∷ cs) = let h = word-within (c == 32) n cs in omega (arith, h)

byte-within : (b : ℕ) (line : List ℕ) → before_byte b line ≤ length line
byte-within b [] = omega arith
byte-within b (c ∷ cs) = none-or-one (c == b) (before_byte b cs) (length cs) (byte-within b cs)

bad-within : (line : List ℕ) → before_bad line ≤ length line
bad-within [] = omega arith
bad-within (c ∷ cs) = one-or-none (is_allowed c) (before_bad cs) (length cs) (bad-within cs)

taken : (n : ℕ) (xs : List ℕ) → length (take n xs) ≤ length xs
taken n xs = let e = length-take n xs in grind arith

taken-few : (n : ℕ) (xs : List ℕ) → length (take n xs) ≤ n
taken-few n xs = let e = length-take n xs in grind arith

part-within : (p : Part) (w : List ℕ) → before_part p w ≤ length w + 1
part-within Whole w = omega arith
part-within Array w = omega arith
part-within Index w = let h = byte-within 91 w in omega (arith, h)

mark-within : (m : Option Mark) (line : List ℕ) → before_mark m line ≤ length line + 1
mark-within None line = let h = word-within true 0 line in omega (arith, h)
mark-within (Some m) line =
    let b = before_word true m.word line in
    let rest = drop b line in
    let h = word-within true m.word line in
    let e = length-drop b line in
    let f = taken (before_byte 32 rest) rest in
    let g = part-within m.part (front_word rest) in
    omega (arith, h, e, f, g)

fault-within : (c : Code) (m : Option Mark) (line : List ℕ) → before_fault c m line ≤ length line + 1
fault-within BadByte m line = let h = bad-within line in omega (arith, h)
fault-within TooLong m line = mark-within m line
fault-within BadHeader m line = mark-within m line
fault-within UnknownLine m line = mark-within m line
fault-within BadName m line = mark-within m line
fault-within BadNumber m line = mark-within m line
fault-within BadLine m line = mark-within m line
fault-within Twice m line = mark-within m line
fault-within UnknownName m line = mark-within m line
fault-within Unclosed m line = mark-within m line
fault-within BadNesting m line = mark-within m line
fault-within TooMany m line = mark-within m line
fault-within BadLength m line = mark-within m line
fault-within Reserved m line = mark-within m line

-- ---- open blocks

-- each of these numbers is at most this
abbrev AllWithin : ℕ → List ℕ → Type 0
AllWithin b [] = Unit {0}
AllWithin b (n ∷ ns) = (n ≤ b) × AllWithin b ns

within-more : (b n : ℕ) (ns : List ℕ) → AllWithin b ns → n ≤ b → AllWithin b (ns ++ n ∷ [])
within-more b n [] h le = (le, tt)
within-more b n (m ∷ ns) h le = (h.0, within-more b n ns h.1 le)

within-fewer : (b k : ℕ) (ns : List ℕ) → AllWithin b ns → AllWithin b (take k ns)
within-fewer b zero ns h = tt
within-fewer b (suc k) [] h = tt
within-fewer b (suc k) (n ∷ ns) h = (h.0, within-fewer b k ns h.1)

within-at : (b k : ℕ) (ns : List ℕ) → AllWithin b ns → unwrap_or (slice_get ns k) 0 ≤ b
within-at b k [] h = omega arith
within-at b zero (n ∷ ns) h = h.0
within-at b (suc k) (n ∷ ns) h = within-at b k ns h.1

opening-within : (b k : ℕ) (blocks : List ℕ) (ws : Words) → AllWithin b blocks → k ≤ b → AllWithin b (opening k blocks ws)
opening-within b k blocks [] h le = h
opening-within b k blocks (w ∷ ws) h le = by (opens w) (bytes_eq w (codes "end"))
  where
    by : (o e : Bool) → AllWithin b (if o then blocks ++ k ∷ [] else if e then take (length blocks - 1) blocks else blocks)
    by true e = within-more b k blocks h le
    by false true = within-fewer b (length blocks - 1) blocks h
    by false false = h

open-within : (b k : ℕ) (blocks : List ℕ) (ls : List (List ℕ)) → AllWithin b blocks → k + length ls ≤ b + 1
    → AllWithin b (open_after k blocks ls)
open-within b k blocks [] h le = h
open-within b k blocks (l ∷ ls) h le =
    let now : k ≤ b = omega (arith, le) in
    let rest : k + 1 + length ls ≤ b + 1 = omega (arith, le) in
    open-within b (k + 1) (opening k blocks (words_of l)) ls (opening-within b k blocks (words_of l) h now) rest

above-few : (n : ℕ) (ls : List (List ℕ)) → length (above n ls) ≤ n - 1
above-few n ls = let e = length-take (n - 1) ls in grind arith

block-within : (n : ℕ) (ls : List (List ℕ)) → open_block n ls ≤ n
block-within n ls =
    let few = above-few n ls in
    let blocks = open_after 1 [] (above n ls) in
    within-at n (length blocks - 1) blocks (open-within n 1 [] (above n ls) tt (omega (arith, few)))

-- ---- what is shown of a line

byte-short : (c : ℕ) → length (shown_byte c) ≤ 4
byte-short c = by (nat_le 32 c && nat_le c 126)
  where
    by : (b : Bool) → length (if b then c ∷ [] else codes "\\x" ++ hex (c / 16) ∷ hex (c % 16) ∷ []) ≤ 4
    by true = below _ 4 refl
    by false = below _ 4 refl

shown-short : (line : List ℕ) → length (shown line) ≤ 4 * length line
shown-short [] = omega arith
shown-short (c ∷ cs) =
    let e = length-append (shown_byte c) (shown cs) in
    let b = byte-short c in
    let h = shown-short cs in
    omega (arith, e, b, h)

dots-short : (b : Bool) → length (dots b) ≤ 3
dots-short true = below _ 3 refl
dots-short false = below _ 3 refl

max-within : (n m : ℕ) → n ≤ m → 1 ≤ m → max n 1 ≤ m
max-within n m h g = grind arith

-- at most 160 bytes of a line
mark-short : (before count : ℕ) (line : List ℕ) → length line ≤ 160 → length (mark before count line) ≤ 1280
mark-short before count line le =
    let front = take before line in
    let part = take count (drop before line) in
    let f = taken before line in
    let p = taken count (drop before line) in
    let d = length-drop before line in
    let s = shown-short front in
    let t = shown-short part in
    let m = max-within (length (shown part)) 640 (omega (arith, t, p, d, le)) (omega arith) in
    let all : Short (mark before count line) (640 + 640) =
    join (of (replicate (length (shown front)) 32) 640 (times (length (shown front)) 640 32 (omega (arith, s, f, le))))
    (of (replicate (max (length (shown part)) 1) 94) 640 (times (max (length (shown part)) 1) 640 94 m)) in
    let few = all.few in omega (arith, few)

part-short : (number : ℕ) (cut goes_on : Bool) (before count : ℕ) (part : List ℕ) → number ≤ 1048580 → length part ≤ 160
    → length (part_line number cut goes_on before count part) ≤ 1955
part-short number cut goes_on before count part n le =
    let d = number-short number n in
    let s = shown-short part in
    let t : length (shown part) ≤ 640 = omega (arith, s, le) in
    let c = dots-short cut in
    let all : Short (part_line number cut goes_on before count part) (2 + 7 + 3 + 3 + 640 + 3 + 3 + 7 + 3 + 3 + 1280 + 1) =
    join (join (join (join (join (join (join (join (join (join (join
    (text_of (codes "  ") 2 refl)
    (of (decimal number) 7 d))
    (text_of (codes " | ") 3 refl))
    (of (dots cut) 3 c))
    (of (shown part) 640 t))
    (of (dots goes_on) 3 (dots-short goes_on)))
    (text_of (codes "\n  ") 3 refl))
    (of (replicate (length (decimal number)) 32) 7 (times (length (decimal number)) 7 32 d)))
    (text_of (codes " | ") 3 refl))
    (of (replicate (length (dots cut)) 32) 3 (times (length (dots cut)) 3 32 c)))
    (of (mark before count part) 1280 (mark-short before count part le)))
    (text_of (codes "\n") 1 refl) in
    let few = all.few in omega (arith, few)

line-shown-short : (number before count : ℕ) (line : List ℕ) → number ≤ 1048580 → length (line_shown number before count line) ≤ 1955
line-shown-short number before count [] n = omega arith
line-shown-short number before count (c ∷ cs) n =
    let from = hidden before (c ∷ cs) in
    part-short number (nat_lt 0 from) (nat_lt (from + most_shown) (length (c ∷ cs))) (before - from) count
    (take most_shown (drop from (c ∷ cs))) n (taken-few 160 (drop from (c ∷ cs)))

place-short : (p : Place) (text : List ℕ) → p.line ≤ 1048580 → length (place_shown p text) ≤ 1955
place-short p text n = line-shown-short p.line (p.column - 1) p.count (line_at p.line (lines_of text)) n

-- ---- the whole

shown-line : (c : Code) (text : List ℕ) (r : Refusal) (m : Option Mark) → r.line ≤ 1048577 → (shown_by c text r m).line ≤ 1048580
shown-line Unclosed text r m h = let b = block-within r.line (lines_of text) in omega (arith, b, h)
shown-line TooLong text r m h = omega arith
shown-line BadByte text r m h = omega (arith, h)
shown-line BadHeader text r m h = omega (arith, h)
shown-line UnknownLine text r m h = omega (arith, h)
shown-line BadName text r m h = omega (arith, h)
shown-line BadNumber text r m h = omega (arith, h)
shown-line BadLine text r m h = omega (arith, h)
shown-line Twice text r m h = omega (arith, h)
shown-line UnknownName text r m h = omega (arith, h)
shown-line BadNesting text r m h = omega (arith, h)
shown-line TooMany text r m h = omega (arith, h)
shown-line BadLength text r m h = omega (arith, h)
shown-line Reserved text r m h = omega (arith, h)

open-within-line : (c : Code) (text : List ℕ) (r : Refusal) → r.line ≤ 1048577 → open_line c text r ≤ 1048580
open-within-line UnknownLine text r h = by (is_outer (words_of (line_at r.line (lines_of text))))
  where
    by : (b : Bool) → (if b then open_block r.line (lines_of text) else 0) ≤ 1048580
    by true = let b = block-within r.line (lines_of text) in omega (arith, b, h)
    by false = omega arith
open-within-line TooLong text r h = omega arith
open-within-line BadByte text r h = omega arith
open-within-line BadHeader text r h = omega arith
open-within-line BadName text r h = omega arith
open-within-line BadNumber text r h = omega arith
open-within-line BadLine text r h = omega arith
open-within-line Twice text r h = omega arith
open-within-line UnknownName text r h = omega arith
open-within-line Unclosed text r h = omega arith
open-within-line BadNesting text r h = omega arith
open-within-line TooMany text r h = omega arith
open-within-line BadLength text r h = omega arith
open-within-line Reserved text r h = omega arith

open-short : (line : ℕ) (text : List ℕ) → line ≤ 1048580 → length (open_shown line text) ≤ 1996
open-short line text h = by (line == 0)
  where
    by : (b : Bool)
        → length
        (if b then []
        else codes "the block of line " ++ decimal line ++ codes " is still open:\n" ++ place_shown (first_word_at text line) text)
        ≤ 1996
    by true = omega arith
    by false =
        let all : Short
        (codes "the block of line " ++ decimal line ++ codes " is still open:\n" ++ place_shown (first_word_at text line) text)
        (18 + 7 + 16 + 1955) =
        join (join (join
        (text_of (codes "the block of line ") 18 refl)
        (of (decimal line) 7 (number-short line h)))
        (text_of (codes " is still open:\n") 16 refl))
        (of (place_shown (first_word_at text line) text) 1955 (place-short (first_word_at text line) text h)) in
        let few = all.few in omega (arith, few)

head-short : (source : List ℕ) (kind : Kind) (p : Place) → p.line ≤ 1048580 → p.column ≤ 1048580
    → length (head source kind p) ≤ length source + 110
head-short source kind p l c =
    let few = number-small p.code in
    let all : Short (head source kind p) (length source + 1 + 7 + 1 + 7 + 7 + 2 + 1 + 11 + 2 + 70 + 1) =
    join (join (join (join (join (join (join (join (join (join (join
    (of source (length source) (same source))
    (text_of (codes ":") 1 refl))
    (of (decimal p.line) 7 (number-short p.line l)))
    (text_of (codes ":") 1 refl))
    (of (decimal p.column) 7 (number-short p.column c)))
    (text_of (codes ": code ") 7 refl))
    (of (decimal (code_number p.code)) 2 (length-decimal-le 2 (code_number p.code) (omega arith) (omega (arith, few)) (omega (arith, few)))))
    (text_of (codes " ") 1 refl))
    (of (code_name p.code) 11 (name-short p.code)))
    (text_of (codes ": ") 2 refl))
    (of (meaning kind p.code) 70 (meaning-short kind p.code)))
    (text_of (codes "\n") 1 refl) in
    let bytes = all.few in omega (arith, bytes)

pub reasons-are-short : ReasonsAreShort
reasons-are-short source text kind r m t l =
    let p = place_by text r m in
    let line = line-short r.line text in
    let before = fault-within r.code m (line_at r.line (lines_of text)) in
    let h = head-short source kind p (omega (arith, l)) (omega (arith, before, line, t)) in
    let s = place-short (shown_by r.code text r m) text (shown-line r.code text r m l) in
    let o = open-short (open_line r.code text r) text (open-within-line r.code text r l) in
    let all : Short (refusal_reason source text kind r m) (length source + 110 + (1955 + 1996)) =
    join (of (head source kind p) (length source + 110) h)
    (join (of (place_shown (shown_by r.code text r m) text) 1955 s) (of (open_shown (open_line r.code text r) text) 1996 o)) in
    let few = all.few in omega (arith, few)
