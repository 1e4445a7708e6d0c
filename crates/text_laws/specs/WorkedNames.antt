-- Which bytes a text may have, which a name may have, and which words are no names, in numbers and written down (own).
use Rattle.std.specs.Prelude.{◌≡◌, ◌⊎◌, ◌↔◌, ◌≤◌, ℕ, true, false, List, [], ◌∷◌, ◌++◌, filter, length, replicate, codes, None, Some}
use Rattle.std.specs.List.{list_all, list_any}
use Rattle.std.specs.Str.{bytes_eq}
use Rattle.text_lines.specs.declared.refusal.Code.TheVariants.{BadName, Reserved}
use Rattle.text_lines.specs.Number.{begins_number}
use Rattle.text_lines.specs.Text.{is_allowed, is_skipped, bad_byte_line}
use Rattle.task_code.specs.Names.{is_name, is_in_name, begins_lower, is_reserved}
use Rattle.job_reader.specs.Words.{Word, Words}
use Rattle.job_reader.specs.Reading.{job_in}
use Rattle.text_laws.specs.WorkedRefusals.{refused}

-- c is one of the bytes from a to b
abbrev pub IsFrom : ℕ → ℕ → ℕ → Type 0
IsFrom a b c = (a ≤ c) × (c ≤ b)

-- A text may have LF, and the 95 bytes from the space to the tilde.
pub record BytesAreSpelledOut : Type 0 where
  pub allowed : (c : ℕ) → (is_allowed c ≡ true) ↔ ((c ≡ 10) ⊎ IsFrom 32 126 c)
  pub below_line_end : bad_byte_line 1 (9 ∷ []) ≡ Some 1
  pub line_end : bad_byte_line 1 (10 ∷ []) ≡ None
  pub below_space : bad_byte_line 1 (32 ∷ 31 ∷ []) ≡ Some 1
  pub space : bad_byte_line 1 (32 ∷ []) ≡ None
  pub tilde : bad_byte_line 1 (126 ∷ []) ≡ None
  pub above_tilde : bad_byte_line 1 (10 ∷ 126 ∷ 127 ∷ []) ≡ Some 2

-- the 95 bytes from the space to the tilde, in their order
abbrev pub printable : Word
printable = codes " !\"#$%&'()*+,-./0123456789:;<=>?@ABCDEFGHIJKLMNOPQRSTUVWXYZ[\\]^_`abcdefghijklmnopqrstuvwxyz{|}~"

-- Which first byte makes a line a comment, and which a word one that is meant as a number: in general, and of the 95 bytes one by one.
pub record FirstBytesAreSpelledOut : Type 0 where
  pub skipped : (c : ℕ) (cs : Word) (ws : Words) → (is_skipped ((c ∷ cs) ∷ ws) ≡ true) ↔ (c ≡ 35)
  pub number : (c : ℕ) (cs : Word) → (begins_number (c ∷ cs) ≡ true) ↔ ((c ≡ 45) ⊎ IsFrom 48 57 c)
  pub count : length printable ≡ 95
  pub comments : filter (λ c. is_skipped ((c ∷ []) ∷ [])) printable ≡ codes "#"
  pub numbers : filter (λ c. begins_number (c ∷ [])) printable ≡ codes "-0123456789"

abbrev pub letters : Word
letters = codes "abcdefghijklmnopqrstuvwxyz"

-- the words of the language
abbrev pub words : List Word
words =
    codes "arg" ∷ codes "step" ∷ codes "let" ∷ codes "put" ∷ codes "add" ∷ codes "print" ∷ codes "spawn" ∷ codes "sync" ∷ codes "stop"
    ∷ codes "if"
    ∷ codes "else" ∷ codes "while" ∷ codes "end" ∷ codes "array" ∷ codes "body" ∷ codes "start" ∷ codes "bsp" ∷ []

-- A name has 1 to 16 bytes out of 37: 26 letters, one of them first, ten digits and the underscore. 17 words are no
-- names.
pub record NamesAreSpelledOut : Type 0 where
  pub first : (c : ℕ) (cs : Word) → (begins_lower (c ∷ cs) ≡ true) ↔ IsFrom 97 122 c
  pub all : (c : ℕ) → (is_in_name c ≡ true) ↔ (IsFrom 97 122 c ⊎ (IsFrom 48 57 c ⊎ (c ≡ 95)))
  pub letters_begin : list_all (λ c. begins_lower (c ∷ [])) letters ≡ true
  pub count : length letters ≡ 26
  pub in_names : list_all is_in_name (letters ++ codes "0123456789_") ≡ true
  pub longest : is_name (replicate 16 97) ≡ true
  pub too_long : is_name (replicate 17 97) ≡ false
  pub none : is_name [] ≡ false
  pub reserved : (w : Word) → is_reserved w ≡ list_any (bytes_eq w) words
  pub seventeen : length words ≡ 17

-- Each of these lines has a word that is no name.
pub record NamesAreWorkedOut : Type 0 where
  pub colon : job_in (codes "bsp 1\narray a: 1\n") ≡ refused 2 BadName
  pub slash : job_in (codes "bsp 1\narray a/ 1\n") ≡ refused 2 BadName
  pub capital : job_in (codes "bsp 1\nbody aB\n") ≡ refused 2 BadName
  pub caret : job_in (codes "bsp 1\nstart a^ 0\n") ≡ refused 2 BadName
  pub quote : job_in (codes "bsp 1\narray a` 1\n") ≡ refused 2 BadName
  pub brace : job_in (codes "bsp 1\narray a{ 1\n") ≡ refused 2 BadName
  pub digit : job_in (codes "bsp 1\narray 0a 1\n") ≡ refused 2 BadName
  pub underscore : job_in (codes "bsp 1\narray _a 1\n") ≡ refused 2 BadName
  pub adding : job_in (codes "bsp 1\narray add 1\n") ≡ refused 2 Reserved
  pub putting : job_in (codes "bsp 1\nbody put\n") ≡ refused 2 Reserved
  pub header : job_in (codes "bsp 1\nstart bsp 0\n") ≡ refused 2 Reserved
