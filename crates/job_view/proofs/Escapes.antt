-- Names as texts of XML.
use Rattle.std.proofs.Common.{◌≡◌, ◌==◌, ℕ, Bool, true, false, nat_le, nat_lt, List, [], ◌∷◌, ◌++◌, Some, None, refl, sym, ap, ◌∙◌, arith, codes, append-nil}
use Rattle.std.specs.Prelude.{if◌then◌else◌, ◌&&◌}
use Rattle.std.proofs.lemmas.Grind.{common_steps}
use Rattle.job_view.specs.Cells.{after_none, escape, escaped, is_none}
use Rattle.job_view.specs.Texts.{NamesAreText, holds_none, is_second, is_text, is_third}

-- a name that begins with bytes that no text may hold
pub none_escaped : (name more : List ℕ) → after_none name ≡ Some more → escape name ≡ 32 ∷ escape more
none_escaped [] more e = absurd cc
none_escaped (a ∷ []) more e = absurd cc
none_escaped (a ∷ b ∷ []) more e = absurd cc
none_escaped (a ∷ b ∷ c ∷ rest) more e = by (is_none a b c) e
  where
    by : (x : Bool) → (if x then Some rest else None) ≡ Some more
        → (if x then 32 ∷ escape rest else escaped a ++ escape (b ∷ c ∷ rest)) ≡ 32 ∷ escape more
    by true h = let same : rest ≡ more = cc in ap (λ (xs : List ℕ). 32 ∷ escape xs) same
    by false h = absurd cc

-- and one that doesn't
pub byte_escaped : (a : ℕ) (rest : List ℕ) → after_none (a ∷ rest) ≡ None → escape (a ∷ rest) ≡ escaped a ++ escape rest
byte_escaped a [] e = sym (append-nil (escaped a))
byte_escaped a (b ∷ []) e = refl
byte_escaped a (b ∷ c ∷ rest) e = by (is_none a b c) e
  where
    by : (x : Bool) → (if x then Some rest else None) ≡ None
        → (if x then 32 ∷ escape rest else escaped a ++ escape (b ∷ c ∷ rest)) ≡ escaped a ++ escape (b ∷ c ∷ rest)
    by true h = absurd cc
    by false h = refl

-- ---- texts

-- a byte that stays is read as one
plain : (b : ℕ) (rest : List ℕ) → (b == 38) ≡ false → (b == 60) ≡ false → nat_lt b 32 ≡ false → is_text (b ∷ rest) ≡ is_text rest
plain b rest amp lt low =
    let high : nat_le 32 b ≡ true = grind arith in
    rw (amp, lt, high) refl

byte_text : (b : ℕ) (rest : List ℕ) → is_text (escaped b ++ rest) ≡ is_text rest
byte_text b rest = by (b == 38) (b == 60) (b == 62) (nat_lt b 32) refl refl refl refl
  where
    by : (p q r s : Bool) → (b == 38) ≡ p → (b == 60) ≡ q → (b == 62) ≡ r → nat_lt b 32 ≡ s
        → is_text
        ((if p then codes "&amp;" else if q then codes "&lt;" else if r then codes "&gt;" else if s then codes " " else b ∷ []) ++ rest)
        ≡ is_text rest
    by true q r s e f g h = refl
    by false true r s e f g h = refl
    by false false true s e f g h = refl
    by false false false true e f g h = refl
    by false false false false e f g h = plain b rest e f h

either : (x : Bool) (p q : List ℕ) → is_text p ≡ true → is_text q ≡ true → is_text (if x then p else q) ≡ true
either true p q h g = h
either false p q h g = g

names_are_escaped : (name : List ℕ) → is_text (escape name) ≡ true
names_are_escaped [] = refl
names_are_escaped (a ∷ []) = ap is_text (sym (append-nil (escaped a))) ∙ byte_text a []
names_are_escaped (a ∷ b ∷ []) = byte_text a (escaped b) ∙ names_are_escaped (b ∷ [])
names_are_escaped (a ∷ b ∷ c ∷ rest) =
    either (is_none a b c) (32 ∷ escape rest) (escaped a ++ escape (b ∷ c ∷ rest)) (names_are_escaped rest)
    (byte_text a (escape (b ∷ c ∷ rest)) ∙ names_are_escaped (b ∷ c ∷ rest))

-- ---- no U+FFFE and no U+FFFF

-- what holds of a byte as itself and of what stands for it holds of it escaped
byte_by : (b : ℕ) (P : List ℕ → Type 0) (rest : List ℕ) → P (codes "&amp;" ++ rest) → P (codes "&lt;" ++ rest) → P (codes "&gt;" ++ rest)
    → P (32 ∷ rest) → P (b ∷ rest) → P (escaped b ++ rest)
byte_by b P rest amp lt gt low plain = by (b == 38) (b == 60) (b == 62) (nat_lt b 32)
  where
    by : (p q r s : Bool)
        → P ((if p then codes "&amp;" else if q then codes "&lt;" else if r then codes "&gt;" else if s then codes " " else b ∷ []) ++ rest)
    by true q r s = amp
    by false true r s = lt
    by false false true s = gt
    by false false false true = low
    by false false false false = plain

third_kept : (c : ℕ) (rest more : List ℕ) → is_third (escaped c ++ rest) ≡ true → is_third (c ∷ more) ≡ true
third_kept c rest more =
    byte_by c (λ (xs : List ℕ). is_third xs ≡ true → is_third (c ∷ more) ≡ true) rest (λ h. absurd cc) (λ h. absurd cc) (λ h. absurd cc)
    (λ h. absurd cc) (λ h. h)

-- what escaped bytes begin with, the bytes do
third_escaped : (name : List ℕ) → is_third (escape name) ≡ true → is_third name ≡ true
third_escaped [] h = h
third_escaped (c ∷ []) h = third_kept c [] [] (ap is_third (append-nil (escaped c)) ∙ h)
third_escaped (c ∷ d ∷ []) h = third_kept c (escaped d) (d ∷ []) h
third_escaped (c ∷ d ∷ e ∷ rest) h = by (is_none c d e) h
  where
    by : (x : Bool) → is_third (if x then 32 ∷ escape rest else escaped c ++ escape (d ∷ e ∷ rest)) ≡ true
        → is_third (c ∷ d ∷ e ∷ rest) ≡ true
    by true g = absurd cc
    by false g = third_kept c (escape (d ∷ e ∷ rest)) (d ∷ e ∷ rest) g

both : (p q r : Bool) → (q ≡ true → r ≡ true) → (p && q) ≡ true → (p && r) ≡ true
both true q r f h = f h
both false q r f h = h

second_kept : (b : ℕ) (rest more : List ℕ) → (is_third rest ≡ true → is_third more ≡ true) → is_second (escaped b ++ rest) ≡ true
    → is_second (b ∷ more) ≡ true
second_kept b rest more f =
    byte_by b (λ (xs : List ℕ). is_second xs ≡ true → is_second (b ∷ more) ≡ true) rest (λ h. absurd cc) (λ h. absurd cc) (λ h. absurd cc)
    (λ h. absurd cc) (both (b == 191) (is_third rest) (is_third more) f)

second_escaped : (name : List ℕ) → is_second (escape name) ≡ true → is_second name ≡ true
second_escaped [] h = h
second_escaped (b ∷ []) h = second_kept b [] [] (λ g. g) (ap is_second (append-nil (escaped b)) ∙ h)
second_escaped (b ∷ c ∷ []) h = second_kept b (escaped c) (c ∷ []) (third_escaped (c ∷ [])) h
second_escaped (b ∷ c ∷ d ∷ rest) h = by (is_none b c d) h
  where
    by : (x : Bool) → is_second (if x then 32 ∷ escape rest else escaped b ++ escape (c ∷ d ∷ rest)) ≡ true
        → is_second (b ∷ c ∷ d ∷ rest) ≡ true
    by true g = absurd cc
    by false g = second_kept b (escape (c ∷ d ∷ rest)) (c ∷ d ∷ rest) (third_escaped (c ∷ d ∷ rest)) g

first_kept : (a : ℕ) (rest : List ℕ) → (a == 239 && is_second rest) ≡ false → holds_none rest ≡ false
    → holds_none (escaped a ++ rest) ≡ false
first_kept a rest e h = byte_by a (λ (xs : List ℕ). holds_none xs ≡ false) rest h h h h (rw (e, h) refl)

-- a byte before a name that doesn't go on so
unseen : (a : ℕ) (name : List ℕ) → (a == 239 && is_second name) ≡ false → (a == 239 && is_second (escape name)) ≡ false
unseen a name = by (a == 239) (is_second name) (is_second (escape name)) (second_escaped name)
  where
    by : (p q r : Bool) → (r ≡ true → q ≡ true) → (p && q) ≡ false → (p && r) ≡ false
    by false q r f e = refl
    by true q false f e = refl
    by true q true f e = let yes_it_is : q ≡ true = f refl in absurd cc

not_none : (a b c : ℕ) (rest : List ℕ) → is_none a b c ≡ false → (a == 239 && is_second (b ∷ c ∷ rest)) ≡ false
not_none a b c rest e = grind (arith, common_steps)

never : (p : Bool) → (p && false) ≡ false
never true = refl
never false = refl

none_left : (name : List ℕ) → holds_none (escape name) ≡ false
none_left [] = refl
none_left (a ∷ []) = ap holds_none (sym (append-nil (escaped a))) ∙ first_kept a [] (never (a == 239)) refl
none_left (a ∷ b ∷ []) =
    first_kept a (escaped b) (unseen a (b ∷ []) (ap (λ (x : Bool). a == 239 && x) (never (b == 191)) ∙ never (a == 239))) (none_left (b ∷ []))
none_left (a ∷ b ∷ c ∷ rest) = by (is_none a b c) refl (none_left rest) (none_left (b ∷ c ∷ rest))
  where
    by : (x : Bool) → is_none a b c ≡ x → holds_none (escape rest) ≡ false → holds_none (escape (b ∷ c ∷ rest)) ≡ false
        → holds_none (if x then 32 ∷ escape rest else escaped a ++ escape (b ∷ c ∷ rest)) ≡ false
    by true e h g = h
    by false e h g = first_kept a (escape (b ∷ c ∷ rest)) (unseen a (b ∷ c ∷ rest) (not_none a b c rest e)) g

pub names_are_text : NamesAreText
names_are_text name = (names_are_escaped name, none_left name)
