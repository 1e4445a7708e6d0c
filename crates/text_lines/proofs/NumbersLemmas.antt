-- A word that is no number's text has no number.
use Rattle.std.proofs.Common.{◌≡◌, ◌≢◌, ◌↔◌, ℕ, ◌<◌, ◌≤◌, ◌^◌, Bool, true, false, ◌&&◌, List, [], ◌∷◌, length, None, Some, Result, Ok, Err, ℤ, pos, negsuc, FitsSigned, w64, to_z, of_z, sym, ◌∙◌, refl, ap, arith, if◌then◌else◌}
use Rattle.std.proofs.lemmas.Int.{ints}
use Rattle.std.specs.Int.Signed.{mag}
use Rattle.std.proofs.lemmas.Grind.{common_steps}
use Rattle.std.proofs.lemmas.Slice.Eq.{bytes_eq-Decides}
use Rattle.std.proofs.lemmas.Str.{IsUtf8-from_ascii}
use Rattle.std.proofs.lemmas.Fmt.{parse-signed_decimal, IsAscii-signed, decimal_is_IsNumeral}
use Rattle.std.proofs.lemmas.Str.Parse.{digit_from_value}
use Rattle.std.specs.Prelude.{◌||◌, ◌==◌, nat_le}
use Rattle.std.specs.Fmt.{decimal, signed_decimal}
use Rattle.std.specs.Str.{bytes_eq, IsUtf8}
use Rattle.std.specs.Str.Parse.{signed_digits_value, ParsesSigned, AllDigits}
use Rattle.text_lines.specs.Number.{number_of, begins_number, fits_i64}
use Rattle.text_lines.specs.Laws.{NumbersAreRead}
use Rattle.std.proofs.Math.IntN.{ℤ_discrete}
use Rattle.std.proofs.Common.{Option}

pub fits : (n : ℤ) → fits_i64 n ≡ true → FitsSigned w64 n
fits (pos n) h = grind (arith, common_steps)
fits (negsuc n) h = grind (arith, common_steps)

none_from : (a b : Bool) (z : ℤ) → (a ≡ true → b ≡ true → ⊥) → None ≡ (if a && b then Some z else None)
none_from true true z h = absurd (h refl refl)
none_from true false z h = refl
none_from false b z h = refl

pub number_none : (word : List ℕ) → ((n : ℤ) → FitsSigned w64 n → word ≢ signed_decimal n) → None ≡ number_of word
number_none word none =
    none_from (bytes_eq (signed_decimal (signed_digits_value 10 word)) word) (fits_i64 (signed_digits_value 10 word))
    (signed_digits_value 10 word)
    (λ e f. none _ (fits _ f) (sym ((bytes_eq-Decides (signed_decimal (signed_digits_value 10 word)) word).0 e)))

mag_of : (n : ℤ) → FitsSigned w64 n → mag n < 2 ^ 63
mag_of n f = omega (arith, ints, f)

pub none_unparsed : (word text : List ℕ) → text ≡ word → ParsesSigned {E = ℕ} w64 10 text (Err 0) → (n : ℤ) → FitsSigned w64 n
    → word ≢ signed_decimal n
none_unparsed word text t h n f same =
    let bad : ◌≡◌ {A = Result ℤ ℕ} (Err 0) (Ok n) = parse-signed_decimal w64 n text (Err 0) f (mag_of n f) (t ∙ same) h in cc

pub none_other : (word text : List ℕ) (m : ℤ) → text ≡ word → ParsesSigned {E = ℕ} w64 10 text (Ok m) → signed_decimal m ≢ word → (n : ℤ)
    → FitsSigned w64 n → word ≢ signed_decimal n
none_other word text m t h ne n f same =
    let good : ◌≡◌ {A = Result ℤ ℕ} (Ok m) (Ok n) = parse-signed_decimal w64 n text (Ok m) f (mag_of n f) (t ∙ same) h in
    let e : m ≡ n = cc in
    ne (ap signed_decimal e ∙ sym same)

pub none_not_text : (word : List ℕ) → (IsUtf8 word → ⊥) → (n : ℤ) → FitsSigned w64 n → word ≢ signed_decimal n
none_not_text word h n f same = h (rw same (IsUtf8-from_ascii (signed_decimal n) (IsAscii-signed n (mag_of n f))))

-- a word that a test distinguishes from a number's text is another
pub not_written : (same : Bool) (m : ℤ) (word : List ℕ) → FitsSigned w64 m → (same ≡ true) ↔ (word ≡ signed_decimal (to_z w64 (of_z w64 m)))
    → same ≡ false → signed_decimal m ≢ word
not_written same m word f tells fails w =
    let back : to_z w64 (of_z w64 m) ≡ m = omega (arith, ints, f) in
    let holds : same ≡ true = tells.1 (sym w ∙ ap signed_decimal (sym back)) in
    cc

same_number : (a b : ℤ) → ((a ≡ b → ⊥) → ⊥) → a ≡ b
same_number a b h = elim (ℤ_discrete a b) [ yes p ↦ p | no n ↦ absurd (h n) ]

-- what the text of a number is read as
value_of_text : (n : ℤ) → FitsSigned w64 n → signed_digits_value 10 (signed_decimal n) ≡ n
value_of_text n f = same_number _ n (λ other.
    let err : ParsesSigned {E = ℕ} w64 10 (signed_decimal n) (Err 0) → ⊥ = λ h.
    let bad : ◌≡◌ {A = Result ℤ ℕ} (Err 0) (Ok n) = parse-signed_decimal w64 n (signed_decimal n) (Err 0) f (mag_of n f) refl h in cc
    in
    err (λ p.
    let good : ◌≡◌ {A = Result ℤ ℕ} (Ok (signed_digits_value 10 (signed_decimal n))) (Ok n) =
    parse-signed_decimal {E = ℕ} w64 n (signed_decimal n) (Ok (signed_digits_value 10 (signed_decimal n))) f (mag_of n f) refl (p, refl) in
    other (cc)))

pub fits_back : (n : ℤ) → FitsSigned w64 n → fits_i64 n ≡ true
fits_back (pos n) f = grind (arith, common_steps, ints, f)
fits_back (negsuc n) f = grind (arith, common_steps, ints, f)

chosen : (a b : Bool) (z : ℤ) → a ≡ true → b ≡ true → (if a && b then Some z else None) ≡ Some z
chosen a b z e f = rw (e, f) refl

chosen_parts : (a b : Bool) (z n : ℤ) → (if a && b then Some z else None) ≡ Some n → (a ≡ true) × (b ≡ true) × (z ≡ n)
chosen_parts true true z n e = (refl, refl, cc)
chosen_parts true false z n e = absurd (let wrong : ◌≡◌ {A = Option ℤ} None (Some n) = e in cc)
chosen_parts false b z n e = absurd (let wrong : ◌≡◌ {A = Option ℤ} None (Some n) = e in cc)

number_read : (n : ℤ) → FitsSigned w64 n → number_of (signed_decimal n) ≡ Some n
number_read n f =
    let value = value_of_text n f in
    let same : bytes_eq (signed_decimal (signed_digits_value 10 (signed_decimal n))) (signed_decimal n) ≡ true =
    (bytes_eq-Decides _ _).1 (ap signed_decimal value) in
    let fit : fits_i64 (signed_digits_value 10 (signed_decimal n)) ≡ true = ap fits_i64 value ∙ fits_back n f in
    chosen _ _ (signed_digits_value 10 (signed_decimal n)) same fit ∙ ap Some value

number_text : (word : List ℕ) (n : ℤ) → number_of word ≡ Some n → (word ≡ signed_decimal n) × FitsSigned w64 n
number_text word n e =
    let z : ℤ = signed_digits_value 10 word in
    let parts = chosen_parts (bytes_eq (signed_decimal z) word) (fits_i64 z) z n e in
    (sym ((bytes_eq-Decides (signed_decimal z) word).0 parts.0) ∙ ap signed_decimal parts.2, fits n (ap fits_i64 (sym parts.2) ∙ parts.1))

pub numbers_law : NumbersAreRead
numbers_law = (number_read, number_text)

-- the text of a number begins as a number does

digit-begins : (c : ℕ) → (48 ≤ c) × (c ≤ 57) → ((c == 45) || (nat_le 48 c && nat_le c 57)) ≡ true
digit-begins c e = let low : 48 ≤ c = e.0 in let high : c ≤ 57 = e.1 in grind (arith, common_steps)

digits-begin : (ds : List ℕ) → 0 < length ds → AllDigits 10 ds → begins_number ds ≡ true
digits-begin [] h e = absurd (omega arith)
digits-begin (c ∷ cs) h e = digit-begins c (digit_from_value c e.0)

pub decimal-begins : (n : ℕ) → n < 2 ^ 64 → begins_number (decimal n) ≡ true
decimal-begins n h = let d = (decimal_is_IsNumeral n h).0 in digits-begin (decimal n) d.0 d.1

pub number-begins : (n : ℤ) → FitsSigned w64 n → begins_number (signed_decimal n) ≡ true
number-begins (pos n) h = let small : n < 2 ^ 64 = omega (arith, ints, h) in decimal-begins n small
number-begins (negsuc n) h = refl
