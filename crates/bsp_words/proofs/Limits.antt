-- The numbers of options as they are read.
use Rattle.std.proofs.Common.{◌≡◌, ℕ, ◌<◌, ◌≤◌, ◌^◌, Bool, true, false, List, Option, Some, None, Result, Ok, Err, refl, sym, ap, ◌∙◌, arith}
use Rattle.std.specs.Prelude.{◌&&◌, nat_le, if◌then◌else◌}
use Rattle.std.proofs.lemmas.Grind.{common_steps}
use Rattle.std.proofs.lemmas.Bool.{leb-true}
use Rattle.std.specs.Str.Parse.{ParsesUnsigned, digits_value, without_leading_plus}
use Rattle.clap.specs.Words.{ReadsOne}
use Rattle.clap.specs.ValueTests.{is_unsigned_in}
use Rattle.clap.specs.declared.builder.value_parser.ValueParser.TheVariants as vp
use Rattle.clap.proofs.ValueTestLemmas.{accepts-Accepts, Accepts-accepts}
use Rattle.bsp_words.specs.CommandLine.{chosen, number_from}

in-range : (most usual n : ℕ) → 1 ≤ n → n ≤ most → chosen most usual (Some n) ≡ n
in-range most usual n low high = grind (arith, common_steps)

out-of-range : (most usual n : ℕ) → ((1 ≤ n) × (n ≤ most) → ⊥) → chosen most usual (Some n) ≡ usual
out-of-range most usual n h = go (nat_le 1 n) (nat_le n most) refl refl
  where
    go : (a b : Bool) → nat_le 1 n ≡ a → nat_le n most ≡ b → (if a && b then n else usual) ≡ usual
    go true true e f = absurd (h (leb-true _ _ e, leb-true _ _ f))
    go true false e f = refl
    go false b e f = refl

pub number-read : {E : Type 0} (most usual : ℕ) → most ≤ 1000000 → (G : List ℕ → Result ℕ E → Type 0) (o : Option (List ℕ)) (r : Option ℕ)
    → ((t : List ℕ) (x : Result ℕ E) → G t x → ParsesUnsigned 32 10 t x) → (o ≡ None → r ≡ None)
    → ((t : List ℕ) → o ≡ Some t → ReadsOne G t r)
    → chosen most usual r ≡ number_from most usual o
number-read {E = E} most usual below G None r only none some = ap (chosen most usual) (none refl)
number-read {E = E} most usual below G (Some t) r only none some = read r (some t refl)
  where
    taken : (v : ℕ) → ParsesUnsigned {E = E} 32 10 t (Ok v) → (b : Bool) → is_unsigned_in 1 most t ≡ b
        → chosen most usual (Some v) ≡ (if b then digits_value 10 (without_leading_plus t) else usual)
    taken v p true e =
        let a = accepts-Accepts false (vp.Unsigned 1 most) t e in
        ap (λ (n : ℕ). chosen most usual (Some n)) p.1 ∙ in-range most usual (digits_value 10 (without_leading_plus t)) a.2 a.3
    taken v p false e = out-of-range most usual v (λ h.
        let low : 1 ≤ digits_value 10 (without_leading_plus t) = rw (← p.1) h.0 in
        let high : digits_value 10 (without_leading_plus t) ≤ most = rw (← p.1) h.1 in
        let small : digits_value 10 (without_leading_plus t) < 2 ^ 64 = omega arith in
        let yes_it_is : is_unsigned_in 1 most t ≡ true = Accepts-accepts false (vp.Unsigned 1 most) t (p.0.0, small, low, high) in
        let bad : true ≡ false = sym yes_it_is ∙ e in
        cc)

    refused : (e : E) → ParsesUnsigned {E = E} 32 10 t (Err e) → (b : Bool) → is_unsigned_in 1 most t ≡ b
        → usual ≡ (if b then digits_value 10 (without_leading_plus t) else usual)
    refused x p true e =
        let a = accepts-Accepts false (vp.Unsigned 1 most) t e in
        let high : digits_value 10 (without_leading_plus t) ≤ most = a.3 in
        let small : digits_value 10 (without_leading_plus t) < 2 ^ 32 = omega arith in
        absurd (p (a.0, small))
    refused x p false e = refl

    read : (r : Option ℕ) → ReadsOne G t r → chosen most usual r ≡ number_from most usual (Some t)
    read (Some v) h = taken v (only t (Ok v) h) (is_unsigned_in 1 most t) refl
    read None h = refused h.0 (only t (Err h.0) h.1) (is_unsigned_in 1 most t) refl
