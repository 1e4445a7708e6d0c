-- The lines above a line, one after another.
use Rattle.std.proofs.Common.{◌≡◌, ℕ, zero, suc, ◌-◌, ◌<◌, List, ◌∷◌, ◌++◌, take, sym, ap, ◌∙◌, arith, append_assoc}
use Rattle.text_lines.specs.Text.{words_of}
use Rattle.job_reader.specs.Words.{Words}
use Rattle.refusal_reasons.specs.Known.{above, arrays_in, arrays_on}

above-more : (n : ℕ) (l : List ℕ) (ls : List (List ℕ)) → 1 < n → above n (l ∷ ls) ≡ l ∷ above (n - 1) ls
above-more zero l ls h = absurd (omega (arith, h))
above-more (suc zero) l ls h = absurd (omega (arith, h))
above-more (suc (suc n)) l ls h =
    let one : suc (suc n) - 1 ≡ suc n = omega arith in
    let two : suc (suc n) - 1 - 1 ≡ n = omega arith in
    ap (λ (k : ℕ). take k (l ∷ ls)) one ∙ ap (λ (k : ℕ). l ∷ take k ls) (sym two)

-- the array of one more line
pub arrays-noted : (left : ℕ) (old new all : Words) (l : List ℕ) (ls lines : List (List ℕ)) → 1 < left → lines ≡ l ∷ ls
    → new ≡ old ++ arrays_on (words_of l)
    → old ++ arrays_in (above left lines) ≡ all → new ++ arrays_in (above (left - 1) ls) ≡ all
arrays-noted left old new all l ls lines more cut noted before =
    ap (λ (ws : Words). ws ++ arrays_in (above (left - 1) ls)) noted
    ∙ append_assoc old (arrays_on (words_of l)) (arrays_in (above (left - 1) ls))
    ∙ ap (λ (xs : List (List ℕ)). old ++ arrays_in xs) (sym (ap (above left) cut ∙ above-more left l ls more))
    ∙ before
