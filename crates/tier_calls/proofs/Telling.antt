-- A legal word's number represents that word.
use Rattle.std.proofs.Common.{◌≡◌, ℕ, ◌+◌, ◌*◌, ◌/◌, ◌%◌, ◌^◌, ◌≤◌, nat_eq, not, Bool, true, false, if◌then◌else◌, ap, sym, ◌∙◌, subst, arith}
use Rattle.std.proofs.lemmas.Grind.{common_steps}
use Rattle.phaser_word.specs.Fields.{Fields, IsLegal, most_unarrived}
use Rattle.phaser_word.specs.Packed.{packed}
use Rattle.tier_calls.specs.WordOfNumber.{word_of_number}

few : (w : Fields) → IsLegal w → w.unarrived ≤ 65535
few w legal = let p = legal.parties in let u : w.unarrived ≤ most_unarrived w.parties = legal.unarrived in grind (arith, common_steps)

ends : Bool → ℕ
ends b = if b then 2 ^ 63 else 0

phase_of_number : (p q u : ℕ) (e : Bool) → p ≤ 2147483647 → q ≤ 65535 → u ≤ 65535
    → (u + 2 ^ 16 * q + 2 ^ 32 * p + ends e) / 4294967296 % 2147483648 ≡ p
unfolding ends
phase_of_number p q u true a b c = omega (arith, a, b, c)
phase_of_number p q u false a b c = omega (arith, a, b, c)

parties_of_number : (p q u : ℕ) (e : Bool) → p ≤ 2147483647 → q ≤ 65535 → u ≤ 65535
    → (u + 2 ^ 16 * q + 2 ^ 32 * p + ends e) / 65536 % 65536 ≡ q
unfolding ends
parties_of_number p q u true a b c = omega (arith, a, b, c)
parties_of_number p q u false a b c = omega (arith, a, b, c)

unarrived_of_number : (p q u : ℕ) (e : Bool) → p ≤ 2147483647 → q ≤ 65535 → u ≤ 65535 → (u + 2 ^ 16 * q + 2 ^ 32 * p + ends e) % 65536 ≡ u
unfolding ends
unarrived_of_number p q u true a b c = omega (arith, a, b, c)
unarrived_of_number p q u false a b c = omega (arith, a, b, c)

end_of_number : (p q u : ℕ) (e : Bool) → p ≤ 2147483647 → q ≤ 65535 → u ≤ 65535
    → not (nat_eq ((u + 2 ^ 16 * q + 2 ^ 32 * p + ends e) / 9223372036854775808) 0) ≡ e
unfolding ends
end_of_number p q u true a b c = grind (arith, common_steps)
end_of_number p q u false a b c = grind (arith, common_steps)

pub packed_back : (w : Fields) → IsLegal w → word_of_number (packed w) ≡ w
unfolding ends
packed_back w legal = λ i. record {
  phase = phase_of_number w.phase w.parties w.unarrived w.ended legal.phase legal.parties (few w legal) i;
  parties = parties_of_number w.phase w.parties w.unarrived w.ended legal.phase legal.parties (few w legal) i;
  unarrived = unarrived_of_number w.phase w.parties w.unarrived w.ended legal.phase legal.parties (few w legal) i;
  ended = end_of_number w.phase w.parties w.unarrived w.ended legal.phase legal.parties (few w legal) i;
}

-- a number that is known to be some legal word's
pub word_of_number_at : (n : ℕ) (w : Fields) → IsLegal w → packed w ≡ n → word_of_number n ≡ w
word_of_number_at n w legal is = subst (λ (m : ℕ). word_of_number m ≡ w) is (packed_back w legal)

pub legal_at : (n : ℕ) → (w : Fields) × IsLegal w × (packed w ≡ n) → IsLegal (word_of_number n) × (packed (word_of_number n) ≡ n)
legal_at n (w, legal, is) = let e = word_of_number_at n w legal is in (subst IsLegal (sym e) legal, ap packed e ∙ is)
