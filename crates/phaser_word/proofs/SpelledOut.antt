-- Which words there are.
use Rattle.std.proofs.Common.{◌≡◌, ◌↔◌, ℕ, ◌<◌, ◌≤◌, ap, arith}
use Rattle.std.proofs.lemmas.Grind.{common_steps}
use Rattle.phaser_word.specs.Fields.{Fields, IsLegal, WordsAreSpelledOut, most_unarrived}

some : (parties : ℕ) → 0 < parties → most_unarrived parties ≡ parties
some parties h = grind (arith, common_steps)

none : (parties : ℕ) → parties ≡ 0 → most_unarrived parties ≡ 2
none parties e = ap most_unarrived e

with_parties : (w : Fields) → w.phase < 2147483648 → 0 < w.parties → w.parties < 65536 → IsLegal w ↔ (w.unarrived ≤ w.parties)
with_parties w early some_parties few = (
  λ legal.
      (let most : w.unarrived ≤ most_unarrived w.parties = legal.unarrived in
      let e = some w.parties some_parties in
      omega (arith, most, e)),
  λ counted. record {
    phase = omega (arith, early);
    parties = omega (arith, few);
    unarrived = (let e = some w.parties some_parties in omega (arith, counted, e));
  },
)

empty : (w : Fields) → w.phase < 2147483648 → w.parties ≡ 0 → IsLegal w ↔ (w.unarrived < 3)
empty w early no_parties = (
  λ legal.
      (let most : w.unarrived ≤ most_unarrived w.parties = legal.unarrived in let e = none w.parties no_parties in omega (arith, most, e)),
  λ mark. record {
    phase = omega (arith, early);
    parties = omega (arith, no_parties);
    unarrived = (let e = none w.parties no_parties in omega (arith, mark, e));
  },
)

pub spelled_out : WordsAreSpelledOut
spelled_out = record { with_parties = with_parties; empty = empty }
