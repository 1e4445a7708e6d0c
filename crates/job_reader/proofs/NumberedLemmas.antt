-- Values in turn.
use Rattle.std.proofs.Common.{◌≡◌, List, [], ◌∷◌, ◌++◌, Result, Ok, Err, ℤ, FitsSigned, w64, to_z, of_z, refl, sym, ap, ◌∙◌, append_assoc, arith}
use Rattle.std.proofs.lemmas.Int.{ints}
use Rattle.text_lines.specs.declared.refusal.Code.{Code}
use Rattle.job_reader.specs.Words.{Word, Words, numbered}
use Rattle.job_reader.specs.Reading.{◌>>=◌, all_numbered, with_front}

moved : (front : List ℤ) (n : ℤ) (r : Result (List ℤ) Code) → with_front front (r >>= λ ns. Ok (n ∷ ns)) ≡ with_front (front ++ n ∷ []) r
moved front n (Ok ns) = ap (λ (x : List ℤ). Ok x) (sym (append_assoc front (n ∷ []) ns))
moved front n (Err c) = refl

-- one value more is read
pub numbered-next : (front items : List ℤ) (n : ℤ) (w : Word) (before rest : Words) → Ok n ≡ numbered w → FitsSigned w64 n
    → items ≡ front ++ to_z w64 (of_z w64 n) ∷ [] → before ≡ w ∷ rest
    → with_front items (all_numbered rest) ≡ with_front front (all_numbered before)
numbered-next front items n w before rest e fits i b =
    let back : to_z w64 (of_z w64 n) ≡ n = omega (arith, ints, fits) in
    let same : items ≡ front ++ n ∷ [] = i ∙ ap (λ (m : ℤ). front ++ m ∷ []) back in
    ap (λ (x : List ℤ). with_front x (all_numbered rest)) same
    ∙ sym (moved front n (all_numbered rest))
    ∙ ap (λ (r : Result ℤ Code). with_front front (r >>= λ m. all_numbered rest >>= λ ns. Ok (m ∷ ns))) e
    ∙ ap (λ (x : Words). with_front front (all_numbered x)) (sym b)
