-- Columns joined one after another.
use Rattle.std.proofs.Common.{◌≡◌, ℕ, zero, suc, ◌-◌, ◌<◌, List, [], ◌∷◌, ◌++◌, take, drop, length, sym, ap, ◌∙◌, append_assoc, arith}
use Rattle.job_view.specs.Columns.{greatest, joined}
use Rattle.job_view.specs.declared.columns.Column.{Column}

abbrev pub column_in : List Column → Column
column_in front = record (greatest front) { steps = length front }

joined_some : (n g : ℕ) (cs : List Column) → 0 < n → joined n g cs ≡ column_in (take g cs) ∷ joined (n - 1) g (drop g cs)
joined_some zero g cs h = absurd (omega arith)
joined_some (suc n) g cs h =
    let e : suc n - 1 ≡ n = omega arith in
    ap (λ (k : ℕ). column_in (take g cs) ∷ joined k g (drop g cs)) (sym e)

-- one column more
pub next_column : (n g : ℕ) (cs front back out new all : List Column) (c : Column) → 0 < n → front ≡ take g cs → back ≡ drop g cs
    → c ≡ column_in front → new ≡ out ++ c ∷ [] → out ++ joined n g cs ≡ all → new ++ joined (n - 1) g back ≡ all
next_column n g cs front back out new all c h f b s e t =
    let one : c ≡ column_in (take g cs) = s ∙ ap column_in f in
    ap (λ (xs : List Column). xs ++ joined (n - 1) g back) e
    ∙ append_assoc out (c ∷ []) (joined (n - 1) g back)
    ∙ ap (λ (x : Column). out ++ x ∷ joined (n - 1) g back) one
    ∙ ap (λ (xs : List Column). out ++ column_in (take g cs) ∷ joined (n - 1) g xs) b
    ∙ ap (λ (xs : List Column). out ++ xs) (sym (joined_some n g cs h))
    ∙ t
