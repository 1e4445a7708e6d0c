-- A loop that appends something for each item of a list to another.
use Rattle.std.proofs.Common.{◌≡◌, suc, List, [], ◌∷◌, ◌++◌, All, sym, ◌∙◌, ap, subst, append_assoc, arith}

pub moved : {A : Type 0} (done more rest others all : List A) (x : A) → rest ≡ x ∷ others → more ≡ done ++ (x ∷ []) → done ++ rest ≡ all
    → more ++ others ≡ all
moved done more rest others all x r m e = ap (λ z. z ++ others) m ∙ (append_assoc done (x ∷ []) others ∙ (ap (λ z. done ++ z) (sym r) ∙ e))

-- the first item, and the others
pub all_now : {A : Type 0} (P : A → Type 0) (x : A) (rest others : List A) → rest ≡ x ∷ others → All P rest → P x
all_now P x rest others r all = let whole = subst (All P) r all in whole 0 x (omega arith)

pub all_later : {A : Type 0} (P : A → Type 0) (x : A) (rest others : List A) → rest ≡ x ∷ others → All P rest → All P others
all_later P x rest others r all = let whole = subst (All P) r all in λ k d h. whole (suc k) d (omega arith)
