-- Lists of tokens of one tree.
use Rattle.std.proofs.Common.{◌≡◌, All, Bool, true, false, List, [], ◌∷◌, ◌++◌, sym, subst}
use Rattle.std.specs.Prelude.{if◌then◌else◌}
use Rattle.std.proofs.lemmas.List.Elements.{All-push}

-- one more of a kind
pub all_pushed : {X : Type 0} (P : X → Type 0) (xs : List X) (x : X) → All P xs → P x → All P (xs ++ x ∷ [])
all_pushed P xs x are is = All-push P xs x are is

-- one more of a kind, if there was memory for it
pub all_kept : {X : Type 0} (P : X → Type 0) (xs ys : List X) (x : X) (b : Bool) → ys ≡ if b then xs ++ x ∷ []
    else xs → All P xs → P x → All P ys
all_kept P xs ys x true e are is = subst (All P) (sym e) (all_pushed P xs x are is)
all_kept P xs ys x false e are is = subst (All P) (sym e) are
