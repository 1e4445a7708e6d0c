-- Words that are refused ask neither for help nor for the version.
use Rattle.std.proofs.Common.{◌≡◌, ◌≢◌, inl, inr, Bool, true, false, [], ◌∷◌, refl, sym, subst}
use Rattle.std.specs.Prelude.{◌&&◌}
use Rattle.std.specs.List.{list_all}
use Rattle.clap.specs.Words.{IsAmong, Kinds}
use Rattle.clap.specs.declared.error.kind.ErrorKind.{ErrorKind}
use Rattle.clap.specs.declared.error.kind.ErrorKind.TheVariants as kinds
use Rattle.bsp_words.specs.CommandLine.{are_refused, is_refusal}

first-true : (a b : Bool) → (a && b) ≡ true → a ≡ true
first-true true b e = refl
first-true false b e = absurd cc

then-true : (a b : Bool) → (a && b) ≡ true → b ≡ true
then-true true b e = e
then-true false b e = absurd cc

among : (ks : Kinds) (k : ErrorKind) → list_all is_refusal ks ≡ true → IsAmong k ks → is_refusal k ≡ true
among [] k e h = absurd h
among (x ∷ xs) k e (inl same) =
    subst (λ (y : ErrorKind). is_refusal y ≡ true) (sym same) (first-true (is_refusal x) (list_all is_refusal xs) e)
among (x ∷ xs) k e (inr h) = among xs k (then-true (is_refusal x) (list_all is_refusal xs) e) h

no-help : (k : ErrorKind) → is_refusal k ≡ true → k ≢ kinds.DisplayHelp
no-help k e same = let bad : false ≡ true = subst (λ (y : ErrorKind). is_refusal y ≡ true) same e in cc

no-version : (k : ErrorKind) → is_refusal k ≡ true → k ≢ kinds.DisplayVersion
no-version k e same = let bad : false ≡ true = subst (λ (y : ErrorKind). is_refusal y ≡ true) same e in cc

-- words that are refused are a call neither for help nor for the version
pub refused-kind : (ks : Kinds) (k : ErrorKind) → are_refused ks ≡ true → IsAmong k ks
    → (k ≢ kinds.DisplayHelp) × (k ≢ kinds.DisplayVersion)
refused-kind [] k e h = absurd h
refused-kind (x ∷ xs) k e h = let refusal : is_refusal k ≡ true = among (x ∷ xs) k e h in (no-help k refusal, no-version k refusal)
