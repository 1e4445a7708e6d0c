-- Words that ask for two forms of a report.
use Rattle.std.proofs.Common.{◌≡◌, ℕ, inl, inr, true, false, List, [], ◌∷◌, sym, ap, ap₂, subst}
use Rattle.clap.specs.Faults.{fault_of}
use Rattle.clap.specs.Kinds.{HasKind, Kinds, or_else}
use Rattle.clap.specs.Words.{subcommand_of}
use Rattle.clap.specs.declared.error.Error.{Error}
use Rattle.clap.specs.declared.error.kind.ErrorKind.TheVariants as kinds
use Rattle.bsp_words.specs.CommandLine.{clash_kinds, clashes_by, program, refused_by}

-- what the parser takes is taken, unless it clashes
pub taken : (words : List (List ℕ)) → fault_of program words ≡ [] → clashes_by (subcommand_of program words) ≡ false → refused_by words ≡ []
taken words fault clash = ap₂ or_else fault (ap clash_kinds clash)

pub clashed : (words : List (List ℕ)) → fault_of program words ≡ [] → clashes_by (subcommand_of program words) ≡ true
    → refused_by words ≡ kinds.ArgumentConflict ∷ []
clashed words fault clash = ap₂ or_else fault (ap clash_kinds clash)

pub clash_refuses : (words : List (List ℕ)) (e : Error) → fault_of program words ≡ [] → clashes_by (subcommand_of program words) ≡ true
    → HasKind (kinds.ArgumentConflict ∷ []) e → HasKind (refused_by words) e
clash_refuses words e fault clash h = subst (λ (ks : Kinds). HasKind ks e) (sym (clashed words fault clash)) h

either : (ks next : Kinds) (e : Error) → HasKind ks e → HasKind (or_else ks next) e
either [] next e (inl memory) = inl memory
either [] next e (inr none) = absurd none
either (k ∷ ks) next e h = h

-- what the parser refuses is refused
pub fault_refuses : (words : List (List ℕ)) (e : Error) → HasKind (fault_of program words) e → HasKind (refused_by words) e
fault_refuses words e h = either (fault_of program words) (clash_kinds (clashes_by (subcommand_of program words))) e h
