-- Mentions, one list after another.
use Rattle.std.proofs.Common.{◌≡◌, ℕ, ◌+◌, Bool, true, false, List, [], ◌∷◌, ◌++◌, Option, Some, None, refl, sym, ◌∙◌, ap, nat_lt, if◌then◌else◌}
use Rattle.std.specs.Prelude.{◌==◌, ◌&&◌}
use Rattle.std.proofs.lemmas.List.Folds.{list_all-append}
use Rattle.task_code.specs.declared.code.Line.{Line}
use Rattle.task_code.specs.declared.operands.Operands.{Operands}
use Rattle.task_code.specs.Operands.{over_operands, listed, line_operands}
use Rattle.task_code.specs.Mentions.{mentioned, are_below, in_operand, in_line, set_in}
use Rattle.task_code.proofs.AskedAlong.{line_noted}

pub none_some : (m : ℕ) → None ≡ Some m → ⊥
none_some m e = cc

-- if these stop, what is after them doesn't count
by_stopped : (b c : Bool) (x y z w : Option ℕ) → (x ≡ None → z ≡ None) → (y ≡ None → w ≡ None)
    → (if b then x else if c then y else None) ≡ None → (if b then z else if c then w else None) ≡ None
by_stopped true c x y z w f g e = f e
by_stopped false true x y z w f g e = g e
by_stopped false false x y z w f g e = refl

pub stopped : (k : ℕ) (xs ys : List ℕ) → mentioned k xs ≡ None → mentioned k (xs ++ ys) ≡ None
stopped k [] ys e = absurd (none_some k (sym e))
stopped k (x ∷ xs) ys e =
    by_stopped (x == k) (nat_lt x k) (mentioned (k + 1) xs) (mentioned k xs) (mentioned (k + 1) (xs ++ ys)) (mentioned k (xs ++ ys))
    (stopped (k + 1) xs ys) (stopped k xs ys) e

-- if these lead to a count, what is after them goes on from it
by_went : (m : ℕ) (b c : Bool) (x y z w v : Option ℕ) → (x ≡ Some m → z ≡ v) → (y ≡ Some m → w ≡ v)
    → (if b then x else if c then y else None) ≡ Some m → (if b then z else if c then w else None) ≡ v
by_went m true c x y z w v f g e = f e
by_went m false true x y z w v f g e = g e
by_went m false false x y z w v f g e = absurd (none_some m e)

pub went_on : (k m : ℕ) (xs ys : List ℕ) → mentioned k xs ≡ Some m → mentioned k (xs ++ ys) ≡ mentioned m ys
went_on k m [] ys e = let same : k ≡ m = cc in ap (λ (n : ℕ). mentioned n ys) same
went_on k m (x ∷ xs) ys e =
    by_went m (x == k) (nat_lt x k) (mentioned (k + 1) xs) (mentioned k xs) (mentioned (k + 1) (xs ++ ys)) (mentioned k (xs ++ ys))
    (mentioned m ys)
    (went_on (k + 1) m xs ys) (went_on k m xs ys) e

-- the mentions of a line are of what it sets, and then of its operands
pub of_line : (l : Line) (o : Operands) → listed o ≡ line_operands false l
    → set_in l ++ over_operands {X = List ℕ} ◌++◌ [] in_operand o ≡ in_line l
of_line l o e = line_noted l o [] e

pub below_both : (count : ℕ) (xs ys : List ℕ) → are_below count (xs ++ ys) ≡ (are_below count xs && are_below count ys)
below_both count xs ys = list_all-append (λ i. nat_lt i count) xs ys

-- whether those of a line are among this many
pub line_below : (count : ℕ) (l : Line) (o : Operands) (set operands : Bool) → listed o ≡ line_operands false l
    → set ≡ are_below count (set_in l) → operands ≡ are_below count (over_operands {X = List ℕ} ◌++◌ [] in_operand o)
    → (set && operands) ≡ are_below count (in_line l)
line_below count l o set operands e f g =
    ap (λ (b : Bool). b && operands) f ∙ ap (λ (b : Bool). are_below count (set_in l) && b) g
    ∙ sym (below_both count (set_in l) (over_operands {X = List ℕ} ◌++◌ [] in_operand o)) ∙ ap (are_below count) (of_line l o e)

-- how many are mentioned after a line, by what it sets and its operands
pub line_mentioned : (k m : ℕ) (l : Line) (o : Operands) → listed o ≡ line_operands false l → mentioned k (set_in l) ≡ Some m
    → mentioned m (over_operands {X = List ℕ} ◌++◌ [] in_operand o) ≡ mentioned k (in_line l)
line_mentioned k m l o e f =
    sym (went_on k m (set_in l) (over_operands {X = List ℕ} ◌++◌ [] in_operand o) f) ∙ ap (mentioned k) (of_line l o e)
