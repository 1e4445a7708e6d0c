-- One step more of a run, and the end of its list.
use Rattle.std.proofs.Common.{◌≡◌, ℕ, suc, ◌+◌, ◌≤◌, ◌<◌, List, [], ◌∷◌, ◌++◌, length, get_or, drop, refl, sym, ◌∙◌, ap, subst}
use Rattle.std.proofs.lemmas.List.{append_assoc, drop_more, drop_all}
use Rattle.tier_core.specs.declared.call.Answer.{Answer}
use Rattle.tier_core.specs.Machine.{State}
use Rattle.tier_core.specs.Run.{Step, answer_to, after, answers, run, AreSteps, IsStepOfCalls}

pub next_reported : (m : State) (reported : List Answer) {n : State} {r : Answer} {more all : List Answer} (xs : List Step) (i : ℕ)
    (d : Step)
    → i < length xs → reported ++ answers (drop i xs) m ≡ all
    → r ≡ answer_to m (get_or xs i d) → n ≡ after m (get_or xs i d) → more ≡ reported ++ r ∷ [] → more ++ answers (drop (i + 1) xs) n ≡ all
next_reported m reported {n} {r} {more} {all} xs i d h before is next grown =
    let rest = drop (i + 1) xs in
    let step : r ∷ answers rest n ≡ answers (drop i xs) m =
    ap (λ (a : Answer). a ∷ answers rest n) is
    ∙ (ap (λ (s : State). answer_to m (get_or xs i d) ∷ answers rest s) next
    ∙ sym (ap (λ (l : List Step). answers l m) (drop_more xs i d h))) in
    ap (λ (l : List Answer). l ++ answers rest n) grown
    ∙ (append_assoc reported (r ∷ []) (answers rest n) ∙ (ap (λ (l : List Answer). reported ++ l) step ∙ before))

pub next_rest : (m : State) {n s : State} (xs : List Step) (i : ℕ) (d : Step) → i < length xs → run (drop i xs) m ≡ s
    → n ≡ after m (get_or xs i d) → run (drop (i + 1) xs) n ≡ s
next_rest m {n} {s} xs i d h before next =
    ap (λ (z : State). run (drop (i + 1) xs) z) next ∙ (sym (ap (λ (l : List Step). run l m) (drop_more xs i d h)) ∙ before)

pub next_are : (xs : List Step) (i : ℕ) (d : Step) → i < length xs → AreSteps (drop i xs)
    → IsStepOfCalls (get_or xs i d) × AreSteps (drop (i + 1) xs)
next_are xs i d h are = subst (λ (l : List Step). AreSteps l) (drop_more xs i d h) are

pub next_length : (xs : List Step) (i : ℕ) (d : Step) → i < length xs → length (drop i xs) ≡ suc (length (drop (i + 1) xs))
next_length xs i d h = ap (λ (l : List Step). length l) (drop_more xs i d h)

append_none : {X : Type 0} (xs : List X) → xs ++ [] ≡ xs
append_none [] = refl
append_none (x ∷ xs) = ap (λ ys. x ∷ ys) (append_none xs)

pub all_reported : (m : State) {reported all : List Answer} (xs : List Step) (i : ℕ) → length xs ≤ i
    → reported ++ answers (drop i xs) m ≡ all → reported ≡ all
all_reported m {reported} {all} xs i h before =
    sym (append_none reported) ∙ (sym (ap (λ (l : List Step). reported ++ answers l m) (drop_all i xs h)) ∙ before)

pub all_run : {m s : State} (xs : List Step) (i : ℕ) → length xs ≤ i → run (drop i xs) m ≡ s → m ≡ s
all_run {m} {s} xs i h before = sym (ap (λ (l : List Step). run l m) (drop_all i xs h)) ∙ before
