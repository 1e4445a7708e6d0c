-- A balance of words and views, after a change of one word and one view.
use Rattle.std.proofs.Common.{◌≡◌, ◌≢◌, ℕ, zero, suc, ◌+◌, ◌<◌, ⊎_elim, false, cond, eqb, List, [], ◌∷◌, ◌++◌, length, get_or, set, length-set, refl, sym, ◌∙◌, ap, subst, arith}
use Rattle.std.specs.Prelude.{sum_by}
use Rattle.std.proofs.lemmas.List.{get_or-set_same, get_or-set_other}
use Rattle.std.proofs.lemmas.List.Sums.{sum_by-append, sum_by-cons}
use Rattle.std.proofs.lemmas.Bool.{cases_eq, ne_eqb}
use Rattle.tier_steps.specs.Word.{Fields}
use Rattle.tier_steps.specs.View.{View, parent_of}
use Rattle.tier_steps.specs.Tally.{IsShape, blank, word_at, counted, children_among, children, Compared, Balances}

-- a sum with one element apart
pub sum_around : {X : Type 0} (f : X → ℕ) (front back : List X) (v : X)
    → sum_by f (front ++ v ∷ back) ≡ sum_by f front + f v + sum_by f back
sum_around f front back v = omega (arith, sum_by-append f front (v ∷ back), sum_by-cons f v back)

-- one element changes
pub sum_changes : {X : Type 0} (f : X → ℕ) (front back : List X) (v v' : X)
    → sum_by f (front ++ v' ∷ back) + f v ≡ sum_by f (front ++ v ∷ back) + f v'
sum_changes f front back v v' = omega (arith, sum_around f front back v, sum_around f front back v')

-- what a tier t that counts n is to the tier u
abbrev pub linked : List ℕ → ℕ → ℕ → ℕ → ℕ
linked ps u zero n = 0
linked ps u (suc t) n = cond (eqb (parent_of ps (suc t)) u) n 0

among_changes : (f : Fields → ℕ) (u : ℕ) (ps : List ℕ) (ws : List Fields) (t : ℕ) (w : Fields) → t < length ps → t < length ws
    → children_among f u ps (set ws t w) + cond (eqb (get_or ps t 0) u) (counted f (get_or ws t blank)) 0 ≡ children_among f u ps ws + cond
    (eqb (get_or ps t 0) u) (counted f w) 0
among_changes f u [] ws t w h k = absurd (omega arith)
among_changes f u (p ∷ ps) [] t w h k = absurd (omega arith)
among_changes f u (p ∷ ps) (x ∷ ws) zero w h k = omega arith
among_changes f u (p ∷ ps) (x ∷ ws) (suc t) w h k = omega (arith, among_changes f u ps ws t w (omega arith) (omega arith))

-- the children of a tier, after a change of the word of the tier t
pub children_change : (f : Fields → ℕ) (u : ℕ) (ps : List ℕ) (ws : List Fields) (t : ℕ) (w : Fields) → t < length ps → t < length ws
    → children f u ps (set ws t w) + linked ps u t (counted f (word_at ws t)) ≡ children f u ps ws + linked ps u t (counted f w)
children_change f u [] ws t w h k = absurd (omega arith)
children_change f u (p ∷ ps) [] t w h k = absurd (omega arith)
children_change f u (p ∷ ps) (x ∷ ws) zero w h k = refl
children_change f u (p ∷ ps) (x ∷ ws) (suc t) w h k = among_changes f u ps ws t w (omega arith) (omega arith)

-- a tier isn't its parent
pub unlinked : (ps : List ℕ) (t n : ℕ) → IsShape ps → t < length ps → linked ps t t n ≡ 0
unlinked ps zero n s h = refl
unlinked ps (suc t) n s h = let below : parent_of ps (suc t) < suc t = s.earlier (suc t) (omega arith) h in
    ap (λ b. cond b n 0) (ne_eqb (parent_of ps (suc t)) (suc t) (omega arith))

-- A step at one tier and one view keeps a balance, if it keeps it here, at that tier, and there, at each other.
pub balance_kept : (f : Fields → ℕ) (share : ℕ → View → ℕ) (ps : List ℕ) (ws : List Fields) (front back : List View) (v v' : View) (t : ℕ)
    (w' : Fields)
    → IsShape ps → length ws ≡ length ps → t < length ws
    → ((u : ℕ) → Compared (set ws t w') u → Compared ws u)
    → Balances f share ps ws (front ++ v ∷ back)
    → ((t ≡ 0 → w'.ended ≡ false) → f w' + share t v ≡ f (word_at ws t) + share t v')
    → ((u : ℕ) → u ≢ t → share u v' + linked ps u t (counted f w') ≡ share u v + linked ps u t (counted f (word_at ws t)))
    → Balances f share ps (set ws t w') (front ++ v' ∷ back)
balance_kept f share ps ws front back v v' t w' shape long within still old here there u below compared =
    let inside : u < length ws = subst (λ (n : ℕ). u < n) (length-set ws t w') below in
    let was : f (word_at ws u) ≡ sum_by (share u) (front ++ v ∷ back) + children f u ps ws = old u inside (still u compared) in
    let views : sum_by (share u) (front ++ v' ∷ back) + share u v ≡ sum_by (share u) (front ++ v ∷ back) + share u v' =
    sum_changes (share u) front back v v' in
    let kids : children f u ps (set ws t w') + linked ps u t (counted f (word_at ws t)) ≡ children f u ps ws + linked ps u t
    (counted f w') = children_change f u ps ws t w' (omega arith) within in
    ⊎_elim
    (λ (e : u ≡ t).
    let now : word_at (set ws t w') u ≡ w' = ap (λ k. word_at (set ws t w') k) e ∙ get_or-set_same ws t w' blank within in
    let was_here : word_at ws u ≡ word_at ws t = ap (λ k. word_at ws k) e in
    let a : linked ps u t (counted f (word_at ws t)) ≡ 0 = ap (λ k. linked ps k t (counted f (word_at ws t))) e
    ∙ unlinked ps t (counted f (word_at ws t)) shape (omega arith) in
    let b : linked ps u t (counted f w') ≡ 0 =
    ap (λ k. linked ps k t (counted f w')) e ∙ unlinked ps t (counted f w') shape (omega arith) in
    let c : share u v ≡ share t v = ap (λ k. share k v) e in
    let d : share u v' ≡ share t v' = ap (λ k. share k v') e in
    let g : f (word_at ws u) ≡ f (word_at ws t) = ap f was_here in
    let h : f w' + share t v ≡ f (word_at ws t) + share t v' =
    here (λ z. ap (λ (x : Fields). x.ended) (sym (get_or-set_same ws t w' blank within))
    ∙ (ap (λ k. (word_at (set ws t w') k).ended) z ∙ compared (e ∙ z))) in
    ap f now ∙ omega arith)
    (λ (n : u ≢ t).
    let now : word_at (set ws t w') u ≡ word_at ws u = get_or-set_other ws t u w' blank n in
    let other : share u v' + linked ps u t (counted f w') ≡ share u v + linked ps u t (counted f (word_at ws t)) = there u n in
    ap f now ∙ omega arith)
    (cases_eq u t)
