-- The brackets of a cell, by their places.
use Rattle.std.proofs.Common.{◌≡◌, ◌≢◌, below_more, ℕ, zero, suc, ◌+◌, ◌<◌, ◌≤◌, true, false, nat_eq, [], ◌∷◌, length, take, drop, get_or, Option, Some, None, ap, ◌∙◌, sym, refl, arith}
use Rattle.std.specs.Option.{option_map}
use Rattle.std.proofs.lemmas.Grind.{common_steps}
use Rattle.job_reader.specs.Words.{Word}
use Rattle.job_reader.specs.Exprs.{index_part, cell_parts}

other : (c n : ℕ) → c ≢ n → nat_eq c n ≡ false
other c n h = grind (arith, common_steps)

same : (c n : ℕ) → c ≡ n → nat_eq c n ≡ true
same c n h = grind (arith, common_steps)

-- none of the first bytes is a bracket
abbrev pub Plain : ℕ → Word → Type 0
Plain i w = (k : ℕ) → k < i → (get_or w k 0 ≢ 91) × (get_or w k 0 ≢ 93)

later : (i c : ℕ) (cs : Word) → Plain (suc i) (c ∷ cs) → Plain i cs
later i c cs h = λ k l. h (suc k) (omega arith)

-- one byte more that is no bracket
pub plain-more : (w : Word) (i : ℕ) → Plain i w → get_or w i 0 ≢ 91 → get_or w i 0 ≢ 93 → Plain (i + 1) w
plain-more w i h a b = below_more (λ (k : ℕ). (get_or w k 0 ≢ 91) × (get_or w k 0 ≢ 93)) i h (a, b)

pub index-opens : (w : Word) (i : ℕ) → i < length w → Plain i w → get_or w i 0 ≡ 91 → index_part w ≡ None
index-opens [] i h p e = refl
index-opens (c ∷ cs) zero h p e = let here : nat_eq c 91 ≡ true = same c 91 e in rw here refl
index-opens (c ∷ cs) (suc i) h p e =
    let a : nat_eq c 91 ≡ false = other c 91 (p 0 (omega arith)).0 in
    let b : nat_eq c 93 ≡ false = other c 93 (p 0 (omega arith)).1 in
    rw (a, b) (ap (option_map (λ (i : Word). c ∷ i)) (index-opens cs i (omega arith) (later i c cs p) e))

pub index-goes-on : (w : Word) (i : ℕ) → i + 1 < length w → Plain i w → get_or w i 0 ≡ 93 → index_part w ≡ None
index-goes-on [] i h p e = refl
index-goes-on (c ∷ []) zero h p e = absurd (omega arith)
index-goes-on (c ∷ d ∷ ds) zero h p e =
    let a : nat_eq c 91 ≡ false = other c 91 (λ f. absurd (omega arith)) in
    let b : nat_eq c 93 ≡ true = same c 93 e in
    rw (a, b) refl
index-goes-on (c ∷ cs) (suc i) h p e =
    let a : nat_eq c 91 ≡ false = other c 91 (p 0 (omega arith)).0 in
    let b : nat_eq c 93 ≡ false = other c 93 (p 0 (omega arith)).1 in
    rw (a, b) (ap (option_map (λ (i : Word). c ∷ i)) (index-goes-on cs i (omega arith) (later i c cs p) e))

pub index-closes : (w : Word) (i : ℕ) → i < length w → length w ≤ i + 1 → Plain i w → get_or w i 0 ≡ 93 → index_part w ≡ Some (take i w)
index-closes [] i h m p e = absurd (omega arith)
index-closes (c ∷ []) zero h m p e =
    let a : nat_eq c 91 ≡ false = other c 91 (λ f. absurd (omega arith)) in
    let b : nat_eq c 93 ≡ true = same c 93 e in
    rw (a, b) refl
index-closes (c ∷ d ∷ ds) zero h m p e = absurd (omega arith)
index-closes (c ∷ cs) (suc i) h m p e =
    let a : nat_eq c 91 ≡ false = other c 91 (p 0 (omega arith)).0 in
    let b : nat_eq c 93 ≡ false = other c 93 (p 0 (omega arith)).1 in
    rw (a, b) (ap (option_map (λ (i : Word). c ∷ i)) (index-closes cs i (omega arith) (omega arith) (later i c cs p) e))

pub index-none : (w : Word) (i : ℕ) → length w ≤ i → Plain i w → index_part w ≡ None
index-none [] i h p = refl
index-none (c ∷ cs) zero h p = absurd (omega arith)
index-none (c ∷ cs) (suc i) h p =
    let a : nat_eq c 91 ≡ false = other c 91 (p 0 (omega arith)).0 in
    let b : nat_eq c 93 ≡ false = other c 93 (p 0 (omega arith)).1 in
    rw (a, b) (ap (option_map (λ (i : Word). c ∷ i)) (index-none cs i (omega arith) (later i c cs p)))

pub cell-closes : (w : Word) (i : ℕ) → i < length w → Plain i w → get_or w i 0 ≡ 93 → cell_parts w ≡ None
cell-closes [] i h p e = refl
cell-closes (c ∷ cs) zero h p e =
    let a : nat_eq c 91 ≡ false = other c 91 (λ f. absurd (omega arith)) in
    let b : nat_eq c 93 ≡ true = same c 93 e in
    rw (a, b) refl
cell-closes (c ∷ cs) (suc i) h p e =
    let a : nat_eq c 91 ≡ false = other c 91 (p 0 (omega arith)).0 in
    let b : nat_eq c 93 ≡ false = other c 93 (p 0 (omega arith)).1 in
    rw (a, b) (ap (option_map {U = Word × Word} (λ (q : Word × Word). (c ∷ q.0, q.1))) (cell-closes cs i (omega arith) (later i c cs p) e))

pub cell-none : (w : Word) (i : ℕ) → length w ≤ i → Plain i w → cell_parts w ≡ None
cell-none [] i h p = refl
cell-none (c ∷ cs) zero h p = absurd (omega arith)
cell-none (c ∷ cs) (suc i) h p =
    let a : nat_eq c 91 ≡ false = other c 91 (p 0 (omega arith)).0 in
    let b : nat_eq c 93 ≡ false = other c 93 (p 0 (omega arith)).1 in
    rw (a, b) (ap (option_map {U = Word × Word} (λ (q : Word × Word). (c ∷ q.0, q.1))) (cell-none cs i (omega arith) (later i c cs p)))

fused : (o : Option Word) (c : ℕ) (front : Word)
    → option_map {U = Word × Word} (λ (q : Word × Word). (c ∷ q.0, q.1)) (option_map {U = Word × Word} (λ (x : Word). (front, x)) o)
    ≡ option_map {U = Word × Word} (λ (x : Word). (c ∷ front, x)) o
fused None c front = refl
fused (Some x) c front = refl

pub cell-opens : (w : Word) (i : ℕ) → i < length w → Plain i w → get_or w i 0 ≡ 91
    → cell_parts w ≡ option_map {U = Word × Word} (λ (x : Word). (take i w, x)) (index_part (drop (suc i) w))
cell-opens [] i h p e = absurd (omega arith)
cell-opens (c ∷ cs) zero h p e = let here : nat_eq c 91 ≡ true = same c 91 e in rw here refl
cell-opens (c ∷ cs) (suc i) h p e =
    let a : nat_eq c 91 ≡ false = other c 91 (p 0 (omega arith)).0 in
    let b : nat_eq c 93 ≡ false = other c 93 (p 0 (omega arith)).1 in
    rw (a, b)
    (ap (option_map {U = Word × Word} (λ (q : Word × Word). (c ∷ q.0, q.1))) (cell-opens cs i (omega arith) (later i c cs p) e)
    ∙ fused (index_part (drop (suc i) cs)) c (take i cs))

-- with the parts as they are split
pub cell-split : (w name back rest : Word) (i : ℕ) (o : Option Word) → i < length w → Plain i w → get_or w i 0 ≡ 91 → name ≡ take i w
    → back ≡ drop i w → rest ≡ drop 1 back → index_part rest ≡ o
    → cell_parts w ≡ option_map {U = Word × Word} (λ (x : Word). (name, x)) o
cell-split w name back rest i o h p e n b r q =
    let d : drop 1 (drop i w) ≡ drop (suc i) w = drop-drop-one w i in
    let s : rest ≡ drop (suc i) w = r ∙ ap (drop 1) b ∙ d in
    cell-opens w i h p e ∙ ap (λ (t : Word). option_map {U = Word × Word} (λ (x : Word). (take i w, x)) (index_part t)) (sym s)
    ∙ ap (λ (t : Word). option_map {U = Word × Word} (λ (x : Word). (t, x)) (index_part rest)) (sym n)
    ∙ ap (option_map {U = Word × Word} (λ (x : Word). (name, x))) q
  where
    drop-drop-one : (w : Word) (i : ℕ) → drop 1 (drop i w) ≡ drop (suc i) w
    drop-drop-one [] zero = refl
    drop-drop-one [] (suc i) = refl
    drop-drop-one (c ∷ cs) zero = refl
    drop-drop-one (c ∷ cs) (suc i) = drop-drop-one cs i

pub ruleset index_steps = (plain-more, index-opens, index-goes-on, index-closes, index-none)

pub ruleset cell_steps = (plain-more, cell-closes, cell-none, cell-split)
