-- Stretches, one after another.
use Rattle.std.proofs.Common.{◌≡◌, ◌<◌, ◌≤◌, ◌+◌, ◌==◌, ℕ, zero, suc, Bool, true, false, nat_le, List, [], ◌∷◌, ◌++◌, Option, Some, None, length, map, drop, get_or, slice_set, refl, sym, ap, ◌∙◌, arith, drop-cons, append_assoc, append-nil}
use Rattle.std.specs.Prelude.{◌&&◌}
use Rattle.std.proofs.lemmas.List.{drop_all}
use Rattle.programs.specs.DeedValue.{DeedValue}
use Rattle.programs.specs.InPlace.{left_in, spawned_in}
use Rattle.program_stretches.specs.PartValue.{PartValue}
use Rattle.program_stretches.specs.Parts.{covers, is_done, of_slot, in_turn, deeds_in}

pub both : (a b : Bool) → (a && b) ≡ true → (a ≡ true) × (b ≡ true)
both true b h = (refl, h)
both false b h = cc

module _ {S : Type 0} where
  -- the one at this place, and those after it
  pub next_part : (parts : List (Option (PartValue S))) (k : ℕ) (s : Option (PartValue S)) → k < length parts → s ≡ get_or parts k s
      → drop k parts ≡ s ∷ drop (k + 1) parts
  next_part parts k s lt e =
      let one : suc k ≡ k + 1 = omega arith in
      drop-cons parts k s lt ∙ (λ i. sym e i ∷ drop (one i) parts)

  -- what covers up to an end begins before it
  pub covers_below : (done : Bool) (end at : ℕ) (ss : List (Option (PartValue S))) → covers done end at ss ≡ true → at ≤ end
  covers_below done end at [] h = grind arith
  covers_below done end at (None ∷ ss) h = cc
  covers_below done end at (Some part ∷ ss) h =
      let l =
      covers_below done end (at + length part.tasks) ss
      (both ((part.first == at) && is_done done part.done) (covers done end (at + length part.tasks) ss) h).1 in
      omega (arith, l)

  -- one that isn't where it is to be
  pub stops_here : (done : Bool) (end at : ℕ) (part : PartValue S) (ss : List (Option (PartValue S)))
      → ((part.first == at) && is_done done part.done && nat_le (at + length part.tasks) end) ≡ false
      → covers done end at (Some part ∷ ss) ≡ false
  stops_here done end at part ss h = by ((part.first == at) && is_done done part.done) (covers done end (at + length part.tasks) ss) refl h
    where
      by : (a b : Bool) → b ≡ covers done end (at + length part.tasks) ss → (a && nat_le (at + length part.tasks) end) ≡ false
          → (a && b) ≡ false
      by false b e n = refl
      by true false e n = refl
      by true true e n =
          let l = covers_below done end (at + length part.tasks) ss (sym e) in
          absurd (let t : nat_le (at + length part.tasks) end ≡ true = grind arith in let x : true ≡ false = sym t ∙ n in cc)

  pub goes_on_here : (done : Bool) (end at : ℕ) (part : PartValue S) (ss : List (Option (PartValue S)))
      → ((part.first == at) && is_done done part.done && nat_le (at + length part.tasks) end) ≡ true
      → (covers done end at (Some part ∷ ss) ≡ covers done end (at + length part.tasks) ss) × (at + length part.tasks ≤ end)
  goes_on_here done end at part ss h =
      let t = both ((part.first == at) && is_done done part.done) (nat_le (at + length part.tasks) end) h in
      let n = t.1 in
      (ap (λ (a : Bool). a && covers done end (at + length part.tasks) ss) t.0, grind arith)

  pub left_append : (ds es : List (DeedValue S)) → left_in (ds ++ es) ≡ left_in ds + left_in es
  left_append [] es = omega arith
  left_append (d ∷ ds) es = let l = left_append ds es in omega (arith, l)

  pub spawned_append : (ds es : List (DeedValue S)) → spawned_in (ds ++ es) ≡ spawned_in ds + spawned_in es
  spawned_append [] es = omega arith
  spawned_append (d ∷ ds) es = let l = spawned_append ds es in omega (arith, l)

module _ {A : Type 0} (f : A → A) where
  -- the first so many changed
  abbrev pub half : ℕ → List A → List A
  half zero xs = xs
  half (suc k) [] = []
  half (suc k) (x ∷ xs) = f x ∷ half k xs

  half_get : (k : ℕ) (xs : List A) (s : A) → k < length (half k xs) → s ≡ get_or (half k xs) k s → drop k xs ≡ s ∷ drop (suc k) xs
  half_get zero [] s lt e = absurd (omega arith)
  half_get zero (x ∷ xs) s lt e = λ i. sym e i ∷ xs
  half_get (suc k) [] s lt e = absurd (omega arith)
  half_get (suc k) (x ∷ xs) s lt e = half_get k xs s (omega arith) e

  half_set : (k : ℕ) (xs : List A) (s : A) (t : A) → drop k xs ≡ s ∷ drop (suc k) xs → t ≡ f s → slice_set (half k xs) k t ≡ half (suc k) xs
  half_set zero [] s t e w = cc
  half_set zero (x ∷ xs) s t e w = λ i. (w ∙ ap f (sym (head e))) i ∷ xs
    where
      head : x ∷ xs ≡ s ∷ xs → x ≡ s
      head h = ap (λ (ys : List A). get_or ys 0 x) h
  half_set (suc k) [] s t e w = cc
  half_set (suc k) (x ∷ xs) s t e w = ap (λ (ys : List A). f x ∷ ys) (half_set k xs s t e w)

  half_length : (k : ℕ) (xs : List A) → length (half k xs) ≡ length xs
  half_length zero xs = refl
  half_length (suc k) [] = refl
  half_length (suc k) (x ∷ xs) = ap suc (half_length k xs)

  -- all of them changed
  pub half_whole : (k : ℕ) (xs : List A) → length (half k xs) ≤ k → half k xs ≡ map f xs
  half_whole zero [] h = refl
  half_whole zero (x ∷ xs) h = absurd (omega arith)
  half_whole (suc k) [] h = refl
  half_whole (suc k) (x ∷ xs) h = ap (λ (ys : List A). f x ∷ ys) (half_whole k xs (omega arith))

  pub half_none : (k : ℕ) (xs : List A) → length (half k xs) ≤ k → drop k xs ≡ []
  half_none k xs h = let l = half_length k xs in drop_all k xs (omega (arith, l, h))

  -- the one that is changed next
  pub record IsNext (k : ℕ) (parts halves : List A) (s : A) : Type 0 where
    pub next : drop k parts ≡ s ∷ drop (k + 1) parts
    pub set : (t : A) → t ≡ f s → slice_set halves k t ≡ half (k + 1) parts

  pub half_next : (k : ℕ) (parts halves : List A) (s : A) → halves ≡ half k parts → k < length halves → s ≡ get_or halves k s
      → IsNext k parts halves s
  half_next k parts halves s e lt g =
      let one : suc k ≡ k + 1 = omega arith in
      let l = ap length e in
      let at = half_get k parts s (omega (arith, l, lt)) (g ∙ ap (λ (xs : List A). get_or xs k s) e) in
      record {
        next = at ∙ (λ i. s ∷ drop (one i) parts);
        set = λ t w. ap (λ (xs : List A). slice_set xs k t) e ∙ half_set k parts s t at w ∙ (λ i. half (one i) parts);
      }

module _ {S A : Type 0} (g : PartValue S → List A) where
  -- what the next one has is moved after what those before it had
  pub in_turn_more : (old new total : List A) (k : ℕ) (parts : List (Option (PartValue S))) (s : Option (PartValue S))
      → new ≡ old ++ of_slot g s → drop k parts ≡ s ∷ drop (k + 1) parts
      → old ++ in_turn g (drop k parts) ≡ total → new ++ in_turn g (drop (k + 1) parts) ≡ total
  in_turn_more old new total k parts s e n h =
      ap (λ (xs : List A). xs ++ in_turn g (drop (k + 1) parts)) e ∙ append_assoc old (of_slot g s) (in_turn g (drop (k + 1) parts))
      ∙ ap (λ (ss : List (Option (PartValue S))). old ++ in_turn g ss) (sym n) ∙ h

  pub in_turn_all : (old total : List A) (k : ℕ) (parts : List (Option (PartValue S))) → drop k parts ≡ []
      → old ++ in_turn g (drop k parts) ≡ total → old ≡ total
  in_turn_all old total k parts n h = sym (append-nil old) ∙ ap (λ (ss : List (Option (PartValue S))). old ++ in_turn g ss) (sym n) ∙ h

module _ {S : Type 0} where
  -- none of the tasks of stretches moved, so none of these did
  none_behind : (k : ℕ) (parts : List (Option (PartValue S))) → left_in (deeds_in parts) ≡ 0 → spawned_in (deeds_in parts) ≡ 0
      → (left_in (deeds_in (drop k parts)) ≡ 0) × (spawned_in (deeds_in (drop k parts)) ≡ 0)
  none_behind zero parts a b = (a, b)
  none_behind (suc k) [] a b = (a, b)
  none_behind (suc k) (s ∷ parts) a b =
      let l = left_append (of_slot (λ part. part.deeds) s) (deeds_in parts) in
      let m = spawned_append (of_slot (λ part. part.deeds) s) (deeds_in parts) in
      none_behind k parts (omega (arith, a, l)) (omega (arith, b, m))

  pub none_here : (k : ℕ) (parts rest : List (Option (PartValue S))) (s : Option (PartValue S)) → drop k parts ≡ s ∷ rest
      → left_in (deeds_in parts) ≡ 0 → spawned_in (deeds_in parts) ≡ 0
      → (left_in (of_slot (λ part. part.deeds) s) ≡ 0) × (spawned_in (of_slot (λ part. part.deeds) s) ≡ 0)
  none_here k parts rest s e a b =
      let n = none_behind k parts a b in
      let l = ap (λ (ss : List (Option (PartValue S))). left_in (deeds_in ss)) (sym e) ∙ n.0 in
      let m = ap (λ (ss : List (Option (PartValue S))). spawned_in (deeds_in ss)) (sym e) ∙ n.1 in
      let x = left_append (of_slot (λ part. part.deeds) s) (deeds_in rest) in
      let y = spawned_append (of_slot (λ part. part.deeds) s) (deeds_in rest) in
      (omega (arith, l, x), omega (arith, m, y))
