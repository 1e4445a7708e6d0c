-- Tasks that live on, put in path order from the first to the last: spawned ones wait until no task in front of them is left.
use Rattle.std.proofs.Common.{◌≡◌, ℕ, zero, suc, ◌<◌, ◌≤◌, Bool, true, false, List, [], ◌∷◌, ◌++◌, length, map, Option, Some, None, refl, sym, ap, subst, ◌∙◌, append_assoc, append-nil, arith}
use Rattle.std.specs.Prelude.{if◌then◌else◌, nat_lt, cond, ◌==◌, ◌-◌, take}
use Rattle.std.specs.List.{AllByRecursion}
use Rattle.std.specs.Ordering.{nat_cmp, ordering_then, ordering_reverse}
use Rattle.std.specs.Cmp.{nat_cmp_total}
use Rattle.std.specs.Cmp.Lexicographic.{slice_cmp}
use Rattle.std.specs.declared.cmp.Ordering.{Ordering}
use Rattle.std.specs.declared.cmp.Ordering.TheVariants.{Less, Equal, Greater}
use Rattle.superstep_memory.specs.Paths.{is_less, path_lt, is_rising}
use Rattle.superstep_memory.specs.PathOrder.{put_in, put_all, in_path_order}
use Rattle.superstep_memory.proofs.PathOrder.{lt_trans, lt_total, lt_asym, rising_all, rising_rest}
use Rattle.superstep_memory.proofs.Merged.{put_all_append}
use Rattle.programs.specs.Meaning.{children}
use Rattle.programs.specs.DeedValue.{DeedValue}
use Rattle.programs.specs.InPlace.{kept, living_with}
use Rattle.programs.specs.Regroup.{AreNumbered, IsInOrder, IsNextAfter, IsWithin, AreWithin, AreStrays, IsNextOutside, IsBeforeNext, HasMoved, HasMovedWithin, HasMovedEarly, HasPut}
use Rattle.programs.specs.DeedsView.{behind as behind_these}

-- ---- paths

-- what doesn't come before one doesn't come before what that doesn't come before
pub not_lt : (p q r : List ℕ) → path_lt p q ≡ false → path_lt q r ≡ false → path_lt p r ≡ false
not_lt p q r h k = by (path_lt p r) refl
  where
    never : path_lt p r ≡ true → (c : Bool) → path_lt r q ≡ c → ⊥
    never e true f = let bad : true ≡ false = sym (lt_trans p r q e f) ∙ h in cc
    never e false f = let same : r ≡ q = lt_total r q f k in let bad : true ≡ false = sym e ∙ ap (path_lt p) same ∙ h in cc

    by : (b : Bool) → path_lt p r ≡ b → path_lt p r ≡ false
    by true e = absurd (never e (path_lt r q) refl)
    by false e = e

turned : (o : Ordering) → o ≡ ordering_reverse o → o ≡ Equal
turned Less h = absurd cc
turned Equal h = refl
turned Greater h = absurd cc

same_number : (n : ℕ) → nat_cmp n n ≡ Equal
same_number n = turned (nat_cmp n n) (nat_cmp_total.antisymm n n)

-- no path comes before itself
pub lt_self : (p : List ℕ) → path_lt p p ≡ false
lt_self [] = refl
lt_self (n ∷ p) = ap (λ o. is_less (ordering_then o (slice_cmp nat_cmp p p))) (same_number n) ∙ lt_self p

-- what comes after the same begin
lt_under : (p q r : List ℕ) → path_lt q r ≡ true → path_lt (p ++ q) (p ++ r) ≡ true
lt_under [] q r h = h
lt_under (n ∷ p) q r h = ap (λ o. is_less (ordering_then o (slice_cmp nat_cmp (p ++ q) (p ++ r)))) (same_number n) ∙ lt_under p q r h

-- a path comes before those that it begins
lt_longer : (p : List ℕ) (k : ℕ) → path_lt p (p ++ k ∷ []) ≡ true
lt_longer [] k = refl
lt_longer (n ∷ p) k = ap (λ o. is_less (ordering_then o (slice_cmp nat_cmp p (p ++ k ∷ [])))) (same_number n) ∙ lt_longer p k

one_lt : (m n : ℕ) → m < n → path_lt (m ∷ []) (n ∷ []) ≡ true
one_lt m n h = let b : nat_lt m n ≡ true = grind arith in less (nat_lt m n) b
  where
    less : (b : Bool) → b ≡ true → is_less (ordering_then (cond b Less (cond (m == n) Equal Greater)) Equal) ≡ true
    less true e = refl
    less false e = cc

-- a path between another and one that this begins begins with it too, and so do those that it begins
between : (q p : List ℕ) (n k : ℕ) → path_lt q p ≡ true → path_lt p (q ++ n ∷ []) ≡ true → path_lt (p ++ k ∷ []) (q ++ n ∷ []) ≡ true
between [] [] n k h l = absurd cc
between (b ∷ q) [] n k h l = absurd cc
between [] (a ∷ p) n k h l = by (nat_cmp a n) p l
  where
    by : (o : Ordering) (p : List ℕ) → is_less (ordering_then o (slice_cmp nat_cmp p [])) ≡ true
        → is_less (ordering_then o (slice_cmp nat_cmp (p ++ k ∷ []) [])) ≡ true
    by Less p e = refl
    by Equal [] e = absurd cc
    by Equal (x ∷ p) e = absurd cc
    by Greater p e = absurd cc
between (b ∷ q) (a ∷ p) n k h l =
    by (nat_cmp a b) (nat_cmp b a) (nat_cmp_total.antisymm b a) h l (between q p n k)
  where
    by : (o r : Ordering) → r ≡ ordering_reverse o → is_less (ordering_then r (slice_cmp nat_cmp q p)) ≡ true
        → is_less (ordering_then o (slice_cmp nat_cmp p (q ++ n ∷ []))) ≡ true
        → (path_lt q p ≡ true → path_lt p (q ++ n ∷ []) ≡ true → path_lt (p ++ k ∷ []) (q ++ n ∷ []) ≡ true)
        → is_less (ordering_then o (slice_cmp nat_cmp (p ++ k ∷ []) (q ++ n ∷ []))) ≡ true
    by Less r e h l more = refl
    by Equal Less e h l more = absurd cc
    by Equal Equal e h l more = more h l
    by Equal Greater e h l more = absurd cc
    by Greater r e h l more = absurd cc

module _ {A : Type 0} (path : A → List ℕ) where
  -- none of them comes before this path
  abbrev pub NoneBefore : List ℕ → List A → Type 0
  NoneBefore p xs = AllByRecursion (λ x. path_lt (path x) p ≡ false) xs

  -- all of them come after this path
  abbrev pub AllAfter : List ℕ → List A → Type 0
  AllAfter p xs = AllByRecursion (λ x. path_lt p (path x) ≡ true) xs

  -- each comes after none of those behind it
  abbrev Sorted : List A → Type 0
  Sorted xs = IsInOrder path xs

  before : (x y : A) (ys : List A) → path_lt (path y) (path x) ≡ true → put_in path x (y ∷ ys) ≡ y ∷ put_in path x ys
  before x y ys e = ap (λ c. if c then y ∷ put_in path x ys else x ∷ y ∷ ys) e

  behind : (x y : A) (ys : List A) → path_lt (path y) (path x) ≡ false → put_in path x (y ∷ ys) ≡ x ∷ y ∷ ys
  behind x y ys e = ap (λ c. if c then y ∷ put_in path x ys else x ∷ y ∷ ys) e

  pub none_after : (p : List ℕ) (xs : List A) → AllAfter p xs → NoneBefore p xs
  none_after p [] h = tt
  none_after p (x ∷ xs) h = (lt_asym p (path x) h.0, none_after p xs h.1)

  pub none_put : (p : List ℕ) (x : A) (ys : List A) → path_lt (path x) p ≡ false → NoneBefore p ys → NoneBefore p (put_in path x ys)
  none_put p x [] h k = (h, tt)
  none_put p x (y ∷ ys) h k = by (path_lt (path y) (path x)) (none_put p x ys h k.1)
    where
      by : (b : Bool) → NoneBefore p (put_in path x ys) → NoneBefore p (if b then y ∷ put_in path x ys else x ∷ y ∷ ys)
      by true more = (k.0, more)
      by false more = (h, k)

  pub none_all : (p : List ℕ) (xs ys : List A) → NoneBefore p xs → NoneBefore p ys → NoneBefore p (put_all path xs ys)
  none_all p [] ys h k = k
  none_all p (x ∷ xs) ys h k = none_put p x (put_all path xs ys) h.0 (none_all p xs ys h.1 k)

  pub none_append : (p : List ℕ) (xs ys : List A) → NoneBefore p xs → NoneBefore p ys → NoneBefore p (xs ++ ys)
  none_append p [] ys h k = k
  none_append p (x ∷ xs) ys h k = (h.0, none_append p xs ys h.1 k)

  pub none_earlier : (p q : List ℕ) (xs : List A) → path_lt p q ≡ false → NoneBefore p xs → NoneBefore q xs
  none_earlier p q [] l h = tt
  none_earlier p q (x ∷ xs) l h = (not_lt (path x) p q h.0 l, none_earlier p q xs l h.1)

  pub put_front : (x : A) (ys : List A) → NoneBefore (path x) ys → put_in path x ys ≡ x ∷ ys
  put_front x [] h = refl
  put_front x (y ∷ ys) h = behind x y ys h.0

  sorted_put : (x : A) (ys : List A) → Sorted ys → Sorted (put_in path x ys)
  sorted_put x [] s = (tt, tt)
  sorted_put x (y ∷ ys) s = by (path_lt (path y) (path x)) refl (sorted_put x ys s.1)
    where
      by : (b : Bool) → path_lt (path y) (path x) ≡ b → Sorted (put_in path x ys) → Sorted (if b then y ∷ put_in path x ys else x ∷ y ∷ ys)
      by true e more = (none_put (path y) x ys (lt_asym (path y) (path x) e) s.0, more)
      by false e more = ((e, none_earlier (path y) (path x) ys e s.0), s)

  -- what was put in order is in order
  pub sorted_all : (xs ys : List A) → Sorted ys → Sorted (put_all path xs ys)
  sorted_all [] ys s = s
  sorted_all (x ∷ xs) ys s = sorted_put x (put_all path xs ys) (sorted_all xs ys s)

  -- those that come first stay in front
  pub fronts : (fs xs : List A) → Sorted fs → AllByRecursion (λ f. NoneBefore (path f) xs) fs → put_all path fs xs ≡ fs ++ xs
  fronts [] xs s n = refl
  fronts (f ∷ fs) xs s n = ap (put_in path f) (fronts fs xs s.1 n.1) ∙ put_front f (fs ++ xs) (none_append (path f) fs xs s.0 n.0)

  -- two that differ can be put in their places in either order
  commute : (c y : A) (xs : List A) → path_lt (path c) (path y) ≡ true → put_in path y (put_in path c xs) ≡ put_in path c (put_in path y xs)
  commute c y [] h = before y c [] h ∙ sym (behind c y [] (lt_asym (path c) (path y) h))
  commute c y (x ∷ xs) h = by (path_lt (path x) (path c)) refl (path_lt (path x) (path y)) refl (commute c y xs h)
    where
      Goal : Type 0
      Goal = put_in path y (put_in path c (x ∷ xs)) ≡ put_in path c (put_in path y (x ∷ xs))

      by : (b : Bool) → path_lt (path x) (path c) ≡ b → (d : Bool) → path_lt (path x) (path y) ≡ d
          → put_in path y (put_in path c xs) ≡ put_in path c (put_in path y xs) → Goal
      by true e true f more =
          ap (put_in path y) (before c x xs e) ∙ before y x (put_in path c xs) f ∙ ap (λ (zs : List A). x ∷ zs) more
          ∙ sym (ap (put_in path c) (before y x xs f) ∙ before c x (put_in path y xs) e)
      by true e false f more = let bad : true ≡ false = sym (lt_trans (path x) (path c) (path y) e h) ∙ f in absurd cc
      by false e true f more =
          ap (put_in path y) (behind c x xs e) ∙ before y c (x ∷ xs) h ∙ ap (λ (zs : List A). c ∷ zs) (before y x xs f)
          ∙ sym (ap (put_in path c) (before y x xs f) ∙ behind c x (put_in path y xs) e)
      by false e false f more =
          ap (put_in path y) (behind c x xs e) ∙ before y c (x ∷ xs) h ∙ ap (λ (zs : List A). c ∷ zs) (behind y x xs f)
          ∙ sym (ap (put_in path c) (behind y x xs f) ∙ behind c y (x ∷ xs) (lt_asym (path c) (path y) h))

  commute_all : (c : A) (ws zs : List A) → AllAfter (path c) ws → put_all path ws (put_in path c zs) ≡ put_in path c (put_all path ws zs)
  commute_all c [] zs h = refl
  commute_all c (w ∷ ws) zs h = ap (put_in path w) (commute_all c ws zs h.1) ∙ commute c w (put_all path ws zs) h.0

  exchange : (cs ws zs : List A) → AllByRecursion (λ c. AllAfter (path c) ws) cs
      → put_all path ws (put_all path cs zs) ≡ put_all path cs (put_all path ws zs)
  exchange [] ws zs h = refl
  exchange (c ∷ cs) ws zs h = commute_all c ws (put_all path cs zs) h.0 ∙ ap (put_in path c) (exchange cs ws zs h.1)

  -- ---- one task: those that wait and come before it are moved; then it, if it goes on; those that it spawned wait

  pub sorted_front : (fs vs : List A) → Sorted (fs ++ vs) → Sorted fs
  sorted_front [] vs s = tt
  sorted_front (f ∷ fs) vs s = (first fs s.0, sorted_front fs vs s.1)
    where
      first : (gs : List A) → NoneBefore (path f) (gs ++ vs) → NoneBefore (path f) gs
      first [] n = tt
      first (g ∷ gs) n = (n.0, first gs n.1)

  pub sorted_back : (fs vs : List A) → Sorted (fs ++ vs) → Sorted vs
  sorted_back [] vs s = s
  sorted_back (f ∷ fs) vs s = sorted_back fs vs s.1

  -- what was moved comes before the rest
  moved_first : (p : List ℕ) (fs vs ys : List A) → Sorted (fs ++ vs) → AllByRecursion (λ w. path_lt p (path w) ≡ false) fs → NoneBefore p ys
      → AllByRecursion (λ f. NoneBefore (path f) (put_all path vs ys)) fs
  moved_first p [] vs ys s b n = tt
  moved_first p (f ∷ fs) vs ys s b n =
      (none_all (path f) vs ys (last fs s.0) (none_earlier p (path f) ys b.0 n), moved_first p fs vs ys s.1 b.1 n)
    where
      last : (gs : List A) → NoneBefore (path f) (gs ++ vs) → NoneBefore (path f) vs
      last [] m = m
      last (g ∷ gs) m = last gs m.1

  kept_after : (b : Bool) (u : A) (vs : List A) → AllAfter (path u) vs → AllByRecursion (λ k. AllAfter (path k) vs) (kept b u)
  kept_after true u vs h = (h, tt)
  kept_after false u vs h = tt

  kept_front : (b : Bool) (u : A) (xs : List A) → NoneBefore (path u) xs → put_all path (kept b u) xs ≡ kept b u ++ xs
  kept_front true u xs h = put_front u xs h
  kept_front false u xs h = refl

  kept_none : (b : Bool) (u : A) → NoneBefore (path u) (kept b u)
  kept_none true u = (lt_self (path u), tt)
  kept_none false u = tt

  pub one_task : (b : Bool) (u : A) (fs vs cs rest : List A) → Sorted (fs ++ vs)
      → AllByRecursion (λ w. path_lt (path u) (path w) ≡ false) fs
      → AllAfter (path u) vs → AllAfter (path u) cs → AllByRecursion (λ c. AllAfter (path c) vs) cs → NoneBefore (path u) rest
      → put_all path (fs ++ vs) (in_path_order path ((kept b u ++ cs) ++ rest))
      ≡ (fs ++ kept b u) ++ put_all path (cs ++ vs) (in_path_order path rest)
  one_task b u fs vs cs rest s passed av ac cv n =
      put_all_append path fs vs (in_path_order path ((kept b u ++ cs) ++ rest))
      ∙ ap (λ (zs : List A). put_all path fs (put_all path vs zs)) cut
      ∙ fronts fs (put_all path vs (put_all path (kept b u) (put_all path cs xs))) (sorted_front fs vs s)
      (moved_first (path u) fs vs (put_all path (kept b u) (put_all path cs xs)) s passed here)
      ∙ ap (λ (zs : List A). fs ++ zs) (exchange (kept b u) vs (put_all path cs xs) (kept_after b u vs av)
      ∙ ap (put_all path (kept b u)) (exchange cs vs xs cv ∙ sym (put_all_append path cs vs xs))
      ∙ kept_front b u (put_all path (cs ++ vs) xs)
      (none_all (path u) (cs ++ vs) xs (none_append (path u) cs vs (none_after (path u) cs ac) (none_after (path u) vs av)) later))
      ∙ sym (append_assoc fs (kept b u) (put_all path (cs ++ vs) xs))
    where
      xs : List A
      xs = in_path_order path rest

      later : NoneBefore (path u) xs
      later = none_all (path u) rest [] n tt

      here : NoneBefore (path u) (put_all path (kept b u) (put_all path cs xs))
      here = none_all (path u) (kept b u) (put_all path cs xs) (kept_none b u) (none_all (path u) cs xs (none_after (path u) cs ac) later)

      cut : in_path_order path ((kept b u ++ cs) ++ rest) ≡ put_all path (kept b u) (put_all path cs xs)
      cut = put_all_append path (kept b u ++ cs) rest [] ∙ put_all_append path (kept b u) cs xs

  -- ---- spawned tasks

  -- numbered from one number on, under this path
  abbrev IsRun : List ℕ → ℕ → List A → Type 0
  IsRun p b [] = Unit {0}
  IsRun p b (c ∷ cs) = (path c ≡ p ++ b ∷ []) × IsRun p (suc b) cs

  is_run : (p : List ℕ) (b : ℕ) (cs : List A) → map path cs ≡ children p b (length cs) → IsRun p b cs
  is_run p b [] h = tt
  is_run p b (c ∷ cs) h =
      let e : path c ∷ map path cs ≡ (p ++ b ∷ []) ∷ children p (suc b) (length cs) = h in
      let first : path c ≡ p ++ b ∷ [] = cc in
      let rest : map path cs ≡ children p (suc b) (length cs) = cc in
      (first, is_run p (suc b) cs rest)

  run_after : (p : List ℕ) (b : ℕ) (cs : List A) → IsRun p b cs → AllAfter p cs
  run_after p b [] r = tt
  run_after p b (c ∷ cs) r = (ap (path_lt p) r.0 ∙ lt_longer p b, run_after p (suc b) cs r.1)

  run_later : (p : List ℕ) (i b : ℕ) (c : A) (cs : List A) → i < b → path c ≡ p ++ i ∷ [] → IsRun p b cs → NoneBefore (path c) cs
  run_later p i b c [] lt e r = tt
  run_later p i b c (d ∷ cs) lt e r = (
    lt_asym (path c) (path d) ((λ k. path_lt (e k) (r.0 k)) ∙ lt_under p (i ∷ []) (b ∷ []) (one_lt i b lt)),
    run_later p i (suc b) c cs (omega arith) e r.1,
  )

  run_sorted : (p : List ℕ) (b : ℕ) (cs : List A) → IsRun p b cs → Sorted cs
  run_sorted p b [] r = tt
  run_sorted p b (c ∷ cs) r = (run_later p b (suc b) c cs (omega arith) r.0 r.1, run_sorted p (suc b) cs r.1)

  -- a spawned task whose spawner comes before all of these tasks
  abbrev IsChild : List A → A → Type 0
  IsChild us w = (p : List ℕ) × (n : ℕ) × (path w ≡ p ++ n ∷ []) × AllAfter p us

  abbrev AreChildren : List A → List A → Type 0
  AreChildren us ws = AllByRecursion (IsChild us) ws

  fewer : (u : A) (us ws : List A) → AreChildren (u ∷ us) ws → AreChildren us ws
  fewer u us [] h = tt
  fewer u us (w ∷ ws) h = ((h.0.0, h.0.1, h.0.2, h.0.3.1), fewer u us ws h.1)

  run_children : (p : List ℕ) (b : ℕ) (us cs : List A) → AllAfter p us → IsRun p b cs → AreChildren us cs
  run_children p b us [] a r = tt
  run_children p b us (c ∷ cs) a r = ((p, b, r.0, a), run_children p (suc b) us cs a r.1)

  children_append : (us cs ws : List A) → AreChildren us cs → AreChildren us ws → AreChildren us (cs ++ ws)
  children_append us [] ws h k = k
  children_append us (c ∷ cs) ws h k = (h.0, children_append us cs ws h.1 k)

  children_back : (us fs vs : List A) → AreChildren us (fs ++ vs) → AreChildren us vs
  children_back us [] vs h = h
  children_back us (f ∷ fs) vs h = children_back us fs vs h.1

  -- a task's own spawned ones come before those that wait for tasks behind it
  run_first : (u : A) (us cs vs : List A) (b : ℕ) → IsRun (path u) b cs → AllAfter (path u) vs → AreChildren (u ∷ us) vs
      → AllByRecursion (λ c. AllAfter (path c) vs) cs
  run_first u us [] vs b r a h = tt
  run_first u us (c ∷ cs) vs b r a h = (one vs a h, run_first u us cs vs (suc b) r.1 a h)
    where
      one : (ws : List A) → AllAfter (path u) ws → AreChildren (u ∷ us) ws → AllAfter (path c) ws
      one [] k l = tt
      one (w ∷ ws) k l = (
        (λ i. path_lt (r.0 i) (l.0.2 i)) ∙ between l.0.0 (path u) l.0.1 b l.0.3.0 (ap (path_lt (path u)) (sym l.0.2) ∙ k.0),
        one ws k.1 l.1,
      )

  -- ---- one task, as the code puts it

  pub take_split : (n left : ℕ) (now rest : List A) → length now ≡ n - left → left ≤ n → take n (now ++ rest) ≡ now ++ take left rest
  take_split n left [] rest l h = let e : n ≡ left = omega (arith, l, h) in ap (λ k. take k rest) e
  take_split zero left (x ∷ now) rest l h = absurd (omega (arith, l))
  take_split (suc n) left (x ∷ now) rest l h =
      ap (λ (zs : List A). x ∷ zs) (take_split n left now rest (omega (arith, l)) (omega (arith, l, h)))

  pub behind_split : (n left : ℕ) (now rest : List A) → length now ≡ n - left → left ≤ n
      → behind_these n (now ++ rest) ≡ behind_these left rest
  behind_split n left [] rest l h = let e : n ≡ left = omega (arith, l, h) in ap (λ k. behind_these k rest) e
  behind_split zero left (x ∷ now) rest l h = absurd (omega (arith, l))
  behind_split (suc n) left (x ∷ now) rest l h = behind_split n left now rest (omega (arith, l)) (omega (arith, l, h))

  pub puts : (bound : Option (List ℕ)) (p : List ℕ) (task : A) (b : Bool)
      (us spawned rest before mid with_task after waited back waits : List A) (count left : ℕ)
      → p ≡ path task → HasMoved path p before mid waited back → IsNextAfter path p back → with_task ≡ mid ++ kept b task
      → HasMovedEarly path bound us with_task after spawned rest (count - left) → left ≤ count → waits ≡ take left rest ++ back
      → HasPut path bound task b us (take count spawned) before after waited waits
  puts bound p task b us spawned rest before mid with_task after waited back waits count left e m n k r l w = record {
    front = m.front;
    back = back;
    now = r.now;
    later = take left rest;
    cut = m.cut;
    passed = subst (λ x. AllByRecursion (λ y. path_lt x (path y) ≡ false) m.front) e m.passed;
    rest = subst (λ x. IsNextAfter path x back) e n;
    all = ap (take count) r.cut ∙ take_split count left r.now rest r.many l;
    early = r.early;
    put = r.moved ∙ ap (λ (xs : List A). xs ++ r.now) (k ∙ ap (λ (xs : List A). xs ++ kept b task) m.moved);
    wait = w;
  }

  -- ---- all of them

  pub lt_not : (p r s : List ℕ) → path_lt p r ≡ true → path_lt s r ≡ false → path_lt p s ≡ true
  lt_not p r s h k = by (path_lt p s) refl
    where
      by : (b : Bool) → path_lt p s ≡ b → path_lt p s ≡ true
      by true e = e
      by false e = let l : path_lt p r ≡ false = not_lt p s r e k in let bad : true ≡ false = sym h ∙ l in absurd cc

  pub all_after : (p : List ℕ) (vs : List A) → IsNextAfter path p vs → Sorted vs → AllAfter p vs
  all_after p [] n s = tt
  all_after p (v ∷ vs) n s = (n, others vs s.0)
    where
      others : (ws : List A) → NoneBefore (path v) ws → AllAfter p ws
      others [] m = tt
      others (w ∷ ws) m = (lt_not p (path v) (path w) n m.0, others ws m.1)

  after_more : (p : List ℕ) (us : List A) → AllByRecursion (λ q. path_lt p q ≡ true) (map path us) → AllAfter p us
  after_more p [] h = tt
  after_more p (u ∷ us) h = (h.0, after_more p us h.1)

  after_later : (p : List ℕ) (u : A) (cs : List A) → path_lt p (path u) ≡ true → AllAfter (path u) cs → AllAfter p cs
  after_later p u [] l h = tt
  after_later p u (c ∷ cs) l h = (lt_trans p (path u) (path c) l h.0, after_later p u cs l h.1)

  pub none_kept : (p : List ℕ) (b : Bool) (u : A) → path_lt p (path u) ≡ true → NoneBefore p (kept b u)
  none_kept p true u l = (lt_asym p (path u) l, tt)
  none_kept p false u l = tt

  -- no task that lives on because of later ones comes before
  none_living : (p : List ℕ) (us : List A) (ds : List (DeedValue A)) → AllAfter p us → AreNumbered path us ds
      → NoneBefore p (living_with us ds)
  none_living p [] [] a h = tt
  none_living p [] (d ∷ ds) a h = tt
  none_living p (u ∷ us) [] a h = tt
  none_living p (u ∷ us) (d ∷ ds) a h =
      none_append p (kept d.synced u ++ d.spawns) (living_with us ds)
      (none_append p (kept d.synced u) d.spawns (none_kept p d.synced u a.0)
      (none_after p d.spawns (after_later p u d.spawns a.0 (run_after (path u) h.0.0 d.spawns (is_run (path u) h.0.0 d.spawns h.0.1)))))
      (none_living p us ds a.1 h.1)

  -- these live on, these wait, and these tasks with their deeds are left
  pub record IsAlong (end living ws us : List A) (ds : List (DeedValue A)) : Type 0 where
    pub items : living ++ put_all path ws (in_path_order path (living_with us ds)) ≡ end
    pub sorted : Sorted ws
    pub spawned : AreChildren us ws
    pub rising : is_rising (map path us) ≡ true
    pub numbered : AreNumbered path us ds

  pub begins : (us : List A) (ds : List (DeedValue A)) → is_rising (map path us) ≡ true → AreNumbered path us ds
      → IsAlong (in_path_order path (living_with us ds)) [] [] us ds
  begins us ds r n = record { items = refl; sorted = tt; spawned = tt; rising = r; numbered = n }

  -- those that come before the next task come before all that follow
  none_next : (bound : Option (List ℕ)) (us : List A) (ds : List (DeedValue A)) (n : A) → IsBeforeNext path bound us n
      → is_rising (map path us) ≡ true → AreNumbered path us ds → NoneBefore (path n) (living_with us ds)
  none_next bound [] [] n e r h = tt
  none_next bound [] (d ∷ ds) n e r h = tt
  none_next bound (u ∷ us) [] n e r h = tt
  none_next bound (u ∷ us) (d ∷ ds) n e r h =
      none_earlier (path u) (path n) (living_with (u ∷ us) (d ∷ ds)) (lt_asym (path n) (path u) e)
      (none_append (path u) (kept d.synced u ++ d.spawns) (living_with us ds)
      (none_append (path u) (kept d.synced u) d.spawns (kept_none d.synced u) (none_after (path u) d.spawns (run_after (path u) h.0.0 d.spawns (is_run (path u) h.0.0 d.spawns h.0.1))))
      (none_living (path u) us ds (after_more (path u) us (rising_all (path u) (map path us) r)) h.1))

  early_first : (bound : Option (List ℕ)) (ns ls vs us : List A) (ds : List (DeedValue A)) → Sorted (ns ++ ls)
      → AllByRecursion (λ c. AllAfter (path c) vs) (ns ++ ls)
      → AllByRecursion (IsBeforeNext path bound us) ns → is_rising (map path us) ≡ true → AreNumbered path us ds
      → AllByRecursion (λ n. NoneBefore (path n) (put_all path (ls ++ vs) (in_path_order path (living_with us ds)))) ns
  early_first bound [] ls vs us ds s cv e r h = tt
  early_first bound (n ∷ ns) ls vs us ds s cv e r h = (
    none_all (path n) (ls ++ vs) (in_path_order path (living_with us ds))
        (none_append (path n) ls vs (last ns s.0) (none_after (path n) vs cv.0))
        (none_all (path n) (living_with us ds) [] (none_next bound us ds n e.0 r h) tt),
    early_first bound ns ls vs us ds s.1 cv.1 e.1 r h,
  )
    where
      last : (gs : List A) → NoneBefore (path n) (gs ++ ls) → NoneBefore (path n) ls
      last [] m = m
      last (g ∷ gs) m = last gs m.1

  later_cross : (ns ls vs : List A) → AllByRecursion (λ c. AllAfter (path c) vs) (ns ++ ls) → AllByRecursion (λ c. AllAfter (path c) vs) ls
  later_cross [] ls vs h = h
  later_cross (n ∷ ns) ls vs h = later_cross ns ls vs h.1

  -- one task more
  pub goes_along : (bound : Option (List ℕ)) (end living ws us new waits : List A) (u : A) (d : DeedValue A) (ds : List (DeedValue A))
      → IsAlong end living ws (u ∷ us) (d ∷ ds)
      → HasPut path bound u d.synced us d.spawns living new ws waits → IsAlong end new waits us ds
  goes_along bound end living ws us new waits u d ds h p =
      record {
        items =
            (λ i. p.put i ++ put_all path (p.wait i) xs)
            ∙ append_assoc ((living ++ p.front) ++ kept d.synced u) p.now (put_all path (p.later ++ p.back) xs)
            ∙ (λ i. append_assoc living p.front (kept d.synced u) i ++ (p.now ++ put_all path (p.later ++ p.back) xs))
            ∙ append_assoc living (p.front ++ kept d.synced u) (p.now ++ put_all path (p.later ++ p.back) xs)
            ∙ ap (λ (zs : List A). living ++ ((p.front ++ kept d.synced u) ++ zs)) (sym first)
            ∙ ap (λ (zs : List A). living ++ zs)
            (sym (one_task d.synced u p.front p.back d.spawns (living_with us ds) s p.passed av ac cv (none_living (path u) us ds after h.numbered.1))
            ∙ ap (λ (zs : List A). put_all path zs (in_path_order path ((kept d.synced u ++ d.spawns) ++ living_with us ds))) (sym p.cut))
            ∙ h.items;
        sorted =
            subst Sorted (sym p.wait)
            (sorted_append p.later p.back (sorted_back p.now p.later sorted) vs (later_cross p.now p.later p.back cross));
        spawned = subst (AreChildren us) (sym p.wait)
            (children_append us p.later p.back
            (children_back us p.now p.later (subst (AreChildren us) p.all (run_children (path u) h.numbered.0.0 us d.spawns after run)))
            (fewer u us p.back behind_u));
        rising = rising_rest (path u) (map path us) h.rising;
        numbered = h.numbered.1;
      }
    where
      xs : List A
      xs = in_path_order path (living_with us ds)

      s : Sorted (p.front ++ p.back)
      s = subst Sorted p.cut h.sorted

      vs : Sorted p.back
      vs = sorted_back p.front p.back s

      behind_u : AreChildren (u ∷ us) p.back
      behind_u = children_back (u ∷ us) p.front p.back (subst (AreChildren (u ∷ us)) p.cut h.spawned)

      av : AllAfter (path u) p.back
      av = all_after (path u) p.back p.rest vs

      run : IsRun (path u) h.numbered.0.0 d.spawns
      run = is_run (path u) h.numbered.0.0 d.spawns h.numbered.0.1

      after : AllAfter (path u) us
      after = after_more (path u) us (rising_all (path u) (map path us) h.rising)

      ac : AllAfter (path u) d.spawns
      ac = run_after (path u) h.numbered.0.0 d.spawns run

      cv : AllByRecursion (λ c. AllAfter (path c) p.back) d.spawns
      cv = run_first u us d.spawns p.back h.numbered.0.0 run av behind_u

      cross : AllByRecursion (λ c. AllAfter (path c) p.back) (p.now ++ p.later)
      cross = subst (AllByRecursion (λ c. AllAfter (path c) p.back)) p.all cv

      sorted : Sorted (p.now ++ p.later)
      sorted = subst Sorted p.all (run_sorted (path u) h.numbered.0.0 d.spawns run)

      -- those that follow at once are first
      first : put_all path (d.spawns ++ p.back) xs ≡ p.now ++ put_all path (p.later ++ p.back) xs
      first =
          (λ i. put_all path (p.all i ++ p.back) xs)
          ∙ ap (λ (zs : List A). put_all path zs xs) (append_assoc p.now p.later p.back)
          ∙ put_all_append path p.now (p.later ++ p.back) xs
          ∙ fronts p.now (put_all path (p.later ++ p.back) xs) (sorted_front p.now p.later sorted)
          (early_first bound p.now p.later p.back us ds sorted cross p.early (rising_rest (path u) (map path us) h.rising) h.numbered.1)

      sorted_append : (cs vs : List A) → Sorted cs → Sorted vs → AllByRecursion (λ c. AllAfter (path c) vs) cs → Sorted (cs ++ vs)
      sorted_append [] vs s t h = t
      sorted_append (c ∷ cs) vs s t h = (none_append (path c) cs vs s.0 (none_after (path c) vs h.0), sorted_append cs vs s.1 t h.1)

  -- ---- what doesn't come after the bound

  in_append : (bound : Option (List ℕ)) (xs ys : List A) → AreWithin path bound xs → AreWithin path bound ys
      → AreWithin path bound (xs ++ ys)
  in_append bound [] ys h k = k
  in_append bound (x ∷ xs) ys h k = (h.0, in_append bound xs ys h.1 k)

  in_kept : (bound : Option (List ℕ)) (b : Bool) (u : A) → IsWithin path bound u → AreWithin path bound (kept b u)
  in_kept bound true u h = (h, tt)
  in_kept bound false u h = tt

  in_passed : (bound : Option (List ℕ)) (u : A) (fs : List A) → IsWithin path bound u
      → AllByRecursion (λ w. path_lt (path u) (path w) ≡ false) fs → AreWithin path bound fs
  in_passed None u [] h k = tt
  in_passed None u (f ∷ fs) h k = (tt, in_passed None u fs h k.1)
  in_passed (Some b) u [] h k = tt
  in_passed (Some b) u (f ∷ fs) h k = (not_lt b (path u) (path f) h k.0, in_passed (Some b) u fs h k.1)

  in_next : (bound : Option (List ℕ)) (us : List A) (c : A) → AreWithin path bound us → IsBeforeNext path bound us c → IsWithin path bound c
  in_next None us c h k = tt
  in_next (Some b) [] c h k = lt_asym (path c) b k
  in_next (Some b) (u ∷ us) c h k = not_lt b (path u) (path c) h.0 (lt_asym (path c) (path u) k)

  in_early : (bound : Option (List ℕ)) (us ns : List A) → AreWithin path bound us → AllByRecursion (IsBeforeNext path bound us) ns
      → AreWithin path bound ns
  in_early bound us [] h k = tt
  in_early bound us (n ∷ ns) h k = (in_next bound us n h k.0, in_early bound us ns h k.1)

  -- one task more
  pub goes_within : (bound : Option (List ℕ)) (living ws us new waits cs : List A) (u : A) (b : Bool)
      → HasPut path bound u b us cs living new ws waits
      → AreWithin path bound living → AreWithin path bound (u ∷ us) → AreWithin path bound new
  goes_within bound living ws us new waits cs u b p h k =
      subst (AreWithin path bound) (sym p.put)
      (in_append bound ((living ++ p.front) ++ kept b u) p.now
      (in_append bound (living ++ p.front) (kept b u) (in_append bound living p.front h (in_passed bound u p.front k.0 p.passed)) (in_kept bound b u k.0))
      (in_early bound us p.now k.1 p.early))

  -- and those that are moved at the end
  pub ends_within : (bound : Option (List ℕ)) (living ws new waits : List A) → HasMovedWithin path bound living new ws waits
      → AreWithin path bound living → AreWithin path bound new
  ends_within bound living ws new waits m h = subst (AreWithin path bound) (sym m.moved) (in_append bound living m.front h m.within)

  pub within_all : (p : List ℕ) (living new ws waits : List A) → HasMoved path p living new ws waits
      → HasMovedWithin path (Some p) living new ws waits
  within_all p living new ws waits m = record { front = m.front; moved = m.moved; cut = m.cut; within = m.passed }

  none_bound : (fs : List A) → AreWithin path None fs
  none_bound [] = tt
  none_bound (f ∷ fs) = (tt, none_bound fs)

  pub within_none : (living new ws waits : List A) → new ≡ living ++ ws → waits ≡ [] → HasMovedWithin path None living new ws waits
  within_none living new ws waits e n =
      record { front = ws; moved = e; cut = sym (ap (λ (xs : List A). ws ++ xs) n ∙ append-nil ws); within = none_bound ws }

  -- those that still wait come after the bound
  pub outside : (bound : Option (List ℕ)) (end living ws new waits : List A) (ds : List (DeedValue A)) → IsAlong end living ws [] ds
      → HasMovedWithin path bound living new ws waits
      → IsNextOutside path bound waits → AreStrays path bound waits
  outside None end living ws new waits ds h m n = n
  outside (Some b) end living ws new waits ds h m n = all_after b waits n (sorted_back m.front waits (subst Sorted m.cut h.sorted))

  -- at the end those that wait follow
  pub ends_along : (end living ws : List A) (ds : List (DeedValue A)) → IsAlong end living ws [] ds → living ++ ws ≡ end
  ends_along end living ws ds h =
      ap (λ (xs : List A). living ++ xs)
      (sym (append-nil ws) ∙ sym (fronts ws [] h.sorted (nothing ws))
      ∙ ap (λ (xs : List A). put_all path ws (in_path_order path xs)) (sym (none_live ds)))
      ∙ h.items
    where
      nothing : (fs : List A) → AllByRecursion (λ f. NoneBefore (path f) []) fs
      nothing [] = tt
      nothing (f ∷ fs) = (tt, nothing fs)

      none_live : (ds : List (DeedValue A)) → living_with [] ds ≡ []
      none_live [] = refl
      none_live (d ∷ ds) = refl

  -- whether they were moved or still wait
  pub ends_apart : (bound : Option (List ℕ)) (end living ws new waits : List A) (ds : List (DeedValue A)) → IsAlong end living ws [] ds
      → HasMovedWithin path bound living new ws waits
      → new ++ waits ≡ end
  ends_apart bound end living ws new waits ds h m =
      ap (λ (xs : List A). xs ++ waits) m.moved ∙ append_assoc living m.front waits ∙ ap (λ (xs : List A). living ++ xs) (sym m.cut)
      ∙ ends_along end living ws ds h
