-- Live tasks have distinct paths, and what they will spawn has too.
use Rattle.std.proofs.Common.{◌≡◌, ℕ, zero, suc, ◌+◌, ◌≤◌, ◌<◌, Bool, true, false, nat_lt, List, [], ◌∷◌, ◌++◌, map, length, Option, Some, None, refl, sym, ap, ◌∙◌, arith, append_assoc}
use Rattle.std.specs.Prelude.{ℤ, if◌then◌else◌, ◌&&◌, cond, ◌==◌}
use Rattle.std.specs.Ordering.{ordering_then}
use Rattle.std.specs.declared.cmp.Ordering.TheVariants.{Less, Equal, Greater}
use Rattle.std.specs.List.{AllByRecursion}
use Rattle.superstep_memory.specs.Paths.{path_lt, is_less, is_rising}
use Rattle.superstep_memory.proofs.PathOrder.{lt_total, rising_all, rising_rest, rising_more}
use Rattle.phase_records.specs.Status.{Status}
use Rattle.superstep_memory.specs.PathOrder.{put_in, in_path_order}
use Rattle.programs.specs.Meaning.{After, Synced, Stopped, Faulted, Segment, Says, children, NumbersItsSpawns, StaysTheSameTask}
use Rattle.programs.specs.Superstep.{State, superstep, closed, segments, fault_in, next_live, living_on, synced, live_paths}
use Rattle.programs.specs.Supersteps.{so_far, status, unless_ended}
use Rattle.programs.specs.Order as order

-- ---- lists that end alike

not_nothing : (xs : List ℕ) (a : ℕ) → xs ++ a ∷ [] ≡ [] → ⊥
not_nothing [] a h = cc
not_nothing (x ∷ xs) a h = cc

abbrev IsLast : List ℕ → ℕ → List ℕ → ℕ → Type 0
IsLast xs a ys b = (xs ≡ ys) × (a ≡ b)

cancel : (xs ys : List ℕ) (a b : ℕ) → xs ++ a ∷ [] ≡ ys ++ b ∷ [] → IsLast xs a ys b
cancel [] [] a b h = let e : a ≡ b = cc in (refl, e)
cancel [] (y ∷ ys) a b h = let e : [] ≡ ys ++ b ∷ [] = cc in absurd (not_nothing ys b (sym e))
cancel (x ∷ xs) [] a b h = let e : xs ++ a ∷ [] ≡ [] = cc in absurd (not_nothing xs a e)
cancel (x ∷ xs) (y ∷ ys) a b h =
    let head : x ≡ y = cc in
    let tail : xs ++ a ∷ [] ≡ ys ++ b ∷ [] = cc in
    let more = cancel xs ys a b tail in
    ((λ i. head i ∷ more.0 i), more.1)

-- the last of a list, if it has one
data Ending (r : List ℕ) : Type 0 where
  Nothing : r ≡ [] → Ending r
  Last : (s : List ℕ) (n : ℕ) → r ≡ s ++ n ∷ [] → Ending r

ending : (r : List ℕ) → Ending r
ending [] = Nothing refl
ending (x ∷ xs) = by (ending xs)
  where
    by : Ending xs → Ending (x ∷ xs)
    by (Nothing e) = Last [] x (ap (λ ys. x ∷ ys) e)
    by (Last s n e) = Last (x ∷ s) n (ap (λ ys. x ∷ ys) e)

-- if a list with one more begins another
data Beginning (u t : List ℕ) (j k : ℕ) (r : List ℕ) : Type 0 where
  Whole : r ≡ [] → u ≡ t → j ≡ k → Beginning u t j k r
  Part : (s : List ℕ) → u ≡ t ++ k ∷ s → Beginning u t j k r

beginning : (u t : List ℕ) (j k : ℕ) (r : List ℕ) → u ++ j ∷ [] ≡ t ++ k ∷ r → Beginning u t j k r
beginning u t j k r h = by (ending r)
  where
    by : Ending r → Beginning u t j k r
    by (Nothing e) = let c = cancel u t j k (h ∙ ap (λ (x : List ℕ). t ++ k ∷ x) e) in Whole e c.0 c.1
    by (Last s n e) =
        let c = cancel u (t ++ k ∷ s) j n (h ∙ ap (λ (x : List ℕ). t ++ k ∷ x) e ∙ sym (append_assoc t (k ∷ s) (n ∷ []))) in
        Part s c.0

length_append : (xs ys : List ℕ) → length (xs ++ ys) ≡ length xs + length ys
length_append [] ys = omega arith
length_append (x ∷ xs) ys = let m = length_append xs ys in omega (arith, m)

never_longer : (p : List ℕ) (k : ℕ) (r : List ℕ) → p ≡ p ++ k ∷ r → ⊥
never_longer p k r h = let l : length p ≡ length (p ++ k ∷ r) = ap length h in
    let m = length_append p (k ∷ r) in
    absurd (omega (arith, l, m))

module _ {T : Type 0} (w : Says T) where
  -- ---- tasks apart

  abbrev Apart : T → T → Type 0
  Apart t u = order.Apart w.path w.begun t u

  flip : (t u : T) → Apart t u → Apart u t
  flip t u h = record { paths = λ e. h.paths (sym e); right = h.left; left = h.right }

  abbrev AllApart : T → List T → Type 0
  AllApart t us = order.AllApart w.path w.begun t us

  abbrev PairsApart : List T → Type 0
  PairsApart ts = order.PairsApart w.path w.begun ts

  abbrev InOrder : List T → Type 0
  InOrder ts = order.InOrder w.path w.begun ts

  abbrev path_in : T → List ℕ
  path_in t = w.path t

  -- ---- in path order

  apart_put : (t x : T) (ys : List T) → Apart t x → AllApart t ys → AllApart t (put_in path_in x ys)
  apart_put t x [] h a = (h, tt)
  apart_put t x (y ∷ ys) h a = by (path_lt (w.path y) (w.path x)) (apart_put t x ys h a.1)
    where
      by : (b : Bool) → AllApart t (put_in path_in x ys) → AllApart t (if b then y ∷ put_in path_in x ys else x ∷ y ∷ ys)
      by true more = (a.0, more)
      by false more = (h, a)

  pairs_put : (x : T) (ys : List T) → AllApart x ys → PairsApart ys → PairsApart (put_in path_in x ys)
  pairs_put x [] h p = (tt, tt)
  pairs_put x (y ∷ ys) h p = by (path_lt (w.path y) (w.path x)) (pairs_put x ys h.1 p.1) (apart_put y x ys (flip x y h.0) p.0)
    where
      by : (b : Bool) → PairsApart (put_in path_in x ys) → AllApart y (put_in path_in x ys)
          → PairsApart (if b then y ∷ put_in path_in x ys else x ∷ y ∷ ys)
      by true more all = (all, more)
      by false more all = (h, p)

  all_ordered : (t : T) (xs : List T) → AllApart t xs → AllApart t (in_path_order path_in xs)
  all_ordered t [] h = tt
  all_ordered t (x ∷ xs) h = apart_put t x (in_path_order path_in xs) h.0 (all_ordered t xs h.1)

  pairs_ordered : (xs : List T) → PairsApart xs → PairsApart (in_path_order path_in xs)
  pairs_ordered [] h = tt
  pairs_ordered (x ∷ xs) h = pairs_put x (in_path_order path_in xs) (all_ordered x xs h.0) (pairs_ordered xs h.1)

  lt_other : (p q : List ℕ) → path_lt q p ≡ false → (p ≡ q → ⊥) → path_lt p q ≡ true
  lt_other p q h n = by (path_lt p q) refl
    where
      by : (b : Bool) → path_lt p q ≡ b → path_lt p q ≡ true
      by true e = e
      by false e = absurd (n (lt_total p q e h))

  all_lt_put : (p : List ℕ) (x : T) (ys : List T) → path_lt p (w.path x) ≡ true → AllByRecursion (λ q. path_lt p q ≡ true) (map path_in ys)
      → AllByRecursion (λ q. path_lt p q ≡ true) (map path_in (put_in path_in x ys))
  all_lt_put p x [] h a = (h, tt)
  all_lt_put p x (y ∷ ys) h a = by (path_lt (w.path y) (w.path x)) (all_lt_put p x ys h a.1)
    where
      by : (b : Bool) → AllByRecursion (λ q. path_lt p q ≡ true) (map path_in (put_in path_in x ys))
          → AllByRecursion (λ q. path_lt p q ≡ true) (map path_in (if b then y ∷ put_in path_in x ys else x ∷ y ∷ ys))
      by true more = (a.0, more)
      by false more = (h, a)

  rising_put : (x : T) (ys : List T) → AllApart x ys → is_rising (map path_in ys) ≡ true
      → is_rising (map path_in (put_in path_in x ys)) ≡ true
  rising_put x [] h r = refl
  rising_put x (y ∷ ys) h r = by (path_lt (w.path y) (w.path x)) refl (rising_put x ys h.1 (rising_rest (w.path y) (map path_in ys) r))
    where
      by : (b : Bool) → path_lt (w.path y) (w.path x) ≡ b → is_rising (map path_in (put_in path_in x ys)) ≡ true
          → is_rising (map path_in (if b then y ∷ put_in path_in x ys else x ∷ y ∷ ys)) ≡ true
      by true e more =
          rising_more (w.path y) (map path_in (put_in path_in x ys))
          (all_lt_put (w.path y) x ys e (rising_all (w.path y) (map path_in ys) r)) more
      by false e more = ap (λ b. b && is_rising ((w.path y) ∷ map path_in ys)) (lt_other (w.path x) (w.path y) e h.0.paths) ∙ r

  rising_ordered : (xs : List T) → PairsApart xs → is_rising (map path_in (in_path_order path_in xs)) ≡ true
  rising_ordered [] h = refl
  rising_ordered (x ∷ xs) h = rising_put x (in_path_order path_in xs) (all_ordered x xs h.0) (rising_ordered xs h.1)

  -- ---- what a task leaves

  -- the task itself as it goes on, or one that it spawned
  data Descends (t x : T) : Type 0 where
    Same : (w.path x) ≡ (w.path t) → (w.begun t) ≤ (w.begun x) → Descends t x
    Child : (k : ℕ) → (w.begun t) ≤ k → (w.path x) ≡ (w.path t) ++ k ∷ [] → Descends t x

  more_behind : (p x : List ℕ) (i k : ℕ) (r : List ℕ) → x ≡ p ++ i ∷ [] → x ++ k ∷ r ≡ p ++ i ∷ k ∷ r
  more_behind p x i k r e = ap (λ (y : List ℕ). y ++ k ∷ r) e ∙ append_assoc p (i ∷ []) (k ∷ r)

  same_child : (t u x y : T) → Apart t u → (w.path x) ≡ (w.path t) → (w.begun t) ≤ (w.begun x) → (j : ℕ) → (w.begun u) ≤ j
      → (w.path y) ≡ (w.path u) ++ j ∷ [] → Apart x y
  same_child t u x y h ex bx j bj ey = record {
    paths = λ e. h.left j [] bj (sym ex ∙ e ∙ ey);
    right = λ k r b e. by k r b (beginning (w.path u) (w.path t) j k r (sym ey ∙ e ∙ ap (λ (p : List ℕ). p ++ k ∷ r) ex));
    left = λ k r b e. h.left j (k ∷ r) bj (sym ex ∙ e ∙ more_behind (w.path u) (w.path y) j k r ey);
  }
    where
      by : (k : ℕ) (r : List ℕ) → (w.begun x) ≤ k → Beginning (w.path u) (w.path t) j k r → ⊥
      by k r b (Whole n e f) = h.paths (sym e)
      by k r b (Part s e) = h.right k s (omega arith) e

  children_apart : (t u x y : T) → Apart t u → (i : ℕ) → (w.begun t) ≤ i → (w.path x) ≡ (w.path t) ++ i ∷ [] → (j : ℕ) → (w.begun u) ≤ j
      → (w.path y) ≡ (w.path u) ++ j ∷ [] → Apart x y
  children_apart t u x y h i bi ex j bj ey = record {
    paths = λ e. h.paths (cancel (w.path t) (w.path u) i j (sym ex ∙ e ∙ ey)).0;
    right = λ k r b e. right k r (beginning (w.path u) (w.path t) j i (k ∷ r) (sym ey ∙ e ∙ more_behind (w.path t) (w.path x) i k r ex));
    left = λ k r b e. left k r (beginning (w.path t) (w.path u) i j (k ∷ r) (sym ex ∙ e ∙ more_behind (w.path u) (w.path y) j k r ey));
  }
    where
      right : (k : ℕ) (r : List ℕ) → Beginning (w.path u) (w.path t) j i (k ∷ r) → ⊥
      right k r (Whole n e f) = cc
      right k r (Part s e) = h.right i s bi e

      left : (k : ℕ) (r : List ℕ) → Beginning (w.path t) (w.path u) i j (k ∷ r) → ⊥
      left k r (Whole n e f) = cc
      left k r (Part s e) = h.left j s bj e

  cross : (t u x y : T) → Apart t u → Descends t x → Descends u y → Apart x y
  cross t u x y h (Same ex bx) (Same ey by) = record {
    paths = λ e. h.paths (sym ex ∙ e ∙ ey);
    right = λ k r b e. h.right k r (omega arith) (sym ey ∙ e ∙ ap (λ (p : List ℕ). p ++ k ∷ r) ex);
    left = λ k r b e. h.left k r (omega arith) (sym ex ∙ e ∙ ap (λ (p : List ℕ). p ++ k ∷ r) ey);
  }
  cross t u x y h (Same ex bx) (Child j bj ey) = same_child t u x y h ex bx j bj ey
  cross t u x y h (Child i bi ex) (Same ey by) = flip y x (same_child u t y x (flip t u h) ey by i bi ex)
  cross t u x y h (Child i bi ex) (Child j bj ey) = children_apart t u x y h i bi ex j bj ey

  -- tasks that a task spawned, one after another
  abbrev IsRun : List ℕ → ℕ → List T → Type 0
  IsRun path b [] = Unit {0}
  IsRun path b (s ∷ ss) = ((w.path s) ≡ path ++ b ∷ []) × IsRun path (suc b) ss

  is_run : (path : List ℕ) (b : ℕ) (ss : List T) → map path_in ss ≡ children path b (length ss) → IsRun path b ss
  is_run path b [] h = tt
  is_run path b (s ∷ ss) h =
      let e : (w.path s) ∷ map path_in ss ≡ (path ++ b ∷ []) ∷ children path (suc b) (length ss) = h in
      let first : (w.path s) ≡ path ++ b ∷ [] = cc in
      let rest : map path_in ss ≡ children path (suc b) (length ss) = cc in
      (first, is_run path (suc b) ss rest)

  siblings : (path : List ℕ) (x y : T) (i j : ℕ) → i < j → (w.path x) ≡ path ++ i ∷ [] → (w.path y) ≡ path ++ j ∷ [] → Apart x y
  siblings path x y i j lt ex ey = record {
    paths = λ e. let c = cancel path path i j (sym ex ∙ e ∙ ey) in absurd (omega (arith, c.1));
    right = λ k r b e. longer j i k r (sym ey ∙ e ∙ more_behind path (w.path x) i k r ex);
    left = λ k r b e. longer i j k r (sym ex ∙ e ∙ more_behind path (w.path y) j k r ey);
  }
    where
      longer : (a b c : ℕ) (r : List ℕ) → path ++ a ∷ [] ≡ path ++ b ∷ c ∷ r → ⊥
      longer a b c r h =
          let l : length (path ++ a ∷ []) ≡ length (path ++ b ∷ c ∷ r) = ap length h in
          let m = length_append path (a ∷ []) in
          let n = length_append path (b ∷ c ∷ r) in
          absurd (omega (arith, l, m, n))

  run_later : (path : List ℕ) (x : T) (i b : ℕ) (ss : List T) → i < b → (w.path x) ≡ path ++ i ∷ [] → IsRun path b ss → AllApart x ss
  run_later path x i b [] lt ex r = tt
  run_later path x i b (s ∷ ss) lt ex r = (siblings path x s i b lt ex r.0, run_later path x i (suc b) ss (omega arith) ex r.1)

  run_apart : (path : List ℕ) (b : ℕ) (ss : List T) → IsRun path b ss → PairsApart ss
  run_apart path b [] r = tt
  run_apart path b (s ∷ ss) r = (run_later path s b (suc b) ss (omega arith) r.0 r.1, run_apart path (suc b) ss r.1)

  -- the task as it goes on is apart from those that it spawned
  run_behind : (path : List ℕ) (x : T) (b : ℕ) (ss : List T) → (w.path x) ≡ path → b + length ss ≤ (w.begun x) → IsRun path b ss
      → AllApart x ss
  run_behind path x b [] ex le r = tt
  run_behind path x b (s ∷ ss) ex le r = (
    record {
      paths = λ e. never_longer path b [] (sym ex ∙ e ∙ r.0);
      right = λ k q l e. by k q l (beginning path path b k q (sym r.0 ∙ e ∙ ap (λ (p : List ℕ). p ++ k ∷ q) ex));
      left = λ k q l e. never_longer path b (k ∷ q) (sym ex ∙ e ∙ more_behind path (w.path s) b k q r.0);
    },
    run_behind path x (suc b) ss ex (omega arith) r.1,
  )
    where
      by : (k : ℕ) (q : List ℕ) → (w.begun x) ≤ k → Beginning path path b k q → ⊥
      by k q l (Whole n e f) = absurd (omega arith)
      by k q l (Part z e) = never_longer path k z e

  abbrev AllDescend : T → List T → Type 0
  AllDescend t [] = Unit {0}
  AllDescend t (x ∷ xs) = Descends t x × AllDescend t xs

  run_descends : (t : T) (b : ℕ) (ss : List T) → (w.begun t) ≤ b → IsRun (w.path t) b ss → AllDescend t ss
  run_descends t b [] le r = tt
  run_descends t b (s ∷ ss) le r = (Child b le r.0, run_descends t (suc b) ss (omega arith) r.1)

  -- what a segment leaves
  record Family (t : T) (xs : List T) : Type 0 where
    pub pairs : PairsApart xs
    pub all : AllDescend t xs

  -- ---- a run begins

  one_lt : (m n : ℕ) → m < n → path_lt (m ∷ []) (n ∷ []) ≡ true
  one_lt m n h = let b : nat_lt m n ≡ true = grind arith in less (nat_lt m n) b
    where
      less : (b : Bool) → b ≡ true → is_less (ordering_then (cond b Less (cond (m == n) Equal Greater)) Equal) ≡ true
      less true e = refl
      less false e = cc

  start_later : (m n : ℕ) (ts : List T) → m < n → IsRun [] n ts → AllByRecursion (λ q. path_lt (m ∷ []) q ≡ true) (map path_in ts)
  start_later m n [] lt r = tt
  start_later m n (t ∷ ts) lt r = (ap (path_lt (m ∷ [])) r.0 ∙ one_lt m n lt, start_later m (suc n) ts (omega arith) r.1)

  start_rising : (n : ℕ) (ts : List T) → IsRun [] n ts → is_rising (map path_in ts) ≡ true
  start_rising n [] r = refl
  start_rising n (t ∷ ts) r =
      ap (λ (p : List ℕ). is_rising (p ∷ map path_in ts)) r.0
      ∙ rising_more (n ∷ []) (map path_in ts) (start_later n (suc n) ts (omega arith) r.1) (start_rising (suc n) ts r.1)

  -- the tasks that a run begins with
  pub starts_in_order : (tasks : List T) → map w.path tasks ≡ children [] 0 (length tasks) → InOrder tasks
  starts_in_order tasks r = let a = is_run [] 0 tasks r in record { pairs = run_apart [] 0 tasks a; rising = start_rising 0 tasks a }

  module _ (few : NumbersItsSpawns w) (same : StaysTheSameTask w) where
    family : (t : T) (a : List (List ℕ × List ℤ)) (n : ℕ) → Family t (synced (w.segment t a n).after ++ (w.segment t a n).spawns)
    family t a n = by (w.segment t a n).after (λ u e. same t u a n e)
      where
        g : Segment T
        g = w.segment t a n

        run : IsRun (w.path t) (w.begun t) (w.segment t a n).spawns
        run = is_run (w.path t) (w.begun t) (w.segment t a n).spawns (few t a n)

        alone : Family t (w.segment t a n).spawns
        alone =
            record {
              pairs = run_apart (w.path t) (w.begun t) (w.segment t a n).spawns run;
              all = run_descends t (w.begun t) (w.segment t a n).spawns (omega arith) run;
            }

        by : (after : After T)
            → ((u : T) → after ≡ Synced u → ((w.path u) ≡ (w.path t)) × ((w.begun u) ≡ (w.begun t) + length (w.segment t a n).spawns))
            → Family t (synced after ++ (w.segment t a n).spawns)
        by Stopped s = alone
        by (Faulted f) s = alone
        by (Synced u) s =
            let k = s u refl in
            let begun = k.1 in
            record {
              pairs = (run_behind (w.path t) u (w.begun t) (w.segment t a n).spawns k.0 (omega (arith, begun)) run, alone.pairs);
              all = (Same k.0 (omega (arith, begun)), alone.all);
            }

    -- ---- what all tasks leave

    all_append : (x : T) (ys zs : List T) → AllApart x ys → AllApart x zs → AllApart x (ys ++ zs)
    all_append x [] zs a b = b
    all_append x (y ∷ ys) zs a b = (a.0, all_append x ys zs a.1 b)

    abbrev AllCross : List T → List T → Type 0
    AllCross [] zs = Unit {0}
    AllCross (x ∷ xs) zs = AllApart x zs × AllCross xs zs

    pairs_append : (xs zs : List T) → PairsApart xs → PairsApart zs → AllCross xs zs → PairsApart (xs ++ zs)
    pairs_append [] zs a b c = b
    pairs_append (x ∷ xs) zs a b c = (all_append x xs zs a.0 c.0, pairs_append xs zs a.1 b c.1)

    -- one task is apart from what another leaves
    far_one : (t u x : T) (ys : List T) → Apart t u → Descends t x → AllDescend u ys → AllApart x ys
    far_one t u x [] h d a = tt
    far_one t u x (y ∷ ys) h d a = (cross t u x y h d a.0, far_one t u x ys h d a.1)

    far : (a : List (List ℕ × List ℤ)) (n : ℕ) (t x : T) (ts : List T) → Descends t x → AllApart t ts
        → AllApart x (living_on (segments w a n ts))
    far a n t x [] d h = tt
    far a n t x (u ∷ us) d h =
        all_append x (synced (w.segment u a n).after ++ (w.segment u a n).spawns) (living_on (segments w a n us))
        (far_one t u x (synced (w.segment u a n).after ++ (w.segment u a n).spawns) h.0 d (family u a n).all)
        (far a n t x us d h.1)

    far_all : (a : List (List ℕ × List ℤ)) (n : ℕ) (t : T) (xs ts : List T) → AllDescend t xs → AllApart t ts
        → AllCross xs (living_on (segments w a n ts))
    far_all a n t [] ts d h = tt
    far_all a n t (x ∷ xs) ts d h = (far a n t x ts d.0 h, far_all a n t xs ts d.1 h)

    living_apart : (a : List (List ℕ × List ℤ)) (n : ℕ) (ts : List T) → PairsApart ts → PairsApart (living_on (segments w a n ts))
    living_apart a n [] h = tt
    living_apart a n (t ∷ ts) h =
        pairs_append (synced (w.segment t a n).after ++ (w.segment t a n).spawns) (living_on (segments w a n ts))
        (family t a n).pairs (living_apart a n ts h.1)
        (far_all a n t (synced (w.segment t a n).after ++ (w.segment t a n).spawns) ts (family t a n).all h.0)

    next_in_order : (a : List (List ℕ × List ℤ)) (n : ℕ) (ts : List T) → PairsApart ts → InOrder (next_live w.path (segments w a n ts))
    next_in_order a n ts h =
        let l = living_apart a n ts h in
        record { pairs = pairs_ordered (living_on (segments w a n ts)) l; rising = rising_ordered (living_on (segments w a n ts)) l }

    closed_in_order : (st : State T) (ss : List (List ℕ × Segment T)) (f : Option (ℕ × List ℕ)) → InOrder st.live
        → InOrder (next_live w.path ss) → InOrder (closed w.path st ss f).live
    closed_in_order st ss (Some f) h next = h
    closed_in_order st ss None h next = next

    -- tasks in order are followed by tasks in order
    pub stays_in_order : (st : State T) → InOrder st.live → InOrder (superstep w st).live
    stays_in_order st h =
        closed_in_order st (segments w st.arrays st.step st.live) (fault_in w.path w.most st.arrays (segments w st.arrays st.step st.live))
        h (next_in_order st.arrays st.step st.live h.pairs)

    in_order : (arrays : List (List ℕ × List ℤ)) (tasks : List T) (limit k : ℕ) → IsRun [] 0 tasks
        → InOrder (so_far w arrays tasks limit k).live
    in_order arrays tasks limit zero r = record { pairs = run_apart [] 0 tasks r; rising = start_rising 0 tasks r }
    in_order arrays tasks limit (suc k) r = by (status limit (so_far w arrays tasks limit k)) (in_order arrays tasks limit k r)
      where
        by : (o : Option Status) → InOrder (so_far w arrays tasks limit k).live
            → InOrder (unless_ended o (so_far w arrays tasks limit k) (superstep w (so_far w arrays tasks limit k))).live
        by (Some s) h = h
        by None h = stays_in_order (so_far w arrays tasks limit k) h

    pub live-paths-rise : (arrays : List (List ℕ × List ℤ)) (tasks : List T) (limit k : ℕ) → map w.path tasks ≡ children [] 0 (length tasks)
        → is_rising (live_paths w (so_far w arrays tasks limit k)) ≡ true
    live-paths-rise arrays tasks limit k r = (in_order arrays tasks limit k (is_run [] 0 tasks r)).rising
