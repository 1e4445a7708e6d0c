-- Strays are put in their places, stretch after stretch.
use Rattle.std.proofs.Common.{◌≡◌, ◌<◌, ℕ, Bool, true, false, List, [], ◌∷◌, ◌++◌, map, length, reverse, slice_get, Option, Some, None, refl, sym, ap, subst, ◌∙◌, arith, append_assoc, append-nil}
use Rattle.std.specs.Prelude.{if◌then◌else◌}
use Rattle.std.specs.List.{AllByRecursion}
use Rattle.superstep_memory.specs.Paths.{path_lt}
use Rattle.superstep_memory.specs.PathOrder.{put_in, put_all, in_path_order}
use Rattle.superstep_memory.proofs.PathOrder.{lt_asym}
use Rattle.superstep_memory.proofs.Merged.{put_all_append, merged, merged_puts}
use Rattle.programs.specs.Regroup.{IsBefore, IsWithin, IsInOrder}
use Rattle.std.proofs.lemmas.List.{reverse-append, reverse-reverse}
use Rattle.programs.proofs.Regrouping.{NoneBefore, AllAfter, not_lt, none_all, none_earlier, fronts, sorted_front, sorted_back, sorted_all}
use Rattle.program_stretches.specs.Next.{Receives, PassesBy, IsStrayNext, HasMovedLast, IsEndWithin, IsFirstBefore}

module _ {A : Type 0} (path : A → List ℕ) where
  before : (x y : A) (ys : List A) → path_lt (path y) (path x) ≡ true → put_in path x (y ∷ ys) ≡ y ∷ put_in path x ys
  before x y ys e = ap (λ c. if c then y ∷ put_in path x ys else x ∷ y ∷ ys) e

  behind : (x y : A) (ys : List A) → path_lt (path y) (path x) ≡ false → put_in path x (y ∷ ys) ≡ x ∷ y ∷ ys
  behind x y ys e = ap (λ c. if c then y ∷ put_in path x ys else x ∷ y ∷ ys) e

  -- what a path comes before comes after all that doesn't come after that path
  lt_from : (p q r : List ℕ) → path_lt q r ≡ true → path_lt q p ≡ false → path_lt p r ≡ true
  lt_from p q r h k = by (path_lt p r) refl
    where
      by : (b : Bool) → path_lt p r ≡ b → path_lt p r ≡ true
      by true e = e
      by false e = let bad : true ≡ false = sym h ∙ not_lt q p r k e in absurd cc

  -- a task comes before the first stray, if there is one
  abbrev ComesFirst : A → List A → Type 0
  ComesFirst t [] = Unit {0}
  ComesFirst t (w ∷ ws) = path_lt (path t) (path w) ≡ true

  -- ---- one task among strays

  -- the first of them doesn't come before this path
  abbrev HeadNot : List ℕ → List A → Type 0
  HeadNot p [] = Unit {0}
  HeadNot p (z ∷ zs) = path_lt (path z) p ≡ false

  head_in : (p : List ℕ) (x : A) (zs : List A) → path_lt (path x) p ≡ false → HeadNot p zs → HeadNot p (put_in path x zs)
  head_in p x [] h k = h
  head_in p x (z ∷ zs) h k = by (path_lt (path z) (path x))
    where
      by : (b : Bool) → HeadNot p (if b then z ∷ put_in path x zs else x ∷ z ∷ zs)
      by true = k
      by false = h

  head_all : (p : List ℕ) (xs zs : List A) → NoneBefore path p xs → HeadNot p zs → HeadNot p (put_all path xs zs)
  head_all p [] zs h k = k
  head_all p (x ∷ xs) zs h k = head_in p x (put_all path xs zs) h.0 (head_all p xs zs h.1 k)

  put_head : (x : A) (zs : List A) → HeadNot (path x) zs → put_in path x zs ≡ x ∷ zs
  put_head x [] h = refl
  put_head x (z ∷ zs) h = behind x z zs h

  -- the first stray goes in front of a task
  pub stray_first : (w : A) (ws : List A) (t : A) (zs : List A) → path_lt (path t) (path w) ≡ false → IsInOrder path (w ∷ ws)
      → put_all path (w ∷ ws) (t ∷ zs) ≡ w ∷ put_all path ws (t ∷ zs)
  stray_first w ws t zs h s = put_head w (put_all path ws (t ∷ zs)) (head_all (path w) ws (t ∷ zs) s.0 h)

  -- a task goes in front of all strays
  task_first : (t : A) (ws zs : List A) → AllAfter path (path t) ws → put_all path ws (t ∷ zs) ≡ t ∷ put_all path ws zs
  task_first t [] zs h = refl
  task_first t (w ∷ ws) zs h = ap (put_in path w) (task_first t ws zs h.1) ∙ before w t (put_all path ws zs) h.0

  first_all : (t : A) (ws : List A) → ComesFirst t ws → IsInOrder path ws → AllAfter path (path t) ws
  first_all t [] h s = tt
  first_all t (w ∷ ws) h s = (h, others ws s.0)
    where
      -- what comes before one comes before those that don't come before that one
      later : (p q r : List ℕ) → path_lt p q ≡ true → path_lt r q ≡ false → path_lt p r ≡ true
      later p q r a b = by (path_lt p r) refl
        where
          by : (c : Bool) → path_lt p r ≡ c → path_lt p r ≡ true
          by true e = e
          by false e = let bad : true ≡ false = sym a ∙ not_lt p r q e b in absurd cc

      others : (xs : List A) → NoneBefore path (path w) xs → AllAfter path (path t) xs
      others [] k = tt
      others (x ∷ xs) k = (later (path t) (path w) (path x) h k.0, others xs k.1)

  pub task_next : (t : A) (ws zs : List A) → ComesFirst t ws → IsInOrder path ws → put_all path ws (t ∷ zs) ≡ t ∷ put_all path ws zs
  task_next t ws zs h s = task_first t ws zs (first_all t ws h s)

  -- ---- strays pass by a list of tasks

  pass_each : (ts ws zs : List A) → AllByRecursion (λ t. ComesFirst t ws) ts → IsInOrder path ws
      → put_all path ws (ts ++ zs) ≡ ts ++ put_all path ws zs
  pass_each [] ws zs h s = refl
  pass_each (t ∷ ts) ws zs h s = task_next t ws (ts ++ zs) h.0 s ∙ ap (λ (xs : List A). t ∷ xs) (pass_each ts ws zs h.1 s)

  comes_before : (l w : A) (ws ts : List A) → path_lt (path l) (path w) ≡ true → AllByRecursion (λ t. path_lt (path l) (path t) ≡ false) ts
      → AllByRecursion (λ t. ComesFirst t (w ∷ ws)) ts
  comes_before l w ws [] h k = tt
  comes_before l w ws (t ∷ ts) h k = (lt_from (path t) (path l) (path w) h k.0, comes_before l w ws ts h k.1)

  none_after_last : (ts : List A) (l : A) → IsInOrder path (ts ++ l ∷ []) → AllByRecursion (λ t. path_lt (path l) (path t) ≡ false) ts
  none_after_last [] l s = tt
  none_after_last (t ∷ ts) l s = (last ts s.0, none_after_last ts l s.1)
    where
      last : (xs : List A) → NoneBefore path (path t) (xs ++ l ∷ []) → path_lt (path l) (path t) ≡ false
      last [] n = n.0
      last (x ∷ xs) n = last xs n.1

  each_append : (P : A → Type 0) (xs ys : List A) → AllByRecursion P xs → AllByRecursion P ys → AllByRecursion P (xs ++ ys)
  each_append P [] ys h k = k
  each_append P (x ∷ xs) ys h k = (h.0, each_append P xs ys h.1 k)

  none_first : (ts : List A) → AllByRecursion (λ t. ComesFirst t []) ts
  none_first [] = tt
  none_first (t ∷ ts) = (tt, none_first ts)

  turned : (x : A) (xs : List A) → reverse (x ∷ xs) ≡ reverse xs ++ x ∷ []
  turned x xs = reverse-append (x ∷ []) xs

  -- all strays pass by, if the first comes after the last of the tasks
  pub passes : (ts ws : List A) → IsInOrder path ts → IsInOrder path ws → PassesBy path (reverse ts) ws → Receives path ts ts ws ws
  passes ts ws s o p =
      record {
        front = [];
        cut = refl;
        all =
            λ zs. sym
            (pass_each ts ws zs (subst (AllByRecursion (λ t. ComesFirst t ws)) (reverse-reverse ts) (each (reverse ts) ws (subst (IsInOrder path) (sym (reverse-reverse ts)) s) p)) o);
      }
    where
      each : (bs vs : List A) → IsInOrder path (reverse bs) → PassesBy path bs vs → AllByRecursion (λ t. ComesFirst t vs) (reverse bs)
      each [] vs s p = tt
      each (l ∷ rest) [] s p = none_first (reverse (l ∷ rest))
      each (l ∷ rest) (w ∷ vs) s p =
          subst (AllByRecursion (λ t. ComesFirst t (w ∷ vs))) (sym (turned l rest))
          (each_append (λ t. ComesFirst t (w ∷ vs)) (reverse rest) (l ∷ [])
          (comes_before l w vs (reverse rest) p (none_after_last (reverse rest) l (subst (IsInOrder path) (turned l rest) s))) (p, tt))

  -- ---- tasks move between the end of a list and the strays behind it

  pub back_same : (tasks rest strays new : List A) → HasMovedLast tasks rest strays new → rest ++ reverse new ≡ tasks ++ reverse strays
  back_same tasks rest strays new h =
      ap (λ (xs : List A). rest ++ reverse xs) h.moved ∙ ap (λ (xs : List A). rest ++ xs) (reverse-append strays (h.last ∷ []))
      ∙ sym (append_assoc rest (h.last ∷ []) (reverse strays)) ∙ ap (λ (xs : List A). xs ++ reverse strays) (sym h.cut)

  pub front_same : (strays rest tasks new : List A) → HasMovedLast strays rest tasks new → new ++ reverse rest ≡ tasks ++ reverse strays
  front_same strays rest tasks new h =
      ap (λ (xs : List A). xs ++ reverse rest) h.moved ∙ append_assoc tasks (h.last ∷ []) (reverse rest)
      ∙ ap (λ (xs : List A). tasks ++ xs) (sym (ap reverse h.cut ∙ reverse-append rest (h.last ∷ [])))

  first_there : (xs rest : List A) (x : A) → xs ≡ rest ++ x ∷ [] → reverse xs ≡ x ∷ reverse rest
  first_there xs rest x e = ap reverse e ∙ reverse-append rest (x ∷ [])

  within : (low : Option (List ℕ)) (t : A) → IsBefore path low t → IsWithin path low t
  within None t b = tt
  within (Some p) t b = lt_asym (path t) p b

  pub end_within : (low : Option (List ℕ)) (strays rest tasks new : List A) → HasMovedLast strays rest tasks new
      → IsFirstBefore path low (reverse strays) → IsEndWithin path low (reverse new)
  end_within low strays rest tasks new h b =
      subst (IsEndWithin path low) (sym (first_there new tasks h.last h.moved))
      (within low h.last (subst (IsFirstBefore path low) (first_there strays rest h.last h.cut) b))

  pub some_first : (low : Option (List ℕ)) (strays : List A) → IsFirstBefore path low (reverse strays) → 0 < length strays
  some_first low [] b = absurd b
  some_first low (s ∷ strays) b = omega arith

  -- ---- strays are merged into a list of tasks

  -- these were moved to `out`, and these tasks and strays are left
  pub record Merges (all waited out ts ws : List A) : Type 0 where
    pub front : List A
    pub cut : waited ≡ front ++ ws
    pub order : IsInOrder path ws
    pub left : (rest : List A) → out ++ put_all path ws (ts ++ rest) ≡ put_all path waited (all ++ rest)

  pub merge_begins : (ts ws out : List A) → out ≡ [] → IsInOrder path ws → Merges ts ws out ts ws
  merge_begins ts ws out e s =
      record { front = []; cut = refl; order = s; left = λ rest. ap (λ (xs : List A). xs ++ put_all path ws (ts ++ rest)) e }

  merge_stray : (all waited out new ts ws : List A) (t w : A) → Merges all waited out (t ∷ ts) (w ∷ ws) → path_lt (path t) (path w) ≡ false
      → new ≡ out ++ w ∷ [] → Merges all waited new (t ∷ ts) ws
  merge_stray all waited out new ts ws t w m h e = record {
    front = m.front ++ w ∷ [];
    cut = m.cut ∙ sym (append_assoc m.front (w ∷ []) ws);
    order = m.order.1;
    left = λ rest.
        ap (λ (xs : List A). xs ++ put_all path ws (t ∷ ts ++ rest)) e
        ∙ append_assoc out (w ∷ []) (put_all path ws (t ∷ ts ++ rest))
        ∙ ap (λ (xs : List A). out ++ xs) (sym (stray_first w ws t (ts ++ rest) h m.order))
        ∙ m.left rest;
  }

  merge_task : (all waited out new ts ws : List A) (t : A) → Merges all waited out (t ∷ ts) ws → ComesFirst t ws → new ≡ out ++ t ∷ []
      → Merges all waited new ts ws
  merge_task all waited out new ts ws t m h e = record {
    front = m.front;
    cut = m.cut;
    order = m.order;
    left = λ rest.
        ap (λ (xs : List A). xs ++ put_all path ws (ts ++ rest)) e
        ∙ append_assoc out (t ∷ []) (put_all path ws (ts ++ rest))
        ∙ ap (λ (xs : List A). out ++ xs) (sym (task_next t ws (ts ++ rest) h m.order))
        ∙ m.left rest;
  }

  last_first : (xs rest : List A) (x : A) → xs ≡ rest ++ x ∷ [] → reverse xs ≡ x ∷ reverse rest
  last_first xs rest x e = ap reverse e ∙ reverse-append rest (x ∷ [])

  stray_step : (all waited out new ts ws : List A) (w : A) → Merges all waited out ts (w ∷ ws) → IsStrayNext path ts (w ∷ ws)
      → new ≡ out ++ w ∷ [] → Merges all waited new ts ws
  stray_step all waited out new [] ws w m n e = absurd n
  stray_step all waited out new (t ∷ ts) ws w m n e = merge_stray all waited out new ts ws t w m n e

  -- the next is a stray
  pub stray_moved : (all waited out new tasks strays rest : List A) → Merges all waited out (reverse tasks) (reverse strays)
      → IsStrayNext path (reverse tasks) (reverse strays)
      → HasMovedLast strays rest out new → Merges all waited new (reverse tasks) (reverse rest)
  stray_moved all waited out new tasks strays rest m n h =
      let e = last_first strays rest h.last h.cut in
      stray_step all waited out new (reverse tasks) (reverse rest) h.last (subst (Merges all waited out (reverse tasks)) e m)
      (subst (IsStrayNext path (reverse tasks)) e n) h.moved

  task_step : (all waited out new ts ws : List A) (t : A) → Merges all waited out (t ∷ ts) ws → PassesBy path (t ∷ ts) ws
      → new ≡ out ++ t ∷ [] → Merges all waited new ts ws
  task_step all waited out new ts [] t m n e = merge_task all waited out new ts [] t m tt e
  task_step all waited out new ts (w ∷ ws) t m n e = merge_task all waited out new ts (w ∷ ws) t m n e

  -- the next is a task
  pub task_moved : (all waited out new tasks rest ws : List A) → Merges all waited out (reverse tasks) ws → PassesBy path (reverse tasks) ws
      → HasMovedLast tasks rest out new
      → Merges all waited new (reverse rest) ws
  task_moved all waited out new tasks rest ws m n h =
      let e = last_first tasks rest h.last h.cut in
      task_step all waited out new (reverse rest) ws h.last (subst (λ (xs : List A). Merges all waited out xs ws) e m)
      (subst (λ (xs : List A). PassesBy path xs ws) e n) h.moved

  -- there is one
  pub stray_there : (ts strays : List A) → IsStrayNext path ts (reverse strays) → 0 < length strays
  stray_there [] strays n = absurd n
  stray_there (t ∷ ts) [] n = absurd n
  stray_there (t ∷ ts) (w ∷ strays) n = omega arith

  pub merge_ends : (all waited out tasks ws : List A) → Merges all waited out (reverse tasks) ws → length tasks ≡ 0
      → Receives path all out waited ws
  merge_ends all waited out [] ws m n = record { front = m.front; cut = m.cut; all = m.left }
  merge_ends all waited out (t ∷ tasks) ws m n = absurd (omega (arith, n))

  -- ---- tasks in front of all others

  none_acc : (f y : A) (ys : List A) → path_lt (path y) (path f) ≡ false → IsInOrder path (y ∷ ys) → NoneBefore path (path f) (y ∷ ys)
  none_acc f y ys h s = (h, none_earlier path (path y) (path f) ys h s.0)

  each_low : (bs : List A) (y : A) (ys : List A) → IsInOrder path (reverse bs) → IsEndWithin path (Some (path y)) bs
      → IsInOrder path (y ∷ ys)
      → AllByRecursion (λ f. NoneBefore path (path f) (y ∷ ys)) (reverse bs)
  each_low [] y ys s h o = tt
  each_low (l ∷ rest) y ys s h o =
      subst (AllByRecursion (λ f. NoneBefore path (path f) (y ∷ ys))) (sym (turned l rest))
      (each_append (λ f. NoneBefore path (path f) (y ∷ ys)) (reverse rest) (l ∷ [])
      (front (reverse rest) (none_after_last (reverse rest) l (subst (IsInOrder path) (turned l rest) s))) (none_acc l y ys h o, tt))
    where
      front : (ts : List A) → AllByRecursion (λ t. path_lt (path l) (path t) ≡ false) ts
          → AllByRecursion (λ f. NoneBefore path (path f) (y ∷ ys)) ts
      front [] k = tt
      front (t ∷ ts) k = (none_acc t y ys (not_lt (path y) (path l) (path t) h k.0) o, front ts k.1)

  none_nothing : (ts : List A) → AllByRecursion (λ f. NoneBefore path (path f) []) ts
  none_nothing [] = tt
  none_nothing (t ∷ ts) = (tt, none_nothing ts)

  both_none : (ts ws acc : List A) → IsInOrder path (ts ++ ws) → AllByRecursion (λ f. NoneBefore path (path f) acc) ts
      → AllByRecursion (λ f. NoneBefore path (path f) (put_all path ws acc)) ts
  both_none [] ws acc s h = tt
  both_none (t ∷ ts) ws acc s h = (none_all path (path t) ws acc (last ts s.0) h.0, both_none ts ws acc s.1 h.1)
    where
      last : (xs : List A) → NoneBefore path (path t) (xs ++ ws) → NoneBefore path (path t) ws
      last [] n = n
      last (x ∷ xs) n = last xs n.1

  -- tasks of which the last doesn't come after the first of others stay in front of these; those behind them are put in their places
  pub fits_before : (ts ws acc : List A) (low : Option (List ℕ)) → IsInOrder path (ts ++ ws) → IsInOrder path acc
      → low ≡ slice_get (map path acc) 0 → IsEndWithin path low (reverse ts)
      → put_all path (ts ++ ws) acc ≡ ts ++ put_all path ws acc
  fits_before ts ws acc low s o l h =
      put_all_append path ts ws acc
      ∙ fronts path ts (put_all path ws acc) (sorted_front path ts ws s)
      (both_none ts ws acc s (by acc o (subst (λ (x : Option (List ℕ)). IsEndWithin path x (reverse ts)) l h)))
    where
      by : (ys : List A) → IsInOrder path ys → IsEndWithin path (slice_get (map path ys) 0) (reverse ts)
          → AllByRecursion (λ f. NoneBefore path (path f) ys) ts
      by [] o h = none_nothing ts
      by (y ∷ ys) o h =
          subst (AllByRecursion (λ f. NoneBefore path (path f) (y ∷ ys))) (reverse-reverse ts)
          (each_low (reverse ts) y ys (subst (IsInOrder path) (sym (reverse-reverse ts)) (sorted_front path ts ws s)) h o)

  -- ---- what is in order already

  again : (xs : List A) → in_path_order path (in_path_order path xs) ≡ in_path_order path xs
  again xs =
      fronts path (in_path_order path xs) [] (sorted_all path xs [] tt) (none_nothing (in_path_order path xs))
      ∙ append-nil (in_path_order path xs)

  pub put_ordered : (xs acc : List A) → put_all path (in_path_order path xs) acc ≡ put_all path xs acc
  put_ordered xs acc =
      sym (merged_puts path (in_path_order path xs) acc) ∙ ap (λ (zs : List A). merged path zs acc) (again xs) ∙ merged_puts path xs acc

  pub in_order : (xs : List A) → IsInOrder path (in_path_order path xs)
  in_order xs = sorted_all path xs [] tt

  -- a stretch's next tasks are put in front, its strays in their places
  pub placed : (living ts ws acc new all : List A) (low : Option (List ℕ)) → ts ++ ws ≡ in_path_order path living → IsInOrder path acc
      → low ≡ slice_get (map path acc) 0 → IsEndWithin path low (reverse ts)
      → new ≡ put_all path ws acc → all ≡ ts ++ new → all ≡ put_all path living acc
  placed living ts ws acc new all low e o l h n a =
      a ∙ ap (λ (xs : List A). ts ++ xs) n
      ∙ sym (fits_before ts ws acc low (subst (IsInOrder path) (sym e) (in_order living)) o l h)
      ∙ ap (λ (xs : List A). put_all path xs acc) e ∙ put_ordered living acc

  -- the strays are in order
  pub strays_order : (living ts ws : List A) → ts ++ ws ≡ in_path_order path living → IsInOrder path ws
  strays_order living ts ws e = sorted_back path ts ws (subst (IsInOrder path) (sym e) (in_order living))

  -- strays with nothing behind them
  pub strays_last : (ws : List A) → IsInOrder path ws → put_all path ws [] ≡ ws
  strays_last ws s = fronts path ws [] s (none_nothing ws) ∙ append-nil ws
