-- What tasks left in a superstep, and superstep by superstep, as what they mean.
use Rattle.std.proofs.Common.{◌≡◌, ◌==◌, ℕ, ◌+◌, Bool, true, false, List, [], ◌∷◌, ◌++◌, map, length, get_or, refl, sym, ap, ◌∙◌, arith}
use Rattle.std.specs.Prelude.{ℤ, ◌&&◌, if◌then◌else◌}
use Rattle.std.specs.List.{AllByRecursion}
use Rattle.std.specs.Str.{bytes_eq}
use Rattle.std.proofs.lemmas.Slice.Eq.{bytes_eq-Decides}
use Rattle.std.proofs.lemmas.Bool.Decides.{nat_tests}
use Rattle.superstep_memory.specs.Paths.{path_lt, is_rising}
use Rattle.superstep_memory.proofs.PathOrder.{lt_asym, rising_rest, rising_all}
use Rattle.programs.specs.Meaning.{Synced, Faulted, Segment, Frame, IsFormed, NumbersItsSpawns, StaysTheSameTask, children}
use Rattle.programs.specs.History.{Entry, nothing_known, is_of, left_of, says_in, says_by, AllAllowed, AreOf}
use Rattle.programs.specs.Done.{Agrees}

module _ {T : Type 0} (f : Frame T) where
  -- ---- what is known is well formed

  abbrev pub AllFormed : List (Entry T) → Type 0
  AllFormed [] = Unit {0}
  AllFormed (e ∷ es) = IsFormed f e.task e.left × AllFormed es

  pub all_formed : (may : T → List (List ℕ × List ℤ) → ℕ → Segment T → Type 0) (arrays : List (List ℕ × List ℤ)) (step : ℕ)
      (es : List (Entry T))
      → AllAllowed f may arrays step es → AllFormed es
  all_formed may arrays step [] h = tt
  all_formed may arrays step (e ∷ es) h = (h.1, all_formed may arrays step es h.2)

  both : (a b : Bool) → (a && b) ≡ true → (a ≡ true) × (b ≡ true)
  both true b h = (refl, h)
  both false b h = cc

  -- an entry of a task has its path and count
  entry_of : (t : T) (e : Entry T) → is_of f t e ≡ true → (f.path t ≡ f.path e.task) × (f.begun t ≡ f.begun e.task)
  entry_of t e h =
      let b = both (bytes_eq (f.path t) (f.path e.task)) (f.begun t == f.begun e.task) h in
      ((bytes_eq-Decides (f.path t) (f.path e.task)).0 b.0, same (f.begun t) (f.begun e.task) b.1)
    where
      same : (m n : ℕ) → (m == n) ≡ true → m ≡ n
      same m n h = grind (arith, nat_tests)

  moved : (t u : T) (g : Segment T) → f.path t ≡ f.path u → f.begun t ≡ f.begun u → IsFormed f u g → IsFormed f t g
  moved t u g p b h = record {
    numbered = h.numbered ∙ (λ i. children (sym p i) (sym b i) (length g.spawns));
    same = λ x e. let s = h.same x e in (s.0 ∙ sym p, s.1 ∙ ap (λ (n : ℕ). n + length g.spawns) (sym b));
  }

  nothing_formed : (t : T) → IsFormed f t nothing_known
  nothing_formed t = record { numbered = refl; same = λ x e. absurd (not_synced x e) }
    where
      not_synced : (x : T) → Faulted 256 ≡ Synced x → ⊥
      not_synced x e = cc

  pub left_formed : (es : List (Entry T)) → AllFormed es → (t : T) → IsFormed f t (left_of f es t)
  left_formed [] h t = nothing_formed t
  left_formed (e ∷ es) h t = by (is_of f t e) refl (left_formed es h.1 t)
    where
      by : (b : Bool) → is_of f t e ≡ b → IsFormed f t (left_of f es t) → IsFormed f t (if b then e.left else left_of f es t)
      by true i more = let o = entry_of t e i in moved t e.task e.left o.0 o.1 h.0
      by false i more = more

  pub numbers_in : (most : ℕ) (es : List (Entry T)) → AllFormed es → NumbersItsSpawns (says_in f most es)
  numbers_in most es h t arrays step = (left_formed es h t).numbered

  pub stays_in : (most : ℕ) (es : List (Entry T)) → AllFormed es → StaysTheSameTask (says_in f most es)
  stays_in most es h t u arrays step e = (left_formed es h t).same u e

  pub numbers_by : (most : ℕ) (history : List (List (Entry T))) → ((n : ℕ) → AllFormed (get_or history n []))
      → NumbersItsSpawns (says_by f most history)
  numbers_by most history h t arrays step = (left_formed (get_or history step []) (h step) t).numbered

  pub stays_by : (most : ℕ) (history : List (List (Entry T))) → ((n : ℕ) → AllFormed (get_or history n []))
      → StaysTheSameTask (says_by f most history)
  stays_by most history h t u arrays step e = (left_formed (get_or history step []) (h step) t).same u e

  -- ---- what is known of tasks whose paths rise

  self_eq : (p : List ℕ) → bytes_eq p p ≡ true
  self_eq p = (bytes_eq-Decides p p).1 refl

  self_is : (n : ℕ) → (n == n) ≡ true
  self_is n = grind (arith, nat_tests)

  is_self : (e : Entry T) → is_of f e.task e ≡ true
  is_self e = λ i. self_eq (f.path e.task) i && self_is (f.begun e.task) i

  -- a later path is another
  other : (e x : Entry T) → path_lt (f.path e.task) (f.path x.task) ≡ true → is_of f x.task e ≡ false
  other e x lt = by (bytes_eq (f.path x.task) (f.path e.task)) refl
    where
      by : (b : Bool) → bytes_eq (f.path x.task) (f.path e.task) ≡ b → (b && (f.begun x.task == f.begun e.task)) ≡ false
      by false h = refl
      by true h =
          let same : f.path x.task ≡ f.path e.task = (bytes_eq-Decides (f.path x.task) (f.path e.task)).0 h in
          let a = lt_asym (f.path e.task) (f.path x.task) lt in
          let back : path_lt (f.path x.task) (f.path e.task) ≡ true = (λ i. path_lt (same i) (sym same i)) ∙ lt in
          cc

  agrees_more : (most : ℕ) (arrays : List (List ℕ × List ℤ)) (step : ℕ) (e : Entry T) (all es : List (Entry T))
      → AllByRecursion (λ q. path_lt (f.path e.task) q ≡ true) (map (λ x. f.path x.task) es)
      → Agrees (says_in f most all) arrays step es → Agrees (says_in f most (e ∷ all)) arrays step es
  agrees_more most arrays step e all [] lt h = tt
  agrees_more most arrays step e all (x ∷ es) lt h =
      (ap (λ (b : Bool). if b then e.left else left_of f all x.task) (other e x lt.0) ∙ h.0, agrees_more most arrays step e all es lt.1 h.1)

  pub agrees : (most : ℕ) (arrays : List (List ℕ × List ℤ)) (step : ℕ) (es : List (Entry T))
      → is_rising (map (λ e. f.path e.task) es) ≡ true
      → Agrees (says_in f most es) arrays step es
  agrees most arrays step [] r = tt
  agrees most arrays step (e ∷ es) r = (
    ap (λ (b : Bool). if b then e.left else left_of f es e.task) (is_self e),
    agrees_more most arrays step e es es (rising_all (f.path e.task) (map (λ x. f.path x.task) es) r)
        (agrees most arrays step es (rising_rest (f.path e.task) (map (λ x. f.path x.task) es) r)),
  )

  -- the first of rising paths rise
  pub rising_front : (ps qs : List (List ℕ)) → is_rising (ps ++ qs) ≡ true → is_rising ps ≡ true
  rising_front [] qs r = refl
  rising_front (p ∷ []) qs r = refl
  rising_front (p ∷ q ∷ ps) qs r =
      let b = both (path_lt p q) (is_rising (q ∷ ps ++ qs)) r in
      λ i. b.0 i && rising_front (q ∷ ps) qs b.1 i

  map_append : {A B : Type 0} (g : A → B) (xs ys : List A) → map g (xs ++ ys) ≡ map g xs ++ map g ys
  map_append g [] ys = refl
  map_append g (x ∷ xs) ys = ap (λ zs. g x ∷ zs) (map_append g xs ys)

  map_map : (es : List (Entry T)) → map f.path (map (λ e. e.task) es) ≡ map (λ e. f.path e.task) es
  map_map [] = refl
  map_map (e ∷ es) = ap (λ (ps : List (List ℕ)). f.path e.task ∷ ps) (map_map es)

  -- the entries of tasks whose paths rise
  pub entries_rise : (tasks : List T) (es : List (Entry T)) → AreOf f tasks es → is_rising (map f.path tasks) ≡ true
      → is_rising (map (λ e. f.path e.task) es) ≡ true
  entries_rise tasks es h r =
      rising_front (map (λ e. f.path e.task) es) (map f.path h.back)
      (sym (ap (λ (ts : List T). is_rising (map f.path ts)) h.cut
      ∙ ap is_rising (map_append f.path (map (λ e. e.task) es) h.back ∙ ap (λ (ps : List (List ℕ)). ps ++ map f.path h.back) (map_map es)))
      ∙ r)
