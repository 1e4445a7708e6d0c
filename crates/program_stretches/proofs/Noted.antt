-- What a stretch keeps of its tasks.
use Rattle.std.proofs.Common.{◌≡◌, ◌++◌, ℕ, Bool, true, false, List, [], ◌∷◌, Option, Some, None, refl, sym, ap, ◌∙◌, append-nil, subst, arith}
use Rattle.std.specs.Prelude.{◌+◌, Vec, is_some, length, map}
use Rattle.std.proofs.lemmas.List.{length-append}
use Rattle.superstep_memory.specs.Paths.{is_rising}
use Rattle.superstep_memory.proofs.Merged.{rising_stays}
use Rattle.programs.proofs.InPlace.{all_stay}
use Rattle.std.specs.declared.alloc.Global.{Global}
use Rattle.superstep_memory.specs.PathOrder.{in_path_order}
use Rattle.programs.specs.DeedValue.{DeedValue}
use Rattle.programs.specs.InPlace.{kept, living_with, one_left, left_in, spawned_in}
use Rattle.program_stretches.specs.declared.part.Settled.{Settled}
use Rattle.program_stretches.specs.Kept.{IsKept, IsSettled, tasks_by, deeds_by}

module _ {S : Type 0} (path : S → List ℕ) where
  -- it isn't settled
  pub record IsFree (settled : Option Settled) (notes : List (Vec S Global × List (DeedValue S))) (strays : List S) : Type 0 where
    pub is_none : settled ≡ None
    pub no_notes : notes ≡ []
    pub no_strays : strays ≡ []
    pub tasks : (ts : List S) → tasks_by notes ts ≡ ts
    pub deeds : (ds : List (DeedValue S)) → deeds_by notes ds ≡ ds

  is_free : (o : Option Settled) (notes : List (Vec S Global × List (DeedValue S))) (strays : List S) → o ≡ None → notes ≡ [] → strays ≡ []
      → IsFree o notes strays
  is_free o notes strays e n s = record {
    is_none = e;
    no_notes = n;
    no_strays = s;
    tasks = λ ts. ap (λ (ns : List (Vec S Global × List (DeedValue S))). tasks_by ns ts) n;
    deeds = λ ds. ap (λ (ns : List (Vec S Global × List (DeedValue S))). deeds_by ns ds) n;
  }

  -- if it says so
  pub free : (o : Option Settled) (next strays : List S) (notes : List (Vec S Global × List (DeedValue S))) (done : Bool)
      → IsKept path o next strays notes done → o ≡ None → IsFree o notes strays
  free None next strays notes done h e = is_free None notes strays refl h.0 h.1
  free (Some z) next strays notes done h e = cc

  -- if its tasks haven't run
  pub free_undone : (o : Option Settled) (next strays : List S) (notes : List (Vec S Global × List (DeedValue S))) (done : Bool)
      → IsKept path o next strays notes done → done ≡ false → IsFree o notes strays
  free_undone None next strays notes done h e = is_free None notes strays refl h.0 h.1
  free_undone (Some z) next strays [] done h e = absurd h
  free_undone (Some z) next strays (n ∷ ns) done h e = let bad : true ≡ false = sym h.finished ∙ e in absurd cc

  -- if all its tasks stay
  pub free_staying : (o : Option Settled) (next strays : List S) (notes : List (Vec S Global × List (DeedValue S))) (done : Bool)
      (ds : List (DeedValue S))
      → IsKept path o next strays notes done
      → left_in (deeds_by notes ds) ≡ 0 → spawned_in (deeds_by notes ds) ≡ 0 → IsFree o notes strays
  free_staying None next strays notes done ds h a b = is_free None notes strays refl h.0 h.1
  free_staying (Some z) next strays [] done ds h a b = absurd h
  free_staying (Some z) next strays (n ∷ ns) done ds h a b = absurd (h.moved a b)

  -- or it is
  pub settled_is : (o : Option Settled) (z : Settled) (next strays : List S) (notes : List (Vec S Global × List (DeedValue S)))
      (done : Bool) (ts : List S) (ds : List (DeedValue S))
      → IsKept path o next strays notes done → o ≡ Some z
      → IsSettled path z next strays (tasks_by notes ts) (deeds_by notes ds) done
  settled_is None z next strays notes done ts ds h e = cc
  settled_is (Some y) z next strays [] done ts ds h e = absurd h
  settled_is (Some y) z next strays (n ∷ ns) done ts ds h e =
      subst (λ (x : Settled). IsSettled path x next strays n.0.items n.1 done) (same e) h
    where
      value : Option Settled → Settled
      value None = y
      value (Some x) = x

      same : Some y ≡ Some z → y ≡ z
      same f = ap value f

  -- if it isn't, it says so
  pub free_if : (o : Option Settled) (next strays : List S) (notes : List (Vec S Global × List (DeedValue S))) (done : Bool)
      → IsKept path o next strays notes done → is_some o ≡ false → IsFree o notes strays
  free_if None next strays notes done h e = is_free None notes strays refl h.0 h.1
  free_if (Some z) next strays notes done h e = cc

  -- the next live tasks of one that is settled
  pub kept_next : (o : Option Settled) (next strays : List S) (notes : List (Vec S Global × List (DeedValue S))) (done : Bool) (ts : List S)
      (ds : List (DeedValue S))
      → IsKept path o next strays notes done → is_some o ≡ true
      → next ++ strays ≡ in_path_order path (living_with (tasks_by notes ts) (deeds_by notes ds))
  kept_next None next strays notes done ts ds h e = cc
  kept_next (Some z) next strays [] done ts ds h e = absurd h
  kept_next (Some z) next strays (n ∷ ns) done ts ds h e = h.order

  -- and of one whose tasks all stay
  pub stays_next : (o : Option Settled) (next strays : List S) (notes : List (Vec S Global × List (DeedValue S))) (done : Bool)
      (ds : List (DeedValue S))
      → IsKept path o next strays notes done → is_some o ≡ false
      → left_in ds ≡ 0 → spawned_in ds ≡ 0 → length (tasks_by notes next) ≡ length (deeds_by notes ds)
      → is_rising (map path (tasks_by notes next)) ≡ true
      → next ++ strays ≡ in_path_order path (living_with (tasks_by notes next) (deeds_by notes ds))
  stays_next o next strays notes done ds h e a b l r =
      let f = free_if o next strays notes done h e in
      let same : length next ≡ length ds = (λ i. length (sym (f.tasks next) i)) ∙ l ∙ ap length (f.deeds ds) in
      let rises : is_rising (map path next) ≡ true = ap (λ (ts : List S). is_rising (map path ts)) (sym (f.tasks next)) ∙ r in
      ap (λ (ws : List S). next ++ ws) f.no_strays ∙ append-nil next
      ∙ sym
      ((λ i. in_path_order path (living_with (f.tasks next i) (f.deeds ds i))) ∙ ap (in_path_order path) (all_stay next ds same a b)
      ∙ rising_stays path next rises)

-- how many tasks live on
pub living_count : {S : Type 0} (us : List S) (ds : List (DeedValue S)) → length us ≡ length ds
    → length (living_with us ds) + left_in ds ≡ length ds + spawned_in ds
living_count [] [] l = refl
living_count [] (d ∷ ds) l = absurd (omega (arith, l))
living_count (u ∷ us) [] l = absurd (omega (arith, l))
living_count (u ∷ us) (d ∷ ds) l =
    let rest = living_count us ds (omega (arith, l)) in
    let a = length-append (kept d.synced u ++ d.spawns) (living_with us ds) in
    let b = length-append (kept d.synced u) d.spawns in
    let c = one d.synced in
    omega (arith, rest, a, b, c)
  where
    one : (x : Bool) → length (kept x u) + one_left x ≡ 1
    one true = refl
    one false = refl
