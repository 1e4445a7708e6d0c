-- The task of a put that overflows can be found: its stretch isn't settled.
use Rattle.std.proofs.Common.{◌≡◌, ◌<◌, ◌≤◌, ◌+◌, ◌-◌, ℕ, zero, suc, Bool, true, false, nat_lt, List, [], ◌∷◌, ◌++◌, length, map, Option, Some, None, refl, sym, ap, ◌∙◌, subst, arith}
use Rattle.std.specs.Prelude.{ℤ, ◌==◌, ◌&&◌, if◌then◌else◌, not}
use Rattle.std.specs.List.{list_all}
use Rattle.std.proofs.lemmas.Bool.Decides.{nat_tests}
use Rattle.std.proofs.lemmas.List.{length-append, length-map, map-append}
use Rattle.superstep_memory.specs.declared.arrays.Put.{Put}
use Rattle.superstep_memory.specs.declared.arrays.PutKind.{PutKind}
use Rattle.superstep_memory.specs.declared.arrays.PutKind.TheVariants.{Set, Add}
use Rattle.superstep_memory.specs.Landing.{is_set, sets, is_over, overflows, over_in, joined}
use Rattle.superstep_memory.specs.Paths.{is_rising}
use Rattle.programs.specs.Meaning.{Segment}
use Rattle.programs.specs.Reads.{Reads, reads}
use Rattle.programs.specs.DeedValue.{DeedValue}
use Rattle.programs.specs.Superstep.{log_of}
use Rattle.programs.specs.InPlace.{AllDone, made_in}
use Rattle.program_stretches.specs.PartValue.{PartValue}
use Rattle.program_stretches.specs.Parts.{FindsMaker, settled_at, puts_in, deeds_in, without_puts}
use Rattle.program_stretches.proofs.Along.{both}

-- ---- puts that add

-- the one at this place adds
abbrev add_at : List Put → ℕ → Bool
add_at [] k = false
add_at (p ∷ ps) zero = not (is_set p)
add_at (p ∷ ps) (suc k) = add_at ps k

-- one that overflows adds
over_adds : (kind : PutKind) (value so_far : ℤ) → is_over kind value so_far ≡ true → not (sets kind) ≡ true
over_adds Set value so_far h = cc
over_adds Add value so_far h = refl

record AddsAt (n place : ℕ) (ps : List Put) : Type 0 where
  k : ℕ
  is : place ≡ n + k
  adds : add_at ps k ≡ true

some_same : {a b : ℕ} → Some a ≡ Some b → a ≡ b
some_same {a} e = ap value e
  where
    value : Option ℕ → ℕ
    value None = a
    value (Some x) = x

over_add : (xs : List (List ℕ × List ℤ)) (front : List Put) (n place : ℕ) (ps : List Put) → Some place ≡ over_in xs front n ps
    → AddsAt n place ps
over_add xs front n place [] e = cc
over_add xs front n place (p ∷ ps) e = by (overflows xs front p) refl e (over_add xs (front ++ p ∷ []) (suc n) place ps)
  where
    by : (b : Bool) → overflows xs front p ≡ b → Some place ≡ (if b then Some n else over_in xs (front ++ p ∷ []) (suc n) ps)
        → (Some place ≡ over_in xs (front ++ p ∷ []) (suc n) ps → AddsAt (suc n) place ps) → AddsAt n place (p ∷ ps)
    by true t f more = record { k = 0; is = let s = some_same f in omega (arith, s); adds = over_adds p.kind p.value _ t }
    by false t f more =
        let h = more f in
        let i = h.is in
        record { k = suc h.k; is = omega (arith, i); adds = h.adds }

add_front : (ps qs : List Put) (k : ℕ) → k < length ps → add_at (ps ++ qs) k ≡ add_at ps k
add_front [] qs k lt = absurd (omega (arith, lt))
add_front (p ∷ ps) qs zero lt = refl
add_front (p ∷ ps) qs (suc k) lt = add_front ps qs k (omega (arith, lt))

add_back : (ps qs : List Put) (k : ℕ) → length ps ≤ k → add_at (ps ++ qs) k ≡ add_at qs (k - length ps)
add_back [] qs k le = let e : k ≡ k - 0 = omega arith in ap (add_at qs) e
add_back (p ∷ ps) qs zero le = absurd (omega (arith, le))
add_back (p ∷ ps) qs (suc k) le =
    let e : k - length ps ≡ suc k - length (p ∷ ps) = omega arith in add_back ps qs k (omega (arith, le)) ∙ ap (add_at qs) e

-- none does if all set
no_add : (ps : List Put) (k : ℕ) → list_all is_set ps ≡ true → add_at ps k ≡ true → ⊥
no_add [] k h a = cc
no_add (p ∷ ps) zero h a = by (is_set p) (both (is_set p) (list_all is_set ps) h).0 a
  where
    by : (b : Bool) → b ≡ true → not b ≡ true → ⊥
    by true e f = cc
    by false e f = cc
no_add (p ∷ ps) (suc k) h a = no_add ps k (both (is_set p) (list_all is_set ps) h).1 a

-- ---- stretches

module _ {S : Type 0} where
  -- the puts of one that is settled set, and as many were made as its deeds say
  abbrev pub AreKnown : List (Option (PartValue S)) → Type 0
  AreKnown [] = Unit {0}
  AreKnown (None ∷ ss) = AreKnown ss
  AreKnown (Some part ∷ ss) = (part.settled ≡ true → list_all is_set part.puts ≡ true) × (made_in part.deeds ≡ length part.puts) × AreKnown ss

  made_append : (ds es : List (DeedValue S)) → made_in (ds ++ es) ≡ made_in ds + made_in es
  made_append [] es = omega arith
  made_append (d ∷ ds) es = let l = made_append ds es in omega (arith, l)

  found_in : (ss : List (Option (PartValue S))) (k : ℕ) → AreKnown ss → add_at (puts_in ss) k ≡ true
      → (settled_at ss k ≡ false) × (k < made_in (deeds_in ss))
  found_in [] k h a = cc
  found_in (None ∷ ss) k h a = found_in ss k h a
  found_in (Some part ∷ ss) k h a = by (nat_lt k (made_in part.deeds)) refl (found_in ss (k - made_in part.deeds) h.2)
    where
      all : made_in (deeds_in (Some part ∷ ss)) ≡ made_in part.deeds + made_in (deeds_in ss)
      all = made_append part.deeds (deeds_in ss)

      free : (b : Bool) → part.settled ≡ b → add_at part.puts k ≡ true → b ≡ false
      free false e f = refl
      free true e f = absurd (no_add part.puts k (h.0 e) f)

      by : (b : Bool) → nat_lt k (made_in part.deeds) ≡ b
          → (add_at (puts_in ss) (k - made_in part.deeds) ≡ true
          → (settled_at ss (k - made_in part.deeds) ≡ false) × (k - made_in part.deeds < made_in (deeds_in ss)))
          → ((if b then part.settled else settled_at ss (k - made_in part.deeds)) ≡ false) × (k < made_in (deeds_in (Some part ∷ ss)))
      by true t more =
          let lt : k < made_in part.deeds = grind (arith, nat_tests) in
          let n = h.1 in
          (free part.settled refl (sym (add_front part.puts (puts_in ss) k (omega (arith, lt, n))) ∙ a), omega (arith, all, lt))
      by false t more =
          let le : made_in part.deeds ≤ k = grind (arith, nat_tests) in
          let n = h.1 in
          let same : k - made_in part.deeds ≡ k - length part.puts = omega (arith, n) in
          let f =
          more
          (ap (add_at (puts_in ss)) same ∙ sym (add_back part.puts (puts_in ss) k (omega (arith, le, n))) ∙ a) in
          let g = f.1 in
          (f.0, omega (arith, all, le, g))

  pub finds_maker : (arrays : List (List ℕ × List ℤ)) (ss : List (Option (PartValue S))) → AreKnown ss → FindsMaker arrays (puts_in ss) ss
  finds_maker arrays ss h = λ place over.
      let a = over_add arrays [] 0 place (puts_in ss) over in
      let i = a.is in
      let e : a.k ≡ place = omega (arith, i) in
      subst (λ (k : ℕ). (settled_at ss k ≡ false) × (k < made_in (deeds_in ss))) e (found_in ss a.k h a.adds)

  -- it is the same whether puts were moved away
  settled_kept : (ss : List (Option (PartValue S))) (k : ℕ) → settled_at (map without_puts ss) k ≡ settled_at ss k
  settled_kept [] k = refl
  settled_kept (None ∷ ss) k = settled_kept ss k
  settled_kept (Some part ∷ ss) k =
      ap (λ (x : Bool). if nat_lt k (made_in part.deeds) then part.settled else x) (settled_kept ss (k - made_in part.deeds))

  pub finds_also : (arrays : List (List ℕ × List ℤ)) (puts : List Put) (ks ss : List (Option (PartValue S)))
      → map without_puts ks ≡ map without_puts ss → deeds_in ks ≡ deeds_in ss → puts ≡ puts_in ss
      → FindsMaker arrays (puts_in ss) ss → FindsMaker arrays puts ks
  finds_also arrays puts ks ss e deeds all h = λ place over.
      let f = h place (over ∙ ap (over_in arrays [] 0) all) in (
        sym (settled_kept ks place) ∙ ap (λ (xs : List (Option (PartValue S))). settled_at xs place) e ∙ settled_kept ss place ∙ f.0,
        subst (λ (ds : List (DeedValue S)). place < made_in ds) (sym deeds) f.1,
      )

  -- the task of a put that overflows, whose place is known
  pub found_on : (puts : List Put) (ss ks ms : List (Option (PartValue S))) {xs ys : List (List ℕ × List ℤ)} (place : ℕ)
      → ks ≡ ss → ms ≡ ss → Some place ≡ over_in xs [] 0 (puts ++ puts_in ks) → xs ≡ ys → FindsMaker ys (puts ++ puts_in ss) ss
      → (settled_at ms place ≡ false) × (place < made_in (deeds_in ms))
  found_on puts ss ks ms place k m over same h =
      subst (λ (qs : List (Option (PartValue S))). (settled_at qs place ≡ false) × (place < made_in (deeds_in qs))) (sym m)
      (h place (over ∙ (λ i. over_in (same i) [] 0 (puts ++ puts_in (k i)))))

-- ---- what was made

-- as many puts were made as the deeds say
pub made_all : {S T : Type 0} (p : Reads S T) (us : List S) (ds : List (DeedValue S)) (ss : List (List ℕ × Segment T)) → AllDone p us ds ss
    → made_in ds ≡ length (joined (map log_of ss))
made_all p [] [] [] h = refl
made_all p [] [] (s ∷ ss) h = absurd h
made_all p [] (d ∷ ds) ss h = absurd h
made_all p (u ∷ us) [] ss h = absurd h
made_all p (u ∷ us) (d ∷ ds) [] h = absurd h
made_all p (u ∷ us) (d ∷ ds) (s ∷ ss) h =
    let a = length-append s.1.puts (joined (map log_of ss)) in
    let b = made_all p us ds ss h.2 in
    let c = h.1.2 in
    omega (arith, a, b, c)
