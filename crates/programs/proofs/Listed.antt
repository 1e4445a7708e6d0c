-- Deeds whose tasks are in one list.
use Rattle.std.proofs.Common.{◌≡◌, ℕ, zero, suc, ◌+◌, ◌-◌, ◌≤◌, List, [], ◌∷◌, ◌++◌, length, Option, Some, None, refl, sym, ap, ◌∙◌, arith}
use Rattle.std.specs.Prelude.{Bool, true, false, nat_lt, if◌then◌else◌, take}
use Rattle.programs.specs.DeedValue.{DeedValue}
use Rattle.programs.specs.InPlace.{one_left, left_in, spawned_in, maker, kept, living_with, made_in}
use Rattle.programs.proofs.InPlace.{living_last}
use Rattle.programs.specs.DeedsView.{behind, deeds_with, spawned_by, stopped_by, made_by, deeds_in, IsInside}
use Rattle.programs.specs.declared.deeds.Deeds.TheInside.{Inside}
use Rattle.programs.specs.declared.deed_list.Deed.{Deed}

module _ {A : Type 0} where
  pub take_front : (n : ℕ) (xs ys : List A) → n ≤ length xs → take n (xs ++ ys) ≡ take n xs
  take_front zero xs ys h = refl
  take_front (suc n) [] ys h = absurd (omega arith)
  take_front (suc n) (x ∷ xs) ys h = ap (λ (zs : List A). x ∷ zs) (take_front n xs ys (omega arith))

  pub behind_front : (n : ℕ) (xs ys : List A) → n ≤ length xs → behind n (xs ++ ys) ≡ behind n xs ++ ys
  behind_front zero xs ys h = refl
  behind_front (suc n) [] ys h = absurd (omega arith)
  behind_front (suc n) (x ∷ xs) ys h = behind_front n xs ys (omega arith)

  pub behind_length : (n : ℕ) (xs : List A) → n ≤ length xs → length (behind n xs) + n ≡ length xs
  behind_length zero xs h = omega arith
  behind_length (suc n) [] h = absurd (omega arith)
  behind_length (suc n) (x ∷ xs) h = let l = behind_length n xs (omega arith) in omega (arith, l)

  pub take_length : (n : ℕ) (xs : List A) → n ≤ length xs → length (take n xs) ≡ n
  take_length zero xs h = refl
  take_length (suc n) [] h = absurd (omega arith)
  take_length (suc n) (x ∷ xs) h = ap suc (take_length n xs (omega arith))

  pub take_whole : (n : ℕ) (xs : List A) → n ≡ length xs → take n xs ≡ xs
  take_whole zero [] h = refl
  take_whole zero (x ∷ xs) h = absurd (omega arith)
  take_whole (suc n) [] h = absurd (omega arith)
  take_whole (suc n) (x ∷ xs) h = ap (λ (zs : List A). x ∷ zs) (take_whole n xs (omega arith))

  pub behind_whole : (n : ℕ) (xs : List A) → n ≡ length xs → behind n xs ≡ []
  behind_whole zero [] h = refl
  behind_whole zero (x ∷ xs) h = absurd (omega arith)
  behind_whole (suc n) [] h = absurd (omega arith)
  behind_whole (suc n) (x ∷ xs) h = behind_whole n xs (omega arith)

  pub cut_at : (n : ℕ) (xs : List A) → n ≤ length xs → take n xs ++ behind n xs ≡ xs
  cut_at zero xs h = refl
  cut_at (suc n) [] h = absurd (omega arith)
  cut_at (suc n) (x ∷ xs) h = ap (λ (zs : List A). x ∷ zs) (cut_at n xs (omega arith))

-- no more stopped than did something
pub few_stopped : (ds : List Deed) → stopped_by ds ≤ length ds
few_stopped [] = omega arith
few_stopped (d ∷ ds) = let l = few_stopped ds in let k = one d.synced in omega (arith, l, k)
  where
    one : (b : Bool) → one_left b ≤ 1
    one true = omega arith
    one false = omega arith

module _ {S : Type 0} where
  -- one deed more, with its tasks after the others'
  pub deeds_more : (ds : List Deed) (d : Deed) (front back : List S) → spawned_by ds ≡ length front → d.spawned ≡ length back
      → deeds_with (ds ++ d ∷ []) (front ++ back) ≡ deeds_with ds front ++ record { synced = d.synced; puts = d.puts; spawns = back } ∷ []
  deeds_more [] d [] back e f =
      ap (λ (ts : List S). record { synced = d.synced; puts = d.puts; spawns = ts } ∷ []) (take_whole d.spawned back f)
  deeds_more [] d (x ∷ front) back e f = absurd (omega arith)
  deeds_more (y ∷ ds) d front back e f =
      let few : y.spawned ≤ length front = omega arith in
      let l = behind_length y.spawned front few in
      (λ i. record { synced = y.synced; puts = y.puts; spawns = take_front y.spawned front back few i }
      ∷ deeds_with (ds ++ d ∷ []) (behind_front y.spawned front back few i))
      ∙ ap (λ (es : List (DeedValue S)). record { synced = y.synced; puts = y.puts; spawns = take y.spawned front } ∷ es)
      (deeds_more ds d (behind y.spawned front) back (omega (arith, l)) f)

pub stopped_more : (ds : List Deed) (d : Deed) → stopped_by (ds ++ d ∷ []) ≡ stopped_by ds + one_left d.synced
stopped_more [] d = omega arith
stopped_more (x ∷ ds) d = let l = stopped_more ds d in omega (arith, l)

pub spawned_more : (ds : List Deed) (d : Deed) → spawned_by (ds ++ d ∷ []) ≡ spawned_by ds + d.spawned
spawned_more [] d = omega arith
spawned_more (x ∷ ds) d = let l = spawned_more ds d in omega (arith, l)

module _ {S : Type 0} where
  -- other deeds after these, with their tasks
  pub deeds_append : (ds es : List Deed) (ts us : List S) → spawned_by ds ≡ length ts
      → deeds_with (ds ++ es) (ts ++ us) ≡ deeds_with ds ts ++ deeds_with es us
  deeds_append [] es [] us h = refl
  deeds_append [] es (t ∷ ts) us h = absurd (omega arith)
  deeds_append (d ∷ ds) es ts us h =
      let few : d.spawned ≤ length ts = omega arith in
      let l = behind_length d.spawned ts few in
      (λ i. record { synced = d.synced; puts = d.puts; spawns = take_front d.spawned ts us few i }
      ∷ deeds_with (ds ++ es) (behind_front d.spawned ts us few i))
      ∙ ap (λ (xs : List (DeedValue S)). record { synced = d.synced; puts = d.puts; spawns = take d.spawned ts } ∷ xs)
      (deeds_append ds es (behind d.spawned ts) us (omega (arith, l)))

pub spawned_append : (ds es : List Deed) → spawned_by (ds ++ es) ≡ spawned_by ds + spawned_by es
spawned_append [] es = omega arith
spawned_append (d ∷ ds) es = let l = spawned_append ds es in omega (arith, l)

pub stopped_append : (ds es : List Deed) → stopped_by (ds ++ es) ≡ stopped_by ds + stopped_by es
stopped_append [] es = omega arith
stopped_append (d ∷ ds) es = let l = stopped_append ds es in omega (arith, l)

module _ {S : Type 0} where
  pub count_reported : (ds : List Deed) (ts : List S) → length (deeds_with ds ts) ≡ length ds
  count_reported [] ts = refl
  count_reported (d ∷ ds) ts = ap suc (count_reported ds (behind d.spawned ts))

  pub stopped_reported : (ds : List Deed) (ts : List S) → left_in (deeds_with ds ts) ≡ stopped_by ds
  stopped_reported [] ts = refl
  stopped_reported (d ∷ ds) ts = ap (λ (n : ℕ). one_left d.synced + n) (stopped_reported ds (behind d.spawned ts))

  pub made_reported : (ds : List Deed) (ts : List S) → made_in (deeds_with ds ts) ≡ made_by ds
  made_reported [] ts = refl
  made_reported (d ∷ ds) ts = ap (λ (n : ℕ). d.puts + n) (made_reported ds (behind d.spawned ts))

  pub spawned_reported : (ds : List Deed) (ts : List S) → spawned_by ds ≡ length ts → spawned_in (deeds_with ds ts) ≡ length ts
  spawned_reported [] ts h = h
  spawned_reported (d ∷ ds) ts h =
      let few : d.spawned ≤ length ts = omega arith in
      let a = take_length d.spawned ts few in
      let b = behind_length d.spawned ts few in
      let c = spawned_reported ds (behind d.spawned ts) (omega (arith, b)) in
      omega (arith, a, b, c)

  -- who made a put, by the deeds alone
  abbrev pub maker_by : (S → List ℕ) → List S → List Deed → ℕ → Option (List ℕ)
  maker_by q ts [] place = None
  maker_by q [] (d ∷ ds) place = None
  maker_by q (t ∷ ts) (d ∷ ds) place = if nat_lt place d.puts then Some (q t) else maker_by q ts ds (place - d.puts)

  pub maker_same : (q : S → List ℕ) (us : List S) (ds : List Deed) (ts : List S) (place : ℕ)
      → maker q us (deeds_with ds ts) place ≡ maker_by q us ds place
  maker_same q us [] ts place = refl
  maker_same q [] (d ∷ ds) ts place = refl
  maker_same q (u ∷ us) (d ∷ ds) ts place =
      ap (λ (o : Option (List ℕ)). if nat_lt place d.puts then Some (q u) else o)
      (maker_same q us ds (behind d.spawned ts) (place - d.puts))

  -- what is counted of deeds
  pub record Counts (i : Inside S) (ds : List (DeedValue S)) : Type 0 where
    pub count : length i.each ≡ length ds
    pub stopped : i.stopped ≡ left_in ds
    pub spawned : length i.spawns.items ≡ spawned_in ds

  pub counts : (i : Inside S) (ds : List (DeedValue S)) → IsInside i → ds ≡ deeds_in i → Counts i ds
  counts i ds h e = record {
    count = sym (ap length e ∙ count_reported i.each i.spawns.items);
    stopped = h.stopped ∙ sym (ap left_in e ∙ stopped_reported i.each i.spawns.items);
    spawned = sym (ap spawned_in e ∙ spawned_reported i.each i.spawns.items h.spawned);
  }

  -- the last task and its deed, with the tasks that it spawned
  pub record LastDeed (tasks us : List S) (t : S) (each es : List Deed) (d : Deed) (spawns : List S) : Type 0 where
    pub few : d.spawned ≤ length spawns
    pub rest : spawned_by es ≡ length (take (length spawns - d.spawned) spawns)
    pub count : length (behind (length spawns - d.spawned) spawns) ≡ d.spawned
    pub living : living_with tasks (deeds_with each spawns)
        ≡ living_with us (deeds_with es (take (length spawns - d.spawned) spawns))
        ++ (kept d.synced t ++ behind (length spawns - d.spawned) spawns)

  pub last_deed : (tasks us : List S) (t : S) (each es : List Deed) (d : Deed) (spawns : List S) → tasks ≡ us ++ t ∷ []
      → each ≡ es ++ d ∷ []
      → length tasks ≡ length each → spawned_by each ≡ length spawns → LastDeed tasks us t each es d spawns
  last_deed tasks us t each es d spawns e f l h =
      let k : ℕ = length spawns - d.spawned in
      let all : spawned_by es + d.spawned ≡ length spawns = sym (spawned_more es d) ∙ ap spawned_by (sym f) ∙ h in
      let few : d.spawned ≤ length spawns = omega (arith, all) in
      let within : k ≤ length spawns = omega arith in
      let rest : spawned_by es ≡ length (take k spawns) = let n = take_length k spawns within in omega (arith, all, n) in
      let count : length (behind k spawns) ≡ d.spawned = let n = behind_length k spawns within in omega (arith, n, few) in
      let reported : deeds_with each spawns
      ≡ deeds_with es (take k spawns) ++ record { synced = d.synced; puts = d.puts; spawns = behind k spawns } ∷ [] =
      (λ i. deeds_with (f i) (sym (cut_at k spawns within) i)) ∙ deeds_more es d (take k spawns) (behind k spawns) rest (sym count) in
      record {
        few = few;
        rest = rest;
        count = count;
        living =
            living_last tasks us t (deeds_with each spawns) (deeds_with es (take k spawns))
            (record { synced = d.synced; puts = d.puts; spawns = behind k spawns }) e reported
            (l ∙ sym (count_reported each spawns));
      }
