-- Whose put it is, stretch after stretch.
use Rattle.std.proofs.Common.{◌≡◌, ◌≤◌, ◌<◌, ◌+◌, ◌-◌, ℕ, Bool, true, false, nat_lt, List, [], ◌∷◌, ◌++◌, length, Option, Some, None, refl, sym, ap, subst, ◌∙◌, arith}
use Rattle.std.specs.Prelude.{if◌then◌else◌, MatchOption}
use Rattle.std.specs.Option.{option_map}
use Rattle.std.proofs.lemmas.List.{length-append}
use Rattle.std.proofs.lemmas.Bool.Decides.{nat_tests}
use Rattle.programs.specs.DeedValue.{DeedValue}
use Rattle.programs.specs.InPlace.{overflow_at, maker, made_in}
use Rattle.program_stretches.specs.PartValue.{PartValue}
use Rattle.program_stretches.specs.Parts.{EachDid, settled_at, tasks_in, deeds_in}

-- whether a place is that of a put of this stretch
pub put_here : (o : Option ℕ) (place made : ℕ) → MatchOption o (place < made) (λ rest. (made ≤ place) × (rest ≡ place - made)) → o ≡ None
    → place < made
put_here None place made h e = h
put_here (Some rest) place made h e = cc

pub put_past : (o : Option ℕ) (rest place made : ℕ) → MatchOption o (place < made) (λ rest. (made ≤ place) × (rest ≡ place - made))
    → o ≡ Some rest → (made ≤ place) × (rest ≡ place - made)
put_past None rest place made h e = cc
put_past (Some x) rest place made h e = (h.0, sym (ap value e) ∙ h.1)
  where
    value : Option ℕ → ℕ
    value None = x
    value (Some y) = y

module _ {S : Type 0} (q : S → List ℕ) where
  -- the put is one of the first tasks'
  maker_front : (us ws : List S) (ds es : List (DeedValue S)) (p : ℕ) → length us ≡ length ds → p < made_in ds
      → maker q (us ++ ws) (ds ++ es) p ≡ maker q us ds p
  maker_front us ws [] es p l lt = absurd (omega (arith, lt))
  maker_front [] ws (d ∷ ds) es p l lt = absurd (omega (arith, l))
  maker_front (u ∷ us) ws (d ∷ ds) es p l lt =
      by (nat_lt p d.puts) refl (λ not. maker_front us ws ds es (p - d.puts) (omega (arith, l)) (omega (arith, lt, not)))
    where
      by : (b : Bool) → nat_lt p d.puts ≡ b → (d.puts ≤ p → maker q (us ++ ws) (ds ++ es) (p - d.puts) ≡ maker q us ds (p - d.puts))
          → (if b then Some (q u) else maker q (us ++ ws) (ds ++ es) (p - d.puts)) ≡ (if b then Some (q u) else maker q us ds (p - d.puts))
      by true e more = refl
      by false e more = let not : d.puts ≤ p = grind (arith, nat_tests) in more not

  -- or of the others
  maker_back : (us ws : List S) (ds es : List (DeedValue S)) (p : ℕ) → length us ≡ length ds → made_in ds ≤ p
      → maker q (us ++ ws) (ds ++ es) p ≡ maker q ws es (p - made_in ds)
  maker_back [] ws [] es p l le = let e : p ≡ p - 0 = omega arith in ap (maker q ws es) e
  maker_back (u ∷ us) ws [] es p l le = absurd (omega (arith, l))
  maker_back [] ws (d ∷ ds) es p l le = absurd (omega (arith, l))
  maker_back (u ∷ us) ws (d ∷ ds) es p l le =
      let not : nat_lt p d.puts ≡ false = grind (arith, nat_tests) in
      let rest : p - d.puts - made_in ds ≡ p - (d.puts + made_in ds) = omega arith in
      ap (λ (b : Bool). if b then Some (q u) else maker q (us ++ ws) (ds ++ es) (p - d.puts)) not
      ∙ maker_back us ws ds es (p - d.puts) (omega (arith, l)) (omega (arith, le)) ∙ ap (maker q ws es) rest

  -- it is a task of this stretch
  pub blame_here : (ss rest : List (Option (PartValue S))) (s : Option (PartValue S)) (part : PartValue S) (left : ℕ)
      (total : Option (List ℕ)) (settled : Bool) (o : Option (ℕ × List ℕ))
      → ss ≡ s ∷ rest → s ≡ Some part → EachDid ss
      → maker q (tasks_in ss) (deeds_in ss) left ≡ total → settled_at ss left ≡ settled → left < made_in part.deeds
      → o ≡ (if part.settled then None else option_map overflow_at (maker q part.tasks part.deeds left))
      → o ≡ (if settled then None else option_map overflow_at total)
  blame_here ss rest s part left total settled o e is h m at lt f =
      let cut : ss ≡ Some part ∷ rest = e ∙ ap (λ (x : Option (PartValue S)). x ∷ rest) is in
      let d : EachDid (Some part ∷ rest) = subst EachDid cut h in
      let same : maker q part.tasks part.deeds left ≡ total =
      sym (maker_front part.tasks (tasks_in rest) part.deeds (deeds_in rest) left d.1 lt)
      ∙ ap (λ (xs : List (Option (PartValue S))). maker q (tasks_in xs) (deeds_in xs) left) (sym cut) ∙ m in
      let here : nat_lt left (made_in part.deeds) ≡ true = grind (arith, nat_tests) in
      let flag : part.settled ≡ settled =
      sym (ap (λ (b : Bool). if b then part.settled else settled_at rest (left - made_in part.deeds)) here)
      ∙ ap (λ (xs : List (Option (PartValue S))). settled_at xs left) (sym cut) ∙ at in
      f ∙ (λ i. if flag i then None else option_map overflow_at (same i))

  -- what is left behind it
  pub record IsBehind (rest : List (Option (PartValue S))) (left : ℕ) (total : Option (List ℕ)) (settled : Bool) : Type 0 where
    pub each : EachDid rest
    pub same : maker q (tasks_in rest) (deeds_in rest) left ≡ total
    pub at : settled_at rest left ≡ settled

  pub blame_behind : (ss rest : List (Option (PartValue S))) (s : Option (PartValue S)) (part : PartValue S) (left next : ℕ)
      (total : Option (List ℕ)) (settled : Bool)
      → ss ≡ s ∷ rest → s ≡ Some part → EachDid ss
      → maker q (tasks_in ss) (deeds_in ss) left ≡ total → settled_at ss left ≡ settled
      → made_in part.deeds ≤ left → next ≡ left - made_in part.deeds
      → IsBehind rest next total settled
  blame_behind ss rest s part left next total settled e is h m at le n =
      let cut : ss ≡ Some part ∷ rest = e ∙ ap (λ (x : Option (PartValue S)). x ∷ rest) is in
      let d : EachDid (Some part ∷ rest) = subst EachDid cut h in
      let past : nat_lt left (made_in part.deeds) ≡ false = grind (arith, nat_tests) in
      record {
        each = d.2;
        same =
            ap (maker q (tasks_in rest) (deeds_in rest)) n
            ∙ sym (maker_back part.tasks (tasks_in rest) part.deeds (deeds_in rest) left d.1 le)
            ∙ ap (λ (xs : List (Option (PartValue S))). maker q (tasks_in xs) (deeds_in xs) left) (sym cut) ∙ m;
        at =
            ap (settled_at rest) n
            ∙ sym (ap (λ (b : Bool). if b then part.settled else settled_at rest (left - made_in part.deeds)) past)
            ∙ ap (λ (xs : List (Option (PartValue S))). settled_at xs left) (sym cut) ∙ at;
      }

  pub blame_none : (ss rest : List (Option (PartValue S))) (s : Option (PartValue S)) (left : ℕ) (total : Option (List ℕ)) (settled : Bool)
      → ss ≡ s ∷ rest → s ≡ None → EachDid ss
      → maker q (tasks_in ss) (deeds_in ss) left ≡ total → settled_at ss left ≡ settled → IsBehind rest left total settled
  blame_none ss rest s left total settled e is h m at =
      let cut : ss ≡ None ∷ rest = e ∙ ap (λ (x : Option (PartValue S)). x ∷ rest) is in
      record {
        each = subst EachDid cut h;
        same = ap (λ (xs : List (Option (PartValue S))). maker q (tasks_in xs) (deeds_in xs) left) (sym cut) ∙ m;
        at = ap (λ (xs : List (Option (PartValue S))). settled_at xs left) (sym cut) ∙ at;
      }

  -- a put that was made has its maker
  pub maker_there : (us : List S) (ds : List (DeedValue S)) (p : ℕ) → length us ≡ length ds → p < made_in ds → maker q us ds p ≡ None → ⊥
  maker_there us [] p l lt e = absurd (omega (arith, lt))
  maker_there [] (d ∷ ds) p l lt e = absurd (omega (arith, l))
  maker_there (u ∷ us) (d ∷ ds) p l lt e =
      by (nat_lt p d.puts) refl e (λ not none. maker_there us ds (p - d.puts) (omega (arith, l)) (omega (arith, lt, not)) none)
    where
      by : (b : Bool) → nat_lt p d.puts ≡ b → (if b then Some (q u) else maker q us ds (p - d.puts)) ≡ None
          → (d.puts ≤ p → maker q us ds (p - d.puts) ≡ None → ⊥) → ⊥
      by true t f more = cc
      by false t f more = let not : d.puts ≤ p = grind (arith, nat_tests) in more not f

  -- so has one of all stretches
  pub each_length : (ss : List (Option (PartValue S))) → EachDid ss → length (tasks_in ss) ≡ length (deeds_in ss)
  each_length [] h = refl
  each_length (None ∷ ss) h = each_length ss h
  each_length (Some part ∷ ss) h =
      let a = length-append part.tasks (tasks_in ss) in
      let b = length-append part.deeds (deeds_in ss) in
      let c = each_length ss h.2 in
      let d = h.1 in
      omega (arith, a, b, c, d)

  pub found_at : (ss : List (Option (PartValue S))) (place : ℕ) → EachDid ss → settled_at ss place ≡ false → place < made_in (deeds_in ss)
      → None ≡ (if settled_at ss place then None else option_map overflow_at (maker q (tasks_in ss) (deeds_in ss) place)) → ⊥
  found_at ss place h free lt e = by (maker q (tasks_in ss) (deeds_in ss) place) refl
      (e ∙ ap (λ (b : Bool). if b then None else option_map overflow_at (maker q (tasks_in ss) (deeds_in ss) place)) free)
    where
      by : (o : Option (List ℕ)) → maker q (tasks_in ss) (deeds_in ss) place ≡ o → None ≡ option_map overflow_at o → ⊥
      by None is f = maker_there (tasks_in ss) (deeds_in ss) place (each_length ss h) lt is
      by (Some p) is f = cc
