-- The tasks of pieces, one after another.
use Rattle.std.proofs.Common.{◌≡◌, ◌<◌, ◌+◌, ℕ, zero, suc, List, [], ◌∷◌, ◌++◌, length, reverse, get_or, slice_get, slice_set, Option, Some, None, refl, sym, ap, subst, ◌∙◌, arith, append_assoc, append-nil}
use Rattle.std.specs.Prelude.{true, false, is_some, map, OnOk, Result, Ok, Err}
use Rattle.std.specs.Option.{option_map}
use Rattle.std.proofs.lemmas.List.{reverse-append, length-append}
use Rattle.superstep_memory.specs.PathOrder.{put_all, in_path_order}
use Rattle.superstep_memory.proofs.Merged.{put_all_append}
use Rattle.programs.specs.InPlace.{living_with}
use Rattle.programs.specs.Regroup.{IsInOrder}
use Rattle.programs.proofs.Regrouping.{sorted_front, sorted_back, sorted_all}
use Rattle.program_stretches.proofs.Placing.{strays_last}
use Rattle.program_stretches.specs.PartValue.{PartValue}
use Rattle.program_stretches.specs.Parts.{of_slot, living_in}
use Rattle.program_stretches.specs.Next.{Receives, all_in, all_of, AreEmpty, CanSettle, CanAllSettle}
use Rattle.program_stretches.specs.declared.next.Piece.{Piece}

module _ {S : Type 0} where
  pub in_append : (ps qs : List (Piece S)) → all_in (ps ++ qs) ≡ all_in qs ++ all_in ps
  in_append [] qs = sym (append-nil (all_in qs))
  in_append (p ∷ ps) qs = ap (λ (ts : List S). ts ++ p.tasks.items) (in_append ps qs) ∙ append_assoc (all_in qs) (all_in ps) p.tasks.items

  pub in_last : (ps : List (Piece S)) (p : Piece S) → all_in (ps ++ p ∷ []) ≡ p.tasks.items ++ all_in ps
  in_last ps p = in_append ps (p ∷ [])

  pub of_append : (ps qs : List (Piece S)) → all_of (ps ++ qs) ≡ all_of ps ++ all_of qs
  of_append [] qs = refl
  of_append (p ∷ ps) qs =
      ap (λ (ts : List S). p.tasks.items ++ ts) (of_append ps qs) ∙ sym (append_assoc p.tasks.items (all_of ps) (all_of qs))

  pub of_last : (ps : List (Piece S)) (p : Piece S) → all_of (ps ++ p ∷ []) ≡ all_of ps ++ p.tasks.items
  of_last ps p = of_append ps (p ∷ []) ∙ ap (λ (ts : List S). all_of ps ++ ts) (append-nil p.tasks.items)

  pub of_reversed : (ps : List (Piece S)) → all_of (reverse ps) ≡ all_in ps
  of_reversed [] = refl
  of_reversed (p ∷ ps) =
      ap all_of (reverse-append (p ∷ []) ps) ∙ of_last (reverse ps) p ∙ ap (λ (ts : List S). ts ++ p.tasks.items) (of_reversed ps)

  -- ---- their stretches are empty

  pub empty_append : (ps qs : List (Piece S)) → AreEmpty ps → AreEmpty qs → AreEmpty (ps ++ qs)
  empty_append [] qs h k = k
  empty_append (p ∷ ps) qs h k = (h.0, empty_append ps qs h.1 k)

  pub empty_front : (ps qs : List (Piece S)) → AreEmpty (ps ++ qs) → AreEmpty ps
  empty_front [] qs h = tt
  empty_front (p ∷ ps) qs h = (h.0, empty_front ps qs h.1)

  pub empty_back : (ps qs : List (Piece S)) → AreEmpty (ps ++ qs) → AreEmpty qs
  empty_back [] qs h = h
  empty_back (p ∷ ps) qs h = empty_back ps qs h.1

  pub empty_reversed : (ps : List (Piece S)) → AreEmpty ps → AreEmpty (reverse ps)
  empty_reversed [] h = tt
  empty_reversed (p ∷ ps) h =
      subst AreEmpty (sym (reverse-append (p ∷ []) ps)) (empty_append (reverse ps) (p ∷ []) (empty_reversed ps h.1) (h.0, tt))

  -- ---- one piece among others

  -- the piece at a place, those in front of it in the list, and those behind it there
  pub record IsAt (ps : List (Piece S)) (k : ℕ) (p : Piece S) : Type 0 where
    pub front : List (Piece S)
    pub back : List (Piece S)
    pub is : ps ≡ front ++ p ∷ back
    pub many : length front ≡ k
    pub set : (q : Piece S) → slice_set ps k q ≡ front ++ q ∷ back

  pub at_place : (ps : List (Piece S)) (k : ℕ) (p : Piece S) → k < length ps → p ≡ get_or ps k p → IsAt ps k p
  at_place [] k p lt e = absurd (omega (arith, lt))
  at_place (x ∷ ps) zero p lt e = record { front = []; back = ps; is = ap (λ (y : Piece S). y ∷ ps) (sym e); many = refl; set = λ q. refl }
  at_place (x ∷ ps) (suc k) p lt e =
      let a = at_place ps k p (omega (arith, lt)) e in
      record {
        front = x ∷ a.front;
        back = a.back;
        is = ap (λ (ys : List (Piece S)). x ∷ ys) a.is;
        many = ap suc a.many;
        set = λ q. ap (λ (ys : List (Piece S)). x ∷ ys) (a.set q);
      }

  -- the last of those in front
  pub record IsLast (front back : List (Piece S)) (k : ℕ) (p : Piece S) : Type 0 where
    pub init : List (Piece S)
    pub is : front ≡ init ++ p ∷ []
    pub many : length init ≡ k
    pub set : (q : Piece S) → slice_set (front ++ back) k q ≡ init ++ q ∷ back

  pub last_there : (front back : List (Piece S)) (k : ℕ) (p : Piece S) → length front ≡ suc k → p ≡ get_or (front ++ back) k p
      → IsLast front back k p
  last_there [] back k p n e = absurd (omega (arith, n))
  last_there (x ∷ []) back zero p n e = record { init = []; is = ap (λ (y : Piece S). y ∷ []) (sym e); many = refl; set = λ q. refl }
  last_there (x ∷ []) back (suc k) p n e = absurd (omega (arith, n))
  last_there (x ∷ y ∷ front) back zero p n e = absurd (omega (arith, n))
  last_there (x ∷ y ∷ front) back (suc k) p n e =
      let l = last_there (y ∷ front) back k p (omega (arith, n)) e in
      record {
        init = x ∷ l.init;
        is = ap (λ (ys : List (Piece S)). x ∷ ys) l.is;
        many = ap suc l.many;
        set = λ q. ap (λ (ys : List (Piece S)). x ∷ ys) (l.set q);
      }

  not_empty : (xs ys : List (Piece S)) (q : Piece S) → xs ++ q ∷ ys ≡ [] → ⊥
  not_empty [] ys q e = cc
  not_empty (x ∷ xs) ys q e = cc

  empty_one : (xs ys : List (Piece S)) (p q : Piece S) → AreEmpty (xs ++ p ∷ ys) → q.part ≡ p.part → AreEmpty (xs ++ q ∷ ys)
  empty_one [] ys p q h e = (e ∙ h.0, h.1)
  empty_one (x ∷ xs) ys p q h e = (h.0, empty_one xs ys p q h.1 e)

  nothing_back : (front back : List (Piece S)) (p : Piece S) (k : ℕ) → k + 1 ≡ length (front ++ p ∷ back) → length front ≡ k → back ≡ []
  nothing_back front [] p k e n = refl
  nothing_back front (b ∷ back) p k e n = let l = length-append front (p ∷ b ∷ back) in absurd (omega (arith, e, n, l))

  pub joined_empty : (ps : List (Piece S)) (k : ℕ) (p q : Piece S) → k < length ps → p ≡ get_or ps k p → q.part ≡ p.part → AreEmpty ps
      → AreEmpty (slice_set ps k q)
  joined_empty ps k p q lt e part h =
      let a = at_place ps k p lt e in
      subst AreEmpty (sym (a.set q)) (empty_one a.front a.back p q (subst AreEmpty a.is h) part)

  pub joined_tasks : (ps : List (Piece S)) (k : ℕ) (p q : Piece S) (ts : List S) → k + 1 ≡ length ps → p ≡ get_or ps k p
      → q.tasks.items ≡ ts ++ p.tasks.items → all_in (slice_set ps k q) ≡ ts ++ all_in ps
  joined_tasks ps k p q ts n e t =
      let a = at_place ps k p (omega (arith, n)) e in
      let b = nothing_back a.front a.back p k (n ∙ ap length a.is) a.many in
      let is : ps ≡ a.front ++ p ∷ [] = a.is ∙ ap (λ (xs : List (Piece S)). a.front ++ p ∷ xs) b in
      let now : slice_set ps k q ≡ a.front ++ q ∷ [] = a.set q ∙ ap (λ (xs : List (Piece S)). a.front ++ q ∷ xs) b in
      ap all_in now ∙ in_last a.front q ∙ ap (λ (xs : List S). xs ++ all_in a.front) t
      ∙ append_assoc ts p.tasks.items (all_in a.front)
      ∙ ap (λ (xs : List S). ts ++ xs) (sym (in_last a.front p) ∙ ap all_in (sym is))

  -- whatever the answer
  pub joined_ok : {X E : Type 0} (r : Result X E) (ps : List (Piece S)) (k : ℕ) (p q : Piece S) (ts : List S) → k + 1 ≡ length ps
      → p ≡ get_or ps k p → OnOk r (q.tasks.items ≡ ts ++ p.tasks.items)
      → OnOk r (all_in (slice_set ps k q) ≡ ts ++ all_in ps)
  joined_ok (Ok x) ps k p q ts n e t = joined_tasks ps k p q ts n e t
  joined_ok (Err x) ps k p q ts n e t = tt

  pub empty_ok : {X E : Type 0} (r : Result X E) (ps : List (Piece S)) → AreEmpty ps → OnOk r (AreEmpty ps)
  empty_ok (Ok x) ps h = h
  empty_ok (Err x) ps h = tt

  nothing_there : (xs : List (Piece S)) → length xs ≡ 0 → xs ≡ []
  nothing_there [] n = refl
  nothing_there (x ∷ xs) n = absurd (omega (arith, n))

module _ {S : Type 0} (path : S → List ℕ) where
  -- the first path of tasks is that of those with others behind them, if there is one
  pub first_known : {X : Type 0} (f : X → List ℕ) (o : Option X) (ts more : List S) → option_map f o ≡ slice_get (map path ts) 0
      → is_some o ≡ true → option_map f o ≡ slice_get (map path (ts ++ more)) 0
  first_known f None ts more e s = cc
  first_known f (Some x) [] more e s = cc
  first_known f (Some x) (t ∷ ts) more e s = e

  pub none_known : {X : Type 0} (f : X → List ℕ) (o : Option X) (ts : List S) → option_map f o ≡ slice_get (map path ts) 0
      → is_some o ≡ false → ts ≡ []
  none_known f None [] e s = refl
  none_known f None (t ∷ ts) e s = cc
  none_known f (Some x) ts e s = cc

  -- strays were put in their places behind the first `k` pieces of the list, and these strays are left for those
  pub record IsPlaced (ps₀ : List (Piece S)) (ws₀ : List S) (k : ℕ) (ps : List (Piece S)) (ws : List S) : Type 0 where
    pub front : List (Piece S)
    pub back : List (Piece S)
    pub is : ps ≡ front ++ back
    pub many : length front ≡ k
    pub tasks : IsInOrder path (all_in front)
    pub strays : IsInOrder path ws
    pub left : all_in back ++ put_all path ws (all_in front) ≡ put_all path ws₀ (all_in ps₀)
    pub empty : AreEmpty ps
    pub some : ps ≡ [] → ws ≡ []

  pub place_begins : (ps : List (Piece S)) (ws : List S) (k : ℕ) → k ≡ length ps → IsInOrder path (all_in ps) → IsInOrder path ws
      → AreEmpty ps → (ps ≡ [] → ws ≡ []) → IsPlaced ps ws k ps ws
  place_begins ps ws k n o s e some = record {
    front = ps;
    back = [];
    is = sym (append-nil ps);
    many = sym n;
    tasks = o;
    strays = s;
    left = refl;
    empty = e;
    some = some;
  }

  -- the piece that gets strays next
  pub record IsNextPiece (ps₀ : List (Piece S)) (ws₀ : List S) (k : ℕ) (ps : List (Piece S)) (ws : List S) (p : Piece S) : Type 0 where
    pub order : IsInOrder path p.tasks.items
    pub strays : IsInOrder path ws
    pub placed : (q : Piece S) (vs : List S) → q.part ≡ p.part → Receives path p.tasks.items q.tasks.items ws vs
        → IsPlaced ps₀ ws₀ k (slice_set ps k q) vs

  pub next_piece : (ps₀ : List (Piece S)) (ws₀ : List S) (k : ℕ) (ps : List (Piece S)) (ws : List S) (p : Piece S)
      → IsPlaced ps₀ ws₀ (suc k) ps ws → p ≡ get_or ps k p → IsNextPiece ps₀ ws₀ k ps ws p
  next_piece ps₀ ws₀ k ps ws p h e =
      let l = last_there h.front h.back k p h.many (e ∙ ap (λ (xs : List (Piece S)). get_or xs k p) h.is) in
      let tasks : all_in h.front ≡ p.tasks.items ++ all_in l.init = ap all_in l.is ∙ in_last l.init p in
      let o : IsInOrder path (p.tasks.items ++ all_in l.init) = subst (IsInOrder path) tasks h.tasks in
      record {
        order = sorted_front path p.tasks.items (all_in l.init) o;
        strays = h.strays;
        placed = λ q vs part r.
            let set : slice_set ps k q ≡ l.init ++ q ∷ h.back = ap (λ (xs : List (Piece S)). slice_set xs k q) h.is ∙ l.set q in
            let whole : ps ≡ l.init ++ p ∷ h.back =
            h.is ∙ ap (λ (xs : List (Piece S)). xs ++ h.back) l.is ∙ append_assoc l.init (p ∷ []) h.back in
            record {
              front = l.init;
              back = q ∷ h.back;
              is = set;
              many = l.many;
              tasks = sorted_back path p.tasks.items (all_in l.init) o;
              strays = sorted_back path r.front vs (subst (IsInOrder path) r.cut h.strays);
              left =
                  append_assoc (all_in h.back) q.tasks.items (put_all path vs (all_in l.init))
                  ∙ ap (λ (ts : List S). all_in h.back ++ ts) (r.all (all_in l.init) ∙ ap (put_all path ws) (sym tasks))
                  ∙ h.left;
              empty = subst AreEmpty (sym set) (empty_one l.init h.back p q (subst AreEmpty whole h.empty) part);
              some = λ n. absurd (not_empty l.init h.back q (sym set ∙ n));
            };
      }

  -- no stray is left
  pub none_left : (ps₀ : List (Piece S)) (ws₀ : List S) (k : ℕ) (ps : List (Piece S)) (ws : List S) → IsPlaced ps₀ ws₀ k ps ws → ws ≡ []
      → all_in ps ≡ put_all path ws₀ (all_in ps₀)
  none_left ps₀ ws₀ k ps ws h n =
      ap all_in h.is ∙ in_append h.front h.back ∙ ap (λ (vs : List S). all_in h.back ++ put_all path vs (all_in h.front)) (sym n) ∙ h.left

  -- the others follow all tasks
  pub all_placed : (ps₀ : List (Piece S)) (ws₀ : List S) (ps : List (Piece S)) (ws : List S) → IsPlaced ps₀ ws₀ 0 ps ws
      → all_in ps ++ ws ≡ put_all path ws₀ (all_in ps₀)
  all_placed ps₀ ws₀ ps ws h =
      let f = nothing_there h.front h.many in
      let b : ps ≡ h.back = h.is ∙ ap (λ (xs : List (Piece S)). xs ++ h.back) f in
      (λ i. all_in (b i) ++ (sym (strays_last path ws h.strays) ∙ ap (λ (xs : List (Piece S)). put_all path ws (all_in xs)) (sym f)) i)
      ∙ h.left

  -- to the end of the first piece of the list
  pub last_ones : (ps : List (Piece S)) (p q : Piece S) (ws : List S) → 0 < length ps → p ≡ get_or ps 0 p
      → q.tasks.items ≡ p.tasks.items ++ ws → all_in (slice_set ps 0 q) ≡ all_in ps ++ ws
  last_ones [] p q ws lt e t = absurd (omega (arith, lt))
  last_ones (x ∷ ps) p q ws lt e t =
      ap (λ (ts : List S). all_in ps ++ ts) (t ∙ ap (λ (y : Piece S). y.tasks.items ++ ws) e)
      ∙ sym (append_assoc (all_in ps) x.tasks.items ws)

  -- whatever the answer
  pub last_ok : {X E : Type 0} (r : Result X E) (ps₀ : List (Piece S)) (ws₀ : List S) (ps : List (Piece S)) (p q : Piece S) (ws : List S)
      → IsPlaced ps₀ ws₀ 0 ps ws → 0 < length ps → p ≡ get_or ps 0 p
      → OnOk r (q.tasks.items ≡ p.tasks.items ++ ws) → OnOk r (all_in (slice_set ps 0 q) ≡ put_all path ws₀ (all_in ps₀))
  last_ok (Ok x) ps₀ ws₀ ps p q ws h lt e t = last_ones ps p q ws lt e t ∙ all_placed ps₀ ws₀ ps ws h
  last_ok (Err x) ps₀ ws₀ ps p q ws h lt e t = tt

  pub last_empty : (ps : List (Piece S)) (p q : Piece S) → 0 < length ps → p ≡ get_or ps 0 p → q.part ≡ p.part → AreEmpty ps
      → AreEmpty (slice_set ps 0 q)
  last_empty [] p q lt e t h = absurd (omega (arith, lt))
  last_empty (x ∷ ps) p q lt e t h = (t ∙ ap (λ (y : Piece S). y.part) e ∙ h.0, h.1)

  -- no piece, no stray
  pub no_pieces : (ps₀ : List (Piece S)) (ws₀ : List S) (ps : List (Piece S)) (ws : List S) → IsPlaced ps₀ ws₀ 0 ps ws → ps ≡ []
      → all_in ps ≡ put_all path ws₀ (all_in ps₀)
  no_pieces ps₀ ws₀ ps ws h n =
      sym (append-nil (all_in ps)) ∙ ap (λ (vs : List S). all_in ps ++ vs) (sym (h.some n)) ∙ all_placed ps₀ ws₀ ps ws h

  -- ---- stretch after stretch, from the last

  can_last : (ss : List (Option (PartValue S))) (s : Option (PartValue S)) → CanAllSettle path (ss ++ s ∷ [])
      → CanAllSettle path ss × CanAllSettle path (s ∷ [])
  can_last [] s h = (tt, h)
  can_last (None ∷ ss) s h = can_last ss s h
  can_last (Some part ∷ ss) s h = let r = can_last ss s h.1 in ((h.0, r.0), r.1)

  living_join : (ss rs : List (Option (PartValue S))) → living_in (ss ++ rs) ≡ living_in ss ++ living_in rs
  living_join [] rs = refl
  living_join (s ∷ ss) rs =
      ap (λ (ts : List S). of_slot (λ part. living_with part.tasks part.deeds) s ++ ts) (living_join ss rs)
      ∙ sym (append_assoc (of_slot (λ part. living_with part.tasks part.deeds) s) (living_in ss) (living_in rs))

  -- these pieces have the next live tasks of the stretches behind the first ones
  pub record IsGathered (all ss : List (Option (PartValue S))) (ps : List (Piece S)) : Type 0 where
    pub can : CanAllSettle path ss
    pub left : put_all path (living_in ss) (all_in ps) ≡ in_path_order path (living_in all)
    pub order : IsInOrder path (all_in ps)
    pub empty : AreEmpty ps

  pub gather_begins : (ss : List (Option (PartValue S))) (ps : List (Piece S)) → CanAllSettle path ss → ps ≡ [] → IsGathered ss ss ps
  gather_begins ss ps h e = record {
    can = h;
    left = ap (λ (xs : List (Piece S)). put_all path (living_in ss) (all_in xs)) e;
    order = subst (λ (xs : List (Piece S)). IsInOrder path (all_in xs)) (sym e) tt;
    empty = subst AreEmpty (sym e) tt;
  }

  -- the next is a stretch that is there
  pub part_next : (all ss rest : List (Option (PartValue S))) (s : Option (PartValue S)) (part : PartValue S) (ps : List (Piece S))
      → IsGathered all ss ps → ss ≡ rest ++ s ∷ [] → s ≡ Some part
      → CanSettle path part
      × ((qs : List (Piece S)) → all_in qs ≡ put_all path (living_with part.tasks part.deeds) (all_in ps) → AreEmpty qs
      → IsGathered all rest qs)
  part_next all ss rest s part ps h e is =
      let whole : ss ≡ rest ++ Some part ∷ [] = e ∙ ap (λ (x : Option (PartValue S)). rest ++ x ∷ []) is in
      let c = can_last rest (Some part) (subst (CanAllSettle path) whole h.can) in
      let own = living_with part.tasks part.deeds in (
        c.1.0,
        λ qs q m. record {
          can = c.0;
          left =
              ap (put_all path (living_in rest)) q
              ∙ sym (put_all_append path (living_in rest) own (all_in ps))
              ∙ ap (λ (ts : List S). put_all path ts (all_in ps))
              (ap (λ (ts : List S). living_in rest ++ ts) (sym (append-nil own)) ∙ sym (living_join rest (Some part ∷ []))
              ∙ ap living_in (sym whole))
              ∙ h.left;
          order = subst (IsInOrder path) (sym q) (sorted_all path own (all_in ps) h.order);
          empty = m;
        },
      )

  -- the next isn't there
  pub none_next : (all ss rest : List (Option (PartValue S))) (s : Option (PartValue S)) (ps : List (Piece S)) → IsGathered all ss ps
      → ss ≡ rest ++ s ∷ [] → s ≡ None → IsGathered all rest ps
  none_next all ss rest s ps h e is =
      let whole : ss ≡ rest ++ None ∷ [] = e ∙ ap (λ (x : Option (PartValue S)). rest ++ x ∷ []) is in
      record {
        can = (can_last rest None (subst (CanAllSettle path) whole h.can)).0;
        left =
            ap (λ (ts : List S). put_all path ts (all_in ps))
            (sym (append-nil (living_in rest)) ∙ sym (living_join rest (None ∷ [])) ∙ ap living_in (sym whole))
            ∙ h.left;
        order = h.order;
        empty = h.empty;
      }

  pub gather_ends : (all ss : List (Option (PartValue S))) (ps : List (Piece S)) → IsGathered all ss ps → length ss ≡ 0
      → all_in ps ≡ in_path_order path (living_in all)
  gather_ends all [] ps h n = h.left
  gather_ends all (s ∷ ss) ps h n = absurd (omega (arith, n))

-- what follows from an answer's equation
pub ok_then : {X E A : Type 0} (r : Result X E) (a b c : A) → OnOk r (a ≡ b) → (a ≡ b → a ≡ c) → OnOk r (a ≡ c)
ok_then (Ok x) a b c h f = f h
ok_then (Err x) a b c h f = tt
