-- Each step on the word of a list keeps what its seats know.
use Rattle.std.specs.Prelude.{slice_index, ◌==◌, if◌then◌else◌, IfSome}
use Rattle.std.proofs.Common.{◌≡◌, ℕ, zero, suc, ◌<◌, ◌≤◌, ◌≢◌, ◌⊎◌, Bool, true, false, List, [], ◌∷◌, ◌++◌, length, Option, Some, None, slice_set, refl, sym, ap, ◌∙◌, subst, arith, inl, inr, ⊎_elim}
use Rattle.std.specs.Option.{unwrap_or}
use lib.ListN.{get_elem?}
use mathlib.Core.Option.{some, none, some-injective, some-ne-none}
use prog.Atomic.{either}
use Rattle.atomic_table.specs.Seated.{TableId}
use Rattle.atomic_table.specs.Table.{State, Me, keeps, opening, Allows, Splits, Joins}
use Rattle.atomic_table.proofs.Lists.{at_set, set_here, set_else, at_longer}
use Rattle.ghost_lists.specs.declared.tickets_rule.TicketEntry.{TicketEntry}
use Rattle.ghost_lists.specs.declared.tickets_rule.Known.{Known}
use Rattle.ghost_lists.specs.Passed.{ticket_entry, IsOut, without, without_held, IsKept, issued, Issues, redeemed, Redeems, with_none, passed_on, receiving, AreKeyed, IsList}

is_key : (a b : ℕ) → (a == b) ≡ true → a ≡ b
is_key a b e = grind arith

not_key : (a b : ℕ) → a ≡ b → (a == b) ≡ false → ⊥
not_key a b e n = grind arith

module _ {T : Type 0} where
  abbrev empty : Known T
  empty = record { out = []; held = None; next = 0 }

  held_by : (t u : TicketEntry T) → Some t ≡ Some u → t ≡ u
  held_by t u e = ap (λ (o : Option (TicketEntry T)). unwrap_or o t) e

  none_held : (t : TicketEntry T) → None ≡ Some t → ⊥
  none_held t e = cc

  there : (vs : List (Known T)) (i : ℕ) (v : Known T) → get_elem? vs i ≡ some v → i < length vs
  there [] i v e = absurd (some-ne-none v (sym e))
  there (x ∷ vs) zero v e = omega arith
  there (x ∷ vs) (suc i) v e = let l = there vs i v e in omega (arith, l)

  -- a place of a list with one more, kept apart from the last
  at_end : (l : List (Known T)) (a b : Known T) (j : ℕ) → get_elem? (l ++ a ∷ []) j ≡ some b
      → (get_elem? l j ≡ some b) ⊎ ((j ≡ length l) × (a ≡ b))
  at_end [] a b zero e = inr (refl, some-injective a b e)
  at_end [] a b (suc j) e = absurd (some-ne-none b (sym e))
  at_end (x ∷ xs) a b zero e = inl e
  at_end (x ∷ xs) a b (suc j) e = ⊎_elim (λ t. inl t) (λ t. inr (ap suc t.0, t.1)) (at_end xs a b j e)

  -- another entry stays
  stays_if : (b : Bool) (p t : TicketEntry T) (ps qs : List (TicketEntry T)) → (b ≡ true → p ≢ t) → (p ≡ t) ⊎ IsOut t qs
      → IsOut t (if b then qs else p ∷ qs)
  stays_if true p t ps qs h c = ⊎_elim (λ e. absurd (h refl e)) (λ k. k) c
  stays_if false p t ps qs h c = c

  pub others_stay : (key : ℕ) (t : TicketEntry T) (ps : List (TicketEntry T)) → t.key ≢ key → IsOut t ps → IsOut t (without key ps)
  others_stay key t [] n h = absurd h
  others_stay key t (p ∷ ps) n h =
      stays_if (key == p.key) p t ps (without key ps) (λ e same. n (sym (is_key key p.key e ∙ ap (λ (u : TicketEntry T). u.key) same)))
      (⊎_elim (λ e. inl e) (λ k. inr (others_stay key t ps n k)) h)

  -- what the first seat knows
  first_is : (s : State T (Known T)) (h : IsKept s) (id : ℕ) (v : Known T) → id ≡ 0 → get_elem? s.views id ≡ some v → h.first ≡ v
  first_is s h id v e at = some-injective h.first v (sym h.at ∙ ap (get_elem? s.views) (sym e) ∙ at)

  -- the first seat knows something else, in which the other seats' entries are, and has another entry
  changed : (ws : List ℕ) (hs : List (mathlib.Core.Option.Option T)) (s : State T (Known T)) (h : IsKept s) (w : Known T)
      → h.first.next ≤ w.next
      → ((i : ℕ) (v : Known T) → i ≢ 0 → get_elem? s.views i ≡ some v → (t : TicketEntry T) → v.held ≡ Some t → IsOut t w.out)
      → ((t : TicketEntry T) → w.held ≡ Some t → (t.key < w.next) × IsOut t w.out)
      → ((i : ℕ) (v : Known T) → i ≢ 0 → get_elem? s.views i ≡ some v → (t u : TicketEntry T) → w.held ≡ Some t → v.held ≡ Some u
      → t.key ≡ u.key → ⊥)
      → IsKept (record { words = ws; homes = hs; views = slice_set s.views 0 w })
  changed ws hs s h w more others mine apart = record {
    first = w;
    at = set_here s.views 0 w (there s.views 0 h.first h.at);
    listed = λ i v e t k. listed_by i v t k (at_set s.views 0 i w v e);
    apart = λ i j v x e f t u k l same. apart_by i j v x t u k l same (at_set s.views 0 i w v e) (at_set s.views 0 j w x f);
  }
    where
      listed_by : (i : ℕ) (v : Known T) (t : TicketEntry T) → v.held ≡ Some t
          → ((i ≡ 0) × (w ≡ v)) ⊎ ((i ≢ 0) × (get_elem? s.views i ≡ some v)) → (t.key < w.next) × IsOut t w.out
      listed_by i v t k c =
          ⊎_elim (λ a. mine t (ap (λ (x : Known T). x.held) a.1 ∙ k))
          (λ a. let l = (h.listed i v a.1 t k).0 in (omega (arith, l, more), others i v a.0 a.1 t k)) c

      apart_by : (i j : ℕ) (v x : Known T) (t u : TicketEntry T) → v.held ≡ Some t → x.held ≡ Some u → t.key ≡ u.key
          → ((i ≡ 0) × (w ≡ v)) ⊎ ((i ≢ 0) × (get_elem? s.views i ≡ some v))
          → ((j ≡ 0) × (w ≡ x)) ⊎ ((j ≢ 0) × (get_elem? s.views j ≡ some x)) → i ≡ j
      apart_by i j v x t u k l same (inl a) (inl b) = a.0 ∙ sym b.0
      apart_by i j v x t u k l same (inl a) (inr b) = absurd (apart j x b.0 b.1 t u (ap (λ (y : Known T). y.held) a.1 ∙ k) l same)
      apart_by i j v x t u k l same (inr a) (inl b) = absurd (apart i v a.0 a.1 u t (ap (λ (y : Known T). y.held) b.1 ∙ l) k (sym same))
      apart_by i j v x t u k l same (inr a) (inr b) = h.apart i j v x a.1 b.1 t u k l same

  at_first : (ws : List ℕ) (hs : List (mathlib.Core.Option.Option T)) (vs : List (Known T)) (id : ℕ) (w : Known T) → id ≡ 0
      → IsKept (record { words = ws; homes = hs; views = slice_set vs 0 w })
      → IsKept (record { words = ws; homes = hs; views = slice_set vs id w })
  at_first ws hs vs id w e h = subst (λ (k : ℕ). IsKept (record { words = ws; homes = hs; views = slice_set vs k w })) (sym e) h

  -- as the list is made
  pub kept_first : IsKept (opening {S = T} {V = Known T} (0 ∷ []) [] (record { out = []; held = None; next = 0 }))
  kept_first = record {
    first = empty;
    at = refl;
    listed = λ i v e t k. absurd (nothing i v e t k);
    apart = λ i j v w e f t u k l same. absurd (nothing i v e t k);
  }
    where
      nothing : (i : ℕ) (v : Known T) → get_elem? (empty ∷ []) i ≡ some v → (t : TicketEntry T) → v.held ≡ Some t → ⊥
      nothing zero v e t k = none_held t (ap (λ (x : Known T). x.held) (some-injective empty v e) ∙ k)
      nothing (suc i) v e t k = some-ne-none v (sym e)

  pub issues : (slots id step number : ℕ) (known : T) (me : Me T (Known T)) → id ≡ 0
      → Allows IsKept slots id me 0 (λ n. either (n == step) number n) (λ n next. Issues step number (some known) me next)
  issues slots id step number known me e s h l at small =
      let first = first_is s h id me.0 e at in
      let w = issued step number known me.0 in
      let ws = slice_set s.words 0 (either (slice_index s.words 0 == step) number (slice_index s.words 0)) in (
        w,
        keeps,
        tt,
        at_first ws s.homes s.views id w e
            (subst (λ (v : Known T). IsKept (record { words = ws; homes = s.homes; views = slice_set s.views 0 (issued step number known v) })) first
            (changed ws s.homes s h (issued step number known h.first) (omega arith) (λ i v n k t held. inr (h.listed i v k t held).1)
            (λ t held. let same = held_by (ticket_entry h.first.next step number known) t held in
            let key = ap (λ (u : TicketEntry T). u.key) same in (omega (arith, key), inl same))
            (λ i v n k t u held other same.
            let key = ap (λ (x : TicketEntry T). x.key) (held_by (ticket_entry h.first.next step number known) t held) in
            let below = (h.listed i v k u other).0 in omega (arith, key, same, below)))),
        refl,
      )

  is_out_held : (v : Known T) → ((t : TicketEntry T) → v.held ≡ Some t → IsOut t v.out) → (o : Option (TicketEntry T)) → v.held ≡ o
      → IfSome o (λ t. IsOut t v.out)
  is_out_held v f None e = tt
  is_out_held v f (Some t) e = f t e

  stays_held : (o : Option (TicketEntry T)) (t : TicketEntry T) (ps : List (TicketEntry T))
      → ((u : TicketEntry T) → o ≡ Some u → t.key ≢ u.key) → IsOut t ps → IsOut t (without_held o ps)
  stays_held None t ps f h = h
  stays_held (Some u) t ps f h = others_stay u.key t ps (f u refl) h

  pub redeems : (slots id : ℕ) (me : Me T (Known T)) → id ≡ 0 → Allows IsKept slots id me 0 (λ n. n) (λ n next. Redeems me next)
  redeems slots id me e s h l at small =
      let first = first_is s h id me.0 e at in
      let w = redeemed me.0 in
      let ws = slice_set s.words 0 (slice_index s.words 0) in (
        w,
        keeps,
        tt,
        at_first ws s.homes s.views id w e
            (subst (λ (v : Known T). IsKept (record { words = ws; homes = s.homes; views = slice_set s.views 0 (redeemed v) })) first
            (changed ws s.homes s h (redeemed h.first) (omega arith)
            (λ i v n k t held. stays_held h.first.held t h.first.out (λ u mine same. n (h.apart i 0 v h.first k h.at t u held mine same)) (h.listed i v k t held).1)
            (λ t held. absurd (none_held t held))
            (λ i v n k t u held other same. absurd (none_held t held)))),
        (
          refl,
          subst (λ (v : Known T). IfSome v.held (λ t. IsOut t v.out)) first
              (is_out_held h.first (λ t held. (h.listed 0 h.first h.at t held).1) h.first.held refl),
        ),
      )

  pub gives : (id : ℕ) (v : Known T) → id ≡ 0 → Splits {S = T} IsKept id v (with_none v) (passed_on v)
  gives id v e s h at = record {
    first = with_none v;
    at =
        at_longer views (passed_on v ∷ []) 0 (with_none v)
        (subst (λ (k : ℕ). get_elem? (slice_set s.views k (with_none v)) 0 ≡ some (with_none v)) (sym e) (set_here s.views 0 (with_none v) (there s.views 0 h.first h.at)));
    listed = λ i u k t held. listed_by i u t held (at_end views (passed_on v) u i k);
    apart =
        λ i j u w k l t x held other same. apart_by i j u w t x held other same (at_end views (passed_on v) u i k)
        (at_end views (passed_on v) w j l);
  }
    where
      views : List (Known T)
      views = slice_set s.views id (with_none v)

      first : h.first ≡ v
      first = first_is s h id v e at

      -- it is another seat's
      else_at : (i : ℕ) (u : Known T) (t : TicketEntry T) → u.held ≡ Some t → get_elem? views i ≡ some u
          → (i ≢ id) × (get_elem? s.views i ≡ some u)
      else_at i u t held k =
          ⊎_elim (λ a. absurd (none_held t (ap (λ (x : Known T). x.held) a.1 ∙ held))) (λ a. a) (at_set s.views id i (with_none v) u k)

      listed_by : (i : ℕ) (u : Known T) (t : TicketEntry T) → u.held ≡ Some t
          → (get_elem? views i ≡ some u) ⊎ ((i ≡ length views) × (passed_on v ≡ u)) → (t.key < v.next) × IsOut t v.out
      listed_by i u t held (inl k) =
          subst (λ (x : Known T). (t.key < x.next) × IsOut t x.out) first (h.listed i u (else_at i u t held k).1 t held)
      listed_by i u t held (inr k) =
          subst (λ (x : Known T). (t.key < x.next) × IsOut t x.out) first (h.listed id v at t (ap (λ (x : Known T). x.held) k.1 ∙ held))

      apart_by : (i j : ℕ) (u w : Known T) (t x : TicketEntry T) → u.held ≡ Some t → w.held ≡ Some x → t.key ≡ x.key
          → (get_elem? views i ≡ some u) ⊎ ((i ≡ length views) × (passed_on v ≡ u))
          → (get_elem? views j ≡ some w) ⊎ ((j ≡ length views) × (passed_on v ≡ w)) → i ≡ j
      apart_by i j u w t x held other same (inl k) (inl l) =
          h.apart i j u w (else_at i u t held k).1 (else_at j w x other l).1 t x held other same
      apart_by i j u w t x held other same (inl k) (inr l) =
          absurd
          ((else_at i u t held k).0 (h.apart i id u v (else_at i u t held k).1 at t x held (ap (λ (y : Known T). y.held) l.1 ∙ other) same))
      apart_by i j u w t x held other same (inr k) (inl l) =
          absurd
          ((else_at j w x other l).0 (h.apart j id w v (else_at j w x other l).1 at x t other (ap (λ (y : Known T). y.held) k.1 ∙ held) (sym same)))
      apart_by i j u w t x held other same (inr k) (inr l) = k.0 ∙ sym l.0

  pub receives : (id other : ℕ) (v w : Known T) → id ≡ 0
      → Joins {S = T} IsKept id v other w (receiving v w) (record { out = []; held = None; next = 0 })
  receives id other v w e s h at far there_too = record {
    first = receiving v w;
    at =
        set_else mid other 0 empty (λ k. far (sym k ∙ sym e))
        ∙ subst (λ (k : ℕ). get_elem? (slice_set s.views k (receiving v w)) 0 ≡ some (receiving v w)) (sym e)
        (set_here s.views 0 (receiving v w) (there s.views 0 h.first h.at));
    listed = λ i u k t held. listed_by i u t held (where_is i u t held k);
    apart =
        λ i j u x k l t y held held_too same. apart_by i j u x t y held held_too same (where_is i u t held k) (where_is j x y held_too l);
  }
    where
      mid : List (Known T)
      mid = slice_set s.views id (receiving v w)

      first : h.first ≡ v
      first = first_is s h id v e at

      from : get_elem? s.views other ≡ some w
      from = sym (set_else s.views id other (receiving v w) far) ∙ there_too

      -- the first seat, with the other's entry; or a third seat
      where_is : (i : ℕ) (u : Known T) (t : TicketEntry T) → u.held ≡ Some t → get_elem? (slice_set mid other empty) i ≡ some u
          → ((i ≡ id) × (w.held ≡ Some t)) ⊎ ((i ≢ other) × (get_elem? s.views i ≡ some u))
      where_is i u t held k =
          ⊎_elim (λ a. absurd (none_held t (ap (λ (x : Known T). x.held) a.1 ∙ held)))
          (λ a. ⊎_elim (λ b. inl (b.0, ap (λ (x : Known T). x.held) b.1 ∙ held)) (λ b. inr (a.0, b.1)) (at_set s.views id i (receiving v w) u a.1))
          (at_set mid other i empty u k)

      listed_by : (i : ℕ) (u : Known T) (t : TicketEntry T) → u.held ≡ Some t
          → ((i ≡ id) × (w.held ≡ Some t)) ⊎ ((i ≢ other) × (get_elem? s.views i ≡ some u)) → (t.key < v.next) × IsOut t v.out
      listed_by i u t held (inl k) =
          subst (λ (x : Known T). (t.key < x.next) × IsOut t x.out) first (h.listed other w from t k.1)
      listed_by i u t held (inr k) =
          subst (λ (x : Known T). (t.key < x.next) × IsOut t x.out) first (h.listed i u k.1 t held)

      apart_by : (i j : ℕ) (u x : Known T) (t y : TicketEntry T) → u.held ≡ Some t → x.held ≡ Some y → t.key ≡ y.key
          → ((i ≡ id) × (w.held ≡ Some t)) ⊎ ((i ≢ other) × (get_elem? s.views i ≡ some u))
          → ((j ≡ id) × (w.held ≡ Some y)) ⊎ ((j ≢ other) × (get_elem? s.views j ≡ some x)) → i ≡ j
      apart_by i j u x t y held held_too same (inl k) (inl l) = k.0 ∙ sym l.0
      apart_by i j u x t y held held_too same (inl k) (inr l) = absurd (l.0 (sym (h.apart other j w x from l.1 t y k.1 held_too same)))
      apart_by i j u x t y held held_too same (inr k) (inl l) = absurd (k.0 (h.apart i other u w k.1 from t y held l.1 same))
      apart_by i j u x t y held held_too same (inr k) (inr l) = h.apart i j u x k.1 l.1 t y held held_too same

  -- ---- keys

  below : (next : ℕ) (ts : List (TicketEntry T)) (u : TicketEntry T) → AreKeyed next ts → IsOut u ts → u.key < next
  below next [] u h k = absurd k
  below next (t ∷ ts) u h k =
      ⊎_elim (λ e. let same = ap (λ (x : TicketEntry T). x.key) e in let l = h.0 in omega (arith, same, l))
      (λ l. let b = below t.key ts u h.1 l in let c = h.0 in omega (arith, b, c)) k

  one_of_key : (next : ℕ) (ts : List (TicketEntry T)) (t u : TicketEntry T) → AreKeyed next ts → IsOut t ts → IsOut u ts → t.key ≡ u.key
      → t ≡ u
  one_of_key next [] t u h k l same = absurd k
  one_of_key next (p ∷ ps) t u h (inl e) (inl f) same = sym e ∙ f
  one_of_key next (p ∷ ps) t u h (inl e) (inr l) same =
      absurd (let b = below p.key ps u h.1 l in let c = ap (λ (x : TicketEntry T). x.key) e in omega (arith, b, c, same))
  one_of_key next (p ∷ ps) t u h (inr k) (inl f) same =
      absurd (let b = below p.key ps t h.1 k in let c = ap (λ (x : TicketEntry T). x.key) f in omega (arith, b, c, same))
  one_of_key next (p ∷ ps) t u h (inr k) (inr l) same = one_of_key p.key ps t u h.1 k l same

  -- if one is struck out, each is that one or stays
  pub still_there : (next : ℕ) (ts : List (TicketEntry T)) (t u : TicketEntry T) → AreKeyed next ts → IsOut t ts → IsOut u ts
      → (t ≡ u) ⊎ IsOut u (without t.key ts)
  still_there next ts t u h k l = by (t.key == u.key) refl
    where
      by : (b : Bool) → (t.key == u.key) ≡ b → (t ≡ u) ⊎ IsOut u (without t.key ts)
      by true e = inl (one_of_key next ts t u h k l (is_key t.key u.key e))
      by false e = inr (others_stay t.key u ts (λ same. not_key t.key u.key (sym same) e) l)

  looser : (next key : ℕ) (ts : List (TicketEntry T)) → key < next → AreKeyed key ts → AreKeyed next ts
  looser next key [] l h = tt
  looser next key (t ∷ ts) l h = (let b = h.0 in omega (arith, b, l), h.1)

  if_keyed : (b : Bool) (next : ℕ) (p : TicketEntry T) (rest : List (TicketEntry T)) → p.key < next → AreKeyed p.key rest
      → AreKeyed next (if b then rest else p ∷ rest)
  if_keyed true next p rest l h = looser next p.key rest l h
  if_keyed false next p rest l h = (l, h)

  keyed_without : (next key : ℕ) (ts : List (TicketEntry T)) → AreKeyed next ts → AreKeyed next (without key ts)
  keyed_without next key [] h = tt
  keyed_without next key (p ∷ ps) h = if_keyed (key == p.key) next p (without key ps) h.0 (keyed_without p.key key ps h.1)

  pub keyed_after : (next : ℕ) (held : Option (TicketEntry T)) (ts : List (TicketEntry T)) → AreKeyed next ts
      → AreKeyed next (without_held held ts)
  keyed_after next None ts h = h
  keyed_after next (Some t) ts h = keyed_without next t.key ts h

  pub others_there : (next : ℕ) (held : Option (TicketEntry T)) (ts : List (TicketEntry T)) → AreKeyed next ts
      → IfSome held (λ t. IsOut t ts)
      → IfSome held (λ t. (u : TicketEntry T) → IsOut u ts → (t ≡ u) ⊎ IsOut u (without_held held ts))
  others_there next None ts h k = tt
  others_there next (Some t) ts h k = λ u l. still_there next ts t u h k l

  -- the first seat after an entry is struck out
  pub list_after : (table id id' : TableId) (seat seat' : ℕ) (me mid next : Me T (Known T)) (w : Known T) → IsList table id seat me
      → mid ≡ (receiving me.0 w, me.1) → next ≡ (redeemed mid.0, mid.1)
      → id' ≡ id → seat' ≡ seat → IsList table id' seat' next
  list_after table id id' seat seat' me mid next w h e f same_id same_seat =
      subst (λ (x : Me T (Known T)). IsList table id' seat' x) (sym (f ∙ ap (λ (x : Me T (Known T)). (redeemed x.0, x.1)) e)) (record {
        words = h.words;
        named = same_id ∙ h.named;
        first = same_seat ∙ h.first;
        nothing = h.nothing;
        keyed = keyed_after me.0.next w.held me.0.out h.keyed;
      })

  pub others_after : (table id : TableId) (seat : ℕ) (me mid next : Me T (Known T)) (w : Known T) → IsList table id seat me
      → mid ≡ (receiving me.0 w, me.1) → next ≡ (redeemed mid.0, mid.1)
      → IfSome mid.0.held (λ t. IsOut t mid.0.out)
      → IfSome w.held (λ t. (u : TicketEntry T) → IsOut u me.0.out → (t ≡ u) ⊎ IsOut u next.0.out)
  others_after table id seat me mid next w h e f found =
      subst (λ (x : Me T (Known T)). IfSome w.held (λ t. (u : TicketEntry T) → IsOut u me.0.out → (t ≡ u) ⊎ IsOut u x.0.out))
      (sym (f ∙ ap (λ (x : Me T (Known T)). (redeemed x.0, x.1)) e))
      (others_there me.0.next w.held me.0.out h.keyed (subst (λ (x : Me T (Known T)). IfSome x.0.held (λ t. IsOut t x.0.out)) e found))
