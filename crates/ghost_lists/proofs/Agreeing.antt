-- Each step on the words of a log keeps what its seats know.
use Rattle.std.specs.Prelude.{slice_index}
use Rattle.std.proofs.Common.{◌≡◌, ℕ, zero, suc, ◌<◌, ◌≢◌, ◌⊎◌, true, false, List, [], ◌∷◌, ◌++◌, length, Option, Some, None, slice_set, refl, sym, ap, ◌∙◌, subst, arith, append_assoc, ⊎_elim}
use lib.ListN.{get_elem?}
use mathlib.Core.Option.{some, none, some-injective, some-ne-none}
use Rattle.atomic_table.specs.Table.{State, Me, keeps, takes, opening, Allows, Splits, Joins}
use Rattle.atomic_table.proofs.Lists.{at_set, set_here, set_else, at_longer, at_snoc}
use Rattle.ghost_lists.specs.declared.log_rule.Known.{Known}
use Rattle.ghost_lists.specs.Agreed.{WasBefore, IsAgreed, Takes, noted, Notes, Agrees, copy_of, hearing}

not_true : true ≡ false → ⊥
not_true e = cc

module _ {X : Type 0} where
  -- a log is before itself
  pub itself : (xs : List X) → WasBefore xs xs
  itself xs = record { since = []; is = refl }

  pub none_before : (xs : List X) → WasBefore [] xs
  none_before xs = record { since = xs; is = sym (right xs) }
    where
      right : (ys : List X) → ys ++ [] ≡ ys
      right [] = refl
      right (y ∷ ys) = ap (λ zs. y ∷ zs) (right ys)

  pub longer : (xs ys zs : List X) → WasBefore xs ys → WasBefore ys zs → WasBefore xs zs
  longer xs ys zs h k = record {
    since = k.since ++ h.since;
    is = k.is ∙ ap (λ ws. k.since ++ ws) h.is ∙ sym (append_assoc k.since h.since xs);
  }

  there : (vs : List (Known X)) (i : ℕ) (v : Known X) → get_elem? vs i ≡ some v → i < length vs
  there [] i v e = absurd (some-ne-none v (sym e))
  there (x ∷ vs) zero v e = omega arith
  there (x ∷ vs) (suc i) v e = let l = there vs i v e in omega (arith, l)

  -- as the log is made
  pub agreed_first : IsAgreed (opening {S = Option X} {V = Known X} (0 ∷ []) (None ∷ []) (record { log = []; heard = []; taken = false }))
  agreed_first = record {
    first = record { log = []; heard = []; taken = false };
    at = refl;
    known = all;
    home = λ e. (None, refl);
  }
    where
      all : (i : ℕ) (v : Known X) → get_elem? ((record { log = []; heard = []; taken = false }) ∷ []) i ≡ some v
          → WasBefore v.log [] × WasBefore v.heard []
      all zero v e =
          let same = some-injective (record { log = []; heard = []; taken = false }) v e in
          subst (λ (w : Known X). WasBefore w.log [] × WasBefore w.heard []) same (itself [], itself [])
      all (suc i) v e = absurd (some-ne-none v (sym e))

  -- the first seat knows more: its log is longer, or the same
  grown : (ws : List ℕ) (hs : List (mathlib.Core.Option.Option (Option X))) (s : State (Option X) (Known X))
      → (h : IsAgreed s) (w : Known X) → WasBefore h.first.log w.log → WasBefore w.heard w.log
      → (w.taken ≡ false → (x : Option X) × (get_elem? hs 0 ≡ some (some x)))
      → IsAgreed (record { words = ws; homes = hs; views = slice_set s.views 0 w })
  grown ws hs s h w more heard home = record {
    first = w;
    at = set_here s.views 0 w (there s.views 0 h.first h.at);
    known = λ i v e. by i v (at_set s.views 0 i w v e);
    home = home;
  }
    where
      by : (i : ℕ) (v : Known X) → ((i ≡ 0) × (w ≡ v)) ⊎ ((i ≢ 0) × (get_elem? s.views i ≡ some v))
          → WasBefore v.log w.log × WasBefore v.heard w.log
      by i v c =
          ⊎_elim (λ t. subst (λ (u : Known X). WasBefore u.log w.log × WasBefore u.heard w.log) t.1 (itself w.log, heard))
          (λ t. let k = h.known i v t.1 in (longer v.log h.first.log w.log k.0 more, longer v.heard h.first.log w.log k.1 more)) c

  -- what the first seat knows
  first_is : (s : State (Option X) (Known X)) (h : IsAgreed s) (id : ℕ) (v : Known X) → id ≡ 0 → get_elem? s.views id ≡ some v → h.first ≡ v
  first_is s h id v e at = some-injective h.first v (sym h.at ∙ ap (get_elem? s.views) (sym e) ∙ at)

  at_first : (ws : List ℕ) (hs : List (mathlib.Core.Option.Option (Option X))) (vs : List (Known X)) (id : ℕ) (w : Known X) → id ≡ 0
      → IsAgreed (record { words = ws; homes = hs; views = slice_set vs 0 w })
      → IsAgreed (record { words = ws; homes = hs; views = slice_set vs id w })
  at_first ws hs vs id w e h = subst (λ (k : ℕ). IsAgreed (record { words = ws; homes = hs; views = slice_set vs k w })) (sym e) h

  pub takes_place : (slots id : ℕ) (me : Me (Option X) (Known X)) → id ≡ 0 → me ≡ (record { log = []; heard = []; taken = false }, [])
      → Allows IsAgreed slots id me 0 (λ n. n) (λ n next. Takes me next)
  takes_place slots id me e new s h l at small =
      let first = first_is s h id me.0 e at in
      let x = h.home (ap (λ (v : Known X). v.taken) first ∙ ap (λ (m : Me (Option X) (Known X)). m.0.taken) new) in
      let w = record me.0 { taken = true } in (
        w,
        takes 0 x.0,
        x.1,
        at_first (slice_set s.words 0 (slice_index s.words 0)) (slice_set s.homes 0 none) s.views id w e
            (subst
            (λ (v : Known X). IsAgreed (record { words = slice_set s.words 0 (slice_index s.words 0); homes = slice_set s.homes 0 none; views = slice_set s.views 0 (record v { taken = true }) }))
            first
            (grown (slice_set s.words 0 (slice_index s.words 0)) (slice_set s.homes 0 none) s h (record h.first { taken = true })
            (itself h.first.log) (h.known 0 h.first h.at).1 (λ t. absurd (not_true t)))),
        record { known = refl; place = (x.0, refl) },
      )

  longer_noted : (v : Known X) (c : List (ℕ × Option X)) → WasBefore v.log (noted v c).log
  longer_noted v [] = itself v.log
  longer_noted v ((k, None) ∷ c) = itself v.log
  longer_noted v ((k, Some x) ∷ c) = record { since = x ∷ []; is = refl }

  same_heard : (v : Known X) (c : List (ℕ × Option X)) → (noted v c).heard ≡ v.heard
  same_heard v [] = refl
  same_heard v ((k, None) ∷ c) = refl
  same_heard v ((k, Some x) ∷ c) = refl

  same_taken : (v : Known X) (c : List (ℕ × Option X)) → (noted v c).taken ≡ v.taken
  same_taken v [] = refl
  same_taken v ((k, None) ∷ c) = refl
  same_taken v ((k, Some x) ∷ c) = refl

  pub notes : (slots id : ℕ) (me : Me (Option X) (Known X)) → id ≡ 0 → Allows IsAgreed slots id me 0 (λ n. n) (λ n next. Notes me next)
  notes slots id me e s h l at small =
      let first = first_is s h id me.0 e at in
      let w = noted me.0 me.1 in
      let ws = slice_set s.words 0 (slice_index s.words 0) in (
        w,
        keeps,
        tt,
        at_first ws s.homes s.views id w e
            (subst (λ (v : Known X). IsAgreed (record { words = ws; homes = s.homes; views = slice_set s.views 0 (noted v me.1) })) first
            (grown ws s.homes s h (noted h.first me.1) (longer_noted h.first me.1)
            (subst (λ (ys : List X). WasBefore ys (noted h.first me.1).log) (sym (same_heard h.first me.1))
            (longer h.first.heard h.first.log (noted h.first me.1).log (h.known 0 h.first h.at).1 (longer_noted h.first me.1)))
            (λ t. h.home (sym (same_taken h.first me.1) ∙ t)))),
        refl,
      )

  pub compares : (slots id : ℕ) (me : Me (Option X) (Known X)) → id ≡ 0 → Allows IsAgreed slots id me 0 (λ n. n) (λ n next. Agrees me next)
  compares slots id me e s h l at small =
      let first = first_is s h id me.0 e at in
      let ws = slice_set s.words 0 (slice_index s.words 0) in (
        me.0,
        keeps,
        tt,
        at_first ws s.homes s.views id me.0 e
            (subst (λ (v : Known X). IsAgreed (record { words = ws; homes = s.homes; views = slice_set s.views 0 v })) first
            (grown ws s.homes s h h.first (itself h.first.log) (h.known 0 h.first h.at).1 h.home)),
        (refl, subst (λ (v : Known X). WasBefore v.heard v.log) first (h.known 0 h.first h.at).1),
      )

  pub copies : (id : ℕ) (v : Known X) → id ≡ 0 → Splits {S = Option X} IsAgreed id v v (copy_of v)
  copies id v e s h at =
      let first = first_is s h id v e at in
      let same = at_first s.words s.homes s.views id v e
      (subst (λ (u : Known X). IsAgreed (record { words = s.words; homes = s.homes; views = slice_set s.views 0 u })) first
      (grown s.words s.homes s h h.first (itself h.first.log) (h.known 0 h.first h.at).1 h.home)) in
      record {
        first = same.first;
        at = at_longer (slice_set s.views id v) (copy_of v ∷ []) 0 same.first same.at;
        known = λ i u k. ⊎_elim (λ t. same.known i u t)
            (λ t. subst (λ (w : Known X). WasBefore w.log same.first.log × WasBefore w.heard same.first.log) t
            ((same.known id v (set_here s.views id v (there s.views id v at))).0, none_before same.first.log))
            (at_snoc (slice_set s.views id v) (copy_of v) u i k);
        home = same.home;
      }

  pub hears : (id other : ℕ) (v w : Known X) → id ≡ 0
      → Joins {S = Option X} IsAgreed id v other w (hearing v w) (record { log = []; heard = []; taken = true })
  hears id other v w e s h at apart there_too =
      let first = first_is s h id v e at in
      let from = h.known other w (sym (set_else s.views id other (hearing v w) apart) ∙ there_too) in
      let more = at_first s.words s.homes s.views id (hearing v w) e
      (subst (λ (u : Known X). IsAgreed (record { words = s.words; homes = s.homes; views = slice_set s.views 0 (hearing u w) })) first
      (grown s.words s.homes s h (hearing h.first w) (itself h.first.log) from.0 h.home)) in
      let spent : Known X = record { log = []; heard = []; taken = true } in
      let views = slice_set s.views id (hearing v w) in
      record {
        first = more.first;
        at = set_else views other 0 spent (λ k. apart (sym k ∙ sym e)) ∙ more.at;
        known = λ i u k.
            ⊎_elim
            (λ t. subst (λ (x : Known X). WasBefore x.log more.first.log × WasBefore x.heard more.first.log) t.1 (none_before more.first.log, none_before more.first.log))
            (λ t. more.known i u t.1) (at_set views other i spent u k);
        home = more.home;
      }
