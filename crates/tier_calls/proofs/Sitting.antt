-- New seats.
use Rattle.std.proofs.Common.{◌≡◌, ℕ, zero, suc, ◌<◌, ◌≤◌, List, [], ◌∷◌, map, length, refl, ap, sym, ◌∙◌, subst, arith, Option, Some}
use Rattle.std.specs.Prelude.{replicate}
use mathlib.Core.Option.{none}
use Rattle.atomic_table.specs.Table.{Me, step, opening, Allows, Splits}
use Rattle.phaser_word.specs.Fields.{Fields, IsLegal}
use Rattle.phaser_word.specs.Packed.{packed}
use Rattle.tier_shape.specs.Paths.{IsTiers}
use Rattle.tier_steps.specs.declared.view.View.{View}
use Rattle.tier_steps.specs.declared.kind.Kind.{Kind}
use Rattle.tier_steps.specs.View.{new_view}
use Rattle.tier_steps.specs.Tally.{word_at}
use Rattle.tier_steps.specs.Start.{empty_word, empty_words}
use Rattle.tier_steps.proofs.Start.{start_tallies}
use Rattle.tier_rule.specs.declared.sight.Key.{Key}
use Rattle.tier_rule.specs.declared.sight.Sight.{Sight}
use Rattle.tier_rule.specs.Reach.{first_sights, sat_sight, cut_once, cut_off, Kept}
use Rattle.tier_rule.specs.Tell.{Sat}
use Rattle.tier_rule.specs.Tell.{Beside}
use Rattle.tier_rule.proofs.Allowed.{opens_allow, sits_allow, cuts_allow}
use Rattle.atomic_table.specs.Seated.{TableId}
use Rattle.tier_calls.specs.Holding.{Named, Holding, sight_of, sight_held, split_once, IsSeated}
use Rattle.tier_calls.proofs.Seating.{holding}

map_replicate : (n : ℕ) (w : Fields) → map packed (replicate n w) ≡ replicate n (packed w)
map_replicate zero w = refl
map_replicate (suc n) w = ap (λ (ns : List ℕ). packed w ∷ ns) (map_replicate n w)

pub opens : (k : Key) (n : ℕ) (numbers : List ℕ) → IsTiers k.shape → k.phase ≤ 2147483647 → n ≡ length k.shape
    → numbers ≡ replicate n (packed (empty_word k.phase))
    → Kept k (opening numbers [] (first_sights k))
opens k n numbers shape small long is =
    subst (λ (ns : List ℕ). Kept k (opening ns [] (first_sights k)))
    (map_replicate (length k.shape) (empty_word k.phase) ∙ (ap (λ (m : ℕ). replicate m (packed (empty_word k.phase))) (sym long) ∙ sym is))
    (opens_allow k shape small)

word_first : (n : ℕ) (w : Fields) → 0 < n → word_at (replicate n w) 0 ≡ w
word_first zero w h = absurd (omega arith)
word_first (suc n) w h = refl

length_same : (n : ℕ) (w : Fields) → length (replicate n w) ≡ n
length_same zero w = refl
length_same (suc n) w = ap suc (length_same n w)

-- the first seat of a tree
pub first_seat : (k : Key) (me : Me Kind (List Sight)) → IsTiers k.shape → k.phase ≤ 2147483647 → me ≡ (first_sights k, [])
    → IsSeated me (new_view k.phase) 0 (empty_word k.phase)
first_seat k me shape small at =
    subst (λ (m : Me Kind (List Sight)). IsSeated m (new_view k.phase) 0 (empty_word k.phase)) (sym at) (record {
      one = refl;
      view = refl;
      tier = refl;
      word = refl;
      beside = record {
        words = empty_words k.shape k.phase;
        front = [];
        back = [];
        shape = shape;
        within = (let a = shape.shape.some in let b = length_same (length k.shape) (empty_word k.phase) in omega arith);
        word = word_first (length k.shape) (empty_word k.phase) shape.shape.some;
        tally = (start_tallies k.shape k.phase shape.shape small).0;
      };
    })

pub first_seated : (k : Key) (me : Me Kind (List Sight)) (v : View) → IsTiers k.shape → k.phase ≤ 2147483647 → me ≡ (first_sights k, [])
    → v ≡ new_view k.phase
    → IsSeated me v 0 (empty_word k.phase)
first_seated k me v shape small at is = subst (λ (u : View). IsSeated me u 0 (empty_word k.phase)) (sym is) (first_seat k me shape small at)

-- what a seat that knows nothing learns
pub record Seats (k : Key) (n : ℕ) (me : Me Kind (List Sight)) (o : Option Fields) : Type 0 where
  pub word : Fields
  pub some : o ≡ Some word
  pub at : me ≡ (sat_sight k word ∷ [], [])
  pub seat : IsSeated me (new_view word.phase) 0 word

pub sits : {k : Key} {n : ℕ} {blank me : Me Kind (List Sight)} {o : Option Fields} → blank ≡ ([], []) → Sat k (step 0 0 0 0 none) blank n me
    → ((w : Fields) → IsLegal w → packed w ≡ n → o ≡ Some w) → Seats k n me o
sits {k} {n} {blank} {me} {o} empty reported again =
    let r = reported empty in record {
      word = r.0;
      some = again r.0 r.1 (sym r.2);
      at = r.3;
      seat =
          subst (λ (m : Me Kind (List Sight)). IsSeated m (new_view r.0.phase) 0 r.0) (sym r.3)
          (record { one = refl; view = refl; tier = refl; word = refl; beside = r.4 });
    }

pub sit_seated : {k : Key} {n : ℕ} {me : Me Kind (List Sight)} {o : Option Fields} (v : View) (w : Fields) → (s : Seats k n me o)
    → w ≡ s.word → v ≡ new_view w.phase → IsSeated me v 0 w
sit_seated {k} {n} {me} {o} v w s here is =
    subst (λ (u : View). IsSeated me u 0 w) (sym is) (subst (λ (z : Fields). IsSeated me (new_view z.phase) 0 z) (sym here) s.seat)

pub sit_allow : {k j : Key} {n : Named} {id : TableId} {me : Me Kind (List Sight)} (slots seat : ℕ) → me ≡ ([], []) → j ≡ n.key
    → record { id = id; key = k } ≡ n → 0 < length k.shape
    → Allows (Kept k) slots seat me 0 (λ n. n) (Sat j (step slots 0 0 0 none) me)
sit_allow {k} {j} {n} {id} {me} slots seat blank key is some =
    let own : j ≡ k = key ∙ sym (ap (λ (z : Named). z.key) is) in
    subst (λ (z : Key). Allows (Kept k) slots seat me 0 (λ n. n) (Sat z (step slots 0 0 0 none) me)) (sym own)
    (subst (λ (m : Me Kind (List Sight)). Allows (Kept k) slots seat m 0 (λ n. n) (Sat k (step slots 0 0 0 none) m)) (sym blank) (sits_allow k slots seat some))

-- a seat off which another is cut
cut_me : {me me' : Me Kind (List Sight)} {v : View} {t : ℕ} {w : Fields} → IsSeated me v t w → me' ≡ (cut_off me.0, me.1)
    → me' ≡ (cut_once (sight_of me) ∷ [], [])
cut_me {me} {me'} {v} {t} {w} seat is =
    is ∙ ap (λ (m : Me Kind (List Sight)). let r : Me Kind (List Sight) = (cut_off m.0, m.1) in r) seat.one

pub split_seated : {me me' : Me Kind (List Sight)} {v : View} {t : ℕ} {w : Fields} → IsSeated me v t w → me' ≡ (cut_off me.0, me.1)
    → IsSeated me' v t w
split_seated {me} {me'} {v} {t} {w} seat is =
    let e = cut_me {me = me} {me' = me'} seat is in record {
      one = e ∙ ap (λ (z : Sight). let r : Me Kind (List Sight) = (z ∷ [], []) in r) (sym (ap sight_of e));
      view = ap (λ (m : Me Kind (List Sight)). (sight_of m).view) e ∙ seat.view;
      tier = ap (λ (m : Me Kind (List Sight)). (sight_of m).tier) e ∙ seat.tier;
      word = ap (λ (m : Me Kind (List Sight)). (sight_of m).word) e ∙ seat.word;
      beside = subst (λ (z : Key). Beside z.shape t w v) (sym (ap (λ (m : Me Kind (List Sight)). (sight_of m).key) e)) seat.beside;
    }

pub split_held : {me me' : Me Kind (List Sight)} {v : View} {t : ℕ} {w : Fields} {id id' : TableId} {h : Holding} → holding id me v t w ≡ h
    → IsSeated me v t w → id' ≡ id → me' ≡ (cut_off me.0, me.1)
    → holding id' me' v t w ≡ split_once h
split_held {me} {me'} {v} {t} {w} {id} {id'} {h} held seat same is =
    let e = cut_me {me = me} {me' = me'} seat is in
    (λ i. record {
      tree = record { id = same i; key = (ap (λ (m : Me Kind (List Sight)). (sight_of m).key) e) i };
      view = v;
      tier = t;
      word = w;
      tried = (ap (λ (m : Me Kind (List Sight)). (sight_of m).tried) e) i;
      steps = (ap (λ (m : Me Kind (List Sight)). (sight_of m).steps) e) i;
      opened = (ap (λ (m : Me Kind (List Sight)). (sight_of m).opened) e) i;
    }) ∙ ap split_once held

pub split_allow : {k : Key} {me : Me Kind (List Sight)} {v : View} {t : ℕ} {w : Fields} (seat : ℕ) → IsSeated me v t w
    → Splits (Kept k) seat me.0 (cut_off me.0) []
split_allow {k} {me} {v} {t} {w} seat is =
    subst (λ (m : Me Kind (List Sight)). Splits (Kept k) seat m.0 (cut_off m.0) []) (sym is.one) (cuts_allow k seat (sight_of me))

-- the seat of a token knows what the token says
pub held_seat : {id : TableId} {me : Me Kind (List Sight)} {v : View} {t : ℕ} {w : Fields} {h : Holding} → holding id me v t w ≡ h
    → IsSeated me v t w → me ≡ (sight_held h ∷ [], [])
held_seat {id} {me} {v} {t} {w} {h} held seat =
    seat.one
    ∙ ((λ i. let r : Me Kind (List Sight) = (
      record {
        key = (sight_of me).key;
        view = seat.view i;
        tier = seat.tier i;
        word = seat.word i;
        tried = (sight_of me).tried;
        steps = (sight_of me).steps;
        opened = (sight_of me).opened;
      } ∷ [],
      [],
    ) in r)
    ∙ ap (λ (z : Holding). let r : Me Kind (List Sight) = (sight_held z ∷ [], []) in r) held)
