-- Two tokens that look at the root at once.
use Rattle.std.proofs.Common.{◌≡◌, ℕ, ◌<◌, Option, Some, List, [], ◌∷◌, ◌++◌, length, refl, sym, ◌∙◌, ap, subst}
use mathlib.Core.Option.{none}
use Rattle.atomic_table.specs.Table.{Me, Step, step, Allows, Splits}
use Rattle.atomic_table.specs.Seated.{TableId}
use Rattle.phaser_word.specs.Fields.{Fields, IsLegal}
use Rattle.phaser_word.specs.Packed.{packed}
use Rattle.tier_steps.specs.declared.kind.Kind.{Kind}
use Rattle.tier_steps.specs.declared.kind.Kind.TheVariants.{Look}
use Rattle.tier_steps.specs.declared.view.View.{View}
use Rattle.tier_rule.specs.declared.sight.Key.{Key}
use Rattle.tier_rule.specs.declared.sight.Sight.{Sight}
use Rattle.tier_rule.specs.Reach.{Kept, front_of, rest_of}
use Rattle.tier_rule.specs.Tell.{Beside, SawBoth}
use Rattle.tier_rule.proofs.Allowed.{both_allow, parts_allow}
use Rattle.tier_calls.specs.Holding.{Holding, sight_of, sight_held, IsSeated}
use Rattle.tier_calls.proofs.Seating.{holding, Saws, moved_by}

abbrev Seat : Type 0
Seat = Me Kind (List Sight)

-- the seat of a token, by what it knows
pub held_seated : (mo : Seat) (h : Holding) → mo ≡ (sight_held h ∷ [], []) → Beside h.tree.key.shape h.tier h.word h.view
    → IsSeated mo h.view h.tier h.word
held_seated mo h is beside = record {
  one = is ∙ ap (λ (z : Sight). let r : Seat = (z ∷ [], []) in r) (sym (ap sight_of is));
  view = ap (λ (m : Seat). (sight_of m).view) is;
  tier = ap (λ (m : Seat). (sight_of m).tier) is;
  word = ap (λ (m : Seat). (sight_of m).word) is;
  beside = subst (λ (z : Key). Beside z.shape h.tier h.word h.view) (sym (ap (λ (m : Seat). (sight_of m).key) is)) beside;
}

-- what a joined seat knows
pub joined_is : {x y : Sight} {me mo joined : Seat} → me ≡ (x ∷ [], []) → mo ≡ (y ∷ [], []) → joined ≡ (me.0 ++ mo.0, me.1)
    → joined ≡ (x ∷ y ∷ [], [])
joined_is {x} {y} {me} {mo} {joined} a b is = is ∙ (λ i. let r : Seat = ((a i).0 ++ (b i).0, (a i).1) in r)

pub both_look : {k : Key} {x y : Sight} {joined : Seat} (slots seat : ℕ) → joined ≡ (x ∷ y ∷ [], []) → x.key ≡ k → y.key ≡ k
    → 0 < length k.shape
    → Allows (Kept k) slots seat joined 0 (λ n. n) (SawBoth (step slots 0 0 0 none) joined)
both_look {k} {x} {y} {joined} slots seat is own own' some =
    subst (λ (m : Seat). Allows (Kept k) slots seat m 0 (λ n. n) (SawBoth (step slots 0 0 0 none) m)) (sym is)
    (both_allow k slots seat x y own own' some)

-- what both learn
pub record Pair (n : ℕ) (me mo me' mo' : Seat) (v u : View) (o : Option Fields) : Type 0 where
  pub word : Fields
  pub some : o ≡ Some word
  pub first : Saws Look 0 n me me' v 0
  pub second : Saws Look 0 n mo mo' u 0
  pub one : first.word ≡ word
  pub other : second.word ≡ word

looked_is : {me mo joined : Seat} {v u : View} {t t' : ℕ} {w w' : Fields} → IsSeated me v t w → IsSeated mo u t' w'
    → joined ≡ (me.0 ++ mo.0, me.1) → joined ≡ (sight_of me ∷ sight_of mo ∷ [], [])
looked_is {me} {mo} {joined} {v} {u} {t} {t'} {w} {w'} seat seat' is = joined_is seat.one seat'.one is

pub parts_ok : {k : Key} {n : ℕ} {me mo joined looked' : Seat} {v u : View} {t t' : ℕ} {w w' : Fields} (s : Step Kind) (id : ℕ)
    → IsSeated me v t w → IsSeated mo u t' w' → joined ≡ (me.0 ++ mo.0, me.1)
    → SawBoth s joined n looked' → Splits (Kept k) id looked'.0 (front_of looked'.0) (rest_of looked'.0)
parts_ok {k} {n} {me} {mo} {joined} {looked'} {v} {u} {t} {t'} {w} {w'} s id seat seat' is reported =
    let r = reported (sight_of me) (sight_of mo) (looked_is {me = me} {mo = mo} {joined = joined} seat seat' is) in
    subst (λ (m : Seat). Splits (Kept k) id m.0 (front_of m.0) (rest_of m.0)) (sym r.2) (parts_allow k id r.0 r.1)

-- they found the number of some word
pub pair_number : {n : ℕ} {me mo joined looked' : Seat} {v u : View} {t t' : ℕ} {w w' : Fields} (s : Step Kind) → IsSeated me v t w
    → IsSeated mo u t' w' → joined ≡ (me.0 ++ mo.0, me.1)
    → SawBoth s joined n looked' → (z : Fields) × IsLegal z × (packed z ≡ n)
pair_number {n} {me} {mo} {joined} {looked'} {v} {u} {t} {t'} {w} {w'} s seat seat' is reported =
    let r = reported (sight_of me) (sight_of mo) (looked_is {me = me} {mo = mo} {joined = joined} seat seat' is) in (r.3, r.4, sym r.5)

pub paired : {n : ℕ} {me mo joined looked' : Seat} {v u : View} {t t' : ℕ} {w w' : Fields}
    (s : Step Kind) {me' mo' : Seat} {o : Option Fields}
    → IsSeated me v t w → IsSeated mo u t' w' → joined ≡ (me.0 ++ mo.0, me.1)
    → SawBoth s joined n looked' → me' ≡ (front_of looked'.0, looked'.1) → mo' ≡ (rest_of looked'.0, [])
    → ((z : Fields) → IsLegal z → packed z ≡ n → o ≡ Some z)
    → Pair n me mo me' mo' v u o
paired {n} {me} {mo} {joined} {looked'} {v} {u} {t} {t'} {w} {w'} s {me'} {mo'} {o} seat seat' is reported mine others again =
    let r = reported (sight_of me) (sight_of mo) (looked_is {me = me} {mo = mo} {joined = joined} seat seat' is) in
    let a : me' ≡ (r.0 ∷ [], []) = mine ∙ ap (λ (m : Seat). let z : Seat = (front_of m.0, m.1) in z) r.2 in
    let b : mo' ≡ (r.1 ∷ [], []) = others ∙ ap (λ (m : Seat). let z : Seat = (rest_of m.0, []) in z) r.2 in
    record {
      word = r.3;
      some = again r.3 r.4 (sym r.5);
      first = record { word = r.3; legal = r.4; number = r.5; moved = moved_by Look 0 r.3 0 me me' v t w seat r.0 a r.6 };
      second = record { word = r.3; legal = r.4; number = r.5; moved = moved_by Look 0 r.3 0 mo mo' u t' w' seat' r.1 b r.7 };
      one = refl;
      other = refl;
    }

-- a token is what its seat knows
pub held_whole : {id : TableId} (mo : Seat) (h : Holding) → id ≡ h.tree.id → mo ≡ (sight_held h ∷ [], [])
    → holding id mo h.view h.tier h.word ≡ h
held_whole {id} mo h same is = λ i. record {
  tree = record { id = same i; key = (ap (λ (m : Seat). (sight_of m).key) is) i };
  view = h.view;
  tier = h.tier;
  word = h.word;
  tried = (ap (λ (m : Seat). (sight_of m).tried) is) i;
  steps = (ap (λ (m : Seat). (sight_of m).steps) is) i;
  opened = (ap (λ (m : Seat). (sight_of m).opened) is) i;
}
