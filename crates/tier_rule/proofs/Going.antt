-- Steps of several tokens of one seat at one tier, one after another, keep the rule.
use Rattle.std.proofs.Common.{◌≡◌, ℕ, zero, suc, ◌<◌, ◌≤◌, List, [], ◌∷◌, ◌++◌, length, set, refl, sym, ◌∙◌, ap, subst, arith, length-set, get_or-set_same, append_assoc}
use Rattle.std.proofs.lemmas.List.{set-get_or}
use mathlib.Core.Option.{some}
use lib.ListN.{get_elem?}
use Rattle.atomic_table.proofs.Lists.{set_here, set_again}
use Rattle.phaser_word.specs.Fields.{Fields}
use Rattle.tier_shape.specs.Parents.{parent_of}
use Rattle.tier_steps.specs.declared.view.View.{View}
use Rattle.tier_steps.specs.declared.kind.Kind.{Kind}
use Rattle.tier_steps.specs.Tally.{blank, word_at, Tallies}
use Rattle.tier_steps.specs.Step.{Needs, word_after, view_after}
use Rattle.tier_steps.specs.Laws.{words_after}
use Rattle.tier_rule.specs.declared.sight.Key.{Key}
use Rattle.tier_rule.specs.declared.sight.Sight.{Sight}
use Rattle.tier_rule.specs.Look.{glance}
use Rattle.tier_rule.specs.Reach.{those, PlanSays, IsTried, Reached, steps}
use Rattle.tier_rule.specs.Group.{stepped_sight, Goes, stays, moves, passes, follows, AreOf, Among, looked_all}
use Rattle.tier_rule.proofs.Seats.{beside, at_inside}
use Rattle.tier_rule.proofs.Reaching.{shaped, reached_states_tally}

set_set : {A : Type 0} (l : List A) (i : ℕ) (a b : A) → set (set l i a) i b ≡ set l i b
set_set [] i a b = refl
set_set (x ∷ xs) zero a b = refl
set_set {A} (x ∷ xs) (suc i) a b = ap (λ (ys : List A). x ∷ ys) (set_set xs i a b)

word_again : (ws : List Fields) (t : ℕ) (w : Fields) → word_at ws t ≡ w → set ws t w ≡ ws
word_again ws t w here = ap (set ws t) (sym here) ∙ set-get_or ws t blank

-- two writes of a word and of a seat are one
written_twice : (k : Key) (ws : List Fields) (vs : List (List Sight)) (id t : ℕ) (a u : Fields) (l m : List Sight)
    → Reached k (set (set ws t a) t u) (set (set vs id l) id m) → Reached k (set ws t u) (set vs id m)
written_twice k ws vs id t a u l m r =
    subst (λ (us : List Fields). Reached k us (set vs id m)) (set_set ws t a u)
    (subst (λ (ns : List (List Sight)). Reached k (set (set ws t a) t u) ns) (set_set vs id l m) r)

pub still_inside : (ws : List Fields) (t : ℕ) (a : Fields) → t < length ws → t < length (set ws t a)
still_inside ws t a h = subst (λ (n : ℕ). t < n) (sym (length-set ws t a)) h

one_step : (k : Key) (ws : List Fields) (vs : List (List Sight)) (id t tries : ℕ) (f b : List Sight) (x : Sight) (kind : Kind) (w : Fields)
    → Reached k ws vs → get_elem? vs id ≡ some (f ++ x ∷ b) → t < length ws → word_at ws t ≡ w
    → Needs k.shape kind t w x.view → PlanSays k kind w → x.key ≡ k → IsTried kind t w tries x
    → Reached k (set ws t (word_after kind t w x.view)) (set vs id (f ++ stepped_sight kind t w tries x ∷ b))
one_step k ws vs id t tries f b x kind w r at inside here needs says own few =
    let y : Sight = stepped_sight kind t w tries x in
    let q : Reached k (words_after ws kind t x.view) (set vs id (f ++ y ∷ b)) =
    steps ws vs id t tries f b x y kind r at inside
    (subst (λ (z : Fields). Needs k.shape kind t z x.view) (sym here) needs)
    (subst (λ (z : Fields). PlanSays k kind z) (sym here) says)
    own
    (record {
      key = refl;
      view = ap (λ (z : Fields). view_after (parent_of x.key.shape t) kind t z x.view) (sym here);
      tier = refl;
      word = ap (λ (z : Fields). word_after kind t z x.view) (sym here);
      tried = refl;
      steps = refl;
      opened = refl;
    })
    (subst (λ (z : Fields). IsTried kind t z tries x) (sym here) few) in
    subst (λ (us : List Fields). Reached k us (set vs id (f ++ y ∷ b))) (ap (λ (z : Fields). set ws t (word_after kind t z x.view)) here) q

-- the tokens behind those in `f` take their steps
pub goes_on : (k : Key) (t : ℕ) (w u : Fields) (l m : List Sight) → Goes k t w l u m
    → (f : List Sight) (ws : List Fields) (vs : List (List Sight)) (id : ℕ)
    → Reached k ws vs → get_elem? vs id ≡ some (f ++ l) → t < length ws → word_at ws t ≡ w → Reached k (set ws t u) (set vs id (f ++ m))
goes_on k t w u l m (stays w' l') f ws vs id r at inside here =
    subst (λ (us : List Fields). Reached k us (set vs id (f ++ l'))) (sym (word_again ws t w' here))
    (subst (λ (ns : List (List Sight)). Reached k ws ns) (sym (set_again vs id (f ++ l') at)) r)
goes_on k t w u l m (moves w' u' x b m' kind tries needs says own few rest) f ws vs id r at inside here =
    let y : Sight = stepped_sight kind t w' tries x in
    let a : Fields = word_after kind t w' x.view in
    let q = one_step k ws vs id t tries f b x kind w' r at inside here needs says own few in
    written_twice k ws vs id t a u' (f ++ y ∷ b) (f ++ m')
    (goes_on k t a u' (y ∷ b) m' rest f (set ws t a) (set vs id (f ++ y ∷ b)) id q
    (set_here vs id (f ++ y ∷ b) (at_inside vs id (f ++ x ∷ b) at)) (still_inside ws t a inside) (get_or-set_same ws t a blank inside))
goes_on k t w u l m (passes w' u' x b m' rest) f ws vs id r at inside here =
    subst (λ (n : List Sight). Reached k (set ws t u') (set vs id n)) (append_assoc f (x ∷ []) m')
    (goes_on k t w' u' b m' rest (f ++ x ∷ []) ws vs id r (at ∙ ap some (sym (append_assoc f (x ∷ []) b))) inside here)
goes_on k t w u l m (follows w' u' z l' m' n g h) f ws vs id r at inside here =
    let q = goes_on k t w' u' l' m' g f ws vs id r at inside here in
    written_twice k ws vs id t u' z (f ++ m') (f ++ n)
    (goes_on k t u' z m' n h f (set ws t u') (set vs id (f ++ m')) id q
    (set_here vs id (f ++ m') (at_inside vs id (f ++ l') at)) (still_inside ws t u' inside) (get_or-set_same ws t u' blank inside))

pub glance_stays : (t : ℕ) (w : Fields) (v : View) → word_after (glance t) t w v ≡ w
glance_stays zero w v = refl
glance_stays (suc t) w v = refl

glance_needs : (ps : List ℕ) (t : ℕ) (w : Fields) (v : View) → Needs ps (glance t) t w v
glance_needs ps zero w v = refl
glance_needs ps (suc t) w v = omega arith

glance_says : (k : Key) (t : ℕ) (w : Fields) → PlanSays k (glance t) w
glance_says k zero w = tt
glance_says k (suc t) w = tt

-- a look of all is such a run
pub looks_go : (k : Key) (t : ℕ) (w : Fields) (tries : ℕ) → tries ≤ 1 → (l : List Sight) → AreOf k l
    → Goes k t w l w (looked_all t w tries l)
looks_go k t w tries few [] own = stays w []
looks_go k t w tries few (x ∷ xs) own =
    let y : Sight = stepped_sight (glance t) t w tries x in
    moves w w x xs (looked_all t w tries (x ∷ xs)) (glance t) tries (glance_needs k.shape t w x.view) (glance_says k t w) own.0
    (record { few = few; changes = λ c j. absurd (c (glance_stays t w x.view)) })
    (subst (λ (z : Fields). Goes k t z (y ∷ xs) w (y ∷ looked_all t w tries xs)) (sym (glance_stays t w x.view))
    (passes w w y xs (looked_all t w tries xs) (looks_go k t w tries few xs own.1)))

-- the views of a seat in a state that is reached
pub among : (k : Key) (ws : List Fields) (vs : List (List Sight)) (id t : ℕ) (l : List Sight) (w : Fields) → Reached k ws vs
    → get_elem? vs id ≡ some l → t < length ws → word_at ws t ≡ w → Among k.shape t w (those l)
among k ws vs id t l w r at inside here = let a = beside vs id l at in record {
  words = ws;
  front = a.front;
  back = a.back;
  shape = shaped k ws vs r;
  within = inside;
  word = here;
  tally = subst (λ (us : List View). Tallies k.shape ws us) a.is (reached_states_tally k ws vs r);
}
