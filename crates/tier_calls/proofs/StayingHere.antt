-- A crew at its tier, and a door beside it.
use Rattle.std.proofs.Common.{◌≡◌, ℕ, zero, suc, ◌+◌, ◌<◌, inl, inr, Bool, true, false, eqb, not, ◌&&◌, nat_lt, List, ◌∷◌, refl, sym, ◌∙◌, ap, subst, arith}
use Rattle.std.proofs.lemmas.Bool.{eq-eqb, eqb-true}
use Rattle.phaser_word.specs.Fields.{Fields}
use Rattle.tier_shape.specs.Parents.{parent_of}
use Rattle.tier_steps.specs.Step.{Needs, view_after}
use Rattle.tier_steps.specs.declared.kind.Kind.{Kind}
use Rattle.tier_steps.specs.declared.kind.Kind.TheVariants.{Look, Refresh}
use Rattle.tier_steps.specs.declared.view.View.{View}
use Rattle.tier_steps.specs.declared.view.Errand.TheVariants.{Rest}
use Rattle.tier_core.specs.Turn.{lags}
use Rattle.tier_core.proofs.Turns.{not_both, looked_rests}
use Rattle.tier_rule.specs.Look.{glance, looking}
use Rattle.tier_rule.specs.Tell.{Beside}
use Rattle.tier_calls.specs.Holding.{Named, Holding, Looked, Lost, Won, IsCrew}
use Rattle.tier_calls.specs.Passes.{IsSame}
use Rattle.tier_calls.specs.JoinsHere.{KeepsCrew}
use Rattle.tier_calls.specs.Made.{MadeOnly, is_quiet}
use Rattle.tier_calls.proofs.Making.{made_more, made_none, glance_quiet}
use Rattle.std.specs.Prelude.{MatchBool}
use Rattle.tier_calls.proofs.Passing.{still_glance}
use Rattle.tier_calls.proofs.Settling.{crew_by}

-- a look at its tier leaves a crew as it was
glance_rests : (above t : ℕ) (w : Fields) (v : View) → v.errand ≡ Rest → (view_after above (glance t) t w v).errand ≡ Rest
glance_rests above zero w v e = looked_rests w v e
glance_rests above (suc t) w v e = e

one_quiet : (k : Kind) (old new : List Kind) → is_quiet k ≡ true → new ≡ k ∷ old → MadeOnly is_quiet old new
one_quiet k old new such is = subst (MadeOnly is_quiet old) (sym is) (made_more is_quiet k old old such (made_none is_quiet old))

crew_kept : (h h' : Holding) (t tries above : ℕ) (w : Fields) → IsCrew h → h.view.arrived < h.view.size → h'.tree ≡ h.tree → h'.tier ≡ t
    → t ≡ h.view.tier → h'.tried ≡ h.tried + tries
    → h'.opened ≡ h.opened → h'.view ≡ view_after above (glance t) t w h.view → Beside h.tree.key.shape h'.tier h'.word h'.view
    → h'.steps ≡ glance t ∷ h.steps → KeepsCrew tries h h'
crew_kept h h' t tries above w crew some tree at is tried opened view beside made =
    let s : IsSame h.view h'.view = subst (IsSame h.view) (sym view) (still_glance above t w h.view (λ z. inr some)) in
    record {
      tree = tree;
      crew = s;
      rests =
          crew_by h' (subst (λ (z : Named). Beside z.key.shape h'.tier h'.word h'.view) (sym tree) beside)
          (let a = s.size in let b = crew.some in omega arith)
          (ap (λ (v : View). v.errand) view ∙ glance_rests above t w h.view crew.rests);
      tier = at ∙ is;
      tried = tried;
      opened = opened;
      made = one_quiet (glance t) h.steps h'.steps (glance_quiet t) made;
    }

pub crew_looked : {h h' : Holding} {t : ℕ} → IsCrew h → h.view.arrived < h.view.size → t ≡ h.view.tier → Looked Look t h h'
    → KeepsCrew 0 h h'
crew_looked {h} {h'} {t} crew some is took =
    crew_kept h h' t 0 (parent_of h.tree.key.shape t) h'.word crew some took.tree took.tier is took.tried took.opened took.view took.after
    took.steps

-- a try of a crew at its tier
pub refresh_needs : (ps : List ℕ) {h : Holding} → IsCrew h → h.view.arrived < h.view.size → h.tier ≡ h.view.tier → lags h.word h.view ≡ true
    → Needs ps Refresh h.tier h.word h.view
refresh_needs ps {h} crew some is lagging =
    let w : Fields = h.word in
    let a = both (nat_lt 0 w.parties) (eqb w.unarrived 0 && not (eqb w.phase h.view.phase)) lagging in
    let b = both (eqb w.unarrived 0) (not (eqb w.phase h.view.phase)) a.1 in
    record {
      some = positive w.parties a.0;
      arrived = eqb-true w.unarrived 0 b.0;
      behind = λ e. not_both (eqb w.phase h.view.phase) (eq-eqb w.phase h.view.phase e) (not_true (eqb w.phase h.view.phase) b.1);
      leave = inl (crew.rests, sym is, some);
    }
  where
    both : (x y : Bool) → (x && y) ≡ true → (x ≡ true) × (y ≡ true)
    both true y e = (refl, e)
    both false y e = not_both false e refl

    positive : (n : ℕ) → nat_lt 0 n ≡ true → 0 < n
    positive zero e = not_both false e refl
    positive (suc n) e = omega arith

    not_true : (b : Bool) → not b ≡ true → b ≡ false
    not_true false e = refl
    not_true true e = not_both false e refl

pub look_needs : (ps : List ℕ) (t : ℕ) (w : Fields) (v : View) → Needs ps (glance t) t w v
look_needs ps zero w v = refl
look_needs ps (suc t) w v = omega arith

look_again : (t t' : ℕ) (w : Fields) → looking (glance t) t' w ≡ glance t'
look_again zero t' w = refl
look_again (suc t) t' w = refl

-- a try of a crew that changes no view
tried_on : (b : Bool) (kind : Kind) (h h' : Holding) → is_quiet kind ≡ true → IsCrew h → h.view.arrived < h.view.size → h.tier ≡ h.view.tier
    → IsSame h.view (view_after (parent_of h.tree.key.shape h.tier) kind h.tier h.word h.view)
    × ((view_after (parent_of h.tree.key.shape h.tier) kind h.tier h.word h.view).errand ≡ Rest)
    → ((t : ℕ) (w : Fields) → looking kind t w ≡ glance t) → MatchBool b (Won kind h h') (Lost kind h h') → KeepsCrew 1 h h'
tried_on true kind h h' such crew some is still look won =
    let same : IsSame h.view h'.view = subst (IsSame h.view) (sym won.view) still.0 in
    record {
      tree = won.tree;
      crew = same;
      rests =
          crew_by h' (subst (λ (z : Named). Beside z.key.shape h'.tier h'.word h'.view) (sym won.tree) won.after)
          (let a = same.size in let b = crew.some in omega arith)
          (ap (λ (v : View). v.errand) won.view ∙ still.1);
      tier = won.tier ∙ is;
      tried = won.tried;
      opened = won.opened;
      made = one_quiet kind h.steps h'.steps such won.steps;
    }
tried_on false kind h h' such crew some is still look lost =
    let t = lost.took in
    crew_kept h h' h.tier 1 (parent_of h.tree.key.shape h.tier) h'.word crew some t.tree t.tier is t.tried t.opened
    (t.view ∙ ap (λ (k : Kind). view_after (parent_of h.tree.key.shape h.tier) k h.tier h'.word h.view) (look h.tier h'.word)) t.after
    (t.steps ∙ ap (λ (k : Kind). k ∷ h.steps) (look h.tier h'.word))

pub refresh_kept : (b : Bool) {h h' : Holding} → IsCrew h → h.view.arrived < h.view.size → h.tier ≡ h.view.tier
    → MatchBool b (Won Refresh h h') (Lost Refresh h h') → KeepsCrew 1 h h'
refresh_kept b {h} {h'} crew some is m =
    tried_on b Refresh h h' refl crew some is (record { tier = refl; size = refl; phase = refl; arrived = refl }, crew.rests) (λ t w. refl)
    m

pub stay_kept : (b : Bool) (kind : Kind) {h h' : Holding} → kind ≡ glance h.tier → IsCrew h → h.view.arrived < h.view.size
    → h.tier ≡ h.view.tier → MatchBool b (Won kind h h') (Lost kind h h') → KeepsCrew 1 h h'
stay_kept b kind {h} {h'} is crew some here m =
    tried_on b kind h h' (ap is_quiet is ∙ glance_quiet h.tier) crew some here
    (subst
    (λ (k : Kind). IsSame h.view (view_after (parent_of h.tree.key.shape h.tier) k h.tier h.word h.view)
    × ((view_after (parent_of h.tree.key.shape h.tier) k h.tier h.word h.view).errand ≡ Rest))
    (sym is) (
      still_glance (parent_of h.tree.key.shape h.tier) h.tier h.word h.view (λ z. inr some),
      glance_rests (parent_of h.tree.key.shape h.tier) h.tier h.word h.view crew.rests,
    ))
    (λ t w. subst (λ (k : Kind). looking k t w ≡ glance t) (sym is) (look_again h.tier t w)) m
