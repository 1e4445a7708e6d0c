-- What a poll answers.
use Rattle.std.proofs.Common.{◌∷◌, ◌≡◌, ◌≢◌, ℕ, zero, suc, ◌<◌, ◌≤◌, ◌+◌, ⊎_elim, inl, Bool, true, false, ltb, eqb, not, ◌&&◌, List, length, refl, sym, ◌∙◌, ap, subst, arith}
use Rattle.std.specs.Prelude.{MatchBool}
use Rattle.std.proofs.lemmas.Bool.{ltb-true, eqb-true, eq-eqb}
use Rattle.flat_phaser.proofs.Everyone.{both_true}
use Rattle.phaser_word.specs.Fields.{Fields}
use Rattle.tier_shape.specs.Parents.{parent_of}
use Rattle.tier_steps.specs.declared.kind.Kind.{Kind}
use Rattle.tier_steps.specs.declared.view.Errand.TheVariants.{Rest}
use Rattle.tier_steps.specs.Step.{Needs, view_after, looked}
use Rattle.tier_core.specs.Turn.{lags}
use Rattle.tier_core.proofs.Turns.{not_both}
use Rattle.tier_rule.specs.Look.{glance}
use Rattle.tier_steps.specs.declared.view.View.{View}
use Rattle.tier_steps.specs.declared.kind.Kind.TheVariants.{Look, Refresh}
use Rattle.tier_steps.specs.Word.{next_phase_of}
use Rattle.tier_steps.proofs.KindLaw.{mine}
use Rattle.tier_rule.specs.Tell.{Beside}
use Rattle.tier_calls.specs.Holding.{Named, Holding, sight_held, Looked, Took, Won, Lost, IsCrew, shape_of}
use Rattle.tier_calls.specs.Arrives.{IsLooked, IsSoon}
use Rattle.tier_calls.specs.Polls.{Polls, HasCaughtUp}
use Rattle.tier_calls.specs.Waited.{SawAdvance, SawEnd, WaitedFor}
use Rattle.tier_rule.proofs.Ends.{each_end_has_a_cause}
use Rattle.tier_rule.proofs.Waited.{looked_where, each_token_is_waited_for, between_is_next}
use Rattle.tier_calls.proofs.Greeting.{known_by, waits_here}
use Rattle.tier_calls.specs.declared.polling.Polled.TheVariants.{Passed, Waiting, Here}
use Rattle.tier_calls.specs.Passes.{IsFresh}
use Rattle.tier_calls.proofs.Settling.{first, first_fresh, first_made}
use Rattle.tier_calls.specs.Made.{MadeOnly, HasLooked, is_quiet}
use Rattle.tier_calls.proofs.Making.{made_none, made_more, made_then, glance_quiet}

-- the tier of a token's members is one of the shape
pub seat_within : {n : Named} {h : Holding} → h.tree ≡ n → IsCrew h → Beside h.tree.key.shape h.tier h.word h.view
    → h.view.tier < length n.key.shape
seat_within {n} {h} is crew b =
    subst (λ (z : Named). h.view.tier < length z.key.shape) is
    ((mine h.tree.key.shape b.words b.front b.back h.view b.tally).placed crew.some)

module _ (h h' new : Holding) (crew : IsCrew h) (took : Looked Look 0 h h') (going : h'.word.ended ≡ false)
    (some : h'.view.arrived ≢ h'.view.size)
    (tree : new.tree ≡ h'.tree) (same : new.view ≡ h'.view) (few : new.tried ≤ h'.tried + 1) (kept : new.opened ≡ h'.opened)
    (more : MadeOnly is_quiet h'.steps new.steps) where
  soon : IsSoon 1 h new
  soon = record { tree = tree ∙ took.tree; tried = (let a = took.tried in omega arith); opened = kept ∙ took.opened }

  looked_so : IsLooked h.view new.view
  looked_so = subst (λ (v : View). IsLooked h.view v) (sym same) (first h h' crew took).looked

  made : HasLooked h.steps new.steps
  made = made_then is_quiet (first_made took) more

  fresh : IsFresh new.view
  fresh = subst IsFresh (sym same) (first_fresh took going)

  pub polls_here : (phase : ℕ) → phase ≡ h'.view.phase → h'.view.phase ≡ h.view.phase → Polls h new (Here phase)
  polls_here phase is stays =
      let b = took.after in
      let fits = (mine h.tree.key.shape b.words b.front b.back h'.view b.tally).within in (
        soon,
        looked_so,
        fresh,
        subst (λ (v : View). v.arrived < v.size) (sym same) (omega arith),
        is ∙ ap (λ (v : View). v.phase) (sym same),
        made,
        ap (λ (v : View). v.phase) same ∙ stays,
      )

  pub polls_passed : (phase : ℕ) → phase ≡ h'.view.phase → h'.view.phase ≢ h.view.phase → Polls h new (Passed phase)
  polls_passed phase is other =
      let l = (first h h' crew took).looked in (
        soon,
        looked_so,
        fresh,
        ⊎_elim
            (λ (z : (h'.view.phase ≡ h.view.phase) × (h'.view.arrived ≡ h.view.arrived)). absurd (other z.0))
            (λ (z : (h.view.arrived ≡ h.view.size) × (h'.view.phase ≡ next_phase_of h.view.phase) × (h'.view.arrived ≡ 0)). record {
              all = z.0;
              next = ap (λ (v : View). v.phase) same ∙ z.1;
              nobody = ap (λ (v : View). v.arrived) same ∙ z.2;
            }) l.phase,
        is ∙ ap (λ (v : View). v.phase) (sym same),
        made,
      )

-- if the look has brought the token into another phase, all had arrived in the one before
pub polls_waited : (h h' new : Holding) → Looked Look 0 h h' → h'.word.ended ≡ false → new.view ≡ h'.view → (phase : ℕ)
    → phase ≡ h'.view.phase → h'.view.phase ≢ h.view.phase → SawAdvance h new phase
polls_waited h h' new took going same phase is other =
    let view : h'.view.phase ≡ (looked h'.word h.view).phase = ap (λ (v : View). v.phase) took.view in
    record {
      root = h'.word;
      going = going;
      now =
          ⊎_elim (λ (e : (looked h'.word h.view).phase ≡ h.view.phase). absurd (other (view ∙ e)))
          (λ (e : (looked h'.word h.view).phase ≡ h'.word.phase). sym (is ∙ (view ∙ e)))
          (looked_where h'.word h.view);
      saw = same ∙ took.view;
      found = took.found;
      waited = each_token_is_waited_for h.tree.key h.view.phase phase (λ e. other (sym is ∙ e));
    }

pub polls_end : (h h' : Holding) → Looked Look 0 h h' → h'.word.ended ≡ true → SawEnd h h'
polls_end h h' took over = record {
  root = h'.word;
  ended = over;
  saw = took.view;
  found = took.found;
  waited = λ other. each_token_is_waited_for h.tree.key h.view.phase h'.word.phase other;
  cause = each_end_has_a_cause h.tree.key;
}

-- What a token says that saw an advance tells by itself which phase it was: no other answer meets it.
pub saw_next : (old new : Holding) (phase : ℕ) → 0 < old.view.size → SawAdvance old new phase → phase ≡ next_phase_of old.view.phase
saw_next old new phase members saw =
    between_is_next old.tree.key old.view.phase phase saw.root (sight_held old) saw.waited saw.found saw.now members refl

-- A look at a tier below the root leaves the view, and so does a refresh there, whether it is taken or lost.
below_same : (above t : ℕ) (w : Fields) (v : View) → t ≢ 0 → view_after above (glance t) t w v ≡ v
below_same above zero w v off = absurd (off refl)
below_same above (suc t) w v off = refl

pub glanced_view : {h h' : Holding} {t : ℕ} → t ≢ 0 → Looked Look t h h' → h'.view ≡ h.view
glanced_view {h} {h'} {t} off took = took.view ∙ below_same (parent_of (shape_of h) t) t h'.word h.view off

pub refreshed_view : (b : Bool) (h h' : Holding) → h.tier ≢ 0 → MatchBool b (Won Refresh h h') (Lost Refresh h h') → h'.view ≡ h.view
refreshed_view true h h' off won = won.view
refreshed_view false h h' off lost = lost.took.view ∙ below_same (parent_of (shape_of h) h.tier) h.tier h'.word h.view off

pub lags_parts : (w : Fields) (v : View) → lags w v ≡ true → (0 < w.parties) × (w.unarrived ≡ 0) × (w.phase ≢ v.phase)
lags_parts w v e =
    let a = both_true (ltb 0 w.parties) (eqb w.unarrived 0 && not (eqb w.phase v.phase)) e in
    let b = both_true (eqb w.unarrived 0) (not (eqb w.phase v.phase)) a.1 in (
      ltb-true 0 w.parties a.0,
      eqb-true w.unarrived 0 b.0,
      λ same. not_both (not (eqb w.phase v.phase)) b.1 (ap not (eq-eqb w.phase v.phase same)),
    )

-- if the members' tier lags, it may be refreshed
pub may_refresh : (ps : List ℕ) (h h' : Holding) {u : View} {x : Fields} → h'.tier ≡ u.tier → h'.view ≡ h.view → u ≡ h.view → x ≡ h'.word
    → h.view.errand ≡ Rest → h.view.arrived < h.view.size
    → lags x u ≡ true → Needs ps Refresh h'.tier h'.word h'.view
may_refresh ps h h' {u} {x} at same is read rests some behind =
    let p =
    lags_parts h'.word h'.view (ap (λ (w : Fields). lags w h'.view) (sym read) ∙ (ap (λ (v : View). lags x v) (same ∙ sym is) ∙ behind)) in
    record {
      some = p.0;
      arrived = p.1;
      behind = p.2;
      leave =
          inl (
            ap (λ (v : View). v.errand) same ∙ rests,
            ap (λ (v : View). v.tier) (same ∙ sym is) ∙ sym at,
            subst (λ (v : View). v.arrived < v.size) (sym same) some,
          );
    }

pub left_some : {h h' : Holding} {t : ℕ} {kind : Kind} {w : Fields} {tries : ℕ} → Took kind t w tries h h' → h'.view.arrived ≢ h'.view.size
    → h'.view.arrived < h'.view.size
left_some {h} {h'} took some =
    let b = took.after in
    let fits = (mine h.tree.key.shape b.words b.front b.back h'.view b.tally).within in
    omega arith

pub polls_waiting : (h h' : Holding) → IsCrew h → Looked Look 0 h h' → h'.word.ended ≡ false → h'.view.arrived ≡ h'.view.size
    → Polls h h' Waiting
polls_waiting h h' crew took going all = (
  record { tree = took.tree; tried = (let a = took.tried in omega arith); opened = took.opened },
  (first h h' crew took).looked,
  first_fresh took going,
  all,
  first_made took,
)

-- what is made of a look, or a refresh, at the members' tier
glance_made : (t : ℕ) (old new : List Kind) → new ≡ glance t ∷ old → MadeOnly is_quiet old new
glance_made t old new is =
    subst (MadeOnly is_quiet old) (sym is) (made_more is_quiet (glance t) old old (glance_quiet t) (made_none is_quiet old))

pub look_made_one : {h h' : Holding} {t : ℕ} → Looked Look t h h' → MadeOnly is_quiet h.steps h'.steps
look_made_one {h} {h'} {t} took = glance_made t h.steps h'.steps took.steps

pub refresh_opened : (b : Bool) {t : ℕ} {old h' : Holding} (new : Holding) → Looked Look t old h'
    → MatchBool b (Won Refresh h' new) (Lost Refresh h' new) → new.opened ≡ old.opened
refresh_opened true new took won = won.opened ∙ took.opened
refresh_opened false new took lost = lost.took.opened ∙ took.opened

pub refresh_made : (b : Bool) {h h' : Holding} (h'' : Holding) {t : ℕ} → Looked Look t h h'
    → MatchBool b (Won Refresh h' h'') (Lost Refresh h' h'') → MadeOnly is_quiet h.steps h''.steps
refresh_made true {h} {h'} h'' {t} took won =
    made_then is_quiet (look_made_one took)
    (subst (MadeOnly is_quiet h'.steps) (sym won.steps) (made_more is_quiet Refresh h'.steps h'.steps refl (made_none is_quiet h'.steps)))
refresh_made false {h} {h'} h'' {t} took lost =
    made_then is_quiet (look_made_one took) (glance_made h'.tier h'.steps h''.steps lost.took.steps)

-- a tier at which a member is to arrive, and that doesn't lag, is in that member's phase
pub in_phase : {ps : List ℕ} {t : ℕ} {w : Fields} {v : View} → Beside ps t w v → v.errand ≡ Rest → v.tier ≡ t → v.arrived < v.size
    → w.ended ≡ false → lags w v ≡ false → w.phase ≡ v.phase
in_phase {ps} {t} {w} {v} b rests here some going still =
    let k = known_by ps t w v b in
    let waits = waits_here b rests here some still going in
    let current : v.phase ≡ k.root =
    ⊎_elim (λ (e : v.phase ≡ k.root). e)
    (λ (e : (next_phase_of v.phase ≡ k.root) × (v.arrived ≡ v.size)). absurd (let a = e.1 in omega arith)) (k.fits.current (omega arith)) in
    ⊎_elim (λ (e : w.phase ≡ k.root). e ∙ sym current)
    (λ (e : (next_phase_of w.phase ≡ k.root) × (w.unarrived ≡ 0)). absurd (let a = e.1 in let c = waits.1 in omega arith))
    (k.keeps_up waits.0)

-- the root is in the phase of a member that is to arrive
pub root_in_phase : {ps : List ℕ} {w : Fields} {v : View} → Beside ps 0 w v → v.arrived < v.size → w.phase ≡ v.phase
root_in_phase {ps} {w} {v} b some =
    let k = known_by ps 0 w v b in
    let current : v.phase ≡ k.root =
    ⊎_elim (λ (e : v.phase ≡ k.root). e)
    (λ (e : (next_phase_of v.phase ≡ k.root) × (v.arrived ≡ v.size)). absurd (let a = e.1 in omega arith)) (k.fits.current (omega arith)) in
    (k.at_root refl).0 ∙ sym current

pub caught_up_at_root : {h : Holding} → Beside h.tree.key.shape h.tier h.word h.view → h.view.arrived < h.view.size → h.tier ≡ 0
    → h.view.tier ≡ 0 → HasCaughtUp h
caught_up_at_root {h} b some root own =
    (root ∙ sym own, inl (root_in_phase (subst (λ (t : ℕ). Beside h.tree.key.shape t h.word h.view) root b) some))

-- after a look at the members' tier, below the root, which didn't lag
pub caught_up_by_look : {h h' : Holding} {t : ℕ} → h.view.tier ≡ t → t ≢ 0 → h.view.errand ≡ Rest → h.view.arrived < h.view.size
    → Looked Look t h h' → lags h'.word h'.view ≡ false → HasCaughtUp h'
caught_up_by_look {h} {h'} {t} here below rests some took still =
    let same = glanced_view below took in
    let b = subst (λ (n : ℕ). Beside h.tree.key.shape n h'.word h'.view) took.tier took.after in
    let going = (known_by h.tree.key.shape t h'.word h'.view b).below (omega arith) in
    let at : h'.view.tier ≡ t = ap (λ (v : View). v.tier) same ∙ here in (
      took.tier ∙ sym at,
      inl (in_phase b (ap (λ (v : View). v.errand) same ∙ rests) at (subst (λ (v : View). v.arrived < v.size) (sym same) some) going still),
    )

pub waited_for : (n : Named) (left now : ℕ) → now ≢ left → WaitedFor n left now
waited_for n left now differs = each_token_is_waited_for n.key left now differs
