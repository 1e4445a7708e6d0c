-- Looks and tries of a call that goes on.
use Rattle.std.proofs.Common.{◌≡◌, ℕ, zero, suc, ◌+◌, ◌<◌, ◌≤◌, ◌⊎◌, inl, inr, ⊎_elim, Bool, true, false, cond, List, ◌∷◌, ◌++◌, length, refl, sym, ◌∙◌, ap, subst, arith}
use Rattle.flat_phaser.proofs.Everyone.{either}
use Rattle.phaser_word.specs.Fields.{Fields}
use Rattle.tier_shape.specs.Parents.{parent_of}
use Rattle.tier_steps.specs.View.{ancestor}
use Rattle.tier_steps.specs.Tally.{word_at}
use Rattle.tier_steps.specs.Step.{Needs, added, view_after}
use Rattle.tier_steps.specs.declared.kind.Kind.{Kind}
use Rattle.tier_steps.specs.declared.kind.Kind.TheVariants.{Look, Glance, Join, Advance, Climb, Refresh}
use Rattle.tier_steps.specs.declared.view.View.{View}
use Rattle.tier_steps.specs.declared.view.Errand.{Errand}
use Rattle.tier_steps.specs.declared.view.Passage.{Passage}
use Rattle.tier_steps.specs.declared.view.Passage.TheVariants.{Arrival, Departure}
use Rattle.tier_core.specs.declared.call.Played.{Played}
use Rattle.tier_core.specs.declared.call.Played.TheVariants.{GoesOn, Done}
use Rattle.tier_core.specs.declared.call.Progress.{Progress}
use Rattle.tier_core.specs.declared.call.Progress.TheVariants.{Idle, Begun, Seeking as ToSeek, Settling, GivingBack as ToGiveBack, Passing, Owing, Due, Refreshing}
use Rattle.tier_core.specs.declared.call.Turn.{Turn}
use Rattle.tier_core.specs.Turn.{seek_turn, settle_turn, give_back_turn, pass_turn, climb_turn, own_kind, end_shown, claimed_by, lags, is_refusing, is_claimable, giving_back, place, turn_by}
use Rattle.std.specs.Prelude.{◌==◌}
use Rattle.advance_rule.specs.Plan.{end_ends}
use Rattle.tier_core.specs.Machine.{CallFits, is_due, is_going}
use Rattle.tier_core.proofs.Turns.{by_test, not_both}
use Rattle.tier_rule.specs.declared.sight.Key.{Key}
use Rattle.tier_rule.specs.Look.{glance, looking}
use Rattle.tier_rule.specs.Reach.{PlanSays}
use Rattle.tier_rule.specs.Run.{IsReached}
use Rattle.tier_rule.specs.Tell.{Beside}
use Rattle.tier_calls.specs.Holding.{Named, Holding, sight_held, Took, Won, Lost}
use Rattle.tier_calls.specs.Calls.{IsAt}
use Rattle.tier_calls.specs.declared.going.Going.{Going}
use Rattle.tier_calls.specs.Next.{meant, is_look}
use Rattle.tier_calls.specs.Goes.{WasFound, position, Goes, steps, looks, after_look, Stands, is_back, WentOn, LooksOn, EndsAsPlanned, Ran, After}
use Rattle.tier_calls.proofs.Turning.{ended_root, by_cond, SeekIs, PassIs, ends, refused, claims, joins, over, behind, passes, seek_is, pass_is, NextBy, next_by, LookIs, look_is}

-- after a look that is its next step a call is over, or gives a path back
abbrev EndsOrBacks : Turn → Type 0
EndsOrBacks r = is_look r.kind ≡ true → (r.next ≡ Idle) ⊎ (is_back r.next ≡ true)

backs : (claimed : ℕ) (answer : Played) → (giving_back claimed answer ≡ Idle) ⊎ (is_back (giving_back claimed answer) ≡ true)
backs zero answer = inl refl
backs (suc claimed) answer = inr refl

seek_ends : (tier claimed size t : ℕ) (w : Fields) (v : View) → EndsOrBacks (seek_turn tier claimed size t w v)
seek_ends tier claimed size t w v =
    by_cond EndsOrBacks w.ended _ _ (λ e l. backs claimed _)
    (λ e. by_cond EndsOrBacks (is_refusing (added claimed size) w) _ _ (λ f l. backs claimed _)
    (λ f. by_cond EndsOrBacks (is_claimable t w) _ _ (λ g l. not_both false l refl) (λ g l. not_both false l refl)))

pass_ends : (ps : List ℕ) (own : Passage) (t : ℕ) (passage : Passage) (kind : Kind) (here : Progress) (answer : Played) (w : Fields)
    (v : View)
    → is_look kind ≡ false
    → EndsOrBacks (pass_turn ps own t passage kind here answer w v)
pass_ends ps own t passage kind here answer w v quiet =
    by_cond EndsOrBacks w.ended _ _ (λ e l. inl refl)
    (λ e. by_cond EndsOrBacks (lags w v) _ _ (λ f l. not_both false l refl) (λ f l. not_both (is_look kind) l quiet))

pub quiet_own : (passage : Passage) → is_look (own_kind passage) ≡ false
quiet_own Arrival = refl
quiet_own Departure = refl

look_ends : (ps : List ℕ) (w : Fields) (p : Progress) (v : View) → CallFits ps p v → is_going p ≡ true
    → EndsOrBacks (turn_by ps false w p v)
look_ends ps w Idle v fits g l = inl refl
look_ends ps w (Begun c) v fits g l = inl refl
look_ends ps w (ToSeek tier size) v fits g l = seek_ends tier (claimed_by v.errand) size (ancestor ps tier (claimed_by v.errand)) w v l
look_ends ps w Settling v fits g l =
    not_both (is_look (settle_turn ps v v.errand).kind) l
    (subst (λ (e : Errand). is_look (settle_turn ps v e).kind ≡ false) (sym fits.3) refl)
look_ends ps w (ToGiveBack answer) v fits g l =
    not_both (is_look (give_back_turn ps answer v.errand).kind) l
    (subst (λ (e : Errand). is_look (give_back_turn ps answer e).kind ≡ false) (sym fits.3) refl)
look_ends ps w (Passing passage) v fits g l =
    pass_ends ps passage v.tier passage (own_kind passage) (Passing passage) (end_shown w) w v (quiet_own passage) l
look_ends ps w (Owing own) v fits g l =
    subst (λ (e : Errand). EndsOrBacks (climb_turn ps own w v e)) (sym fits.2)
    (pass_ends ps own fits.0 fits.1 (Climb fits.1) (Owing own) (Done v.phase) w v refl) l
look_ends ps w (Due own) v fits g l = inl refl
look_ends ps w (Refreshing passed_on) v fits g l = inl refl

back_quiet : (ps : List ℕ) (w : Fields) (p : Progress) (v : View) → CallFits ps p v → is_back p ≡ true
    → is_look (turn_by ps false w p v).kind ≡ false
back_quiet ps w Idle v fits b = not_both false b refl
back_quiet ps w (Begun c) v fits b = not_both false b refl
back_quiet ps w (ToSeek tier size) v fits b = not_both false b refl
back_quiet ps w Settling v fits b = not_both false b refl
back_quiet ps w (ToGiveBack answer) v fits b = subst (λ (e : Errand). is_look (give_back_turn ps answer e).kind ≡ false) (sym fits.3) refl
back_quiet ps w (Passing passage) v fits b = not_both false b refl
back_quiet ps w (Owing own) v fits b = not_both false b refl
back_quiet ps w (Due own) v fits b = not_both false b refl
back_quiet ps w (Refreshing passed_on) v fits b = not_both false b refl

-- the tier of the next step is one of the shape
pub place_within : (ps : List ℕ) (t : ℕ) (w : Fields) (v : View) (p : Progress) → Beside ps t w v → CallFits ps p v → is_going p ≡ true
    → place ps p v < length ps
place_within ps t w v p b fits going =
    let x = (next_by ps b.words b.front b.back p v (word_at b.words (place ps p v)) false b.shape b.tally fits going refl).within in
    let long = b.tally.long in omega arith

-- a look at the tier of the next step
module _ (n : Named) (tries : ℕ) (g g' : Going) (h : Holding) (at : IsAt n g) (going : is_going g.progress ≡ true)
    (took : Took (looking (meant g.progress g.token.view) (place n.key.shape g.progress g.token.view) h.word) (place n.key.shape g.progress g.token.view) h.word tries g.token h)
    (is : g'.token ≡ h) (then_ : After n.key.shape g.progress g.token.view g') where
  abbrev ps : List ℕ
  ps = n.key.shape

  abbrev t : ℕ
  t = place n.key.shape g.progress g.token.view

  abbrev r : Turn
  r = turn_by n.key.shape false h.word g.progress g.token.view

  abbrev kind : Kind
  kind = looking (meant g.progress g.token.view) (place n.key.shape g.progress g.token.view) h.word

  abbrev u : View
  u =
      view_after (parent_of n.key.shape (place n.key.shape g.progress g.token.view))
      (looking (meant g.progress g.token.view) (place n.key.shape g.progress g.token.view) h.word)
      (place n.key.shape g.progress g.token.view) h.word g.token.view

  before : Beside ps t h.word g.token.view
  before = subst (λ (z : Named). Beside z.key.shape t h.word g.token.view) at.own took.before

  root : h.word.ended ≡ true → t ≡ 0
  root e = let b = before in ended_root ps b.words (b.front ++ g.token.view ∷ b.back) t b.tally (ap (λ (z : Fields). z.ended) b.word ∙ e)

  view : g'.token.view ≡ u
  view =
      ap (λ (z : Holding). z.view) is
      ∙ (took.view ∙ ap (λ (z : Named). view_after (parent_of z.key.shape t) kind t h.word g.token.view) at.own)

  look : LookIs ps h.word g.progress g.token.view u kind r
  look = look_is ps h.word g.token.view (parent_of ps t) g.progress at.fits going root

  next : NextBy ps before.words g.progress g.token.view h.word r
  next = let b = before in next_by ps b.words b.front b.back g.progress g.token.view h.word false b.shape b.tally at.fits going b.word

  steps_grown : g'.token.steps ≡ kind ∷ g.token.steps
  steps_grown = ap (λ (z : Holding). z.steps) is ∙ took.steps

  word : g'.token.word ≡ h.word
  word = ap (λ (z : Holding). z.word) is

  reported : (g'.progress ≡ cond (is_look r.kind) r.next g.progress) × (g'.answer ≡ cond (is_look r.kind) r.answer GoesOn)
  reported = subst (λ (z : Fields).
      (g'.progress
      ≡ cond (is_look (turn_by ps false z g.progress g.token.view).kind) (turn_by ps false z g.progress g.token.view).next g.progress)
      × (g'.answer
      ≡ cond (is_look (turn_by ps false z g.progress g.token.view).kind) (turn_by ps false z g.progress g.token.view).answer GoesOn))
      word then_

  same_progress : is_look r.kind ≡ false → g'.progress ≡ g.progress
  same_progress e = reported.0 ∙ ap (λ (b : Bool). cond b r.next g.progress) e

  stands : is_look r.kind ≡ false → Stands n.key g'
  stands e = let a = same_progress e in record {
    going = ap is_going a ∙ going;
    tier =
        ap (λ (z : Holding). z.tier) is
        ∙ (took.tier ∙ (sym (look.there e) ∙ (ap (λ (z : Progress). place ps z u) (sym a) ∙ ap (place ps g'.progress) (sym view))));
    tries = ap (λ (z : Progress × View). is_look (turn_by ps false g'.token.word z.0 z.1).kind) (λ i. (a i, view i))
        ∙ (ap (λ (z : Fields). is_look (turn_by ps false z g.progress u).kind) word ∙ look.tries e);
  }

  here : (b : Bool) → is_look r.kind ≡ b
      → (g'.progress ≡ cond b r.next g.progress) × (g'.answer ≡ cond b r.answer GoesOn)
      × CallFits ps g'.progress g'.token.view
      × ((g'.progress ≡ Idle) ⊎ (Stands n.key g' ⊎ (is_back g'.progress ≡ true)))
  here true e =
      let a : g'.progress ≡ r.next = reported.0 ∙ ap (λ (b : Bool). cond b r.next g.progress) e in (
        a,
        reported.1 ∙ ap (λ (b : Bool). cond b r.answer GoesOn) e,
        subst (λ (z : View). CallFits ps g'.progress z)
            (sym (view ∙ ap (λ (z : Kind). view_after (parent_of ps t) z t h.word g.token.view) (look.turn e)))
            (subst (λ (z : Progress). CallFits ps z (view_after (parent_of ps t) r.kind t h.word g.token.view)) (sym a) next.keeps),
        ⊎_elim (λ (z : r.next ≡ Idle). inl (a ∙ z)) (λ (z : is_back r.next ≡ true). inr (inr (ap is_back a ∙ z)))
            (look_ends ps h.word g.progress g.token.view at.fits going e),
      )
  here false e =
      let a : g'.progress ≡ g.progress = reported.0 ∙ ap (λ (b : Bool). cond b r.next g.progress) e in (
        a,
        reported.1 ∙ ap (λ (b : Bool). cond b r.answer GoesOn) e,
        subst (λ (z : View). CallFits ps g'.progress z) (sym view) (subst (λ (z : Progress). CallFits ps z u) (sym a) (look.fits e)),
        inr (inl (stands e)),
      )

  went : (b : Bool) → is_look r.kind ≡ b → position g' ≡ after_look ps h.word (position g)
  went true e = let x = here true e in
      (λ i. record { progress = x.0 i; view = view i; answer = x.1 i; steps = steps_grown i })
      ∙ sym
      (ap
      (λ (b : Bool). cond b (record { progress = r.next; view = u; answer = r.answer; steps = kind ∷ g.token.steps })
      (record { progress = g.progress; view = u; answer = GoesOn; steps = kind ∷ g.token.steps }))
      e)
  went false e = let x = here false e in
      (λ i. record { progress = x.0 i; view = view i; answer = x.1 i; steps = steps_grown i })
      ∙ sym
      (ap
      (λ (b : Bool). cond b (record { progress = r.next; view = u; answer = r.answer; steps = kind ∷ g.token.steps })
      (record { progress = g.progress; view = u; answer = GoesOn; steps = kind ∷ g.token.steps }))
      e)

  pub looks_on : LooksOn n tries g g'
  looks_on = record {
    step = record {
      at = record {
        own = ap (λ (z : Holding). z.tree) is ∙ (took.tree ∙ at.own);
        fits = (here (is_look r.kind) refl).2;
        known =
            subst (λ (z : Holding). Beside ps z.tier z.word z.view) (sym is)
            (subst (λ (z : Named). Beside z.key.shape h.tier h.word h.view) at.own took.after);
      };
      tried = ap (λ (z : Holding). z.tried) is ∙ took.tried;
      opened = ap (λ (z : Holding). z.opened) is ∙ took.opened;
      goes =
          λ from before_. subst (Goes n.key from) (sym (went (is_look r.kind) refl))
          (looks (position g) h.word before_ at.fits going before);
    };
    next = (here (is_look r.kind) refl).3;
    back = λ b. ⊎_elim
        (λ (z : is_look r.kind ≡ true). not_both (is_look r.kind) z (back_quiet ps h.word g.progress g.token.view at.fits b))
        stands
        (either (is_look r.kind));
  }

-- a step of a call is as the plan says
plan_seek : (k : Key) (tier claimed size t : ℕ) (w : Fields) (r : Turn) → SeekIs tier claimed size t w r → PlanSays k r.kind w
plan_seek k tier claimed size t w r (ends e k' at) = subst (λ (z : Kind). PlanSays k z w) (sym k') tt
plan_seek k tier claimed size t w r (refused e f k' at) = subst (λ (z : Kind). PlanSays k z w) (sym k') tt
plan_seek k tier claimed size t w r (claims e f k' at) = subst (λ (z : Kind). PlanSays k z w) (sym k') tt
plan_seek k tier claimed size t w r (joins e f k' at) = subst (λ (z : Kind). PlanSays k z w) (sym k') tt

plan_pass : (k : Key) (t : ℕ) (kind : Kind) (w : Fields) (r : Turn) → PlanSays k kind w → PassIs t kind w r → PlanSays k r.kind w
plan_pass k t kind w r says (over e k' at) = subst (λ (z : Kind). PlanSays k z w) (sym k') tt
plan_pass k t kind w r says (behind e k' at) = subst (λ (z : Kind). PlanSays k z w) (sym k') tt
plan_pass k t kind w r says (passes e k' at) = subst (λ (z : Kind). PlanSays k z w) (sym k') says

plan_own : (k : Key) (passage : Passage) (w : Fields) → PlanSays k (own_kind passage) w
plan_own k Arrival w = tt
plan_own k Departure w = tt

pub plan_says : (k : Key) (b : Bool) (w : Fields) (p : Progress) (v : View) → CallFits k.shape p v → is_going p ≡ true
    → (is_due p ≡ true → b ≡ end_ends k.plan w.phase (w.parties == 0)) → PlanSays k (turn_by k.shape b w p v).kind w
plan_says k b w Idle v fits g h = tt
plan_says k b w (Begun c) v fits g h = tt
plan_says k b w (ToSeek tier size) v fits g h =
    plan_seek k tier (claimed_by v.errand) size (ancestor k.shape tier (claimed_by v.errand)) w _
    (seek_is tier (claimed_by v.errand) size (ancestor k.shape tier (claimed_by v.errand)) w v)
plan_says k b w Settling v fits g h = subst (λ (e : Errand). PlanSays k (settle_turn k.shape v e).kind w) (sym fits.3) tt
plan_says k b w (ToGiveBack answer) v fits g h = subst (λ (e : Errand). PlanSays k (give_back_turn k.shape answer e).kind w) (sym fits.3) tt
plan_says k b w (Passing passage) v fits g h =
    plan_pass k v.tier (own_kind passage) w _ (plan_own k passage w)
    (pass_is k.shape passage v.tier passage (own_kind passage) (Passing passage) (end_shown w) w v)
plan_says k b w (Owing own) v fits g h = subst (λ (e : Errand). PlanSays k (climb_turn k.shape own w v e).kind w) (sym fits.2)
    (plan_pass k fits.0 (Climb fits.1) w _ tt (pass_is k.shape own fits.0 fits.1 (Climb fits.1) (Owing own) (Done v.phase) w v))
plan_says k b w (Due own) v fits g h = by_test (λ c. PlanSays k (cond c Look (Advance b)) w) w.ended (λ e. tt) (λ e. h refl)
plan_says k b w (Refreshing passed_on) v fits g h = by_test (λ c. PlanSays k (cond c Refresh Glance) w) (lags w v) (λ e. tt) (λ e. tt)

-- a lost try is the look that the call means
lost_seek : (tier claimed size t t' : ℕ) (w w' : Fields) (r : Turn) → SeekIs tier claimed size t w r → is_look r.kind ≡ false
    → looking r.kind t' w' ≡ looking (Join tier claimed size) t' w'
lost_seek tier claimed size t t' w w' r (ends e k at) l = not_both (is_look r.kind) (ap is_look k) l
lost_seek tier claimed size t t' w w' r (refused e f k at) l = not_both (is_look r.kind) (ap is_look k) l
lost_seek tier claimed size t t' w w' r (claims e f k at) l = ap (λ (z : Kind). looking z t' w') k
lost_seek tier claimed size t t' w w' r (joins e f k at) l = ap (λ (z : Kind). looking z t' w') k

lost_pass : (t t' : ℕ) (kind : Kind) (w w' : Fields) (r : Turn) → looking kind t' w' ≡ glance t' → PassIs t kind w r
    → looking r.kind t' w' ≡ glance t'
lost_pass t t' kind w w' r is (over e k at) = ap (λ (z : Kind). looking z t' w') k
lost_pass t t' kind w w' r is (behind e k at) = ap (λ (z : Kind). looking z t' w') k
lost_pass t t' kind w w' r is (passes e k at) = ap (λ (z : Kind). looking z t' w') k ∙ is

lost_own : (passage : Passage) (t : ℕ) (w : Fields) → looking (own_kind passage) t w ≡ glance t
lost_own Arrival t w = refl
lost_own Departure t w = refl

lost_look : (ps : List ℕ) (b : Bool) (w w' : Fields) (p : Progress) (v : View) (t : ℕ) → CallFits ps p v → is_going p ≡ true
    → is_look (turn_by ps false w p v).kind ≡ false
    → looking (turn_by ps b w p v).kind t w' ≡ looking (meant p v) t w'
lost_look ps b w w' Idle v t fits g l = refl
lost_look ps b w w' (Begun c) v t fits g l = refl
lost_look ps b w w' (ToSeek tier size) v t fits g l =
    lost_seek tier (claimed_by v.errand) size (ancestor ps tier (claimed_by v.errand)) t w w' _
    (seek_is tier (claimed_by v.errand) size (ancestor ps tier (claimed_by v.errand)) w v) l
lost_look ps b w w' Settling v t fits g l = subst (λ (e : Errand). looking (settle_turn ps v e).kind t w' ≡ glance t) (sym fits.3) refl
lost_look ps b w w' (ToGiveBack answer) v t fits g l =
    subst (λ (e : Errand). looking (give_back_turn ps answer e).kind t w' ≡ glance t) (sym fits.3) refl
lost_look ps b w w' (Passing passage) v t fits g l =
    lost_pass v.tier t (own_kind passage) w w' _ (lost_own passage t w')
    (pass_is ps passage v.tier passage (own_kind passage) (Passing passage) (end_shown w) w v)
lost_look ps b w w' (Owing own) v t fits g l = subst (λ (e : Errand). looking (climb_turn ps own w v e).kind t w' ≡ glance t) (sym fits.2)
    (lost_pass fits.0 t (Climb fits.1) w w' _ refl (pass_is ps own fits.0 fits.1 (Climb fits.1) (Owing own) (Done v.phase) w v))
lost_look ps b w w' (Due own) v t fits g l =
    by_test (λ c. looking (cond c Look (Advance b)) t w' ≡ glance t) w.ended (λ e. refl) (λ e. refl)
lost_look ps b w w' (Refreshing passed_on) v t fits g l =
    by_test (λ c. looking (cond c Refresh Glance) t w' ≡ glance t) (lags w v) (λ e. refl) (λ e. refl)

-- a try of the next step
module _ (n : Named) (b : Bool) (g : Going) (at : IsAt n g) (st : Stands n.key g) (says : EndsAsPlanned n.key b g) where
  abbrev tp : ℕ
  tp = place n.key.shape g.progress g.token.view

  abbrev rt : Turn
  rt = turn_by n.key.shape b g.token.word g.progress g.token.view

  here_known : Beside n.key.shape tp g.token.word g.token.view
  here_known = subst (λ (z : ℕ). Beside n.key.shape z g.token.word g.token.view) st.tier at.known

  next_try : NextBy n.key.shape here_known.words g.progress g.token.view g.token.word rt
  next_try = let k = here_known in
      next_by n.key.shape k.words k.front k.back g.progress g.token.view g.token.word b k.shape k.tally at.fits st.going k.word

  pub try_needs : Needs n.key.shape rt.kind g.token.tier g.token.word g.token.view
  try_needs = subst (λ (z : ℕ). Needs n.key.shape rt.kind z g.token.word g.token.view) (sym st.tier) next_try.needs

  pub try_says : PlanSays n.key rt.kind g.token.word
  try_says = plan_says n.key b g.token.word g.progress g.token.view at.fits st.going says

  was_found : IsReached g.token.tree.key g.token.tier g.token.word (sight_held g.token)
      → WasFound n.key tp g.token.word g.token.view g.token.steps
  was_found r = record {
    sight = sight_held g.token;
    reached = subst (λ (z : Named). IsReached z.key tp g.token.word (sight_held g.token)) at.own
        (subst (λ (z : ℕ). IsReached g.token.tree.key z g.token.word (sight_held g.token)) st.tier r);
    own = ap (λ (z : Named). z.key) at.own;
    view = refl;
    steps = refl;
  }

  pub won_on : (g' : Going) (h : Holding) → Won rt.kind g.token h → g'.token ≡ h → g'.progress ≡ rt.next → g'.answer ≡ rt.answer
      → WentOn n 1 g g'
  won_on g' h took is p a =
      let u : View = view_after (parent_of n.key.shape tp) rt.kind tp g.token.word g.token.view in
      let view : g'.token.view ≡ u = ap (λ (z : Holding). z.view) is
      ∙ (took.view
      ∙ (ap (λ (z : Named). view_after (parent_of z.key.shape g.token.tier) rt.kind g.token.tier g.token.word g.token.view) at.own
      ∙ ap (λ (z : ℕ). view_after (parent_of n.key.shape z) rt.kind z g.token.word g.token.view) st.tier)) in
      record {
        at = record {
          own = ap (λ (z : Holding). z.tree) is ∙ (took.tree ∙ at.own);
          fits = subst (λ (z : Progress × View). CallFits n.key.shape z.0 z.1) (λ i. (sym p i, sym view i)) next_try.keeps;
          known =
              subst (λ (z : Holding). Beside n.key.shape z.tier z.word z.view) (sym is)
              (subst (λ (z : Named). Beside z.key.shape h.tier h.word h.view) at.own took.after);
        };
        tried = ap (λ (z : Holding). z.tried) is ∙ took.tried;
        opened = ap (λ (z : Holding). z.opened) is ∙ took.opened;
        goes =
            λ from before_. subst (Goes n.key from)
            (sym (λ i. record { progress = p i; view = view i; answer = a i; steps = (ap (λ (z : Holding). z.steps) is ∙ took.steps) i }))
            (steps (position g) g.token.word b before_ at.fits st.going here_known try_says (was_found took.found));
      }

  pub lost_on : (g' : Going) (h : Holding) → Lost rt.kind g.token h → g'.token ≡ h → After n.key.shape g.progress g.token.view g'
      → WentOn n 1 g g'
  lost_on g' h l is then_ =
      let took : Took (looking (meant g.progress g.token.view) tp h.word) tp h.word 1 g.token h =
      subst (λ (z : Kind). Took z tp h.word 1 g.token h)
      (lost_look n.key.shape b g.token.word h.word g.progress g.token.view tp at.fits st.going st.tries)
      (subst (λ (z : ℕ). Took (looking rt.kind z h.word) z h.word 1 g.token h) st.tier l.took) in
      (looks_on n 1 g g' h at st.going took is then_).step

-- one thing after another
pub went_then : (n : Named) (a b : ℕ) (g g' g'' : Going) → WentOn n a g g' → WentOn n b g' g'' → WentOn n (a + b) g g''
went_then n a b g g' g'' x y = record {
  at = y.at;
  tried = (let e = x.tried in let f = y.tried in omega arith);
  opened = y.opened ∙ x.opened;
  goes = λ from s. y.goes from (x.goes from s);
}

pub went_none : (n : Named) (g : Going) → IsAt n g → WentOn n 0 g g
went_none n g at = record { at = at; tried = omega arith; opened = refl; goes = λ from s. s }

-- the code's turn is the call's
pub same_turn : (b : Bool) (q : Progress) {p p' : List ℕ} {w w' : Fields} {v v' : View} {x : Turn} → p ≡ p' → w ≡ w' → v ≡ v'
    → x ≡ turn_by p b w q v → x ≡ turn_by p' b w' q v'
same_turn b q {p} {p'} {w} {w'} {v} {v'} {x} e f h is = is ∙ (λ i. turn_by (e i) b (f i) q (h i))

-- a call that is over has made few enough tries
pub ran_over : {n : Named} {used tries : ℕ} {g g' : Going} {b : Bool} → WentOn n used g g' → used ≤ tries → b ≡ is_going g'.progress
    → b ≡ false → Ran n tries g g'
ran_over {n} {used} {tries} {g} {g'} {b} went few is no_more =
    record { used = used; went = went; few = few; all = λ e. not_both (is_going g'.progress) e (sym is ∙ no_more) }
