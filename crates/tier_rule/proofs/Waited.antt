-- The last advance of a run waited for all.
use Rattle.std.proofs.Common.{◌≡◌, ◌≢◌, ℕ, zero, suc, ◌+◌, ◌<◌, ◌==◌, ◌⊎◌, inl, inr, ⊎_elim, Bool, true, false, cond, Option, None, Some, List, [], ◌∷◌, ◌++◌, length, set, replicate, refl, sym, ◌∙◌, ap, subst, arith, get_or-set_same}
use Rattle.std.specs.List.{AllByRecursion}
use mathlib.Core.Option.{some}
use Rattle.flat_phaser.proofs.Alikeness.{next_differs}
use Rattle.std.proofs.lemmas.Bool.{eqb-true}
use Rattle.atomic_table.proofs.Lists.{set_else}
use lib.ListN.{get_elem?}
use Rattle.phaser_word.specs.Fields.{Fields}
use Rattle.phaser_word.specs.Phase.{next_phase_of}
use Rattle.tier_steps.specs.declared.view.View.{View}
use Rattle.tier_steps.specs.declared.view.Passage.TheVariants.{Arrival, Departure}
use Rattle.tier_steps.specs.declared.kind.Kind.{Kind}
use Rattle.tier_steps.specs.declared.kind.Kind.TheVariants.{Look, Glance, Refuse, Join, Arrive, Leave, Advance, Force, Claim, Settle, SettleBack, Climb, Refresh}
use Rattle.tier_steps.specs.Tally.{blank, word_at, root_phase, ViewFits, Tallies}
use Rattle.tier_steps.specs.Step.{word_after, view_after, looked, moved, dropped, is_going_back}
use Rattle.tier_steps.specs.Word.{advanced}
use Rattle.tier_steps.specs.Laws.{words_after, stepped_view}
use Rattle.tier_steps.specs.Due.{is_advance}
use Rattle.tier_steps.specs.Start.{empty_word, empty_words}
use Rattle.tier_steps.proofs.Due.{everyone_here}
use Rattle.tier_steps.proofs.KindLaw.{mine}
use Rattle.tier_steps.proofs.Passing.{phase_passed}
use Rattle.tier_steps.proofs.Ready.{advances_are_due, phases_stay}
use Rattle.tier_shape.specs.Parents.{parent_of}
use Rattle.tier_rule.specs.declared.sight.Key.{Key}
use Rattle.tier_rule.specs.declared.sight.Sight.{Sight}
use Rattle.tier_rule.specs.Reach.{views_of, cut_off, sat_sight, Reached, opens, steps, cuts, sits, joins, parts}
use Rattle.tier_rule.specs.Laws.{HasArrived, MayStep}
use Rattle.tier_rule.specs.Run.{Moment, last_advance, WaitedForAll, Follows, EachPhaseIsWaitedFor, Stands, IsReached, WaitedBetween, EachTokenIsWaitedFor, UnarrivedHoldThePhase, AccessesWaitForOthers}
use Rattle.tier_rule.proofs.Seats.{amid}
use Rattle.tier_rule.proofs.Reaching.{reached_states_tally}
use Rattle.tier_rule.proofs.Leaving.{advance_or_not, all_arrived}
use Rattle.tier_rule.proofs.Groups.{step_amid}
use Rattle.tier_rule.proofs.Standing.{all_at, all_put, all_both, all_parts}

-- an advance finds that all have arrived, and the next phase comes
pub record Advances (k : Key) (ws : List Fields) (vs : List (List Sight)) (kind : Kind) (t : ℕ) (v : View) : Type 0 where
  pub next : root_phase (words_after ws kind t v) ≡ next_phase_of (root_phase ws)
  pub all : AllByRecursion (HasArrived (root_phase ws)) (views_of vs)

pub advances : (k : Key) (ws : List Fields) (vs : List (List Sight)) (id t : ℕ) (f : List Sight) (x : Sight) (b : List Sight) (ends : Bool)
    → MayStep k ws vs id t f x b (Advance ends) → Advances k ws vs (Advance ends) t x.view
advances k ws vs id t f x b ends m =
    let a = amid vs id f x b m.seat in
    let step = step_amid k ws vs id t f x b (Advance ends) m in
    let tally : Tallies k.shape ws (a.front ++ x.view ∷ a.back) = step.tally in
    let ready = advances_are_due k.shape ws a.front x.view a.back t ends step in
    let root : t ≡ 0 = m.needs.0 in
    record {
      next = ap (λ (n : ℕ). root_phase (set ws n (advanced (word_at ws n) ends))) root
          ∙ ap (λ (w : Fields). w.phase)
          (get_or-set_same ws 0 (advanced (word_at ws 0) ends) blank (subst (λ (n : ℕ). n < length ws) root m.within));
      all = subst (λ (us : List View). AllByRecursion (HasArrived (root_phase ws)) us) (sym a.is)
          (all_arrived k.shape (root_phase ws) (word_at ws 0).ended (a.front ++ x.view ∷ a.back) tally.fits
          (everyone_here (root_phase ws) 0 (a.front ++ x.view ∷ a.back) ready.everyone));
    }

after_step : (k : Key) (ws : List Fields) (vs : List (List Sight)) (id t : ℕ) (f : List Sight) (x : Sight) (b : List Sight) (kind : Kind)
    (o : Option Moment)
    → MayStep k ws vs id t f x b kind
    → Follows k (root_phase ws) o
    → Follows k (root_phase (words_after ws kind t x.view)) (cond (is_advance kind) (Some (record { words = ws; seats = vs })) o)
after_step k ws vs id t f x b kind o m before =
    let here : Moment = record { words = ws; seats = vs } in
    let a = amid vs id f x b m.seat in
    let step = step_amid k ws vs id t f x b kind m in
    ⊎_elim
    (λ (no_advance : is_advance kind ≡ false).
    let stays = phases_stay k.shape ws a.front x.view a.back t kind 0 step no_advance step.tally.some refl in
    subst (λ (c : Bool). Follows k (root_phase (words_after ws kind t x.view)) (cond c (Some here) o)) (sym no_advance)
    (subst (λ (p : ℕ). Follows k p o) (sym stays) before))
    (λ (e : (ends : Bool) × (kind ≡ Advance ends)).
    let r = advances k ws vs id t f x b e.0 (subst (λ (z : Kind). MayStep k ws vs id t f x b z) e.1 m) in
    subst (λ (z : Kind). Follows k (root_phase (words_after ws z t x.view)) (cond (is_advance z) (Some here) o)) (sym e.1) (r.next, r.all))
    (advance_or_not kind)

first_phase : (shape : List ℕ) (phase : ℕ) → 0 < length shape → root_phase (empty_words shape phase) ≡ phase
first_phase [] phase any = absurd (omega arith)
first_phase (p ∷ ps) phase any = refl

pub each_phase_is_waited_for : EachPhaseIsWaitedFor
each_phase_is_waited_for k ws vs (opens x shape small is) = first_phase k.shape k.phase (let a = shape.shape.some in omega arith)
each_phase_is_waited_for k ws vs (steps us ts id t tries f b x y kind r at within needs says own is few) =
    after_step k us ts id t f x b kind (last_advance r) (record { reached = r; seat = at; within = within; needs = needs; says = says })
    (each_phase_is_waited_for k us ts r)
each_phase_is_waited_for k ws vs (cuts us ts id l r at) = each_phase_is_waited_for k us ts r
each_phase_is_waited_for k ws vs (sits us ts id n r at) = each_phase_is_waited_for k us ts r
each_phase_is_waited_for k ws vs (joins us ts id other l m r at apart there) = each_phase_is_waited_for k us ts r
each_phase_is_waited_for k ws vs (parts us ts id x l y m r at) = each_phase_is_waited_for k us ts r

-- a step that is no advance leads to no new phase
word_in : (kind : Kind) (t : ℕ) (w : Fields) (v : View) (p : ℕ) → is_advance kind ≡ false → w.phase ≡ p → v.phase ≡ p
    → (word_after kind t w v).phase ≡ p
word_in Look t w v p a e f = e
word_in Glance t w v p a e f = e
word_in (Refuse tier claimed size) t w v p a e f = e
word_in (Join tier claimed size) t w v p a e f = e
word_in Arrive t w v p a e f = phase_passed t Arrival w ∙ e
word_in Leave t w v p a e f = phase_passed t Departure w ∙ e
word_in (Advance ends) t w v p a e f = absurd (let b : true ≡ false = a in cc)
word_in Force t w v p a e f = e
word_in (Claim tier claimed size) t w v p a e f = e
word_in (Settle tier claimed size) t w v p a e f = f
word_in (SettleBack tier claimed size) t w v p a e f = e
word_in (Climb passage) t w v p a e f = phase_passed t passage w ∙ e
word_in Refresh t w v p a e f = f

either_in : (b : Bool) (u v : View) (p : ℕ) → u.phase ≡ p → v.phase ≡ p → (cond {A = View} b u v).phase ≡ p
either_in true u v p e f = e
either_in false u v p e f = f

moved_in : (w : Fields) (v : View) (p : ℕ) → w.phase ≡ p → v.phase ≡ p → (moved w v).phase ≡ p
moved_in w v p e f =
    let u : View = record v { phase = w.phase; arrived = 0 } in
    either_in (v.arrived == v.size) (cond {A = View} (v.phase == w.phase) v u) v p (either_in (v.phase == w.phase) v u p f e) f

looked_in : (w : Fields) (v : View) (p : ℕ) → w.phase ≡ p → v.phase ≡ p → (looked w v).phase ≡ p
looked_in w v p e f =
    let u : View = record v { led = false; note = cond (is_going_back v.errand) v.note None } in
    either_in w.ended (record u { end_seen = Some w.phase; errand = dropped v.errand }) (moved w u) p f (moved_in w u p e f)

-- a look leaves the phase of a view, or brings it into the root's
pub looked_where : (w : Fields) (v : View) → ((looked w v).phase ≡ v.phase) ⊎ ((looked w v).phase ≡ w.phase)
looked_where w v =
    let u : View = record v { led = false; note = cond (is_going_back v.errand) v.note None } in
    either_of w.ended (record u { end_seen = Some w.phase; errand = dropped v.errand }) (moved w u) (inl refl)
    (either_of (v.arrived == v.size) (cond {A = View} (v.phase == w.phase) u (record u { phase = w.phase; arrived = 0 })) u
    (either_of (v.phase == w.phase) u (record u { phase = w.phase; arrived = 0 }) (inl refl) (inr refl)) (inl refl))
  where
    either_of : (b : Bool) (x y : View) → (x.phase ≡ v.phase) ⊎ (x.phase ≡ w.phase) → (y.phase ≡ v.phase) ⊎ (y.phase ≡ w.phase)
        → ((cond {A = View} b x y).phase ≡ v.phase) ⊎ ((cond {A = View} b x y).phase ≡ w.phase)
    either_of true x y e f = e
    either_of false x y e f = f

view_in : (above : ℕ) (kind : Kind) (t : ℕ) (w : Fields) (v : View) (p : ℕ) → w.phase ≡ p → v.phase ≡ p
    → (view_after above kind t w v).phase ≡ p
view_in above Look t w v p e f = looked_in w v p e f
view_in above Glance t w v p e f = f
view_in above (Refuse tier claimed size) zero w v p e f = looked_in w v p e f
view_in above (Refuse tier claimed size) (suc t) w v p e f = f
view_in above (Join tier claimed size) t w v p e f = e
view_in above Arrive t w v p e f = f
view_in above Leave t w v p e f = f
view_in above (Advance ends) t w v p e f = f
view_in above Force t w v p e f = f
view_in above (Claim tier claimed size) t w v p e f = f
view_in above (Settle tier claimed size) t w v p e f = f
view_in above (SettleBack tier claimed size) t w v p e f = f
view_in above (Climb passage) t w v p e f = f
view_in above Refresh t w v p e f = f

-- As long as no step is an advance, all words and views are in the phase in which the tree was opened.
abbrev SightIn : ℕ → Sight → Type 0
SightIn p x = x.view.phase ≡ p

abbrev SeatIn : ℕ → List Sight → Type 0
SeatIn p l = AllByRecursion (SightIn p) l

abbrev WordIn : ℕ → Fields → Type 0
WordIn p w = w.phase ≡ p

abbrev AllIn : ℕ → List Fields → List (List Sight) → Type 0
AllIn p ws vs = AllByRecursion (WordIn p) ws × AllByRecursion (SeatIn p) vs

word_of : (p : ℕ) (ws : List Fields) (t : ℕ) → t < length ws → AllByRecursion (WordIn p) ws → (word_at ws t).phase ≡ p
word_of p [] t h all = absurd (omega arith)
word_of p (w ∷ ws) zero h all = all.0
word_of p (w ∷ ws) (suc t) h all = word_of p ws t (omega arith) all.1

all_replicate : {A : Type 0} (P : A → Type 0) (n : ℕ) (x : A) → P x → AllByRecursion P (replicate n x)
all_replicate P zero x h = tt
all_replicate {A} P (suc n) x h = (h, all_replicate P n x h)

sight_of : (p : ℕ) (f b : List Sight) (x : Sight) → SeatIn p (f ++ x ∷ b) → x.view.phase ≡ p
sight_of p f b x all = (all_parts (SightIn p) f (x ∷ b) all).1.0

put_in : (p : ℕ) (f b : List Sight) (x y : Sight) → SeatIn p (f ++ x ∷ b) → y.view.phase ≡ p → SeatIn p (f ++ y ∷ b)
put_in p f b x y all e = let a = all_parts (SightIn p) f (x ∷ b) all in all_both (SightIn p) f (y ∷ b) a.0 (e, a.1.1)

cut_in : (p : ℕ) (l : List Sight) → SeatIn p l → SeatIn p (cut_off l)
cut_in p [] all = tt
cut_in p (x ∷ xs) all = all

no_moment : (m : Moment) → ◌≡◌ {A = Option Moment} (Some m) None → ⊥
no_moment m e = absurd (cc)

not_advanced : (kind : Kind) (m : Moment) (o : Option Moment) → cond (is_advance kind) (Some m) o ≡ None
    → (is_advance kind ≡ false) × (o ≡ None)
not_advanced kind m o none = go (is_advance kind) none
  where
    go : (c : Bool) → cond c (Some m) o ≡ None → (c ≡ false) × (o ≡ None)
    go true e = absurd (no_moment m e)
    go false e = (refl, e)

step_in : (k : Key) (p : ℕ) (ws : List Fields) (vs : List (List Sight)) (id t : ℕ) (f b : List Sight) (x y : Sight) (kind : Kind)
    → is_advance kind ≡ false → get_elem? vs id ≡ some (f ++ x ∷ b) → t < length ws
    → y.view ≡ stepped_view x.key.shape ws kind t x.view → AllIn p ws vs → AllIn p (words_after ws kind t x.view) (set vs id (f ++ y ∷ b))
step_in k p ws vs id t f b x y kind stays at within is all =
    let seat = all_at (SeatIn p) vs id (f ++ x ∷ b) at all.1 in
    let word = word_of p ws t within all.0 in
    let mine_ = sight_of p f b x seat in (
      all_put (WordIn p) ws t (word_after kind t (word_at ws t) x.view) (word_in kind t (word_at ws t) x.view p stays word mine_) all.0,
      all_put (SeatIn p) vs id (f ++ y ∷ b)
          (put_in p f b x y seat (ap (λ (v : View). v.phase) is ∙ view_in (parent_of x.key.shape t) kind t (word_at ws t) x.view p word mine_))
          all.1,
    )

unadvanced : (k : Key) (ws : List Fields) (vs : List (List Sight)) (r : Reached k ws vs) → last_advance r ≡ None → AllIn k.phase ws vs
unadvanced k ws vs (opens x shape small is) none =
    (all_replicate (WordIn k.phase) (length k.shape) (empty_word k.phase) refl, ((ap (λ (z : Sight). z.view.phase) is, tt), tt))
unadvanced k ws vs (steps us ts id t tries f b x y kind r at within needs says own is few) none =
    let a = not_advanced kind (record { words = us; seats = ts }) (last_advance r) none in
    step_in k k.phase us ts id t f b x y kind a.0 at within is.view (unadvanced k us ts r a.1)
unadvanced k ws vs (cuts us ts id l r at) none =
    let all = unadvanced k us ts r none in (
      all.0,
      all_both (SeatIn k.phase) (set ts id (cut_off l)) ([] ∷ [])
          (all_put (SeatIn k.phase) ts id (cut_off l) (cut_in k.phase l (all_at (SeatIn k.phase) ts id l at all.1)) all.1) (tt, tt),
    )
unadvanced k ws vs (sits us ts id n r at) none =
    let all = unadvanced k us ts r none in
    let root : (word_at us 0).phase ≡ k.phase = word_of k.phase us 0 (reached_states_tally k us ts r).some all.0 in (
      all.0,
      all_put (SeatIn k.phase) ts id (replicate n (sat_sight k (word_at us 0)))
          (all_replicate (SightIn k.phase) n (sat_sight k (word_at us 0)) root) all.1,
    )
unadvanced k ws vs (joins us ts id other l m r at apart there) none =
    let all = unadvanced k us ts r none in
    let other_ = all_at (SeatIn k.phase) ts other m (sym (set_else ts id other (l ++ m) apart) ∙ there) all.1 in
    let both = all_both (SightIn k.phase) l m (all_at (SeatIn k.phase) ts id l at all.1) other_ in
    (all.0, all_put (SeatIn k.phase) (set ts id (l ++ m)) other [] tt (all_put (SeatIn k.phase) ts id (l ++ m) both all.1))
unadvanced k ws vs (parts us ts id x l y m r at) none =
    let all = unadvanced k us ts r none in
    let seat = all_at (SeatIn k.phase) ts id (x ∷ (l ++ y ∷ m)) at all.1 in
    let both = all_parts (SightIn k.phase) l (y ∷ m) seat.1 in (
      all.0,
      all_both (SeatIn k.phase) (set ts id (x ∷ l)) ((y ∷ m) ∷ []) (all_put (SeatIn k.phase) ts id (x ∷ l) (seat.0, both.0) all.1)
          (both.1, tt),
    )

-- two phases with one next phase are one
next_once : (p q : ℕ) → next_phase_of p ≡ next_phase_of q → p ≡ q
next_once p q e = go (p == 2147483647) (q == 2147483647) refl refl e
  where
    go : (a b : Bool) → (p == 2147483647) ≡ a → (q == 2147483647) ≡ b → cond {A = ℕ} a 0 (p + 1) ≡ cond {A = ℕ} b 0 (q + 1) → p ≡ q
    go true true f g h = eqb-true p 2147483647 f ∙ sym (eqb-true q 2147483647 g)
    go true false f g h = absurd (let i : 0 ≡ q + 1 = h in omega arith)
    go false true f g h = absurd (let i : p + 1 ≡ 0 = h in omega arith)
    go false false f g h = let i : p + 1 ≡ q + 1 = h in omega arith

by_last : (k : Key) (p q : ℕ) (o : Option Moment) → Follows k p o → (o ≡ None → ⊥) → next_phase_of q ≡ p → WaitedForAll q o
by_last k p q None follows any next = absurd (any refl)
by_last k p q (Some found) follows any next =
    let same : root_phase found.words ≡ q = next_once (root_phase found.words) q (sym follows.0 ∙ sym next) in
    (same, subst (λ (z : ℕ). AllByRecursion (HasArrived z) (views_of found.seats)) same follows.1)

fits_of : (k : Key) (ws : List Fields) (vs : List (List Sight)) (x : Sight) → Reached k ws vs → Stands x vs
    → ViewFits k.shape (root_phase ws) (word_at ws 0).ended x.view
fits_of k ws vs x run s =
    let a = amid vs s.id s.front x s.back s.seat in
    mine k.shape ws a.front a.back x.view (subst (λ (us : List View). Tallies k.shape ws us) a.is (reached_states_tally k ws vs run))

pub each_token_is_waited_for : EachTokenIsWaitedFor
each_token_is_waited_for k left now other ws vs run x root s some' here =
    let behind : root_phase ws ≢ x.view.phase = λ e. other (sym root ∙ (e ∙ here)) in
    let fits = fits_of k ws vs x run s in
    subst (λ (p : ℕ). WaitedForAll p (last_advance run)) here
    (by_last k (root_phase ws) x.view.phase (last_advance run) (each_phase_is_waited_for k ws vs run)
    (λ none.
    let all = unadvanced k ws vs run none in
    behind
    (word_of k.phase ws 0 (reached_states_tally k ws vs run).some all.0
    ∙ sym (sight_of k.phase s.front s.back x (all_at (SeatIn k.phase) vs s.id (s.front ++ x ∷ s.back) s.seat all.1))))
    (⊎_elim (λ (e : x.view.phase ≡ root_phase ws). absurd (behind (sym e))) (λ (e : (next_phase_of x.view.phase ≡ root_phase ws) × (x.view.arrived ≡ x.view.size)). e.0) (fits.current some')))

pub unarrived_hold_the_phase : UnarrivedHoldThePhase
unarrived_hold_the_phase k ws vs x run s late =
    ⊎_elim (λ (e : x.view.phase ≡ root_phase ws). sym e)
    (λ (e : (next_phase_of x.view.phase ≡ root_phase ws) × (x.view.arrived ≡ x.view.size)). absurd (let a = e.1 in omega arith))
    ((fits_of k ws vs x run s).current (omega arith))

-- the phase that follows the one that an advance left
pub follows_left : (k : Key) (now left : ℕ) (o : Option Moment) → Follows k now o → WaitedForAll left o → now ≡ next_phase_of left
follows_left k now left None follows all = absurd all
follows_left k now left (Some found) follows all = follows.0 ∙ ap next_phase_of all.0

-- What was said of all tokens between two phases tells, with one state, that one follows the other.
pub between_is_next : (k : Key) (left now : ℕ) (w : Fields) (x : Sight) → WaitedBetween k left now → IsReached k 0 w x → w.phase ≡ now
    → 0 < x.view.size → x.view.phase ≡ left → now ≡ next_phase_of left
between_is_next k left now w x all r root some' here =
    let at : root_phase r.words ≡ now = ap (λ (z : Fields). z.phase) r.word ∙ root in
    sym at
    ∙ follows_left k (root_phase r.words) left (last_advance r.reached) (each_phase_is_waited_for k r.words r.seats r.reached)
    (all r.words r.seats r.reached x at r.stands some' here)

-- no phase is the next but one
never_back : (p q : ℕ) → next_phase_of p ≡ q → p ≡ next_phase_of q → ⊥
never_back p q e f = go (p == 2147483647) (q == 2147483647) refl refl e f
  where
    go : (a b : Bool) → (p == 2147483647) ≡ a → (q == 2147483647) ≡ b → cond {A = ℕ} a 0 (p + 1) ≡ q → p ≡ cond {A = ℕ} b 0 (q + 1) → ⊥
    go true true f g h i = absurd (let j : 0 ≡ q = h in let k = eqb-true q 2147483647 g in omega arith)
    go true false f g h i = absurd (let j : 0 ≡ q = h in let l : p ≡ q + 1 = i in let k = eqb-true p 2147483647 f in omega arith)
    go false true f g h i = absurd (let j : p + 1 ≡ q = h in let l : p ≡ 0 = i in let k = eqb-true q 2147483647 g in omega arith)
    go false false f g h i = absurd (let j : p + 1 ≡ q = h in let l : p ≡ q + 1 = i in omega arith)

arrived_between : (v : View) (q p : ℕ) → p ≡ next_phase_of q → (v.phase ≡ q) ⊎ ((next_phase_of v.phase ≡ q) × (v.arrived ≡ v.size))
    → (v.phase ≡ p) ⊎ ((next_phase_of v.phase ≡ p) × (v.arrived ≡ v.size))
    → (v.phase ≡ q) × (v.arrived ≡ v.size)
arrived_between v q p next (inl a) (inl b) = absurd (next_differs q (sym a ∙ (b ∙ next)))
arrived_between v q p next (inl a) (inr b) = (a, b.1)
arrived_between v q p next (inr a) (inl b) = absurd (never_back v.phase q a.0 (b ∙ next))
arrived_between v q p next (inr a) (inr b) = absurd (next_differs q (sym a.0 ∙ (b.0 ∙ next)))

pub accesses_wait_for_others : AccessesWaitForOthers
accesses_wait_for_others k ws us vs id own other f x b before after next apart at = λ members.
    arrived_between x.view (root_phase ws) (root_phase us) next
    ((fits_of k ws vs x before (record { id = other; front = f; back = b; seat = at })).current members)
    ((fits_of k us (set vs id own) x after (record { id = other; front = f; back = b; seat = set_else vs id other own apart ∙ at })).current members)
