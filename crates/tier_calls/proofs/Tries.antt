-- The steps of arrivals and departures, each with the kind that it has.
use Rattle.std.proofs.Common.{◌≡◌, ℕ, ◌+◌, ◌≤◌, inl, inr, ⊎_elim, Bool, true, false, cond, ◌∷◌, List, refl, sym, ◌∙◌, ap, subst, arith}
use Rattle.phaser_word.specs.Fields.{Fields}
use Rattle.tier_shape.specs.Parents.{parent_of}
use Rattle.tier_steps.specs.Step.{owed, passed, view_after}
use Rattle.tier_steps.specs.declared.kind.Kind.{Kind}
use Rattle.tier_steps.specs.declared.kind.Kind.TheVariants.{Look, Advance, Climb, Refresh}
use Rattle.tier_steps.specs.declared.view.View.{View}
use Rattle.tier_steps.specs.declared.view.Errand.{Errand}
use Rattle.tier_steps.specs.declared.view.Errand.TheVariants.{Rest, Opening, Climbing, Advancing}
use Rattle.tier_steps.specs.declared.view.Passage.{Passage}
use Rattle.tier_core.specs.declared.call.Played.{Played}
use Rattle.tier_core.specs.declared.call.Played.TheVariants.{GoesOn, Done}
use Rattle.tier_core.specs.declared.call.Progress.{Progress}
use Rattle.tier_core.specs.declared.call.Progress.TheVariants.{Idle, Begun, Seeking as ToSeek, Settling, GivingBack as ToGiveBack, Passing, Owing, Due, Refreshing}
use Rattle.tier_core.specs.declared.call.Turn.{Turn}
use Rattle.tier_core.specs.Turn.{pass_turn, climb_turn, own_kind, end_shown, goes_on, reported, lags, errand_place, place, turn_by}
use Rattle.tier_core.specs.Machine.{CallFits, is_going}
use Rattle.tier_core.proofs.Turns.{by_test, not_both}
use Rattle.tier_rule.specs.declared.sight.Key.{Key}
use Rattle.tier_rule.specs.Look.{looking}
use Rattle.tier_calls.specs.Holding.{Named, Holding, Took, Lost}
use Rattle.tier_calls.specs.Calls.{IsAt}
use Rattle.tier_calls.specs.declared.going.Going.{Going}
use Rattle.tier_calls.specs.Next.{meant, is_look, is_owing, is_passing}
use Rattle.tier_calls.specs.Goes.{Position, position, Goes, starts, steps, looks, Stands, Stood, WentOn, Ran, EndsAsPlanned, is_back, After, over_at}
use Rattle.tier_calls.proofs.Turning.{by_cond, pass_tries}
use Rattle.tier_calls.proofs.Running.{quiet_own, looks_on, lost_on, went_then}

-- a look in the place of such a step is the last one if the root has ended, and else nothing
module _ (p : Progress) (w : Fields) (v : View) (p' : Progress) (a : Played) (over : Played)
    (is : p' ≡ cond w.ended Idle p) (says : a ≡ cond w.ended over GoesOn) where
  abbrev Is : Turn → Type 0
  Is r = (p' ≡ cond (is_look r.kind) r.next p) × (a ≡ cond (is_look r.kind) r.answer GoesOn)

  ended_is : w.ended ≡ true → (p' ≡ Idle) × (a ≡ over)
  ended_is e = (is ∙ ap (λ (b : Bool). cond b Idle p) e, says ∙ ap (λ (b : Bool). cond b over GoesOn) e)

  open_is : w.ended ≡ false → (p' ≡ p) × (a ≡ GoesOn)
  open_is e = (is ∙ ap (λ (b : Bool). cond b Idle p) e, says ∙ ap (λ (b : Bool). cond b over GoesOn) e)

  tried_is : (r : Turn) → is_look r.kind ≡ false → w.ended ≡ false → Is r
  tried_is r quiet e = let x = open_is e in (
    x.0 ∙ sym (ap (λ (b : Bool). cond b r.next p) quiet),
    x.1 ∙ sym (ap (λ (b : Bool). cond b r.answer GoesOn) quiet),
  )

  missed_pass : (ps : List ℕ) (own : Passage) (t : ℕ) (passage : Passage) (kind : Kind) (here : Progress) → is_look kind ≡ false
      → Is (pass_turn ps own t passage kind here over w v)
  missed_pass ps own t passage kind here quiet =
      by_cond Is w.ended _ _ (λ e. ended_is e)
      (λ e. by_cond Is (lags w v) _ _
      (λ f. tried_is (record { kind = Refresh; tier = t; next = here; answer = GoesOn }) refl e)
      (λ f. tried_is (record {
        kind = kind;
        tier = t;
        next = goes_on own (owed (parent_of ps t) t passage w);
        answer = reported v.phase (passed t passage w).parties (owed (parent_of ps t) t passage w);
      }) quiet e))

  missed_due : (own : Passage) (b : Bool) → over ≡ Done v.phase
      → Is (record { kind = cond w.ended Look (Advance b); tier = 0; next = Idle; answer = Done v.phase })
  missed_due own b o =
      by_test (λ c. (w.ended ≡ c) → Is (record { kind = cond c Look (Advance b); tier = 0; next = Idle; answer = Done v.phase })) w.ended
      (λ e f. let x = ended_is f in (x.0, x.1 ∙ o))
      (λ e f. open_is f) refl

pub missed_after : (ps : List ℕ) (p : Progress) (v : View) (phase : ℕ) (g : Going) → is_passing p ≡ true → CallFits ps p v → v.phase ≡ phase
    → g.progress ≡ cond g.token.word.ended Idle p → g.answer ≡ cond g.token.word.ended (over_at p phase g.token.word) GoesOn
    → After ps p v g
missed_after ps Idle v phase g q fits h is says = not_both false q refl
missed_after ps (Begun c) v phase g q fits h is says = not_both false q refl
missed_after ps (ToSeek tier size) v phase g q fits h is says = not_both false q refl
missed_after ps Settling v phase g q fits h is says = not_both false q refl
missed_after ps (ToGiveBack answer) v phase g q fits h is says = not_both false q refl
missed_after ps (Passing passage) v phase g q fits h is says =
    missed_pass (Passing passage) g.token.word v g.progress g.answer (end_shown g.token.word) is says ps passage v.tier passage
    (own_kind passage) (Passing passage) (quiet_own passage)
missed_after ps (Owing own) v phase g q fits h is says =
    let says' : g.answer ≡ cond g.token.word.ended (Done v.phase) GoesOn =
    says ∙ ap (λ (n : ℕ). cond g.token.word.ended (Done n) GoesOn) (sym h) in
    subst
    (λ (e : Errand). let r : Turn = climb_turn ps own g.token.word v e in
    (g.progress ≡ cond (is_look r.kind) r.next (Owing own)) × (g.answer ≡ cond (is_look r.kind) r.answer GoesOn))
    (sym fits.2)
    (missed_pass (Owing own) g.token.word v g.progress g.answer (Done v.phase) is says' ps own fits.0 fits.1 (Climb fits.1) (Owing own) refl)
missed_after ps (Due own) v phase g q fits h is says =
    let says' : g.answer ≡ cond g.token.word.ended (Done v.phase) GoesOn =
    says ∙ ap (λ (n : ℕ). cond g.token.word.ended (Done n) GoesOn) (sym h) in
    missed_due (Due own) g.token.word v g.progress g.answer (Done v.phase) is says' own false refl
missed_after ps (Refreshing passed_on) v phase g q fits h is says = not_both false q refl

-- a token is at the tier at which its step is due, if its word has not ended
pub passing_stands : (k : Key) (g : Going) → is_passing g.progress ≡ true → CallFits k.shape g.progress g.token.view
    → g.token.tier ≡ place k.shape g.progress g.token.view → g.token.word.ended ≡ false → Stands k g
passing_stands k g q fits here e = record { going = going g.progress q; tier = here; tries = tries g.progress q fits }
  where
    going : (p : Progress) → is_passing p ≡ true → is_going p ≡ true
    going Idle q = not_both false q refl
    going (Begun c) q = not_both false q refl
    going (ToSeek tier size) q = refl
    going Settling q = refl
    going (ToGiveBack answer) q = refl
    going (Passing passage) q = refl
    going (Owing own) q = refl
    going (Due own) q = refl
    going (Refreshing passed_on) q = refl

    tries : (p : Progress) → is_passing p ≡ true → CallFits k.shape p g.token.view
        → is_look (turn_by k.shape false g.token.word p g.token.view).kind ≡ false
    tries Idle q fits = not_both false q refl
    tries (Begun c) q fits = not_both false q refl
    tries (ToSeek tier size) q fits = not_both false q refl
    tries Settling q fits = not_both false q refl
    tries (ToGiveBack answer) q fits = not_both false q refl
    tries (Passing passage) q fits =
        pass_tries k.shape passage g.token.view.tier passage (own_kind passage) (Passing passage) (end_shown g.token.word) g.token.word
        g.token.view (quiet_own passage) e
    tries (Owing own) q fits =
        subst (λ (z : Errand). is_look (climb_turn k.shape own g.token.word g.token.view z).kind ≡ false) (sym fits.2)
        (pass_tries k.shape own fits.0 fits.1 (Climb fits.1) (Owing own) (Done g.token.view.phase) g.token.word g.token.view refl e)
    tries (Due own) q fits = ap (λ (b : Bool). is_look (cond b Look (Advance false))) e
    tries (Refreshing passed_on) q fits = not_both false q refl

-- the turn of a step at the token's tier, and of a climb, at the point that the token has reached
pub own_turn : (k : Key) (g : Going) (own : Passage) → g.progress ≡ Passing own → Stands k g
    → turn_by k.shape false g.token.word g.progress g.token.view
    ≡ pass_turn k.shape own g.token.tier own (own_kind own) g.progress (end_shown g.token.word) g.token.word g.token.view
own_turn k g own p st =
    let here : g.token.view.tier ≡ g.token.tier = sym (st.tier ∙ ap (λ (z : Progress). place k.shape z g.token.view) p) in
    ap (λ (z : Progress). turn_by k.shape false g.token.word z g.token.view) p
    ∙ (λ i. pass_turn k.shape own (here i) own (own_kind own) (sym p i) (end_shown g.token.word) g.token.word g.token.view)

pub climb_by : (k : Key) (g : Going) (own : Passage) (t : ℕ) (passage : Passage) → g.progress ≡ Owing own
    → g.token.view.errand ≡ Climbing t passage → Stands k g
    → turn_by k.shape false g.token.word g.progress g.token.view
    ≡ pass_turn k.shape own g.token.tier passage (Climb passage) g.progress (Done g.token.view.phase) g.token.word g.token.view
climb_by k g own t passage p is st =
    let here : t ≡ g.token.tier = sym (st.tier ∙ (ap (λ (z : Progress). place k.shape z g.token.view) p ∙ ap (errand_place k.shape) is)) in
    ap (λ (z : Progress). turn_by k.shape false g.token.word z g.token.view) p
    ∙ (ap (climb_turn k.shape own g.token.word g.token.view) is
    ∙ (λ i. pass_turn k.shape own (here i) passage (Climb passage) (sym p i) (Done g.token.view.phase) g.token.word g.token.view))

pub due_turn : (k : Key) (g : Going) (own : Passage) (ends : Bool) → g.progress ≡ Due own → g.token.word.ended ≡ false
    → turn_by k.shape ends g.token.word g.progress g.token.view
    ≡ record { kind = Advance ends; tier = 0; next = Idle; answer = Done g.token.view.phase }
due_turn k g own ends p e =
    ap (λ (z : Progress). turn_by k.shape ends g.token.word z g.token.view) p
    ∙ ap (λ (b : Bool). record { kind = cond b Look (Advance ends); tier = 0; next = Idle; answer = Done g.token.view.phase }) e

pub passing_going : (p : Progress) → is_passing p ≡ true → is_going p ≡ true
passing_going Idle q = not_both false q refl
passing_going (Begun c) q = not_both false q refl
passing_going (ToSeek tier size) q = refl
passing_going Settling q = refl
passing_going (ToGiveBack answer) q = refl
passing_going (Passing passage) q = refl
passing_going (Owing own) q = refl
passing_going (Due own) q = refl
passing_going (Refreshing passed_on) q = refl

passing_means : (p : Progress) (v : View) → is_passing p ≡ true → meant p v ≡ Look
passing_means (ToSeek tier size) v q = not_both false q refl
passing_means _ v q = refl

no_way_back : (p : Progress) → is_passing p ≡ true → is_back p ≡ false
no_way_back (ToGiveBack answer) q = not_both false q refl
no_way_back _ q = refl

no_way_on : (p p' : Progress) (b : Bool) → is_passing p ≡ true → p' ≡ cond b Idle p → is_back p' ≡ false
no_way_on p p' true q e = ap is_back e
no_way_on p p' false q e = ap is_back e ∙ no_way_back p q

-- what such a look or a lost try leaves, by the word that was found
module _ (n : Named) (g g' : Going) (h : Holding) (phase : ℕ) (at : IsAt n g) (passing : is_passing g.progress ≡ true)
    (was : g.token.view.phase ≡ phase)
    (is : g'.token ≡ h) (next : g'.progress ≡ cond h.word.ended Idle g.progress)
    (says : g'.answer ≡ cond h.word.ended (over_at g.progress phase h.word) GoesOn) where
  after : After n.key.shape g.progress g.token.view g'
  after =
      let same : h.word ≡ g'.token.word = ap (λ (z : Holding). z.word) (sym is) in
      missed_after n.key.shape g.progress g.token.view phase g' passing at.fits was
      (next ∙ ap (λ (z : Fields). cond z.ended Idle g.progress) same)
      (says ∙ ap (λ (z : Fields). cond z.ended (over_at g.progress phase z) GoesOn) same)

  pub looked_to : (t : ℕ) → t ≡ place n.key.shape g.progress g.token.view → Took (looking Look t h.word) t h.word 0 g.token h → Stood n g g'
  looked_to t here took =
      let means : Look ≡ meant g.progress g.token.view = sym (passing_means g.progress g.token.view passing) in
      let l = looks_on n 0 g g' h at (passing_going g.progress passing)
      (subst (λ (z : Kind × ℕ). Took (looking z.0 z.1 h.word) z.1 h.word 0 g.token h) (λ i. (means i, here i)) took) is after in
      record {
        went = l.step;
        next = ⊎_elim
            (λ (z : g'.progress ≡ Idle). inl (ap is_going z))
            (λ z. ⊎_elim (λ (s : Stands n.key g'). inr s)
            (λ (b : is_back g'.progress ≡ true). not_both (is_back g'.progress) b (no_way_on g.progress g'.progress h.word.ended passing next))
            z)
            l.next;
      }

  pub lost_to : (b : Bool) → Stands n.key g → EndsAsPlanned n.key b g
      → Lost (turn_by n.key.shape b g.token.word g.progress g.token.view).kind g.token h → WentOn n 1 g g'
  lost_to b st says' l = lost_on n b g at st says' g' h l is after

-- one try at most
pub stands_by : {n : Named} {g g' : Going} → Stood n g g' → is_going g'.progress ≡ true → Stands n.key g'
stands_by {n} {g} {g'} s e =
    ⊎_elim (λ (z : is_going g'.progress ≡ false). not_both (is_going g'.progress) e z) (λ (z : Stands n.key g'). z) s.next

pub ran_once : {n : Named} {g g' g'' : Going} → WentOn n 0 g g' → WentOn n 1 g' g'' → Ran n 1 g g''
ran_once {n} {g} {g'} {g''} a b = record { used = 1; went = went_then n 0 1 g g' g'' a b; few = omega arith; all = λ e. refl }

-- Until it is over, a call has come only so far as `kept` says.
abbrev Only : (Progress → Bool) → Progress → Type 0
Only kept p = is_going p ≡ true → kept p ≡ true

owed_kept : (kept : Progress → Bool) (own : Passage) → kept (Owing own) ≡ true → kept (Due own) ≡ true → (e : Errand)
    → Only kept (goes_on own e)
owed_kept kept own owing due Rest g = not_both false g refl
owed_kept kept own owing due Advancing g = due
owed_kept kept own owing due (Climbing t passage) g = owing
owed_kept kept own owing due (Opening tier claimed stage size) g = not_both false g refl

-- so it is after a step that passes a tier
pass_kept : (kept : Progress → Bool) (ps : List ℕ) (own : Passage) (t : ℕ) (passage : Passage) (kind : Kind) (here : Progress)
    (over : Played) (w : Fields) (v : View)
    → kept (Owing own) ≡ true → kept (Due own) ≡ true → Only kept here → Only kept (pass_turn ps own t passage kind here over w v).next
pass_kept kept ps own t passage kind here over w v owing due h =
    by_cond (λ (r : Turn). Only kept r.next) w.ended _ _ (λ e g. not_both false g refl)
    (λ e. by_cond (λ (r : Turn). Only kept r.next) (lags w v) _ _ (λ f. h) (λ f. owed_kept kept own owing due (owed (parent_of ps t) t passage w)))

climb_kept : (kept : Progress → Bool) (ps : List ℕ) (own : Passage) (w : Fields) (v : View) → CallFits ps (Owing own) v
    → kept (Owing own) ≡ true → kept (Due own) ≡ true
    → Only kept (climb_turn ps own w v v.errand).next
climb_kept kept ps own w v fits owing due =
    subst (λ (e : Errand). Only kept (climb_turn ps own w v e).next) (sym fits.2)
    (pass_kept kept ps own fits.0 fits.1 (Climb fits.1) (Owing own) (Done v.phase) w v owing due (λ g. owing))

-- What each next step keeps, the whole call keeps.
call_kept : (kept : Progress → Bool)
    → ((ps : List ℕ) (b : Bool) (w : Fields) (p : Progress) (v : View) → CallFits ps p v → kept p ≡ true
    → Only kept (turn_by ps b w p v).next)
    → (k : Key) (from at : Position) → kept from.progress ≡ true → Goes k from at → Only kept at.progress
call_kept kept next k from at q starts = λ g. q
call_kept kept next k from at q (steps at' w b go fits g beside says found) =
    next k.shape b w at'.progress at'.view fits (call_kept kept next k from at' q go g)
call_kept kept next k from at q (looks at' w go fits g beside) =
    let r : Turn = turn_by k.shape false w at'.progress at'.view in
    let t : ℕ = place k.shape at'.progress at'.view in
    let kind : Kind = looking (meant at'.progress at'.view) t w in
    let u : View = view_after (parent_of k.shape t) kind t w at'.view in
    by_test
    (λ c. Only kept
    (cond {A = Position} c (record { progress = r.next; view = u; answer = r.answer; steps = kind ∷ at'.steps })
    (record { progress = at'.progress; view = u; answer = GoesOn; steps = kind ∷ at'.steps })).progress)
    (is_look r.kind)
    (λ e. next k.shape false w at'.progress at'.view fits (call_kept kept next k from at' q go g))
    (λ e. call_kept kept next k from at' q go)

-- an arrival or a departure stays one until it is over
next_passes : (ps : List ℕ) (b : Bool) (w : Fields) (p : Progress) (v : View) → CallFits ps p v → is_passing p ≡ true
    → Only is_passing (turn_by ps b w p v).next
next_passes ps b w (Passing passage) v fits q =
    pass_kept is_passing ps passage v.tier passage (own_kind passage) (Passing passage) (end_shown w) w v refl refl (λ g. refl)
next_passes ps b w (Owing own) v fits q = climb_kept is_passing ps own w v fits refl refl
next_passes ps b w (Due own) v fits q = λ g. not_both false g refl
next_passes ps b w _ v fits q = not_both false q refl

pub passing_on : {n : Named} {used : ℕ} {from at : Going} → WentOn n used from at → is_passing from.progress ≡ true
    → is_going at.progress ≡ true → is_passing at.progress ≡ true
passing_on {n} {used} {from} {at} went q g =
    call_kept is_passing next_passes n.key (position from) (position at) q (went.goes (position from) starts) g

-- after it has passed its token's tier, a call never comes back to it
next_owes : (ps : List ℕ) (b : Bool) (w : Fields) (p : Progress) (v : View) → CallFits ps p v → is_owing p ≡ true
    → Only is_owing (turn_by ps b w p v).next
next_owes ps b w (Owing own) v fits q = climb_kept is_owing ps own w v fits refl refl
next_owes ps b w (Due own) v fits q = λ g. not_both false g refl
next_owes ps b w _ v fits q = not_both false q refl

pub owing_on : {n : Named} {used : ℕ} {from at : Going} → WentOn n used from at → is_owing from.progress ≡ true
    → is_going at.progress ≡ true → is_owing at.progress ≡ true
owing_on {n} {used} {from} {at} went q g =
    call_kept is_owing next_owes n.key (position from) (position at) q (went.goes (position from) starts) g

-- some tries more
pub ran_more : {n : Named} {a b : ℕ} {g g' g'' : Going} → Ran n a g g' → is_going g'.progress ≡ true → Ran n b g' g'' → Ran n (a + b) g g''
ran_more {n} {a} {b} {g} {g'} {g''} r on s = record {
  used = r.used + s.used;
  went = went_then n r.used s.used g g' g'' r.went s.went;
  few = (let x = r.few in let y = s.few in omega arith);
  all = λ e. (let x = r.all on in let y = s.all e in omega arith);
}

pub ran_all : {n : Named} {a b : ℕ} {g g' : Going} → a ≡ b → Ran n a g g' → Ran n b g g'
ran_all {n} {a} {b} {g} {g'} is r = subst (λ (c : ℕ). Ran n c g g') is r

-- one that is over needed no more
pub ran_less : {n : Named} {a b : ℕ} {g g' : Going} → a ≤ b → is_going g'.progress ≡ false → Ran n a g g' → Ran n b g g'
ran_less {n} {a} {b} {g} {g'} few off r = record {
  used = r.used;
  went = r.went;
  few = (let x = r.few in omega arith);
  all = λ e. not_both (is_going g'.progress) e off;
}
