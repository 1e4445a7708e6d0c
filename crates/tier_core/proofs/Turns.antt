-- Each turn of a call is a step that its token may take, and keeps what the call keeps of its view.
use Rattle.std.proofs.Common.{◌≡◌, ◌≢◌, ℕ, zero, suc, ◌+◌, ◌<◌, ◌≤◌, ◌⊎◌, inl, inr, ⊎_elim, Bool, true, false, cond, eqb, ltb, List, ◌∷◌, ◌++◌, length, refl, sym, ◌∙◌, ap, subst, arith, Some, None}
use Rattle.std.specs.Prelude.{◌&&◌, ◌||◌, not}
use Rattle.std.proofs.Math.ListN.{get_or-eq_default}
use Rattle.std.proofs.lemmas.Bool.{cases_eq, cases_lt, eq-eqb, ne_eqb, eqb-true, eqb-false, lt-ltb, ltb-true, ltb-false}
use Rattle.flat_phaser.proofs.Everyone.{either, both_true}
use Rattle.phaser_word.specs.Fields.{Fields, IsLegal}
use Rattle.tier_steps.specs.Word.{is_being_opened}
use Rattle.tier_steps.specs.declared.view.View.{View}
use Rattle.tier_steps.specs.declared.view.Errand.{Errand}
use Rattle.tier_steps.specs.declared.view.Errand.TheVariants.{Rest, Opening, Climbing, Advancing}
use Rattle.tier_steps.specs.declared.view.OpeningStage.TheVariants.{Seeking, Joined, GoingBack}
use Rattle.tier_steps.specs.declared.view.Passage.{Passage}
use Rattle.tier_steps.specs.declared.view.Passage.TheVariants.{Arrival, Departure}
use Rattle.tier_shape.specs.Parents.{parent_of}
use Rattle.tier_steps.specs.View.{ancestor, absent}
use Rattle.tier_steps.specs.Tally.{blank, word_at, root_phase, Tallies, ViewFits, ErrandFits, KeepsUp}
use Rattle.tier_shape.specs.Parents.{IsShape}
use Rattle.tier_steps.specs.declared.kind.Kind.TheVariants.{Look, Glance, Refuse, Join, Arrive, Leave, Advance, Claim, Climb, Refresh}
use Rattle.tier_steps.specs.declared.kind.Kind.{Kind}
use Rattle.tier_steps.specs.Step.{CanPass, CanClimb, Admits, Refuses, IsFree, IsDue, opening, added, owed, looked, moved, dropped, given_up, passed, is_going_back, refused, view_after}
use Rattle.tier_core.specs.Turn.{Call, Progress, Played, GoesOn, Done, Passed, Waiting, Held, Full, AlreadyArrived, Ended, MustAdvance, IsInRange, Idle, Begun, ToSeek, Settling, ToGiveBack, Passing, Owing, Due, Refreshing, Turn, turn, turn_by, place, pass_turn, finish_turn, first_turn, seek_turn, settle_turn, give_back_turn, climb_turn, last_look, claimed_by, lags, has_no_room, is_refusing, is_claimable, refusal, is_refusal, cause_of, polled, end_shown, giving_back, settling, unless_claimed, goes_on, reported, own_kind, errand_place}
use Rattle.tier_core.specs.Machine.{IsWanted, BegunFits, CallFits, IsNext, TurnsAreSteps, is_going, OneWordIsEnough, OneWordTellsRanges}
use Rattle.tier_core.specs.declared.call.Call.TheVariants as call
use Rattle.tier_steps.proofs.Legal.{legal_empty, passed_legal}
use Rattle.tier_steps.proofs.Advance.{ancestor_within}
use Rattle.tier_steps.proofs.KindLaw.{mine}
use Rattle.tier_steps.proofs.Pass.{owed_is, only_here, stands, resting_late, absent_current, waiting_open, unarrived_is_current, climbing_late}
use Rattle.tier_steps.proofs.Looking.{move_keeps, looked_on}

-- a test, with what it says in each case
pub by_test : (P : Bool → Type 0) (b : Bool) → (b ≡ true → P true) → (b ≡ false → P false) → P b
by_test P true yes_ no_ = yes_ refl
by_test P false yes_ no_ = no_ refl

pub not_both : {A : Type 0} (b : Bool) → b ≡ true → b ≡ false → A
not_both b e f = absurd (let g : true ≡ false = sym e ∙ f in cc)

-- a look at the root keeps the size, and moves only tokens whose members have all arrived
pub looked_size : (w : Fields) (v : View) → (looked w v).size ≡ v.size
looked_size w v =
    let u : View = record v { led = false; note = cond (is_going_back v.errand) v.note None } in
    by_test (λ b. (cond b (record u { end_seen = Some w.phase; errand = dropped v.errand }) (moved w u)).size ≡ v.size) w.ended
    (λ _. refl) (λ _. move_keeps (λ x. x.size ≡ v.size) w u refl (λ _ _. refl))

pub looked_tier : (w : Fields) (v : View) → (looked w v).tier ≡ v.tier
looked_tier w v =
    let u : View = record v { led = false; note = cond (is_going_back v.errand) v.note None } in
    by_test (λ b. (cond b (record u { end_seen = Some w.phase; errand = dropped v.errand }) (moved w u)).tier ≡ v.tier) w.ended
    (λ _. refl) (λ _. move_keeps (λ x. x.tier ≡ v.tier) w u refl (λ _ _. refl))

-- what is owed after it
pub looked_open : (w : Fields) (v : View) → w.ended ≡ false → (looked w v).errand ≡ v.errand
looked_open w v going =
    let u : View = record v { led = false; note = cond (is_going_back v.errand) v.note None } in
    by_test (λ b. b ≡ false → (cond b (record u { end_seen = Some w.phase; errand = dropped v.errand }) (moved w u)).errand ≡ v.errand)
    w.ended
    (λ _ e. not_both true refl e) (λ _ _. move_keeps (λ x. x.errand ≡ v.errand) w u refl (λ _ _. refl)) going

pub looked_ended : (w : Fields) (v : View) → w.ended ≡ true → (looked w v).errand ≡ dropped v.errand
looked_ended w v e =
    let u : View = record v { led = false; note = cond (is_going_back v.errand) v.note None } in
    ap (λ b. (cond b (record u { end_seen = Some w.phase; errand = dropped v.errand }) (moved w u)).errand) e

pub looked_rests : (w : Fields) (v : View) → v.errand ≡ Rest → (looked w v).errand ≡ Rest
looked_rests w v e = ⊎_elim
    (λ (ended : w.ended ≡ true). looked_ended w v ended ∙ ap dropped e)
    (λ (going : w.ended ≡ false). looked_open w v going ∙ e)
    (either w.ended)

pub looked_fits : (ps : List ℕ) (ws : List Fields) (front back : List View) (v : View) → (word_at ws 0).ended ≡ false
    → Tallies ps ws (front ++ v ∷ back)
    → ViewFits ps (root_phase ws) (word_at ws 0).ended (looked (word_at ws 0) v)
looked_fits ps ws front back v going tally = (looked_on ps (word_at ws 0) v going (mine ps ws front back v tally)).1

-- a turn that its token may take
abbrev pub Goes : List ℕ → List Fields → View → Turn → Type 0
Goes ps ws v r = IsNext ps ws v r.kind r.tier r.next

by_cond : (P : Turn → Type 0) (b : Bool) (x y : Turn) → (b ≡ true → P x) → (b ≡ false → P y) → P (cond b x y)
by_cond P true x y f g = f refl
by_cond P false x y f g = g refl

-- the first step of a join
wanted_kept : (ps : List ℕ) (tier size : ℕ) (v v' : View) → v'.size ≡ v.size → IsWanted ps tier size v → IsWanted ps tier size v'
wanted_kept ps tier size v v' e h = record { place = h.place; some = h.some; few = h.few; none = e ∙ h.none }

seeks : (ps : List ℕ) (tier size : ℕ) (v : View) → v.errand ≡ Rest → IsWanted ps tier size v → CallFits ps (ToSeek tier size) v
seeks ps tier size v e h = (subst (λ (x : Errand). x ≡ opening tier (claimed_by x) Seeking size) (sym e) refl, h)

or_parts : (a b : Bool) → (a || b) ≡ true → (a ≡ true) ⊎ (b ≡ true)
or_parts true b e = inl refl
or_parts false b e = inr e

neither : (a b : Bool) → (a || b) ≡ false → (a ≡ false) × (b ≡ false)
neither true b e = not_both true refl e
neither false b e = (refl, e)

both_hold : (a b : Bool) → a ≡ true → b ≡ true → (a && b) ≡ true
both_hold a b e f = ap (λ x. x && b) e ∙ f

refuses : (more : ℕ) (w : Fields) → w.ended ≡ false → is_refusing more w ≡ true → Refuses more w
refuses more w going e = (
  going,
  ⊎_elim
      (λ (a : has_no_room more w ≡ true). inl (ltb-true 65535 (w.parties + more) a))
      (λ (b : (eqb w.unarrived 0 || is_being_opened w) ≡ true). ⊎_elim
      (λ (c : eqb w.unarrived 0 ≡ true). inr (inl (eqb-true w.unarrived 0 c)))
      (λ (d : is_being_opened w ≡ true). inr (inr d))
      (or_parts (eqb w.unarrived 0) (is_being_opened w) b))
      (or_parts (has_no_room more w) (eqb w.unarrived 0 || is_being_opened w) e),
)

join_first : (ps : List ℕ) (ws : List Fields) (v : View) (tier size : ℕ) → IsShape ps → 0 < length ws → v.errand ≡ Rest
    → IsWanted ps tier size v
    → (word_at ws 0).ended ≡ false
    → IsNext ps ws v (cond (eqb tier 0 && is_refusing size (word_at ws 0)) (Refuse 0 0 size) Look) 0 (ToSeek tier size)
join_first ps ws v tier size shape some rest wanted going =
    by_test (λ b. IsNext ps ws v (cond b (Refuse 0 0 size) Look) 0 (ToSeek tier size)) (eqb tier 0 && is_refusing size (word_at ws 0))
    (λ e. record {
      within = some;
      needs = (
        record { here = refl; errand = rest; none = wanted.none; some = wanted.some; few = wanted.few; place = shape.some },
        refuses size (word_at ws 0) going (both_true (eqb tier 0) (is_refusing size (word_at ws 0)) e).1,
      );
      keeps = seeks ps tier size (refused 0 (word_at ws 0) v) (ap given_up (looked_rests (word_at ws 0) v rest))
          (wanted_kept ps tier size v (refused 0 (word_at ws 0) v) (looked_size (word_at ws 0) v) wanted);
    })
    (λ e. record {
      within = some;
      needs = refl;
      keeps = seeks ps tier size (looked (word_at ws 0) v) (looked_rests (word_at ws 0) v rest)
          (wanted_kept ps tier size v (looked (word_at ws 0) v) (looked_size (word_at ws 0) v) wanted);
    })

-- a look at the root with which a call ends
ends_look : (ps : List ℕ) (ws : List Fields) (v : View) → 0 < length ws → v.errand ≡ Rest → IsNext ps ws v Look 0 Idle
ends_look ps ws v some rest = record { within = some; needs = refl; keeps = looked_rests (word_at ws 0) v rest }

some_left : (ps : List ℕ) (ws : List Fields) (front back : List View) (v : View) → (word_at ws 0).ended ≡ false
    → Tallies ps ws (front ++ v ∷ back)
    → eqb (looked (word_at ws 0) v).arrived v.size ≡ false → (looked (word_at ws 0) v).arrived < (looked (word_at ws 0) v).size
some_left ps ws front back v going tally e =
    let a = (looked_fits ps ws front back v going tally).within in
    let b = looked_size (word_at ws 0) v in
    let c = eqb-false (looked (word_at ws 0) v).arrived v.size e in
    omega arith

-- the first step of an arrival or a departure
pass_first : (ps : List ℕ) (ws : List Fields) (front back : List View) (v : View) (passage : Passage) → Tallies ps ws (front ++ v ∷ back)
    → v.errand ≡ Rest
    → IsNext ps ws v Look 0 (cond (word_at ws 0).ended Idle (cond (eqb (looked (word_at ws 0) v).arrived v.size) Idle (Passing passage)))
pass_first ps ws front back v passage tally rest =
    by_test (λ b. IsNext ps ws v Look 0 (cond b Idle (cond (eqb (looked (word_at ws 0) v).arrived v.size) Idle (Passing passage))))
    (word_at ws 0).ended
    (λ _. ends_look ps ws v tally.some rest)
    (λ going. by_test (λ b. IsNext ps ws v Look 0 (cond b Idle (Passing passage))) (eqb (looked (word_at ws 0) v).arrived v.size)
    (λ _. ends_look ps ws v tally.some rest)
    (λ e. record {
      within = tally.some;
      needs = refl;
      keeps = (looked_rests (word_at ws 0) v rest, some_left ps ws front back v going tally e);
    }))

not_true : (b : Bool) → not b ≡ true → b ≡ false
not_true true e = not_both false e refl
not_true false e = refl

lag_parts : (w : Fields) (v : View) → lags w v ≡ true → (0 < w.parties) × (w.unarrived ≡ 0) × (w.phase ≢ v.phase)
lag_parts w v e =
    let a = both_true (ltb 0 w.parties) (eqb w.unarrived 0 && not (eqb w.phase v.phase)) e in
    let b = both_true (eqb w.unarrived 0) (not (eqb w.phase v.phase)) a.1 in
    (ltb-true 0 w.parties a.0, eqb-true w.unarrived 0 b.0, eqb-false w.phase v.phase (not_true (eqb w.phase v.phase) b.1))

lag_shown : (w : Fields) (v : View) → 0 < w.parties → w.unarrived ≡ 0 → w.phase ≢ v.phase → lags w v ≡ true
lag_shown w v p u n = both_hold (ltb 0 w.parties) (eqb w.unarrived 0 && not (eqb w.phase v.phase)) (lt-ltb 0 w.parties p)
    (both_hold (eqb w.unarrived 0) (not (eqb w.phase v.phase)) (eq-eqb w.unarrived 0 u) (ap not (ne_eqb w.phase v.phase n)))

-- a tier that lags behind a token which counts there is below the root
lags_below : (ps : List ℕ) (ws : List Fields) (front back : List View) (v : View) → (word_at ws 0).ended ≡ false
    → Tallies ps ws (front ++ v ∷ back)
    → (looked (word_at ws 0) v).arrived < (looked (word_at ws 0) v).size → lags (word_at ws v.tier) (looked (word_at ws 0) v) ≡ true
    → 0 < (looked (word_at ws 0) v).tier
lags_below ps ws front back v going tally some e = ⊎_elim
    (λ (z : v.tier ≡ 0). absurd (
    let a = (lag_parts (word_at ws v.tier) (looked (word_at ws 0) v) e).2 in
    let b : (word_at ws v.tier).phase ≡ (word_at ws 0).phase = ap (λ t. (word_at ws t).phase) z in
    let c =
    unarrived_is_current ps (root_phase ws) (word_at ws 0).ended (looked (word_at ws 0) v) (looked_fits ps ws front back v going tally)
    some in
    a (b ∙ sym c)))
    (λ (n : v.tier ≢ 0). let t = looked_tier (word_at ws 0) v in omega arith)
    (cases_eq v.tier 0)

-- the first step of a poll
poll_first : (ps : List ℕ) (ws : List Fields) (front back : List View) (v : View) (has_moved : Bool) → Tallies ps ws (front ++ v ∷ back)
    → v.errand ≡ Rest
    → IsNext ps ws v Look 0 (cond (word_at ws 0).ended Idle (cond (eqb (looked (word_at ws 0) v).arrived v.size) Idle
    (cond (lags (word_at ws v.tier) (looked (word_at ws 0) v)) (Refreshing has_moved) Idle)))
poll_first ps ws front back v has_moved tally rest =
    by_test (λ b. IsNext ps ws v Look 0 (cond b Idle (cond (eqb (looked (word_at ws 0) v).arrived v.size) Idle
    (cond (lags (word_at ws v.tier) (looked (word_at ws 0) v)) (Refreshing has_moved) Idle)))) (word_at ws 0).ended
    (λ _. ends_look ps ws v tally.some rest)
    (λ going. by_test (λ b. IsNext ps ws v Look 0 (cond b Idle
    (cond (lags (word_at ws v.tier) (looked (word_at ws 0) v)) (Refreshing has_moved) Idle))) (eqb (looked (word_at ws 0) v).arrived v.size)
    (λ _. ends_look ps ws v tally.some rest)
    (λ e. by_test (λ b. IsNext ps ws v Look 0 (cond b (Refreshing has_moved) Idle)) (lags (word_at ws v.tier) (looked (word_at ws 0) v))
    (λ l. record {
      within = tally.some;
      needs = refl;
      keeps = (
        looked_rests (word_at ws 0) v rest,
        some_left ps ws front back v going tally e,
        lags_below ps ws front back v going tally (some_left ps ws front back v going tally e) l,
      );
    })
    (λ _. ends_look ps ws v tally.some rest)))

begun : (ps : List ℕ) (ws : List Fields) (front back : List View) (v : View) (c : Call) → IsShape ps → Tallies ps ws (front ++ v ∷ back)
    → v.errand ≡ Rest → BegunFits ps c v → Goes ps ws v (first_turn c (word_at ws 0) (word_at ws v.tier) v)
begun ps ws front back v (call.Join tier size) shape tally rest fits =
    by_test
    (λ b. IsNext ps ws v (cond b Look (cond (eqb tier 0 && is_refusing size (word_at ws 0)) (Refuse 0 0 size) Look)) 0 (cond b Idle (ToSeek tier size)))
    (word_at ws 0).ended
    (λ _. ends_look ps ws v tally.some rest)
    (λ going. join_first ps ws v tier size shape tally.some rest fits going)
begun ps ws front back v call.Arrive shape tally rest fits = pass_first ps ws front back v Arrival tally rest
begun ps ws front back v call.Leave shape tally rest fits = pass_first ps ws front back v Departure tally rest
begun ps ws front back v call.Poll shape tally rest fits =
    poll_first ps ws front back v (not (eqb (looked (word_at ws 0) v).phase v.phase)) tally rest
begun ps ws front back v call.Force shape tally rest fits = record { within = tally.some; needs = refl; keeps = rest }

-- how a join with this many claimed tiers goes on
settles : (ps : List ℕ) (tier claimed size : ℕ) (v : View) → v.errand ≡ opening tier claimed Joined size → CallFits ps (settling claimed) v
settles ps tier zero size v e = e
settles ps tier (suc claimed) size v e = (tier, claimed, size, e)

gives_back : (ps : List ℕ) (tier claimed size : ℕ) (answer : Played) (v : View) → v.errand ≡ opening tier claimed GoingBack size
    → is_refusal answer ≡ true → CallFits ps (giving_back claimed answer) v
gives_back ps tier zero size answer v e refused = e
gives_back ps tier (suc claimed) size answer v e refused = (tier, claimed, size, e, refused)

pub refusal_is : (t more phase : ℕ) (w : Fields) → is_refusal (refusal t more phase w) ≡ true
refusal_is t more phase w =
    by_test (λ b. is_refusal (cond b (Full w.parties) (Held phase (cause_of t phase w))) ≡ true) (has_no_room more w) (λ _. refl)
    (λ _. refl)

dropped_path : (tier claimed size : ℕ) → dropped (opening tier claimed Seeking size) ≡ opening tier claimed GoingBack size
dropped_path tier zero size = refl
dropped_path tier (suc claimed) size = refl

given_up_path : (tier claimed size : ℕ) → given_up (opening tier claimed Seeking size) ≡ opening tier claimed GoingBack size
given_up_path tier zero size = refl
given_up_path tier (suc claimed) size = refl

refused_errand : (t : ℕ) (w : Fields) (v : View) → w.ended ≡ false → (refused t w v).errand ≡ given_up v.errand
refused_errand zero w v going = ap given_up (looked_open w v going)
refused_errand (suc t) w v going = refl

-- a tier that has ended is the root
is_root : (ps : List ℕ) (ws : List Fields) (vs : List View) (t : ℕ) → Tallies ps ws vs → t < length ws → (word_at ws t).ended ≡ true → t ≡ 0
is_root ps ws vs t tally h e = ⊎_elim (λ (z : t ≡ 0). z)
    (λ (n : t ≢ 0). not_both (word_at ws t).ended e (tally.ends t (omega arith) h)) (cases_eq t 0)

admits : (t more : ℕ) (w : Fields) → w.ended ≡ false → IsLegal w → is_refusing more w ≡ false → is_claimable t w ≡ false → Admits t more w
admits t more w going legal kept unclaimable =
    let a = neither (has_no_room more w) (eqb w.unarrived 0 || is_being_opened w) kept in
    let b = neither (eqb w.unarrived 0) (is_being_opened w) a.1 in
    let waits : w.unarrived ≢ 0 = eqb-false w.unarrived 0 b.0 in
    record {
      going = going;
      waits = omega arith;
      empty = λ none.
          (let legal_ = legal_empty w legal none in
          let c : eqb w.unarrived 2 ≡ false = sym (ap (λ x. cond x (eqb w.unarrived 2) false) (eq-eqb w.parties 0 none)) ∙ b.1 in
          let d : w.unarrived ≢ 2 = eqb-false w.unarrived 2 c in
          let one : w.unarrived ≡ 1 = omega arith in (
            ⊎_elim (λ (z : t ≡ 0). z) (λ (n : t ≢ 0). not_both (is_claimable t w)
                (both_hold (ltb 0 t) (eqb w.parties 0 && eqb w.unarrived 1) (lt-ltb 0 t (omega arith))
                (both_hold (eqb w.parties 0) (eqb w.unarrived 1) (eq-eqb w.parties 0 none) (eq-eqb w.unarrived 1 one))) unclaimable)
                (cases_eq t 0),
            one,
          ));
      capacity = (let r = ltb-false 65535 (w.parties + more) a.0 in omega arith);
    }

free : (t : ℕ) (w : Fields) → is_claimable t w ≡ true → IsFree t w
free t w e =
    let a = both_true (ltb 0 t) (eqb w.parties 0 && eqb w.unarrived 1) e in
    let b = both_true (eqb w.parties 0) (eqb w.unarrived 1) a.1 in
    record { below = ltb-true 0 t a.0; none = eqb-true w.parties 0 b.0; unclaimed = eqb-true w.unarrived 1 b.1 }

-- a join with this many claimed tiers, at the next tier of its path
seek : (ps : List ℕ) (ws : List Fields) (front back : List View) (v : View) (tier claimed size t : ℕ) → Tallies ps ws (front ++ v ∷ back)
    → t < length ws → IsDue ps tier claimed size t v → Goes ps ws v (seek_turn tier claimed size t (word_at ws t) v)
seek ps ws front back v tier claimed size t tally h due =
    let w : Fields = word_at ws t in
    by_cond (Goes ps ws v) (word_at ws t).ended
    (record {
      kind = Look;
      tier = 0;
      next = giving_back claimed (end_shown (word_at ws t));
      answer = unless_claimed claimed (end_shown (word_at ws t));
    })
    (cond (is_refusing (added claimed size) (word_at ws t)) (record {
      kind = Refuse tier claimed size;
      tier = t;
      next = giving_back claimed (refusal t (added claimed size) (refused t (word_at ws t) v).phase (word_at ws t));
      answer = unless_claimed claimed (refusal t (added claimed size) (refused t (word_at ws t) v).phase (word_at ws t));
    })
    (cond (is_claimable t (word_at ws t)) (record { kind = Claim tier claimed size; tier = t; next = ToSeek tier size; answer = GoesOn })
    (record {
      kind = Join tier claimed size;
      tier = t;
      next = settling claimed;
      answer = unless_claimed claimed (Done (word_at ws t).phase);
    })))
    (λ e. record {
      within = tally.some;
      needs = refl;
      keeps = gives_back ps tier claimed size (end_shown (word_at ws t)) (looked (word_at ws 0) v)
          (looked_ended (word_at ws 0) v (ap (λ k. (word_at ws k).ended) (sym (is_root ps ws (front ++ v ∷ back) t tally h e)) ∙ e)
          ∙ (ap dropped due.errand ∙ dropped_path tier claimed size)) refl;
    })
    (λ going. by_cond (Goes ps ws v) (is_refusing (added claimed size) (word_at ws t))
    (record {
      kind = Refuse tier claimed size;
      tier = t;
      next = giving_back claimed (refusal t (added claimed size) (refused t (word_at ws t) v).phase (word_at ws t));
      answer = unless_claimed claimed (refusal t (added claimed size) (refused t (word_at ws t) v).phase (word_at ws t));
    })
    (cond (is_claimable t (word_at ws t)) (record { kind = Claim tier claimed size; tier = t; next = ToSeek tier size; answer = GoesOn })
    (record {
      kind = Join tier claimed size;
      tier = t;
      next = settling claimed;
      answer = unless_claimed claimed (Done (word_at ws t).phase);
    }))
    (λ e. record {
      within = h;
      needs = (due, refuses (added claimed size) (word_at ws t) going e);
      keeps = gives_back ps tier claimed size (refusal t (added claimed size) (refused t (word_at ws t) v).phase (word_at ws t))
          (refused t (word_at ws t) v)
          (refused_errand t (word_at ws t) v going ∙ (ap given_up due.errand ∙ given_up_path tier claimed size))
          (refusal_is t (added claimed size) (refused t (word_at ws t) v).phase (word_at ws t));
    })
    (λ kept. by_cond (Goes ps ws v) (is_claimable t (word_at ws t))
    (record { kind = Claim tier claimed size; tier = t; next = ToSeek tier size; answer = GoesOn })
    (record {
      kind = Join tier claimed size;
      tier = t;
      next = settling claimed;
      answer = unless_claimed claimed (Done (word_at ws t).phase);
    })
    (λ e. record {
      within = h;
      needs = (due, free t (word_at ws t) e);
      keeps = (refl, record { place = due.place; some = due.some; few = due.few; none = due.none });
    })
    (λ e. record {
      within = h;
      needs = (due, admits t (added claimed size) (word_at ws t) going (tally.legal t h) kept e);
      keeps = settles ps tier claimed size (view_after (parent_of ps t) (Join tier claimed size) t (word_at ws t) v) refl;
    })))

-- the steps of a path that is settled or given back
settle : (ps : List ℕ) (ws : List Fields) (front back : List View) (v : View) (tier claimed size : ℕ) → IsShape ps
    → Tallies ps ws (front ++ v ∷ back)
    → v.errand ≡ Opening tier (suc claimed) Joined size → Goes ps ws v (settle_turn ps v v.errand)
settle ps ws front back v tier claimed size shape tally q =
    let fit : ErrandFits ps (root_phase ws) v (Opening tier (suc claimed) Joined size) =
    subst (λ (x : Errand). ErrandFits ps (root_phase ws) v x) q (mine ps ws front back v tally).errand in
    let place : tier < length ps = fit.0.place in
    subst (λ (x : Errand). Goes ps ws v (settle_turn ps v x)) (sym q) (record {
      within = subst (λ (n : ℕ). ancestor ps tier claimed < n) (sym tally.long) (ancestor_within ps tier claimed shape place);
      needs = (refl, q);
      keeps = settles ps tier claimed size (record v { errand = opening tier claimed Joined size }) refl;
    })

give_back : (ps : List ℕ) (ws : List Fields) (front back : List View) (v : View) (tier claimed size : ℕ) (answer : Played) → IsShape ps
    → Tallies ps ws (front ++ v ∷ back) → v.errand ≡ Opening tier (suc claimed) GoingBack size → is_refusal answer ≡ true
    → Goes ps ws v (give_back_turn ps answer v.errand)
give_back ps ws front back v tier claimed size answer shape tally q is =
    let fit : ErrandFits ps (root_phase ws) v (Opening tier (suc claimed) GoingBack size) =
    subst (λ (x : Errand). ErrandFits ps (root_phase ws) v x) q (mine ps ws front back v tally).errand in
    let place : tier < length ps = fit.0.place in
    subst (λ (x : Errand). Goes ps ws v (give_back_turn ps answer x)) (sym q) (record {
      within = subst (λ (n : ℕ). ancestor ps tier claimed < n) (sym tally.long) (ancestor_within ps tier claimed shape place);
      needs = (refl, q);
      keeps = gives_back ps tier claimed size answer (record v { errand = opening tier claimed GoingBack size }) refl is;
    })

-- a tier that counts the token late and doesn't lag behind it is in its phase
in_phase : (root : ℕ) (w : Fields) (v : View) → 0 < w.parties → v.phase ≡ root → KeepsUp root w → lags w v ≡ false → w.phase ≡ v.phase
in_phase root w v some current up kept = ⊎_elim
    (λ (e : w.phase ≡ root). e ∙ sym current)
    (λ e. ⊎_elim (λ (p : w.phase ≡ v.phase). p)
    (λ (n : w.phase ≢ v.phase). not_both (lags w v) (lag_shown w v some e.1 n) kept)
    (cases_eq w.phase v.phase))
    (up some)

own_place : (ps : List ℕ) (ws : List Fields) (front back : List View) (v : View) → Tallies ps ws (front ++ v ∷ back) → v.arrived < v.size
    → v.tier < length ws
own_place ps ws front back v tally some =
    subst (λ (n : ℕ). v.tier < n) (sym tally.long) ((mine ps ws front back v tally).placed (omega arith))

own_pass : (ps : List ℕ) (ws : List Fields) (front back : List View) (v : View) → Tallies ps ws (front ++ v ∷ back) → v.errand ≡ Rest
    → v.arrived < v.size
    → (word_at ws v.tier).ended ≡ false → lags (word_at ws v.tier) v ≡ false → CanPass v.tier (word_at ws v.tier) v
own_pass ps ws front back v tally rest some going kept =
    let h = own_place ps ws front back v tally some in
    let current : v.phase ≡ root_phase ws =
    unarrived_is_current ps (root_phase ws) (word_at ws 0).ended v (mine ps ws front back v tally) some in
    let a = stands ps ws front back v v.tier tally h going in
    let b = resting_late (root_phase ws) ps v.tier v rest in
    let c = absent_current (root_phase ws) v current in
    let d = only_here v.tier (absent (root_phase ws) v) in
    let some_there : 0 < (word_at ws v.tier).parties = waiting_open (root_phase ws) (word_at ws v.tier) (omega arith) in
    record {
      rest = rest;
      own = refl;
      going = going;
      current = in_phase (root_phase ws) (word_at ws v.tier) v some_there current (tally.phases v.tier h) kept;
      unarrived = some;
    }

owed_goes : (ps : List ℕ) (above t : ℕ) (own k : Passage) (w : Fields) (v : View) → v.errand ≡ owed above t k w
    → CallFits ps (goes_on own (owed above t k w)) v
owed_goes ps above t own k w v e =
    owed_is (λ x. v.errand ≡ x → CallFits ps (goes_on own x) v) above t k w (λ q. q) (λ _ q. q) (λ j _ q. (above, j, q)) e

own_next : (ps : List ℕ) (ws : List Fields) (v : View) (passage : Passage) → v.tier < length ws → CanPass v.tier (word_at ws v.tier) v
    → IsNext ps ws v (own_kind passage) v.tier (goes_on passage (owed (parent_of ps v.tier) v.tier passage (word_at ws v.tier)))
own_next ps ws v Arrival h can = record {
  within = h;
  needs = can;
  keeps = owed_goes ps (parent_of ps v.tier) v.tier Arrival Arrival (word_at ws v.tier)
      (view_after (parent_of ps v.tier) Arrive v.tier (word_at ws v.tier) v) refl;
}
own_next ps ws v Departure h can = record {
  within = h;
  needs = can;
  keeps = owed_goes ps (parent_of ps v.tier) v.tier Departure Departure (word_at ws v.tier)
      (view_after (parent_of ps v.tier) Leave v.tier (word_at ws v.tier) v) refl;
}

-- the step of an arrival or a departure at the token's tier
pass : (ps : List ℕ) (ws : List Fields) (front back : List View) (v : View) (passage : Passage) → Tallies ps ws (front ++ v ∷ back)
    → v.errand ≡ Rest → v.arrived < v.size → Goes ps ws v (turn ps ws (Passing passage) v)
pass ps ws front back v passage tally rest some =
    let h = own_place ps ws front back v tally some in
    by_cond (Goes ps ws v) (word_at ws v.tier).ended (last_look (end_shown (word_at ws v.tier)))
    (cond (lags (word_at ws v.tier) v) (record { kind = Refresh; tier = v.tier; next = Passing passage; answer = GoesOn })
    (record {
      kind = own_kind passage;
      tier = v.tier;
      next = goes_on passage (owed (parent_of ps v.tier) v.tier passage (word_at ws v.tier));
      answer =
          reported v.phase (passed v.tier passage (word_at ws v.tier)).parties
          (owed (parent_of ps v.tier) v.tier passage (word_at ws v.tier));
    }))
    (λ _. ends_look ps ws v tally.some rest)
    (λ going. by_cond (Goes ps ws v) (lags (word_at ws v.tier) v)
    (record { kind = Refresh; tier = v.tier; next = Passing passage; answer = GoesOn })
    (record {
      kind = own_kind passage;
      tier = v.tier;
      next = goes_on passage (owed (parent_of ps v.tier) v.tier passage (word_at ws v.tier));
      answer =
          reported v.phase (passed v.tier passage (word_at ws v.tier)).parties
          (owed (parent_of ps v.tier) v.tier passage (word_at ws v.tier));
    })
    (λ e. let l = lag_parts (word_at ws v.tier) v e in record {
      within = h;
      needs = record { some = l.0; arrived = l.1; behind = l.2; leave = inl (rest, refl, some) };
      keeps = (rest, some);
    })
    (λ e. own_next ps ws v passage h (own_pass ps ws front back v tally rest some going e)))

climb_pass : (ps : List ℕ) (ws : List Fields) (front back : List View) (v : View) (t : ℕ) (passage : Passage)
    → Tallies ps ws (front ++ v ∷ back)
    → t < length ws → v.phase ≡ root_phase ws → v.errand ≡ Climbing t passage
    → (word_at ws t).ended ≡ false → lags (word_at ws t) v ≡ false → CanClimb t passage (word_at ws t) v
climb_pass ps ws front back v t passage tally h current q going kept =
    let a = stands ps ws front back v t tally h going in
    let b = climbing_late (root_phase ws) ps t passage t v q in
    let c = only_here t 1 in
    let some : 0 < (word_at ws t).parties = waiting_open (root_phase ws) (word_at ws t) (omega arith) in
    record { errand = q; going = going; current = in_phase (root_phase ws) (word_at ws t) v some current (tally.phases t h) kept }

-- a step of a climb
climb : (ps : List ℕ) (ws : List Fields) (front back : List View) (v : View) (own : Passage) (t : ℕ) (passage : Passage)
    → Tallies ps ws (front ++ v ∷ back)
    → v.errand ≡ Climbing t passage → Goes ps ws v (climb_turn ps own (word_at ws t) v (Climbing t passage))
climb ps ws front back v own t passage tally q =
    let fit : ErrandFits ps (root_phase ws) v (Climbing t passage) =
    subst (λ (x : Errand). ErrandFits ps (root_phase ws) v x) q (mine ps ws front back v tally).errand in
    let h : t < length ws = subst (λ (n : ℕ). t < n) (sym tally.long) fit.1 in
    by_cond (Goes ps ws v) (word_at ws t).ended (last_look (Done v.phase))
    (cond (lags (word_at ws t) v) (record { kind = Refresh; tier = t; next = Owing own; answer = GoesOn })
    (record {
      kind = Climb passage;
      tier = t;
      next = goes_on own (owed (parent_of ps t) t passage (word_at ws t));
      answer = reported v.phase (passed t passage (word_at ws t)).parties (owed (parent_of ps t) t passage (word_at ws t));
    }))
    (λ e. let z = is_root ps ws (front ++ v ∷ back) t tally h e in record {
      within = tally.some;
      needs = refl;
      keeps = looked_ended (word_at ws 0) v (ap (λ k. (word_at ws k).ended) (sym z) ∙ e)
          ∙ ap dropped (q ∙ ap (λ k. Climbing k passage) z);
    })
    (λ going. by_cond (Goes ps ws v) (lags (word_at ws t) v)
    (record { kind = Refresh; tier = t; next = Owing own; answer = GoesOn })
    (record {
      kind = Climb passage;
      tier = t;
      next = goes_on own (owed (parent_of ps t) t passage (word_at ws t));
      answer = reported v.phase (passed t passage (word_at ws t)).parties (owed (parent_of ps t) t passage (word_at ws t));
    })
    (λ e. let l = lag_parts (word_at ws t) v e in record {
      within = h;
      needs = record { some = l.0; arrived = l.1; behind = l.2; leave = inr (passage, q) };
      keeps = (t, passage, q);
    })
    (λ e. record {
      within = h;
      needs = climb_pass ps ws front back v t passage tally h fit.0 q going e;
      keeps =
          owed_goes ps (parent_of ps t) t own passage (word_at ws t) (view_after (parent_of ps t) (Climb passage) t (word_at ws t) v) refl;
    }))

-- the second step of a poll
refresh : (ps : List ℕ) (ws : List Fields) (v : View) → v.tier < length ws → v.errand ≡ Rest → v.arrived < v.size → 0 < v.tier
    → IsNext ps ws v (cond (lags (word_at ws v.tier) v) Refresh Glance) v.tier Idle
refresh ps ws v h rest some below =
    by_test (λ b. IsNext ps ws v (cond b Refresh Glance) v.tier Idle) (lags (word_at ws v.tier) v)
    (λ e. let l = lag_parts (word_at ws v.tier) v e in record {
      within = h;
      needs = record { some = l.0; arrived = l.1; behind = l.2; leave = inl (rest, refl, some) };
      keeps = rest;
    })
    (λ _. record { within = h; needs = below; keeps = rest })

pub turns_are_steps : TurnsAreSteps
turns_are_steps ps ws front v back Idle shape tally active fits = not_both false active refl
turns_are_steps ps ws front v back (Due own) shape tally active fits = not_both false active refl
turns_are_steps ps ws front v back (Begun c) shape tally active fits = begun ps ws front back v c shape tally fits.0 fits.1
turns_are_steps ps ws front v back (ToSeek tier size) shape tally active fits =
    seek ps ws front back v tier (claimed_by v.errand) size (ancestor ps tier (claimed_by v.errand)) tally
    (subst (λ (n : ℕ). ancestor ps tier (claimed_by v.errand) < n) (sym tally.long) (ancestor_within ps tier (claimed_by v.errand) shape fits.1.place))
    (record { here = refl; errand = fits.0; none = fits.1.none; some = fits.1.some; few = fits.1.few; place = fits.1.place })
turns_are_steps ps ws front v back Settling shape tally active fits = settle ps ws front back v fits.0 fits.1 fits.2 shape tally fits.3
turns_are_steps ps ws front v back (ToGiveBack answer) shape tally active fits =
    give_back ps ws front back v fits.0 fits.1 fits.2 answer shape tally fits.3 fits.4
turns_are_steps ps ws front v back (Passing passage) shape tally active fits = pass ps ws front back v passage tally fits.0 fits.1
turns_are_steps ps ws front v back (Owing own) shape tally active fits =
    subst (λ (x : Errand). Goes ps ws v (climb_turn ps own (word_at ws (errand_place ps x)) v x)) (sym fits.2)
    (climb ps ws front back v own fits.0 fits.1 tally fits.2)
turns_are_steps ps ws front v back (Refreshing has_moved) shape tally active fits =
    refresh ps ws v (own_place ps ws front back v tally fits.1) fits.0 fits.1 fits.2

-- a turn is at the tier of its call, if the word that it sees is the root's if it has ended
abbrev AtPlace : Turn → ℕ → Fields → Type 0
AtPlace r t w = (w.ended ≡ true → t ≡ 0) → r.tier ≡ t

-- a look at the root that has ended, or a turn at this tier
at_place : (t : ℕ) (w : Fields) (x y : Turn) → x.tier ≡ 0 → y.tier ≡ t → AtPlace (cond w.ended x y) t w
at_place t w x y over here =
    by_test (λ b. (b ≡ true → t ≡ 0) → (cond b x y).tier ≡ t) w.ended (λ _ root. over ∙ sym (root refl)) (λ _ _. here)

seek_place : (tier k size t : ℕ) (w : Fields) (v : View) → AtPlace (seek_turn tier k size t w v) t w
seek_place tier k size t w v =
    let back : Turn = record {
      kind = Refuse tier k size;
      tier = t;
      next = giving_back k (refusal t (added k size) (refused t w v).phase w);
      answer = unless_claimed k (refusal t (added k size) (refused t w v).phase w);
    } in
    let claim : Turn = record { kind = Claim tier k size; tier = t; next = ToSeek tier size; answer = GoesOn } in
    let join : Turn = record { kind = Join tier k size; tier = t; next = settling k; answer = unless_claimed k (Done w.phase) } in
    at_place t w (record { kind = Look; tier = 0; next = giving_back k (end_shown w); answer = unless_claimed k (end_shown w) })
    (cond (is_refusing (added k size) w) back (cond (is_claimable t w) claim join)) refl
    (by_cond (λ r. r.tier ≡ t) (is_refusing (added k size) w) back (cond (is_claimable t w) claim join) (λ _. refl)
    (λ _. by_cond (λ r. r.tier ≡ t) (is_claimable t w) claim join (λ _. refl) (λ _. refl)))

pass_place : (ps : List ℕ) (own : Passage) (t : ℕ) (passage : Passage) (kind : Kind) (here : Progress) (over : Played) (w : Fields)
    (v : View)
    → AtPlace (pass_turn ps own t passage kind here over w v) t w
pass_place ps own t passage kind here over w v =
    let wait : Turn = record { kind = Refresh; tier = t; next = here; answer = GoesOn } in
    let goes : Turn = record {
      kind = kind;
      tier = t;
      next = goes_on own (owed (parent_of ps t) t passage w);
      answer = reported v.phase (passed t passage w).parties (owed (parent_of ps t) t passage w);
    } in
    at_place t w (last_look over) (cond (lags w v) wait goes) refl (by_cond (λ r. r.tier ≡ t) (lags w v) wait goes (λ _. refl) (λ _. refl))

turn_place : (ps : List ℕ) (ends : Bool) (w : Fields) (p : Progress) (v : View) → is_going p ≡ true → CallFits ps p v
    → AtPlace (turn_by ps ends w p v) (place ps p v) w
turn_place ps ends w Idle v going fits = not_both false going refl
turn_place ps ends w (Begun c) v going fits = not_both false going refl
turn_place ps ends w (ToSeek tier size) v going fits =
    seek_place tier (claimed_by v.errand) size (ancestor ps tier (claimed_by v.errand)) w v
turn_place ps ends w Settling v going fits =
    subst (λ (e : Errand). AtPlace (settle_turn ps v e) (errand_place ps e) w) (sym fits.3) (λ _. refl)
turn_place ps ends w (ToGiveBack answer) v going fits =
    subst (λ (e : Errand). AtPlace (give_back_turn ps answer e) (errand_place ps e) w) (sym fits.3) (λ _. refl)
turn_place ps ends w (Passing passage) v going fits =
    pass_place ps passage v.tier passage (own_kind passage) (Passing passage) (end_shown w) w v
turn_place ps ends w (Owing own) v going fits =
    subst (λ (e : Errand). AtPlace (climb_turn ps own w v e) (errand_place ps e) w) (sym fits.2)
    (pass_place ps own fits.0 fits.1 (Climb fits.1) (Owing own) (Done v.phase) w v)
turn_place ps ends w (Due own) v going fits = λ _. refl
turn_place ps ends w (Refreshing has_moved) v going fits = λ _. refl

-- the advance, or the look in its place
pub finish_next : (ps : List ℕ) (ws : List Fields) (v : View) (ends : Bool) → 0 < length ws → v.errand ≡ Advancing
    → Goes ps ws v (finish_turn ends (word_at ws 0) v)
finish_next ps ws v ends some owes =
    by_test (λ b. IsNext ps ws v (cond b Look (Advance ends)) 0 Idle) (word_at ws 0).ended
    (λ ended. record { within = some; needs = refl; keeps = looked_ended (word_at ws 0) v ended ∙ ap dropped owes })
    (λ going. record { within = some; needs = (refl, record { errand = owes; going = going }); keeps = refl })

-- a step known by one word is a step that its token may take
turn_goes : (ps : List ℕ) (ws : List Fields) (front : List View) (v : View) (back : List View) (p : Progress) (ends : Bool)
    → IsShape ps → Tallies ps ws (front ++ v ∷ back) → is_going p ≡ true → CallFits ps p v
    → Goes ps ws v (turn_by ps ends (word_at ws (place ps p v)) p v)
turn_goes ps ws front v back Idle ends shape tally going fits = not_both false going refl
turn_goes ps ws front v back (Begun c) ends shape tally going fits = not_both false going refl
turn_goes ps ws front v back (ToSeek tier size) ends shape tally going fits =
    turns_are_steps ps ws front v back (ToSeek tier size) shape tally refl fits
turn_goes ps ws front v back Settling ends shape tally going fits = turns_are_steps ps ws front v back Settling shape tally refl fits
turn_goes ps ws front v back (ToGiveBack answer) ends shape tally going fits =
    turns_are_steps ps ws front v back (ToGiveBack answer) shape tally refl fits
turn_goes ps ws front v back (Passing passage) ends shape tally going fits =
    turns_are_steps ps ws front v back (Passing passage) shape tally refl fits
turn_goes ps ws front v back (Owing own) ends shape tally going fits = turns_are_steps ps ws front v back (Owing own) shape tally refl fits
turn_goes ps ws front v back (Due own) ends shape tally going fits = finish_next ps ws v ends tally.some fits
turn_goes ps ws front v back (Refreshing has_moved) ends shape tally going fits =
    turns_are_steps ps ws front v back (Refreshing has_moved) shape tally refl fits

-- a tier at which nobody is has the word of no tier, which hasn't ended
ended_is_root : (ps : List ℕ) (ws : List Fields) (vs : List View) (t : ℕ) → Tallies ps ws vs → (word_at ws t).ended ≡ true → t ≡ 0
ended_is_root ps ws vs t tally e = ⊎_elim
    (λ (h : t < length ws). is_root ps ws vs t tally h e)
    (λ (past : length ws ≤ t). not_both (word_at ws t).ended e (ap (λ (w : Fields). w.ended) (get_or-eq_default ws blank past)))
    (cases_lt t (length ws))

pub one_word_is_enough : OneWordIsEnough
one_word_is_enough ps ws front v back p ends shape tally going fits =
    let t : ℕ = place ps p v in
    let here =
    turn_place ps ends (word_at ws (place ps p v)) p v going fits (ended_is_root ps ws (front ++ v ∷ back) (place ps p v) tally) in
    let may = turn_goes ps ws front v back p ends shape tally going fits in
    record {
      here = here;
      next =
          subst
          (λ (n : ℕ). IsNext ps ws v (turn_by ps ends (word_at ws (place ps p v)) p v).kind n (turn_by ps ends (word_at ws (place ps p v)) p v).next)
          here may;
    }

-- an advance that a turn asks for is of a phase and parties that fit a word
refusal_range : (a : Played) → is_refusal a ≡ true → IsInRange a
refusal_range GoesOn e = not_both false e refl
refusal_range (Done phase) e = not_both false e refl
refusal_range (Passed phase) e = not_both false e refl
refusal_range Waiting e = not_both false e refl
refusal_range (Held phase why) e = tt
refusal_range (Full parties) e = tt
refusal_range (AlreadyArrived phase) e = not_both false e refl
refusal_range (Ended number) e = tt
refusal_range (MustAdvance phase parties) e = not_both false e refl

unless_range : (claimed : ℕ) (a : Played) → IsInRange a → IsInRange (unless_claimed claimed a)
unless_range zero a h = h
unless_range (suc claimed) a h = tt

by_played : (b : Bool) (x y : Played) → IsInRange x → IsInRange y → IsInRange (cond b x y)
by_played true x y f g = f
by_played false x y f g = g

pass_first_range : (root : Fields) (v : View) → IsInRange (first_turn call.Arrive root root v).answer
pass_first_range root v =
    by_played root.ended (end_shown root) (cond (eqb (looked root v).arrived v.size) (AlreadyArrived (looked root v).phase) GoesOn) tt
    (by_played (eqb (looked root v).arrived v.size) (AlreadyArrived (looked root v).phase) GoesOn tt tt)

first_range : (c : Call) (root own : Fields) (v : View) → IsInRange (first_turn c root own v).answer
first_range (call.Join tier size) root own v = by_played root.ended (end_shown root) GoesOn tt tt
first_range call.Arrive root own v = pass_first_range root v
first_range call.Leave root own v = pass_first_range root v
first_range call.Poll root own v =
    by_played root.ended (end_shown root) (cond (eqb (looked root v).arrived v.size) Waiting (cond (lags own (looked root v)) GoesOn
    (polled (not (eqb (looked root v).phase v.phase)) (looked root v).phase))) tt
    (by_played (eqb (looked root v).arrived v.size) Waiting (cond (lags own (looked root v)) GoesOn
    (polled (not (eqb (looked root v).phase v.phase)) (looked root v).phase)) tt
    (by_played (lags own (looked root v)) GoesOn (polled (not (eqb (looked root v).phase v.phase)) (looked root v).phase) tt
    (by_played (not (eqb (looked root v).phase v.phase)) (Passed (looked root v).phase) (Done (looked root v).phase) tt tt)))
first_range call.Force root own v = tt

seek_range : (tier k size t : ℕ) (w : Fields) (v : View) → IsInRange (seek_turn tier k size t w v).answer
seek_range tier k size t w v =
    let over : Turn = record { kind = Look; tier = 0; next = giving_back k (end_shown w); answer = unless_claimed k (end_shown w) } in
    let back : Turn = record {
      kind = Refuse tier k size;
      tier = t;
      next = giving_back k (refusal t (added k size) (refused t w v).phase w);
      answer = unless_claimed k (refusal t (added k size) (refused t w v).phase w);
    } in
    let claim : Turn = record { kind = Claim tier k size; tier = t; next = ToSeek tier size; answer = GoesOn } in
    let join : Turn = record { kind = Join tier k size; tier = t; next = settling k; answer = unless_claimed k (Done w.phase) } in
    by_cond (λ r. IsInRange r.answer) w.ended over (cond (is_refusing (added k size) w) back (cond (is_claimable t w) claim join))
    (λ _. unless_range k (end_shown w) tt)
    (λ _. by_cond (λ r. IsInRange r.answer) (is_refusing (added k size) w) back (cond (is_claimable t w) claim join)
    (λ _. unless_range k (refusal t (added k size) (refused t w v).phase w)
    (refusal_range (refusal t (added k size) (refused t w v).phase w) (refusal_is t (added k size) (refused t w v).phase w)))
    (λ _. by_cond (λ r. IsInRange r.answer) (is_claimable t w) claim join (λ _. tt) (λ _. unless_range k (Done w.phase) tt)))

pass_range : (ps : List ℕ) (own : Passage) (t : ℕ) (passage : Passage) (kind : Kind) (here : Progress) (over : Played) (w : Fields)
    (v : View)
    → IsInRange over → v.phase ≤ 2147483647 → IsLegal w → IsInRange (pass_turn ps own t passage kind here over w v).answer
pass_range ps own t passage kind here over w v last phase legal =
    let wait : Turn = record { kind = Refresh; tier = t; next = here; answer = GoesOn } in
    let goes : Turn = record {
      kind = kind;
      tier = t;
      next = goes_on own (owed (parent_of ps t) t passage w);
      answer = reported v.phase (passed t passage w).parties (owed (parent_of ps t) t passage w);
    } in
    by_cond (λ r. IsInRange r.answer) w.ended (last_look over) (cond (lags w v) wait goes) (λ _. last)
    (λ _. by_cond (λ r. IsInRange r.answer) (lags w v) wait goes (λ _. tt)
    (λ _. owed_is (λ e. IsInRange (reported v.phase (passed t passage w).parties e)) (parent_of ps t) t passage w tt
    (λ _. (phase, (passed_legal t passage w legal).parties)) (λ _ _. tt)))

pub turn_range : (ps : List ℕ) (ws : List Fields) (front : List View) (v : View) (back : List View) (p : Progress)
    → Tallies ps ws (front ++ v ∷ back)
    → CallFits ps p v → IsInRange (turn ps ws p v).answer
turn_range ps ws front v back Idle tally fits = tt
turn_range ps ws front v back (Begun c) tally fits = first_range c (word_at ws 0) (word_at ws v.tier) v
turn_range ps ws front v back (ToSeek tier size) tally fits =
    seek_range tier (claimed_by v.errand) size (ancestor ps tier (claimed_by v.errand))
    (word_at ws (ancestor ps tier (claimed_by v.errand))) v
turn_range ps ws front v back Settling tally fits =
    subst (λ (e : Errand). IsInRange (settle_turn ps v e).answer) (sym fits.3) (unless_range fits.1 (Done v.phase) tt)
turn_range ps ws front v back (ToGiveBack answer) tally fits =
    subst (λ (e : Errand). IsInRange (give_back_turn ps answer e).answer) (sym fits.3)
    (unless_range fits.1 answer (refusal_range answer fits.4))
turn_range ps ws front v back (Passing passage) tally fits =
    let current = unarrived_is_current ps (root_phase ws) (word_at ws 0).ended v (mine ps ws front back v tally) fits.1 in
    let legal = (tally.legal 0 tally.some).phase in
    pass_range ps passage v.tier passage (own_kind passage) (Passing passage) (end_shown (word_at ws v.tier)) (word_at ws v.tier) v tt
    (omega arith)
    (tally.legal v.tier (own_place ps ws front back v tally fits.1))
turn_range ps ws front v back (Owing own) tally fits =
    let fit : ErrandFits ps (root_phase ws) v (Climbing fits.0 fits.1) =
    subst (λ (x : Errand). ErrandFits ps (root_phase ws) v x) fits.2 (mine ps ws front back v tally).errand in
    let current : v.phase ≡ root_phase ws = fit.0 in
    let legal = (tally.legal 0 tally.some).phase in
    subst (λ (e : Errand). IsInRange (climb_turn ps own (word_at ws (errand_place ps e)) v e).answer) (sym fits.2)
    (pass_range ps own fits.0 fits.1 (Climb fits.1) (Owing own) (Done v.phase) (word_at ws fits.0) v tt (omega arith)
    (tally.legal fits.0 (subst (λ (n : ℕ). fits.0 < n) (sym tally.long) fit.1)))
turn_range ps ws front v back (Due own) tally fits = tt
turn_range ps ws front v back (Refreshing has_moved) tally fits = by_played has_moved (Passed v.phase) (Done v.phase) tt tt

pub one_word_tells_ranges : OneWordTellsRanges
one_word_tells_ranges ps ws front v back Idle ends tally fits = tt
one_word_tells_ranges ps ws front v back (Begun c) ends tally fits = tt
one_word_tells_ranges ps ws front v back (ToSeek tier size) ends tally fits = turn_range ps ws front v back (ToSeek tier size) tally fits
one_word_tells_ranges ps ws front v back Settling ends tally fits = turn_range ps ws front v back Settling tally fits
one_word_tells_ranges ps ws front v back (ToGiveBack answer) ends tally fits = turn_range ps ws front v back (ToGiveBack answer) tally fits
one_word_tells_ranges ps ws front v back (Passing passage) ends tally fits = turn_range ps ws front v back (Passing passage) tally fits
one_word_tells_ranges ps ws front v back (Owing own) ends tally fits = turn_range ps ws front v back (Owing own) tally fits
one_word_tells_ranges ps ws front v back (Due own) ends tally fits = tt
one_word_tells_ranges ps ws front v back (Refreshing has_moved) ends tally fits =
    turn_range ps ws front v back (Refreshing has_moved) tally fits
