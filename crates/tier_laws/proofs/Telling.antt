-- Each answer of a call says what it has to.
use Rattle.std.proofs.Common.{◌≡◌, ◌≢◌, ℕ, ◌<◌, ⊎_elim, Bool, true, false, cond, eqb, List, [], ◌∷◌, length, refl, sym, ◌∙◌, ap, subst, arith}
use Rattle.std.specs.Prelude.{◌&&◌, not}
use Rattle.std.proofs.lemmas.Bool.{eq-eqb, ne_eqb, eqb-true, eqb-false}
use Rattle.phaser_word.specs.Fields.{Fields}
use Rattle.phaser_word.specs.Phase.{shown_of}
use Rattle.flat_phaser.specs.Flat.{members_of, arrived_of}
use Rattle.tier_steps.specs.declared.view.View.{View}
use Rattle.tier_steps.specs.declared.view.Errand.{Errand}
use Rattle.tier_steps.specs.declared.view.Errand.TheVariants.{Climbing}
use Rattle.tier_steps.specs.declared.view.Passage.{Passage}
use Rattle.tier_steps.specs.declared.view.Passage.TheVariants.{Arrival, Departure}
use Rattle.tier_steps.specs.declared.kind.Kind.TheVariants.{Look, Refuse, Force, Climb}
use Rattle.tier_steps.specs.View.{ancestor}
use Rattle.tier_steps.specs.Tally.{word_at, root_phase, ErrandFits}
use Rattle.tier_steps.specs.Step.{looked}
use Rattle.tier_steps.proofs.Advance.{ancestor_within}
use Rattle.tier_steps.proofs.Pass.{unarrived_is_current}
use Rattle.tier_core.specs.declared.call.Call.{Call}
use Rattle.tier_core.specs.declared.call.Call.TheVariants as call
use Rattle.tier_core.specs.declared.call.Played.{Played}
use Rattle.tier_core.specs.declared.call.Played.TheVariants.{GoesOn, Done, Waiting, AlreadyArrived}
use Rattle.tier_core.specs.declared.call.Progress.{Progress}
use Rattle.tier_core.specs.declared.call.Progress.TheVariants.{Idle, Begun, Seeking as ToSeek, Settling, GivingBack as ToGiveBack, Passing, Owing, Due, Refreshing}
use Rattle.tier_core.specs.declared.call.Turn.{Turn}
use Rattle.tier_core.specs.Turn.{end_shown, is_refusing, lags, polled, first_turn, turn, claimed_by, climb_turn, errand_place, own_kind}
use Rattle.tier_core.specs.Machine.{State, IsCore, BegunFits, CallFits, view_at, call_at, is_active, is_due}
use Rattle.tier_core.specs.Run.{may_begin, begun, finish_at, plan_ends}
use Rattle.tier_core.proofs.Turns.{by_test, not_both}
use Rattle.tier_core.proofs.Runs.{begun_core}
use Rattle.tier_laws.specs.Frame.{flat_of}
use Rattle.tier_laws.specs.Moments.{Moment, flat_at, moments}
use Rattle.tier_laws.specs.Reports.{IsAwaiting, AreAllHere, HasPassed, HasEnded, Tells, LatestTells, AnswersTell}
use Rattle.tier_laws.proofs.Holding.{fits_at}
use Rattle.tier_laws.proofs.Counting.{members_owned, arrived_own, looked_is, looked_empty}
use Rattle.tier_laws.proofs.Ending.{at, ended_stays, forced, imaged}
use Rattle.tier_laws.proofs.Reached.{reached, latest_alike}
use Rattle.tier_laws.proofs.Along.{Carries, OfToken, of_token, begun_own, along_call}
use Rattle.tier_laws.proofs.Memory.{any_here, PollTells, call_of, Remembers, Good, Goal, no_last, done_later, poll_later, polled_tells}
use Rattle.tier_laws.proofs.Seeking.{ended_there, seek_tells, settle_tells, give_back_tells}
use Rattle.tier_laws.proofs.Going.{pass_tells, own_passer, climb_passer}

-- a first look that finds all members of the token arrived
first_all : (w : Fields) (v : View) → w.ended ≡ false → 0 < v.size → eqb (looked w v).arrived v.size ≡ true
    → ((looked w v).phase ≡ w.phase) × (v.phase ≡ w.phase) × (v.arrived ≡ v.size)
first_all w v going some e =
    looked_is (λ p a. a ≡ v.size → (p ≡ w.phase) × (v.phase ≡ w.phase) × (v.arrived ≡ v.size)) w v going
    (λ _ _ z. absurd (omega arith)) (λ stays z. (stays z, stays z, z)) (eqb-true (looked w v).arrived v.size e)

all_arrived : (s : State) (i p : ℕ) → IsCore s → i < length s.views → (view_at s.views i).phase ≡ p
    → (view_at s.views i).arrived ≡ (view_at s.views i).size → arrived_of p i (flat_of s).members ≡ members_of i (flat_of s).members
all_arrived s i p core h e all =
    ap (λ n. arrived_of n i (flat_of s).members) (sym e) ∙ (arrived_own s i core h ∙ (all ∙ sym (members_owned s i core h)))

-- what a poll sees
poll_seen : (s : State) (i : ℕ) (past : List Moment) (r : Turn) → IsCore s → i < length s.views → call_at s.calls i ≡ Begun call.Poll
    → (word_at s.words 0).ended ≡ false → 0 < (view_at s.views i).size
    → eqb (looked (word_at s.words 0) (view_at s.views i)).arrived (view_at s.views i).size ≡ false
    → PollTells i (not (eqb (looked (word_at s.words 0) (view_at s.views i)).phase (view_at s.views i).phase))
    (looked (word_at s.words 0) (view_at s.views i)).phase (at i s r ∷ past)
poll_seen s i past r core h is going some e =
    let w : Fields = word_at s.words 0 in
    let v : View = view_at s.views i in
    let fits = fits_at s i core h in
    looked_is (λ p a. a ≢ v.size → PollTells i (not (eqb p v.phase)) p (at i s r ∷ past)) w v going
    (λ all other _. subst (λ (b : Bool). PollTells i (not b) w.phase (at i s r ∷ past)) (sym (ne_eqb w.phase v.phase (λ q. other (sym q))))
    (any_here (HasPassed i w.phase) (at i s r) past record {
      look = record { first = is; going = going; phase = refl };
      next = ⊎_elim (λ (q : v.phase ≡ w.phase). absurd (other q)) (λ q. sym q.0) (fits.current some);
      all = all_arrived s i v.phase core h refl all;
    }))
    (λ _ n. let less : v.arrived < v.size = (let a = fits.within in omega arith) in
    let current = unarrived_is_current s.parents w.phase w.ended v fits less in
    subst (λ (b : Bool). PollTells i (not b) v.phase (at i s r ∷ past)) (sym (eq-eqb v.phase v.phase refl))
    (any_here (IsAwaiting i v.phase) (at i s r) past record {
      look = record { first = is; going = going; phase = sym current };
      some = (let a = arrived_own s i core h in let b = members_owned s i core h in omega arith);
    }))
    (eqb-false (looked w v).arrived v.size e)

-- the first step of an arrival and of a departure
pass_first : (s : State) (i : ℕ) (past : List Moment) (passage : Passage) → IsCore s → i < length s.views
    → call_at s.calls i ≡ Begun (call_of passage)
    → 0 < (view_at s.views i).size
    → Goal s i (call_of passage) past record {
      kind = Look;
      tier = 0;
      next = cond (word_at s.words 0).ended Idle
          (cond (eqb (looked (word_at s.words 0) (view_at s.views i)).arrived (view_at s.views i).size) Idle (Passing passage));
      answer = cond (word_at s.words 0).ended (end_shown (word_at s.words 0))
          (cond (eqb (looked (word_at s.words 0) (view_at s.views i)).arrived (view_at s.views i).size)
          (AlreadyArrived (looked (word_at s.words 0) (view_at s.views i)).phase) GoesOn);
    }
pass_first s i past passage core h is some =
    let w : Fields = word_at s.words 0 in
    let v : View = view_at s.views i in
    let c : Call = call_of passage in
    let make : Progress → Played → Turn = λ next answer. record { kind = Look; tier = 0; next = next; answer = answer } in
    by_test (λ b. Goal s i c past (make (cond b Idle (cond (eqb (looked w v).arrived v.size) Idle (Passing passage)))
    (cond b (end_shown w) (cond (eqb (looked w v).arrived v.size) (AlreadyArrived (looked w v).phase) GoesOn)))) w.ended
    (λ e may. record {
      reported = record {
        tells =
            any_here (HasEnded i (shown_of w.phase true)) (at i s (make Idle (end_shown w))) past
            (ended_stays s i (make Idle (end_shown w)) core h may e);
        ends = λ _. refl;
      };
      keeps = tt;
    })
    (λ going. by_test (λ b. Goal s i c past (make (cond b Idle (Passing passage)) (cond b (AlreadyArrived (looked w v).phase) GoesOn)))
    (eqb (looked w v).arrived v.size)
    (λ e may. let f = first_all w v going some e in
    record {
      reported = record {
        tells = any_here (AreAllHere i c (looked w v).phase) (at i s (make Idle (AlreadyArrived (looked w v).phase))) past record {
          look = record { first = is; going = going; phase = sym f.0 };
          all = all_arrived s i (looked w v).phase core h (f.1 ∙ sym f.0) f.2;
        };
        ends = λ _. refl;
      };
      keeps = tt;
    })
    (λ e may. record { reported = record { tells = refl; ends = λ x. no_last x }; keeps = refl }))

poll_first : (s : State) (i : ℕ) (past : List Moment) → IsCore s → i < length s.views → call_at s.calls i ≡ Begun call.Poll
    → 0 < (view_at s.views i).size
    → Goal s i call.Poll past (first_turn call.Poll (word_at s.words 0) (word_at s.words (view_at s.views i).tier) (view_at s.views i))
poll_first s i past core h is some =
    let w : Fields = word_at s.words 0 in
    let v : View = view_at s.views i in
    let lag : Bool = lags (word_at s.words v.tier) (looked w v) in
    let f : Bool = not (eqb (looked w v).phase v.phase) in
    let p : ℕ = (looked w v).phase in
    let make : Progress → Played → Turn = λ next answer. record { kind = Look; tier = 0; next = next; answer = answer } in
    by_test (λ b. Goal s i call.Poll past (make
    (cond b Idle (cond (eqb (looked w v).arrived v.size) Idle (cond lag (Refreshing f) Idle)))
    (cond b (end_shown w) (cond (eqb (looked w v).arrived v.size) Waiting (cond lag GoesOn (polled f p)))))) w.ended
    (λ e may. record {
      reported = record {
        tells =
            any_here (HasEnded i (shown_of w.phase true)) (at i s (make Idle (end_shown w))) past
            (ended_stays s i (make Idle (end_shown w)) core h may e);
        ends = λ _. refl;
      };
      keeps = tt;
    })
    (λ going. by_test (λ b. Goal s i call.Poll past (make (cond b Idle (cond lag (Refreshing f) Idle)) (cond b Waiting (cond lag GoesOn (polled f p)))))
    (eqb (looked w v).arrived v.size)
    (λ e may. let g = first_all w v going some e in
    record {
      reported = record {
        tells = any_here (λ n. AreAllHere i call.Poll (flat_at n).phase n) (at i s (make Idle Waiting)) past record {
          look = record { first = is; going = going; phase = refl };
          all = all_arrived s i w.phase core h g.1 g.2;
        };
        ends = λ _. refl;
      };
      keeps = tt;
    })
    (λ e. by_test (λ b. Goal s i call.Poll past (make (cond b (Refreshing f) Idle) (cond b GoesOn (polled f p)))) lag
    (λ _ may. record {
      reported = record { tells = refl; ends = λ x. no_last x };
      keeps = (refl, poll_seen s i past (make (Refreshing f) GoesOn) core h is going some e);
    })
    (λ _ may. record {
      reported = record {
        tells =
            polled_tells i (at i s (make Idle (polled f p))) past f p (poll_seen s i past (make Idle (polled f p)) core h is going some e);
        ends = λ _. refl;
      };
      keeps = tt;
    })))

join_first : (s : State) (i : ℕ) (past : List Moment) (tier size : ℕ) → IsCore s → i < length s.views → (view_at s.views i).size ≡ 0
    → Goal s i (call.Join tier size) past
    (first_turn (call.Join tier size) (word_at s.words 0) (word_at s.words (view_at s.views i).tier) (view_at s.views i))
join_first s i past tier size core h none =
    let w : Fields = word_at s.words 0 in
    let v : View = view_at s.views i in
    let c : Call = call.Join tier size in
    let b : Bool = eqb tier 0 && is_refusing size w in
    let all : v.arrived ≡ v.size = (let a = (fits_at s i core h).within in omega arith) in
    let over : Turn = record { kind = Look; tier = 0; next = Idle; answer = end_shown w } in
    by_test (λ x. Goal s i c past record {
      kind = cond x Look (cond (eqb tier 0 && is_refusing size w) (Refuse 0 0 size) Look);
      tier = 0;
      next = cond x Idle (ToSeek tier size);
      answer = cond x (end_shown w) GoesOn;
    }) w.ended
    (λ e may. record {
      reported =
          record {
            tells = any_here (HasEnded i (shown_of w.phase true)) (at i s over) past (ended_stays s i over core h may e);
            ends = λ _. refl;
          };
      keeps = tt;
    })
    (λ going. by_test (λ x. Goal s i c past record { kind = cond x (Refuse 0 0 size) Look; tier = 0; next = ToSeek tier size; answer = GoesOn }) b
    (λ _ may. record { reported = record { tells = refl; ends = λ x. no_last x }; keeps = (refl, looked_empty w v going all) })
    (λ _ may. record { reported = record { tells = refl; ends = λ x. no_last x }; keeps = (refl, looked_empty w v going all) }))

first_tells : (s : State) (i : ℕ) (past : List Moment) (c : Call) → IsCore s → i < length s.views → call_at s.calls i ≡ Begun c
    → BegunFits s.parents c (view_at s.views i)
    → Goal s i c past (first_turn c (word_at s.words 0) (word_at s.words (view_at s.views i).tier) (view_at s.views i))
first_tells s i past (call.Join tier size) core h is fits = join_first s i past tier size core h fits.none
first_tells s i past call.Arrive core h is fits = pass_first s i past Arrival core h is fits
first_tells s i past call.Leave core h is fits = pass_first s i past Departure core h is fits
first_tells s i past call.Poll core h is fits = poll_first s i past core h is fits
first_tells s i past call.Force core h is fits = λ may.
    let w : Fields = word_at s.words 0 in
    let r : Turn = record { kind = Force; tier = 0; next = Idle; answer = end_shown w } in
    record {
      reported =
          record { tells = any_here (HasEnded i (shown_of w.phase true)) (at i s r) past (forced s i r core h may refl); ends = λ _. refl };
      keeps = tt;
    }

-- each step of a call
pub turn_tells : (s : State) (i : ℕ) (c : Call) (past : List Moment) (p : Progress) → IsCore s → i < length s.views → call_at s.calls i ≡ p
    → is_active p ≡ true → CallFits s.parents p (view_at s.views i) → Remembers i c past p (view_at s.views i)
    → Goal s i c past (turn s.parents s.words p (view_at s.views i))
turn_tells s i c past Idle core h is active fits knows = not_both false active refl
turn_tells s i c past (Due own) core h is active fits knows = not_both false active refl
turn_tells s i c past (Begun d) core h is active fits knows =
    subst (λ (x : Call). Goal s i x past (first_turn d (word_at s.words 0) (word_at s.words (view_at s.views i).tier) (view_at s.views i)))
    knows
    (first_tells s i past d core h is fits.1)
turn_tells s i c past (ToSeek tier size) core h is active fits knows =
    let v : View = view_at s.views i in
    let k : ℕ = claimed_by v.errand in
    subst (λ (x : Call). Goal s i x past (turn s.parents s.words (ToSeek tier size) v)) (sym knows.0)
    (seek_tells s i past tier (claimed_by (view_at s.views i).errand) size (ancestor s.parents tier (claimed_by (view_at s.views i).errand)) core h
    (record { here = refl; errand = fits.0; none = fits.1.none; some = fits.1.some; few = fits.1.few; place = fits.1.place })
    (subst (λ (n : ℕ). ancestor s.parents tier (claimed_by (view_at s.views i).errand) < n) (sym core.tally.long)
    (ancestor_within s.parents tier (claimed_by (view_at s.views i).errand) core.shape fits.1.place))
    knows.1)
turn_tells s i c past Settling core h is active fits knows = settle_tells s i c past fits.0 fits.1 fits.2 fits.3 knows
turn_tells s i c past (ToGiveBack answer) core h is active fits knows = give_back_tells s i c past fits.0 fits.1 fits.2 answer fits.3 knows
turn_tells s i c past (Passing passage) core h is active fits knows =
    let v : View = view_at s.views i in
    let fit = fits_at s i core h in
    let some : (view_at s.views i).arrived < (view_at s.views i).size = fits.1 in
    let current = unarrived_is_current s.parents (root_phase s.words) (word_at s.words 0).ended (view_at s.views i) fit fits.1 in
    let within : v.tier < length s.words = subst (λ (n : ℕ). v.tier < n) (sym core.tally.long) (fit.placed (omega arith)) in
    subst (λ (x : Call). Goal s i x past (turn s.parents s.words (Passing passage) v)) (sym knows)
    (pass_tells s i (call_of passage) past passage v.tier passage (own_kind passage) (Passing passage) (end_shown (word_at s.words v.tier)) core
    (own_passer s i past passage h within current)
    (λ e r may. any_here (HasEnded i (shown_of (word_at s.words v.tier).phase true)) (at i s r) past (ended_there s i v.tier r core h may within e))
    (λ m. refl) refl)
turn_tells s i c past (Owing own) core h is active fits knows =
    let v : View = view_at s.views i in
    let fit : ErrandFits s.parents (root_phase s.words) (view_at s.views i) (Climbing fits.0 fits.1) =
    subst (λ (x : Errand). ErrandFits s.parents (root_phase s.words) (view_at s.views i) x) fits.2 (fits_at s i core h).errand in
    let within : fits.0 < length s.words = subst (λ (n : ℕ). fits.0 < n) (sym core.tally.long) fit.1 in
    subst (λ (x : Errand). Goal s i c past (climb_turn s.parents own (word_at s.words (errand_place s.parents x)) v x)) (sym fits.2)
    (pass_tells s i c past own fits.0 fits.1 (Climb fits.1) (Owing own) (Done v.phase) core
    (climb_passer s i c past fits.0 fits.1 h within fit.0 knows)
    (λ _ r _. done_later i c v.phase (at i s r) past knows)
    (λ m. done_later i c v.phase m past knows) refl)
turn_tells s i c past (Refreshing has_moved) core h is active fits knows =
    let v : View = view_at s.views i in
    let r : Turn = turn s.parents s.words (Refreshing has_moved) v in
    λ may. record {
      reported = record {
        tells =
            subst
            (λ (x : Call). Tells i x (at i s (turn s.parents s.words (Refreshing has_moved) (view_at s.views i))) past (polled has_moved v.phase))
            (sym knows.0)
            (polled_tells i (at i s (turn s.parents s.words (Refreshing has_moved) (view_at s.views i))) past has_moved v.phase
            (poll_later i has_moved v.phase (at i s (turn s.parents s.words (Refreshing has_moved) (view_at s.views i))) past knows.1));
        ends = λ _. refl;
      };
      keeps = tt;
    }

-- and the last step of a call that has to advance the root
pub last_tells : (s : State) (i : ℕ) (c : Call) (past : List Moment) (ends : Bool) (p : Progress) → is_due p ≡ true
    → Remembers i c past p (view_at s.views i) → Good s i c past (finish_at s i ends)
last_tells s i c past ends Idle due knows = not_both false due refl
last_tells s i c past ends (Begun d) due knows = not_both false due refl
last_tells s i c past ends (ToSeek tier size) due knows = not_both false due refl
last_tells s i c past ends Settling due knows = not_both false due refl
last_tells s i c past ends (ToGiveBack answer) due knows = not_both false due refl
last_tells s i c past ends (Passing passage) due knows = not_both false due refl
last_tells s i c past ends (Owing own) due knows = not_both false due refl
last_tells s i c past ends (Due own) due knows = record {
  reported = record { tells = done_later i c (view_at s.views i).phase (at i s (finish_at s i ends)) past knows; ends = λ _. refl };
  keeps = tt;
}
last_tells s i c past ends (Refreshing has_moved) due knows = not_both false due refl

-- what is true of a call and its moments so far: it remembers what it has to, and the latest moment says it
abbrev pub Story : ℕ → Call → List Moment → Progress → View → Type 0
Story i c past p v = Remembers i c past p v × LatestTells i c past

pub stories : (i : ℕ) (c : Call) → Carries i (OfToken i (Story i c))
stories i c = of_token i (Story i c)
    (λ s past core h active may here.
    let good = turn_tells s i c past (call_at s.calls i) core h refl active (core.calls i h) here.0 may in (good.keeps, good.reported))
    (λ s past core h due may here.
    let good = last_tells s i c past (plan_ends s) (call_at s.calls i) due here.0 in (good.keeps, good.reported))

pub begun_story : (s : State) (i : ℕ) (c : Call) → IsCore s → may_begin s i c ≡ true → OfToken i (Story i c) (begun s i c) []
begun_story s i c core may = begun_own i (Story i c) s c core may (refl, tt)

pub answers_tell : AnswersTell
answers_tell s i c events f core is may are own alike =
    latest_alike i c (moments i events (begun s i c) f []) (imaged i events (begun s i c) [])
    (reached i events (begun s i c) f [] [] (begun_core s i c core is may) are alike tt)
    (along_call i c (Story i c) (stories i c) events s core is may (refl, tt) are own).holds.1
