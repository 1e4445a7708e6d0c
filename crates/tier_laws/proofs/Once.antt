-- A call counts once, a join places its members at the tier that it was asked for, and a refused one notes what refused
-- it.
use Rattle.std.proofs.Common.{◌≡◌, ℕ, zero, suc, ◌<◌, ◌≤◌, Bool, true, false, cond, eqb, List, [], ◌∷◌, length, refl, sym, ◌∙◌, ap, subst, arith, Some}
use Rattle.std.specs.Prelude.{◌&&◌, not}
use Rattle.std.specs.List.{Any}
use Rattle.std.proofs.lemmas.List.{get_or-set_same}
use Rattle.flat_phaser.proofs.Counts.{count_cons}
use Rattle.phaser_word.specs.Fields.{Fields}
use Rattle.tier_steps.specs.declared.view.View.{View}
use Rattle.tier_steps.specs.declared.view.Errand.{Errand}
use Rattle.tier_steps.specs.declared.view.Errand.TheVariants.{Opening, Climbing}
use Rattle.tier_steps.specs.declared.view.OpeningStage.TheVariants.{Joined, GoingBack}
use Rattle.tier_steps.specs.declared.view.Passage.{Passage}
use Rattle.tier_steps.specs.declared.view.Passage.TheVariants.{Arrival, Departure}
use Rattle.tier_steps.specs.declared.kind.Kind.{Kind}
use Rattle.tier_steps.specs.declared.kind.Kind.TheVariants.{Look, Glance, Refuse, Advance, Force, Climb, Refresh}
use Rattle.tier_shape.specs.Parents.{parent_of}
use Rattle.tier_steps.specs.View.{ancestor, new_view}
use Rattle.tier_steps.specs.Tally.{word_at}
use Rattle.tier_steps.specs.Step.{passed, added, looked, refused}
use Rattle.tier_steps.specs.Laws.{stepped_view}
use Rattle.tier_core.specs.declared.call.Call.{Call}
use Rattle.tier_core.specs.declared.call.Call.TheVariants as call
use Rattle.tier_core.specs.declared.call.Played.{Played}
use Rattle.tier_core.specs.declared.call.Played.TheVariants.{GoesOn, Done, Passed, Waiting, Held, Full, AlreadyArrived, Ended, MustAdvance}
use Rattle.tier_core.specs.declared.call.Progress.{Progress}
use Rattle.tier_core.specs.declared.call.Progress.TheVariants.{Idle, Begun, Seeking as ToSeek, Settling, GivingBack as ToGiveBack, Passing, Owing, Due, Refreshing}
use Rattle.tier_core.specs.declared.call.Turn.{Turn}
use Rattle.tier_core.specs.Turn.{end_shown, is_refusing, refusal, is_refusal, lags, polled, claimed_by, giving_back, settling, unless_claimed, seek_turn, settle_turn, give_back_turn, own_kind, last_look, pass_turn, climb_turn, errand_place, first_turn, turn}
use Rattle.tier_core.specs.Machine.{State, IsCore, CallFits, BegunFits, view_at, call_at, is_active, is_due, turn_at}
use Rattle.tier_core.specs.Run.{may_begin, begun, finish_at, plan_ends, IsCall}
use Rattle.tier_core.proofs.Turns.{by_test, not_both, looked_size, refusal_is}
use Rattle.tier_laws.specs.Moments.{Moment, Event, moments, AreEvents, AreOfCall}
use Rattle.tier_laws.specs.Calls.{IsPlaced}
use Rattle.tier_laws.specs.Once.{is_counting, times_counted, counts_when_done, CountsAs, LatestCounts, CallsCountOnce, view_after_turn, PlacesAs, LatestPlaces, JoinsPlaceWhereAsked, IsNotedAt, NotesAs, LatestNotes, RefusalsAreNoted}
use Rattle.tier_laws.proofs.Ending.{alike_itself, at, imaged}
use Rattle.tier_laws.proofs.Memory.{any_here, any_later, call_of}
use Rattle.tier_laws.specs.Frame.{flat_of}
use Rattle.tier_core.proofs.Runs.{begun_core}
use Rattle.tier_laws.proofs.Reached.{Alikes, Tells_, reached, carried, any_alike}
use Rattle.tier_laws.proofs.Along.{Carries, OfToken, of_token, along_call}
use Rattle.tier_laws.proofs.Searching.{by_search, over_turn, refuse_turn, claim_turn, join_turn}
use Rattle.tier_laws.proofs.Passing.{by_passing, passed_turn}

-- what a turn answers, of a call that has counted so often
abbrev Places : Call → Played → View → Type 0
Places (call.Join tier size) a v = PlacesAs tier size a v
Places call.Arrive a v = Unit {0}
Places call.Leave a v = Unit {0}
Places call.Poll a v = Unit {0}
Places call.Force a v = Unit {0}

record Says (c : Call) (a : Played) (v : View) (ms : List Moment) : Type 0 where
  counts : CountsAs c a (times_counted ms)
  places : Places c a v
  notes : NotesAs a v ms

-- what a call has to remember for it
abbrev Keeps : Call → List Moment → Progress → View → Type 0
Keeps c past Idle v = Unit {0}
Keeps c past (Begun d) v = (d ≡ c) × (times_counted past ≡ 0)
Keeps c past (ToSeek tier size) v = (c ≡ call.Join tier size) × (times_counted past ≡ 0)
Keeps c past Settling v = (times_counted past ≡ 1) × ((tier : ℕ) × (size : ℕ) × (c ≡ call.Join tier size) × IsPlaced tier size v.phase v)
Keeps c past (ToGiveBack a) v = (times_counted past ≡ 0) × (v.size ≡ 0) × NotesAs a v past
Keeps c past (Passing passage) v = (c ≡ call_of passage) × (times_counted past ≡ 0)
Keeps c past (Owing own) v = ((passage : Passage) × (c ≡ call_of passage)) × (times_counted past ≡ 1)
Keeps c past (Due own) v = ((passage : Passage) × (c ≡ call_of passage)) × (times_counted past ≡ 1)
Keeps c past (Refreshing has_moved) v = (c ≡ call.Poll) × (times_counted past ≡ 0)

-- a turn that answers so, and after which the call remembers what it has to
record Fits (s : State) (i : ℕ) (c : Call) (past : List Moment) (r : Turn) : Type 0 where
  says : Says c r.answer (stepped_view s.parents s.words r.kind r.tier (view_at s.views i)) (at i s r ∷ past)
  keeps : Keeps c (at i s r ∷ past) r.next (stepped_view s.parents s.words r.kind r.tier (view_at s.views i))

-- the count after one more moment
same_count : (i : ℕ) (s : State) (past : List Moment) (r : Turn) (n : ℕ) → is_counting r.kind ≡ false → times_counted past ≡ n
    → times_counted (at i s r ∷ past) ≡ n
same_count i s past r n quiet e =
    let a = count_cons (λ (m : Moment). is_counting m.turn.kind) (at i s r) past in
    let b : cond {A = ℕ} (is_counting r.kind) 1 0 ≡ 0 = ap (λ x. cond {A = ℕ} x 1 0) quiet in omega arith

one_count : (i : ℕ) (s : State) (past : List Moment) (r : Turn) → is_counting r.kind ≡ true → times_counted past ≡ 0
    → times_counted (at i s r ∷ past) ≡ 1
one_count i s past r counts e =
    let a = count_cons (λ (m : Moment). is_counting m.turn.kind) (at i s r) past in
    let b : cond {A = ℕ} (is_counting r.kind) 1 0 ≡ 1 = ap (λ x. cond {A = ℕ} x 1 0) counts in omega arith

places_no : (c : Call) (a : Played) (v : View) → ((tier size : ℕ) → PlacesAs tier size a v) → Places c a v
places_no (call.Join tier size) a v h = h tier size
places_no call.Arrive a v h = tt
places_no call.Leave a v h = tt
places_no call.Poll a v h = tt
places_no call.Force a v h = tt

places_pass : (passage : Passage) (a : Played) (v : View) → Places (call_of passage) a v
places_pass Arrival a v = tt
places_pass Departure a v = tt

done_once : (passage : Passage) → counts_when_done (call_of passage) ≡ 1
done_once Arrival = refl
done_once Departure = refl

goes_on_once : (s : State) (i : ℕ) (c : Call) (past : List Moment) (r : Turn) → r.answer ≡ GoesOn → times_counted (at i s r ∷ past) ≤ 1
    → Says c r.answer (stepped_view s.parents s.words r.kind r.tier (view_at s.views i)) (at i s r ∷ past)
goes_on_once s i c past r e few =
    let v' : View = stepped_view s.parents s.words r.kind r.tier (view_at s.views i) in
    subst (λ (a : Played). Says c a (stepped_view s.parents s.words r.kind r.tier (view_at s.views i)) (at i s r ∷ past)) (sym e)
    (record { counts = few; places = places_no c GoesOn v' (λ _ _. tt); notes = tt })

-- a refusal that is answered, or kept until the claimed tiers are given back
refused_fits : (s : State) (i : ℕ) (c : Call) (past : List Moment) (r : Turn) (claimed : ℕ) (a : Played) → is_refusal a ≡ true
    → r.next ≡ giving_back claimed a → r.answer ≡ unless_claimed claimed a → times_counted (at i s r ∷ past) ≡ 0
    → (stepped_view s.parents s.words r.kind r.tier (view_at s.views i)).size ≡ 0
    → NotesAs a (stepped_view s.parents s.words r.kind r.tier (view_at s.views i)) (at i s r ∷ past) → Fits s i c past r
refused_fits s i c past r zero a is next answer none size notes = record {
  says =
      subst (λ (x : Played). Says c x (stepped_view s.parents s.words r.kind r.tier (view_at s.views i)) (at i s r ∷ past)) (sym answer)
      (record {
        counts = refuses_nothing a is;
        places = places_no c a (stepped_view s.parents s.words r.kind r.tier (view_at s.views i)) (λ tier many. refuses_all a is tier many);
        notes = notes;
      });
  keeps =
      subst (λ (x : Progress). Keeps c (at i s r ∷ past) x (stepped_view s.parents s.words r.kind r.tier (view_at s.views i))) (sym next)
      tt;
}
  where
    refuses_nothing : (b : Played) → is_refusal b ≡ true → CountsAs c b (times_counted (at i s r ∷ past))
    refuses_nothing GoesOn e = not_both false e refl
    refuses_nothing (Done phase) e = not_both false e refl
    refuses_nothing (Passed phase) e = not_both false e refl
    refuses_nothing Waiting e = not_both false e refl
    refuses_nothing (Held phase why) e = none
    refuses_nothing (Full parties) e = none
    refuses_nothing (AlreadyArrived phase) e = not_both false e refl
    refuses_nothing (Ended number) e = none
    refuses_nothing (MustAdvance phase parties) e = not_both false e refl

    refuses_all : (b : Played) → is_refusal b ≡ true → (tier many : ℕ)
        → PlacesAs tier many b (stepped_view s.parents s.words r.kind r.tier (view_at s.views i))
    refuses_all GoesOn e tier many = not_both false e refl
    refuses_all (Done phase) e tier many = not_both false e refl
    refuses_all (Passed phase) e tier many = not_both false e refl
    refuses_all Waiting e tier many = not_both false e refl
    refuses_all (Held phase why) e tier many = size
    refuses_all (Full parties) e tier many = size
    refuses_all (AlreadyArrived phase) e tier many = not_both false e refl
    refuses_all (Ended number) e tier many = size
    refuses_all (MustAdvance phase parties) e tier many = not_both false e refl
refused_fits s i c past r (suc claimed) a is next answer none size notes = record {
  says = goes_on_once s i c past r answer (omega arith);
  keeps =
      subst (λ (x : Progress). Keeps c (at i s r ∷ past) x (stepped_view s.parents s.words r.kind r.tier (view_at s.views i))) (sym next)
      (none, size, notes);
}

-- a join that is answered to be done, or kept until the claimed tiers are settled
joined_fits : (s : State) (i : ℕ) (past : List Moment) (tier size : ℕ) (r : Turn) (claimed phase : ℕ) → r.next ≡ settling claimed
    → r.answer ≡ unless_claimed claimed (Done phase) → times_counted (at i s r ∷ past) ≡ 1
    → IsPlaced tier size phase (stepped_view s.parents s.words r.kind r.tier (view_at s.views i)) → Fits s i (call.Join tier size) past r
joined_fits s i past tier size r zero phase next answer one placed = record {
  says =
      subst
      (λ (x : Played). Says (call.Join tier size) x (stepped_view s.parents s.words r.kind r.tier (view_at s.views i)) (at i s r ∷ past))
      (sym answer)
      (record { counts = one; places = placed; notes = tt });
  keeps =
      subst
      (λ (x : Progress). Keeps (call.Join tier size) (at i s r ∷ past) x (stepped_view s.parents s.words r.kind r.tier (view_at s.views i)))
      (sym next) tt;
}
joined_fits s i past tier size r (suc claimed) phase next answer one placed = record {
  says = goes_on_once s i (call.Join tier size) past r answer (omega arith);
  keeps =
      subst
      (λ (x : Progress). Keeps (call.Join tier size) (at i s r ∷ past) x (stepped_view s.parents s.words r.kind r.tier (view_at s.views i)))
      (sym next) (one, (tier, size, refl, record { tier = placed.tier; size = placed.size; phase = refl; arrived = placed.arrived }));
}

note_is : (t : ℕ) (w : Fields) (v : View) → (refused t w v).note ≡ Some (t, w)
note_is zero w v = refl
note_is (suc t) w v = refl

refused_size : (t : ℕ) (w : Fields) (v : View) → (refused t w v).size ≡ v.size
refused_size zero w v = looked_size w v
refused_size (suc t) w v = refl

-- what is noted of a refusal
notes_refusal : (a : Played) (v : View) (ms : List Moment) → is_refusal a ≡ true → Any (IsNotedAt v) ms → NotesAs a v ms
notes_refusal GoesOn v ms e h = tt
notes_refusal (Done phase) v ms e h = tt
notes_refusal (Passed phase) v ms e h = tt
notes_refusal Waiting v ms e h = tt
notes_refusal (Held phase why) v ms e h = h
notes_refusal (Full parties) v ms e h = h
notes_refusal (AlreadyArrived phase) v ms e h = tt
notes_refusal (Ended number) v ms e h = tt
notes_refusal (MustAdvance phase parties) v ms e h = tt

noted_later : (v v' : View) (m : Moment) (ms : List Moment) → v'.note ≡ v.note → Any (IsNotedAt v) ms → Any (IsNotedAt v') (m ∷ ms)
noted_later v v' m ms same h =
    any_later (IsNotedAt v') m ms (
      h.0,
      h.1,
      h.2,
      h.3,
      record {
        tier = h.4.tier;
        claimed = h.4.claimed;
        size = h.4.size;
        kind = h.4.kind;
        note = same ∙ h.4.note;
      },
    )

notes_later : (a : Played) (v v' : View) (m : Moment) (ms : List Moment) → v'.note ≡ v.note → NotesAs a v ms → NotesAs a v' (m ∷ ms)
notes_later GoesOn v v' m ms same h = tt
notes_later (Done phase) v v' m ms same h = tt
notes_later (Passed phase) v v' m ms same h = tt
notes_later Waiting v v' m ms same h = tt
notes_later (Held phase why) v v' m ms same h = noted_later v v' m ms same h
notes_later (Full parties) v v' m ms same h = noted_later v v' m ms same h
notes_later (AlreadyArrived phase) v v' m ms same h = tt
notes_later (Ended number) v v' m ms same h = tt
notes_later (MustAdvance phase parties) v v' m ms same h = tt

-- a step of a join that looks for its tier
seek_fits : (s : State) (i : ℕ) (past : List Moment) (tier size k t : ℕ) → (view_at s.views i).size ≡ 0 → times_counted past ≡ 0
    → Fits s i (call.Join tier size) past (seek_turn tier k size t (word_at s.words t) (view_at s.views i))
seek_fits s i past tier size k t none before =
    let w : Fields = word_at s.words t in
    let v : View = view_at s.views i in
    let c : Call = call.Join tier size in
    let a : Played = refusal t (added k size) (refused t w v).phase w in
    let over : Turn = over_turn k w in
    let back : Turn = refuse_turn tier k size t w v in
    let claim : Turn = claim_turn tier k size t in
    let join : Turn = join_turn tier k size t w in
    by_search (Fits s i c past) tier k size t w v
    (λ _. refused_fits s i c past over k (end_shown w) refl refl refl (same_count i s past over 0 refl before)
    (looked_size (word_at s.words 0) v ∙ none) tt)
    (λ _ _. let is = refusal_is t (added k size) (refused t w v).phase w in
    refused_fits s i c past back k a is refl refl (same_count i s past back 0 refl before) (refused_size t w v ∙ none)
    (notes_refusal a (refused t w v) (at i s back ∷ past) is
    (any_here (IsNotedAt (refused t w v)) (at i s back) past (record { tier = tier; claimed = k; size = size; kind = refl; note = note_is t w v }))))
    (λ _ _ _. let zero_ = same_count i s past claim 0 refl before in
    record { says = goes_on_once s i c past claim refl (omega arith); keeps = (refl, zero_) })
    (λ _ _ _. joined_fits s i past tier size join k w.phase refl refl (one_count i s past join refl before)
    (record { tier = refl; size = refl; phase = refl; arrived = refl }))

-- the first step of each call
over_fits : (s : State) (i : ℕ) (c : Call) (past : List Moment) (kind : Kind) (t : ℕ) (a : Played) → is_counting kind ≡ false
    → times_counted past ≡ 0
    → ((times : ℕ) → times ≡ 0 → CountsAs c a times) → Places c a (stepped_view s.parents s.words kind t (view_at s.views i))
    → NotesAs a (stepped_view s.parents s.words kind t (view_at s.views i))
    (at i s (record { kind = kind; tier = t; next = Idle; answer = a }) ∷ past)
    → Fits s i c past (record { kind = kind; tier = t; next = Idle; answer = a })
over_fits s i c past kind t a quiet before counts places notes =
    let r : Turn = record { kind = kind; tier = t; next = Idle; answer = a } in
    record {
      says = record {
        counts = counts (times_counted (at i s r ∷ past)) (same_count i s past r 0 quiet before);
        places = places;
        notes = notes;
      };
      keeps = tt;
    }

pass_first_fits : (s : State) (i : ℕ) (past : List Moment) (passage : Passage) → times_counted past ≡ 0
    → Fits s i (call_of passage) past (record {
      kind = Look;
      tier = 0;
      next = cond (word_at s.words 0).ended Idle
          (cond (eqb (looked (word_at s.words 0) (view_at s.views i)).arrived (view_at s.views i).size) Idle (Passing passage));
      answer = cond (word_at s.words 0).ended (end_shown (word_at s.words 0))
          (cond (eqb (looked (word_at s.words 0) (view_at s.views i)).arrived (view_at s.views i).size)
          (AlreadyArrived (looked (word_at s.words 0) (view_at s.views i)).phase) GoesOn);
    })
pass_first_fits s i past passage before =
    let w : Fields = word_at s.words 0 in
    let v : View = view_at s.views i in
    let c : Call = call_of passage in
    let all : Bool = eqb (looked w v).arrived v.size in
    let make : Progress → Played → Turn = λ next answer. record { kind = Look; tier = 0; next = next; answer = answer } in
    by_test (λ b. Fits s i c past (make (cond b Idle (cond all Idle (Passing passage)))
    (cond b (end_shown w) (cond all (AlreadyArrived (looked w v).phase) GoesOn)))) w.ended
    (λ _. over_fits s i c past Look 0 (end_shown w) refl before (λ _ e. e) (places_pass passage (end_shown w) (looked w v)) tt)
    (λ _. by_test (λ b. Fits s i c past (make (cond b Idle (Passing passage)) (cond b (AlreadyArrived (looked w v).phase) GoesOn))) all
    (λ _. over_fits s i c past Look 0 (AlreadyArrived (looked w v).phase) refl before (λ _ e. e)
    (places_pass passage (AlreadyArrived (looked w v).phase) (looked w v)) tt)
    (λ _. let n = same_count i s past (make (Passing passage) GoesOn) 0 refl before in
    record { says = goes_on_once s i c past (make (Passing passage) GoesOn) refl (omega arith); keeps = (refl, n) }))

polled_counts : (has_moved : Bool) (phase times : ℕ) → times ≡ 0 → CountsAs call.Poll (polled has_moved phase) times
polled_counts true phase times e = e
polled_counts false phase times e = e

polled_notes : (has_moved : Bool) (phase : ℕ) (v : View) (ms : List Moment) → NotesAs (polled has_moved phase) v ms
polled_notes true phase v ms = tt
polled_notes false phase v ms = tt

poll_first_fits : (s : State) (i : ℕ) (past : List Moment) → times_counted past ≡ 0
    → Fits s i call.Poll past (first_turn call.Poll (word_at s.words 0) (word_at s.words (view_at s.views i).tier) (view_at s.views i))
poll_first_fits s i past before =
    let w : Fields = word_at s.words 0 in
    let v : View = view_at s.views i in
    let all : Bool = eqb (looked w v).arrived v.size in
    let lag : Bool = lags (word_at s.words v.tier) (looked w v) in
    let f : Bool = not (eqb (looked w v).phase v.phase) in
    let p : ℕ = (looked w v).phase in
    let make : Progress → Played → Turn = λ next answer. record { kind = Look; tier = 0; next = next; answer = answer } in
    by_test (λ b. Fits s i call.Poll past (make (cond b Idle (cond all Idle (cond lag (Refreshing f) Idle)))
    (cond b (end_shown w) (cond all Waiting (cond lag GoesOn (polled f p)))))) w.ended
    (λ _. over_fits s i call.Poll past Look 0 (end_shown w) refl before (λ _ e. e) tt tt)
    (λ _. by_test (λ b. Fits s i call.Poll past (make (cond b Idle (cond lag (Refreshing f) Idle)) (cond b Waiting (cond lag GoesOn (polled f p))))) all
    (λ _. over_fits s i call.Poll past Look 0 Waiting refl before (λ _ e. e) tt tt)
    (λ _. by_test (λ b. Fits s i call.Poll past (make (cond b (Refreshing f) Idle) (cond b GoesOn (polled f p)))) lag
    (λ _. let n = same_count i s past (make (Refreshing f) GoesOn) 0 refl before in
    record { says = goes_on_once s i call.Poll past (make (Refreshing f) GoesOn) refl (omega arith); keeps = (refl, n) })
    (λ _. over_fits s i call.Poll past Look 0 (polled f p) refl before (polled_counts f p) tt
    (polled_notes f p (looked w v) (at i s (make Idle (polled f p)) ∷ past)))))

join_first_fits : (s : State) (i : ℕ) (past : List Moment) (tier size : ℕ) → times_counted past ≡ 0 → (view_at s.views i).size ≡ 0
    → Fits s i (call.Join tier size) past
    (first_turn (call.Join tier size) (word_at s.words 0) (word_at s.words (view_at s.views i).tier) (view_at s.views i))
join_first_fits s i past tier size before none =
    let w : Fields = word_at s.words 0 in
    let v : View = view_at s.views i in
    let c : Call = call.Join tier size in
    let b : Bool = eqb tier 0 && is_refusing size w in
    let make : Kind → Progress → Played → Turn = λ kind next answer. record { kind = kind; tier = 0; next = next; answer = answer } in
    by_test (λ x. Fits s i (call.Join tier size) past (make (cond x Look (cond (eqb tier 0 && is_refusing size w) (Refuse 0 0 size) Look))
    (cond x Idle (ToSeek tier size)) (cond x (end_shown w) GoesOn))) w.ended
    (λ _. over_fits s i (call.Join tier size) past Look 0 (end_shown w) refl before (λ _ e. e) (looked_size w v ∙ none) tt)
    (λ _. by_test (λ x. Fits s i (call.Join tier size) past (make (cond x (Refuse 0 0 size) Look) (ToSeek tier size) GoesOn)) b
    (λ _. let n = same_count i s past (make (Refuse 0 0 size) (ToSeek tier size) GoesOn) 0 refl before in
    record { says = goes_on_once s i c past (make (Refuse 0 0 size) (ToSeek tier size) GoesOn) refl (omega arith); keeps = (refl, n) })
    (λ _. let n = same_count i s past (make Look (ToSeek tier size) GoesOn) 0 refl before in
    record { says = goes_on_once s i c past (make Look (ToSeek tier size) GoesOn) refl (omega arith); keeps = (refl, n) }))

first_fits : (s : State) (i : ℕ) (past : List Moment) (c : Call) → times_counted past ≡ 0 → BegunFits s.parents c (view_at s.views i)
    → Fits s i c past (first_turn c (word_at s.words 0) (word_at s.words (view_at s.views i).tier) (view_at s.views i))
first_fits s i past (call.Join tier size) before fits = join_first_fits s i past tier size before fits.none
first_fits s i past call.Arrive before fits = pass_first_fits s i past Arrival before
first_fits s i past call.Leave before fits = pass_first_fits s i past Departure before
first_fits s i past call.Poll before fits = poll_first_fits s i past before
first_fits s i past call.Force before fits =
    over_fits s i call.Force past Force 0 (end_shown (word_at s.words 0)) refl before (λ _ e. e) tt tt

-- a party passes a tier: the step at the token's tier counts, and a step of a climb has counted
pass_fits : (s : State) (i : ℕ) (c : Call) (past : List Moment) (own : Passage) (t : ℕ) (passage : Passage) (kind : Kind) (here : Progress)
    (over : Played)
    → (known : (j : Passage) × (c ≡ call_of j))
    → Fits s i c past (last_look over)
    → Fits s i c past (record { kind = Refresh; tier = t; next = here; answer = GoesOn })
    → ((next : Progress) (a : Played) → times_counted (at i s (record { kind = kind; tier = t; next = next; answer = a }) ∷ past) ≡ 1)
    → Fits s i c past (pass_turn s.parents own t passage kind here over (word_at s.words t) (view_at s.views i))
pass_fits s i c past own t passage kind here over known at_end waits once =
    let w : Fields = word_at s.words t in
    let v : View = view_at s.views i in
    let v' : View = stepped_view s.parents s.words kind t (view_at s.views i) in
    let parties : ℕ = (passed t passage (word_at s.words t)).parties in
    let goes : Errand → Turn = passed_turn own t passage kind w v in
    by_passing (Fits s i c past) s.parents own t passage kind here over w v (λ _. at_end) (λ _ _. waits)
    (λ _ _. record {
      says = record {
        counts = once Idle (Done v.phase) ∙ sym (ap counts_when_done known.1 ∙ done_once known.0);
        places = subst (λ (x : Call). Places x (Done v.phase) v') (sym known.1) (places_pass known.0 (Done v.phase) v');
        notes = tt;
      };
      keeps = tt;
    })
    (λ _ _ _. record {
      says = record {
        counts = once (Due own) (MustAdvance v.phase parties);
        places =
            subst (λ (x : Call). Places x (MustAdvance v.phase parties) v') (sym known.1)
            (places_pass known.0 (MustAdvance v.phase parties) v');
        notes = tt;
      };
      keeps = (known, once (Due own) (MustAdvance v.phase parties));
    })
    (λ _ j _ _. let n = once (Owing own) GoesOn in record {
      says = goes_on_once s i c past (goes (Climbing (parent_of s.parents t) j)) refl (omega arith);
      keeps = (known, n);
    })

own_counts : (passage : Passage) → is_counting (own_kind passage) ≡ true
own_counts Arrival = refl
own_counts Departure = refl

-- each step of a call
turn_fits : (s : State) (i : ℕ) (c : Call) (past : List Moment) (p : Progress) → is_active p ≡ true
    → CallFits s.parents p (view_at s.views i)
    → Keeps c past p (view_at s.views i) → Fits s i c past (turn s.parents s.words p (view_at s.views i))
turn_fits s i c past Idle active fits keeps = not_both false active refl
turn_fits s i c past (Due own) active fits keeps = not_both false active refl
turn_fits s i c past (Begun d) active fits keeps =
    subst (λ (x : Call). Fits s i x past (first_turn d (word_at s.words 0) (word_at s.words (view_at s.views i).tier) (view_at s.views i)))
    keeps.0
    (first_fits s i past d keeps.1 fits.1)
turn_fits s i c past (ToSeek tier size) active fits keeps =
    subst (λ (x : Call). Fits s i x past (turn s.parents s.words (ToSeek tier size) (view_at s.views i))) (sym keeps.0)
    (seek_fits s i past tier size (claimed_by (view_at s.views i).errand) (ancestor s.parents tier (claimed_by (view_at s.views i).errand))
    fits.1.none keeps.1)
turn_fits s i c past Settling active fits keeps =
    let v : View = view_at s.views i in
    let r : Turn = settle_turn s.parents v (Opening fits.0 (suc fits.1) Joined fits.2) in
    let place : IsPlaced keeps.1.0 keeps.1.1 v.phase v = keeps.1.3 in
    subst (λ (x : Call). Fits s i x past (settle_turn s.parents v v.errand)) (sym keeps.1.2)
    (subst (λ (e : Errand). Fits s i (call.Join keeps.1.0 keeps.1.1) past (settle_turn s.parents v e)) (sym fits.3)
    (joined_fits s i past keeps.1.0 keeps.1.1 r fits.1 v.phase refl refl (same_count i s past r 1 refl keeps.0)
    (record { tier = place.tier; size = place.size; phase = refl; arrived = place.arrived })))
turn_fits s i c past (ToGiveBack a) active fits keeps =
    let v : View = view_at s.views i in
    let r : Turn = give_back_turn s.parents a (Opening fits.0 (suc fits.1) GoingBack fits.2) in
    subst (λ (e : Errand). Fits s i c past (give_back_turn s.parents a e)) (sym fits.3)
    (refused_fits s i c past r fits.1 a fits.4 refl refl (same_count i s past r 0 refl keeps.0) keeps.1
    (notes_later a v (stepped_view s.parents s.words r.kind r.tier v) (at i s r) past refl keeps.2))
turn_fits s i c past (Passing passage) active fits keeps =
    let v : View = view_at s.views i in
    let wait : Turn = record { kind = Refresh; tier = v.tier; next = Passing passage; answer = GoesOn } in
    let n = same_count i s past wait 0 refl keeps.1 in
    let a : Played = end_shown (word_at s.words v.tier) in
    pass_fits s i c past passage v.tier passage (own_kind passage) (Passing passage) (end_shown (word_at s.words v.tier)) (passage, keeps.0)
    (over_fits s i c past Look 0 (end_shown (word_at s.words v.tier)) refl keeps.1 (λ _ e. e)
    (subst (λ (x : Call). Places x a (looked (word_at s.words 0) v)) (sym keeps.0) (places_pass passage a (looked (word_at s.words 0) v)))
    tt)
    (record { says = goes_on_once s i c past wait refl (omega arith); keeps = (keeps.0, n) })
    (λ next b. one_count i s past (record { kind = own_kind passage; tier = v.tier; next = next; answer = b }) (own_counts passage) keeps.1)
turn_fits s i c past (Owing own) active fits keeps =
    let v : View = view_at s.views i in
    let t : ℕ = fits.0 in
    let wait : Turn = record { kind = Refresh; tier = t; next = Owing own; answer = GoesOn } in
    let n = same_count i s past wait 1 refl keeps.1 in
    let m = same_count i s past (last_look (Done v.phase)) 1 refl keeps.1 in
    let v0 : View = looked (word_at s.words 0) v in
    subst (λ (x : Errand). Fits s i c past (climb_turn s.parents own (word_at s.words (errand_place s.parents x)) v x)) (sym fits.2)
    (pass_fits s i c past own fits.0 fits.1 (Climb fits.1) (Owing own) (Done v.phase) keeps.0
    (record {
      says = record {
        counts = m ∙ sym (ap counts_when_done keeps.0.1 ∙ done_once keeps.0.0);
        places = subst (λ (x : Call). Places x (Done v.phase) v0) (sym keeps.0.1) (places_pass keeps.0.0 (Done v.phase) v0);
        notes = tt;
      };
      keeps = tt;
    })
    (record { says = goes_on_once s i c past wait refl (omega arith); keeps = (keeps.0, n) })
    (λ next b. same_count i s past (record { kind = Climb fits.1; tier = fits.0; next = next; answer = b }) 1 refl keeps.1))
turn_fits s i c past (Refreshing has_moved) active fits keeps =
    let v : View = view_at s.views i in
    let w : Fields = word_at s.words v.tier in
    subst (λ (x : Call). Fits s i x past (turn s.parents s.words (Refreshing has_moved) v)) (sym keeps.0)
    (by_test (λ b. Fits s i call.Poll past (record { kind = cond b Refresh Glance; tier = v.tier; next = Idle; answer = polled has_moved v.phase }))
    (lags w v)
    (λ _. over_fits s i call.Poll past Refresh v.tier (polled has_moved v.phase) refl keeps.1 (polled_counts has_moved v.phase) tt
    (polled_notes has_moved v.phase v (at i s (record { kind = Refresh; tier = v.tier; next = Idle; answer = polled has_moved v.phase }) ∷ past)))
    (λ _. over_fits s i call.Poll past Glance v.tier (polled has_moved v.phase) refl keeps.1 (polled_counts has_moved v.phase) tt
    (polled_notes has_moved v.phase v (at i s (record { kind = Glance; tier = v.tier; next = Idle; answer = polled has_moved v.phase }) ∷ past))))

finish_quiet : (ends b : Bool) → is_counting (cond b Look (Advance ends)) ≡ false
finish_quiet ends true = refl
finish_quiet ends false = refl

-- and the last step of a call that has to advance the root
last_fits : (s : State) (i : ℕ) (c : Call) (past : List Moment) (ends : Bool) (p : Progress) → is_due p ≡ true
    → Keeps c past p (view_at s.views i)
    → Fits s i c past (finish_at s i ends)
last_fits s i c past ends Idle due keeps = not_both false due refl
last_fits s i c past ends (Begun d) due keeps = not_both false due refl
last_fits s i c past ends (ToSeek tier size) due keeps = not_both false due refl
last_fits s i c past ends Settling due keeps = not_both false due refl
last_fits s i c past ends (ToGiveBack answer) due keeps = not_both false due refl
last_fits s i c past ends (Passing passage) due keeps = not_both false due refl
last_fits s i c past ends (Owing own) due keeps = not_both false due refl
last_fits s i c past ends (Due own) due keeps =
    let r : Turn = finish_at s i ends in
    let v' : View = stepped_view s.parents s.words r.kind r.tier (view_at s.views i) in
    let phase : ℕ = (view_at s.views i).phase in
    record {
      says = record {
        counts = same_count i s past (finish_at s i ends) 1 (finish_quiet ends (word_at s.words 0).ended) keeps.1
            ∙ sym (ap counts_when_done keeps.0.1 ∙ done_once keeps.0.0);
        places = subst (λ (x : Call). Places x (Done phase) v') (sym keeps.0.1) (places_pass keeps.0.0 (Done phase) v');
        notes = tt;
      };
      keeps = tt;
    }
last_fits s i c past ends (Refreshing has_moved) due keeps = not_both false due refl

-- along a call
abbrev LatestSays : ℕ → Call → List Moment → Type 0
LatestSays i c [] = Unit {0}
LatestSays i c (m ∷ past) = Says c m.turn.answer (view_after_turn i m) (m ∷ past)

abbrev Story : ℕ → Call → List Moment → Progress → View → Type 0
Story i c past p v = Keeps c past p v × LatestSays i c past

reported_after : (s : State) (i : ℕ) (c : Call) (past : List Moment) (r : Turn) → i < length s.views → Fits s i c past r
    → Keeps c (at i s r ∷ past) r.next (stepped_view s.parents s.words r.kind r.tier (view_at s.views i)) × LatestSays i c (at i s r ∷ past)
reported_after s i c past r h fits = (
  fits.keeps,
  subst (λ (v : View). Says c r.answer v (at i s r ∷ past))
      (sym (get_or-set_same s.views i (stepped_view s.parents s.words r.kind r.tier (view_at s.views i)) (new_view 0) h)) fits.says,
)

stories : (i : ℕ) (c : Call) → Carries i (OfToken i (Story i c))
stories i c = of_token i (Story i c)
    (λ s past core h active may here.
    reported_after s i c past (turn_at s i) h (turn_fits s i c past (call_at s.calls i) active (core.calls i h) here.0))
    (λ s past core h due may here.
    reported_after s i c past (finish_at s i (plan_ends s)) h (last_fits s i c past (plan_ends s) (call_at s.calls i) due here.0))

says : (s : State) (i : ℕ) (c : Call) (events : List Event) → IsCore s → IsCall c → may_begin s i c ≡ true → AreEvents events
    → AreOfCall i events
    → LatestSays i c (imaged i events (begun s i c) [])
says s i c events core is may are own = (along_call i c (Story i c) (stories i c) events s core is may ((refl, refl), tt) are own).holds.1

latest_counts : (i : ℕ) (c : Call) (ms : List Moment) → LatestSays i c ms → LatestCounts c ms
latest_counts i c [] h = tt
latest_counts i c (m ∷ past) h = h.counts

-- beside the flat phasers that the labels reach
images : (s : State) (i : ℕ) (c : Call) (events : List Event) → IsCore s → IsCall c → may_begin s i c ≡ true → AreEvents events
    → Alikes (moments i events (begun s i c) (flat_of s) []) (imaged i events (begun s i c) [])
images s i c events core is may are =
    reached i events (begun s i c) (flat_of s) [] [] (begun_core s i c core is may) are (alike_itself (flat_of s)) tt

times_alike : (ms ns : List Moment) → Alikes ms ns → times_counted ms ≡ times_counted ns
times_alike [] [] h = refl
times_alike [] (n ∷ ns) h = absurd h
times_alike (m ∷ ms) [] h = absurd h
times_alike (m ∷ ms) (n ∷ ns) h =
    let a = count_cons (λ (x : Moment). is_counting x.turn.kind) m ms in
    let b = count_cons (λ (x : Moment). is_counting x.turn.kind) n ns in
    let c : cond {A = ℕ} (is_counting m.turn.kind) 1 0 ≡ cond {A = ℕ} (is_counting n.turn.kind) 1 0 =
    ap (λ (x : Moment). cond {A = ℕ} (is_counting x.turn.kind) 1 0) h.0.is in
    let d = times_alike ms ns h.1 in omega arith

counts_alike : (c : Call) (ms ns : List Moment) → Alikes ms ns → LatestCounts c ns → LatestCounts c ms
counts_alike c [] [] h t = tt
counts_alike c [] (n ∷ ns) h t = absurd h
counts_alike c (m ∷ ms) [] h t = absurd h
counts_alike c (m ∷ ms) (n ∷ ns) h t =
    carried (λ (x : Moment). CountsAs c x.turn.answer (times_counted (m ∷ ms))) m n h.0
    (subst (λ (k : ℕ). CountsAs c n.turn.answer k) (sym (times_alike (m ∷ ms) (n ∷ ns) h)) t)

pub calls_count_once : CallsCountOnce
calls_count_once s i c events core is may are own =
    counts_alike c (moments i events (begun s i c) (flat_of s) []) (imaged i events (begun s i c) []) (images s i c events core is may are)
    (latest_counts i c (imaged i events (begun s i c) []) (says s i c events core is may are own))

latest_places : (i tier size : ℕ) (ms ns : List Moment) → Alikes ms ns → LatestSays i (call.Join tier size) ns → LatestPlaces i tier size ms
latest_places i tier size [] [] h t = tt
latest_places i tier size [] (n ∷ ns) h t = absurd h
latest_places i tier size (m ∷ ms) [] h t = absurd h
latest_places i tier size (m ∷ ms) (n ∷ ns) h t =
    carried (λ (x : Moment). PlacesAs tier size x.turn.answer (view_after_turn i x)) m n h.0 t.places

pub joins_place_where_asked : JoinsPlaceWhereAsked
joins_place_where_asked s i tier size events core is may are own =
    latest_places i tier size (moments i events (begun s i (call.Join tier size)) (flat_of s) [])
    (imaged i events (begun s i (call.Join tier size)) [])
    (images s i (call.Join tier size) events core is may are) (says s i (call.Join tier size) events core is may are own)

noted : (v : View) → Tells_ (IsNotedAt v) (IsNotedAt v)
noted v n f g before afterwards is = record { tier = is.tier; claimed = is.claimed; size = is.size; kind = is.kind; note = is.note }

notes_alike : (a : Played) (v : View) (ms ns : List Moment) → Alikes ms ns → NotesAs a v ns → NotesAs a v ms
notes_alike GoesOn v ms ns h t = tt
notes_alike (Done phase) v ms ns h t = tt
notes_alike (Passed phase) v ms ns h t = tt
notes_alike Waiting v ms ns h t = tt
notes_alike (Held phase why) v ms ns h t = any_alike (IsNotedAt v) (IsNotedAt v) (noted v) ms ns h t
notes_alike (Full parties) v ms ns h t = any_alike (IsNotedAt v) (IsNotedAt v) (noted v) ms ns h t
notes_alike (AlreadyArrived phase) v ms ns h t = tt
notes_alike (Ended number) v ms ns h t = tt
notes_alike (MustAdvance phase parties) v ms ns h t = tt

latest_notes : (i : ℕ) (c : Call) (ms ns : List Moment) → Alikes ms ns → LatestSays i c ns → LatestNotes i ms
latest_notes i c [] [] h t = tt
latest_notes i c [] (n ∷ ns) h t = absurd h
latest_notes i c (m ∷ ms) [] h t = absurd h
latest_notes i c (m ∷ ms) (n ∷ ns) h t =
    carried (λ (x : Moment). NotesAs x.turn.answer (view_after_turn i x) (m ∷ ms)) m n h.0
    (notes_alike n.turn.answer (view_after_turn i n) (m ∷ ms) (n ∷ ns) h t.notes)

pub refusals_are_noted : RefusalsAreNoted
refusals_are_noted s i c events core is may are own =
    latest_notes i c (moments i events (begun s i c) (flat_of s) []) (imaged i events (begun s i c) [])
    (images s i c events core is may are)
    (says s i c events core is may are own)
