-- What the steps of arrivals, departures and joins do to their token.
use Rattle.std.proofs.Common.{◌≡◌, ◌≢◌, ℕ, zero, suc, ◌+◌, ◌-◌, ◌<◌, ◌≤◌, ◌⊎◌, inl, inr, ⊎_elim, Bool, true, false, cond, eqb, ltb, length, refl, sym, ◌∙◌, ap, subst, arith, Some, None}
use Rattle.std.specs.Prelude.{◌&&◌, ◌||◌}
use Rattle.std.proofs.lemmas.Bool.{cases_eq, ne_eqb, eqb-true, lt-ltb}
use Rattle.std.proofs.lemmas.List.{get_or-set_same}
use Rattle.phaser_word.specs.Fields.{Fields}
use Rattle.flat_phaser.specs.declared.FlatStep.TheVariants as flat
use Rattle.flat_phaser.proofs.Everyone.{either}
use Rattle.tier_steps.specs.declared.view.View.{View}
use Rattle.tier_steps.specs.declared.view.Errand.{Errand}
use Rattle.tier_steps.specs.declared.view.Errand.TheVariants.{Rest, Opening, Climbing, Advancing}
use Rattle.tier_steps.specs.declared.view.Passage.{Passage}
use Rattle.tier_steps.specs.declared.view.Passage.TheVariants.{Arrival, Departure}
use Rattle.tier_steps.specs.declared.kind.Kind.{Kind}
use Rattle.tier_steps.specs.declared.kind.Kind.TheVariants.{Look, Refuse, Advance, Climb, Refresh}
use Rattle.tier_shape.specs.Parents.{parent_of}
use Rattle.tier_steps.specs.View.{new_view, ancestor}
use Rattle.tier_steps.specs.Tally.{word_at, root_phase, ErrandFits}
use Rattle.tier_steps.specs.Step.{passed, owed, looked, dropped}
use Rattle.tier_steps.specs.Laws.{stepped_view}
use Rattle.tier_steps.specs.Image.{label}
use Rattle.tier_steps.proofs.Pass.{unarrived_is_current}
use Rattle.tier_core.specs.declared.call.Call.TheVariants as call
use Rattle.tier_core.specs.declared.call.Played.{Played}
use Rattle.tier_core.specs.declared.call.Played.TheVariants.{GoesOn, Done, AlreadyArrived}
use Rattle.tier_core.specs.declared.call.Progress.{Progress}
use Rattle.tier_core.specs.declared.call.Progress.TheVariants.{Idle, Begun, Seeking as ToSeek, Settling, GivingBack as ToGiveBack, Passing, Owing, Due, Refreshing}
use Rattle.tier_core.specs.declared.call.Step.TheVariants.{Finish}
use Rattle.tier_core.specs.declared.call.Turn.{Turn}
use Rattle.tier_core.specs.Turn.{end_shown, lags, own_kind, goes_on, reported, last_look, pass_turn, climb_turn, errand_place}
use Rattle.tier_core.specs.Machine.{State, IsCore, view_at, call_at, is_due, turn_at, played}
use Rattle.tier_core.specs.Run.{may_finish, finish_at, plan_ends, after}
use Rattle.tier_core.proofs.Turns.{by_test, not_both, looked_size, looked_tier, looked_rests, looked_ended}
use Rattle.tier_laws.specs.Frame.{flat_of}
use Rattle.tier_laws.specs.Hold.{IsAwaited}
use Rattle.tier_laws.specs.Calls.{view_then, IsSame, IsLookStep, PassesBeginWithALook, GoesAsOwed, Counts, IsOwnStep, PassesCount, IsClimbStep, ClimbsKeepMembers, AdvancesKeepMembers}
use Rattle.tier_laws.proofs.Holding.{fits_at}
use Rattle.tier_laws.proofs.Memory.{by_turn}
use Rattle.tier_laws.proofs.Stepping.{Gone, gone, fitting, awaited_look}
use Rattle.tier_steps.specs.declared.view.OpeningStage.TheVariants.{Joined, GoingBack}
use Rattle.tier_steps.specs.Step.{added, opening, refused, given_up}
use Rattle.tier_steps.proofs.Advance.{ancestor_within}
use Rattle.tier_core.specs.Turn.{claimed_by, is_refusing, is_claimable, has_no_room, seek_turn, settle_turn, give_back_turn}
use Rattle.tier_laws.specs.Calls.{IsPlaced, IsJoinLook, JoinsBeginWithALook, JoinsPlaceAtOnce, IsAdmitted, OpenTiersAdmit, is_settling, SettlingKeepsMembers}
use Rattle.tier_laws.proofs.Counting.{looked_empty}
use Rattle.tier_laws.proofs.Seeking.{joined_phase, ended_root}
use Rattle.tier_laws.proofs.Ended.{looked_same}
use Rattle.tier_steps.specs.Word.{is_being_opened}
use Rattle.std.proofs.lemmas.Bool.{ltb-true}
use Rattle.tier_laws.proofs.Searching.{by_search}
use Rattle.tier_laws.proofs.Passing.{by_passing}

-- no tier has ended while the root goes on
pub still_going : (s : State) (t : ℕ) → IsCore s → (word_at s.words 0).ended ≡ false → t < length s.words
    → (word_at s.words t).ended ≡ false
still_going s t core going h = ⊎_elim
    (λ (z : t ≡ 0). ap (λ n. (word_at s.words n).ended) z ∙ going)
    (λ (n : t ≢ 0). core.tally.ends t (omega arith) h)
    (cases_eq t 0)

-- a party that passes a tier which hasn't ended: either the tier is refreshed first, or the call goes on as it is owed
pub pass_goes : (s : State) (i : ℕ) (own : Passage) (t : ℕ) (passage : Passage) (kind : Kind) (here : Progress) (over : Played) (Q : Type 0)
    → (word_at s.words t).ended ≡ false
    → (stepped_view s.parents s.words kind t (view_at s.views i)).errand ≡ owed (parent_of s.parents t) t passage (word_at s.words t)
    → (Gone s i (record { kind = Refresh; tier = t; next = here; answer = GoesOn }) → Q)
    → (view_then s i ≡ stepped_view s.parents s.words kind t (view_at s.views i) → GoesAsOwed s i own → Q)
    → Gone s i (pass_turn s.parents own t passage kind here over (word_at s.words t) (view_at s.views i)) → Q
pass_goes s i own t passage kind here over Q going errand waits passes =
    let w : Fields = word_at s.words t in
    let v : View = view_at s.views i in
    let parties : ℕ = (passed t passage (word_at s.words t)).parties in
    by_passing (λ r. Gone s i r → Q) s.parents own t passage kind here over w v (λ e. not_both w.ended e going) (λ _ _. waits)
    (λ _ owes g. passes g.view (inl (g.answer, ap (λ (x : View). x.errand) g.view ∙ (errand ∙ owes), g.call)))
    (λ _ _ owes g. passes g.view (inr (inr ((parties, g.answer), ap (λ (x : View). x.errand) g.view ∙ (errand ∙ owes), g.call))))
    (λ _ j _ owes g. passes g.view (inr (inl (g.answer, (parent_of s.parents t, j, ap (λ (x : View). x.errand) g.view ∙ (errand ∙ owes)), g.call))))

-- the look of an arrival and of a departure
look_by : (s : State) (i : ℕ) (passage : Passage) → IsCore s → (word_at s.words 0).ended ≡ false → IsAwaited s i
    → (view_at s.views i).phase ≡ root_phase s.words
    → Gone s i (record {
      kind = Look;
      tier = 0;
      next = cond (word_at s.words 0).ended Idle
          (cond (eqb (looked (word_at s.words 0) (view_at s.views i)).arrived (view_at s.views i).size) Idle (Passing passage));
      answer = cond (word_at s.words 0).ended (end_shown (word_at s.words 0))
          (cond (eqb (looked (word_at s.words 0) (view_at s.views i)).arrived (view_at s.views i).size)
          (AlreadyArrived (looked (word_at s.words 0) (view_at s.views i)).phase) GoesOn);
    }) → IsLookStep s i (Passing passage)
look_by s i passage core going is now =
    let w : Fields = word_at s.words 0 in
    let v : View = view_at s.views i in
    let look = awaited_look s i core going is in
    let make : Progress → Played → Turn = λ next answer. record { kind = Look; tier = 0; next = next; answer = answer } in
    by_test (λ b. Gone s i (make (cond b Idle (cond (eqb (looked w v).arrived v.size) Idle (Passing passage)))
    (cond b (end_shown w) (cond (eqb (looked w v).arrived v.size) (AlreadyArrived (looked w v).phase) GoesOn)))
    → IsLookStep s i (Passing passage))
    w.ended
    (λ q. not_both w.ended q going)
    (λ _. by_test (λ b. Gone s i (make (cond b Idle (Passing passage)) (cond b (AlreadyArrived (looked w v).phase) GoesOn)) → IsLookStep s i (Passing passage))
    (eqb (looked w v).arrived v.size)
    (λ q. absurd (let a = look.awaited in let b = eqb-true (looked w v).arrived v.size q in omega arith))
    (λ _ g. record {
      same = record {
        tier = ap (λ (x : View). x.tier) g.view ∙ looked_tier w v;
        size = ap (λ (x : View). x.size) g.view ∙ looked_size w v;
        phase = ap (λ (x : View). x.phase) g.view ∙ (look.now ∙ sym now);
        arrived = ap (λ (x : View). x.arrived) g.view ∙ look.kept now;
      };
      errand = ap (λ (x : View). x.errand) g.view ∙ looked_rests w v is.rests;
      answer = g.answer;
      call = g.call;
    }))

pub passes_begin_with_a_look : PassesBeginWithALook
passes_begin_with_a_look s i Arrival core going is now e =
    look_by s i Arrival core going is now (gone s i (Begun call.Arrive) core is.known e refl)
passes_begin_with_a_look s i Departure core going is now e =
    look_by s i Departure core going is now (gone s i (Begun call.Leave) core is.known e refl)

-- the step at the token's tier
pub counted : (s : State) (i : ℕ) (passage : Passage) → (view_at s.views i).arrived < (view_at s.views i).size
    → view_then s i ≡ stepped_view s.parents s.words (own_kind passage) (view_at s.views i).tier (view_at s.views i)
    → Counts passage (view_at s.views i) (view_then s i)
counted s i Arrival some view =
    (ap (λ (x : View). x.tier) view, ap (λ (x : View). x.size) view, ap (λ (x : View). x.phase) view, ap (λ (x : View). x.arrived) view)
counted s i Departure some view = (
  ap (λ (x : View). x.tier) view,
  (let a : (view_then s i).size ≡ (view_at s.views i).size - 1 = ap (λ (x : View). x.size) view in omega arith),
  ap (λ (x : View). x.phase) view,
  ap (λ (x : View). x.arrived) view,
)

pub own_errand : (s : State) (i : ℕ) (passage : Passage)
    → (stepped_view s.parents s.words (own_kind passage) (view_at s.views i).tier (view_at s.views i)).errand
    ≡ owed (parent_of s.parents (view_at s.views i).tier) (view_at s.views i).tier passage (word_at s.words (view_at s.views i).tier)
own_errand s i Arrival = refl
own_errand s i Departure = refl

pub passes_count : PassesCount
passes_count s i passage core h going e home =
    let v : View = view_at s.views i in
    let fits = fitting s i (Passing passage) core h e in
    let some : (view_at s.views i).arrived < (view_at s.views i).size = fits.1 in
    let fit = fits_at s i core h in
    let now = unarrived_is_current s.parents (root_phase s.words) (word_at s.words 0).ended (view_at s.views i) fit fits.1 in
    let within : v.tier < length s.words = subst (λ (n : ℕ). v.tier < n) (sym core.tally.long) (fit.placed (omega arith)) in
    pass_goes s i passage v.tier passage (own_kind passage) (Passing passage) (end_shown (word_at s.words v.tier)) (IsOwnStep s i passage)
    (still_going s v.tier core going within) (own_errand s i passage)
    (λ g. absurd (g.may.needs.behind (home ∙ sym now)))
    (λ view owes. record { counts = counted s i passage fits.1 view; owes = owes })
    (gone s i (Passing passage) core h e refl)

-- a climb that finds the root ended
climb_over : (s : State) (i : ℕ) (own : Passage) (t : ℕ) (passage : Passage) → IsCore s → t < length s.words
    → (word_at s.words t).ended ≡ true
    → (view_at s.views i).errand ≡ Climbing t passage → Gone s i (last_look (Done (view_at s.views i).phase)) → IsClimbStep s i own
climb_over s i own t passage core within ended owes g =
    let v : View = view_at s.views i in
    let w : Fields = word_at s.words 0 in
    let root : t ≡ 0 = ended_root s t core within ended in
    let over : w.ended ≡ true = ap (λ n. (word_at s.words n).ended) (sym root) ∙ ended in
    record {
      same = subst (λ (x : View). IsSame v x) (sym g.view) (looked_same w v over);
      owes = inl (
        g.answer,
        ap (λ (x : View). x.errand) g.view
            ∙ (looked_ended w v over ∙ ap dropped (owes ∙ ap (λ n. Climbing n passage) root)),
        g.call,
      );
    }

pub climbs_keep_members : ClimbsKeepMembers
climbs_keep_members s i own core h e =
    let v : View = view_at s.views i in
    let fits = fitting s i (Owing own) core h e in
    let fit : ErrandFits s.parents (root_phase s.words) (view_at s.views i) (Climbing fits.0 fits.1) =
    subst (λ (x : Errand). ErrandFits s.parents (root_phase s.words) (view_at s.views i) x) fits.2 (fits_at s i core h).errand in
    let within : fits.0 < length s.words = subst (λ (n : ℕ). fits.0 < n) (sym core.tally.long) fit.1 in
    let w : Fields = word_at s.words fits.0 in
    let r : Turn = pass_turn s.parents own fits.0 fits.1 (Climb fits.1) (Owing own) (Done v.phase) (word_at s.words fits.0) v in
    let g : Gone s i r =
    subst (λ (x : Errand). Gone s i (climb_turn s.parents own (word_at s.words (errand_place s.parents x)) v x)) fits.2
    (gone s i (Owing own) core h e refl) in
    ⊎_elim
    (λ (ended : (word_at s.words fits.0).ended ≡ true). climb_over s i own fits.0 fits.1 core within ended fits.2
    (subst (λ (x : Turn). Gone s i x) (by_turn (λ x. x ≡ last_look (Done v.phase)) (word_at s.words fits.0).ended (last_look (Done v.phase))
    (cond (lags w v) (record { kind = Refresh; tier = fits.0; next = Owing own; answer = GoesOn }) (record {
      kind = Climb fits.1;
      tier = fits.0;
      next = goes_on own (owed (parent_of s.parents fits.0) fits.0 fits.1 w);
      answer = reported v.phase (passed fits.0 fits.1 w).parties (owed (parent_of s.parents fits.0) fits.0 fits.1 w);
    })) (λ _. refl) (λ going. not_both (word_at s.words fits.0).ended ended going)) g))
    (λ (going : (word_at s.words fits.0).ended ≡ false).
    pass_goes s i own fits.0 fits.1 (Climb fits.1) (Owing own) (Done v.phase) (IsClimbStep s i own) going refl
    (λ g. record {
      same = record {
        tier = ap (λ (x : View). x.tier) g.view;
        size = ap (λ (x : View). x.size) g.view;
        phase = ap (λ (x : View). x.phase) g.view;
        arrived = ap (λ (x : View). x.arrived) g.view;
      };
      owes = inr (inl (g.answer, (fits.0, fits.1, ap (λ (x : View). x.errand) g.view ∙ fits.2), g.call));
    })
    (λ view owes. record {
      same = record {
        tier = ap (λ (x : View). x.tier) view;
        size = ap (λ (x : View). x.size) view;
        phase = ap (λ (x : View). x.phase) view;
        arrived = ap (λ (x : View). x.arrived) view;
      };
      owes = owes;
    }) g)
    (either (word_at s.words fits.0).ended)

-- the advance, or the look in its place
finished : (s : State) (i : ℕ) (kind : Kind) → (view_at s.views i).errand ≡ Advancing
    → ((kind ≡ Look) × ((word_at s.words 0).ended ≡ true)) ⊎ ((ends : Bool) × (kind ≡ Advance ends))
    → IsSame (view_at s.views i) (stepped_view s.parents s.words kind 0 (view_at s.views i))
    × ((stepped_view s.parents s.words kind 0 (view_at s.views i)).errand ≡ Rest)
finished s i kind owes which = ⊎_elim
    (λ look. subst (λ (k : Kind). IsSame (view_at s.views i) (stepped_view s.parents s.words k 0 (view_at s.views i))
    × ((stepped_view s.parents s.words k 0 (view_at s.views i)).errand ≡ Rest)) (sym look.0) (
      looked_same (word_at s.words 0) (view_at s.views i) look.1,
      looked_ended (word_at s.words 0) (view_at s.views i) look.1 ∙ ap dropped owes,
    ))
    (λ step. subst (λ (k : Kind). IsSame (view_at s.views i) (stepped_view s.parents s.words k 0 (view_at s.views i))
    × ((stepped_view s.parents s.words k 0 (view_at s.views i)).errand ≡ Rest)) (sym step.1)
    (record { tier = refl; size = refl; phase = refl; arrived = refl }, refl))
    which

pub advances_keep_members : AdvancesKeepMembers
advances_keep_members s i own core h e =
    let r : Turn = finish_at s i (plan_ends s) in
    let may : may_finish s i ≡ true = ap (λ b. b && is_due (call_at s.calls i)) (lt-ltb i (length s.views) h) ∙ ap is_due e in
    let here : after s (Finish i) ≡ played s i (finish_at s i (plan_ends s)) =
    ap (λ b. cond b (played s i (finish_at s i (plan_ends s))) s) may in
    let which : ((r.kind ≡ Look) × ((word_at s.words 0).ended ≡ true)) ⊎ ((ends : Bool) × (r.kind ≡ Advance ends)) = ⊎_elim
    (λ (ended : (word_at s.words 0).ended ≡ true). inl (ap (λ b. cond b Look (Advance (plan_ends s))) ended, ended))
    (λ (going : (word_at s.words 0).ended ≡ false). inr (plan_ends s, ap (λ b. cond b Look (Advance (plan_ends s))) going))
    (either (word_at s.words 0).ended) in
    let did = finished s i (finish_at s i (plan_ends s)).kind (fitting s i (Due own) core h e) which in
    let view : view_at (after s (Finish i)).views i ≡ stepped_view s.parents s.words r.kind 0 (view_at s.views i) =
    ap (λ (x : State). view_at x.views i) here
    ∙ get_or-set_same s.views i (stepped_view s.parents s.words r.kind r.tier (view_at s.views i)) (new_view 0) h in
    record {
      same = subst (λ (x : View). IsSame (view_at s.views i) x) (sym view) did.0;
      errand = ap (λ (x : View). x.errand) view ∙ did.1;
      call = ap (λ (x : State). call_at x.calls i) here ∙ get_or-set_same s.calls i Idle Idle (let l = core.long in omega arith);
      answer = refl;
    }

-- the look of a join
pub joins_begin_with_a_look : JoinsBeginWithALook
joins_begin_with_a_look s i tier size core h going e =
    let w : Fields = word_at s.words 0 in
    let v : View = view_at s.views i in
    let fits = fitting s i (Begun (call.Join tier size)) core h e in
    let all : v.arrived ≡ v.size = (let a = (fits_at s i core h).within in let b = fits.1.none in omega arith) in
    let make : Kind → Progress → Played → Turn = λ kind next answer. record { kind = kind; tier = 0; next = next; answer = answer } in
    by_test
    (λ x. Gone s i (make (cond x Look (cond (eqb tier 0 && is_refusing size w) (Refuse 0 0 size) Look)) (cond x Idle (ToSeek tier size))
    (cond x (end_shown w) GoesOn)) → IsJoinLook s i tier size) w.ended
    (λ q. not_both w.ended q going)
    (λ _. by_test (λ x. Gone s i (make (cond x (Refuse 0 0 size) Look) (ToSeek tier size) GoesOn) → IsJoinLook s i tier size) (eqb tier 0 && is_refusing size w)
    (λ _ g. record {
      none = ap (λ (x : View). x.size) g.view ∙ (looked_size w v ∙ fits.1.none);
      errand = ap (λ (x : View). x.errand) g.view ∙ ap given_up (looked_rests w v fits.0);
      phase = ap (λ (x : View). x.phase) g.view ∙ looked_empty w v going all;
      answer = g.answer;
      call = g.call;
    })
    (λ _ g. record {
      none = ap (λ (x : View). x.size) g.view ∙ (looked_size w v ∙ fits.1.none);
      errand = ap (λ (x : View). x.errand) g.view ∙ looked_rests w v fits.0;
      phase = ap (λ (x : View). x.phase) g.view ∙ looked_empty w v going all;
      answer = g.answer;
      call = g.call;
    })) (gone s i (Begun (call.Join tier size)) core h e refl)

pub refused_size : (t : ℕ) (w : Fields) (v : View) → (refused t w v).size ≡ v.size
refused_size zero w v = looked_size w v
refused_size (suc t) w v = refl

-- the steps of a join that looks for its tier
abbrev Places : State → ℕ → ℕ → ℕ → Type 0
Places s i tier size =
    ((label i (turn_at s i).kind ≡ None) × ((view_then s i).size ≡ 0))
    ⊎ ((label i (turn_at s i).kind ≡ Some (flat.Join i size)) × IsPlaced tier size (flat_of s).phase (view_then s i))

seek_places : (s : State) (i tier k size t : ℕ) → IsCore s → t < length s.words → (view_at s.views i).size ≡ 0
    → Gone s i (seek_turn tier k size t (word_at s.words t) (view_at s.views i)) → Places s i tier size
seek_places s i tier k size t core within none =
    let w : Fields = word_at s.words t in
    let v : View = view_at s.views i in
    by_search (λ r. Gone s i r → Places s i tier size) tier k size t w v
    (λ _ g. inl (ap (label i) g.kind, ap (λ (x : View). x.size) g.view ∙ (looked_size (word_at s.words 0) v ∙ none)))
    (λ _ _ g. inl (ap (label i) g.kind, ap (λ (x : View). x.size) g.view ∙ (refused_size t w v ∙ none)))
    (λ _ _ _ g. inl (ap (label i) g.kind, ap (λ (x : View). x.size) g.view ∙ none))
    (λ _ _ _ g. inr (
      ap (label i) g.kind,
      record {
        tier = ap (λ (x : View). x.tier) g.view;
        size = ap (λ (x : View). x.size) g.view;
        phase = ap (λ (x : View). x.phase) g.view ∙ joined_phase s t (added k size) core within g.may.needs.1;
        arrived = ap (λ (x : View). x.arrived) g.view;
      },
    ))

pub joins_place_at_once : JoinsPlaceAtOnce
joins_place_at_once s i tier size core h e =
    let k : ℕ = claimed_by (view_at s.views i).errand in
    let fits = fitting s i (ToSeek tier size) core h e in
    seek_places s i tier k size (ancestor s.parents tier k) core
    (subst (λ (n : ℕ). ancestor s.parents tier k < n) (sym core.tally.long) (ancestor_within s.parents tier k core.shape fits.1.place))
    fits.1.none (gone s i (ToSeek tier size) core h e refl)

pub not_yet : (m n : ℕ) → n ≤ m → ltb m n ≡ false
not_yet m n h = ⊎_elim (λ (e : ltb m n ≡ true). absurd (let a = ltb-true m n e in omega arith)) (λ e. e) (either (ltb m n))

unclaimable : (a b c : Bool) → b ≡ false → (a && (b && c)) ≡ false
unclaimable true b c e = ap (λ x. x && c) e
unclaimable false b c e = refl

-- a tier that is open, waits for a party and has room refuses nothing
pub admits : (w : Fields) (more : ℕ) → 0 < w.parties → 0 < w.unarrived → w.parties + more ≤ 65535 → is_refusing more w ≡ false
admits w more some waits capacity =
    let a : has_no_room more w ≡ false = not_yet 65535 (w.parties + more) capacity in
    let b : eqb w.unarrived 0 ≡ false = ne_eqb w.unarrived 0 (omega arith) in
    let c : is_being_opened w ≡ false = ap (λ x. cond x (eqb w.unarrived 2) false) (ne_eqb w.parties 0 (omega arith)) in
    ap (λ x. x || ((eqb w.unarrived 0) || is_being_opened w)) a ∙ (ap (λ x. x || is_being_opened w) b ∙ c)

pub no_claim : (t : ℕ) (w : Fields) → 0 < w.parties → is_claimable t w ≡ false
no_claim t w some = unclaimable (ltb 0 t) (eqb w.parties 0) (eqb w.unarrived 1) (ne_eqb w.parties 0 (omega arith))

-- a join at a good tier
pub open_tiers_admit : OpenTiersAdmit
open_tiers_admit s i tier size core h going e rests some waits capacity =
    let v : View = view_at s.views i in
    let w : Fields = word_at s.words tier in
    let fits = fitting s i (ToSeek tier size) core h e in
    let within : tier < length s.words = subst (λ (n : ℕ). tier < n) (sym core.tally.long) fits.1.place in
    let g : Gone s i (seek_turn tier 0 size tier w v) = subst (λ (k : ℕ). Gone s i (seek_turn tier k size (ancestor s.parents tier k)
    (word_at s.words (ancestor s.parents tier k)) v)) (ap claimed_by rests) (gone s i (ToSeek tier size) core h e refl) in
    by_search (λ r. Gone s i r → IsAdmitted s i tier size) tier 0 size tier w v
    (λ q. not_both w.ended q (still_going s tier core going within))
    (λ _ q. not_both (is_refusing size w) q (admits w size some waits capacity))
    (λ _ _ q. not_both (is_claimable tier w) q (no_claim tier w some))
    (λ _ _ _ j. let phase = joined_phase s tier size core within j.may.needs.1 in
    record {
      placed = record {
        tier = ap (λ (x : View). x.tier) j.view;
        size = ap (λ (x : View). x.size) j.view;
        phase = ap (λ (x : View). x.phase) j.view ∙ phase;
        arrived = ap (λ (x : View). x.arrived) j.view;
      };
      errand = ap (λ (x : View). x.errand) j.view;
      answer = j.answer ∙ ap Done phase;
      call = j.call;
    }) g

-- what follows the join changes the errand alone
kept_by : (s : State) (i : ℕ) (e : Errand) → view_then s i ≡ record (view_at s.views i) { errand = e }
    → IsSame (view_at s.views i) (view_then s i)
kept_by s i e view = record {
  tier = ap (λ (x : View). x.tier) view;
  size = ap (λ (x : View). x.size) view;
  phase = ap (λ (x : View). x.phase) view;
  arrived = ap (λ (x : View). x.arrived) view;
}

settling_by : (s : State) (i : ℕ) (p : Progress) → IsCore s → i < length s.views → call_at s.calls i ≡ p → is_settling p ≡ true
    → IsSame (view_at s.views i) (view_then s i)
settling_by s i Idle core h e q = not_both false q refl
settling_by s i (Begun c) core h e q = not_both false q refl
settling_by s i (ToSeek tier size) core h e q = not_both false q refl
settling_by s i Settling core h e q =
    let fits = fitting s i Settling core h e in
    let g : Gone s i (settle_turn s.parents (view_at s.views i) (Opening fits.0 (suc fits.1) Joined fits.2)) =
    subst (λ (x : Errand). Gone s i (settle_turn s.parents (view_at s.views i) x)) fits.3 (gone s i Settling core h e refl) in
    kept_by s i (opening fits.0 fits.1 Joined fits.2) g.view
settling_by s i (ToGiveBack answer) core h e q =
    let fits = fitting s i (ToGiveBack answer) core h e in
    let g : Gone s i (give_back_turn s.parents answer (Opening fits.0 (suc fits.1) GoingBack fits.2)) =
    subst (λ (x : Errand). Gone s i (give_back_turn s.parents answer x)) fits.3 (gone s i (ToGiveBack answer) core h e refl) in
    kept_by s i (opening fits.0 fits.1 GoingBack fits.2) g.view
settling_by s i (Passing passage) core h e q = not_both false q refl
settling_by s i (Owing own) core h e q = not_both false q refl
settling_by s i (Due own) core h e q = not_both false q refl
settling_by s i (Refreshing has_moved) core h e q = not_both false q refl

pub settling_keeps_members : SettlingKeepsMembers
settling_keeps_members s i core h q = settling_by s i (call_at s.calls i) core h refl q
