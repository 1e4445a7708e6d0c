-- However far a call has come, 16 steps of its token alone are enough.
use Rattle.std.proofs.Common.{◌≡◌, ◌≢◌, ℕ, zero, suc, ◌-◌, ◌<◌, ◌≤◌, ◌⊎◌, inl, inr, ⊎_elim, Bool, true, false, cond, eqb, ltb, List, length, length-set, refl, sym, ◌∙◌, ap, subst, arith}
use Rattle.std.specs.Prelude.{◌&&◌, not}
use Rattle.std.proofs.lemmas.Bool.{cases_eq, cases_lt, and_from, lt-ltb}
use Rattle.std.proofs.lemmas.List.{get_or-set_same}
use Rattle.flat_phaser.proofs.Everyone.{either}
use Rattle.phaser_word.specs.Fields.{Fields}
use Rattle.tier_shape.specs.Paths.{IsTiers}
use Rattle.tier_steps.specs.Word.{is_being_opened}
use Rattle.tier_steps.specs.declared.view.View.{View}
use Rattle.tier_steps.specs.declared.view.Errand.{Errand}
use Rattle.tier_steps.specs.declared.view.Errand.TheVariants.{Opening, Climbing}
use Rattle.tier_steps.specs.declared.view.OpeningStage.{OpeningStage}
use Rattle.tier_steps.specs.declared.view.OpeningStage.TheVariants.{Seeking, Joined, GoingBack}
use Rattle.tier_steps.specs.declared.view.Passage.{Passage}
use Rattle.tier_steps.specs.declared.view.Passage.TheVariants.{Arrival, Departure}
use Rattle.tier_steps.specs.declared.kind.Kind.{Kind}
use Rattle.tier_steps.specs.declared.kind.Kind.TheVariants.{Climb}
use Rattle.tier_steps.specs.View.{new_view, ancestor, only_at, claims_on, errand_claims, claim_share}
use Rattle.tier_steps.specs.Tally.{word_at, root_phase, ErrandFits, bit}
use Rattle.tier_steps.specs.Step.{added, looked, refused, opening}
use Rattle.tier_steps.specs.Laws.{stepped_view}
use Rattle.tier_steps.proofs.Pass.{only_here}
use Rattle.tier_core.specs.declared.call.Answer.TheVariants as answer
use Rattle.tier_core.specs.declared.call.Call.{Call}
use Rattle.tier_core.specs.declared.call.Call.TheVariants as call
use Rattle.tier_core.specs.declared.call.Played.{Played}
use Rattle.tier_core.specs.declared.call.Played.TheVariants.{GoesOn, Done, Passed, Waiting, Held, Full, AlreadyArrived, Ended, MustAdvance}
use Rattle.tier_core.specs.declared.call.Progress.{Progress}
use Rattle.tier_core.specs.declared.call.Progress.TheVariants.{Idle, Begun, Seeking as ToSeek, Settling, GivingBack as ToGiveBack, Passing, Owing, Due, Refreshing}
use Rattle.tier_core.specs.declared.call.Step.TheVariants.{Go, Finish}
use Rattle.tier_core.specs.declared.call.Turn.{Turn}
use Rattle.tier_core.specs.Turn.{end_shown, refusal, is_refusal, lags, polled, claimed_by, giving_back, settling, unless_claimed, seek_turn, settle_turn, give_back_turn, own_kind, pass_turn, climb_turn, errand_place, first_turn, turn}
use Rattle.tier_core.specs.Machine.{State, IsCore, CallFits, view_at, call_at, is_active, is_due, turn_at, played}
use Rattle.tier_core.specs.Run.{is_idle, may_go, may_finish, finish_at, plan_ends, after, answer_to}
use Rattle.tier_core.proofs.Turns.{not_both, refusal_is}
use Rattle.tier_core.proofs.Places.{turn_may, played_core}
use Rattle.tier_laws.specs.Reports.{is_last}
use Rattle.tier_laws.specs.Count.{going_on, IsAnsweredWithin, SixteenStepsAreEnough}
use Rattle.tier_laws.proofs.Holding.{part, fits_at}
use Rattle.tier_laws.proofs.Ranks.{Within, climbs_to, climb_most, shallow, some_left, turn_lowers}
use Rattle.tier_laws.proofs.Short.{most, moved_left}
use Rattle.tier_laws.proofs.Searching.{by_search}
use Rattle.tier_laws.proofs.Passing.{by_passing}

-- a turn that doesn't answer its call leaves it going
abbrev Further : Progress → Played → Type 0
Further p a = is_last a ≡ false → is_idle p ≡ false

answers : (p : Progress) (a : Played) → is_last a ≡ true → Further p a
answers p a e f = not_both (is_last a) e f

further_if : (b : Bool) (p q : Progress) (x y : Played) → Further p x → Further q y → Further (cond b p q) (cond b x y)
further_if true p q x y f g = f
further_if false p q x y f g = g

refusal_last : (a : Played) → is_refusal a ≡ true → is_last a ≡ true
refusal_last GoesOn e = not_both false e refl
refusal_last (Done phase) e = not_both false e refl
refusal_last (Passed phase) e = not_both false e refl
refusal_last Waiting e = not_both false e refl
refusal_last (Held phase why) e = refl
refusal_last (Full parties) e = refl
refusal_last (AlreadyArrived phase) e = not_both false e refl
refusal_last (Ended number) e = refl
refusal_last (MustAdvance phase parties) e = not_both false e refl

backs_further : (k : ℕ) (a : Played) → is_refusal a ≡ true → Further (giving_back k a) (unless_claimed k a)
backs_further zero a e = answers Idle a (refusal_last a e)
backs_further (suc k) a e = λ _. refl

settles_further : (k phase : ℕ) → Further (settling k) (unless_claimed k (Done phase))
settles_further zero phase = answers Idle (Done phase) refl
settles_further (suc k) phase = λ _. refl

polled_last : (has_moved : Bool) (phase : ℕ) → is_last (polled has_moved phase) ≡ true
polled_last true phase = refl
polled_last false phase = refl

pass_first : (passage : Passage) (root : Fields) (v : View)
    → Further (cond root.ended Idle (cond (eqb (looked root v).arrived v.size) Idle (Passing passage)))
    (cond root.ended (end_shown root) (cond (eqb (looked root v).arrived v.size) (AlreadyArrived (looked root v).phase) GoesOn))
pass_first passage root v =
    let all : Bool = eqb (looked root v).arrived v.size in
    further_if root.ended Idle (cond all Idle (Passing passage)) (end_shown root) (cond all (AlreadyArrived (looked root v).phase) GoesOn)
    (answers Idle (end_shown root) refl)
    (further_if all Idle (Passing passage) (AlreadyArrived (looked root v).phase) GoesOn (answers Idle (AlreadyArrived (looked root v).phase) refl) (λ _. refl))

first_further : (c : Call) (root own : Fields) (v : View) → Further (first_turn c root own v).next (first_turn c root own v).answer
first_further (call.Join tier size) root own v =
    further_if root.ended Idle (ToSeek tier size) (end_shown root) GoesOn (answers Idle (end_shown root) refl) (λ _. refl)
first_further call.Arrive root own v = pass_first Arrival root v
first_further call.Leave root own v = pass_first Departure root v
first_further call.Poll root own v =
    let all : Bool = eqb (looked root v).arrived v.size in
    let lag : Bool = lags own (looked root v) in
    let f : Bool = not (eqb (looked root v).phase v.phase) in
    let a : Played = polled f (looked root v).phase in
    further_if root.ended Idle (cond all Idle (cond lag (Refreshing f) Idle)) (end_shown root) (cond all Waiting (cond lag GoesOn a))
    (answers Idle (end_shown root) refl)
    (further_if all Idle (cond lag (Refreshing f) Idle) Waiting (cond lag GoesOn a) (answers Idle Waiting refl)
    (further_if lag (Refreshing f) Idle GoesOn a (λ _. refl) (answers Idle a (polled_last f (looked root v).phase))))
first_further call.Force root own v = answers Idle (end_shown root) refl

abbrev TurnFurther : Turn → Type 0
TurnFurther r = Further r.next r.answer

seek_further : (tier k size t : ℕ) (w : Fields) (v : View) → TurnFurther (seek_turn tier k size t w v)
seek_further tier k size t w v =
    let a : Played = refusal t (added k size) (refused t w v).phase w in
    by_search TurnFurther tier k size t w v (λ _. backs_further k (end_shown w) refl)
    (λ _ _. backs_further k a (refusal_is t (added k size) (refused t w v).phase w))
    (λ _ _ _ _. refl) (λ _ _ _. settles_further k w.phase)

pass_further : (ps : List ℕ) (own : Passage) (t : ℕ) (passage : Passage) (kind : Kind) (here : Progress) (over : Played) (w : Fields)
    (v : View)
    → is_last over ≡ true → is_idle here ≡ false → TurnFurther (pass_turn ps own t passage kind here over w v)
pass_further ps own t passage kind here over w v last going =
    by_passing TurnFurther ps own t passage kind here over w v (λ _. answers Idle over last) (λ _ _ _. going)
    (λ _ _. answers Idle (Done v.phase) refl) (λ _ _ _ _. refl) (λ _ _ _ _ _. refl)

goes_further : (ps : List ℕ) (ws : List Fields) (p : Progress) (v : View) → is_active p ≡ true → CallFits ps p v
    → TurnFurther (turn ps ws p v)
goes_further ps ws Idle v active fits = not_both false active refl
goes_further ps ws (Due own) v active fits = not_both false active refl
goes_further ps ws (Begun c) v active fits = first_further c (word_at ws 0) (word_at ws v.tier) v
goes_further ps ws (ToSeek tier size) v active fits =
    seek_further tier (claimed_by v.errand) size (ancestor ps tier (claimed_by v.errand))
    (word_at ws (ancestor ps tier (claimed_by v.errand))) v
goes_further ps ws Settling v active fits =
    subst (λ (e : Errand). TurnFurther (settle_turn ps v e)) (sym fits.3) (settles_further fits.1 v.phase)
goes_further ps ws (ToGiveBack a) v active fits =
    subst (λ (e : Errand). TurnFurther (give_back_turn ps a e)) (sym fits.3) (backs_further fits.1 a fits.4)
goes_further ps ws (Passing passage) v active fits =
    pass_further ps passage v.tier passage (own_kind passage) (Passing passage) (end_shown (word_at ws v.tier)) (word_at ws v.tier) v refl
    refl
goes_further ps ws (Owing own) v active fits =
    subst (λ (e : Errand). TurnFurther (climb_turn ps own (word_at ws (errand_place ps e)) v e)) (sym fits.2)
    (pass_further ps own fits.0 fits.1 (Climb fits.1) (Owing own) (Done v.phase) (word_at ws fits.0) v refl refl)
goes_further ps ws (Refreshing has_moved) v active fits = answers Idle (polled has_moved v.phase) (polled_last has_moved v.phase)

-- a path that leads to the root is claimed below it alone
claims_at : (ps : List ℕ) (tier n levels : ℕ) → levels < n → ancestor ps tier levels ≡ 0 → 0 < claims_on ps tier n 0
claims_at ps tier zero levels h root = absurd (omega arith)
claims_at ps tier (suc n) levels h root = ⊎_elim
    (λ (e : levels ≡ n).
    let a : only_at (ancestor ps tier n) 1 0 ≡ only_at 0 1 0 =
    ap (λ k. only_at (ancestor ps tier k) 1 0) (sym e) ∙ ap (λ k. only_at k 1 0) root in
    let b = only_here 0 1 in omega arith)
    (λ (d : levels ≢ n). let a = claims_at ps tier n levels (omega arith) root in omega arith)
    (cases_eq levels n)

few_claims : (s : State) (i tier claimed size levels : ℕ) (stage : OpeningStage) → IsCore s → i < length s.views
    → (view_at s.views i).errand ≡ Opening tier claimed stage size → ancestor s.parents tier levels ≡ 0 → claimed ≤ levels
few_claims s i tier claimed size levels stage core h owes root = ⊎_elim
    (λ (less : levels < claimed). absurd (
    let a : claim_share s.parents 0 (view_at s.views i) ≡ claims_on s.parents tier claimed 0 = ap (errand_claims s.parents 0) owes in
    let b = part s (claim_share s.parents 0) i h in
    let c = core.tally.claims 0 core.tally.some in
    let d : bit (is_being_opened (word_at s.words 0)) ≡ 0 = ap bit core.tally.root_claims in
    let e = claims_at s.parents tier claimed levels less root in
    omega arith))
    (λ (enough : claimed ≤ levels). enough)
    (cases_lt levels claimed)

few_sought : (s : State) (i tier k size levels : ℕ) → IsCore s → i < length s.views
    → (view_at s.views i).errand ≡ opening tier k Seeking size → ancestor s.parents tier levels ≡ 0 → k ≤ levels
few_sought s i tier zero size levels core h owes root = omega arith
few_sought s i tier (suc k) size levels core h owes root = few_claims s i tier (suc k) size levels Seeking core h owes root

-- however far a call has come it has few steps to go
within_sixteen : (s : State) (i : ℕ) (p : Progress) → IsTiers s.parents → IsCore s → i < length s.views
    → CallFits s.parents p (view_at s.views i)
    → Within s.parents s.words p (view_at s.views i) 16
within_sixteen s i Idle tiers core h fits = tt
within_sixteen s i (Begun c) tiers core h fits = most c
within_sixteen s i (ToSeek tier size) tiers core h fits =
    let up = shallow s.parents tier tiers fits.1.place in
    let few = up.1 in
    record {
      levels = up.0;
      root = up.2;
      reached = few_sought s i tier (claimed_by (view_at s.views i).errand) size up.0 core h fits.0 up.2;
      left = omega arith;
    }
within_sixteen s i Settling tiers core h fits =
    let fit : ErrandFits s.parents (root_phase s.words) (view_at s.views i) (Opening fits.0 (suc fits.1) Joined fits.2) =
    subst (λ (x : Errand). ErrandFits s.parents (root_phase s.words) (view_at s.views i) x) fits.3 (fits_at s i core h).errand in
    let up = shallow s.parents fits.0 tiers fit.0.place in
    let few = up.1 in
    let a = few_claims s i fits.0 (suc fits.1) fits.2 up.0 Joined core h fits.3 up.2 in
    let b : claimed_by (view_at s.views i).errand ≡ suc fits.1 = ap claimed_by fits.3 in omega arith
within_sixteen s i (ToGiveBack a) tiers core h fits =
    let fit : ErrandFits s.parents (root_phase s.words) (view_at s.views i) (Opening fits.0 (suc fits.1) GoingBack fits.2) =
    subst (λ (x : Errand). ErrandFits s.parents (root_phase s.words) (view_at s.views i) x) fits.3 (fits_at s i core h).errand in
    let up = shallow s.parents fits.0 tiers fit.0.place in
    let few = up.1 in
    let c = few_claims s i fits.0 (suc fits.1) fits.2 up.0 GoingBack core h fits.3 up.2 in
    let b : claimed_by (view_at s.views i).errand ≡ suc fits.1 = ap claimed_by fits.3 in omega arith
within_sixteen s i (Passing passage) tiers core h fits =
    let v : View = view_at s.views i in
    let some = fits.1 in
    let up = shallow s.parents v.tier tiers ((fits_at s i core h).placed (omega arith)) in
    let few = up.1 in
    let a = climb_most up.0 s.parents s.words v.phase v.tier in
    record { levels = up.0; root = up.2; left = omega arith }
within_sixteen s i (Owing own) tiers core h fits =
    let v : View = view_at s.views i in
    let fit : ErrandFits s.parents (root_phase s.words) (view_at s.views i) (Climbing fits.0 fits.1) =
    subst (λ (x : Errand). ErrandFits s.parents (root_phase s.words) (view_at s.views i) x) fits.2 (fits_at s i core h).errand in
    let to : climbs_to (view_at s.views i).errand ≡ fits.0 = ap climbs_to fits.2 in
    let up = shallow s.parents (climbs_to (view_at s.views i).errand) tiers (subst (λ (t : ℕ). t < length s.parents) (sym to) fit.1) in
    let few = up.1 in
    let a = climb_most up.0 s.parents s.words v.phase (climbs_to v.errand) in
    record { levels = up.0; root = up.2; left = omega arith }
within_sixteen s i (Due own) tiers core h fits = omega arith
within_sixteen s i (Refreshing has_moved) tiers core h fits = omega arith

due_or_active : (p : Progress) → is_idle p ≡ false → (is_due p ≡ true) ⊎ ((is_due p ≡ false) × (is_active p ≡ true))
due_or_active Idle e = not_both true refl e
due_or_active (Begun c) e = inr (refl, refl)
due_or_active (ToSeek tier size) e = inr (refl, refl)
due_or_active Settling e = inr (refl, refl)
due_or_active (ToGiveBack a) e = inr (refl, refl)
due_or_active (Passing passage) e = inr (refl, refl)
due_or_active (Owing own) e = inr (refl, refl)
due_or_active (Due own) e = inl refl
due_or_active (Refreshing has_moved) e = inr (refl, refl)

and_no : (b : Bool) → (b && false) ≡ false
and_no true = refl
and_no false = refl

ends_within : (n : ℕ) (s : State) (i : ℕ) → IsTiers s.parents → IsCore s → i < length s.views → is_idle (call_at s.calls i) ≡ false
    → Within s.parents s.words (call_at s.calls i) (view_at s.views i) n → IsAnsweredWithin n i s
ends_within zero s i tiers core h going left = absurd
    (let a = some_left s.parents s.words (call_at s.calls i) (view_at s.views i) 0 going (core.calls i h) left in omega arith)
ends_within (suc n) s i tiers core h going left = ⊎_elim
    (λ (due : is_due (call_at s.calls i) ≡ true).
    let may : may_finish s i ≡ true = and_from (ltb i (length s.views)) (is_due (call_at s.calls i)) (lt-ltb i (length s.views) h) due in
    let step : going_on s i ≡ Finish i = ap (λ b. cond b (Finish i) (Go i)) may in
    let r : Turn = finish_at s i (plan_ends s) in
    inl (record {
      played = (finish_at s i (plan_ends s)).answer;
      answer = ap (answer_to s) step ∙ ap (λ b. cond b (answer.Played r.answer) answer.NotNow) may;
      last = refl;
    }))
    (λ (no_due : (is_due (call_at s.calls i) ≡ false) × (is_active (call_at s.calls i) ≡ true)).
    let r : Turn = turn_at s i in
    let stays : may_finish s i ≡ false = ap (λ b. ltb i (length s.views) && b) no_due.0 ∙ and_no (ltb i (length s.views)) in
    let may : may_go s i ≡ true =
    and_from (ltb i (length s.views)) (is_active (call_at s.calls i)) (lt-ltb i (length s.views) h) no_due.1 in
    let step : going_on s i ≡ Go i = ap (λ b. cond b (Finish i) (Go i)) stays in
    ⊎_elim
    (λ (last : is_last (turn_at s i).answer ≡ true). inl (record {
      played = (turn_at s i).answer;
      answer = ap (answer_to s) step ∙ ap (λ b. cond b (answer.Played r.answer) answer.NotNow) may;
      last = last;
    }))
    (λ (more : is_last (turn_at s i).answer ≡ false).
    let can = turn_may s i core h no_due.1 in
    let here : after s (going_on s i) ≡ played s i (turn_at s i) =
    ap (after s) step ∙ ap (λ b. cond b (played s i (turn_at s i)) s) may in
    let next : call_at (played s i (turn_at s i)).calls i ≡ (turn_at s i).next =
    get_or-set_same s.calls i (turn_at s i).next Idle (let l = core.long in omega arith) in
    let further = goes_further s.parents s.words (call_at s.calls i) (view_at s.views i) no_due.1 (core.calls i h) more in
    let fewer : suc n - 1 ≡ n = omega arith in
    let lower = turn_lowers s i (suc n) (call_at s.calls i) tiers core h no_due.1 (core.calls i h) left can in
    inr (subst (λ (x : State). IsAnsweredWithin n i x) (sym here)
    (ends_within n (played s i (turn_at s i)) i tiers (played_core s i (turn_at s i) core h can)
    (subst (λ (k : ℕ). i < k) (sym (length-set s.views i (stepped_view s.parents s.words r.kind r.tier (view_at s.views i)))) h)
    (ap is_idle next ∙ further)
    (subst (λ (k : ℕ). Within s.parents (played s i (turn_at s i)).words (call_at (played s i (turn_at s i)).calls i)
    (view_at (played s i (turn_at s i)).views i) k) fewer
    (moved_left s (played s i (turn_at s i)) i (suc n - 1) (turn_at s i).next
    (stepped_view s.parents s.words r.kind r.tier (view_at s.views i)) next
    (get_or-set_same s.views i (stepped_view s.parents s.words r.kind r.tier (view_at s.views i)) (new_view 0) h) refl lower)))))
    (either (is_last (turn_at s i).answer)))
    (due_or_active (call_at s.calls i) going)

pub sixteen_steps_are_enough : SixteenStepsAreEnough
sixteen_steps_are_enough s i tiers core h going =
    ends_within 16 s i tiers core h going (within_sixteen s i (call_at s.calls i) tiers core h (core.calls i h))
