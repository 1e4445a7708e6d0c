-- While a member is awaited, no step of another token leaves that token with the advance to take.
use Rattle.std.proofs.Common.{◌≡◌, ℕ, zero, suc, ◌<◌, ⊎_elim, Bool, true, false, cond, eqb, List, length, length-set, refl, sym, ◌∙◌, ap, subst, arith}
use Rattle.std.specs.Prelude.{not}
use Rattle.tier_steps.specs.Step.{looked, refused, added}
use Rattle.std.proofs.lemmas.List.{get_or-set_same}
use Rattle.flat_phaser.specs.declared.FlatStep.TheVariants as flat
use Rattle.flat_phaser.specs.Flat.{Flat}
use Rattle.flat_phaser.specs.Step.{taken}
use Rattle.flat_phaser.proofs.Everyone.{either}
use Rattle.phaser_word.specs.Fields.{Fields}
use Rattle.tier_steps.specs.declared.view.View.{View}
use Rattle.tier_steps.specs.declared.view.Errand.{Errand}
use Rattle.tier_steps.specs.declared.view.Errand.TheVariants.{Rest, Opening, Climbing, Advancing}
use Rattle.tier_steps.specs.declared.view.Passage.{Passage}
use Rattle.tier_steps.specs.declared.view.Passage.TheVariants.{Arrival, Departure}
use Rattle.tier_steps.specs.declared.kind.Kind.{Kind}
use Rattle.tier_steps.specs.declared.kind.Kind.TheVariants.{Look, Glance, Refuse, Join, Arrive, Leave, Advance, Force, Claim, Settle, SettleBack, Climb, Refresh}
use Rattle.tier_steps.specs.View.{ancestor, absent}
use Rattle.tier_steps.specs.Tally.{word_at}
use Rattle.tier_steps.specs.Laws.{stepped_view}
use Rattle.tier_steps.specs.Image.{label, labelled}
use Rattle.tier_core.specs.declared.call.Call.{Call}
use Rattle.tier_core.specs.declared.call.Call.TheVariants as call
use Rattle.tier_core.specs.declared.call.Played.{Played}
use Rattle.tier_core.specs.declared.call.Progress.{Progress}
use Rattle.tier_core.specs.declared.call.Progress.TheVariants.{Idle, Begun, Seeking as ToSeek, Settling, GivingBack as ToGiveBack, Passing, Owing, Due, Refreshing}
use Rattle.tier_core.specs.declared.call.Turn.{Turn}
use Rattle.tier_core.specs.declared.call.Played.TheVariants.{Done}
use Rattle.tier_core.specs.Turn.{end_shown, refusal, seek_turn, errand_place, claimed_by, giving_back, settling, settle_turn, give_back_turn, pass_turn, climb_turn, first_turn, lags, own_kind, turn}
use Rattle.tier_core.specs.Machine.{State, IsCore, view_at, call_at, is_due, turn_at, played}
use Rattle.tier_core.proofs.Turns.{by_test, not_both}
use Rattle.tier_core.proofs.Places.{MayPlay, played_core, turn_may}
use Rattle.tier_laws.specs.Frame.{flat_of}
use Rattle.tier_laws.specs.Moments.{flat_after}
use Rattle.tier_laws.specs.Hold.{NobodyMustAdvance}
use Rattle.tier_laws.proofs.Framing.{turned}
use Rattle.tier_laws.proofs.Planning.{known_active}
use Rattle.tier_laws.proofs.Holding.{awaited_tokens_hold}
use Rattle.tier_laws.proofs.Ending.{at, turned_flat}
use Rattle.tier_laws.proofs.Searching.{by_search, over_turn, refuse_turn, join_turn}
use Rattle.tier_laws.proofs.Passing.{by_passing}

-- the kinds of step that let a party pass
abbrev pub is_passing : Kind → Bool
is_passing Look = false
is_passing Glance = false
is_passing (Refuse tier claimed size) = false
is_passing (Join tier claimed size) = false
is_passing Arrive = true
is_passing Leave = true
is_passing (Advance ends) = false
is_passing Force = false
is_passing (Claim tier claimed size) = false
is_passing (Settle tier claimed size) = false
is_passing (SettleBack tier claimed size) = false
is_passing (Climb passage) = true
is_passing Refresh = false

-- only they may leave their token with the advance to take
abbrev PassesIfDue : Turn → Type 0
PassesIfDue r = is_due r.next ≡ true → is_passing r.kind ≡ true

never : (r : Turn) → is_due r.next ≡ false → PassesIfDue r
never r e q = not_both (is_due r.next) q e

not_by : (P : Progress → Type 0) (b : Bool) (x y : Progress) → P x → P y → P (cond b x y)
not_by P true x y p q = p
not_by P false x y p q = q

no_back : (k : ℕ) (a : Played) → is_due (giving_back k a) ≡ false
no_back zero a = refl
no_back (suc k) a = refl

no_settle : (k : ℕ) → is_due (settling k) ≡ false
no_settle zero = refl
no_settle (suc k) = refl

twice : (b c : Bool) (passage : Passage) → is_due (cond b Idle (cond c Idle (Passing passage))) ≡ false
twice true c passage = refl
twice false true passage = refl
twice false false passage = refl

thrice : (b c d e : Bool) → is_due (cond b Idle (cond c Idle (cond d (Refreshing e) Idle))) ≡ false
thrice true c d e = refl
thrice false true d e = refl
thrice false false true e = refl
thrice false false false e = refl

first_due : (c : Call) (root own : Fields) (v : View) → PassesIfDue (first_turn c root own v)
first_due (call.Join tier size) root own v =
    never (first_turn (call.Join tier size) root own v) (not_by (λ p. is_due p ≡ false) root.ended Idle (ToSeek tier size) refl refl)
first_due call.Arrive root own v = never (first_turn call.Arrive root own v) (twice root.ended (eqb (looked root v).arrived v.size) Arrival)
first_due call.Leave root own v = never (first_turn call.Leave root own v) (twice root.ended (eqb (looked root v).arrived v.size) Departure)
first_due call.Poll root own v = never (first_turn call.Poll root own v)
    (thrice root.ended (eqb (looked root v).arrived v.size) (lags own (looked root v)) (not (eqb (looked root v).phase v.phase)))
first_due call.Force root own v = λ e. not_both false e refl

seek_due : (tier k size t : ℕ) (w : Fields) (v : View) → PassesIfDue (seek_turn tier k size t w v)
seek_due tier k size t w v =
    let p : ℕ = (refused t w v).phase in
    by_search PassesIfDue tier k size t w v (λ _. never (over_turn k w) (no_back k (end_shown w)))
    (λ _ _. never (refuse_turn tier k size t w v) (no_back k (refusal t (added k size) p w)))
    (λ _ _ _ e. not_both false e refl) (λ _ _ _. never (join_turn tier k size t w) (no_settle k))

settle_due : (ps : List ℕ) (v : View) (e : Errand) → PassesIfDue (settle_turn ps v e)
settle_due ps v Rest = λ e. not_both false e refl
settle_due ps v Advancing = λ e. not_both false e refl
settle_due ps v (Climbing t passage) = λ e. not_both false e refl
settle_due ps v (Opening tier zero stage size) = λ e. not_both false e refl
settle_due ps v (Opening tier (suc k) stage size) = never (settle_turn ps v (Opening tier (suc k) stage size)) (no_settle k)

give_back_due : (ps : List ℕ) (a : Played) (e : Errand) → PassesIfDue (give_back_turn ps a e)
give_back_due ps a Rest = λ e. not_both false e refl
give_back_due ps a Advancing = λ e. not_both false e refl
give_back_due ps a (Climbing t passage) = λ e. not_both false e refl
give_back_due ps a (Opening tier zero stage size) = λ e. not_both false e refl
give_back_due ps a (Opening tier (suc k) stage size) = never (give_back_turn ps a (Opening tier (suc k) stage size)) (no_back k a)

pass_due : (ps : List ℕ) (own : Passage) (t : ℕ) (passage : Passage) (kind : Kind) (here : Progress) (over : Played) (w : Fields) (v : View)
    → is_passing kind ≡ true → is_due here ≡ false → PassesIfDue (pass_turn ps own t passage kind here over w v)
pass_due ps own t passage kind here over w v passing stays =
    by_passing PassesIfDue ps own t passage kind here over w v (λ _ e. not_both false e refl) (λ _ _ e. not_both (is_due here) e stays)
    (λ _ _ _. passing) (λ _ _ _ _. passing) (λ _ _ _ _ _. passing)

climb_due : (ps : List ℕ) (w : Fields) (own : Passage) (v : View) (e : Errand) → PassesIfDue (climb_turn ps own w v e)
climb_due ps w own v Rest = λ e. not_both false e refl
climb_due ps w own v Advancing = λ e. not_both false e refl
climb_due ps w own v (Opening tier k stage size) = λ e. not_both false e refl
climb_due ps w own v (Climbing t passage) = pass_due ps own t passage (Climb passage) (Owing own) (Done v.phase) w v refl refl

own_passes : (passage : Passage) → is_passing (own_kind passage) ≡ true
own_passes Arrival = refl
own_passes Departure = refl

turn_due : (ps : List ℕ) (ws : List Fields) (p : Progress) (v : View) → PassesIfDue (turn ps ws p v)
turn_due ps ws Idle v = λ e. not_both false e refl
turn_due ps ws (Begun c) v = first_due c (word_at ws 0) (word_at ws v.tier) v
turn_due ps ws (ToSeek tier size) v =
    let k : ℕ = claimed_by v.errand in
    let t : ℕ = ancestor ps tier k in seek_due tier k size t (word_at ws t) v
turn_due ps ws Settling v = settle_due ps v v.errand
turn_due ps ws (ToGiveBack a) v = give_back_due ps a v.errand
turn_due ps ws (Passing passage) v =
    pass_due ps passage v.tier passage (own_kind passage) (Passing passage) (end_shown (word_at ws v.tier)) (word_at ws v.tier) v
    (own_passes passage) refl
turn_due ps ws (Owing own) v = climb_due ps (word_at ws (errand_place ps v.errand)) own v v.errand
turn_due ps ws (Due passage) v = λ e. not_both false e refl
turn_due ps ws (Refreshing has_moved) v = λ e. not_both false e refl

-- labels of such steps
passing_label : (i : ℕ) (k : Kind) (f : Flat) → is_passing k ≡ true → f.ended ≡ false
    → ((labelled (label i k) f).phase ≡ f.phase) × ((labelled (label i k) f).ended ≡ false)
passing_label i Look f e going = not_both false e refl
passing_label i Glance f e going = not_both false e refl
passing_label i (Refuse tier claimed size) f e going = not_both false e refl
passing_label i (Join tier claimed size) f e going = not_both false e refl
passing_label i Arrive f e going = by_test (λ b. b ≡ false → ((cond b f (taken (flat.Arrive i) f)).phase ≡ f.phase) ×
    ((cond b f (taken (flat.Arrive i) f)).ended ≡ false)) f.ended (λ _ q. not_both true refl q) (λ _ _. (refl, going)) going
passing_label i Leave f e going = by_test (λ b. b ≡ false → ((cond b f (taken (flat.Leave i) f)).phase ≡ f.phase) ×
    ((cond b f (taken (flat.Leave i) f)).ended ≡ false)) f.ended (λ _ q. not_both true refl q) (λ _ _. (refl, going)) going
passing_label i (Advance ends) f e going = not_both false e refl
passing_label i Force f e going = not_both false e refl
passing_label i (Claim tier claimed size) f e going = not_both false e refl
passing_label i (Settle tier claimed size) f e going = not_both false e refl
passing_label i (SettleBack tier claimed size) f e going = not_both false e refl
passing_label i (Climb passage) f e going = (refl, going)
passing_label i Refresh f e going = not_both false e refl

-- a party that passes leaves the flat phaser in its phase, and doesn't end it
pub stays_open : (s : State) (i : ℕ) (r : Turn) → IsCore s → i < length s.views → MayPlay s i r → is_passing r.kind ≡ true
    → (flat_of s).ended ≡ false → ((flat_after (at i s r)).phase ≡ (flat_of s).phase) × ((flat_after (at i s r)).ended ≡ false)
stays_open s i r core h may passing going =
    let alike = turned_flat s i r core h may in
    let same = passing_label i r.kind (flat_of s) passing going in
    (sym alike.phase ∙ same.0, sym alike.ended ∙ same.1)

pub nobody_must_advance : NobodyMustAdvance
nobody_must_advance s i j core going is n may =
    let a = known_active s j may in
    let r : Turn = turn_at s j in
    let can = turn_may s j core a.0 a.1 in
    ⊎_elim
    (λ (due : is_due (turn_at s j).next ≡ true).
    let same = turned s j i (turn_at s j) (λ q. n (sym q)) in
    let s' : State = played s j (turn_at s j) in
    let after = stays_open s j (turn_at s j) core a.0 can (turn_due s.parents s.words (call_at s.calls j) (view_at s.views j) due) going in
    let held = awaited_tokens_hold s' i j (played_core s j (turn_at s j) core a.0 can) after.1
    (record {
      known = subst (λ (m : ℕ). i < m) (sym same.tokens) is.known;
      rests = ap (λ (x : View). x.errand) same.view ∙ is.rests;
      some =
          subst (λ (m : ℕ). 0 < m) (sym (ap (λ x. absent (flat_of s').phase x) same.view ∙ ap (λ p. absent p (view_at s.views i)) after.0))
          is.some;
    })
    (subst (λ (m : ℕ). j < m) (sym (length-set s.views j (stepped_view s.parents s.words r.kind r.tier (view_at s.views j)))) a.0) in
    let there : call_at s'.calls j ≡ (turn_at s j).next =
    get_or-set_same s.calls j (turn_at s j).next Idle (let l = core.long in let k = a.0 in omega arith) in
    sym (ap is_due there) ∙ held.call)
    (λ e. e)
    (either (is_due (turn_at s j).next))
