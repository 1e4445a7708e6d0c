-- The promises of a single phaser.
use Rattle.std.proofs.Common.{◌≡◌, ◌≢◌, inl, inr, ⊎_elim, ℕ, ◌+◌, ◌≤◌, Bool, true, false, cond, List, [], ◌∷◌, length, Option, None, Some, refl, sym, ◌∙◌, ap, arith, pos, negsuc}
use Rattle.std.specs.Prelude.{count_by, not}
use Rattle.std.proofs.lemmas.Bool.{eqb-true, ne_eqb}
use Rattle.phaser_word.specs.Phase.{next_phase_of}
use Rattle.advance_rule.specs.declared.CountPlan.{CountPlan}
use Rattle.advance_rule.specs.Plan.{count_ends}
use Rattle.flat_phaser.specs.declared.Member.{Member}
use Rattle.flat_phaser.specs.declared.FlatStep.{FlatStep}
use Rattle.flat_phaser.specs.declared.FlatStep.TheVariants as flat
use Rattle.flat_phaser.specs.Flat.{Flat, is_marked, has_arrived, everyone_arrived, registered, unarrived}
use Rattle.flat_phaser.specs.Step.{flat_step, taken, is_awaited, mark_one, drop_one}
use Rattle.flat_phaser.specs.Alike.{IsSound}
use Rattle.flat_phaser.proofs.Counts.{bit, count_cons}
use Rattle.flat_phaser.proofs.Everyone.{either, both_true}
use Rattle.flat_phaser.proofs.Alikeness.{next_differs}
use Rattle.flat_phaser.proofs.Runs.{step_sound}
use Rattle.phaser_one.specs.Calls.{Call, Register, Bulk, Arrive, Leave, Await, Force, answer, called, taken_by, step_of, is_refused, settled, after}
use Rattle.phaser_one.specs.Laws.{Advances, Stays, PhaseMovesByOne, NotAllArrived}
use Rattle.phaser_one.proofs.Following.{open_step, registered_is}
use Rattle.phaser_one.specs.Runs.{advance_of}
use Rattle.phaser_one.specs.Seen.{flat_of}
use Rattle.phaser_one.specs.declared.call.Advance.{Advance}
use Rattle.phaser_word.specs.Fields.{Fields}
use Rattle.flat_phaser.specs.Alike.{IsAlike}
use Rattle.std.proofs.lemmas.Bool.{eq-eqb}
use Rattle.std.proofs.Common.{nat_eq}

pub no_contradiction : false ≡ true → {A : Type 0} → A
no_contradiction e = absurd (let wrong : false ≡ true = e in cc)

-- of two phasers the one that a test picks
picked_phase : (b : Bool) (f g : Flat) → g.phase ≡ f.phase → (cond b f g).phase ≡ f.phase
picked_phase true f g h = refl
picked_phase false f g h = h

picked_ended : (b : Bool) (f g : Flat) → f.due ≡ false → (g.due ≡ true → g.ended ≡ f.ended) → (cond b f g).due ≡ true
    → (cond b f g).ended ≡ f.ended
picked_ended true f g q h e = refl
picked_ended false f g q h e = h e

pub picked_due : (b : Bool) (f g : Flat) → f.due ≡ false → g.due ≡ false → (cond b f g).due ≡ false
picked_due true f g h k = h
picked_due false f g h k = k

picked_sound : (b : Bool) (f g : Flat) → IsSound f → IsSound g → IsSound (cond b f g)
picked_sound true f g h k = h
picked_sound false f g h k = k

quiet_sound : (f : Flat) → f.due ≡ false → IsSound f
quiet_sound f q h = no_contradiction (sym q ∙ h)

step_phase : (call : Call) (f : Flat) → (taken_by (step_of call) f).phase ≡ f.phase
step_phase Register f = picked_phase f.ended f (taken (flat.Join 0 1) f) refl
step_phase (Bulk (pos n)) f = picked_phase f.ended f (taken (flat.Join 0 n) f) refl
step_phase (Bulk (negsuc n)) f = refl
step_phase Arrive f = picked_phase f.ended f (taken (flat.Arrive 0) f) refl
step_phase Leave f = picked_phase f.ended f (taken (flat.Leave 0) f) refl
step_phase (Await p) f = refl
step_phase Force f = picked_phase f.ended f (taken flat.Force f) refl

step_ended : (call : Call) (f : Flat) → f.due ≡ false → (taken_by (step_of call) f).due ≡ true → (taken_by (step_of call) f).ended ≡ f.ended
step_ended Register f q = picked_ended f.ended f (taken (flat.Join 0 1) f) q (λ e. refl)
step_ended (Bulk (pos n)) f q = picked_ended f.ended f (taken (flat.Join 0 n) f) q (λ e. refl)
step_ended (Bulk (negsuc n)) f q = λ e. refl
step_ended Arrive f q = picked_ended f.ended f (taken (flat.Arrive 0) f) q (λ e. refl)
step_ended Leave f q = picked_ended f.ended f (taken (flat.Leave 0) f) q (λ e. refl)
step_ended (Await p) f q = λ e. refl
step_ended Force f q = picked_ended f.ended f (taken flat.Force f) q (λ e. no_contradiction e)

taken_sound : (step : Option FlatStep) (f : Flat) → IsSound f → IsSound (taken_by step f)
taken_sound None f h = h
taken_sound (Some step) f h = step_sound step f h

called_phase : (call : Call) (f : Flat) → (called call f).phase ≡ f.phase
called_phase call f = picked_phase (is_refused (answer call f)) f (taken_by (step_of call) f) (step_phase call f)

called_ended : (call : Call) (f : Flat) → f.due ≡ false → (called call f).due ≡ true → (called call f).ended ≡ f.ended
called_ended call f q = picked_ended (is_refused (answer call f)) f (taken_by (step_of call) f) q (step_ended call f q)

called_sound : (call : Call) (f : Flat) → f.due ≡ false → IsSound (called call f)
called_sound call f q =
    picked_sound (is_refused (answer call f)) f (taken_by (step_of call) f) (quiet_sound f q)
    (taken_sound (step_of call) f (quiet_sound f q))

-- who has arrived in one phase hasn't in another
mark_elsewhere : (p q : ℕ) (mark : Option ℕ) → p ≢ q → is_marked p mark ≡ true → not (is_marked q mark) ≡ true
mark_elsewhere p q None n e = no_contradiction e
mark_elsewhere p q (Some r) n e = let same : r ≡ p = eqb-true r p e in let other = ne_eqb r q (λ z. n (sym same ∙ z)) in rw other refl

pub none_elsewhere : (p q : ℕ) (ms : List Member) → p ≢ q → everyone_arrived p ms ≡ true
    → count_by (λ m. not (has_arrived q m)) ms ≡ length ms
none_elsewhere p q [] n e = refl
none_elsewhere p q (m ∷ ms) n e =
    let both = both_true (has_arrived p m) (everyone_arrived p ms) e in
    let all = count_cons (λ x. not (has_arrived q x)) m ms in
    let here : bit (not (has_arrived q m)) ≡ 1 = ap bit (mark_elsewhere p q m.mark n both.0) in
    let rest = none_elsewhere p q ms n both.1 in
    omega arith

-- what an advance that is due does
advanced : (plan : CountPlan) (call : Call) (f g : Flat) → called call f ≡ g → g.due ≡ true → g.ended ≡ false → g.phase ≡ f.phase
    → everyone_arrived g.phase g.members ≡ true → Advances plan call f
advanced plan call f g is due open' phase everyone =
    let ends : Bool = count_ends plan g.phase (registered g) in
    let next : Flat = taken (flat.Advance ends) g in
    let same : after plan call f ≡ next =
    ap (settled plan) is ∙ ap (λ (b : Bool). cond b (flat_step (flat.Advance ends) g) g) due ∙ open_step (flat.Advance ends) g open' in
    let absent : count_by (λ m. not (has_arrived (next_phase_of g.phase) m)) g.members ≡ length g.members =
    none_elsewhere g.phase (next_phase_of g.phase) g.members (next_differs g.phase) everyone in
    record {
      everyone =
          ap (λ (h : Flat). everyone_arrived f.phase h.members) is ∙ ap (λ (p : ℕ). everyone_arrived p g.members) (sym phase) ∙ everyone;
      next = ap (λ (h : Flat). h.phase) same ∙ ap next_phase_of phase;
      end =
          ap (λ (h : Flat). h.ended) same ∙ ap (λ (p : ℕ). count_ends plan p (registered g)) phase
          ∙ ap (λ (h : Flat). count_ends plan f.phase (registered h)) (sym is);
      everybody_stays = ap registered same ∙ ap registered (sym is);
      nobody_has_arrived = ap unarrived same ∙ absent ∙ ap registered (sym is);
    }

stayed : (plan : CountPlan) (call : Call) (f : Flat) → (called call f).due ≡ false → Stays plan call f
stayed plan call f e =
    let g : Flat = called call f in
    let same : after plan call f ≡ g =
    ap (λ (b : Bool). cond b (flat_step (flat.Advance (count_ends plan g.phase (registered g))) g) g) e in
    record { phase = ap (λ (h : Flat). h.phase) same ∙ called_phase call f; due = ap (λ (h : Flat). h.due) same ∙ e }

pub moves_by_one : PhaseMovesByOne
moves_by_one plan call f open' q = ⊎_elim
    (λ (e : (called call f).due ≡ true).
    inl (advanced plan call f (called call f) refl e (called_ended call f q e ∙ open') (called_phase call f) (called_sound call f q e)))
    (λ (e : (called call f).due ≡ false). inr (stayed plan call f e))
    (either (called call f).due)

-- while two haven't arrived, one arrival or departure leaves somebody
none_absent : (p : ℕ) (ms : List Member) → everyone_arrived p ms ≡ true → count_by (λ m. not (has_arrived p m)) ms ≡ 0
none_absent p [] e = refl
none_absent p (m ∷ ms) e =
    let both = both_true (has_arrived p m) (everyone_arrived p ms) e in
    let all = count_cons (λ x. not (has_arrived p x)) m ms in
    let here : bit (not (has_arrived p m)) ≡ 0 = ap (λ (b : Bool). bit (not b)) both.0 in
    let rest = none_absent p ms both.1 in
    omega arith

bit_le : (b : Bool) → bit b ≤ 1
bit_le true = omega arith
bit_le false = omega arith

marked_absent : (o p : ℕ) (ms : List Member)
    → count_by (λ m. not (has_arrived p m)) ms ≤ count_by (λ m. not (has_arrived p m)) (mark_one o p ms) + 1
marked_absent o p [] = omega arith
marked_absent o p (m ∷ ms) = ⊎_elim
    (λ (e : is_awaited o p m ≡ true).
    let one : mark_one o p (m ∷ ms) ≡ record m { mark = Some p } ∷ ms = rw e refl in
    let old = count_cons (λ x. not (has_arrived p x)) m ms in
    let new = count_cons (λ x. not (has_arrived p x)) (record m { mark = Some p }) ms in
    let few = bit_le (not (has_arrived p m)) in
    rw e (omega arith))
    (λ (e : is_awaited o p m ≡ false).
    let old = count_cons (λ x. not (has_arrived p x)) m ms in
    let new = count_cons (λ x. not (has_arrived p x)) m (mark_one o p ms) in
    let rest = marked_absent o p ms in
    rw e (omega arith))
    (either (is_awaited o p m))

dropped_absent : (o p : ℕ) (ms : List Member)
    → count_by (λ m. not (has_arrived p m)) ms ≤ count_by (λ m. not (has_arrived p m)) (drop_one o p ms) + 1
dropped_absent o p [] = omega arith
dropped_absent o p (m ∷ ms) = ⊎_elim
    (λ (e : is_awaited o p m ≡ true).
    let old = count_cons (λ x. not (has_arrived p x)) m ms in
    let few = bit_le (not (has_arrived p m)) in
    rw e (omega arith))
    (λ (e : is_awaited o p m ≡ false).
    let old = count_cons (λ x. not (has_arrived p x)) m ms in
    let new = count_cons (λ x. not (has_arrived p x)) m (drop_one o p ms) in
    let rest = dropped_absent o p ms in
    rw e (omega arith))
    (either (is_awaited o p m))

not_everyone : (p : ℕ) (ms : List Member) → 1 ≤ count_by (λ m. not (has_arrived p m)) ms → everyone_arrived p ms ≡ false
not_everyone p ms h = ⊎_elim
    (λ (e : everyone_arrived p ms ≡ true). absurd (let none = none_absent p ms e in omega arith))
    (λ (e : everyone_arrived p ms ≡ false). e)
    (either (everyone_arrived p ms))

step_due : (call : Call) (f : Flat) → f.due ≡ false → 2 ≤ unarrived f → (taken_by (step_of call) f).due ≡ false
step_due Register f q h = picked_due f.ended f (taken (flat.Join 0 1) f) q refl
step_due (Bulk (pos n)) f q h = picked_due f.ended f (taken (flat.Join 0 n) f) q refl
step_due (Bulk (negsuc n)) f q h = q
step_due Arrive f q h =
    let one = marked_absent 0 f.phase f.members in
    picked_due f.ended f (taken (flat.Arrive 0) f) q (not_everyone f.phase (mark_one 0 f.phase f.members) (omega arith))
step_due Leave f q h =
    let one = dropped_absent 0 f.phase f.members in
    picked_due f.ended f (taken (flat.Leave 0) f) q (not_everyone f.phase (drop_one 0 f.phase f.members) (omega arith))
step_due (Await p) f q h = q
step_due Force f q h = picked_due f.ended f (taken flat.Force f) q refl

pub not_all : NotAllArrived
not_all plan call f q h = stayed plan call f (picked_due (is_refused (answer call f)) f (taken_by (step_of call) f) q (step_due call f q h))

-- a call on an ended phaser leaves no advance due
ended_due : (call : Call) (f : Flat) → f.ended ≡ true → f.due ≡ false → (called call f).due ≡ false
ended_due call f e q = picked_due (is_refused (answer call f)) f (taken_by (step_of call) f) q (ended_step (step_of call) f e q)
  where
    ended_step : (step : Option FlatStep) (f : Flat) → f.ended ≡ true → f.due ≡ false → (taken_by step f).due ≡ false
    ended_step None f e q = q
    ended_step (Some step) f e q = ap (λ (b : Bool). (cond b f (taken step f)).due) e ∙ q

advances_here : (plan : CountPlan) (call : Call) (f : Flat) → f.due ≡ false → (called call f).due ≡ true → Advances plan call f
advances_here plan call f q e = ⊎_elim
    (λ (over : f.ended ≡ true). no_contradiction (sym (ended_due call f over q) ∙ e))
    (λ (open' : f.ended ≡ false). advanced plan call f (called call f) refl e (called_ended call f q e ∙ open') (called_phase call f) (called_sound call f q e))
    (either f.ended)

-- the advance, as the words before and after a call show it
pub advance_reported : (plan : CountPlan) (call : Call) (f : Flat) (w v : Fields) → v.unarrived ≤ v.parties → IsAlike f (flat_of w)
    → IsAlike (after plan call f) (flat_of v)
    → cond {A = Option Advance} (nat_eq w.phase v.phase) None (Some (record { phase = w.phase; parties = v.parties })) ≡ advance_of call f
advance_reported plan call f w v h a b = ⊎_elim
    (λ (e : (called call f).due ≡ true).
    let moved = advances_here plan call f a.due e in
    let next : v.phase ≡ next_phase_of w.phase = sym b.phase ∙ moved.next ∙ ap next_phase_of a.phase in
    let other : nat_eq w.phase v.phase ≡ false = ne_eqb w.phase v.phase (λ same. next_differs w.phase (same ∙ next)) in
    let count : v.parties ≡ registered (called call f) = sym (registered_is (after plan call f) v h b) ∙ moved.everybody_stays in
    rw (other, e)
    (ap (λ (p : ℕ). Some (record { phase = p; parties = v.parties })) (sym a.phase)
    ∙ ap (λ (n : ℕ). Some (record { phase = f.phase; parties = n })) count))
    (λ (e : (called call f).due ≡ false).
    let stays = stayed plan call f e in
    let same : nat_eq w.phase v.phase ≡ true = eq-eqb w.phase v.phase (sym a.phase ∙ sym stays.phase ∙ b.phase) in
    rw (same, e) refl)
    (either (called call f).due)
