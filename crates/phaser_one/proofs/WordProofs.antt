-- What a word says of the phaser that it represents, and what calls leave alone.
use Rattle.std.proofs.Common.{◌≡◌, ◌+◌, ℕ, ℤ, Bool, true, false, cond, nat_eq, nat_lt, refl, sym, ◌∙◌, ap, pos, negsuc}
use Rattle.phaser_word.specs.Fields.{Fields}
use Rattle.advance_rule.specs.declared.CountPlan.{CountPlan}
use Rattle.flat_phaser.specs.declared.FlatStep.TheVariants as flat
use Rattle.flat_phaser.specs.Flat.{Flat, registered, unarrived, shown}
use Rattle.flat_phaser.specs.Step.{taken}
use Rattle.flat_phaser.specs.Alike.{IsAlike}
use Rattle.phaser_one.specs.Calls.{Call, Register, Bulk, Arrive, Leave, Await, Force, Reply, Number, Refused, OneFault, Full, NobodyUnarrived, answer, called, taken_by, step_of, is_refused, settled, after}
use Rattle.phaser_one.specs.Laws.{AlikeWordsAreOne, OnlyArrivalsAskThePlan, RefusalsLeaveAll, is_arrival, is_number}
use Rattle.phaser_one.specs.Seen.{flat_of}
use Rattle.phaser_one.proofs.Following.{registered_is, unarrived_is, unchanged}
use Rattle.phaser_one.proofs.LawProofs.{no_contradiction, picked_due}

pub alike_self : (f : Flat) → IsAlike f f
alike_self f = record { phase = refl; ended = refl; due = refl; members = λ u. refl; arrived = λ u. refl }

pub one_word : (u v : Fields) → u.phase ≡ v.phase → u.parties ≡ v.parties → u.unarrived ≡ v.unarrived → u.ended ≡ v.ended → u ≡ v
one_word u v phase parties absent ended =
    ap (λ (n : ℕ). record u { phase = n }) phase
    ∙ ap (λ (n : ℕ). record u { phase = v.phase; parties = n }) parties
    ∙ ap (λ (n : ℕ). record u { phase = v.phase; parties = v.parties; unarrived = n }) absent
    ∙ ap (λ (b : Bool). record u { phase = v.phase; parties = v.parties; unarrived = v.unarrived; ended = b }) ended

pub alike_words : AlikeWordsAreOne
alike_words u v h k a =
    let own = alike_self (flat_of u) in
    let parties : u.parties ≡ v.parties = sym (registered_is (flat_of u) u h own) ∙ registered_is (flat_of u) v k a in
    let absent : u.unarrived ≡ v.unarrived = sym (unarrived_is (flat_of u) u h own) ∙ unarrived_is (flat_of u) v k a in
    one_word u v a.phase parties absent a.ended

-- if no advance is due after a call, the plan isn't asked
undue : (p q : CountPlan) (g : Flat) → g.due ≡ false → settled p g ≡ settled q g
undue p q g e = rw e refl

quiet_step : (call : Call) (f : Flat) → f.due ≡ false → is_arrival call ≡ false → (taken_by (step_of call) f).due ≡ false
quiet_step Register f q h = picked_due f.ended f (taken (flat.Join 0 1) f) q refl
quiet_step (Bulk (pos n)) f q h = picked_due f.ended f (taken (flat.Join 0 n) f) q refl
quiet_step (Bulk (negsuc n)) f q h = q
quiet_step Arrive f q h = no_contradiction (sym h)
quiet_step Leave f q h = no_contradiction (sym h)
quiet_step (Await p) f q h = q
quiet_step Force f q h = picked_due f.ended f (taken flat.Force f) q refl

pub asks_no_plan : OnlyArrivalsAskThePlan
asks_no_plan p q call f d h =
    undue p q (called call f) (picked_due (is_refused (answer call f)) f (taken_by (step_of call) f) d (quiet_step call f d h))

-- a reply that is no number is a refusal, but for waiting
refused_else : (b c : Bool) (x y : ℤ) (e : OneFault)
    → is_number (cond {A = Reply} b (Number x) (cond {A = Reply} c (Refused e) (Number y))) ≡ false
    → is_refused (cond {A = Reply} b (Number x) (cond {A = Reply} c (Refused e) (Number y))) ≡ true
refused_else true c x y e h = no_contradiction (sym h)
refused_else false true x y e h = refl
refused_else false false x y e h = no_contradiction (sym h)

picked_same : (b : Bool) (f : Flat) → cond b f f ≡ f
picked_same true f = refl
picked_same false f = refl

left_alone : (plan : CountPlan) (call : Call) (f : Flat) → f.due ≡ false → is_refused (answer call f) ≡ true → after plan call f ≡ f
left_alone plan call f d r = unchanged plan (is_refused (answer call f)) f (taken_by (step_of call) f) d r

pub awaits_leave : (plan : CountPlan) (phase : ℤ) (f : Flat) → f.due ≡ false → after plan (Await phase) f ≡ f
awaits_leave plan phase f d = ap (settled plan) (picked_same (is_refused (answer (Await phase) f)) f) ∙ unchanged plan true f f d refl

pub refusals_leave : RefusalsLeaveAll
refusals_leave plan Register f d h =
    left_alone plan Register f d (refused_else f.ended (nat_lt 65535 (registered f + 1)) (shown f) (pos f.phase) Full h)
refusals_leave plan (Bulk (pos n)) f d h =
    left_alone plan (Bulk (pos n)) f d (refused_else f.ended (nat_lt 65535 (registered f + n)) (shown f) (pos f.phase) Full h)
refusals_leave plan (Bulk (negsuc n)) f d h = left_alone plan (Bulk (negsuc n)) f d refl
refusals_leave plan Arrive f d h =
    left_alone plan Arrive f d (refused_else f.ended (nat_eq (unarrived f) 0) (shown f) (pos f.phase) NobodyUnarrived h)
refusals_leave plan Leave f d h =
    left_alone plan Leave f d (refused_else f.ended (nat_eq (unarrived f) 0) (shown f) (pos f.phase) NobodyUnarrived h)
refusals_leave plan (Await p) f d h = awaits_leave plan p f d
refusals_leave plan Force f d h = no_contradiction (sym h)
