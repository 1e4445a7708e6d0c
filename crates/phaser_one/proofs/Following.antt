-- What the numbers say of a flat phaser, they say of it after a call.
use Rattle.std.proofs.Common.{◌≡◌, ℕ, ◌+◌, ◌-◌, ◌≤◌, ◌<◌, Bool, true, false, cond, nat_eq, nat_lt, List, length, refl, sym, ◌∙◌, ap, subst, arith, ℤ, pos, w32, to_z, of_z}
use Rattle.std.proofs.lemmas.Int.{ints}
use Rattle.std.proofs.lemmas.Grind.{common_steps}
use Rattle.phaser_word.specs.Phase.{next_phase_of, shown_of}
use Rattle.phaser_word.specs.Fields.{Fields}
use Rattle.advance_rule.specs.declared.CountPlan.{CountPlan}
use Rattle.advance_rule.specs.Plan.{count_ends}
use Rattle.flat_phaser.specs.declared.Member.{Member}
use Rattle.flat_phaser.specs.declared.FlatStep.{FlatStep}
use Rattle.flat_phaser.specs.declared.FlatStep.TheVariants as flat
use Rattle.flat_phaser.specs.Flat.{Flat, registered, unarrived, everyone_arrived, shown}
use Rattle.flat_phaser.specs.Step.{flat_step, taken, with_members, mark_one, drop_one}
use Rattle.flat_phaser.specs.Alike.{IsAlike}
use Rattle.phaser_one.specs.Calls.{Call, Reply, Number, Refused, Full, NobodyUnarrived, Bulk, Arrive, Leave, Force, answer, room_for, someone_in, called, taken_by, step_of, is_refused, settled, after}
use Rattle.phaser_one.specs.Seen.{flat_of, Follows, IsSettled}
use Rattle.phaser_one.specs.Arrivals.{call_of, left_by}
use Rattle.phaser_one.specs.declared.step.Arrival.{Arrival}
use Rattle.phaser_one.specs.declared.step.Arrival.TheVariants.{Stays, Leaves}
use Rattle.phaser_one.proofs.Counting.{Counts, alike_counts, counts_alike, length_is, absent_is, everyone_is, joined_counts, marked_counts, dropped_counts, next_counts}

pub registered_is : (f : Flat) (w : Fields) → w.unarrived ≤ w.parties → IsAlike f (flat_of w) → registered f ≡ w.parties
registered_is f w h a = length_is w.phase w.parties (w.parties - w.unarrived) f.members (alike_counts f w h a)

pub unarrived_is : (f : Flat) (w : Fields) → w.unarrived ≤ w.parties → IsAlike f (flat_of w) → unarrived f ≡ w.unarrived
unarrived_is f w h a =
    let c = alike_counts f w h a in
    let phase : f.phase ≡ w.phase = a.phase in
    let P : ℕ → Type 0 = λ p. Counts p w.parties (w.parties - w.unarrived) f.members in
    let sum = absent_is f.phase w.parties (w.parties - w.unarrived) f.members (subst P (sym phase) c) in
    omega arith

-- a word that is only ended is alike to a phaser that is only ended
pub forced_alike : (f : Flat) (w : Fields) → IsAlike f (flat_of w)
    → IsAlike (record f { ended = true; due = false }) (flat_of (record w { ended = true }))
forced_alike f w a = record { phase = a.phase; ended = refl; due = refl; members = a.members; arrived = a.arrived }

forced : (b : Bool) (f : Flat) → f.ended ≡ b → f.due ≡ false
    → cond b f (record f { ended = true; due = false }) ≡ record f { ended = true; due = false }
forced true f e d = sym (ap (λ (x : Bool). record f { ended = x; due = false }) (sym e) ∙ ap (λ (x : Bool). record f { due = x }) (sym d))
forced false f e d = refl

pub force_follows : (plan : CountPlan) (w : Fields) → Follows plan Force w (record w { ended = true }) (Number (shown_of w.phase true))
force_follows plan w f a =
    let same : flat_step flat.Force f ≡ record f { ended = true; due = false } = forced f.ended f refl a.due in
    (rw same (forced_alike f w a), ap (λ (p : ℕ). Number (shown_of p true)) (sym a.phase))

-- an ended phaser, a full one, and one in which nobody is unarrived stay as they are
pub unchanged : (plan : CountPlan) (b : Bool) (f g : Flat) → f.due ≡ false → b ≡ true → settled plan (cond b f g) ≡ f
unchanged plan b f g d e =
    ap (λ (x : Bool). settled plan (cond x f g)) e
    ∙ ap (λ (x : Bool). cond x (flat_step (flat.Advance (count_ends plan f.phase (registered f))) f) f) d

pub refused_follows : (plan : CountPlan) (call : Call) (w : Fields) (f : Flat) (reply : Reply) → IsAlike f (flat_of w)
    → answer call f ≡ reply → is_refused reply ≡ true
    → IsAlike (after plan call f) (flat_of w) × (reply ≡ answer call f)
refused_follows plan call w f reply a e r =
    let test : is_refused (answer call f) ≡ true = ap is_refused e ∙ r in
    let same : after plan call f ≡ f = unchanged plan (is_refused (answer call f)) f (taken_by (step_of call) f) a.due test in
    (rw same a, sym e)

pub full_answer : (f : Flat) (w : Fields) (count : ℕ) → w.unarrived ≤ w.parties → IsAlike f (flat_of w) → w.ended ≡ false
    → 65535 < w.parties + count → room_for count f ≡ Refused Full
full_answer f w count h a e more =
    let open' : f.ended ≡ false = a.ended ∙ e in
    let many : registered f ≡ w.parties = registered_is f w h a in
    let full : nat_lt 65535 (registered f + count) ≡ true = grind (arith, common_steps) in
    rw (open', full) refl

pub nobody_answer : (f : Flat) (w : Fields) → w.unarrived ≤ w.parties → IsAlike f (flat_of w) → w.ended ≡ false → w.unarrived ≡ 0
    → someone_in f ≡ Refused NobodyUnarrived
nobody_answer f w h a e none =
    let open' : f.ended ≡ false = a.ended ∙ e in
    let few : unarrived f ≡ w.unarrived = unarrived_is f w h a in
    let nobody : nat_eq (unarrived f) 0 ≡ true = grind (arith, common_steps) in
    rw (open', nobody) refl

room_answer : (f : Flat) (w : Fields) (count : ℕ) → w.unarrived ≤ w.parties → IsAlike f (flat_of w) → w.ended ≡ false
    → w.parties + count ≤ 65535 → room_for count f ≡ Number (pos f.phase)
room_answer f w count h a e few =
    let open' : f.ended ≡ false = a.ended ∙ e in
    let many : registered f ≡ w.parties = registered_is f w h a in
    let capacity : nat_lt 65535 (registered f + count) ≡ false = grind (arith, common_steps) in
    rw (open', capacity) refl

someone_answer : (f : Flat) (w : Fields) → w.unarrived ≤ w.parties → IsAlike f (flat_of w) → w.ended ≡ false → 0 < w.unarrived
    → someone_in f ≡ Number (pos f.phase)
someone_answer f w h a e some =
    let open' : f.ended ≡ false = a.ended ∙ e in
    let few : unarrived f ≡ w.unarrived = unarrived_is f w h a in
    let somebody : nat_eq (unarrived f) 0 ≡ false = grind (arith, common_steps) in
    rw (open', somebody) refl

-- a call that isn't refused takes its step
called_by : (call : Call) (f : Flat) (z : ℤ) → answer call f ≡ Number z → called call f ≡ taken_by (step_of call) f
called_by call f z e = ap (λ (r : Reply). cond (is_refused r) f (taken_by (step_of call) f)) e

pub open_step : (step : FlatStep) (f : Flat) → f.ended ≡ false → flat_step step f ≡ taken step f
open_step step f e = ap (λ (b : Bool). cond b f (taken step f)) e

number_is : (f : Flat) (w : Fields) (v : ℤ) → IsAlike f (flat_of w) → w.ended ≡ false → v ≡ shown_of w.phase w.ended
    → Number v ≡ Number (pos f.phase)
number_is f w v a e shown = ap Number (shown ∙ ap (shown_of w.phase) e ∙ ap pos (sym a.phase))

pub joined_follows : (plan : CountPlan) (w v : Fields) (count : ℕ) (z : ℤ) → w.unarrived ≤ w.parties → w.ended ≡ false
    → w.parties + count ≤ 65535 → z ≡ shown_of w.phase w.ended
    → v.phase ≡ w.phase → v.parties ≡ w.parties + count → v.unarrived ≡ w.unarrived + count → v.ended ≡ false
    → Follows plan (Bulk (pos count)) w v (Number z)
joined_follows plan w v count z h e capacity shown phase parties unarrived ended f a =
    let reply = room_answer f w count h a e capacity in
    let open' : f.ended ≡ false = a.ended ∙ e in
    let g : Flat = taken (flat.Join 0 count) f in
    let same : called (Bulk (pos count)) f ≡ g =
    called_by (Bulk (pos count)) f (pos f.phase) reply ∙ open_step (flat.Join 0 count) f open' in
    let c = joined_counts w.phase w.parties (w.parties - w.unarrived) count f.members (alike_counts f w h a) in
    let left : v.parties - v.unarrived ≡ w.parties - w.unarrived = omega arith in
    let counts : Counts v.phase v.parties (v.parties - v.unarrived) g.members =
    rw (phase, parties, unarrived, (let eq : w.parties + count - (w.unarrived + count) ≡ w.parties - w.unarrived = omega arith in eq)) c in
    let alike : IsAlike g (flat_of v) = counts_alike g v (omega arith) (a.phase ∙ sym phase) (open' ∙ sym ended) refl counts in
    (rw same alike, number_is f w z a e shown ∙ sym reply)

-- members of a phaser that hasn't ended, after one arrived or left
settled_by : (due : Bool) (plan : CountPlan) (f : Flat) (ms : List Member) (m left : ℕ) (w : Fields) → f.ended ≡ false → left ≤ m
    → Counts f.phase m (m - left) ms
    → everyone_arrived f.phase ms ≡ due → nat_eq left 0 ≡ due → IsSettled plan f.phase m left w
    → IsAlike (settled plan (with_members ms f)) (flat_of w)
settled_by true plan f ms m left w open' h c e z s =
    let many : length ms ≡ m = length_is f.phase m (m - left) ms c in
    let ends : Bool = count_ends plan f.phase (length ms) in
    let g : Flat = record { phase = next_phase_of f.phase; ended = ends; due = false; members = ms } in
    let same : settled plan (with_members ms f) ≡ g = rw (e, open') refl in
    let next = next_counts f.phase m (m - left) ms c e in
    let phase : w.phase ≡ next_phase_of f.phase = s.phase ∙ rw z refl in
    let parties : w.parties ≡ m = s.parties in
    let unarrived : w.unarrived ≡ m = s.unarrived ∙ rw z refl in
    let ended : w.ended ≡ ends = s.ended ∙ rw z (ap (count_ends plan f.phase) (sym many)) in
    let none : m - m ≡ 0 = omega arith in
    let counts : Counts w.phase w.parties (w.parties - w.unarrived) ms = rw (phase, parties, unarrived, none) next in
    rw same (counts_alike g w (omega arith) (sym phase) (sym ended) refl counts)
settled_by false plan f ms m left w open' h c e z s =
    let g : Flat = record { phase = f.phase; ended = f.ended; due = false; members = ms } in
    let same : settled plan (with_members ms f) ≡ g = rw e refl in
    let phase : w.phase ≡ f.phase = s.phase ∙ rw z refl in
    let parties : w.parties ≡ m = s.parties in
    let unarrived : w.unarrived ≡ left = s.unarrived ∙ rw z refl in
    let ended : w.ended ≡ false = s.ended ∙ rw z refl in
    let counts : Counts w.phase w.parties (w.parties - w.unarrived) ms = rw (phase, parties, unarrived) c in
    rw same (counts_alike g w (omega arith) (sym phase) (open' ∙ sym ended) refl counts)

settled_members : (plan : CountPlan) (f : Flat) (ms : List Member) (m left : ℕ) (w : Fields) → f.ended ≡ false → left ≤ m
    → Counts f.phase m (m - left) ms
    → IsSettled plan f.phase m left w → IsAlike (settled plan (with_members ms f)) (flat_of w)
settled_members plan f ms m left w open' h c s =
    settled_by (nat_eq left 0) plan f ms m left w open' h c (everyone_is f.phase m (m - left) left ms c (omega arith)) refl s

pub arrive_follows : (plan : CountPlan) (w v : Fields) (z : ℤ) → w.unarrived ≤ w.parties → w.ended ≡ false → 0 < w.unarrived
    → z ≡ shown_of w.phase w.ended
    → IsSettled plan w.phase w.parties (w.unarrived - 1) v → Follows plan Arrive w v (Number z)
arrive_follows plan w v z h e some shown s f a =
    let reply = someone_answer f w h a e some in
    let open' : f.ended ≡ false = a.ended ∙ e in
    let ms : List Member = mark_one 0 f.phase f.members in
    let same : called Arrive f ≡ with_members ms f = called_by Arrive f (pos f.phase) reply ∙ open_step (flat.Arrive 0) f open' in
    let P : ℕ → Type 0 = λ p. Counts p w.parties (w.parties - w.unarrived) f.members in
    let c : Counts f.phase w.parties (w.parties - w.unarrived + 1) ms =
    marked_counts f.phase w.parties (w.parties - w.unarrived) f.members (subst P (sym a.phase) (alike_counts f w h a)) (omega arith) in
    let left : w.parties - w.unarrived + 1 ≡ w.parties - (w.unarrived - 1) = omega arith in
    let s' : IsSettled plan f.phase w.parties (w.unarrived - 1) v = rw a.phase s in
    let counts : Counts f.phase w.parties (w.parties - (w.unarrived - 1)) ms = rw (← left) c in
    (rw same (settled_members plan f ms w.parties (w.unarrived - 1) v open' (omega arith) counts s'), number_is f w z a e shown ∙ sym reply)

pub leave_follows : (plan : CountPlan) (w v : Fields) (z : ℤ) → w.unarrived ≤ w.parties → w.ended ≡ false → 0 < w.unarrived
    → z ≡ shown_of w.phase w.ended
    → IsSettled plan w.phase (w.parties - 1) (w.unarrived - 1) v → Follows plan Leave w v (Number z)
leave_follows plan w v z h e some shown s f a =
    let reply = someone_answer f w h a e some in
    let open' : f.ended ≡ false = a.ended ∙ e in
    let ms : List Member = drop_one 0 f.phase f.members in
    let same : called Leave f ≡ with_members ms f = called_by Leave f (pos f.phase) reply ∙ open_step (flat.Leave 0) f open' in
    let P : ℕ → Type 0 = λ p. Counts p w.parties (w.parties - w.unarrived) f.members in
    let c : Counts f.phase (w.parties - 1) (w.parties - w.unarrived) ms =
    dropped_counts f.phase w.parties (w.parties - w.unarrived) f.members (subst P (sym a.phase) (alike_counts f w h a)) (omega arith) in
    let left : w.parties - w.unarrived ≡ w.parties - 1 - (w.unarrived - 1) = omega arith in
    let s' : IsSettled plan f.phase (w.parties - 1) (w.unarrived - 1) v = rw a.phase s in
    let counts : Counts f.phase (w.parties - 1) (w.parties - 1 - (w.unarrived - 1)) ms = rw (← left) c in (
      rw same (settled_members plan f ms (w.parties - 1) (w.unarrived - 1) v open' (omega arith) counts s'),
      number_is f w z a e shown ∙ sym reply,
    )

-- an arrival after which the party stays or leaves
pub arrival_follows : (arrival : Arrival) (plan : CountPlan) (w v : Fields) (z : ℤ) → w.unarrived ≤ w.parties → w.ended ≡ false
    → 0 < w.unarrived → z ≡ shown_of w.phase w.ended
    → IsSettled plan w.phase (left_by arrival w.parties) (w.unarrived - 1) v → Follows plan (call_of arrival) w v (Number z)
arrival_follows Stays plan w v z h e some shown s = arrive_follows plan w v z h e some shown s
arrival_follows Leaves plan w v z h e some shown s = leave_follows plan w v z h e some shown s

-- every such call is answered alike
pub arrival_answer : (arrival : Arrival) (f : Flat) → answer (call_of arrival) f ≡ someone_in f
arrival_answer Stays f = refl
arrival_answer Leaves f = refl

-- a number shown keeps within its type
pub same_shown : (z : ℤ) (phase : ℕ) (ended : Bool) → z ≡ shown_of phase ended → phase ≤ 2147483647
    → to_z w32 (of_z w32 z) ≡ shown_of phase ended
same_shown z phase true e h = omega (arith, ints, e)
same_shown z phase false e h = omega (arith, ints, e)
