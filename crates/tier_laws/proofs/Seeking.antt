-- What the steps of a join say.
use Rattle.std.proofs.Common.{◌≡◌, ◌≢◌, ℕ, zero, suc, ◌+◌, ◌<◌, ◌≤◌, ⊎_elim, true, false, cond, eqb, List, [], ◌∷◌, length, get_or, refl, sym, ◌∙◌, ap, subst, arith}
use Rattle.std.specs.Prelude.{sum_by}
use Rattle.std.proofs.lemmas.List.Sums.{sum_by-cons}
use Rattle.std.proofs.lemmas.Bool.{cases_eq, eq-eqb, ne_eqb, ltb-true, ltb-false}
use Rattle.flat_phaser.proofs.Everyone.{either}
use Rattle.phaser_word.specs.Fields.{Fields}
use Rattle.phaser_word.specs.Phase.{shown_of}
use Rattle.tier_steps.specs.Word.{is_being_opened}
use Rattle.tier_steps.specs.declared.view.View.{View}
use Rattle.tier_steps.specs.declared.view.Errand.{Errand}
use Rattle.tier_steps.specs.declared.view.Errand.TheVariants.{Opening}
use Rattle.tier_steps.specs.declared.view.OpeningStage.TheVariants.{Seeking, Joined, GoingBack}
use Rattle.tier_steps.specs.declared.kind.Kind.TheVariants.{Refuse}
use Rattle.tier_shape.specs.Parents.{IsShape, parent_of}
use Rattle.tier_steps.specs.View.{new_view, ancestor, claims_on, errand_claims, claim_share}
use Rattle.tier_steps.specs.Tally.{word_at, root_phase, bit}
use Rattle.tier_steps.specs.Step.{IsDue, Admits, Refuses, opening, added, refused}
use Rattle.tier_steps.proofs.Pass.{only_elsewhere}
use Rattle.tier_steps.proofs.Advance.{ancestor_within}
use Rattle.tier_core.specs.declared.call.Call.{Call}
use Rattle.tier_core.specs.declared.call.Call.TheVariants as call
use Rattle.tier_core.specs.declared.call.Cause.{Cause}
use Rattle.tier_core.specs.declared.call.Cause.TheVariants as cause
use Rattle.tier_core.specs.declared.call.Played.{Played}
use Rattle.tier_core.specs.declared.call.Played.TheVariants.{Held, Full}
use Rattle.tier_core.specs.declared.call.Turn.{Turn}
use Rattle.tier_core.specs.Turn.{end_shown, has_no_room, cause_of, refusal, giving_back, seek_turn, settle_turn, give_back_turn}
use Rattle.tier_core.specs.Machine.{State, IsCore, view_at}
use Rattle.tier_core.proofs.Turns.{not_both}
use Rattle.tier_core.proofs.Places.{MayPlay}
use Rattle.tier_laws.specs.Frame.{flat_of}
use Rattle.tier_laws.specs.Moments.{Moment}
use Rattle.tier_steps.specs.Marks.{sees_root}
use Rattle.tier_laws.specs.Reports.{IsCounted, HasEnded, refusing, IsClaimedByAnother, IsFullyArrived, IsCause, IsHeldBy, IsFullWith, last_seen, IsDoneIn}
use Rattle.tier_laws.proofs.Holding.{fits_at}
use Rattle.tier_laws.proofs.Counting.{looked_empty}
use Rattle.tier_laws.proofs.Ending.{at, ended_stays}
use Rattle.tier_laws.proofs.Memory.{any_here, RefusalTells, Goal, no_last, done_later, refusal_later, refused_good, joined_good}
use Rattle.tier_laws.proofs.Searching.{by_search, over_turn, refuse_turn, join_turn}

-- a tier that has ended is the root
pub ended_root : (s : State) (t : ℕ) → IsCore s → t < length s.words → (word_at s.words t).ended ≡ true → t ≡ 0
ended_root s t core h e = ⊎_elim (λ (z : t ≡ 0). z)
    (λ (n : t ≢ 0). not_both (word_at s.words t).ended e (core.tally.ends t (omega arith) h)) (cases_eq t 0)

-- a call that finds its tier ended
pub ended_there : (s : State) (i t : ℕ) (r : Turn) → IsCore s → i < length s.views → MayPlay s i r → t < length s.words
    → (word_at s.words t).ended ≡ true → HasEnded i (shown_of (word_at s.words t).phase true) (at i s r)
ended_there s i t r core h may k e =
    let z = ended_root s t core k e in
    subst (λ (n : ℕ). HasEnded i (shown_of (word_at s.words n).phase true) (at i s r)) (sym z)
    (ended_stays s i r core h may (ap (λ n. (word_at s.words n).ended) (sym z) ∙ e))

somewhere : (f : View → ℕ) (vs : List View) → 0 < sum_by f vs → (j : ℕ) × (j < length vs) × (0 < f (get_or vs j (new_view 0)))
somewhere f [] k = absurd (omega arith)
somewhere f (v ∷ vs) k = ⊎_elim
    (λ (z : f v ≡ 0). let a = sum_by-cons f v vs in let b = somewhere f vs (omega arith) in (suc b.0, (let c = b.1 in omega arith), b.2))
    (λ (n : f v ≢ 0). (0, omega arith, omega arith))
    (cases_eq (f v) 0)

-- a place of a list whose share is more than what another place has of the sum
elsewhere : (f : View → ℕ) (vs : List View) (i : ℕ) → i < length vs → f (get_or vs i (new_view 0)) < sum_by f vs
    → (j : ℕ) × (j ≢ i) × (j < length vs) × (0 < f (get_or vs j (new_view 0)))
elsewhere f [] i h k = absurd (omega arith)
elsewhere f (v ∷ vs) zero h k =
    let a = sum_by-cons f v vs in let b = somewhere f vs (omega arith) in
    (suc b.0, (omega arith), (let c = b.1 in omega arith), b.2)
elsewhere f (v ∷ vs) (suc i) h k =
    ⊎_elim
    (λ (z : f v ≡ 0). let a = sum_by-cons f v vs in let b = elsewhere f vs i (omega arith) (omega arith) in
    (suc b.0, (let c = b.1 in λ e. c (omega arith)), (let c = b.2 in omega arith), b.3))
    (λ (n : f v ≢ 0). (0, (omega arith), omega arith, omega arith))
    (cases_eq (f v) 0)

-- the ancestors of a tier come earlier, the higher they are
strictly : (ps : List ℕ) (tier n k : ℕ) → IsShape ps → tier < length ps → n < k → 0 < ancestor ps tier k
    → ancestor ps tier k < ancestor ps tier n
strictly ps tier n zero shape h le some = absurd (omega arith)
strictly ps tier n (suc k) shape h le some =
    let here : ancestor ps tier k ≢ 0 =
    λ z. absurd (let a : parent_of ps (ancestor ps tier k) ≡ 0 = ap (parent_of ps) z ∙ shape.root in omega arith) in
    let one : parent_of ps (ancestor ps tier k) < ancestor ps tier k =
    shape.earlier (ancestor ps tier k) (omega arith) (ancestor_within ps tier k shape h) in
    ⊎_elim
    (λ (e : n ≡ k). subst (λ (m : ℕ). parent_of ps (ancestor ps tier k) < ancestor ps tier m) (sym e) one)
    (λ (m : n ≢ k). let a = strictly ps tier n k shape h (omega arith) (omega arith) in omega arith)
    (cases_eq n k)

-- so the tiers that an opening has claimed aren't the next of its path
pub unclaimed : (ps : List ℕ) (tier k n : ℕ) → IsShape ps → tier < length ps → n ≤ k → 0 < ancestor ps tier k
    → claims_on ps tier n (ancestor ps tier k) ≡ 0
unclaimed ps tier k zero shape h le some = refl
unclaimed ps tier k (suc n) shape h le some =
    let a = unclaimed ps tier k n shape h (omega arith) some in
    let b = strictly ps tier n k shape h (omega arith) some in
    let c = only_elsewhere (ancestor ps tier n) 1 (ancestor ps tier k) (omega arith) in omega arith

pub own_claims : (ps : List ℕ) (tier k size u : ℕ) → claims_on ps tier k u ≡ 0 → errand_claims ps u (opening tier k Seeking size) ≡ 0
own_claims ps tier zero size u e = refl
own_claims ps tier (suc k) size u e = e

opened_by : (s : State) (i tier k size t : ℕ) → IsCore s → i < length s.views → IsDue s.parents tier k size t (view_at s.views i)
    → t < length s.words → is_being_opened (word_at s.words t) ≡ true → IsClaimedByAnother i t s
opened_by s i tier k size t core h due within e =
    let below : t ≢ 0 = λ z. not_both (is_being_opened (word_at s.words 0))
    (ap (λ n. is_being_opened (word_at s.words n)) (sym z) ∙ e) core.tally.root_claims in
    let one : sum_by (claim_share s.parents t) s.views ≡ 1 = sym (core.tally.claims t within) ∙ ap bit e in
    let none : claims_on s.parents tier k t ≡ 0 = subst (λ (n : ℕ). claims_on s.parents tier k n ≡ 0) (sym due.here)
    (unclaimed s.parents tier k k core.shape due.place (omega arith) (subst (λ (n : ℕ). 0 < n) due.here (omega arith))) in
    let own : claim_share s.parents t (view_at s.views i) ≡ 0 =
    ap (errand_claims s.parents t) due.errand ∙ own_claims s.parents tier k size t none in
    let other = elsewhere (claim_share s.parents t) s.views i h (omega arith) in
    record { other = other.0; another = other.1; known = other.2; claims = other.3 }

-- the phase at the last look, after a refusal
seen_now : (s : State) (i tier k size t : ℕ) (past : List Moment) (r : Turn) → r.kind ≡ Refuse tier k size → r.tier ≡ t
    → (view_at s.views i).arrived ≡ (view_at s.views i).size → (word_at s.words t).ended ≡ false
    → (view_at s.views i).phase ≡ last_seen past
    → (refused t (word_at s.words t) (view_at s.views i)).phase ≡ last_seen (at i s r ∷ past)
seen_now s i tier k size zero past r kind here all going seen =
    looked_empty (word_at s.words 0) (view_at s.views i) going all
    ∙ sym (ap (λ x. cond (sees_root r.tier x) (flat_of s).phase (last_seen past)) kind
    ∙ ap (λ x. cond (eqb x 0) (flat_of s).phase (last_seen past)) here)
seen_now s i tier k size (suc t) past r kind here all going seen =
    seen ∙ sym (ap (λ x. cond (sees_root r.tier x) (flat_of s).phase (last_seen past)) kind
    ∙ (ap (λ x. cond (eqb x 0) (flat_of s).phase (last_seen past)) here
    ∙ ap (λ b. cond b (flat_of s).phase (last_seen past)) (ne_eqb (suc t) 0 (omega arith))))

-- what a refusal says
pub refuses : (s : State) (i : ℕ) (past : List Moment) (tier k size t : ℕ) (r : Turn) (a : Played) → IsCore s → i < length s.views
    → IsDue s.parents tier k size t (view_at s.views i) → Refuses (added k size) (word_at s.words t) → t < length s.words
    → (view_at s.views i).phase ≡ last_seen past → r.kind ≡ Refuse tier k size → r.tier ≡ t → r.next ≡ giving_back k a
    → a ≡ refusal t (added k size) (refused t (word_at s.words t) (view_at s.views i)).phase (word_at s.words t)
    → RefusalTells i (call.Join tier size) (at i s r ∷ past) a
refuses s i past tier k size t r a core h due why within seen kind here next e =
    let w : Fields = word_at s.words t in
    let v : View = view_at s.views i in
    let p : ℕ = (refused t (word_at s.words t) (view_at s.views i)).phase in
    let word : refusing (at i s r) ≡ word_at s.words t = ap (word_at s.words) here in
    let all : (view_at s.views i).arrived ≡ (view_at s.views i).size =
    (let b = (fits_at s i core h).within in let d = due.none in omega arith) in
    let now = seen_now s i tier k size t past r kind here all why.0 seen in
    let heldby : has_no_room (added k size) w ≡ false → (c : Cause) → a ≡ Held p c → IsCause i p (at i s r) c
    → RefusalTells i (call.Join tier size) (at i s r ∷ past) a =
    λ fitting c q is. subst (λ (x : Played). RefusalTells i (call.Join tier size) (at i s r ∷ past) x) (sym q) (
      now,
      any_here (IsHeldBy i (call.Join tier size) p c) (at i s r) past record {
        tier = tier;
        claimed = k;
        size = size;
        refusal = record { call = refl; kind = kind; next = next ∙ ap (giving_back k) q };
        capacity = subst (λ (x : Fields). x.parties + added k size ≤ 65535) (sym word) (ltb-false 65535 (w.parties + added k size) fitting);
        cause = is;
      },
    ) in
    let below : t ≢ 0 → w.unarrived ≡ 0 → IsFullyArrived (at i s r) =
    λ n z. record { below = subst (λ (x : ℕ). 0 < x) (sym here) (omega arith); arrived = ap (λ (x : Fields). x.unarrived) word ∙ z } in
    ⊎_elim
    (λ (full : has_no_room (added k size) w ≡ true).
    let q : a ≡ Full w.parties = e ∙ ap (λ b. cond b (Full w.parties) (Held p (cause_of t p w))) full in
    subst (λ (x : Played). RefusalTells i (call.Join tier size) (at i s r ∷ past) x) (sym q)
    (any_here (IsFullWith (call.Join tier size) w.parties) (at i s r) past record {
      tier = tier;
      claimed = k;
      size = size;
      refusal = record { call = refl; kind = kind; next = next ∙ ap (giving_back k) q };
      here = ap (λ (x : Fields). x.parties) word;
      many = ltb-true 65535 (w.parties + added k size) full;
    }))
    (λ (capacity : has_no_room (added k size) w ≡ false).
    let q : a ≡ Held p (cause_of t p w) = e ∙ ap (λ b. cond b (Full w.parties) (Held p (cause_of t p w))) capacity in
    ⊎_elim
    (λ (z : w.unarrived ≡ 0).
    let q0 : a ≡ Held p (cond (eqb t 0) cause.Advancing (cond (eqb w.phase p) cause.AllArrived cause.Lagging)) =
    q ∙ ap (λ b. Held p (cond b (cond (eqb t 0) cause.Advancing (cond (eqb w.phase p) cause.AllArrived cause.Lagging)) cause.BeingOpened))
    (eq-eqb w.unarrived 0 z) in
    ⊎_elim
    (λ (root : t ≡ 0). heldby capacity cause.Advancing
    (q0 ∙ ap (λ b. Held p (cond b cause.Advancing (cond (eqb w.phase p) cause.AllArrived cause.Lagging))) (eq-eqb t 0 root))
    (here ∙ root, ap (λ (x : Fields). x.unarrived) word ∙ z))
    (λ (n : t ≢ 0).
    let q1 : a ≡ Held p (cond (eqb w.phase p) cause.AllArrived cause.Lagging) =
    q0 ∙ ap (λ b. Held p (cond b cause.Advancing (cond (eqb w.phase p) cause.AllArrived cause.Lagging))) (ne_eqb t 0 n) in
    ⊎_elim
    (λ (same : w.phase ≡ p). heldby capacity cause.AllArrived (q1 ∙ ap (λ b. Held p (cond b cause.AllArrived cause.Lagging)) (eq-eqb w.phase p same))
    (below n z, ap (λ (x : Fields). x.phase) word ∙ same))
    (λ (other : w.phase ≢ p). heldby capacity cause.Lagging (q1 ∙ ap (λ b. Held p (cond b cause.AllArrived cause.Lagging)) (ne_eqb w.phase p other))
    (below n z, λ x. other (sym (ap (λ (y : Fields). y.phase) word) ∙ x)))
    (cases_eq w.phase p))
    (cases_eq t 0))
    (λ (n : w.unarrived ≢ 0).
    let opened : is_being_opened w ≡ true = ⊎_elim
    (λ (m : 65535 < w.parties + added k size). absurd (let b = ltb-false 65535 (w.parties + added k size) capacity in omega arith))
    (λ x. ⊎_elim (λ (z : w.unarrived ≡ 0). absurd (n z)) (λ (o : is_being_opened w ≡ true). o) x) why.1 in
    heldby capacity cause.BeingOpened
    (q ∙ ap (λ b. Held p (cond b (cond (eqb t 0) cause.Advancing (cond (eqb w.phase p) cause.AllArrived cause.Lagging)) cause.BeingOpened))
    (ne_eqb w.unarrived 0 n)) (
      ap is_being_opened word ∙ opened,
      subst (λ (x : ℕ). IsClaimedByAnother i x s) (sym here) (opened_by s i tier k size t core h due within opened),
    ))
    (cases_eq w.unarrived 0))
    (either (has_no_room (added k size) w))

-- a tier that admits members is in the root's phase
pub joined_phase : (s : State) (t n : ℕ) → IsCore s → t < length s.words → Admits t n (word_at s.words t)
    → (word_at s.words t).phase ≡ root_phase s.words
joined_phase s t n core h can = ⊎_elim
    (λ (z : (word_at s.words t).parties ≡ 0). ap (λ k. (word_at s.words k).phase) (can.empty z).0)
    (λ (some : (word_at s.words t).parties ≢ 0). ⊎_elim (λ e. e)
    (λ e. absurd (let a = e.1 in let b = can.waits in omega arith)) (core.tally.phases t h (omega arith)))
    (cases_eq (word_at s.words t).parties 0)

-- a step of a join that looks for its tier
pub seek_tells : (s : State) (i : ℕ) (past : List Moment) (tier k size t : ℕ) → IsCore s → i < length s.views
    → IsDue s.parents tier k size t (view_at s.views i) → t < length s.words → (view_at s.views i).phase ≡ last_seen past
    → Goal s i (call.Join tier size) past (seek_turn tier k size t (word_at s.words t) (view_at s.views i))
seek_tells s i past tier k size t core h due within seen =
    let w : Fields = word_at s.words t in
    let v : View = view_at s.views i in
    let c : Call = call.Join tier size in
    let p : ℕ = (refused t (word_at s.words t) (view_at s.views i)).phase in
    let over : Turn = over_turn k w in
    let no : Turn = refuse_turn tier k size t w v in
    let join : Turn = join_turn tier k size t w in
    by_search (Goal s i c past) tier k size t w v
    (λ e may. refused_good s i c past over k (end_shown w) refl refl
    (any_here (HasEnded i (shown_of w.phase true)) (at i s over) past (ended_there s i t over core h may within e)))
    (λ _ _ may. refused_good s i c past no k (refusal t (added k size) p w) refl refl
    (refuses s i past tier k size t no (refusal t (added k size) p w) core h due may.needs.1 within seen refl refl refl refl))
    (λ _ _ _ may. record { reported = record { tells = refl; ends = λ x. no_last x }; keeps = (refl, seen) })
    (λ _ _ _ may. joined_good s i c past join k w.phase refl refl refl
    (any_here (IsCounted i c w.phase) (at i s join) past record { label = refl; phase = sym (joined_phase s t (added k size) core within may.needs.1) }))

-- a step that settles a claimed tier
pub settle_tells : (s : State) (i : ℕ) (c : Call) (past : List Moment) (tier k size : ℕ)
    → (view_at s.views i).errand ≡ Opening tier (suc k) Joined size → IsDoneIn i c (view_at s.views i).phase past
    → Goal s i c past (settle_turn s.parents (view_at s.views i) (view_at s.views i).errand)
settle_tells s i c past tier k size q done =
    let v : View = view_at s.views i in
    subst (λ (e : Errand). Goal s i c past (settle_turn s.parents (view_at s.views i) e)) (sym q)
    (λ may. let r : Turn = settle_turn s.parents v (Opening tier (suc k) Joined size) in
    joined_good s i c past (settle_turn s.parents v (Opening tier (suc k) Joined size)) k v.phase refl refl refl
    (done_later i c v.phase (at i s r) past done))

-- a step that gives one back
pub give_back_tells : (s : State) (i : ℕ) (c : Call) (past : List Moment) (tier k size : ℕ) (a : Played)
    → (view_at s.views i).errand ≡ Opening tier (suc k) GoingBack size → RefusalTells i c past a
    → Goal s i c past (give_back_turn s.parents a (view_at s.views i).errand)
give_back_tells s i c past tier k size a q reported =
    subst (λ (e : Errand). Goal s i c past (give_back_turn s.parents a e)) (sym q)
    (λ may. let r : Turn = give_back_turn s.parents a (Opening tier (suc k) GoingBack size) in
    refused_good s i c past (give_back_turn s.parents a (Opening tier (suc k) GoingBack size)) k a refl refl
    (refusal_later i c (at i s r) past a refl reported))
