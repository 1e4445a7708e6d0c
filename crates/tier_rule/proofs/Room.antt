-- The root has at most 65535 members.
use Rattle.std.proofs.Common.{◌≡◌, ◌≢◌, ℕ, zero, suc, ◌+◌, ◌-◌, ◌≤◌, ◌==◌, ◌⊎◌, inl, inr, ⊎_elim, Bool, true, false, cond, None, Some, List, [], ◌∷◌, ◌++◌, set, replicate, refl, sym, ◌∙◌, ap, subst, arith}
use Rattle.std.specs.Prelude.{sum_by}
use Rattle.std.proofs.lemmas.List.Sums.{sum_by-append}
use Rattle.phaser_word.specs.Fields.{Fields}
use Rattle.tier_shape.specs.Parents.{parent_of}
use Rattle.tier_steps.specs.declared.view.View.{View}
use Rattle.tier_steps.specs.declared.view.Errand.{Errand}
use Rattle.tier_steps.specs.declared.view.Errand.TheVariants.{Rest, Opening, Climbing, Advancing}
use Rattle.tier_steps.specs.declared.view.OpeningStage.{OpeningStage}
use Rattle.tier_steps.specs.declared.view.OpeningStage.TheVariants.{Seeking, Joined, GoingBack}
use Rattle.tier_steps.specs.declared.view.Passage.{Passage}
use Rattle.tier_steps.specs.declared.view.Passage.TheVariants.{Arrival, Departure}
use Rattle.tier_steps.specs.View.{new_view, only_at, is_hidden, errand_claims, party_share, claim_share, claims_on}
use Rattle.tier_steps.specs.declared.kind.Kind.{Kind}
use Rattle.tier_steps.specs.declared.kind.Kind.TheVariants.{Look, Glance, Refuse, Join, Arrive, Leave, Advance, Force, Claim, Settle, SettleBack, Climb, Refresh}
use Rattle.tier_steps.specs.Tally.{bit, word_at, root_phase, ErrandFits, Tallies}
use Rattle.tier_steps.specs.Word.{is_being_opened}
use Rattle.tier_steps.specs.Step.{Needs, Admits, view_after, looked, moved, dropped, given_up, is_going_back, owed, opening}
use Rattle.tier_steps.specs.Laws.{stepped_view}
use Rattle.tier_steps.proofs.Pass.{owed_is, only_here, only_elsewhere}
use Rattle.tier_steps.proofs.KindLaw.{mine}
use Rattle.tier_steps.proofs.Balance.{sum_around}
use Rattle.tier_rule.specs.declared.sight.Key.{Key}
use Rattle.tier_rule.specs.declared.sight.Sight.{Sight}
use Rattle.tier_rule.specs.Reach.{those, views_of, cut_off, sat_sight, opens, steps, cuts, sits, joins, parts}
use Rattle.tier_rule.specs.Laws.{members_at_root, RootsHaveRoom}
use Rattle.tier_rule.proofs.Seats.{amid, last_seat, reseated, joined_sum, parted_sum}
use Rattle.tier_rule.proofs.Reaching.{cut_views, reached_states_tally}

dropped_hidden : (e : Errand) → is_hidden (dropped e) ≡ is_hidden e
dropped_hidden Rest = refl
dropped_hidden Advancing = refl
dropped_hidden (Climbing zero passage) = refl
dropped_hidden (Climbing (suc t) passage) = refl
dropped_hidden (Opening tier claimed Seeking size) = refl
dropped_hidden (Opening tier claimed Joined size) = refl
dropped_hidden (Opening tier claimed GoingBack size) = refl

given_up_hidden : (e : Errand) → is_hidden (given_up e) ≡ is_hidden e
given_up_hidden Rest = refl
given_up_hidden Advancing = refl
given_up_hidden (Climbing t passage) = refl
given_up_hidden (Opening tier claimed Seeking size) = refl
given_up_hidden (Opening tier claimed Joined size) = refl
given_up_hidden (Opening tier claimed GoingBack size) = refl

-- a token with this errand has this many members at the root
abbrev at_root : Errand → ℕ → ℕ → ℕ
at_root e tier size = cond (is_hidden e) 0 (only_at tier size 0)

either_same : (b : Bool) (u v : View) (n : ℕ) → members_at_root u ≡ n → members_at_root v ≡ n → members_at_root (cond {A = View} b u v) ≡ n
either_same true u v n e f = e
either_same false u v n e f = f

looked_same : (w : Fields) (v : View) → members_at_root (looked w v) ≡ members_at_root v
looked_same w v =
    let u : View = record v { led = false; note = cond (is_going_back v.errand) v.note None } in
    let m : View = record u { phase = w.phase; arrived = 0 } in
    either_same w.ended (record u { end_seen = Some w.phase; errand = dropped u.errand }) (moved w u) (members_at_root v)
    (ap (λ (b : Bool). cond b 0 (only_at v.tier v.size 0)) (dropped_hidden v.errand))
    (either_same (v.arrived == v.size) (cond {A = View} (v.phase == w.phase) u m) u (members_at_root v) (either_same (v.phase == w.phase) u m (members_at_root v) refl refl) refl)

-- an errand that may be owed isn't an opening
owed_shown : (above t : ℕ) (passage : Passage) (w : Fields) → is_hidden (owed above t passage w) ≡ false
owed_shown above t passage w = owed_is (λ (e : Errand). is_hidden e ≡ false) above t passage w refl (λ z. refl) (λ j h. refl)

only_less : (t m n u : ℕ) → m ≤ n → only_at t m u ≤ only_at t n u
only_less t m n u h = go (t == u)
  where
    go : (b : Bool) → cond b m 0 ≤ cond b n 0
    go true = h
    go false = omega arith

-- a token that owes a passage or nothing has all its members where they are
shown : (e f : Errand) (t m n : ℕ) → is_hidden e ≡ false → m ≤ n → at_root f t m ≤ cond (is_hidden e) 0 (only_at t n 0)
shown e f t m n shows less' =
    subst (λ (b : Bool). at_root f t m ≤ cond b 0 (only_at t n 0)) (sym shows) (go (is_hidden f))
  where
    go : (b : Bool) → cond b 0 (only_at t m 0) ≤ only_at t n 0
    go true = omega arith
    go false = only_less t m n 0 less'

-- a path is opened to a tier below the root
opened_below : (ps : List ℕ) (tier claimed : ℕ) → claims_on ps tier (suc claimed) 0 ≡ 0 → tier ≢ 0
opened_below ps tier zero none z =
    let a : only_at tier 1 0 ≡ 1 = ap (λ (n : ℕ). only_at n 1 0) z ∙ only_here 0 1 in omega arith
opened_below ps tier (suc claimed) none z = opened_below ps tier claimed (omega arith) z

-- a token that has settled a tier has nobody at the root
settled_none : (tier claimed size n t : ℕ) (stage : OpeningStage) → (n ≡ 0) ⊎ (t ≢ 0) → at_root (opening tier claimed stage size) t n ≡ 0
settled_none tier zero size n t stage (inl z) = ap (λ (m : ℕ). only_at t m 0) z ∙ none_here (t == 0)
  where
    none_here : (b : Bool) → cond {A = ℕ} b 0 0 ≡ 0
    none_here true = refl
    none_here false = refl
settled_none tier zero size n t stage (inr below) = only_elsewhere t n 0 (λ e. below (sym e))
settled_none tier (suc claimed) size n t stage any = refl

-- no token opens a path to the root
no_root_opened : (ps : List ℕ) (ws : List Fields) (front back : List View) (v : View) → Tallies ps ws (front ++ v ∷ back)
    → claim_share ps 0 v ≡ 0
no_root_opened ps ws front back v tally =
    let a = tally.claims 0 tally.some in
    let b : bit (is_being_opened (word_at ws 0)) ≡ 0 = ap bit tally.root_claims in
    let c = sum_around (claim_share ps 0) front back v in
    omega arith

opens_below : (ps : List ℕ) (ws : List Fields) (front back : List View) (v : View) (tier claimed size : ℕ) (stage : OpeningStage)
    → Tallies ps ws (front ++ v ∷ back) → v.errand ≡ Opening tier (suc claimed) stage size → tier ≢ 0
opens_below ps ws front back v tier claimed size stage tally e =
    opened_below ps tier claimed (sym (ap (errand_claims ps 0) e) ∙ no_root_opened ps ws front back v tally)

joined_place : (ps : List ℕ) (ws : List Fields) (front back : List View) (v : View) (tier claimed size : ℕ)
    → Tallies ps ws (front ++ v ∷ back) → v.errand ≡ Opening tier (suc claimed) Joined size → v.tier ≡ tier
joined_place ps ws front back v tier claimed size tally e =
    (subst (ErrandFits ps (root_phase ws) v) e (mine ps ws front back v tally).errand).1.place

going_back_none : (ps : List ℕ) (ws : List Fields) (front back : List View) (v : View) (tier claimed size : ℕ)
    → Tallies ps ws (front ++ v ∷ back) → v.errand ≡ Opening tier (suc claimed) GoingBack size → v.size ≡ 0
going_back_none ps ws front back v tier claimed size tally e =
    (subst (ErrandFits ps (root_phase ws) v) e (mine ps ws front back v tally).errand).1

-- a token that joins below the root, or still opens a path, has nobody at the root
joined_none : (tier claimed size t : ℕ) → ((claimed ≡ 0) → tier ≢ 0) → at_root (opening tier claimed Joined size) tier size ≡ 0
joined_none tier zero size t below = only_elsewhere tier size 0 (λ e. below refl (sym e))
joined_none tier (suc claimed) size t below = refl

-- a step leaves a token at most as many members at the root, but for a join there
less : (ps : List ℕ) (ws : List Fields) (front back : List View) (v : View) (t : ℕ) (kind : Kind) → Tallies ps ws (front ++ v ∷ back)
    → Needs ps kind t (word_at ws t) v
    → ((tier size : ℕ) → kind ≡ Join tier 0 size → tier ≢ 0)
    → members_at_root (view_after (parent_of ps t) kind t (word_at ws t) v) ≤ members_at_root v
less ps ws front back v t Look tally needs below = let a = looked_same (word_at ws t) v in omega arith
less ps ws front back v t Glance tally needs below = omega arith
less ps ws front back v zero (Refuse tier claimed size) tally needs below =
    let u : View = looked (word_at ws 0) v in
    let a : members_at_root (view_after (parent_of ps 0) (Refuse tier claimed size) 0 (word_at ws 0) v) ≡ members_at_root u =
    ap (λ (b : Bool). cond b 0 (only_at u.tier u.size 0)) (given_up_hidden u.errand) in
    let b = looked_same (word_at ws 0) v in omega arith
less ps ws front back v (suc t) (Refuse tier claimed size) tally needs below =
    let a : members_at_root (view_after (parent_of ps (suc t)) (Refuse tier claimed size) (suc t) (word_at ws (suc t)) v)
    ≡ members_at_root v =
    ap (λ (b : Bool). cond b 0 (only_at v.tier v.size 0)) (given_up_hidden v.errand) in
    omega arith
less ps ws front back v t (Join tier claimed size) tally needs below =
    let a = joined_none tier claimed size t (λ z. below tier size (ap (λ (n : ℕ). Join tier n size) z)) in omega arith
less ps ws front back v t Arrive tally needs below =
    shown v.errand (owed (parent_of ps t) t Arrival (word_at ws t)) v.tier v.size v.size (ap is_hidden needs.rest) (omega arith)
less ps ws front back v t Leave tally needs below =
    shown v.errand (owed (parent_of ps t) t Departure (word_at ws t)) v.tier (v.size - 1) v.size (ap is_hidden needs.rest) (omega arith)
less ps ws front back v t (Advance ends) tally needs below =
    shown v.errand Rest v.tier v.size v.size (ap is_hidden needs.1.errand) (omega arith)
less ps ws front back v t Force tally needs below = omega arith
less ps ws front back v t (Claim tier claimed size) tally needs below = omega arith
less ps ws front back v t (Settle tier claimed size) tally needs below =
    let place = joined_place ps ws front back v tier claimed size tally needs.1 in
    let a =
    settled_none tier claimed size v.size v.tier Joined
    (inr (λ z. opens_below ps ws front back v tier claimed size Joined tally needs.1 (sym place ∙ z))) in
    omega arith
less ps ws front back v t (SettleBack tier claimed size) tally needs below =
    let a =
    settled_none tier claimed size v.size v.tier GoingBack (inl (going_back_none ps ws front back v tier claimed size tally needs.1)) in
    omega arith
less ps ws front back v t (Climb passage) tally needs below =
    shown v.errand (owed (parent_of ps t) t passage (word_at ws t)) v.tier v.size v.size (ap is_hidden needs.errand) (omega arith)
less ps ws front back v t Refresh tally needs below = omega arith

-- a member at the root is a party there
is_party : (ps : List ℕ) (v : View) → members_at_root v ≤ party_share ps 0 v
is_party ps v = omega arith

are_parties : (ps : List ℕ) (vs : List View) → sum_by members_at_root vs ≤ sum_by (party_share ps 0) vs
are_parties ps [] = omega arith
are_parties ps (v ∷ vs) =
    let a = sum_by-append members_at_root (v ∷ []) vs in let b = sum_by-append (party_share ps 0) (v ∷ []) vs in
    let c = are_parties ps vs in let d = is_party ps v in omega arith

-- who joins at the root finds room there
joins_root : (ps : List ℕ) (ws : List Fields) (front back : List View) (v : View) (t size : ℕ) → Tallies ps ws (front ++ v ∷ back)
    → Needs ps (Join 0 0 size) t (word_at ws t) v
    → sum_by members_at_root front + size + sum_by members_at_root back ≤ 65535
joins_root ps ws front back v t size tally needs =
    let admits : Admits 0 size (word_at ws 0) = subst (λ (n : ℕ). Admits n size (word_at ws n)) needs.0.here needs.1 in
    let a = tally.parties 0 tally.some (λ z. admits.going) in
    let b = are_parties ps (front ++ v ∷ back) in
    let c = sum_around members_at_root front back v in
    let d = admits.capacity in omega arith

root_or_not : (kind : Kind) → ((size : ℕ) × (kind ≡ Join 0 0 size)) ⊎ ((tier size : ℕ) → kind ≡ Join tier 0 size → tier ≢ 0)
root_or_not Look = inr (λ n s e. absurd (cc))
root_or_not Glance = inr (λ n s e. absurd (cc))
root_or_not (Refuse tier claimed size) = inr (λ n s e. absurd (cc))
root_or_not (Join zero zero size) = inl (size, refl)
root_or_not (Join (suc tier) zero size) = inr (λ n s e z. let a : suc tier ≡ n = ap tier_of e in omega arith)
  where
    tier_of : Kind → ℕ
    tier_of (Join tier claimed size) = tier
    tier_of _ = 0
root_or_not (Join tier (suc claimed) size) = inr (λ n s e. let a : suc claimed ≡ 0 = ap claimed_of e in omega arith)
  where
    claimed_of : Kind → ℕ
    claimed_of (Join tier claimed size) = claimed
    claimed_of _ = 0
root_or_not Arrive = inr (λ n s e. absurd (cc))
root_or_not Leave = inr (λ n s e. absurd (cc))
root_or_not (Advance ends) = inr (λ n s e. absurd (cc))
root_or_not Force = inr (λ n s e. absurd (cc))
root_or_not (Claim tier claimed size) = inr (λ n s e. absurd (cc))
root_or_not (Settle tier claimed size) = inr (λ n s e. absurd (cc))
root_or_not (SettleBack tier claimed size) = inr (λ n s e. absurd (cc))
root_or_not (Climb passage) = inr (λ n s e. absurd (cc))
root_or_not Refresh = inr (λ n s e. absurd (cc))

room_after : (ps : List ℕ) (ws : List Fields) (front back : List View) (v : View) (t : ℕ) (kind : Kind) → Tallies ps ws (front ++ v ∷ back)
    → Needs ps kind t (word_at ws t) v
    → sum_by members_at_root (front ++ v ∷ back) ≤ 65535
    → sum_by members_at_root (front ++ view_after (parent_of ps t) kind t (word_at ws t) v ∷ back) ≤ 65535
room_after ps ws front back v t kind tally needs capacity =
    let u : View = view_after (parent_of ps t) kind t (word_at ws t) v in
    let c = sum_around members_at_root front back v in
    let d = sum_around members_at_root front back u in
    ⊎_elim
    (λ (j : (size : ℕ) × (kind ≡ Join 0 0 size)).
    let needs' : Needs ps (Join 0 0 j.0) t (word_at ws t) v = subst (λ (z : Kind). Needs ps z t (word_at ws t) v) j.1 needs in
    let n = joins_root ps ws front back v t j.0 tally needs' in
    let e : members_at_root u ≡ only_at 0 j.0 0 =
    ap (λ (z : Kind). members_at_root (view_after (parent_of ps t) z t (word_at ws t) v)) j.1 in
    let f = only_here 0 j.0 in omega arith)
    (λ (other : (tier size : ℕ) → kind ≡ Join tier 0 size → tier ≢ 0). let e = less ps ws front back v t kind tally needs other in
    omega arith)
    (root_or_not kind)

sat_none : (k : Key) (w : Fields) (n : ℕ) → sum_by members_at_root (those (replicate n (sat_sight k w))) ≡ 0
sat_none k w zero = refl
sat_none k w (suc n) =
    let a = sum_by-append members_at_root (new_view w.phase ∷ []) (those (replicate n (sat_sight k w))) in
    let b = sat_none k w n in
    omega arith

pub roots_have_room : RootsHaveRoom
roots_have_room k ws vs (opens x shape small is) =
    subst (λ (z : Sight). sum_by members_at_root (z.view ∷ []) ≤ 65535) (sym is) (omega arith)
roots_have_room k ws vs (steps us ts id t tries f b x y kind r at within needs says own is few) =
    let a = amid ts id f x b at in
    let view : y.view ≡ stepped_view k.shape us kind t x.view = is.view ∙ ap (λ (z : Key). stepped_view z.shape us kind t x.view) own in
    let tally = subst (λ (views : List View). Tallies k.shape us views) a.is (reached_states_tally k us ts r) in
    let before = subst (λ (views : List View). sum_by members_at_root views ≤ 65535) a.is (roots_have_room k us ts r) in
    subst (λ (views : List View). sum_by members_at_root views ≤ 65535) (sym (a.after y))
    (subst (λ (v : View). sum_by members_at_root (a.front ++ v ∷ a.back) ≤ 65535) (sym view) (room_after k.shape us a.front a.back x.view t kind tally needs before))
roots_have_room k ws vs (cuts us ts id l r at) =
    let a = reseated members_at_root ts id l (cut_off l) at in
    let b : sum_by members_at_root (those (cut_off l)) ≡ sum_by members_at_root (those l) = ap (sum_by members_at_root) (cut_views l) in
    let c : sum_by members_at_root (views_of (set ts id (cut_off l) ++ [] ∷ []))
    ≡ sum_by members_at_root (views_of (set ts id (cut_off l))) + 0 =
    ap (sum_by members_at_root) (last_seat (set ts id (cut_off l)) [])
    ∙ sum_by-append members_at_root (views_of (set ts id (cut_off l))) [] in
    let d = roots_have_room k us ts r in omega arith
roots_have_room k ws vs (sits us ts id n r at) =
    let a = reseated members_at_root ts id [] (replicate n (sat_sight k (word_at us 0))) at in
    let b = sat_none k (word_at us 0) n in let d = roots_have_room k us ts r in omega arith
roots_have_room k ws vs (joins us ts id other l m r at apart there) =
    let a = joined_sum members_at_root ts id other l m at there in let d = roots_have_room k us ts r in omega arith
roots_have_room k ws vs (parts us ts id x l y m r at) =
    let a = parted_sum members_at_root ts id (x ∷ l) (y ∷ m) at in let d = roots_have_room k us ts r in omega arith
