-- Claims, settles and refreshes fit: they move no member.
use Rattle.std.proofs.Common.{◌≡◌, ◌≢◌, ℕ, zero, suc, ◌+◌, ◌<◌, ◌≤◌, inl, ⊎_elim, Bool, true, false, cond, eqb, List, ◌∷◌, ◌++◌, length, refl, sym, ◌∙◌, ap, subst, arith}
use Rattle.std.proofs.lemmas.Bool.{eq-eqb, ne_eqb}
use Rattle.tier_steps.specs.Word.{Fields, IsLegal, is_being_opened, late, refreshed, emptied, claimed_word, settled}
use Rattle.tier_steps.specs.View.{View, Errand, Rest, Opening, Climbing, Passage, OpeningStage, Seeking, Joined, GoingBack, parent_of, ancestor, absent, only_at, errand_parties, errand_late, is_hidden, party_share, late_share, claims_on, errand_claims, claim_share, errand_advances, advance_share}
use Rattle.tier_steps.specs.Tally.{IsShape, word_at, root_phase, counted, OpeningFits, JoinFits, ErrandFits, ViewFits, bit, Tallies}
use Rattle.tier_steps.specs.Step.{opening, added, IsDue, IsFree, claimed_view, settled_view, CanRefresh}
use Rattle.tier_steps.proofs.Legal.{settled_legal, unclaimed_legal, refreshed_legal, added_range}
use Rattle.tier_steps.proofs.Balance.{linked}
use Rattle.tier_steps.proofs.Keeping.{StepFits}
use Rattle.tier_steps.proofs.Pass.{only_here, only_elsewhere, share_fits, unarrived_is_current, open_not_opened, resting_late}
use Rattle.tier_steps.proofs.Grow.{resting_parties, absent_joined, opening_claims, opening_idle, seeking_party, seeking_late}

-- a word with no parties counts nothing
nothing_counted : (root : ℕ) (w : Fields) → w.parties ≡ 0 → late root w ≡ 0
nothing_counted root w e = ap (λ b. cond b 0 (cond (eqb w.phase root) w.unarrived w.parties)) (eq-eqb w.parties 0 e)

none_counted : (f : Fields → ℕ) (w : Fields) → f w ≡ 0 → counted f w ≡ 0
none_counted f w e = ap (λ b. cond b 0 1) (eq-eqb (f w) 0 e)

some_counted : (f : Fields → ℕ) (w : Fields) → 0 < f w → counted f w ≡ 1
some_counted f w h = ap (λ b. cond b 0 1) (ne_eqb (f w) 0 (omega arith))

linked_nothing : (ps : List ℕ) (u t : ℕ) → linked ps u t 0 ≡ 0
linked_nothing ps u zero = refl
linked_nothing ps u (suc t) = grind arith

-- a step between two words without parties, and two views that count the same: Claim, the way back, and a Look at an empty tier
pub record Empties (ps : List ℕ) (root : ℕ) (t : ℕ) (w w' : Fields) (v v' : View) : Type 0 where
  pub legal : IsLegal w'
  pub below : 0 < t
  pub same_end : w'.ended ≡ w.ended
  pub none : (w.parties ≡ 0) × (w'.parties ≡ 0)
  pub parties : (u : ℕ) → party_share ps u v' ≡ party_share ps u v
  pub unarrived : (u : ℕ) → late_share root ps u v' ≡ late_share root ps u v
  pub claims_here : bit (is_being_opened w') + claim_share ps t v ≡ cond (is_being_opened w) 1 0 + claim_share ps t v'
  pub claims_there : (u : ℕ) → u ≢ t → claim_share ps u v' ≡ claim_share ps u v
  pub idle : advance_share v' ≡ advance_share v

pub empty_fits : (ps : List ℕ) (root : ℕ) (ended : Bool) (t : ℕ) (w w' : Fields) (v v' : View) → Empties ps root t w w' v v'
    → ViewFits ps root ended v' → StepFits ps root ended t w w' v v'
empty_fits ps root ended t w w' v v' p ok =
    let a = nothing_counted root w p.none.0 in
    let b = nothing_counted root w' p.none.1 in
    record {
      legal = p.legal;
      phase = λ z. absurd (let h = p.below in omega arith);
      same_end = λ _. p.same_end;
      ended_stays = λ z. absurd (let h = p.below in omega arith);
      parties_here = λ _. let c = p.none.0 in let d = p.none.1 in let e = p.parties t in omega arith;
      parties_there = λ u k. let c = ap (linked ps u t) (none_counted (λ x. x.parties) w p.none.0) in
          let d = ap (linked ps u t) (none_counted (λ x. x.parties) w' p.none.1) in let e = p.parties u in omega arith;
      late_here = λ _. let e = p.unarrived t in omega arith;
      late_there = λ u k. let c = ap (linked ps u t) (none_counted (late root) w a) in
          let d = ap (linked ps u t) (none_counted (late root) w' b) in let e = p.unarrived u in omega arith;
      claims_here = p.claims_here;
      claims_there = p.claims_there;
      root_claims = λ z. absurd (let h = p.below in omega arith);
      keeps_up = λ h. absurd (let d = p.none.1 in omega arith);
      advances_here = λ z. absurd (let h = p.below in omega arith);
      advances_there = λ _. p.idle;
      view = ok;
    }

empty_not_opened : (w : Fields) → w.unarrived ≡ 1 → is_being_opened w ≡ false
empty_not_opened w e = grind arith

-- a token that hasn't joined counts nowhere
pub record Absent (ps : List ℕ) (root : ℕ) (v : View) : Type 0 where
  pub parties : (u : ℕ) → party_share ps u v ≡ 0
  pub unarrived : (u : ℕ) → late_share root ps u v ≡ 0
  pub idle : advance_share v ≡ 0

pub resting_absent : (ps : List ℕ) (root : ℕ) (v : View) → v.errand ≡ Rest → v.size ≡ 0 → Absent ps root v
resting_absent ps root v e z = record {
  parties = λ u. seeking_party ps u v 0 0 0 e z;
  unarrived = λ u. seeking_late root ps u v 0 0 0 e z;
  idle = ap errand_advances e;
}

pub seeking_absent : (ps : List ℕ) (root : ℕ) (v : View) (tier claimed size : ℕ) → v.errand ≡ opening tier claimed Seeking size
    → v.size ≡ 0 → Absent ps root v
seeking_absent ps root v tier claimed size e z = record {
  parties = λ u. seeking_party ps u v tier claimed size e z;
  unarrived = λ u. seeking_late root ps u v tier claimed size e z;
  idle = ap errand_advances e ∙ opening_idle tier claimed size Seeking;
}

pub going_back_absent : (ps : List ℕ) (root : ℕ) (v : View) (tier claimed size : ℕ) → v.errand ≡ opening tier claimed GoingBack size
    → v.size ≡ 0 → Absent ps root v
going_back_absent ps root v tier zero size e z = resting_absent ps root v e z
going_back_absent ps root v tier (suc claimed) size e z = record {
  parties = λ u. ap (λ x. cond (is_hidden x) 0 (only_at v.tier v.size u) + errand_parties ps x u) e;
  unarrived = λ u. ap (λ x. cond (is_hidden x) 0 (only_at v.tier (absent root v) u) + errand_late ps x u) e;
  idle = ap errand_advances e;
}

both_absent : (ps : List ℕ) (root : ℕ) (v v' : View) → Absent ps root v → Absent ps root v' → (u : ℕ)
    → party_share ps u v' ≡ party_share ps u v
both_absent ps root v v' a b u = b.parties u ∙ sym (a.parties u)

-- Claim
pub claim_fits : (ps : List ℕ) (ws : List Fields) (vs : List View) (v : View) (t tier claimed size : ℕ) (ended : Bool) → t < length ws
    → Tallies ps ws vs
    → IsDue ps tier claimed size t v → IsFree t (word_at ws t) → ViewFits ps (root_phase ws) ended v
    → StepFits ps (root_phase ws) ended t (word_at ws t) (claimed_word (word_at ws t)) v (claimed_view tier claimed size v)
claim_fits ps ws vs v t tier claimed size ended within tally due can ok =
    let w : Fields = word_at ws t in
    let v' : View = claimed_view tier claimed size v in
    let free : Absent ps (root_phase ws) v = seeking_absent ps (root_phase ws) v tier claimed size due.errand due.none in
    let free' : Absent ps (root_phase ws) v' = seeking_absent ps (root_phase ws) v' tier (suc claimed) size refl due.none in
    let before : (u : ℕ) → claim_share ps u v ≡ claims_on ps tier claimed u = λ u. ap (errand_claims ps u) due.errand
    ∙ opening_claims ps u tier claimed size Seeking in
    empty_fits ps (root_phase ws) ended t w (claimed_word w) v v'
    (record {
      legal = unclaimed_legal w 2 (tally.legal t within) (omega arith);
      below = can.below;
      same_end = refl;
      none = (can.none, refl);
      parties = both_absent ps (root_phase ws) v v' free free';
      unarrived = λ u. free'.unarrived u ∙ sym (free.unarrived u);
      claims_here =
          let a = before t in
          let b : only_at (ancestor ps tier claimed) 1 t ≡ 1 = ap (λ k. only_at k 1 t) (sym due.here) ∙ only_here t 1 in
          let c : bit (is_being_opened w) ≡ 0 = ap bit (empty_not_opened w can.unclaimed) in
          omega arith;
      claims_there = λ u h.
          let a = before u in
          let b : only_at (ancestor ps tier claimed) 1 u ≡ 0 = ap (λ k. only_at k 1 u) (sym due.here) ∙ only_elsewhere t 1 u h in
          omega arith;
      idle = free'.idle ∙ sym free.idle;
    })
    (record {
      within = ok.within;
      few = ok.few;
      placed = ok.placed;
      current = ok.current;
      seen = ok.seen;
      errand = (record { claims = omega arith; place = due.place; some = due.some; few = due.few }, due.none);
    })

bit_true : (b : Bool) → 0 < cond {A = ℕ} b 1 0 → b ≡ true
bit_true true h = refl
bit_true false h = absurd (omega arith)

-- a tier that some token claims is being opened
pub claimed_is_opened : (ps : List ℕ) (ws : List Fields) (front back : List View) (v : View) (t : ℕ) → Tallies ps ws (front ++ v ∷ back)
    → t < length ws → 0 < claim_share ps t v → is_being_opened (word_at ws t) ≡ true
claimed_is_opened ps ws front back v t tally within h =
    let a = tally.claims t within in
    let b = share_fits (claim_share ps t) front back v in
    bit_true (is_being_opened (word_at ws t)) (omega arith)

opened_parties : (w : Fields) → is_being_opened w ≡ true → w.parties ≡ 0
opened_parties w e = grind arith

-- a claimed tier is below the root
pub claimed_below : (ps : List ℕ) (ws : List Fields) (t : ℕ) (vs : List View) → Tallies ps ws vs → is_being_opened (word_at ws t) ≡ true
    → 0 < t
claimed_below ps ws zero vs tally e = absurd (let a = tally.root_claims in cc)
claimed_below ps ws (suc t) vs tally e = omega arith

left_ok : (ps : List ℕ) (root : ℕ) (v : View) (tier claimed size : ℕ) → OpeningFits ps tier (suc claimed) size → v.size ≡ 0
    → ErrandFits ps root v (opening tier claimed GoingBack size)
left_ok ps root v tier zero size fit z = tt
left_ok ps root v tier (suc claimed) size fit z = (record { claims = omega arith; place = fit.place; some = fit.some; few = fit.few }, z)

-- the highest of the claimed tiers is claimed once more than by the others
highest_claimed : (ps : List ℕ) (tier claimed : ℕ)
    → claims_on ps tier (suc claimed) (ancestor ps tier claimed) ≡ claims_on ps tier claimed (ancestor ps tier claimed) + 1
highest_claimed ps tier claimed = let a = only_here (ancestor ps tier claimed) 1 in omega arith

others_claimed : (ps : List ℕ) (tier claimed u : ℕ) → u ≢ ancestor ps tier claimed
    → claims_on ps tier (suc claimed) u ≡ claims_on ps tier claimed u
others_claimed ps tier claimed u h = let a = only_elsewhere (ancestor ps tier claimed) 1 u h in omega arith

-- the tier that is settled next is being opened
next_is_opened : (ps : List ℕ) (ws : List Fields) (front back : List View) (v : View) (tier claimed size : ℕ) (stage : OpeningStage)
    → Tallies ps ws (front ++ v ∷ back) → ancestor ps tier claimed < length ws → v.errand ≡ Opening tier (suc claimed) stage size
    → is_being_opened (word_at ws (ancestor ps tier claimed)) ≡ true
next_is_opened ps ws front back v tier claimed size stage tally within e =
    claimed_is_opened ps ws front back v (ancestor ps tier claimed) tally within
    (let a = highest_claimed ps tier claimed in
    let b : claim_share ps (ancestor ps tier claimed) v ≡ claims_on ps tier (suc claimed) (ancestor ps tier claimed) =
    ap (errand_claims ps (ancestor ps tier claimed)) e in
    omega arith)

-- Settle on the way back
pub settle_back_fits : (ps : List ℕ) (ws : List Fields) (front back : List View) (v : View) (tier claimed size : ℕ) (ended : Bool)
    → ancestor ps tier claimed < length ws → Tallies ps ws (front ++ v ∷ back) → v.errand ≡ Opening tier (suc claimed) GoingBack size
    → ViewFits ps (root_phase ws) ended v
    → StepFits ps (root_phase ws) ended (ancestor ps tier claimed) (word_at ws (ancestor ps tier claimed))
    (emptied (word_at ws (ancestor ps tier claimed))) v
    (settled_view tier claimed GoingBack size v)
settle_back_fits ps ws front back v tier claimed size ended within tally e ok =
    let c : ℕ = ancestor ps tier claimed in
    let w : Fields = word_at ws (ancestor ps tier claimed) in
    let v' : View = settled_view tier claimed GoingBack size v in
    let fit : ErrandFits ps (root_phase ws) v (Opening tier (suc claimed) GoingBack size) =
    subst (λ (x : Errand). ErrandFits ps (root_phase ws) v x) e ok.errand in
    let before : (u : ℕ) → claim_share ps u v ≡ claims_on ps tier (suc claimed) u = λ u. ap (errand_claims ps u) e in
    let after : (u : ℕ) → claim_share ps u v' ≡ claims_on ps tier claimed u = λ u. opening_claims ps u tier claimed size GoingBack in
    let opened : is_being_opened w ≡ true = next_is_opened ps ws front back v tier claimed size GoingBack tally within e in
    let free : Absent ps (root_phase ws) v = going_back_absent ps (root_phase ws) v tier (suc claimed) size e fit.1 in
    let free' : Absent ps (root_phase ws) v' = going_back_absent ps (root_phase ws) v' tier claimed size refl fit.1 in
    empty_fits ps (root_phase ws) ended (ancestor ps tier claimed) w (emptied w) v v'
    (record {
      legal = unclaimed_legal w 1 (tally.legal (ancestor ps tier claimed) within) (omega arith);
      below = claimed_below ps ws (ancestor ps tier claimed) (front ++ v ∷ back) tally opened;
      same_end = refl;
      none = (opened_parties w opened, refl);
      parties = both_absent ps (root_phase ws) v v' free free';
      unarrived = λ u. free'.unarrived u ∙ sym (free.unarrived u);
      claims_here =
          let a = before (ancestor ps tier claimed) in
          let b = after (ancestor ps tier claimed) in
          let d = highest_claimed ps tier claimed in
          let f : bit (is_being_opened w) ≡ 1 = ap bit opened in
          omega arith;
      claims_there = λ u h. after u ∙ sym (before u ∙ others_claimed ps tier claimed u h);
      idle = free'.idle ∙ sym free.idle;
    })
    (record {
      within = ok.within;
      few = ok.few;
      placed = ok.placed;
      current = ok.current;
      seen = ok.seen;
      errand = left_ok ps (root_phase ws) v' tier claimed size fit.0 fit.1;
    })

linked_is : (ps : List ℕ) (u t n : ℕ) → 0 < t → linked ps u t n ≡ only_at (parent_of ps t) n u
linked_is ps u zero n h = absurd (omega arith)
linked_is ps u (suc t) n h = refl

settled_late : (root : ℕ) (w : Fields) (phase n : ℕ) → phase ≡ root → late root (settled w phase n) ≡ n
settled_late root w phase n e = grind arith

-- what is settled moves from the parent of the tier to the tier
settled_share : (ps : List ℕ) (root : ℕ) (v : View) (tier claimed size : ℕ) → JoinFits root v tier size → (u : ℕ)
    → (party_share ps u (settled_view tier claimed Joined size v) ≡ only_at (ancestor ps tier claimed) (added claimed size) u)
    × (late_share root ps u (settled_view tier claimed Joined size v) ≡ only_at (ancestor ps tier claimed) (added claimed size) u)
settled_share ps root v tier zero size fit u = (
  resting_parties ps u (settled_view tier 0 Joined size v) refl
      ∙ (ap (λ k. only_at k v.size u) fit.place ∙ ap (λ k. only_at tier k u) fit.members),
  resting_late root ps u (settled_view tier 0 Joined size v) refl
      ∙ (ap (λ k. only_at v.tier k u) (absent_joined root (settled_view tier 0 Joined size v) fit.arrived)
      ∙ (ap (λ k. only_at k v.size u) fit.place ∙ ap (λ k. only_at tier k u) fit.members)),
)
settled_share ps root v tier (suc claimed) size fit u = (omega arith, omega arith)

joined_share : (ps : List ℕ) (root : ℕ) (v : View) (tier claimed size : ℕ) → v.errand ≡ Opening tier claimed Joined size → (u : ℕ)
    → (party_share ps u v ≡ only_at (ancestor ps tier claimed) 1 u) × (late_share root ps u v ≡ only_at (ancestor ps tier claimed) 1 u)
joined_share ps root v tier claimed size e u = (
  (let a : party_share ps u v ≡ 0 + only_at (ancestor ps tier claimed) 1 u =
      ap (λ x. cond (is_hidden x) 0 (only_at v.tier v.size u) + errand_parties ps x u) e in omega arith),
  (let a : late_share root ps u v ≡ 0 + only_at (ancestor ps tier claimed) 1 u =
      ap (λ x. cond (is_hidden x) 0 (only_at v.tier (absent root v) u) + errand_late ps x u) e in omega arith),
)

lower_ok : (ps : List ℕ) (root : ℕ) (v : View) (tier claimed size : ℕ) → OpeningFits ps tier (suc claimed) size → JoinFits root v tier size
    → ErrandFits ps root v (opening tier claimed Joined size)
lower_ok ps root v tier zero size fit join = tt
lower_ok ps root v tier (suc claimed) size fit join = (
  record { claims = omega arith; place = fit.place; some = fit.some; few = fit.few },
  record { phase = join.phase; arrived = join.arrived; place = join.place; members = join.members },
)

settled_not_opened : (w : Fields) (phase n : ℕ) → 0 < n → is_being_opened (settled w phase n) ≡ false
settled_not_opened w phase n h = open_not_opened (settled w phase n) h

-- the counts of a tier that is settled, at the tier c with the parent p: n there, in place of one at p
record Settles (ps : List ℕ) (root c n : ℕ) (v v' : View) : Type 0 where
  pub below : 0 < c
  pub above : parent_of ps c < c
  pub some : 0 < n
  pub parties : (u : ℕ) → (party_share ps u v ≡ only_at (parent_of ps c) 1 u) × (party_share ps u v' ≡ only_at c n u)
  pub lates : (u : ℕ) → (late_share root ps u v ≡ only_at (parent_of ps c) 1 u) × (late_share root ps u v' ≡ only_at c n u)

moves_here : (f g p c n : ℕ) → f ≡ only_at p 1 c → g ≡ only_at c n c → p < c → n + f ≡ 0 + g
moves_here f g p c n a b h = let other : c ≢ p = omega arith in let d = only_here c n in let e = only_elsewhere p 1 c other in omega arith

-- the tier is linked with its parent from now on
moves_there : (ps : List ℕ) (measure : Fields → ℕ) (w w' : Fields) (f g u c n : ℕ) → f ≡ only_at (parent_of ps c) 1 u → g ≡ only_at c n u
    → u ≢ c → 0 < c
    → measure w ≡ 0 → 0 < measure w' → g + linked ps u c (counted measure w') ≡ f + linked ps u c (counted measure w)
moves_there ps measure w w' f g u c n a b h below none some =
    let d = only_elsewhere c n u h in
    let e : linked ps u c (counted measure w) ≡ 0 = ap (linked ps u c) (none_counted measure w none) ∙ linked_nothing ps u c in
    let i : linked ps u c (counted measure w') ≡ only_at (parent_of ps c) 1 u = ap (linked ps u c) (some_counted measure w' some)
    ∙ linked_is ps u c 1 below in
    omega arith

-- Settle after the join
pub settle_fits : (ps : List ℕ) (ws : List Fields) (front back : List View) (v : View) (tier claimed size : ℕ) (ended : Bool) → IsShape ps
    → ancestor ps tier claimed < length ws → Tallies ps ws (front ++ v ∷ back) → v.errand ≡ Opening tier (suc claimed) Joined size
    → ViewFits ps (root_phase ws) ended v
    → StepFits ps (root_phase ws) ended (ancestor ps tier claimed) (word_at ws (ancestor ps tier claimed))
    (settled (word_at ws (ancestor ps tier claimed)) v.phase (added claimed size)) v (settled_view tier claimed Joined size v)
settle_fits ps ws front back v tier claimed size ended shape within tally e ok =
    let c : ℕ = ancestor ps tier claimed in
    let n : ℕ = added claimed size in
    let w : Fields = word_at ws (ancestor ps tier claimed) in
    let w' : Fields = settled (word_at ws (ancestor ps tier claimed)) v.phase (added claimed size) in
    let v' : View = settled_view tier claimed Joined size v in
    let fit : ErrandFits ps (root_phase ws) v (Opening tier (suc claimed) Joined size) =
    subst (λ (x : Errand). ErrandFits ps (root_phase ws) v x) e ok.errand in
    let before : (u : ℕ) → claim_share ps u v ≡ claims_on ps tier (suc claimed) u = λ u. ap (errand_claims ps u) e in
    let after : (u : ℕ) → claim_share ps u v' ≡ claims_on ps tier claimed u = λ u. opening_claims ps u tier claimed size Joined in
    let opened : is_being_opened w ≡ true = next_is_opened ps ws front back v tier claimed size Joined tally within e in
    let none : w.parties ≡ 0 = opened_parties w opened in
    let below : 0 < c = claimed_below ps ws (ancestor ps tier claimed) (front ++ v ∷ back) tally opened in
    let above : parent_of ps c < c = shape.earlier (ancestor ps tier claimed) below (subst
    (λ (k : ℕ). ancestor ps tier claimed < k) tally.long within) in
    let some : 0 < n = (added_range claimed size fit.0.some fit.0.few).0 in
    let shares : Settles ps (root_phase ws) (ancestor ps tier claimed) (added claimed size) v v' = record {
      below = below;
      above = above;
      some = some;
      parties = λ u. (
        (joined_share ps (root_phase ws) v tier (suc claimed) size e u).0,
        (settled_share ps (root_phase ws) v tier claimed size fit.1 u).0,
      );
      lates = λ u. (
        (joined_share ps (root_phase ws) v tier (suc claimed) size e u).1,
        (settled_share ps (root_phase ws) v tier claimed size fit.1 u).1,
      );
    } in
    let unlate : late (root_phase ws) w ≡ 0 = nothing_counted (root_phase ws) w none in
    let late_now : late (root_phase ws) w' ≡ n = settled_late (root_phase ws) w v.phase (added claimed size) fit.1.phase in
    let fresh : is_being_opened w' ≡ false = settled_not_opened w v.phase (added claimed size) some in
    let root_legal = tally.legal 0 tally.some in
    record {
      legal = settled_legal w v.phase (added claimed size) (subst (λ (k : ℕ). k ≤ 2147483647) (sym fit.1.phase) root_legal.phase) some
          (added_range claimed size fit.0.some fit.0.few).1;
      phase = λ z. absurd (omega arith);
      same_end = λ _. refl;
      ended_stays = λ z. absurd (omega arith);
      parties_here = λ _. let a = moves_here (party_share ps c v) (party_share ps c v') (parent_of ps c) c n (shares.parties c).0
          (shares.parties c).1 above in omega arith;
      parties_there = λ u h. moves_there ps (λ x. x.parties) w w' (party_share ps u v) (party_share ps u v') u c n (shares.parties u).0
          (shares.parties u).1 h below none some;
      late_here = λ _. let a = moves_here (late_share (root_phase ws) ps c v) (late_share (root_phase ws) ps c v') (parent_of ps c) c n
          (shares.lates c).0 (shares.lates c).1 above in omega arith;
      late_there = λ u h. moves_there ps (late (root_phase ws)) w w' (late_share (root_phase ws) ps u v)
          (late_share (root_phase ws) ps u v') u c n (shares.lates u).0 (shares.lates u).1 h below unlate (omega arith);
      claims_here =
          let a = before (ancestor ps tier claimed) in
          let b = after (ancestor ps tier claimed) in
          let d = highest_claimed ps tier claimed in
          let f : bit (is_being_opened w) ≡ 1 = ap bit opened in
          let g : bit (is_being_opened w') ≡ 0 = ap bit fresh in
          omega arith;
      claims_there = λ u h. after u ∙ sym (before u ∙ others_claimed ps tier claimed u h);
      root_claims = λ _. fresh;
      keeps_up = λ _. inl fit.1.phase;
      advances_here = λ z. absurd (omega arith);
      advances_there = λ _. opening_idle tier claimed size Joined ∙ sym (ap errand_advances e);
      view = record {
        within = ok.within;
        few = ok.few;
        placed = ok.placed;
        current = ok.current;
        seen = ok.seen;
        errand = lower_ok ps (root_phase ws) v' tier claimed size fit.0
            (record { phase = fit.1.phase; arrived = fit.1.arrived; place = fit.1.place; members = fit.1.members });
      };
    }

refreshed_late : (root : ℕ) (w : Fields) (phase : ℕ) → phase ≡ root → w.phase ≢ root → late root (refreshed w phase) ≡ late root w
refreshed_late root w phase e n = grind (arith, eq-eqb phase root e, ne_eqb w.phase root n)

-- Refresh: the word counts as before
pub refresh_fits : (ps : List ℕ) (ws : List Fields) (v : View) (vs : List View) (t : ℕ) (ended : Bool) → t < length ws → Tallies ps ws vs
    → CanRefresh t (word_at ws t) v → ViewFits ps (root_phase ws) ended v
    → StepFits ps (root_phase ws) ended t (word_at ws t) (refreshed (word_at ws t) v.phase) v v
refresh_fits ps ws v vs t ended within tally can ok =
    let w : Fields = word_at ws t in
    let current : v.phase ≡ root_phase ws = ⊎_elim
    (λ own. unarrived_is_current ps (root_phase ws) ended v ok own.2)
    (λ (climb : (k : Passage) × (v.errand ≡ Climbing t k)).
    (let fit : ErrandFits ps (root_phase ws) v (Climbing t climb.0) =
    subst (λ (x : Errand). ErrandFits ps (root_phase ws) v x) climb.1 ok.errand in fit.0))
    can.leave in
    let behind : w.phase ≢ root_phase ws = λ z. can.behind (z ∙ sym current) in
    let below : t ≢ 0 = λ z. behind (ap (λ k. (word_at ws k).phase) z) in
    let same : late (root_phase ws) (refreshed w v.phase) ≡ late (root_phase ws) w =
    refreshed_late (root_phase ws) w v.phase current behind in
    let legal = tally.legal t within in
    let root_legal = tally.legal 0 tally.some in
    let fresh : is_being_opened (refreshed w v.phase) ≡ false = open_not_opened (refreshed w v.phase) can.some in
    let was : is_being_opened w ≡ false = open_not_opened w can.some in
    record {
      legal = refreshed_legal w v.phase legal (subst (λ (k : ℕ). k ≤ 2147483647) (sym current) root_legal.phase) can.some;
      phase = λ z. absurd (below z);
      same_end = λ _. refl;
      ended_stays = λ z. absurd (below z);
      parties_here = λ _. refl;
      parties_there = λ _ _. refl;
      late_here = λ _. ap (λ k. k + late_share (root_phase ws) ps t v) same;
      late_there = λ u _. ap (λ k. late_share (root_phase ws) ps u v + linked ps u t (cond (eqb k 0) 0 1)) same;
      claims_here = ap (λ (x : Bool). bit x + claim_share ps t v) (fresh ∙ sym was);
      claims_there = λ _ _. refl;
      root_claims = λ _. fresh;
      keeps_up = λ _. inl current;
      advances_here = λ z. absurd (below z);
      advances_there = λ _. refl;
      view = ok;
    }
