-- Look and Force fit.
use Rattle.std.proofs.Common.{◌≡◌, ◌≢◌, ℕ, zero, suc, ◌+◌, ◌-◌, ◌<◌, ◌≤◌, inl, inr, ⊎_elim, Bool, true, false, cond, eqb, List, length, refl, sym, ◌∙◌, ap, subst, arith, Some, None, Option}
use Rattle.std.proofs.lemmas.Bool.{cases_eq, eq-eqb, ne_eqb}
use Rattle.tier_steps.specs.Word.{Fields, next_phase_of, is_being_opened, late, forced}
use Rattle.tier_steps.specs.View.{View, Errand, Rest, Opening, Climbing, Advancing, Arrival, Departure, Seeking, Joined, GoingBack, absent, only_at, errand_parties, errand_late, is_hidden, party_share, late_share, errand_claims, claim_share, errand_advances, advance_share}
use Rattle.tier_steps.specs.Tally.{word_at, root_phase, counted, ErrandFits, ViewFits, bit, is_zero, Tallies}
use Rattle.tier_steps.specs.Step.{dropped, moved, is_going_back, looked, given_up, noted, refused, forced_view}
use Rattle.tier_steps.proofs.Balance.{linked}
use Rattle.tier_steps.proofs.Keeping.{StepFits}
use Rattle.tier_steps.proofs.Pass.{only_elsewhere}

-- two views that count the same at each tier
pub record Alike (ps : List ℕ) (root : ℕ) (v v' : View) : Type 0 where
  pub parties : (u : ℕ) → party_share ps u v' ≡ party_share ps u v
  pub unarrived : (u : ℕ) → late_share root ps u v' ≡ late_share root ps u v
  pub claims : (u : ℕ) → claim_share ps u v' ≡ claim_share ps u v
  pub idle : advance_share v' ≡ advance_share v

-- the word stays, and the views count the same
pub alike_fits : (ps : List ℕ) (ws : List Fields) (vs : List View) (t : ℕ) (ended : Bool) (v v' : View) → t < length ws → Tallies ps ws vs
    → Alike ps (root_phase ws) v v' → ViewFits ps (root_phase ws) ended v'
    → StepFits ps (root_phase ws) ended t (word_at ws t) (word_at ws t) v v'
alike_fits ps ws vs t ended v v' within tally a ok = record {
  legal = tally.legal t within;
  phase = λ _. refl;
  same_end = λ _. refl;
  ended_stays = λ _ e. e;
  parties_here = λ _. ap (λ k. (word_at ws t).parties + k) (sym (a.parties t));
  parties_there = λ u _. ap (λ k. k + linked ps u t (counted (λ x. x.parties) (word_at ws t))) (a.parties u);
  late_here = λ _. ap (λ k. late (root_phase ws) (word_at ws t) + k) (sym (a.unarrived t));
  late_there = λ u _. ap (λ k. k + linked ps u t (counted (late (root_phase ws)) (word_at ws t))) (a.unarrived u);
  claims_here = ap (λ k. bit (is_being_opened (word_at ws t)) + k) (sym (a.claims t));
  claims_there = λ u _. a.claims u;
  root_claims = λ z. ap (λ k. is_being_opened (word_at ws k)) z ∙ tally.root_claims;
  keeps_up = tally.phases t within;
  advances_here = λ _ _. ap (λ k. is_zero (word_at ws t).unarrived + k) (sym a.idle);
  advances_there = λ _. a.idle;
  view = ok;
}

-- the errand counts the same, and so do the members
errand_alike : (ps : List ℕ) (root : ℕ) (v : View) (e : Errand) (mark : Option (ℕ × Fields)) → is_hidden e ≡ is_hidden v.errand
    → ((u : ℕ) → errand_parties ps e u ≡ errand_parties ps v.errand u) → ((u : ℕ) → errand_late ps e u ≡ errand_late ps v.errand u)
    → ((u : ℕ) → errand_claims ps u e ≡ errand_claims ps u v.errand) → errand_advances e ≡ errand_advances v.errand
    → Alike ps root v (record v { note = mark; errand = e })
errand_alike ps root v e mark h p l c a = record {
  parties = λ u. ap (λ b. cond b 0 (only_at v.tier v.size u) + errand_parties ps e u) h
      ∙ ap (λ k. cond (is_hidden v.errand) 0 (only_at v.tier v.size u) + k) (p u);
  unarrived = λ u. ap (λ b. cond b 0 (only_at v.tier (absent root v) u) + errand_late ps e u) h
      ∙ ap (λ k. cond (is_hidden v.errand) 0 (only_at v.tier (absent root v) u) + k) (l u);
  claims = c;
  idle = a;
}

refused_alike : (ps : List ℕ) (root : ℕ) (v : View) (mark : Option (ℕ × Fields)) (e : Errand) → v.errand ≡ e
    → Alike ps root v (record v { note = mark; errand = given_up e })
refused_alike ps root v mark Rest q = errand_alike ps root v Rest mark (ap is_hidden (sym q)) (λ u. ap (λ x. errand_parties ps x u)
    (sym q)) (λ u. ap (λ x. errand_late ps x u) (sym q)) (λ u. ap (errand_claims ps u) (sym q)) (ap errand_advances (sym q))
refused_alike ps root v mark Advancing q = errand_alike ps root v Advancing mark (ap is_hidden (sym q)) (λ u. ap
    (λ x. errand_parties ps x u) (sym q)) (λ u. ap (λ x. errand_late ps x u) (sym q)) (λ u. ap (errand_claims ps u) (sym q))
    (ap errand_advances (sym q))
refused_alike ps root v mark (Climbing t k) q =
    errand_alike ps root v (Climbing t k) mark (ap is_hidden (sym q)) (λ u. ap (λ x. errand_parties ps x u) (sym q))
    (λ u. ap (λ x. errand_late ps x u) (sym q)) (λ u. ap (errand_claims ps u) (sym q)) (ap errand_advances (sym q))
refused_alike ps root v mark (Opening tier claimed Seeking size) q =
    errand_alike ps root v (Opening tier claimed GoingBack size) mark (ap is_hidden (sym q)) (λ u. ap (λ x. errand_parties ps x u) (sym q))
    (λ u. ap (λ x. errand_late ps x u) (sym q)) (λ u. ap (errand_claims ps u) (sym q)) (ap errand_advances (sym q))
refused_alike ps root v mark (Opening tier claimed Joined size) q =
    errand_alike ps root v (Opening tier claimed Joined size) mark (ap is_hidden (sym q)) (λ u. ap (λ x. errand_parties ps x u) (sym q))
    (λ u. ap (λ x. errand_late ps x u) (sym q)) (λ u. ap (errand_claims ps u) (sym q)) (ap errand_advances (sym q))
refused_alike ps root v mark (Opening tier claimed GoingBack size) q =
    errand_alike ps root v (Opening tier claimed GoingBack size) mark (ap is_hidden (sym q)) (λ u. ap (λ x. errand_parties ps x u) (sym q))
    (λ u. ap (λ x. errand_late ps x u) (sym q)) (λ u. ap (errand_claims ps u) (sym q)) (ap errand_advances (sym q))

given_up_ok : (ps : List ℕ) (root : ℕ) (v v' : View) (e : Errand) → v'.size ≡ v.size → v'.phase ≡ v.phase → v'.arrived ≡ v.arrived
    → v'.tier ≡ v.tier → ErrandFits ps root v e → ErrandFits ps root v' (given_up e)
given_up_ok ps root v v' Rest a b c d ok = tt
given_up_ok ps root v v' Advancing a b c d ok = b ∙ ok
given_up_ok ps root v v' (Climbing t k) a b c d ok = (b ∙ ok.0, ok.1)
given_up_ok ps root v v' (Opening tier claimed Seeking size) a b c d ok = (ok.0, a ∙ ok.1)
given_up_ok ps root v v' (Opening tier claimed GoingBack size) a b c d ok = (ok.0, a ∙ ok.1)
given_up_ok ps root v v' (Opening tier claimed Joined size) a b c d ok =
    (ok.0, record { phase = b ∙ ok.1.phase; arrived = c ∙ ok.1.arrived; place = d ∙ ok.1.place; members = a ∙ ok.1.members })

-- A look below the root that notes a refusal
pub note_fits : (ps : List ℕ) (ws : List Fields) (vs : List View) (t : ℕ) (ended : Bool) (v : View) → t < length ws → Tallies ps ws vs
    → ViewFits ps (root_phase ws) ended v
    → StepFits ps (root_phase ws) ended t (word_at ws t) (word_at ws t) v (noted t (word_at ws t) v)
note_fits ps ws vs t ended v within tally ok =
    alike_fits ps ws vs t ended v (noted t (word_at ws t) v) within tally
    (refused_alike ps (root_phase ws) v (Some (t, word_at ws t)) v.errand refl)
    (record {
      within = ok.within;
      few = ok.few;
      placed = ok.placed;
      current = ok.current;
      seen = ok.seen;
      errand = given_up_ok ps (root_phase ws) v (noted t (word_at ws t) v) v.errand refl refl refl refl ok.errand;
    })

some_is : (p q : ℕ) → Some q ≡ Some p → p ≡ q
some_is p q e = cc

-- what is left of an errand doesn't depend on what a token has seen
forced_ok : (ps : List ℕ) (root : ℕ) (v : View) (w : Fields) (e : Errand) → ErrandFits ps root v e → ErrandFits ps root (forced_view w v) e
forced_ok ps root v w Rest ok = tt
forced_ok ps root v w Advancing ok = ok
forced_ok ps root v w (Climbing t k) ok = ok
forced_ok ps root v w (Opening tier claimed Seeking size) ok = ok
forced_ok ps root v w (Opening tier claimed GoingBack size) ok = ok
forced_ok ps root v w (Opening tier claimed Joined size) ok =
    (ok.0, record { phase = ok.1.phase; arrived = ok.1.arrived; place = ok.1.place; members = ok.1.members })

-- Force
pub force_fits : (ps : List ℕ) (ws : List Fields) (vs : List View) (v : View) → Tallies ps ws vs → ViewFits ps (root_phase ws) true v
    → StepFits ps (root_phase ws) true 0 (word_at ws 0) (forced (word_at ws 0)) v (forced_view (word_at ws 0) v)
force_fits ps ws vs v tally ok =
    let legal = tally.legal 0 tally.some in
    record {
      legal = record { phase = legal.phase; parties = legal.parties; unarrived = legal.unarrived };
      phase = λ _. refl;
      same_end = λ h. absurd (omega arith);
      ended_stays = λ _ _. refl;
      parties_here = λ going. absurd (let a : true ≡ false = going refl in cc);
      parties_there = λ _ _. refl;
      late_here = λ going. absurd (let a : true ≡ false = going refl in cc);
      late_there = λ _ _. refl;
      claims_here = refl;
      claims_there = λ _ _. refl;
      root_claims = λ _. tally.root_claims;
      keeps_up = λ _. inl refl;
      advances_here = λ _ e. absurd (let a : true ≡ false = e in cc);
      advances_there = λ _. refl;
      view = record {
        within = ok.within;
        few = ok.few;
        placed = ok.placed;
        current = ok.current;
        seen = λ p e. (refl, some_is p (root_phase ws) e);
        errand = forced_ok ps (root_phase ws) v (word_at ws 0) v.errand ok.errand;
      };
    }

-- a token moves only if all its members have arrived and its phase isn't the root's
pub move_keeps : (P : View → Type 0) (w : Fields) (v : View) → P v
    → (v.arrived ≡ v.size → v.phase ≢ w.phase → P (record v { phase = w.phase; arrived = 0 })) → P (moved w v)
move_keeps P w v stays moves = ⊎_elim
    (λ (a : v.arrived ≡ v.size). ⊎_elim
    (λ (b : v.phase ≡ w.phase). subst P (sym
    (ap (λ x. cond x (cond (eqb v.phase w.phase) v (record v { phase = w.phase; arrived = 0 })) v) (eq-eqb v.arrived v.size a)
    ∙ ap (λ x. cond x v (record v { phase = w.phase; arrived = 0 })) (eq-eqb v.phase w.phase b))) stays)
    (λ (b : v.phase ≢ w.phase). subst P (sym
    (ap (λ x. cond x (cond (eqb v.phase w.phase) v (record v { phase = w.phase; arrived = 0 })) v) (eq-eqb v.arrived v.size a)
    ∙ ap (λ x. cond x v (record v { phase = w.phase; arrived = 0 })) (ne_eqb v.phase w.phase b))) (moves a b))
    (cases_eq v.phase w.phase))
    (λ (a : v.arrived ≢ v.size). subst P (sym
    (ap (λ x. cond x (cond (eqb v.phase w.phase) v (record v { phase = w.phase; arrived = 0 })) v) (ne_eqb v.arrived v.size a))) stays)
    (cases_eq v.arrived v.size)

absent_moved : (root : ℕ) (v : View) → v.phase ≢ root → absent root (record v { phase = root; arrived = 0 }) ≡ absent root v
absent_moved root v n = ap (λ b. cond b (v.size - 0) v.size) (eq-eqb root root refl)
    ∙ (let a : absent root v ≡ v.size = ap (λ b. cond b (v.size - v.arrived) v.size) (ne_eqb v.phase root n) in omega arith)

-- the shares of a token that looked at a root that goes on
moved_alike : (ps : List ℕ) (w : Fields) (v : View) → ViewFits ps w.phase w.ended v → Alike ps w.phase v (moved w v)
moved_alike ps w v ok = record {
  parties = λ u. move_keeps (λ x. party_share ps u x ≡ party_share ps u v) w v refl (λ _ _. refl);
  unarrived = λ u. move_keeps (λ x. late_share w.phase ps u x ≡ late_share w.phase ps u v) w v refl
      (λ a b. ap (λ k. cond (is_hidden v.errand) 0 (only_at v.tier k u) + errand_late ps v.errand u) (absent_moved w.phase v b));
  claims = λ u. move_keeps (λ x. claim_share ps u x ≡ claim_share ps u v) w v refl (λ _ _. refl);
  idle = move_keeps (λ x. advance_share x ≡ advance_share v) w v refl (λ _ _. refl);
}

-- the errand of a token in an earlier phase fits any phase
behind_ok : (ps : List ℕ) (w : Fields) (v : View) (e : Errand) → v.phase ≢ w.phase → ErrandFits ps w.phase v e
    → ErrandFits ps w.phase (record v { phase = w.phase; arrived = 0 }) e
behind_ok ps w v Rest n ok = tt
behind_ok ps w v Advancing n ok = absurd (n ok)
behind_ok ps w v (Climbing t k) n ok = absurd (n ok.0)
behind_ok ps w v (Opening tier claimed Seeking size) n ok = ok
behind_ok ps w v (Opening tier claimed GoingBack size) n ok = ok
behind_ok ps w v (Opening tier claimed Joined size) n ok = absurd (n ok.1.phase)

pub moved_ok : (ps : List ℕ) (w : Fields) (v : View) → ViewFits ps w.phase w.ended v → ViewFits ps w.phase w.ended (moved w v)
moved_ok ps w v ok = move_keeps (ViewFits ps w.phase w.ended) w v ok
    (λ a b. record {
      within = omega arith;
      few = ok.few;
      placed = ok.placed;
      current = λ _. inl refl;
      seen = ok.seen;
      errand = behind_ok ps w v v.errand b ok.errand;
    })

-- below the root a token that drops its errand counts the same
dropped_shares : (ps : List ℕ) (root : ℕ) (v : View) (e : Errand) (u : ℕ) → u ≢ 0
    → (is_hidden (dropped e) ≡ is_hidden e) × (errand_parties ps (dropped e) u ≡ errand_parties ps e u) ×
    (errand_late ps (dropped e) u ≡ errand_late ps e u) × (errand_claims ps u (dropped e) ≡ errand_claims ps u e)
dropped_shares ps root v Rest u n = (refl, refl, refl, refl)
dropped_shares ps root v Advancing u n = (refl, refl, refl, refl)
dropped_shares ps root v (Climbing zero Arrival) u n = (refl, refl, sym (only_elsewhere 0 1 u n), refl)
dropped_shares ps root v (Climbing zero Departure) u n = (refl, sym (only_elsewhere 0 1 u n), sym (only_elsewhere 0 1 u n), refl)
dropped_shares ps root v (Climbing (suc t) k) u n = (refl, refl, refl, refl)
dropped_shares ps root v (Opening tier claimed Seeking size) u n = (refl, refl, refl, refl)
dropped_shares ps root v (Opening tier claimed Joined size) u n = (refl, refl, refl, refl)
dropped_shares ps root v (Opening tier claimed GoingBack size) u n = (refl, refl, refl, refl)

dropped_claims : (ps : List ℕ) (u : ℕ) (e : Errand) → errand_claims ps u (dropped e) ≡ errand_claims ps u e
dropped_claims ps u Rest = refl
dropped_claims ps u Advancing = refl
dropped_claims ps u (Climbing zero k) = refl
dropped_claims ps u (Climbing (suc t) k) = refl
dropped_claims ps u (Opening tier claimed Seeking size) = refl
dropped_claims ps u (Opening tier claimed Joined size) = refl
dropped_claims ps u (Opening tier claimed GoingBack size) = refl

dropped_ok : (ps : List ℕ) (root : ℕ) (v v' : View) (e : Errand) → v'.size ≡ v.size → v'.phase ≡ v.phase → v'.arrived ≡ v.arrived
    → v'.tier ≡ v.tier → ErrandFits ps root v e → ErrandFits ps root v' (dropped e)
dropped_ok ps root v v' Rest a b c d ok = tt
dropped_ok ps root v v' Advancing a b c d ok = tt
dropped_ok ps root v v' (Climbing zero k) a b c d ok = tt
dropped_ok ps root v v' (Climbing (suc t) k) a b c d ok = (b ∙ ok.0, ok.1)
dropped_ok ps root v v' (Opening tier claimed Seeking size) a b c d ok = (ok.0, a ∙ ok.1)
dropped_ok ps root v v' (Opening tier claimed GoingBack size) a b c d ok = (ok.0, a ∙ ok.1)
dropped_ok ps root v v' (Opening tier claimed Joined size) a b c d ok =
    (ok.0, record { phase = b ∙ ok.1.phase; arrived = c ∙ ok.1.arrived; place = d ∙ ok.1.place; members = a ∙ ok.1.members })

-- A Look at a root that has ended
look_ended_fits : (ps : List ℕ) (ws : List Fields) (vs : List View) (v v' : View) → Tallies ps ws vs → (word_at ws 0).ended ≡ true
    → ViewFits ps (root_phase ws) true v
    → v'.tier ≡ v.tier → v'.size ≡ v.size → v'.phase ≡ v.phase → v'.arrived ≡ v.arrived → v'.end_seen ≡ Some (root_phase ws)
    → v'.errand ≡ dropped v.errand
    → StepFits ps (root_phase ws) true 0 (word_at ws 0) (word_at ws 0) v v'
look_ended_fits ps ws vs v v' tally e ok same_tier same_size same_phase same_arrived same_end same_errand =
    let absent_same : absent (root_phase ws) v' ≡ absent (root_phase ws) v =
    ap (λ k. cond (eqb k (root_phase ws)) (v'.size - v'.arrived) v'.size) same_phase
    ∙ (ap (λ k. cond (eqb v.phase (root_phase ws)) (k - v'.arrived) k) same_size
    ∙ ap (λ k. cond (eqb v.phase (root_phase ws)) (v.size - k) v.size) same_arrived) in
    record {
      legal = tally.legal 0 tally.some;
      phase = λ _. refl;
      same_end = λ _. refl;
      ended_stays = λ _ z. z;
      parties_here = λ going. absurd (let a : false ≡ true = sym (going refl) ∙ e in cc);
      parties_there = λ u n.
          let d = dropped_shares ps (root_phase ws) v v.errand u n in
          let a : party_share ps u v'
          ≡ cond (is_hidden (dropped v.errand)) 0 (only_at v.tier v.size u) + errand_parties ps (dropped v.errand) u =
          ap (λ x. cond (is_hidden x) 0 (only_at v'.tier v'.size u) + errand_parties ps x u) same_errand
          ∙ (ap (λ k. cond (is_hidden (dropped v.errand)) 0 (only_at k v'.size u) + errand_parties ps (dropped v.errand) u) same_tier
          ∙ ap (λ k. cond (is_hidden (dropped v.errand)) 0 (only_at v.tier k u) + errand_parties ps (dropped v.errand) u) same_size) in
          let b : party_share ps u v' ≡ party_share ps u v = a
          ∙ (ap (λ x. cond x 0 (only_at v.tier v.size u) + errand_parties ps (dropped v.errand) u) d.0
          ∙ ap (λ k. cond (is_hidden v.errand) 0 (only_at v.tier v.size u) + k) d.1) in
          ap (λ k. k + 0) b;
      late_here = λ going. absurd (let a : false ≡ true = sym (going refl) ∙ e in cc);
      late_there = λ u n.
          let d = dropped_shares ps (root_phase ws) v v.errand u n in
          let a : late_share (root_phase ws) ps u v' ≡ cond (is_hidden (dropped v.errand)) 0
          (only_at v.tier (absent (root_phase ws) v) u) + errand_late ps (dropped v.errand) u =
          ap (λ x. cond (is_hidden x) 0 (only_at v'.tier (absent (root_phase ws) v') u) + errand_late ps x u) same_errand
          ∙ (ap (λ k. cond (is_hidden (dropped v.errand)) 0 (only_at k (absent (root_phase ws) v') u) + errand_late ps (dropped v.errand) u) same_tier
          ∙ ap (λ k. cond (is_hidden (dropped v.errand)) 0 (only_at v.tier k u) + errand_late ps (dropped v.errand) u) absent_same) in
          let b : late_share (root_phase ws) ps u v' ≡ late_share (root_phase ws) ps u v = a
          ∙ (ap (λ x. cond x 0 (only_at v.tier (absent (root_phase ws) v) u) + errand_late ps (dropped v.errand) u) d.0
          ∙ ap (λ k. cond (is_hidden v.errand) 0 (only_at v.tier (absent (root_phase ws) v) u) + k) d.2) in
          ap (λ k. k + 0) b;
      claims_here =
          ap (λ k. bit (is_being_opened (word_at ws 0)) + k) (sym (ap (errand_claims ps 0) same_errand ∙ dropped_claims ps 0 v.errand));
      claims_there = λ u n. ap (errand_claims ps u) same_errand ∙ dropped_claims ps u v.errand;
      root_claims = λ _. tally.root_claims;
      keeps_up = λ _. inl refl;
      advances_here = λ _ z. absurd (let a : false ≡ true = sym z ∙ e in cc);
      advances_there = λ n. absurd (n refl);
      view = record {
        within = subst (λ (k : ℕ). k ≤ v'.size) (sym same_arrived) (subst (λ (k : ℕ). v.arrived ≤ k) (sym same_size) ok.within);
        few = subst (λ (k : ℕ). k ≤ 65535) (sym same_size) ok.few;
        placed = λ h. subst (λ (k : ℕ). k < length ps) (sym same_tier) (ok.placed (subst (λ (k : ℕ). 0 < k) same_size h));
        current = λ h. ⊎_elim (λ c. inl (same_phase ∙ c))
            (λ c. inr (ap next_phase_of same_phase ∙ c.0, same_arrived ∙ (c.1 ∙ sym same_size)))
            (ok.current (subst (λ (k : ℕ). 0 < k) same_size h));
        seen = λ p q. (refl, some_is p (root_phase ws) (sym same_end ∙ q));
        errand = subst (λ (x : Errand). ErrandFits ps (root_phase ws) v' x) (sym same_errand)
            (dropped_ok ps (root_phase ws) v v' v.errand same_size same_phase same_arrived same_tier ok.errand);
      };
    }

-- what a Look clears counts nowhere
cleared_alike : (ps : List ℕ) (root : ℕ) (v : View) (mark : Option (ℕ × Fields)) → Alike ps root v (record v { led = false; note = mark })
cleared_alike ps root v mark = record { parties = λ _. refl; unarrived = λ _. refl; claims = λ _. refl; idle = refl }

alike_trans : (ps : List ℕ) (root : ℕ) (a b c : View) → Alike ps root a b → Alike ps root b c → Alike ps root a c
alike_trans ps root a b c x y = record {
  parties = λ u. y.parties u ∙ x.parties u;
  unarrived = λ u. y.unarrived u ∙ x.unarrived u;
  claims = λ u. y.claims u ∙ x.claims u;
  idle = y.idle ∙ x.idle;
}

cleared_errand : (ps : List ℕ) (root : ℕ) (v : View) (mark : Option (ℕ × Fields)) (e : Errand) → ErrandFits ps root v e
    → ErrandFits ps root (record v { led = false; note = mark }) e
cleared_errand ps root v mark Rest ok = tt
cleared_errand ps root v mark Advancing ok = ok
cleared_errand ps root v mark (Climbing t k) ok = ok
cleared_errand ps root v mark (Opening tier claimed Seeking size) ok = ok
cleared_errand ps root v mark (Opening tier claimed GoingBack size) ok = ok
cleared_errand ps root v mark (Opening tier claimed Joined size) ok =
    (ok.0, record { phase = ok.1.phase; arrived = ok.1.arrived; place = ok.1.place; members = ok.1.members })

pub cleared_ok : (ps : List ℕ) (root : ℕ) (ended : Bool) (v : View) (mark : Option (ℕ × Fields)) → ViewFits ps root ended v
    → ViewFits ps root ended (record v { led = false; note = mark })
cleared_ok ps root ended v mark ok = record {
  within = ok.within;
  few = ok.few;
  placed = ok.placed;
  current = ok.current;
  seen = ok.seen;
  errand = cleared_errand ps root v mark v.errand ok.errand;
}

look_either : (ps : List ℕ) (ws : List Fields) (vs : List View) (v : View) (b : Bool) (mark : Option (ℕ × Fields))
    → Tallies ps ws vs → (word_at ws 0).ended ≡ b → ViewFits ps (root_phase ws) b v
    → StepFits ps (root_phase ws) b 0 (word_at ws 0) (word_at ws 0) v
    (cond b (record v { led = false; note = mark; end_seen = Some (root_phase ws); errand = dropped v.errand })
    (moved (word_at ws 0) (record v { led = false; note = mark })))
look_either ps ws vs v true mark tally e ok =
    look_ended_fits ps ws vs v (record v {
      led = false;
      note = mark;
      end_seen = Some (root_phase ws);
      errand = dropped v.errand;
    }) tally e ok refl refl refl refl refl refl
look_either ps ws vs v false mark tally e ok =
    let u : View = record v { led = false; note = mark } in
    let fit : ViewFits ps (root_phase ws) (word_at ws 0).ended u =
    subst (λ (x : Bool). ViewFits ps (root_phase ws) x u) (sym e) (cleared_ok ps (root_phase ws) false v mark ok) in
    subst (λ (x : Bool). StepFits ps (root_phase ws) x 0 (word_at ws 0) (word_at ws 0) v (moved (word_at ws 0) u)) e
    (alike_fits ps ws vs 0 (word_at ws 0).ended v (moved (word_at ws 0) u) tally.some tally
    (alike_trans ps (root_phase ws) v u (moved (word_at ws 0) u) (cleared_alike ps (root_phase ws) v mark) (moved_alike ps (word_at ws 0) u fit))
    (moved_ok ps (word_at ws 0) u fit))

-- Look
pub look_fits : (ps : List ℕ) (ws : List Fields) (vs : List View) (v : View) → Tallies ps ws vs
    → ViewFits ps (root_phase ws) (word_at ws 0).ended v
    → StepFits ps (root_phase ws) (word_at ws 0).ended 0 (word_at ws 0) (word_at ws 0) v (looked (word_at ws 0) v)
look_fits ps ws vs v tally ok = look_either ps ws vs v (word_at ws 0).ended (cond (is_going_back v.errand) v.note None) tally refl ok

-- a look that changes nothing
pub glance_fits : (ps : List ℕ) (ws : List Fields) (vs : List View) (t : ℕ) (ended : Bool) (v : View) → t < length ws → Tallies ps ws vs
    → ViewFits ps (root_phase ws) ended v → StepFits ps (root_phase ws) ended t (word_at ws t) (word_at ws t) v v
glance_fits ps ws vs t ended v within tally ok =
    alike_fits ps ws vs t ended v v within tally (record { parties = λ _. refl; unarrived = λ _. refl; claims = λ _. refl; idle = refl }) ok

-- a token that looked at a root that goes on
pub looked_on : (ps : List ℕ) (w : Fields) (v : View) → w.ended ≡ false → ViewFits ps w.phase w.ended v
    → Alike ps w.phase v (looked w v) × ViewFits ps w.phase w.ended (looked w v)
looked_on ps w v going ok =
    let mark : Option (ℕ × Fields) = cond (is_going_back v.errand) v.note None in
    let u : View = record v { led = false; note = mark } in
    let fit : ViewFits ps w.phase w.ended u = cleared_ok ps w.phase w.ended v mark ok in
    subst (λ (x : View). Alike ps w.phase v x × ViewFits ps w.phase w.ended x)
    (sym (ap (λ b. cond b (record u { end_seen = Some w.phase; errand = dropped v.errand }) (moved w u)) going))
    (alike_trans ps w.phase v u (moved w u) (cleared_alike ps w.phase v mark) (moved_alike ps w u fit), moved_ok ps w u fit)

noted_ok : (ps : List ℕ) (root : ℕ) (ended : Bool) (t : ℕ) (w : Fields) (v : View) → ViewFits ps root ended v
    → ViewFits ps root ended (noted t w v)
noted_ok ps root ended t w v ok = record {
  within = ok.within;
  few = ok.few;
  placed = ok.placed;
  current = ok.current;
  seen = ok.seen;
  errand = given_up_ok ps root v (noted t w v) v.errand refl refl refl refl ok.errand;
}

-- A look that notes a refusal
pub refuse_fits : (ps : List ℕ) (ws : List Fields) (vs : List View) (t : ℕ) (v : View) → t < length ws → Tallies ps ws vs
    → (word_at ws t).ended ≡ false → ViewFits ps (root_phase ws) (word_at ws 0).ended v
    → StepFits ps (root_phase ws) (word_at ws 0).ended t (word_at ws t) (word_at ws t) v (refused t (word_at ws t) v)
refuse_fits ps ws vs zero v within tally going ok =
    let w : Fields = word_at ws 0 in
    let u : View = looked (word_at ws 0) v in
    let a = looked_on ps (word_at ws 0) v going ok in
    alike_fits ps ws vs 0 (word_at ws 0).ended v (noted 0 w u) within tally
    (alike_trans ps (root_phase ws) v u (noted 0 w u) a.0 (refused_alike ps (root_phase ws) u (Some (0, w)) u.errand refl))
    (noted_ok ps (root_phase ws) (word_at ws 0).ended 0 w u a.1)
refuse_fits ps ws vs (suc t) v within tally going ok = note_fits ps ws vs (suc t) (word_at ws 0).ended v within tally ok
