-- Counting the members of a flat phaser.
use Rattle.std.proofs.Common.{◌≡◌, ℕ, suc, ◌+◌, ◌-◌, ◌*◌, ◌<◌, ◌≤◌, ⊎_elim, Bool, true, false, cond, eqb, List, [], ◌∷◌, ◌++◌, length, refl, ◌∙◌, ap, arith, Some, None}
use Rattle.std.specs.Prelude.{count_by, replicate, ◌&&◌, not}
use Rattle.std.proofs.lemmas.Bool.{eq-eqb, eqb-true}
use Rattle.tier_steps.specs.View.{View}
use Rattle.flat_phaser.specs.declared.Member.{Member}
use Rattle.flat_phaser.specs.Flat.{has_arrived, is_owned, members_of, arrived_of}
use Rattle.flat_phaser.specs.Step.{mark_one, drop_one}
use Rattle.flat_phaser.proofs.Counts.{count_cons, count_append, count_replicate, bit_and_true, bit_and_false, times_bit}
use Rattle.flat_phaser.proofs.Everyone.{either, both_true}
use Rattle.tier_steps.specs.Image.{token_members, all_members}

not_yes : (b : Bool) → not b ≡ true → b ≡ false
not_yes true e = absurd (let f : false ≡ true = e in cc)
not_yes false e = refl

not_waiting : (a b : Bool) → a && not b ≡ false → cond {A = ℕ} (a && b) 1 0 ≡ cond {A = ℕ} a 1 0
not_waiting true true e = refl
not_waiting true false e = absurd (let f : true ≡ false = e in cc)
not_waiting false b e = refl

times_both : (n : ℕ) (a b : Bool) → n * cond {A = ℕ} (a && b) 1 0 ≡ cond {A = ℕ} a (cond {A = ℕ} b n 0) 0
times_both n true b = times_bit n b
times_both n false b = omega arith

split_bit : (b : Bool) (m n : ℕ) → cond {A = ℕ} b (m + n) 0 ≡ cond {A = ℕ} b m 0 + cond {A = ℕ} b n 0
split_bit true m n = refl
split_bit false m n = refl

-- after one member of o has arrived
pub mark_members : (o p u : ℕ) (ms : List Member) → members_of u (mark_one o p ms) ≡ members_of u ms
mark_members o p u [] = refl
mark_members o p u (m ∷ ms) =
    elim (is_owned o m && not (has_arrived p m)) as
    (λ b. members_of u (cond b (record m { mark = Some p } ∷ ms) (m ∷ mark_one o p ms)) ≡ members_of u (m ∷ ms)) [
      | true ↦ (let a = count_cons (is_owned u) m ms in let b = count_cons (is_owned u) (record m { mark = Some p }) ms in omega arith)
      | false ↦ (let a = count_cons (is_owned u) m ms in let b = count_cons (is_owned u) m (mark_one o p ms) in
          let c = mark_members o p u ms in omega arith)
    ]

-- whether a member would be the one that a step takes
pub waits_for : (o p : ℕ) (m : Member) → (is_owned o m && not (has_arrived p m) ≡ true) → (m.owner ≡ o) × (has_arrived p m ≡ false)
waits_for o p m h = let both = both_true (is_owned o m) (not (has_arrived p m)) h in
    (eqb-true m.owner o both.0, not_yes (has_arrived p m) both.1)

pub mark_arrived : (o p u : ℕ) (ms : List Member) → arrived_of p o ms < members_of o ms
    → arrived_of p u (mark_one o p ms) ≡ arrived_of p u ms + cond {A = ℕ} (eqb o u) 1 0
mark_arrived o p u [] h = absurd (omega arith)
mark_arrived o p u (m ∷ ms) h = ⊎_elim
    (λ (here : is_owned o m && not (has_arrived p m) ≡ true).
    let w = waits_for o p m here in
    let n : Member = record m { mark = Some p } in
    let a = count_cons (λ x. is_owned u x && has_arrived p x) m ms in
    let b = count_cons (λ x. is_owned u x && has_arrived p x) n ms in
    let c = bit_and_false (is_owned u m) (has_arrived p m) w.1 in
    let d = bit_and_true (is_owned u n) (has_arrived p n) (eq-eqb p p refl) in
    let e : cond {A = ℕ} (is_owned u n) 1 0 ≡ cond {A = ℕ} (eqb o u) 1 0 = ap (λ k. cond {A = ℕ} (eqb k u) 1 0) w.0 in
    ap (arrived_of p u) (ap (λ b. cond b (n ∷ ms) (m ∷ mark_one o p ms)) here) ∙ omega arith)
    (λ (past : is_owned o m && not (has_arrived p m) ≡ false).
    let a = count_cons (λ x. is_owned u x && has_arrived p x) m ms in
    let b = count_cons (λ x. is_owned u x && has_arrived p x) m (mark_one o p ms) in
    let s = count_cons (λ x. is_owned o x && has_arrived p x) m ms in let t = count_cons (is_owned o) m ms in
    let w = not_waiting (is_owned o m) (has_arrived p m) past in
    let c = mark_arrived o p u ms (omega arith) in
    ap (arrived_of p u) (ap (λ b. cond b (record m { mark = Some p } ∷ ms) (m ∷ mark_one o p ms)) past) ∙ omega arith)
    (either (is_owned o m && not (has_arrived p m)))

pub drop_members : (o p u : ℕ) (ms : List Member) → arrived_of p o ms < members_of o ms
    → members_of u (drop_one o p ms) + cond {A = ℕ} (eqb o u) 1 0 ≡ members_of u ms
drop_members o p u [] h = absurd (omega arith)
drop_members o p u (m ∷ ms) h = ⊎_elim
    (λ (here : is_owned o m && not (has_arrived p m) ≡ true).
    let w = waits_for o p m here in
    let a = count_cons (is_owned u) m ms in
    let e : cond {A = ℕ} (is_owned u m) 1 0 ≡ cond {A = ℕ} (eqb o u) 1 0 = ap (λ k. cond {A = ℕ} (eqb k u) 1 0) w.0 in
    ap (λ (x : List Member). members_of u x + cond {A = ℕ} (eqb o u) 1 0) (ap (λ b. cond b ms (m ∷ drop_one o p ms)) here) ∙ omega arith)
    (λ (past : is_owned o m && not (has_arrived p m) ≡ false).
    let a = count_cons (is_owned u) m ms in let b = count_cons (is_owned u) m (drop_one o p ms) in
    let s = count_cons (λ x. is_owned o x && has_arrived p x) m ms in let t = count_cons (is_owned o) m ms in
    let w = not_waiting (is_owned o m) (has_arrived p m) past in
    let c = drop_members o p u ms (omega arith) in
    ap (λ (x : List Member). members_of u x + cond {A = ℕ} (eqb o u) 1 0) (ap (λ b. cond b ms (m ∷ drop_one o p ms)) past) ∙ omega arith)
    (either (is_owned o m && not (has_arrived p m)))

pub drop_arrived : (o p u : ℕ) (ms : List Member) → arrived_of p u (drop_one o p ms) ≡ arrived_of p u ms
drop_arrived o p u [] = refl
drop_arrived o p u (m ∷ ms) = ⊎_elim
    (λ (here : is_owned o m && not (has_arrived p m) ≡ true).
    let w = waits_for o p m here in
    let a = count_cons (λ x. is_owned u x && has_arrived p x) m ms in
    let c = bit_and_false (is_owned u m) (has_arrived p m) w.1 in
    ap (arrived_of p u) (ap (λ b. cond b ms (m ∷ drop_one o p ms)) here) ∙ omega arith)
    (λ (past : is_owned o m && not (has_arrived p m) ≡ false).
    let a = count_cons (λ x. is_owned u x && has_arrived p x) m ms in
    let b = count_cons (λ x. is_owned u x && has_arrived p x) m (drop_one o p ms) in
    let c = drop_arrived o p u ms in
    ap (arrived_of p u) (ap (λ b. cond b ms (m ∷ drop_one o p ms)) past) ∙ omega arith)
    (either (is_owned o m && not (has_arrived p m)))

-- the members of one token
pub token_counts : (u o : ℕ) (v : View) → v.arrived ≤ v.size → members_of u (token_members o v) ≡ cond {A = ℕ} (eqb o u) v.size 0
token_counts u o v h =
    let a = count_append (is_owned u) (replicate v.arrived (record { owner = o; mark = Some v.phase }))
    (replicate (v.size - v.arrived) (record { owner = o; mark = None })) in
    let b = count_replicate (is_owned u) v.arrived (record { owner = o; mark = Some v.phase }) in
    let c = count_replicate (is_owned u) (v.size - v.arrived) (record { owner = o; mark = None }) in
    let d = times_bit v.arrived (eqb o u) in let e = times_bit (v.size - v.arrived) (eqb o u) in
    let f = split_bit (eqb o u) v.arrived (v.size - v.arrived) in
    let g : cond {A = ℕ} (eqb o u) (v.arrived + (v.size - v.arrived)) 0 ≡ cond {A = ℕ} (eqb o u) v.size 0 =
    ap (λ k. cond {A = ℕ} (eqb o u) k 0) (omega arith) in
    omega arith

pub token_arrived : (p u o : ℕ) (v : View)
    → arrived_of p u (token_members o v) ≡ cond {A = ℕ} (eqb o u) (cond {A = ℕ} (eqb v.phase p) v.arrived 0) 0
token_arrived p u o v =
    let a = count_append (λ x. is_owned u x && has_arrived p x) (replicate v.arrived (record { owner = o; mark = Some v.phase }))
    (replicate (v.size - v.arrived) (record { owner = o; mark = None })) in
    let b = count_replicate (λ x. is_owned u x && has_arrived p x) v.arrived (record { owner = o; mark = Some v.phase }) in
    let c = count_replicate (λ x. is_owned u x && has_arrived p x) (v.size - v.arrived) (record { owner = o; mark = None }) in
    let d = bit_and_false (eqb o u) false refl in let e = ap (λ k. (v.size - v.arrived) * k) d in
    let f = times_both v.arrived (eqb o u) (eqb v.phase p) in omega arith

-- one token changes
pub count_changes : (q : Member → Bool) (o : ℕ) (front back : List View) (v v' : View)
    → count_by q (all_members o (front ++ v' ∷ back)) + count_by q (token_members (o + length front) v) ≡ count_by q
    (all_members o (front ++ v ∷ back)) + count_by q (token_members (o + length front) v')
count_changes q o [] back v v' =
    let a = count_append q (token_members o v) (all_members (suc o) back) in
    let b = count_append q (token_members o v') (all_members (suc o) back) in
    let c : count_by q (token_members (o + 0) v) ≡ count_by q (token_members o v) =
    ap (λ k. count_by q (token_members k v)) (omega arith) in
    let d : count_by q (token_members (o + 0) v') ≡ count_by q (token_members o v') =
    ap (λ k. count_by q (token_members k v')) (omega arith) in
    omega arith
count_changes q o (x ∷ front) back v v' =
    let a = count_append q (token_members o x) (all_members (suc o) (front ++ v ∷ back)) in
    let b = count_append q (token_members o x) (all_members (suc o) (front ++ v' ∷ back)) in
    let e = count_changes q (suc o) front back v v' in
    let c : count_by q (token_members (o + length (x ∷ front)) v) ≡ count_by q (token_members (suc o + length front) v) =
    ap (λ k. count_by q (token_members k v)) (omega arith) in
    let d : count_by q (token_members (o + length (x ∷ front)) v') ≡ count_by q (token_members (suc o + length front) v') =
    ap (λ k. count_by q (token_members k v')) (omega arith) in
    omega arith
