-- The places of members that haven't arrived, and what changes when one of them arrives or leaves.
use Rattle.std.proofs.Common.{◌≡◌, ℕ, ◌+◌, ◌<◌, ⊎_elim, Bool, true, false, cond, eqb, List, [], ◌∷◌, ◌++◌, refl, ◌∙◌, ap, arith, Some}
use Rattle.std.specs.Prelude.{◌&&◌, not}
use Rattle.std.proofs.lemmas.Bool.{eq-eqb, eqb-true}
use Rattle.flat_phaser.specs.Flat.{Member, has_arrived, is_owned, members_of, arrived_of}
use Rattle.flat_phaser.specs.Step.{is_awaited, mark_one, drop_one}
use Rattle.flat_phaser.proofs.Counts.{bit, count_cons, count_here, bit_and_true, bit_and_false}
use Rattle.flat_phaser.proofs.Everyone.{either, both_true}

not_true : (b : Bool) → not b ≡ true → b ≡ false
not_true true e = absurd (let wrong : false ≡ true = e in cc)
not_true false e = refl

-- a member who is awaited is the owner's, and hasn't arrived
pub awaited_owner : (owner phase : ℕ) (m : Member) → is_awaited owner phase m ≡ true → m.owner ≡ owner
awaited_owner owner phase m h = eqb-true m.owner owner (both_true (is_owned owner m) (not (has_arrived phase m)) h).0

pub awaited_absent : (owner phase : ℕ) (m : Member) → is_awaited owner phase m ≡ true → has_arrived phase m ≡ false
awaited_absent owner phase m h = not_true (has_arrived phase m) (both_true (is_owned owner m) (not (has_arrived phase m)) h).1

pub not_awaited : (a b : Bool) → a && not b ≡ false → bit (a && b) ≡ bit a
not_awaited true true e = refl
not_awaited true false e = absurd (let wrong : true ≡ false = e in cc)
not_awaited false b e = refl

-- the place of the first who is awaited, and what it leaves to arrive or to go
pub record FirstPlace (owner phase : ℕ) (members : List Member) : Type 0 where
  pub front : List Member
  pub here : Member
  pub back : List Member
  pub whole : members ≡ front ++ here ∷ back
  pub awaited : is_awaited owner phase here ≡ true
  pub marked : mark_one owner phase members ≡ front ++ record here { mark = Some phase } ∷ back
  pub dropped : drop_one owner phase members ≡ front ++ back

at_head : (owner phase : ℕ) (m : Member) (ms : List Member) → is_awaited owner phase m ≡ true → FirstPlace owner phase (m ∷ ms)
at_head owner phase m ms h = record {
  front = [];
  here = m;
  back = ms;
  whole = refl;
  awaited = h;
  marked = ap (λ (b : Bool). cond b (record m { mark = Some phase } ∷ ms) (m ∷ mark_one owner phase ms)) h;
  dropped = ap (λ (b : Bool). cond b ms (m ∷ drop_one owner phase ms)) h;
}

in_tail : (owner phase : ℕ) (m : Member) (ms : List Member) → is_awaited owner phase m ≡ false → FirstPlace owner phase ms
    → FirstPlace owner phase (m ∷ ms)
in_tail owner phase m ms h p = record {
  front = m ∷ p.front;
  here = p.here;
  back = p.back;
  whole = ap (λ (l : List Member). m ∷ l) p.whole;
  awaited = p.awaited;
  marked =
      ap (λ (b : Bool). cond b (record m { mark = Some phase } ∷ ms) (m ∷ mark_one owner phase ms)) h
      ∙ ap (λ (l : List Member). m ∷ l) p.marked;
  dropped = ap (λ (b : Bool). cond b ms (m ∷ drop_one owner phase ms)) h ∙ ap (λ (l : List Member). m ∷ l) p.dropped;
}

pub first_place : (owner phase : ℕ) (members : List Member) → arrived_of phase owner members < members_of owner members
    → FirstPlace owner phase members
first_place owner phase [] h = absurd (omega arith)
first_place owner phase (m ∷ ms) h = ⊎_elim
    (λ (yes' : is_awaited owner phase m ≡ true). at_head owner phase m ms yes')
    (λ (no' : is_awaited owner phase m ≡ false).
    let arrived = count_cons (λ x. is_owned owner x && has_arrived phase x) m ms in
    let all = count_cons (is_owned owner) m ms in
    let same = not_awaited (is_owned owner m) (has_arrived phase m) no' in
    in_tail owner phase m ms no' (first_place owner phase ms (omega arith)))
    (either (is_awaited owner phase m))

-- whose a member is, as a number
same_owner : (owner u : ℕ) (m : Member) → m.owner ≡ owner → bit (is_owned u m) ≡ bit (eqb owner u)
same_owner owner u m e = ap (λ (k : ℕ). bit (eqb k u)) e

-- one who is awaited arrives
pub marked_members : (owner phase u : ℕ) (front : List Member) (m : Member) (back : List Member)
    → members_of u (front ++ record m { mark = Some phase } ∷ back) ≡ members_of u (front ++ m ∷ back)
marked_members owner phase u front m back =
    let old = count_here (is_owned u) front m back in
    let new = count_here (is_owned u) front (record m { mark = Some phase }) back in
    omega arith

pub marked_arrived : (owner phase u : ℕ) (front : List Member) (m : Member) (back : List Member) → is_awaited owner phase m ≡ true
    → arrived_of phase u (front ++ record m { mark = Some phase } ∷ back) ≡ arrived_of phase u (front ++ m ∷ back) + bit (eqb owner u)
marked_arrived owner phase u front m back h =
    let test : Member → Bool = λ x. is_owned u x && has_arrived phase x in
    let old = count_here test front m back in
    let new = count_here test front (record m { mark = Some phase }) back in
    let absent = bit_and_false (is_owned u m) (has_arrived phase m) (awaited_absent owner phase m h) in
    let present = bit_and_true (is_owned u m) (eqb phase phase) (eq-eqb phase phase refl) in
    let whose = same_owner owner u m (awaited_owner owner phase m h) in
    omega arith

-- one who is awaited leaves
pub dropped_members : (owner phase u : ℕ) (front : List Member) (m : Member) (back : List Member) → is_awaited owner phase m ≡ true
    → members_of u (front ++ back) + bit (eqb owner u) ≡ members_of u (front ++ m ∷ back)
dropped_members owner phase u front m back h =
    let old = count_here (is_owned u) front m back in
    let whose = same_owner owner u m (awaited_owner owner phase m h) in
    omega arith

pub dropped_arrived : (owner phase u : ℕ) (front : List Member) (m : Member) (back : List Member) → is_awaited owner phase m ≡ true
    → arrived_of phase u (front ++ back) ≡ arrived_of phase u (front ++ m ∷ back)
dropped_arrived owner phase u front m back h =
    let old = count_here (λ x. is_owned u x && has_arrived phase x) front m back in
    let absent = bit_and_false (is_owned u m) (has_arrived phase m) (awaited_absent owner phase m h) in
    omega arith
