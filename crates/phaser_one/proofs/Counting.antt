-- Counts of members that all have one owner.
use Rattle.std.proofs.Common.{◌≡◌, ◌≢◌, ℕ, ◌+◌, ◌-◌, ◌*◌, ◌≤◌, ◌<◌, ⊎_elim, Bool, true, false, cond, eqb, nat_eq, List, [], ◌∷◌, ◌++◌, length, refl, sym, ◌∙◌, ap, arith, Some, None}
use Rattle.std.specs.Prelude.{count_by, replicate, not, ◌&&◌}
use Rattle.std.proofs.lemmas.Bool.{eq-eqb, ne_eqb, eqb-true}
use Rattle.phaser_word.specs.Phase.{next_phase_of}
use Rattle.phaser_word.specs.Fields.{Fields}
use Rattle.flat_phaser.specs.declared.Member.{Member}
use Rattle.flat_phaser.specs.Flat.{Flat, has_arrived, is_owned, members_of, arrived_of, everyone_arrived}
use Rattle.flat_phaser.specs.Step.{newcomers, mark_one, drop_one}
use Rattle.flat_phaser.specs.Alike.{IsAlike}
use Rattle.flat_phaser.proofs.Counts.{bit, count_cons, count_append, count_replicate, times_bit, bit_true, bit_and_true, bit_and_false, newcomers_members, newcomers_arrived}
use Rattle.flat_phaser.proofs.Everyone.{either, everyone_from, everyone_each, none_arrived}
use Rattle.flat_phaser.proofs.Places.{first_place, marked_members, marked_arrived, dropped_members, dropped_arrived}
use Rattle.flat_phaser.proofs.Alikeness.{next_differs}
use Rattle.phaser_one.specs.Seen.{members_in, flat_of}

-- a number for owner 0, and none for another
abbrev pub of_one : ℕ → ℕ → ℕ
of_one u n = cond {A = ℕ} (eqb 0 u) n 0

-- a number of members, some of whom have arrived, all of owner 0
pub record Counts (phase members arrived : ℕ) (ms : List Member) : Type 0 where
  pub own : (u : ℕ) → members_of u ms ≡ of_one u members
  pub come : (u : ℕ) → arrived_of phase u ms ≡ of_one u arrived

-- a number that is there or not
abbrev picked : Bool → ℕ → ℕ
picked b n = cond {A = ℕ} b n 0

picked_sum : (b : Bool) (m n : ℕ) → picked b (m + n) ≡ picked b m + picked b n
picked_sum true m n = refl
picked_sum false m n = refl

picked_le : (b : Bool) (m n : ℕ) → m ≤ n → picked b m ≤ picked b n
picked_le true m n h = h
picked_le false m n h = omega arith

picked_more : (b : Bool) (n : ℕ) → picked b n + bit b ≡ picked b (n + 1)
picked_more true n = refl
picked_more false n = refl

picked_less : (b : Bool) (n m : ℕ) → n + bit b ≡ picked b m → 0 < m → n ≡ picked b (m - 1)
picked_less true n m h p = omega arith
picked_less false n m h p = omega arith

picked_none : (b : Bool) → 0 ≡ picked b 0
picked_none true = refl
picked_none false = refl

other_none : (u n : ℕ) → u ≢ 0 → of_one u n ≡ 0
other_none u n h = let other : eqb 0 u ≡ false = ne_eqb 0 u (λ e. h (sym e)) in rw other refl

-- all members are of owner 0
abbrev pub OneOwner : List Member → Type 0
OneOwner ms = (u : ℕ) → u ≢ 0 → members_of u ms ≡ 0

pub counted_owner : (phase m a : ℕ) (ms : List Member) → Counts phase m a ms → OneOwner ms
counted_owner phase m a ms c u h = c.own u ∙ other_none u m h

first_owner : (m : Member) (ms : List Member) → OneOwner (m ∷ ms) → m.owner ≡ 0
first_owner m ms h = ⊎_elim
    (λ (e : eqb m.owner 0 ≡ true). eqb-true m.owner 0 e)
    (λ (e : eqb m.owner 0 ≡ false). absurd
    (let other : m.owner ≢ 0 = λ same. (let yes' : eqb m.owner 0 ≡ true = eq-eqb m.owner 0 same in cc) in
    let none = h m.owner other in
    let all = count_cons (is_owned m.owner) m ms in
    let one = bit_true (is_owned m.owner m) (eq-eqb m.owner m.owner refl) in
    omega arith))
    (either (eqb m.owner 0))

rest_owner : (m : Member) (ms : List Member) → OneOwner (m ∷ ms) → OneOwner ms
rest_owner m ms h u other =
    let all = count_cons (is_owned u) m ms in
    let none = h u other in
    omega arith

pub length_of_one : (ms : List Member) → OneOwner ms → length ms ≡ members_of 0 ms
length_of_one [] h = refl
length_of_one (m ∷ ms) h =
    let all = count_cons (is_owned 0) m ms in
    let one = bit_true (is_owned 0 m) (eq-eqb m.owner 0 (first_owner m ms h)) in
    let rest = length_of_one ms (rest_owner m ms h) in
    omega arith

bit_sum : (a b : Bool) → a ≡ true → bit (not b) + bit (a && b) ≡ 1
bit_sum a true e = rw e refl
bit_sum a false e = rw e refl

pub absent_of_one : (phase : ℕ) (ms : List Member) → OneOwner ms
    → count_by (λ m. not (has_arrived phase m)) ms + arrived_of phase 0 ms ≡ length ms
absent_of_one phase [] h = refl
absent_of_one phase (m ∷ ms) h =
    let absent = count_cons (λ x. not (has_arrived phase x)) m ms in
    let arrived = count_cons (λ x. is_owned 0 x && has_arrived phase x) m ms in
    let one = bit_sum (is_owned 0 m) (has_arrived phase m) (eq-eqb m.owner 0 (first_owner m ms h)) in
    let rest = absent_of_one phase ms (rest_owner m ms h) in
    omega arith

pub length_is : (phase m a : ℕ) (ms : List Member) → Counts phase m a ms → length ms ≡ m
length_is phase m a ms c = length_of_one ms (counted_owner phase m a ms c) ∙ c.own 0

pub absent_is : (phase m a : ℕ) (ms : List Member) → Counts phase m a ms → count_by (λ x. not (has_arrived phase x)) ms + a ≡ m
absent_is phase m a ms c =
    let all = absent_of_one phase ms (counted_owner phase m a ms c) in
    let come : arrived_of phase 0 ms ≡ a = c.come 0 in
    let whole = length_is phase m a ms c in
    omega arith

all_come : (phase m a : ℕ) (ms : List Member) → Counts phase m a ms → m ≤ a → everyone_arrived phase ms ≡ true
all_come phase m a ms c h = everyone_from phase ms (λ u.
    let own : members_of u ms ≡ of_one u m = c.own u in
    let come : arrived_of phase u ms ≡ of_one u a = c.come u in
    let le : of_one u m ≤ of_one u a = picked_le (eqb 0 u) m a h in
    omega arith)

not_all : (phase m a : ℕ) (ms : List Member) → Counts phase m a ms → a < m → everyone_arrived phase ms ≡ false
not_all phase m a ms c h = ⊎_elim
    (λ (e : everyone_arrived phase ms ≡ true). absurd
    (let same = everyone_each phase ms e 0 in
    let own : members_of 0 ms ≡ m = c.own 0 in
    let come : arrived_of phase 0 ms ≡ a = c.come 0 in
    omega arith))
    (λ (e : everyone_arrived phase ms ≡ false). e)
    (either (everyone_arrived phase ms))

pub everyone_is : (phase m a left : ℕ) (ms : List Member) → Counts phase m a ms → left + a ≡ m → everyone_arrived phase ms ≡ nat_eq left 0
everyone_is phase m a left ms c h = ⊎_elim
    (λ (e : nat_eq left 0 ≡ true). let none : left ≡ 0 = eqb-true left 0 e in all_come phase m a ms c (omega arith) ∙ sym e)
    (λ (e : nat_eq left 0 ≡ false). let some : left ≢ 0 = λ z. (let yes' : nat_eq left 0 ≡ true = eq-eqb left 0 z in cc) in
    not_all phase m a ms c (omega arith) ∙ sym e)
    (either (nat_eq left 0))

-- the members that a word represents
pub counts_in : (phase a n : ℕ) → Counts phase (a + n) a (members_in phase a n)
counts_in phase a n = record {
  own = λ u.
      let whole =
      count_append (is_owned u) (replicate a (record { owner = 0; mark = Some phase })) (replicate n (record { owner = 0; mark = None })) in
      let come = count_replicate (is_owned u) a (record { owner = 0; mark = Some phase }) in
      let absent = count_replicate (is_owned u) n (record { owner = 0; mark = None }) in
      let first = times_bit a (eqb 0 u) in
      let second = times_bit n (eqb 0 u) in
      let sum = picked_sum (eqb 0 u) a n in
      omega arith;
  come = λ u.
      let test : Member → Bool = λ x. is_owned u x && has_arrived phase x in
      let whole =
      count_append test (replicate a (record { owner = 0; mark = Some phase })) (replicate n (record { owner = 0; mark = None })) in
      let come = count_replicate test a (record { owner = 0; mark = Some phase }) in
      let absent = count_replicate test n (record { owner = 0; mark = None }) in
      let here = bit_and_true (eqb 0 u) (nat_eq phase phase) (eq-eqb phase phase refl) in
      let none = bit_and_false (eqb 0 u) false refl in
      let first : a * bit (eqb 0 u && nat_eq phase phase) ≡ a * bit (eqb 0 u) = ap (λ (k : ℕ). a * k) here in
      let second : n * bit (eqb 0 u && false) ≡ n * 0 = ap (λ (k : ℕ). n * k) none in
      let third = times_bit a (eqb 0 u) in
      omega arith;
}

-- a flat phaser that is alike to a word's has its counts
pub alike_counts : (f : Flat) (w : Fields) → w.unarrived ≤ w.parties → IsAlike f (flat_of w)
    → Counts w.phase w.parties (w.parties - w.unarrived) f.members
alike_counts f w h a =
    let c = counts_in w.phase (w.parties - w.unarrived) w.unarrived in
    let sum : w.parties - w.unarrived + w.unarrived ≡ w.parties = omega arith in
    record {
      own = λ u. a.members u ∙ c.own u ∙ ap (of_one u) sum;
      come = λ u. ap (λ (p : ℕ). arrived_of p u f.members) (sym a.phase) ∙ a.arrived u ∙ c.come u;
    }

-- and what has its counts is alike to it
pub counts_alike : (f : Flat) (w : Fields) → w.unarrived ≤ w.parties → f.phase ≡ w.phase → f.ended ≡ w.ended → f.due ≡ false
    → Counts w.phase w.parties (w.parties - w.unarrived) f.members → IsAlike f (flat_of w)
counts_alike f w h phase ended due counts =
    let c = counts_in w.phase (w.parties - w.unarrived) w.unarrived in
    let sum : w.parties - w.unarrived + w.unarrived ≡ w.parties = omega arith in
    record {
      phase = phase;
      ended = ended;
      due = due;
      members = λ u. counts.own u ∙ sym (c.own u ∙ ap (of_one u) sum);
      arrived = λ u. ap (λ (p : ℕ). arrived_of p u f.members) phase ∙ counts.come u ∙ sym (c.come u);
    }

-- newcomers, one who arrives, one who leaves
pub joined_counts : (phase m a n : ℕ) (ms : List Member) → Counts phase m a ms → Counts phase (m + n) a (ms ++ newcomers 0 n)
joined_counts phase m a n ms c = record {
  own = λ u.
      let more = newcomers_members 0 n u ms in
      let own = c.own u in
      let sum = picked_sum (eqb 0 u) m n in
      omega arith;
  come = λ u. newcomers_arrived phase 0 n u ms ∙ c.come u;
}

waiting : (phase m a : ℕ) (ms : List Member) → Counts phase m a ms → a < m → arrived_of phase 0 ms < members_of 0 ms
waiting phase m a ms c h = let own : members_of 0 ms ≡ m = c.own 0 in let come : arrived_of phase 0 ms ≡ a = c.come 0 in omega arith

pub marked_counts : (phase m a : ℕ) (ms : List Member) → Counts phase m a ms → a < m → Counts phase m (a + 1) (mark_one 0 phase ms)
marked_counts phase m a ms c h =
    let p = first_place 0 phase ms (waiting phase m a ms c h) in
    record {
      own = λ u. ap (members_of u) p.marked ∙ marked_members 0 phase u p.front p.here p.back ∙ ap (members_of u) (sym p.whole) ∙ c.own u;
      come = λ u.
          ap (arrived_of phase u) p.marked ∙ marked_arrived 0 phase u p.front p.here p.back p.awaited
          ∙ ap (λ (l : List Member). arrived_of phase u l + bit (eqb 0 u)) (sym p.whole)
          ∙ ap (λ (k : ℕ). k + bit (eqb 0 u)) (c.come u) ∙ picked_more (eqb 0 u) a;
    }

pub dropped_counts : (phase m a : ℕ) (ms : List Member) → Counts phase m a ms → a < m → Counts phase (m - 1) a (drop_one 0 phase ms)
dropped_counts phase m a ms c h =
    let p = first_place 0 phase ms (waiting phase m a ms c h) in
    record {
      own = λ u.
          let fewer : members_of u (drop_one 0 phase ms) + bit (eqb 0 u) ≡ of_one u m =
          ap (λ (l : List Member). members_of u l + bit (eqb 0 u)) p.dropped ∙ dropped_members 0 phase u p.front p.here p.back p.awaited
          ∙ ap (members_of u) (sym p.whole) ∙ c.own u in
          picked_less (eqb 0 u) (members_of u (drop_one 0 phase ms)) m fewer (omega arith);
      come = λ u.
          ap (arrived_of phase u) p.dropped ∙ dropped_arrived 0 phase u p.front p.here p.back p.awaited
          ∙ ap (arrived_of phase u) (sym p.whole) ∙ c.come u;
    }

-- in the next phase nobody has arrived
pub next_counts : (phase m a : ℕ) (ms : List Member) → Counts phase m a ms → everyone_arrived phase ms ≡ true
    → Counts (next_phase_of phase) m 0 ms
next_counts phase m a ms c e = record {
  own = c.own;
  come = λ u. none_arrived phase (next_phase_of phase) ms (next_differs phase) e u ∙ picked_none (eqb 0 u);
}
