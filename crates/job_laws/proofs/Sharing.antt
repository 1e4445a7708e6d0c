-- Each token has one holder.
use Rattle.std.proofs.Common.{◌≡◌, ◌≢◌, ℕ, zero, suc, ◌+◌, ◌<◌, ◌≤◌, ⊎_elim, Bool, true, false, cond, eqb, List, [], ◌∷◌, length, get_or, refl, ap, arith}
use Rattle.std.specs.Prelude.{sum_by}
use Rattle.std.specs.List.{AllByRecursion}
use Rattle.std.proofs.lemmas.Bool.{eq-eqb, eqb-true, cases_eq, cases_lt}
use Rattle.std.proofs.lemmas.List.Sums.{sum_by-cons}
use Rattle.job_schedule.specs.ParticipantValue.{ChildValue, ParticipantValue, no_participant, no_child, participant_at, child_at}
use Rattle.job_laws.specs.Working.{of_participant, of_all, AreShared}

-- no task is after the last
pub no_participant_beyond : (gs : List ParticipantValue) (place : ℕ) → length gs ≤ place → participant_at gs place ≡ no_participant
no_participant_beyond [] place h = refl
no_participant_beyond (g ∷ gs) zero h = absurd (omega arith)
no_participant_beyond (g ∷ gs) (suc place) h = no_participant_beyond gs place (omega arith)

-- the measure of one token alone
abbrev pub one : ℕ → ℕ → ℕ
one i t = cond (eqb t i) 1 0

pub one_itself : (i : ℕ) → one i i ≡ 1
one_itself i = ap (λ b. cond b 1 0) (eq-eqb i i refl)

pub one_is : (i t : ℕ) → t ≡ i → one i t ≡ 1
one_is i t e = ap (λ b. cond b 1 0) (eq-eqb t i e)

none_of : (i t : ℕ) → one i t ≡ 0 → t ≢ i
none_of i t z e = let a = one_is i t e in absurd (omega arith)

other_one : (i t : ℕ) → t ≢ i → one i t ≡ 0
other_one i t n = by (eqb t i) refl
  where
    by : (b : Bool) → eqb t i ≡ b → cond {A = ℕ} b 1 0 ≡ 0
    by true e = absurd (n (eqb-true t i e))
    by false e = refl

-- of this many tokens it is at most one, and none after the last
behind_all : (n i : ℕ) → n ≤ i → of_all n (one i) ≡ 0
behind_all zero i h = refl
behind_all (suc n) i h = let a = behind_all n i (omega arith) in let b = other_one i n (λ e. absurd (omega arith)) in omega arith

pub at_most_one : (n i : ℕ) → of_all n (one i) ≤ 1
at_most_one zero i = omega arith
at_most_one (suc n) i = ⊎_elim
    (λ (e : n ≡ i). let a = behind_all n i (omega arith) in let b = one_is i n e in omega arith)
    (λ (e : n ≢ i). let a = at_most_one n i in let b = other_one i n e in omega arith)
    (cases_eq n i)

pub is_known : (n i : ℕ) → 1 ≤ of_all n (one i) → i < n
is_known n i h = ⊎_elim (λ l. l) (λ (l : n ≤ i). let a = behind_all n i l in absurd (omega arith)) (cases_lt i n)

-- sums are at least each of their parts, and any two of them
pub part : {X : Type 0} (f : X → ℕ) (xs : List X) (p : ℕ) (d : X) → p < length xs → f (get_or xs p d) ≤ sum_by f xs
part f [] p d h = absurd (omega arith)
part f (x ∷ xs) zero d h = let a = sum_by-cons f x xs in omega arith
part f (x ∷ xs) (suc p) d h = let a = sum_by-cons f x xs in let b = part f xs p d (omega arith) in omega arith

pub two_parts : {X : Type 0} (f : X → ℕ) (xs : List X) (p q : ℕ) (d : X) → p < length xs → q < length xs → p ≢ q
    → f (get_or xs p d) + f (get_or xs q d) ≤ sum_by f xs
two_parts f [] p q d h k n = absurd (omega arith)
two_parts f (x ∷ xs) zero zero d h k n = absurd (n refl)
two_parts f (x ∷ xs) zero (suc q) d h k n = let a = sum_by-cons f x xs in let b = part f xs q d (omega arith) in omega arith
two_parts f (x ∷ xs) (suc p) zero d h k n = let a = sum_by-cons f x xs in let b = part f xs p d (omega arith) in omega arith
two_parts f (x ∷ xs) (suc p) (suc q) d h k n =
    let a = sum_by-cons f x xs in let b = two_parts f xs p q d (omega arith) (omega arith) (λ e. n (ap suc e)) in omega arith

-- a token of a task
pub own_in : (g : ParticipantValue) → 1 ≤ of_participant (one g.token) g
own_in g = let a = one_itself g.token in omega arith

pub child_in : (g : ParticipantValue) (k : ℕ) → k < length g.children → 1 ≤ of_participant (one (child_at g.children k).token) g
child_in g k h =
    let i : ℕ = (child_at g.children k).token in
    let a = part (λ (c : ChildValue). one i c.token) g.children k no_child h in let b = one_itself i in omega arith

module _ (participants : List ParticipantValue) (free : List ℕ) (n : ℕ) (shared : AreShared participants free n) where
  -- it is one that is known
  pub known_in : (p i : ℕ) → p < length participants → 1 ≤ of_participant (one i) (participant_at participants p) → i < n
  known_in p i h k =
      let a = part (of_participant (one i)) participants p no_participant h in let b = shared (one i) in is_known n i (omega arith)

  -- a task has it once
  once_in : (p i : ℕ) → p < length participants → of_participant (one i) (participant_at participants p) ≤ 1
  once_in p i h =
      let a = part (of_participant (one i)) participants p no_participant h in
      let b = shared (one i) in
      let c = at_most_one n i in
      omega arith

  -- no other task has it
  none_in : (p q i : ℕ) → p < length participants → q < length participants → q ≢ p
      → 1 ≤ of_participant (one i) (participant_at participants p) → of_participant (one i) (participant_at participants q) ≡ 0
  none_in p q i h k m has =
      let a = two_parts (of_participant (one i)) participants q p no_participant k h m in
      let b = shared (one i) in
      let c = at_most_one n i in
      omega arith

  pub others_own : (p q i : ℕ) → p < length participants → q < length participants → q ≢ p
      → 1 ≤ of_participant (one i) (participant_at participants p) → (participant_at participants q).token ≢ i
  others_own p q i h k m has =
      let a = none_in p q i h k m has in none_of i (participant_at participants q).token (omega arith)

  pub others_child : (p q i j : ℕ) → p < length participants → q < length participants → q ≢ p
      → 1 ≤ of_participant (one i) (participant_at participants p) → j < length (participant_at participants q).children
      → (child_at (participant_at participants q).children j).token ≢ i
  others_child p q i j h k m has l =
      let a = none_in p q i h k m has in
      let b = part (λ (c : ChildValue). one i c.token) (participant_at participants q).children j no_child l in
      none_of i (child_at (participant_at participants q).children j).token (omega arith)

  -- its token is none of its spawned tasks', and these differ
  pub child_not_own : (p j : ℕ) → p < length participants → j < length (participant_at participants p).children
      → (child_at (participant_at participants p).children j).token ≢ (participant_at participants p).token
  child_not_own p j h l =
      let i : ℕ = (participant_at participants p).token in
      let a = once_in p i h in let b = one_itself i in
      let c = part (λ (k : ChildValue). one i k.token) (participant_at participants p).children j no_child l in
      none_of i (child_at (participant_at participants p).children j).token (omega arith)

  pub children_differ : (p j k : ℕ) → p < length participants → j < length (participant_at participants p).children
      → k < length (participant_at participants p).children → j ≢ k
      → (child_at (participant_at participants p).children j).token ≢ (child_at (participant_at participants p).children k).token
  children_differ p j k h l m n =
      let i : ℕ = (child_at (participant_at participants p).children k).token in
      let a = once_in p i h in let b = one_itself i in
      let c = two_parts (λ (x : ChildValue). one i x.token) (participant_at participants p).children j k no_child l m n in
      none_of i (child_at (participant_at participants p).children j).token (omega arith)

  -- no free token is a task's
  pub free_not : (p i : ℕ) → p < length participants → 1 ≤ of_participant (one i) (participant_at participants p)
      → AllByRecursion (λ t. t ≢ i) free
  free_not p i h has =
      let a = part (of_participant (one i)) participants p no_participant h in
      let b = shared (one i) in
      let c = at_most_one n i in
      each free (omega arith)
    where
      each : (ts : List ℕ) → sum_by (one i) ts ≡ 0 → AllByRecursion (λ t. t ≢ i) ts
      each [] z = tt
      each (t ∷ ts) z = let a = sum_by-cons (one i) t ts in (none_of i t (omega arith), each ts (omega arith))
