use Rattle.std.proofs.Common.{◌≡◌, ℕ, ◌+◌, ◌-◌, ◌<◌, ◌≤◌, ◌==◌, Bool, true, false, nat_lt, if◌then◌else◌, Option, List, [], ◌∷◌, ◌++◌, length, refl, ap, sym, ◌∙◌, arith, subst, length-append}
use Rattle.std.proofs.lemmas.Bool.Decides.{nat_tests}
use Rattle.advance_rule.specs.Action.{fails_at}
use Rattle.cyclic_gate.specs.Machine.{Machine, machine, fresh}
use Rattle.cyclic_gate.specs.Steps.{Answer, Breaks, Absent, is_in, others, indexed, answer, after, next_generation}
use Rattle.cyclic_gate.specs.Runs.{answers}
use Rattle.cyclic_gate.specs.Laws.{times, callers_of, indices_of, GivesEachOnce, IsRightTrip, AllRight, TripsGiveEachOnce, GenerationsFollow, EndsMoveOrKeep, FailuresAreAsPlanned}
use Rattle.cyclic_gate.specs.declared.call.Call.{Call}
use Rattle.cyclic_gate.specs.declared.call.Call.TheVariants.{Await, Abandon, BreakOff, Reset}

pub times-append : (n : ℕ) (xs ys : List ℕ) → times n (xs ++ ys) ≡ times n xs + times n ys
times-append n [] ys = omega arith
times-append n (x ∷ xs) ys = omega (arith, times-append n xs ys)

-- who isn't in a list is in it never
pub not_in : (c : ℕ) (ws : List ℕ) → is_in c ws ≡ false → times c ws ≡ 0
not_in c [] e = refl
not_in c (w ∷ ws) e = grind (arith, nat_tests, not_in c ws)

pub apart_more : (ws : List ℕ) (c : ℕ) → is_in c ws ≡ false → ((d : ℕ) → times d ws ≤ 1) → (d : ℕ) → times d (ws ++ c ∷ []) ≤ 1
apart_more ws c out apart d =
    let none : times c ws ≡ 0 = not_in c ws out in
    let few : times d ws ≤ 1 = apart d in
    let sum : times d (ws ++ c ∷ []) ≡ times d ws + times d (c ∷ []) = times-append d ws (c ∷ []) in
    elim (c == d) as (λ b. (c == d) ≡ b → times d (ws ++ c ∷ []) ≤ 1) [
      | true ↦ λ e. let same : c ≡ d = grind (arith, nat_tests) in
          let zero' : times d ws ≡ 0 = subst (λ (n : ℕ). times n ws ≡ 0) same none in
          rw sum (rw e (omega (arith, zero')))
      | false ↦ λ e. rw sum (rw e (omega arith))
    ] refl

pub callers_of-indexed : (p k : ℕ) (xs : List ℕ) → callers_of (indexed p k xs) ≡ xs
callers_of-indexed p k [] = refl
callers_of-indexed p k (x ∷ xs) = ap (λ l. x ∷ l) (callers_of-indexed p (k + 1) xs)

pub indices_once : (p k : ℕ) (xs : List ℕ) (i : ℕ) → k + length xs ≡ p
    → times i (indices_of (indexed p k xs)) ≡ (if nat_lt i (p - k) then 1 else 0)
indices_once p k [] i e = let none : p - k ≡ 0 = omega arith in rw none (grind (arith, nat_tests))
indices_once p k (x ∷ xs) i e =
    let rest : times i (indices_of (indexed p (k + 1) xs)) ≡ (if nat_lt i (p - (k + 1)) then 1 else 0) =
    indices_once p (k + 1) xs i (omega arith) in
    rw rest (grind (arith, nat_tests))

-- what is kept of who waits
pub record Good (p : ℕ) (ws : List ℕ) : Type 0 where
  pub capacity : length ws < p
  pub apart : (c : ℕ) → times c ws ≤ 1

pub record Kept (p : ℕ) (a : Answer) (m : Machine) : Type 0 where
  pub parties : m.parties ≡ p
  pub good : Good p m.waiting
  pub right : IsRightTrip p a

nobody : (p : ℕ) → 0 < p → Good p []
nobody p some = record { capacity = some; apart = λ c. omega arith }

pub trip_gives : (p : ℕ) (ws : List ℕ) (c : ℕ) → Good p ws → is_in c ws ≡ false → length ws + 1 ≡ p
    → GivesEachOnce p (indexed p 0 (ws ++ c ∷ []))
trip_gives p ws c good out full = record {
  indices =
      λ i. indices_once p 0 (ws ++ c ∷ []) i (omega (arith, length-append ws (c ∷ [])))
      ∙ ap (λ (n : ℕ). if nat_lt i n then 1 else 0) (omega arith);
  callers = λ d. rw (callers_of-indexed p 0 (ws ++ c ∷ [])) (apart_more ws c out good.apart d);
}

await_kept : (fails : Option ℕ) (c p g : ℕ) (ws : List ℕ) (b b2 b3 b4 : Bool) → Good p ws → is_in c ws ≡ b2 → (length ws + 1 == p) ≡ b3
    → fails_at fails g ≡ b4
    → Kept p (answer fails (Await c) (machine p g ws b)) (after fails (Await c) (machine p g ws b))
await_kept fails c p g ws true b2 b3 b4 good e2 e3 e4 = record { parties = refl; good = good; right = tt }
await_kept fails c p g ws false true b3 b4 good e2 e3 e4 = rw e2 (record { parties = refl; good = good; right = tt })
await_kept fails c p g ws false false true true good e2 e3 e4 =
    rw (e2, e3, e4) (record { parties = refl; good = nobody p (let r = good.capacity in omega arith); right = tt })
await_kept fails c p g ws false false true false good e2 e3 e4 =
    rw (e2, e3, e4)
    (record {
      parties = refl;
      good = nobody p (let r = good.capacity in omega arith);
      right = trip_gives p ws c good e2 (grind (arith, nat_tests));
    })
await_kept fails c p g ws false false false b4 good e2 e3 e4 =
    rw (e2, e3) (record {
      parties = refl;
      good =
          record {
            capacity = let r = good.capacity in
                let ne = e3 in
                simp length-append (grind (arith, nat_tests));
            apart = apart_more ws c e2 good.apart;
          };
      right = tt;
    })

pub step_kept : (fails : Option ℕ) (call : Call) (m : Machine) → Good m.parties m.waiting
    → Kept m.parties (answer fails call m) (after fails call m)
step_kept fails (Await c) m good = await_kept fails c m.parties m.generation m.waiting m.broken _ _ _ good refl refl refl
step_kept fails (Abandon c) m good =
    elim (is_in c m.waiting) as
    (λ b. Kept m.parties (if b then Breaks (others c m.waiting) else Absent) (if b then machine m.parties m.generation [] true else m)) [
      | true ↦ record { parties = refl; good = nobody m.parties (let r = good.capacity in omega arith); right = tt }
      | false ↦ record { parties = refl; good = good; right = tt }
    ]
step_kept fails BreakOff m good = record { parties = refl; good = nobody m.parties (let r = good.capacity in omega arith); right = tt }
step_kept fails Reset m good = record { parties = refl; good = nobody m.parties (let r = good.capacity in omega arith); right = tt }

pub run_right : (fails : Option ℕ) (calls : List Call) (p : ℕ) (m : Machine) → m.parties ≡ p → Good p m.waiting
    → AllRight p (answers fails calls m)
run_right fails [] p m same good = tt
run_right fails (c ∷ cs) p m same good =
    let kept : Kept m.parties (answer fails c m) (after fails c m) =
    step_kept fails c m (subst (λ (n : ℕ). Good n m.waiting) (sym same) good) in
    let here : Kept p (answer fails c m) (after fails c m) = subst (λ (n : ℕ). Kept n (answer fails c m) (after fails c m)) same kept in
    (here.right, run_right fails cs p (after fails c m) here.parties here.good)

pub trips_give_each_once : TripsGiveEachOnce
trips_give_each_once p fails calls some = run_right fails calls p (fresh p) refl (nobody p some)

-- the generation after one
next_below : (g : ℕ) → g < 18446744073709551615 → next_generation g ≡ g + 1
next_below g low = grind (arith, nat_tests)

pub generations_follow : GenerationsFollow
generations_follow = record { below = next_below; half = refl; last = refl; wraps = refl }

pub ends_move_or_keep : EndsMoveOrKeep
ends_move_or_keep = record {
  resets = λ fails m. refl;
  breaks = λ fails m. refl;
  trip = refl;
  failure = refl;
  other_failure = refl;
  earlier_failure = refl;
  abandon = refl;
  break_off = refl;
  reset = refl;
  broken_again = refl;
  mended = refl;
}

itself : (g : ℕ) → (g == g) ≡ true
itself g = grind (arith, nat_tests)

apart : (at g : ℕ) → (g ≡ at → ⊥) → (g == at) ≡ false
apart at g other = grind (arith, nat_tests)

pub failures_are_as_planned : FailuresAreAsPlanned
failures_are_as_planned = record { never = λ g. refl; there = itself; nowhere_else = apart; worked = (refl, refl, refl) }
