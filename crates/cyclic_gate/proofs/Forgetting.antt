use Rattle.std.proofs.Common.{◌≡◌, ℕ, zero, suc, ◌+◌, ◌-◌, ◌<◌, ◌≤◌, ◌==◌, Bool, true, false, not, ◌||◌, ◌&&◌, nat_lt, if◌then◌else◌, Option, None, Some, List, [], ◌∷◌, ◌++◌, length, drop, refl, ap, sym, ◌∙◌, subst, arith, length-append}
use Rattle.std.proofs.lemmas.Bool.Decides.{nat_tests}
use Rattle.advance_rule.specs.Action.{fails_at}
use Rattle.cyclic_gate.specs.Machine.{Machine, machine, fresh}
use Rattle.cyclic_gate.specs.Steps.{Answer, Waiting, Trips, Fails, IsBroken, Breaks, Already, Absent, is_in, others, answer, after, broken_off}
use Rattle.cyclic_gate.specs.Runs.{after_all}
use Rattle.cyclic_gate.specs.Outcomes.{end_or}
use Rattle.cyclic_gate.specs.History.{LedgerEntry, outcome_of, ledger_entry, calls_of, AreRight, first_end}
use Rattle.cyclic_gate.specs.Ledger.{Book, book, kept_after, kept_end, end_of, read_by, is_end_of_generation, is_free}
use Rattle.cyclic_gate.specs.Forgetting.{arrivals, calls_since, BarriersAreTheirArrivals}
use Rattle.cyclic_gate.specs.Forgetting.{Waiter, waiter, Run, Event, Called, Wakes, is_made, noted, answered_to_wait, waiter_at, without, after_reading, after_event, after_events, begun, FindTheirEnd, ForgettingChangesNoAnswer}
use Rattle.cyclic_gate.proofs.Replay.{after_parties}
use Rattle.cyclic_gate.specs.declared.call.Call.{Call}
use Rattle.cyclic_gate.specs.declared.call.Call.TheVariants.{Await, Abandon, BreakOff, Reset}
use Rattle.cyclic_gate.specs.declared.ledger.KeptEnd.{KeptEnd}
use Rattle.cyclic_gate.specs.declared.ledger.Outcome.{Outcome}
use Rattle.cyclic_gate.specs.declared.ledger.Outcome.TheVariants.{GoesOn, Tripped, Broken}

-- how many of these callers waited in a generation, and how many have to read one of its ends
abbrev waiters_of : ℕ → List Waiter → ℕ
waiters_of g [] = 0
waiters_of g (w ∷ ws) = (if w.generation == g then 1 else 0) + waiters_of g ws

abbrev unread_of : ℕ → List KeptEnd → ℕ
unread_of g [] = 0
unread_of g (e ∷ es) = (if e.generation == g then e.unread else 0) + unread_of g es

abbrev total : List KeptEnd → ℕ
total [] = 0
total (e ∷ es) = e.unread + total es

-- each end is one, has readers, and is the only one of its generation
record IsGood (e : KeptEnd) (es : List KeptEnd) : Type 0 where
  pub some : 0 < e.unread
  pub end : is_end_of_generation e.outcome ≡ true
  pub only : unread_of e.generation es ≡ 0

abbrev AreGood : List KeptEnd → Type 0
AreGood [] = Unit {0}
AreGood (e ∷ es) = IsGood e es × AreGood es

abbrev Find : List KeptEnd → List LedgerEntry → List Waiter → Type 0
Find ends whole [] = Unit {0}
Find ends whole (w ∷ ws) = (w.place ≤ length whole) × (end_of w.generation ends ≡ first_end (drop w.place whole)) × Find ends whole ws

waiters_of-append : (g : ℕ) (ws : List Waiter) (w : Waiter)
    → waiters_of g (ws ++ w ∷ []) ≡ waiters_of g ws + (if w.generation == g then 1 else 0)
waiters_of-append g [] w = omega arith
waiters_of-append g (x ∷ xs) w = omega (arith, waiters_of-append g xs w)

unread_of-append : (g : ℕ) (es : List KeptEnd) (e : KeptEnd)
    → unread_of g (es ++ e ∷ []) ≡ unread_of g es + (if e.generation == g then e.unread else 0)
unread_of-append g [] e = omega arith
unread_of-append g (x ∷ xs) e = omega (arith, unread_of-append g xs e)

total-append : (es : List KeptEnd) (e : KeptEnd) → total (es ++ e ∷ []) ≡ total es + e.unread
total-append [] e = omega arith
total-append (x ∷ xs) e = omega (arith, total-append xs e)

few : (es : List KeptEnd) → AreGood es → length es ≤ total es
few [] good = omega arith
few (e ∷ es) good = let s = good.0.some in omega (arith, few es good.1)

good-append : (es : List KeptEnd) (e : KeptEnd) → AreGood es → IsGood e [] → unread_of e.generation es ≡ 0 → AreGood (es ++ e ∷ [])
good-append [] e good is none = (is, tt)
good-append (x ∷ xs) e good is none =
    let rest : unread_of e.generation xs ≡ 0 = omega arith in
    let apart : (e.generation == x.generation) ≡ false = let s = good.0.some in grind (arith, nat_tests) in
    let only : unread_of x.generation (xs ++ e ∷ []) ≡ 0 =
    rw (unread_of-append x.generation xs e, apart) (let o = good.0.only in omega arith) in
    (record { some = good.0.some; end = good.0.end; only = only }, good-append xs e good.1 is rest)

no_end : (g : ℕ) (es : List KeptEnd) → AreGood es → unread_of g es ≡ 0 → end_of g es ≡ GoesOn
no_end g [] good none = refl
no_end g (e ∷ es) good none =
    let s = good.0.some in
    let apart : (e.generation == g) ≡ false = grind (arith, nat_tests) in
    let rest : unread_of g es ≡ 0 = omega arith in
    rw apart (no_end g es good.1 rest)

some_unread : (g : ℕ) (es : List KeptEnd) → AreGood es → is_end_of_generation (end_of g es) ≡ true → 0 < unread_of g es
some_unread g [] good is = absurd cc
some_unread g (e ∷ es) good is =
    let s = good.0.some in
    elim (e.generation == g) as
    (λ b. is_end_of_generation (if b then e.outcome else end_of g es) ≡ true → 0 < (if b then e.unread else 0) + unread_of g es) [
      | true ↦ λ h. omega arith
      | false ↦ λ h. let rest = some_unread g es good.1 h in omega (arith, rest)
    ] is

end_or-left : (o later : Outcome) → is_end_of_generation o ≡ true → end_or o later ≡ o
end_or-left GoesOn later is = absurd cc
end_or-left Tripped later is = refl
end_or-left Broken later is = refl

end_or-goes : (o : Outcome) → end_or o GoesOn ≡ o
end_or-goes GoesOn = refl
end_or-goes Tripped = refl
end_or-goes Broken = refl

end_of-append : (g : ℕ) (es : List KeptEnd) (e : KeptEnd) → AreGood es
    → end_of g (es ++ e ∷ []) ≡ end_or (end_of g es) (if e.generation == g then e.outcome else GoesOn)
end_of-append g [] e good =
    elim (e.generation == g) as (λ b. (if b then e.outcome else GoesOn) ≡ (if b then e.outcome else GoesOn)) [ true ↦ refl | false ↦ refl ]
end_of-append g (x ∷ xs) e good =
    elim (x.generation == g) as
    (λ b. (if b then x.outcome else end_of g (xs ++ e ∷ []))
    ≡ end_or (if b then x.outcome else end_of g xs) (if e.generation == g then e.outcome else GoesOn)) [
      | true ↦ sym (end_or-left x.outcome _ good.0.end)
      | false ↦ end_of-append g xs e good.1
    ]

first_end-append : (ns : List LedgerEntry) (n : LedgerEntry) → first_end (ns ++ n ∷ []) ≡ end_or (first_end ns) n.outcome
first_end-append [] n = end_or-goes n.outcome
first_end-append (x ∷ xs) n =
    elim x.outcome as (λ o. end_or o (first_end (xs ++ n ∷ [])) ≡ end_or (end_or o (first_end xs)) n.outcome) [
      | GoesOn ↦ first_end-append xs n
      | Tripped ↦ refl
      | Broken ↦ refl
    ]

drop-more : (i : ℕ) (ns : List LedgerEntry) (n : LedgerEntry) → i ≤ length ns → drop i (ns ++ n ∷ []) ≡ drop i ns ++ n ∷ []
drop-more zero ns n in' = refl
drop-more (suc i) [] n in' = absurd (omega arith)
drop-more (suc i) (x ∷ xs) n in' = drop-more i xs n (omega arith)

-- one more entry, and the ends that go with it
find_more : (ends ends' : List KeptEnd) (whole : List LedgerEntry) (n : LedgerEntry) (ws : List Waiter) → Find ends whole ws
    → ((g : ℕ) → 0 < waiters_of g ws → end_of g ends' ≡ end_or (end_of g ends) n.outcome) → Find ends' (whole ++ n ∷ []) ws
find_more ends ends' whole n [] found new = tt
find_more ends ends' whole n (w ∷ ws) found new =
    let here : 0 < waiters_of w.generation (w ∷ ws) = grind (arith, nat_tests) in (
      simp length-append (let p = found.0 in omega arith),
      new w.generation here
          ∙ (ap (λ (o : Outcome). end_or o n.outcome) found.1
          ∙ (sym (first_end-append (drop w.place whole) n) ∙ ap first_end (sym (drop-more w.place whole n found.0)))),
      find_more ends ends' whole n ws found.2 (λ g some. new g (omega arith)),
    )

-- the same history, and other ends
find_same : (ends ends' : List KeptEnd) (whole : List LedgerEntry) (ws : List Waiter) → Find ends whole ws
    → ((g : ℕ) → 0 < waiters_of g ws → end_of g ends' ≡ end_of g ends) → Find ends' whole ws
find_same ends ends' whole [] found new = tt
find_same ends ends' whole (w ∷ ws) found new =
    let here : 0 < waiters_of w.generation (w ∷ ws) = grind (arith, nat_tests) in
    (found.0, new w.generation here ∙ found.1, find_same ends ends' whole ws found.2 (λ g some. new g (omega arith)))

find-append : (ends : List KeptEnd) (whole : List LedgerEntry) (ws : List Waiter) (w : Waiter) → Find ends whole ws → w.place ≤ length whole
    → end_of w.generation ends ≡ first_end (drop w.place whole) → Find ends whole (ws ++ w ∷ [])
find-append ends whole [] w found in' is = (in', is, tt)
find-append ends whole (x ∷ xs) w found in' is = (found.0, found.1, find-append ends whole xs w found.2 in' is)

find-without : (ends : List KeptEnd) (whole : List LedgerEntry) (n : ℕ) (ws : List Waiter) → Find ends whole ws
    → Find ends whole (without n ws)
find-without ends whole n [] found = tt
find-without ends whole zero (w ∷ ws) found = found.2
find-without ends whole (suc n) (w ∷ ws) found = (found.0, found.1, find-without ends whole n ws found.2)

abbrev index_waiter : Option Waiter → Waiter → Waiter
index_waiter None d = d
index_waiter (Some w) d = w

waiters_of-without : (g n : ℕ) (ws : List Waiter) (w : Waiter) → waiter_at n ws ≡ Some w
    → waiters_of g (without n ws) + (if w.generation == g then 1 else 0) ≡ waiters_of g ws
waiters_of-without g n [] w is = absurd cc
waiters_of-without g zero (x ∷ ws) w is =
    let same : x ≡ w = ap (λ o. index_waiter o w) is in rw (sym same) (omega arith)
waiters_of-without g (suc n) (x ∷ ws) w is = omega (arith, waiters_of-without g n ws w is)

length-without : (n : ℕ) (ws : List Waiter) (w : Waiter) → waiter_at n ws ≡ Some w → length (without n ws) + 1 ≡ length ws
length-without n [] w is = absurd cc
length-without zero (x ∷ ws) w is = omega arith
length-without (suc n) (x ∷ ws) w is = omega (arith, length-without n ws w is)

-- reading
read_one : (g y : ℕ) (es : List KeptEnd) → AreGood es → 0 < unread_of y es
    → unread_of g (read_by y es) + (if y == g then 1 else 0) ≡ unread_of g es
read_one g y [] good some = absurd (omega arith)
read_one g y (e ∷ es) good some =
    elim (e.generation == y) as
    (λ b. (e.generation == y) ≡ b
    → unread_of g
    (if b then (if nat_lt 1 e.unread then kept_end e.generation e.outcome (e.unread - 1) ∷ es else es) else e ∷ read_by y es)
    + (if y == g then 1 else 0)
    ≡ unread_of g (e ∷ es)) [
      | true ↦ λ h. mine h
      | false ↦ λ h. let k = rw h at some in let rest : 0 < unread_of y es = omega (arith, k) in omega (arith, read_one g y es good.1 rest)
    ] refl
  where
    mine : (e.generation == y) ≡ true
        → unread_of g (if nat_lt 1 e.unread then kept_end e.generation e.outcome (e.unread - 1) ∷ es else es) + (if y == g then 1 else 0)
        ≡ (if e.generation == g then e.unread else 0) + unread_of g es
    mine h =
        let same : e.generation ≡ y = grind (arith, nat_tests) in
        let s = good.0.some in
        elim (nat_lt 1 e.unread) as
        (λ b. nat_lt 1 e.unread ≡ b
        → unread_of g (if b then kept_end e.generation e.outcome (e.unread - 1) ∷ es else es) + (if y == g then 1 else 0)
        ≡ (if e.generation == g then e.unread else 0) + unread_of g es) [
          | true ↦ λ k. rw (sym same) (grind (arith, nat_tests))
          | false ↦ λ k. rw (sym same) (grind (arith, nat_tests))
        ] refl

read_total : (y : ℕ) (es : List KeptEnd) → AreGood es → 0 < unread_of y es → total (read_by y es) + 1 ≡ total es
read_total y [] good some = absurd (omega arith)
read_total y (e ∷ es) good some =
    let s = good.0.some in
    elim (e.generation == y) as
    (λ b. (e.generation == y) ≡ b
    → total (if b then (if nat_lt 1 e.unread then kept_end e.generation e.outcome (e.unread - 1) ∷ es else es) else e ∷ read_by y es)
    + 1
    ≡ e.unread + total es) [
      | true ↦ λ h. grind (arith, nat_tests)
      | false ↦ λ h. let k = rw h at some in let rest : 0 < unread_of y es = omega (arith, k) in omega (arith, read_total y es good.1 rest)
    ] refl

read_fewer : (g y : ℕ) (es : List KeptEnd) → unread_of g es ≡ 0 → unread_of g (read_by y es) ≡ 0
read_fewer g y [] none = refl
read_fewer g y (e ∷ es) none =
    let rest : unread_of g es ≡ 0 = omega arith in
    let head : (if e.generation == g then e.unread else 0) ≡ 0 = omega arith in
    elim (e.generation == y) as
    (λ b. unread_of g (if b then (if nat_lt 1 e.unread then kept_end e.generation e.outcome (e.unread - 1) ∷ es else es) else e ∷ read_by y es)
    ≡ 0) [
      | true ↦ elim (nat_lt 1 e.unread) as (λ b. unread_of g (if b then kept_end e.generation e.outcome (e.unread - 1) ∷ es else es) ≡ 0) [
        | true ↦ grind (arith, nat_tests)
        | false ↦ rest
      ]
      | false ↦ let left = read_fewer g y es rest in omega (arith, head, left)
    ]

read_good : (y : ℕ) (es : List KeptEnd) → AreGood es → AreGood (read_by y es)
read_good y [] good = tt
read_good y (e ∷ es) good =
    elim (e.generation == y) as
    (λ b. AreGood (if b then (if nat_lt 1 e.unread then kept_end e.generation e.outcome (e.unread - 1) ∷ es else es) else e ∷ read_by y es)) [
      | true ↦ elim (nat_lt 1 e.unread) as
          (λ b. nat_lt 1 e.unread ≡ b → AreGood (if b then kept_end e.generation e.outcome (e.unread - 1) ∷ es else es)) [
            | true ↦ λ k. let more : 1 < e.unread = grind (arith, nat_tests) in
                (record { some = omega arith; end = good.0.end; only = good.0.only }, good.1)
            | false ↦ λ k. good.1
          ] refl
      | false ↦ (record { some = good.0.some; end = good.0.end; only = read_fewer e.generation y es good.0.only }, read_good y es good.1)
    ]

read_other : (g y : ℕ) (es : List KeptEnd) → (y == g) ≡ false → end_of g (read_by y es) ≡ end_of g es
read_other g y [] apart = refl
read_other g y (e ∷ es) apart =
    elim (e.generation == y) as
    (λ b. (e.generation == y) ≡ b
    → end_of g (if b then (if nat_lt 1 e.unread then kept_end e.generation e.outcome (e.unread - 1) ∷ es else es) else e ∷ read_by y es)
    ≡ (if e.generation == g then e.outcome else end_of g es)) [
      | true ↦ λ h. let no : (e.generation == g) ≡ false = grind (arith, nat_tests) in
          elim (nat_lt 1 e.unread) as
          (λ b. end_of g (if b then kept_end e.generation e.outcome (e.unread - 1) ∷ es else es)
          ≡ (if e.generation == g then e.outcome else end_of g es)) [
            | true ↦ refl
            | false ↦ rw no refl
          ]
      | false ↦ λ h. rw (read_other g y es apart) refl
    ] refl

read_same : (y : ℕ) (es : List KeptEnd) → AreGood es → 0 < unread_of y (read_by y es) → end_of y (read_by y es) ≡ end_of y es
read_same y [] good some = refl
read_same y (e ∷ es) good some =
    elim (e.generation == y) as
    (λ b. (e.generation == y) ≡ b
    → 0
    < unread_of y
    (if b then (if nat_lt 1 e.unread then kept_end e.generation e.outcome (e.unread - 1) ∷ es else es) else e ∷ read_by y es)
    → end_of y (if b then (if nat_lt 1 e.unread then kept_end e.generation e.outcome (e.unread - 1) ∷ es else es) else e ∷ read_by y es)
    ≡ (if b then e.outcome else end_of y es)) [
      | true ↦ λ h. let same : e.generation ≡ y = grind (arith, nat_tests) in
          let none : unread_of y es ≡ 0 = subst (λ (n : ℕ). unread_of n es ≡ 0) same good.0.only in
          elim (nat_lt 1 e.unread) as
          (λ b. 0 < unread_of y (if b then kept_end e.generation e.outcome (e.unread - 1) ∷ es else es)
          → end_of y (if b then kept_end e.generation e.outcome (e.unread - 1) ∷ es else es) ≡ e.outcome) [
            | true ↦ λ k. rw h refl
            | false ↦ λ k. absurd (omega (arith, none, k))
          ]
      | false ↦ λ h k. let k' = rw h at k in
          let rest : 0 < unread_of y (read_by y es) = omega (arith, k') in
          rw h (read_same y es good.1 rest)
    ] refl some

-- what is kept of a run
record Kept (parties : ℕ) (fails : Option ℕ) (m : Machine) (ends : List KeptEnd) (whole : List LedgerEntry)
    (unread : List Waiter) : Type 0 where
  pub right : AreRight fails whole (fresh parties)
  pub barrier : after_all fails (calls_of whole) (fresh parties) ≡ m
  pub good : AreGood ends
  pub counts : (g : ℕ) → waiters_of g unread ≡ unread_of g ends + (if m.generation == g then length m.waiting else 0)
  pub alone : 0 < length m.waiting → unread_of m.generation ends ≡ 0
  pub found : Find ends whole unread
  pub total : total ends + length m.waiting ≡ length unread

-- what a call does to the barrier, by its answer
abbrev Did : Call → Book → Machine → Answer → Type 0
Did call b m' (Waiting i) =
    (m'.generation ≡ b.barrier.generation) × (length m'.waiting ≡ length b.barrier.waiting + 1) × (is_made call b ≡ is_free b)
Did call b m' (Trips all) = m'.waiting ≡ []
Did call b m' (Fails callers) = m'.waiting ≡ []
Did call b m' (Breaks callers) = m'.waiting ≡ []
Did call b m' IsBroken = m' ≡ b.barrier
Did call b m' Already = m' ≡ b.barrier
Did call b m' Absent = m' ≡ b.barrier

await_did : (fails : Option ℕ) (c p g : ℕ) (ws : List ℕ) (ends : List KeptEnd) (b b2 b3 b4 : Bool) → is_in c ws ≡ b2
    → (length ws + 1 == p) ≡ b3 → fails_at fails g ≡ b4
    → Did (Await c) (book fails (machine p g ws b) ends) (after fails (Await c) (machine p g ws b))
    (answer fails (Await c) (machine p g ws b))
await_did fails c p g ws ends true b2 b3 b4 e2 e3 e4 = refl
await_did fails c p g ws ends false true b3 b4 e2 e3 e4 = rw e2 refl
await_did fails c p g ws ends false false true true e2 e3 e4 = rw (e2, e3, e4) refl
await_did fails c p g ws ends false false true false e2 e3 e4 = rw (e2, e3, e4) refl
await_did fails c p g ws ends false false false b4 e2 e3 e4 = rw (e2, e3) (refl, length-append ws (c ∷ []), refl)

did : (call : Call) (b : Book) → Did call b (after b.fails call b.barrier) (answer b.fails call b.barrier)
did (Await c) b = await_did b.fails c b.barrier.parties b.barrier.generation b.barrier.waiting b.ends b.barrier.broken _ _ _ refl refl refl
did (Abandon c) b =
    elim (is_in c b.barrier.waiting) as
    (λ x. Did (Abandon c) b (if x then broken_off b.barrier else b.barrier) (if x then Breaks (others c b.barrier.waiting) else Absent))
    [ true ↦ refl | false ↦ refl ]
did BreakOff b = refl
did Reset b = refl

replayed-append : (fails : Option ℕ) (ns : List LedgerEntry) (n : LedgerEntry) (m : Machine)
    → after_all fails (calls_of (ns ++ n ∷ [])) m ≡ after fails n.call (after_all fails (calls_of ns) m)
replayed-append fails [] n m = refl
replayed-append fails (x ∷ xs) n m = replayed-append fails xs n (after fails x.call m)

right-append : (fails : Option ℕ) (ns : List LedgerEntry) (n : LedgerEntry) (m : Machine) → AreRight fails ns m
    → n.outcome ≡ outcome_of (answer fails n.call (after_all fails (calls_of ns) m)) → AreRight fails (ns ++ n ∷ []) m
right-append fails [] n m right here = (here, tt)
right-append fails (x ∷ xs) n m right here = (right.0, right-append fails xs n (after fails x.call m) right.1 here)

-- if a generation has no end, an arrival may be the first of it
no_end_kept : (b : Book) → AreGood b.ends → is_free b ≡ true → (0 < length b.barrier.waiting → unread_of b.barrier.generation b.ends ≡ 0)
    → end_of b.barrier.generation b.ends ≡ GoesOn
no_end_kept b good free alone =
    elim (length b.barrier.waiting == 0) as
    (λ x. (length b.barrier.waiting == 0) ≡ x → (not x || not (is_end_of_generation (end_of b.barrier.generation b.ends))) ≡ true
    → end_of b.barrier.generation b.ends ≡ GoesOn) [
      | true ↦ λ h k. goes (end_of b.barrier.generation b.ends) k
      | false ↦ λ h k. let some : 0 < length b.barrier.waiting = grind (arith, nat_tests) in
          no_end b.barrier.generation b.ends good (alone some)
    ] refl free
  where
    goes : (o : Outcome) → not (is_end_of_generation o) ≡ true → o ≡ GoesOn
    goes GoesOn k = refl
    goes Tripped k = absurd cc
    goes Broken k = absurd cc

not_ended : (g : ℕ) (ends : List KeptEnd) → AreGood ends → end_of g ends ≡ GoesOn → unread_of g ends ≡ 0
not_ended g [] good is = refl
not_ended g (e ∷ es) good is =
    elim (e.generation == g) as (λ b. (if b then e.outcome else end_of g es) ≡ GoesOn → (if b then e.unread else 0) + unread_of g es ≡ 0) [
      | true ↦ λ h. let no : true ≡ false = sym good.0.end ∙ ap is_end_of_generation h in absurd cc
      | false ↦ λ h. let rest = not_ended g es good.1 h in omega (arith, rest)
    ] is

-- a caller that waits
waited : (parties : ℕ) (call : Call) (b : Book) (whole : List LedgerEntry) (unread : List Waiter) (i : ℕ)
    → answer b.fails call b.barrier ≡ Waiting i → Did call b (after b.fails call b.barrier) (Waiting i) → is_made call b ≡ true
    → Kept parties b.fails b.barrier b.ends whole unread
    → Kept parties b.fails (after b.fails call b.barrier) b.ends (whole ++ ledger_entry call (Waiting i) ∷ [])
    (unread ++ waiter b.barrier.generation (length whole + 1) ∷ [])
waited parties call b whole unread i is what made was =
    let m = b.barrier in
    let n = ledger_entry call (Waiting i) in
    let w = waiter m.generation (length whole + 1) in
    let free : is_free b ≡ true = sym what.2 ∙ made in
    let none : end_of m.generation b.ends ≡ GoesOn = no_end_kept b was.good free was.alone in
    let len : length (whole ++ n ∷ []) ≡ length whole + 1 = length-append whole (n ∷ []) in
    let behind : drop (length whole + 1) (whole ++ n ∷ []) ≡ [] = drop-all (length whole + 1) (whole ++ n ∷ []) (omega (arith, len)) in
    record {
      right =
          right-append b.fails whole n (fresh parties) was.right
          (sym (ap (λ (x : Machine). outcome_of (answer b.fails call x)) was.barrier ∙ ap outcome_of is));
      barrier = replayed-append b.fails whole n (fresh parties) ∙ ap (after b.fails call) was.barrier;
      good = was.good;
      counts =
          λ g. rw (waiters_of-append g unread w, what.0, what.1)
          (let c = was.counts g in
          elim (m.generation == g) as
          (λ x. waiters_of g unread ≡ unread_of g b.ends + (if x then length m.waiting else 0)
          → waiters_of g unread + (if x then 1 else 0) ≡ unread_of g b.ends + (if x then length m.waiting + 1 else 0))
          [ true ↦ λ k. omega (arith, k) | false ↦ λ k. omega (arith, k) ] c);
      alone = λ some. rw what.0 (not_ended m.generation b.ends was.good none);
      found =
          find-append b.ends (whole ++ n ∷ []) unread w
          (find_more b.ends b.ends whole n unread was.found (λ g some. sym (end_or-goes (end_of g b.ends)))) (omega (arith, len))
          (none ∙ ap first_end (sym behind));
      total = rw (length-append unread (w ∷ []), what.1) (let t = was.total in omega (arith, t));
    }
  where
    drop-all : (i : ℕ) (ns : List LedgerEntry) → length ns ≤ i → drop i ns ≡ []
    drop-all zero [] in' = refl
    drop-all zero (x ∷ xs) in' = absurd (omega arith)
    drop-all (suc i) [] in' = refl
    drop-all (suc i) (x ∷ xs) in' = drop-all i xs (omega arith)

-- a call that ends a generation
ended : (parties : ℕ) (call : Call) (b : Book) (whole : List LedgerEntry) (unread : List Waiter) (a : Answer)
    → answer b.fails call b.barrier ≡ a → (after b.fails call b.barrier).waiting ≡ [] → is_end_of_generation (outcome_of a) ≡ true
    → Kept parties b.fails b.barrier b.ends whole unread
    → Kept parties b.fails (after b.fails call b.barrier) (kept_after b.barrier.generation (outcome_of a) (length b.barrier.waiting) b.ends)
    (whole ++ ledger_entry call a ∷ []) unread
ended parties call b whole unread a is nobody ends was =
    let m = b.barrier in
    let n = ledger_entry call a in
    let here : after_all b.fails (calls_of (whole ++ n ∷ [])) (fresh parties) ≡ after b.fails call m =
    replayed-append b.fails whole n (fresh parties) ∙ ap (after b.fails call) was.barrier in
    let right' : AreRight b.fails (whole ++ n ∷ []) (fresh parties) =
    right-append b.fails whole n (fresh parties) was.right
    (sym (ap (λ (x : Machine). outcome_of (answer b.fails call x)) was.barrier ∙ ap outcome_of is)) in
    elim (length m.waiting == 0) as
    (λ x. (length m.waiting == 0) ≡ x
    → Kept parties b.fails (after b.fails call m)
    (if is_end_of_generation (outcome_of a) && not x then b.ends ++ kept_end m.generation (outcome_of a) (length m.waiting) ∷ []
    else b.ends)
    (whole ++ n ∷ []) unread) [
      | true ↦ λ h. let empty : length m.waiting ≡ 0 = grind (arith, nat_tests) in rw ends (record {
        right = right';
        barrier = here;
        good = was.good;
        counts = λ g. rw nobody (let c = was.counts g in rw empty at c ∙ same_zero g b.ends m.generation (after b.fails call m).generation);
        alone = λ some. absurd (let none : length (after b.fails call m).waiting ≡ 0 = ap length nobody in omega (arith, none, some));
        found = find_more b.ends b.ends whole n unread was.found (λ g some.
            let c = was.counts g in
            let c' : waiters_of g unread ≡ unread_of g b.ends =
            (rw empty at c) ∙ sym (zero_more (unread_of g b.ends) (m.generation == g)) in
            sym (end_or-left (end_of g b.ends) (outcome_of a) (has_end g b.ends was.good (omega (arith, c', some)))));
        total = rw nobody (let t = was.total in omega (arith, t, empty));
      })
      | false ↦ λ h. let some : 0 < length m.waiting = grind (arith, nat_tests) in rw ends (record {
        right = right';
        barrier = here;
        good =
            good-append b.ends (kept_end m.generation (outcome_of a) (length m.waiting)) was.good
            (record { some = some; end = ends; only = refl }) (was.alone some);
        counts =
            λ g. rw (nobody, unread_of-append g b.ends (kept_end m.generation (outcome_of a) (length m.waiting)))
            (let c = was.counts g in
            c
            ∙ zero_more (unread_of g b.ends + (if m.generation == g then length m.waiting else 0))
            ((after b.fails call m).generation == g));
        alone = λ more. absurd (let none : length (after b.fails call m).waiting ≡ 0 = ap length nobody in omega (arith, none, more));
        found =
            find_more b.ends (b.ends ++ kept_end m.generation (outcome_of a) (length m.waiting) ∷ []) whole n unread was.found (λ g more.
            end_of-append g b.ends (kept_end m.generation (outcome_of a) (length m.waiting)) was.good ∙ its g more);
        total =
            rw (nobody, total-append b.ends (kept_end m.generation (outcome_of a) (length m.waiting)))
            (let t = was.total in omega (arith, t));
      })
    ] refl
  where
    same_zero : (g : ℕ) (es : List KeptEnd) (x y : ℕ)
        → unread_of g es + (if x == g then 0 else 0) ≡ unread_of g es + (if y == g then 0 else 0)
    same_zero g es x y = grind (arith, nat_tests)

    zero_more : (k : ℕ) (x : Bool) → k ≡ k + (if x then 0 else 0)
    zero_more k true = omega arith
    zero_more k false = omega arith

    has_end : (g : ℕ) (es : List KeptEnd) → AreGood es → 0 < unread_of g es → is_end_of_generation (end_of g es) ≡ true
    has_end g [] good some = absurd (omega arith)
    has_end g (e ∷ es) good some =
        elim (e.generation == g) as
        (λ x. 0 < (if x then e.unread else 0) + unread_of g es → is_end_of_generation (if x then e.outcome else end_of g es) ≡ true) [
          | true ↦ λ k. good.0.end
          | false ↦ λ k. has_end g es good.1 (omega (arith, k))
        ] some

    its : (g : ℕ) → 0 < waiters_of g unread
        → end_or (end_of g b.ends) (if b.barrier.generation == g then outcome_of a else GoesOn) ≡ end_or (end_of g b.ends) (outcome_of a)
    its g more =
        let c = was.counts g in
        elim (b.barrier.generation == g) as
        (λ x. waiters_of g unread ≡ unread_of g b.ends + (if x then length b.barrier.waiting else 0)
        → end_or (end_of g b.ends) (if x then outcome_of a else GoesOn) ≡ end_or (end_of g b.ends) (outcome_of a)) [
          | true ↦ λ k. refl
          | false ↦ λ k. let is' = has_end g b.ends was.good (omega (arith, k, more)) in
              end_or-left (end_of g b.ends) GoesOn is' ∙ sym (end_or-left (end_of g b.ends) (outcome_of a) is')
        ] c

-- a call, by its answer
called : (parties : ℕ) (call : Call) (b : Book) (whole : List LedgerEntry) (unread : List Waiter) (a : Answer)
    → answer b.fails call b.barrier ≡ a → Did call b (after b.fails call b.barrier) a → is_made call b ≡ true
    → Kept parties b.fails b.barrier b.ends whole unread
    → Kept parties b.fails (after b.fails call b.barrier) (kept_after b.barrier.generation (outcome_of a) (length b.barrier.waiting) b.ends)
    (noted call a whole) (answered_to_wait a b.barrier.generation whole unread)
called parties call b whole unread (Waiting i) is what made was = waited parties call b whole unread i is what made was
called parties call b whole unread (Trips all) is what made was = ended parties call b whole unread (Trips all) is what refl was
called parties call b whole unread (Fails callers) is what made was = ended parties call b whole unread (Fails callers) is what refl was
called parties call b whole unread (Breaks callers) is what made was = ended parties call b whole unread (Breaks callers) is what refl was
called parties call b whole unread IsBroken is what made was = rw what was
called parties call b whole unread Already is what made was = rw what was
called parties call b whole unread Absent is what made was = rw what was

-- a caller reads its end
read : (parties n : ℕ) (w : Waiter) (b : Book) (whole : List LedgerEntry) (unread : List Waiter) → waiter_at n unread ≡ Some w
    → is_end_of_generation (end_of w.generation b.ends) ≡ true
    → Kept parties b.fails b.barrier b.ends whole unread
    → Kept parties b.fails b.barrier (read_by w.generation b.ends) whole (without n unread)
read parties n w b whole unread at' is was =
    let y = w.generation in
    let some : 0 < unread_of y b.ends = some_unread y b.ends was.good is in
    record {
      right = was.right;
      barrier = was.barrier;
      good = read_good y b.ends was.good;
      counts = counts';
      alone = λ waits. read_fewer b.barrier.generation y b.ends (was.alone waits);
      found =
          find_same b.ends (read_by y b.ends) whole (without n unread) (find-without b.ends whole n unread was.found)
          (λ g more. same g more);
      total = let t = was.total in
          let r = read_total y b.ends was.good some in
          let l = length-without n unread w at' in
          omega (arith, t, r, l);
    }
  where
    counts' : (g : ℕ)
        → waiters_of g (without n unread)
        ≡ unread_of g (read_by w.generation b.ends) + (if b.barrier.generation == g then length b.barrier.waiting else 0)
    counts' g =
        let some : 0 < unread_of w.generation b.ends = some_unread w.generation b.ends was.good is in
        let c = was.counts g in
        let l = waiters_of-without g n unread w at' in
        let r = read_one g w.generation b.ends was.good some in omega (arith, c, l, r)

    same : (g : ℕ) → 0 < waiters_of g (without n unread) → end_of g (read_by w.generation b.ends) ≡ end_of g b.ends
    same g more =
        elim (w.generation == g) as (λ x. (w.generation == g) ≡ x → end_of g (read_by w.generation b.ends) ≡ end_of g b.ends) [
          | true ↦ λ h.
              let one : w.generation ≡ g = grind (arith, nat_tests) in
              let some : 0 < unread_of w.generation b.ends = some_unread w.generation b.ends was.good is in
              let nobody : (if b.barrier.generation == g then length b.barrier.waiting else 0) ≡ 0 =
              alone' g (subst (λ (k : ℕ). 0 < unread_of k b.ends) one some) in
              let c = counts' g in
              let left : 0 < unread_of g (read_by w.generation b.ends) = omega (arith, c, nobody, more) in
              subst (λ (k : ℕ). 0 < unread_of g (read_by k b.ends) → end_of g (read_by k b.ends) ≡ end_of g b.ends) (sym one)
              (λ k. read_same g b.ends was.good k) left
          | false ↦ λ h. read_other g w.generation b.ends h
        ] refl
      where
        alone' : (g : ℕ) → 0 < unread_of g b.ends → (if b.barrier.generation == g then length b.barrier.waiting else 0) ≡ 0
        alone' g some =
            elim (b.barrier.generation == g) as (λ x. (b.barrier.generation == g) ≡ x → (if x then length b.barrier.waiting else 0) ≡ 0) [
              | true ↦ λ h.
                  let one : b.barrier.generation ≡ g = grind (arith, nat_tests) in
                  elim (nat_lt 0 (length b.barrier.waiting)) as
                  (λ z. nat_lt 0 (length b.barrier.waiting) ≡ z → length b.barrier.waiting ≡ 0) [
                    | true ↦ λ k. let waits : 0 < length b.barrier.waiting = grind (arith, nat_tests) in
                        let none : unread_of g b.ends ≡ 0 = subst (λ (k : ℕ). unread_of k b.ends ≡ 0) one (was.alone waits) in
                        absurd (omega (arith, none, some))
                    | false ↦ λ k. grind (arith, nat_tests)
                  ] refl
              | false ↦ λ h. refl
            ] refl

abbrev KeptIn : ℕ → Option ℕ → Run → Type 0
KeptIn parties fails r = (r.book.fails ≡ fails) × Kept parties r.book.fails r.book.barrier r.book.ends r.whole r.unread

step : (parties : ℕ) (fails : Option ℕ) (e : Event) (r : Run) → KeptIn parties fails r → KeptIn parties fails (after_event e r)
step parties fails (Called call) r was =
    elim (is_made call r.book) as (λ x. is_made call r.book ≡ x → KeptIn parties fails (if x then record {
      book =
          book r.book.fails (after r.book.fails call r.book.barrier)
          (kept_after r.book.barrier.generation (outcome_of (answer r.book.fails call r.book.barrier)) (length r.book.barrier.waiting) r.book.ends);
      whole = noted call (answer r.book.fails call r.book.barrier) r.whole;
      unread = answered_to_wait (answer r.book.fails call r.book.barrier) r.book.barrier.generation r.whole r.unread;
    } else r)) [
      | true ↦ λ made.
          (was.0, called parties call r.book r.whole r.unread (answer r.book.fails call r.book.barrier) refl (did call r.book) made was.1)
      | false ↦ λ made. was
    ] refl
step parties fails (Wakes n) r was =
    elim (waiter_at n r.unread) as (λ o. waiter_at n r.unread ≡ o → KeptIn parties fails (after_reading n o r)) [
      | None ↦ λ is. was
      | Some w ↦ λ is. elim (is_end_of_generation (end_of w.generation r.book.ends)) as
          (λ x. is_end_of_generation (end_of w.generation r.book.ends) ≡ x → KeptIn parties fails (if x then record {
            book = book r.book.fails r.book.barrier (read_by w.generation r.book.ends);
            whole = r.whole;
            unread = without n r.unread;
          } else r)) [
            | true ↦ λ ends. (was.0, read parties n w r.book r.whole r.unread is ends was.1)
            | false ↦ λ ends. was
          ] refl
    ] refl

steps : (parties : ℕ) (fails : Option ℕ) (es : List Event) (r : Run) → KeptIn parties fails r → KeptIn parties fails (after_events es r)
steps parties fails [] r was = was
steps parties fails (e ∷ es) r was = steps parties fails es (after_event e r) (step parties fails e r was)

find_end : (r : Run) (ws : List Waiter) → Find r.book.ends r.whole ws → FindTheirEnd r ws
find_end r [] found = tt
find_end r (w ∷ ws) found = (found.1, find_end r ws found.2)

pub forgetting_changes_no_answer : ForgettingChangesNoAnswer
forgetting_changes_no_answer parties fails events =
    let r = after_events events (begun parties fails) in
    let first : KeptIn parties fails (begun parties fails) = (
      refl,
      record {
        right = tt;
        barrier = refl;
        good = tt;
        counts = λ g. grind (arith, nat_tests);
        alone = λ some. refl;
        found = tt;
        total = refl;
      },
    ) in
    let kept = (steps parties fails events (begun parties fails) first).1 in
    record {
      right = kept.right;
      barrier = kept.barrier;
      found = find_end r r.unread kept.found;
      few = let f = few r.book.ends kept.good in let t = kept.total in omega (arith, f, t);
    }

-- the barrier is its arrivals
abbrev IsItsArrivals : Option ℕ → Machine → Type 0
IsItsArrivals fails m = after_all fails (calls_since m) (machine m.parties m.generation [] false) ≡ m

arrivals-append : (ws : List ℕ) (c : ℕ) → arrivals (ws ++ c ∷ []) ≡ arrivals ws ++ Await c ∷ []
arrivals-append [] c = refl
arrivals-append (w ∷ ws) c = ap (λ (l : List Call). Await w ∷ l) (arrivals-append ws c)

left-append : (fails : Option ℕ) (cs : List Call) (c : Call) (m : Machine)
    → after_all fails (cs ++ c ∷ []) m ≡ after fails c (after_all fails cs m)
left-append fails [] c m = refl
left-append fails (x ∷ xs) c m = left-append fails xs c (after fails x m)

await_arrivals : (fails : Option ℕ) (c p g : ℕ) (ws : List ℕ) (b b2 b3 b4 : Bool) → is_in c ws ≡ b2 → (length ws + 1 == p) ≡ b3
    → fails_at fails g ≡ b4
    → IsItsArrivals fails (machine p g ws b) → IsItsArrivals fails (after fails (Await c) (machine p g ws b))
await_arrivals fails c p g ws true b2 b3 b4 e2 e3 e4 was = was
await_arrivals fails c p g ws false true b3 b4 e2 e3 e4 was = rw e2 was
await_arrivals fails c p g ws false false true true e2 e3 e4 was = rw (e2, e3, e4) refl
await_arrivals fails c p g ws false false true false e2 e3 e4 was = rw (e2, e3, e4) refl
await_arrivals fails c p g ws false false false b4 e2 e3 e4 was =
    let joins : after fails (Await c) (machine p g ws false) ≡ machine p g (ws ++ c ∷ []) false = rw (e2, e3) refl in
    let new : after_all fails (arrivals (ws ++ c ∷ [])) (machine p g [] false) ≡ machine p g (ws ++ c ∷ []) false =
    ap (λ (l : List Call). after_all fails l (machine p g [] false)) (arrivals-append ws c)
    ∙ (left-append fails (arrivals ws) (Await c) (machine p g [] false) ∙ (ap (after fails (Await c)) was ∙ joins)) in
    rw (e2, e3) new

call_arrivals : (fails : Option ℕ) (call : Call) (m : Machine) → IsItsArrivals fails m → IsItsArrivals fails (after fails call m)
call_arrivals fails (Await c) m was = await_arrivals fails c m.parties m.generation m.waiting m.broken _ _ _ refl refl refl was
call_arrivals fails (Abandon c) m was =
    elim (is_in c m.waiting) as (λ b. IsItsArrivals fails (if b then broken_off m else m)) [ true ↦ refl | false ↦ was ]
call_arrivals fails BreakOff m was = refl
call_arrivals fails Reset m was = refl

record Arrived (parties : ℕ) (fails : Option ℕ) (m : Machine) : Type 0 where
  pub parties' : m.parties ≡ parties
  pub arrivals' : IsItsArrivals fails m

all_arrivals : (fails : Option ℕ) (calls : List Call) (parties : ℕ) (m : Machine) → Arrived parties fails m
    → Arrived parties fails (after_all fails calls m)
all_arrivals fails [] parties m was = was
all_arrivals fails (c ∷ cs) parties m was =
    all_arrivals fails cs parties (after fails c m)
    (record { parties' = after_parties fails c m ∙ was.parties'; arrivals' = call_arrivals fails c m was.arrivals' })

pub barriers_are_their_arrivals : BarriersAreTheirArrivals
barriers_are_their_arrivals parties fails calls =
    let m = after_all fails calls (fresh parties) in
    let all : Arrived parties fails m = all_arrivals fails calls parties (fresh parties) (record { parties' = refl; arrivals' = refl }) in
    subst (λ (p : ℕ). after_all fails (calls_since m) (machine p m.generation [] false) ≡ m) all.parties' all.arrivals'
