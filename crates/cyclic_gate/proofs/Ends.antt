use Rattle.std.proofs.Common.{◌≡◌, ℕ, suc, ◌+◌, ◌-◌, ◌<◌, ◌≤◌, ◌==◌, Bool, true, false, nat_lt, if◌then◌else◌, Option, List, [], ◌∷◌, ◌++◌, length, take, drop, get_or, refl, ap, sym, ◌∙◌, arith}
use Rattle.std.proofs.Math.ListN.{set}
use Rattle.std.proofs.Math.Seq.{drop-cons}
use Rattle.std.proofs.lemmas.Bool.Decides.{nat_tests}
use Rattle.std.proofs.lemmas.List.{take-append-drop, take-set, drop-set}
use Rattle.advance_rule.specs.Action.{fails_at}
use Rattle.cyclic_gate.specs.Machine.{Machine, machine}
use Rattle.cyclic_gate.specs.Steps.{Answer, Waiting, Trips, Fails, IsBroken, Breaks, Already, Absent, is_in, is_full_by_one, index_of, indexed, others, answer, after, broken_off, renewed, joined}
use Rattle.cyclic_gate.specs.History.{outcome_of}
use Rattle.cyclic_gate.specs.Seen.{IsArrived}
use Rattle.cyclic_gate.specs.Ledger.{HasRoom, IsPlace, is_end_of_generation, kept_end, outcome_for, read_by}
use Rattle.cyclic_gate.proofs.Replay.{has_room, nobody_room}
use Rattle.cyclic_gate.specs.declared.call.Arrived.{Arrived}
use Rattle.cyclic_gate.specs.declared.call.Call.{Call}
use Rattle.cyclic_gate.specs.declared.call.Call.TheVariants.{Await, Abandon, BreakOff, Reset}
use Rattle.cyclic_gate.specs.declared.ledger.KeptEnd.{KeptEnd}
use Rattle.cyclic_gate.specs.declared.ledger.Outcome.{Outcome}
use Rattle.cyclic_gate.specs.declared.ledger.Outcome.TheVariants.{GoesOn}

pub below : (i n : ℕ) → i ≤ n → (i ≡ n → ⊥) → i < n
below i n most other = grind (arith, nat_tests)

-- an end that others have still to read is kept for one fewer
pub read_left : (g : ℕ) (es : List KeptEnd) (i : ℕ) (e y : KeptEnd) → IsPlace g es i → i < length es → e ≡ get_or es i e → 1 < e.unread
    → y ≡ kept_end e.generation e.outcome (e.unread - 1) → set es i y ≡ read_by g es
read_left g es i e y place in' here more new =
    let next : suc i ≡ i + 1 = omega arith in
    let last : drop i es ≡ e ∷ drop (i + 1) es =
    drop-cons es i e in' ∙ (ap (λ (x : KeptEnd). x ∷ drop (suc i) es) (sym here) ∙ ap (λ (n : ℕ). e ∷ drop n es) next) in
    let mine : (e.generation == g) ≡ true = let same : (get_or es i e).generation ≡ g = place.here e in' in
    let same' : e.generation ≡ g = ap (λ (x : KeptEnd). x.generation) here ∙ same in
    grind (arith, nat_tests) in
    let some : nat_lt 1 e.unread ≡ true = grind (arith, nat_tests) in
    let read : read_by g (e ∷ drop (i + 1) es) ≡ y ∷ drop (i + 1) es = rw (mine, some, new) refl in
    let left : set es i y ≡ take i es ++ (y ∷ drop (i + 1) es) =
    sym (take-append-drop i (set es i y))
    ∙ (ap (λ (l : List KeptEnd). l ++ drop i (set es i y)) (take-set es i y)
    ∙ ap (λ (l : List KeptEnd). take i es ++ l) (drop-set es i y in')) in
    left ∙ (ap (λ (l : List KeptEnd). take i es ++ l) (sym read ∙ ap (read_by g) (sym last)) ∙ sym place.others)

-- a call that ends a generation leaves nobody waiting
await_nobody : (p g : ℕ) (ws : List ℕ) (c : ℕ) (b b1 b2 b3 : Bool)
    → is_end_of_generation
    (outcome_of (if b then IsBroken else (if b1 then Already else (if b2 then (if b3 then Fails ws else Trips (indexed p 0 (ws ++ c ∷ []))) else Waiting (index_of p (length ws))))))
    ≡ true
    → (if b then machine p g ws b
    else (if b1 then machine p g ws b
    else (if b2 then (if b3 then broken_off (machine p g ws b) else renewed (machine p g ws b)) else joined c (machine p g ws b)))).waiting
    ≡ []
await_nobody p g ws c true b1 b2 b3 e = absurd cc
await_nobody p g ws c false true b2 b3 e = absurd cc
await_nobody p g ws c false false true true e = refl
await_nobody p g ws c false false true false e = refl
await_nobody p g ws c false false false b3 e = absurd cc

pub end_nobody : (fails : Option ℕ) (call : Call) (m : Machine) → is_end_of_generation (outcome_of (answer fails call m)) ≡ true
    → (after fails call m).waiting ≡ []
end_nobody fails (Await c) m e =
    await_nobody m.parties m.generation m.waiting c m.broken (is_in c m.waiting) (is_full_by_one m) (fails_at fails m.generation) e
end_nobody fails (Abandon c) m e =
    elim (is_in c m.waiting) as
    (λ b. is_end_of_generation (outcome_of (if b then Breaks (others c m.waiting) else Absent)) ≡ true
    → (if b then broken_off m else m).waiting ≡ []) [
      | true ↦ λ h. refl
      | false ↦ λ h. absurd cc
    ] e
end_nobody fails BreakOff m e = refl
end_nobody fails Reset m e = refl

pub arrived_outcome : (a : Arrived) (x : Answer) → IsArrived a x → outcome_for a ≡ outcome_of x
arrived_outcome a (Waiting i) is = ap outcome_for is
arrived_outcome a (Trips all) is = ap outcome_for is
arrived_outcome a (Fails callers) is = ap outcome_for is
arrived_outcome a IsBroken is = ap outcome_for is
arrived_outcome a (Breaks callers) is = elim is [ ]
arrived_outcome a Already is = elim is [ ]
arrived_outcome a Absent is = elim is [ ]

room_for : (o : Outcome) (m : Machine) (len capacity len' capacity' : ℕ) → len < capacity → (is_end_of_generation o ≡ true → m.waiting ≡ [])
    → (o ≡ GoesOn → (len' ≡ len) × (capacity' ≡ capacity)) → HasRoom m len' capacity'
room_for GoesOn m len capacity len' capacity' less ended same = let e = same refl in has_room m len' capacity' (rw (e.0, e.1) less)
room_for _ m len capacity len' capacity' less ended same = nobody_room m len' capacity' (ended refl)

-- an arrival that found room leaves it if callers wait
pub arrived_room : (fails : Option ℕ) (c : ℕ) (m m' : Machine) (a : Arrived) (len capacity len' capacity' : ℕ)
    → IsArrived a (answer fails (Await c) m) → m' ≡ after fails (Await c) m → len < capacity
    → (outcome_for a ≡ GoesOn → (len' ≡ len) × (capacity' ≡ capacity)) → HasRoom m' len' capacity'
arrived_room fails c m m' a len capacity len' capacity' is state less same =
    let o : outcome_for a ≡ outcome_of (answer fails (Await c) m) = arrived_outcome a (answer fails (Await c) m) is in
    room_for (outcome_for a) m' len capacity len' capacity' less (λ e. rw state (end_nobody fails (Await c) m (rw o at e))) same
