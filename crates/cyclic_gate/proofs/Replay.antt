use Rattle.std.proofs.Common.{length, ◌<◌, arith, nat_lt, ◌==◌, ◌||◌, ◌≡◌, ℕ, Bool, true, false, if◌then◌else◌, Option, List, [], ◌∷◌, ◌++◌, refl, ap, sym, ◌∙◌, subst}
use Rattle.cyclic_gate.specs.Machine.{Machine, machine, fresh}
use Rattle.cyclic_gate.specs.Steps.{is_in, is_full_by_one, after, broken_off, renewed, joined}
use Rattle.advance_rule.specs.Action.{fails_at}
use Rattle.cyclic_gate.specs.Runs.{after_all, AfterSome}
use Rattle.cyclic_gate.specs.Ledger.{Book, book, IsReached, HasRoom}
use Rattle.cyclic_gate.specs.declared.call.Call.{Call}
use Rattle.cyclic_gate.specs.declared.call.Call.TheVariants.{Await, Abandon, BreakOff, Reset}
use Rattle.cyclic_gate.specs.declared.ledger.KeptEnd.{KeptEnd}
use Rattle.std.proofs.lemmas.Bool.Decides.{nat_tests}

left-append : (fails : Option ℕ) (cs : List Call) (c : Call) (m : Machine)
    → after_all fails (cs ++ c ∷ []) m ≡ after fails c (after_all fails cs m)
left-append fails [] c m = refl
left-append fails (x ∷ xs) c m = left-append fails xs c (after fails x m)

-- Each step keeps the parties
await_parties : (p g : ℕ) (ws : List ℕ) (c : ℕ) (b b1 b2 b3 : Bool)
    → (if b then machine p g ws b
    else (if b1 then machine p g ws b
    else (if b2 then (if b3 then broken_off (machine p g ws b) else renewed (machine p g ws b)) else joined c (machine p g ws b)))).parties
    ≡ p
await_parties p g ws c true b1 b2 b3 = refl
await_parties p g ws c false true b2 b3 = refl
await_parties p g ws c false false true true = refl
await_parties p g ws c false false true false = refl
await_parties p g ws c false false false b3 = refl

pub after_parties : (fails : Option ℕ) (call : Call) (m : Machine) → (after fails call m).parties ≡ m.parties
after_parties fails (Await c) m =
    await_parties m.parties m.generation m.waiting c m.broken (is_in c m.waiting) (is_full_by_one m) (fails_at fails m.generation)
after_parties fails (Abandon c) m =
    elim (is_in c m.waiting) as (λ b. (if b then broken_off m else m).parties ≡ m.parties) [ true ↦ refl | false ↦ refl ]
after_parties fails BreakOff m = refl
after_parties fails Reset m = refl

-- one more call leaves a barrier that some list of calls leaves
pub reached_more : (fails : Option ℕ) (call : Call) (m m' : Machine) → IsReached fails m → m' ≡ after fails call m → IsReached fails m'
reached_more fails call m m' was state =
    let same : (after fails call m).parties ≡ m.parties = after_parties fails call m in
    let all : List Call = was.0 ++ call ∷ [] in
    let left : after_all fails all (fresh m.parties) ≡ after fails call m =
    left-append fails was.0 call (fresh m.parties) ∙ ap (after fails call) was.1 in
    rw state (all, subst (λ (p : ℕ). after_all fails all (fresh p) ≡ after fails call m) (sym same) left)

pub has_room : (m : Machine) (len capacity : ℕ) → len < capacity → HasRoom m len capacity
has_room m len capacity less =
    let lt : nat_lt len capacity ≡ true = grind (arith, nat_tests) in
    rw lt (elim (length m.waiting == 0) as (λ b. (b || true) ≡ true) [ true ↦ refl | false ↦ refl ])

-- if nobody waits no room is needed
pub nobody_room : (m : Machine) (len capacity : ℕ) → m.waiting ≡ [] → HasRoom m len capacity
nobody_room m len capacity nobody = rw nobody refl

pub room_left : (m : Machine) (len capacity : ℕ) → HasRoom m len capacity → 0 < length m.waiting → len < capacity
room_left m len capacity has some =
    let waits : (length m.waiting == 0) ≡ false = grind (arith, nat_tests) in
    let lt : nat_lt len capacity ≡ true = rw waits at has in grind (arith, nat_tests)

-- the barrier of a ledger is one that some list of calls leaves
pub reached_by : (fails : Option ℕ) (m : Machine) (ends : List KeptEnd) (b : Book) → book fails m ends ≡ b → IsReached fails m
    → AfterSome b.barrier.parties b.fails (λ x. x ≡ b.barrier)
reached_by fails m ends b same was = subst (λ (x : Book). AfterSome x.barrier.parties x.fails (λ y. y ≡ x.barrier)) same was
