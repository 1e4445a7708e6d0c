use Rattle.std.proofs.Common.{◌≡◌, ◌⊎◌, inl, inr, ℕ, ◌+◌, ◌==◌, Bool, true, false, ◌||◌, eqb, if◌then◌else◌, Option, Some, List, [], ◌∷◌, ◌++◌, length, refl, ap, sym, arith}
use Rattle.std.proofs.Math.Seq.{drop-append-add}
use Rattle.std.proofs.lemmas.Bool.Decides.{nat_tests}
use Rattle.std.proofs.lemmas.List.Elements.{Contains-append_left, Contains-push}
use Rattle.std.specs.Prelude.{Contains}
use Rattle.advance_rule.specs.Action.{fails_at}
use Rattle.cyclic_gate.specs.Machine.{Machine, machine, fresh}
use Rattle.cyclic_gate.specs.Steps.{Answer, Waiting, Trips, Fails, IsBroken, Breaks, Already, Absent, is_in, others, indexed, index_of, answer, after}
use Rattle.cyclic_gate.specs.Runs.{after_all}
use Rattle.cyclic_gate.specs.History.{LedgerEntry, outcome_of, ledger_entry, calls_of, AreRight, first_end}
use Rattle.cyclic_gate.specs.Outcomes.{end_or}
use Rattle.cyclic_gate.specs.Wakers.{is_end, End, end_among, IsAnswered, left_of, LateWakersAreAnswered}
use Rattle.cyclic_gate.proofs.Indexed.{indexed-append}
use Rattle.cyclic_gate.specs.declared.call.Call.{Call}
use Rattle.cyclic_gate.specs.declared.call.Call.TheVariants.{Await, Abandon, BreakOff, Reset}
use Rattle.cyclic_gate.specs.declared.ledger.Outcome.{Outcome}

-- who is in a list is in it with one more at the end
is_in-append : (c : ℕ) (ws : List ℕ) (d : ℕ) → is_in c ws ≡ true → is_in c (ws ++ d ∷ []) ≡ true
is_in-append c [] d e = absurd cc
is_in-append c (w ∷ ws) d e =
    elim (eqb w c) as (λ b. (b || is_in c ws) ≡ true → (b || is_in c (ws ++ d ∷ [])) ≡ true)
    [ true ↦ λ h. refl | false ↦ is_in-append c ws d ] e

is_in-push : (c : ℕ) (ws : List ℕ) → is_in c (ws ++ c ∷ []) ≡ true
is_in-push c [] = grind (arith, nat_tests)
is_in-push c (w ∷ ws) = rw (is_in-push c ws) (elim (eqb w c) as (λ b. (b || true) ≡ true) [ true ↦ refl | false ↦ refl ])

-- and in the list of the others, unless it is the one that goes
others_case : (w c d : ℕ) (ws : List ℕ) (b1 b2 : Bool) → eqb w d ≡ b1 → eqb w c ≡ b2
    → (is_in c ws ≡ true → (is_in c (others d ws) ≡ true) ⊎ (d ≡ c))
    → is_in c (w ∷ ws) ≡ true → (is_in c (others d (w ∷ ws)) ≡ true) ⊎ (d ≡ c)
others_case w c d ws true true e1 e2 rest e = inr (grind (arith, nat_tests))
others_case w c d ws true false e1 e2 rest e = rw e1 (rest (rw e2 at e))
others_case w c d ws false true e1 e2 rest e = rw (e1, e2) (inl refl)
others_case w c d ws false false e1 e2 rest e = rw (e1, e2) (rest (rw e2 at e))

is_in-others : (c d : ℕ) (ws : List ℕ) → is_in c ws ≡ true → (is_in c (others d ws) ≡ true) ⊎ (d ≡ c)
is_in-others c d [] e = absurd cc
is_in-others c d (w ∷ ws) e = others_case w c d ws _ _ refl refl (is_in-others c d ws) e

-- the caller waits, with its index, in its generation
record Waits (caller index generation : ℕ) (m : Machine) : Type 0 where
  pub answered : Contains (indexed m.parties 0 m.waiting) (caller, index)
  pub here : is_in caller m.waiting ≡ true
  pub same : m.generation ≡ generation

-- what one more call does to a caller that waits
abbrev AfterCall : ℕ → ℕ → ℕ → Call → Machine → Answer → Type 0
AfterCall caller index generation call new (Waiting i) = Waits caller index generation new
AfterCall caller index generation call new (Trips all) = Contains all (caller, index)
AfterCall caller index generation call new (Fails callers) = is_in caller callers ≡ true
AfterCall caller index generation call new IsBroken = Waits caller index generation new
AfterCall caller index generation call new (Breaks callers) = (is_in caller callers ≡ true) ⊎ (call ≡ Abandon caller)
AfterCall caller index generation call new Already = Waits caller index generation new
AfterCall caller index generation call new Absent = Waits caller index generation new

-- one more caller after those with indices
answered-append : (p : ℕ) (ws : List ℕ) (d c i : ℕ) → Contains (indexed p 0 ws) (c, i) → Contains (indexed p 0 (ws ++ d ∷ [])) (c, i)
answered-append p ws d c i answered =
    rw (indexed-append p 0 (length ws) ws d (omega arith))
    (Contains-append_left (indexed p 0 ws) ((d, index_of p (length ws)) ∷ []) (c, i) answered)

await_call : (fails : Option ℕ) (d c i q p g : ℕ) (ws : List ℕ) (b b2 b3 b4 : Bool) → Waits c i q (machine p g ws b) → is_in d ws ≡ b2
    → (length ws + 1 == p) ≡ b3 → fails_at fails g ≡ b4
    → AfterCall c i q (Await d) (after fails (Await d) (machine p g ws b)) (answer fails (Await d) (machine p g ws b))
await_call fails d c i q p g ws true b2 b3 b4 waits e2 e3 e4 = waits
await_call fails d c i q p g ws false true b3 b4 waits e2 e3 e4 = rw e2 waits
await_call fails d c i q p g ws false false true true waits e2 e3 e4 = rw (e2, e3, e4) waits.here
await_call fails d c i q p g ws false false true false waits e2 e3 e4 = rw (e2, e3, e4) (answered-append p ws d c i waits.answered)
await_call fails d c i q p g ws false false false b4 waits e2 e3 e4 =
    rw (e2, e3) (record { answered = answered-append p ws d c i waits.answered; here = is_in-append c ws d waits.here; same = waits.same })

named : (c d : ℕ) (ws : List ℕ) → is_in c ws ≡ true → (is_in c (others d ws) ≡ true) ⊎ (Abandon d ≡ Abandon c)
named c d ws here =
    elim (is_in-others c d ws here) as (λ _. (is_in c (others d ws) ≡ true) ⊎ (Abandon d ≡ Abandon c))
    [ inl e ↦ inl e | inr e ↦ inr (ap Abandon e) ]

one_call : (fails : Option ℕ) (call : Call) (m : Machine) (c i q : ℕ) → Waits c i q m
    → AfterCall c i q call (after fails call m) (answer fails call m)
one_call fails (Await d) m c i q waits = await_call fails d c i q m.parties m.generation m.waiting m.broken _ _ _ waits refl refl refl
one_call fails (Abandon d) m c i q waits =
    elim (is_in d m.waiting) as
    (λ b. AfterCall c i q (Abandon d) (if b then machine m.parties m.generation [] true else m) (if b then Breaks (others d m.waiting) else Absent)) [
      | true ↦ named c d m.waiting waits.here
      | false ↦ waits
    ]
one_call fails BreakOff m c i q waits = inl waits.here
one_call fails Reset m c i q waits = inl waits.here

-- what is read, if the first note is that of this call
read_on : (fails : Option ℕ) (c i q : ℕ) (call : Call) (m : Machine) (a : Answer) (o : Outcome) (end : Option End)
    → answer fails call m ≡ a → m.generation ≡ q → AfterCall c i q call (after fails call m) a
    → (Waits c i q (after fails call m) → IsAnswered fails c i q o end)
    → IsAnswered fails c i q (end_or (outcome_of a) o) (if is_end a then Some (record { call = call; found = m }) else end)
read_on fails c i q call m (Waiting j) o end e same now rest = rest now
read_on fails c i q call m (Trips all) o end e same now rest = (record { call = call; found = m }, refl, same, rw e now)
read_on fails c i q call m (Fails broken) o end e same now rest = (record { call = call; found = m }, refl, same, rw e now)
read_on fails c i q call m IsBroken o end e same now rest = rest now
read_on fails c i q call m (Breaks callers) o end e same now rest = (record { call = call; found = m }, refl, same, rw e now)
read_on fails c i q call m Already o end e same now rest = rest now
read_on fails c i q call m Absent o end e same now rest = rest now

answered_later : (fails : Option ℕ) (ns : List LedgerEntry) (m : Machine) (c i q : ℕ) → Waits c i q m → AreRight fails ns m
    → IsAnswered fails c i q (first_end ns) (end_among fails ns m)
answered_later fails [] m c i q waits right = refl
answered_later fails (n ∷ ns) m c i q waits right =
    rw right.0
    (read_on fails c i q n.call m (answer fails n.call m) (first_end ns) (end_among fails ns (after fails n.call m)) refl waits.same (one_call fails n.call m c i q waits)
    (λ next. answered_later fails ns (after fails n.call m) c i q next right.1))

abbrev index_in : Answer → ℕ
index_in (Waiting i) = i
index_in _ = 0

abbrev is_waiting : Answer → Bool
is_waiting (Waiting i) = true
is_waiting _ = false

-- a caller that gets an index waits with it
arrival : (fails : Option ℕ) (c i p g : ℕ) (ws : List ℕ) (b b2 b3 b4 : Bool) → is_in c ws ≡ b2 → (length ws + 1 == p) ≡ b3
    → fails_at fails g ≡ b4
    → answer fails (Await c) (machine p g ws b) ≡ Waiting i → Waits c i g (after fails (Await c) (machine p g ws b))
arrival fails c i p g ws true b2 b3 b4 e2 e3 e4 e = let no : false ≡ true = ap is_waiting e in absurd cc
arrival fails c i p g ws false true b3 b4 e2 e3 e4 e = let no : false ≡ true = ap is_waiting (rw e2 at e) in absurd cc
arrival fails c i p g ws false false true true e2 e3 e4 e = let no : false ≡ true = ap is_waiting (rw (e2, e3, e4) at e) in absurd cc
arrival fails c i p g ws false false true false e2 e3 e4 e = let no : false ≡ true = ap is_waiting (rw (e2, e3, e4) at e) in absurd cc
arrival fails c i p g ws false false false b4 e2 e3 e4 e =
    let index : index_of p (length ws) ≡ i = ap index_in (rw (e2, e3) at e) in
    let last : Contains (indexed p 0 (ws ++ c ∷ [])) (c, index_of p (length ws)) =
    rw (indexed-append p 0 (length ws) ws c (omega arith)) (Contains-push (indexed p 0 ws) (c, index_of p (length ws))) in
    rw (e2, e3) (record { answered = rw (sym index) last; here = is_in-push c ws; same = refl })

-- entries are right after those that are
right-behind : (fails : Option ℕ) (ns later : List LedgerEntry) (m : Machine) → AreRight fails (ns ++ later) m
    → AreRight fails later (after_all fails (calls_of ns) m)
right-behind fails [] later m right = right
right-behind fails (n ∷ ns) later m right = right-behind fails ns later (after fails n.call m) right.1

pub late_wakers_are_answered : LateWakersAreAnswered
late_wakers_are_answered parties fails before later caller index right answered =
    let m = left_of parties fails before in
    let n = ledger_entry (Await caller) (Waiting index) in
    let behind = right-behind fails before (n ∷ later) (fresh parties) right in
    let waits : Waits caller index m.generation (after fails (Await caller) m) =
    arrival fails caller index m.parties m.generation m.waiting m.broken _ _ _ refl refl refl answered in
    rw (drop-append-add before (n ∷ later) 1)
    (answered_later fails later (after fails (Await caller) m) caller index m.generation waits behind.1)
