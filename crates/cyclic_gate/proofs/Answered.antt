use Rattle.std.proofs.Common.{◌≡◌, ℕ, ◌+◌, ◌==◌, Bool, true, false, if◌then◌else◌, Option, List, [], ◌∷◌, ◌++◌, length, refl, ap, sym, ◌∙◌, arith}
use Rattle.std.proofs.lemmas.Bool.Decides.{nat_tests}
use Rattle.advance_rule.specs.Action.{fails_at}
use Rattle.cyclic_gate.specs.Machine.{Machine, machine, fresh}
use Rattle.cyclic_gate.specs.Steps.{Answer, Breaks, Absent, is_in, others, indexed, index_of, answer, after}
use Rattle.cyclic_gate.specs.Laws.{callers_of, answered_after, EndsOfAnswered, RunEndsOfAnswered, EndsNameTheAnswered}
use Rattle.cyclic_gate.proofs.Indexed.{indexed-append}
use Rattle.cyclic_gate.proofs.Trips.{callers_of-indexed}
use Rattle.cyclic_gate.specs.declared.call.Call.{Call}
use Rattle.cyclic_gate.specs.declared.call.Call.TheVariants.{Await, Abandon, BreakOff, Reset}

-- those who have to wait are those who wait
pub record Answered (answered : List (ℕ × ℕ)) (call : Call) (a : Answer) (m : Machine) : Type 0 where
  pub ends : EndsOfAnswered answered call a
  pub next : answered_after answered call a ≡ indexed m.parties 0 m.waiting

names : (p : ℕ) (ws : List ℕ) (answered : List (ℕ × ℕ)) → answered ≡ indexed p 0 ws → ws ≡ callers_of answered
names p ws answered same = sym (callers_of-indexed p 0 ws) ∙ ap callers_of (sym same)

await_answered : (fails : Option ℕ) (c p g : ℕ) (ws : List ℕ) (answered : List (ℕ × ℕ)) (b b2 b3 b4 : Bool) → answered ≡ indexed p 0 ws
    → is_in c ws ≡ b2 → (length ws + 1 == p) ≡ b3 → fails_at fails g ≡ b4
    → Answered answered (Await c) (answer fails (Await c) (machine p g ws b)) (after fails (Await c) (machine p g ws b))
await_answered fails c p g ws answered true b2 b3 b4 same e2 e3 e4 = record { ends = tt; next = same }
await_answered fails c p g ws answered false true b3 b4 same e2 e3 e4 = rw e2 (record { ends = tt; next = same })
await_answered fails c p g ws answered false false true true same e2 e3 e4 =
    rw (e2, e3, e4) (record { ends = names p ws answered same; next = refl })
await_answered fails c p g ws answered false false true false same e2 e3 e4 =
    let full : length ws + 1 ≡ p = grind (arith, nat_tests) in
    let index : index_of p (length ws) ≡ 0 = omega arith in
    rw (e2, e3, e4) (record {
      ends =
          indexed-append p 0 (length ws) ws c (omega arith)
          ∙ (ap (λ (n : ℕ). indexed p 0 ws ++ (c, n) ∷ []) index ∙ ap (λ (l : List (ℕ × ℕ)). l ++ (c, 0) ∷ []) (sym same));
      next = refl;
    })
await_answered fails c p g ws answered false false false b4 same e2 e3 e4 =
    rw (e2, e3) (record {
      ends = tt;
      next =
          ap (λ (l : List (ℕ × ℕ)). l ++ (c, index_of p (length ws)) ∷ []) same ∙ sym (indexed-append p 0 (length ws) ws c (omega arith));
    })

step_answered : (fails : Option ℕ) (call : Call) (m : Machine) (answered : List (ℕ × ℕ)) → answered ≡ indexed m.parties 0 m.waiting
    → Answered answered call (answer fails call m) (after fails call m)
step_answered fails (Await c) m answered same =
    await_answered fails c m.parties m.generation m.waiting answered m.broken _ _ _ same refl refl refl
step_answered fails (Abandon c) m answered same =
    elim (is_in c m.waiting) as
    (λ b. Answered answered (Abandon c) (if b then Breaks (others c m.waiting) else Absent) (if b then machine m.parties m.generation [] true else m)) [
      | true ↦ record { ends = ap (others c) (names m.parties m.waiting answered same); next = refl }
      | false ↦ record { ends = tt; next = same }
    ]
step_answered fails BreakOff m answered same = record { ends = names m.parties m.waiting answered same; next = refl }
step_answered fails Reset m answered same = record { ends = names m.parties m.waiting answered same; next = refl }

run_answered : (fails : Option ℕ) (calls : List Call) (m : Machine) (answered : List (ℕ × ℕ)) → answered ≡ indexed m.parties 0 m.waiting
    → RunEndsOfAnswered fails calls answered m
run_answered fails [] m answered same = tt
run_answered fails (c ∷ cs) m answered same =
    let here = step_answered fails c m answered same in
    (here.ends, run_answered fails cs (after fails c m) (answered_after answered c (answer fails c m)) here.next)

pub ends_name_the_answered : EndsNameTheAnswered
ends_name_the_answered p fails calls some = run_answered fails calls (fresh p) [] refl
