-- Tasks that are spawned, one more at a time.
use Rattle.std.proofs.Common.{◌≡◌, ℕ, zero, suc, ◌+◌, ◌-◌, ◌<◌, List, [], ◌∷◌, ◌++◌, length, refl, ap, ◌∙◌, arith}
use Rattle.task_bodies.specs.Bodies.{numbered}
use Rattle.bsp_steps.specs.declared.given.Origin.{Origin}
use Rattle.bsp_steps.specs.Given.{TaskValue, stayed, spawned_at, all_spawned, start_origins}

pub spawned_count : (place number n : ℕ) → length (all_spawned place number n) ≡ n
spawned_count place number zero = refl
spawned_count place number (suc n) = ap suc (spawned_count place (suc number) n)

next_spawned : (place number count : ℕ) → number < count
    → all_spawned place number (count - number) ≡ spawned_at place number ∷ all_spawned place (number + 1) (count - (number + 1))
next_spawned place number count lt =
    let e : count - number ≡ suc (count - (number + 1)) = omega (arith, lt) in
    let up : suc number ≡ number + 1 = omega arith in
    (λ i. all_spawned place number (e i)) ∙ (λ i. spawned_at place number ∷ all_spawned place (up i) (count - (number + 1)))

next_start : (place count : ℕ) → place < count
    → start_origins place (count - place) ≡ stayed place ∷ start_origins (place + 1) (count - (place + 1))
next_start place count lt =
    let e : count - place ≡ suc (count - (place + 1)) = omega (arith, lt) in
    let up : suc place ≡ place + 1 = omega arith in
    (λ i. start_origins place (e i)) ∙ (λ i. stayed place ∷ start_origins (up i) (count - (place + 1)))

-- a task of this path
abbrev pub new_task : List ℕ → Origin → TaskValue
new_task path origin = record { path = path; begun = 0; kept = origin }

pub next_child : (path : List ℕ) (begun place number count : ℕ) → number < count
    → numbered path (begun + number) (all_spawned place number (count - number))
    ≡ new_task (path ++ (begun + number) ∷ []) (spawned_at place number)
    ∷ numbered path (begun + (number + 1)) (all_spawned place (number + 1) (count - (number + 1)))
next_child path begun place number count lt =
    let up : suc (begun + number) ≡ begun + (number + 1) = omega arith in
    ap (numbered path (begun + number)) (next_spawned place number count lt)
    ∙ (λ i. new_task (path ++ (begun + number) ∷ []) (spawned_at place number)
    ∷ numbered path (up i) (all_spawned place (number + 1) (count - (number + 1))))

pub next_begun : (place count : ℕ) → place < count
    → numbered [] place (start_origins place (count - place))
    ≡ new_task (place ∷ []) (stayed place) ∷ numbered [] (place + 1) (start_origins (place + 1) (count - (place + 1)))
next_begun place count lt =
    let up : suc place ≡ place + 1 = omega arith in
    ap (numbered [] place) (next_start place count lt)
    ∙ (λ i. new_task (place ∷ []) (stayed place) ∷ numbered [] (up i) (start_origins (place + 1) (count - (place + 1))))
