-- Tasks with the places that they have.
use Rattle.std.proofs.Common.{◌≡◌, ℕ, zero, suc, ◌≤◌, Bool, true, false, ◌||◌, nat_lt, List, [], ◌∷◌, map, length, Option, Some, None, if◌then◌else◌, refl, ap, ◌∙◌, arith}
use Rattle.std.proofs.lemmas.Bool.Decides.{nat_tests}
use Rattle.superstep_memory.specs.Paths.{is_rising}
use Rattle.phase_records.specs.Status.{Status}
use Rattle.programs.specs.Supersteps.{status_of}
use Rattle.programs.specs.Order.{AllApart, PairsApart, AreOrdered}
use Rattle.programs.specs.Steps.{IsRunning}
use Rattle.task_bodies.specs.Bodies.{MemberValue, member_frame, path_of}
use Rattle.bsp_steps.specs.declared.given.Origin.{Origin}
use Rattle.bsp_steps.specs.Given.{stayed, placed_from, start_origins}
use Rattle.bsp_steps.specs.Runs.{RunValue, placed, refused_starts}

abbrev pub Tasks : Type 0
Tasks = List (MemberValue Origin)

pub start_count : (place n : ℕ) → length (start_origins place n) ≡ n
start_count place zero = refl
start_count place (suc n) = ap suc (start_count (suc place) n)

pub placed_count : (place : ℕ) (ts : Tasks) → length (placed_from place ts) ≡ length ts
placed_count place [] = refl
placed_count place (t ∷ ts) = ap suc (placed_count (suc place) ts)

pub placed_paths : (place : ℕ) (ts : Tasks) → map path_of (placed_from place ts) ≡ map path_of ts
placed_paths place [] = refl
placed_paths place (t ∷ ts) = ap (λ (ps : List (List ℕ)). t.path ∷ ps) (placed_paths (suc place) ts)

all_apart : (n place : ℕ) (t : MemberValue Origin) (ts : Tasks) → AllApart path_of (λ x. x.begun) t ts
    → AllApart path_of (λ x. x.begun) (record t { kept = stayed n }) (placed_from place ts)
all_apart n place t [] a = tt
all_apart n place t (u ∷ us) a = (record { paths = a.0.paths; right = a.0.right; left = a.0.left }, all_apart n (suc place) t us a.1)

pairs_apart : (place : ℕ) (ts : Tasks) → PairsApart path_of (λ x. x.begun) ts → PairsApart path_of (λ x. x.begun) (placed_from place ts)
pairs_apart place [] a = tt
pairs_apart place (t ∷ ts) a = (all_apart place (suc place) t ts a.0, pairs_apart (suc place) ts a.1)

-- they are in order as before
pub placed_ordered : (ts : Tasks) → AreOrdered member_frame ts → AreOrdered member_frame (placed_from 0 ts)
placed_ordered ts a = record { pairs = pairs_apart 0 ts a.pairs; rising = ap is_rising (placed_paths 0 ts) ∙ a.rising }

status_same : (limit step place : ℕ) (fault : Option (ℕ × List ℕ)) (ts : Tasks)
    → status_of limit step fault (placed_from place ts) ≡ status_of limit step fault ts
status_same limit step place (Some f) ts = refl
status_same limit step place None [] = refl
status_same limit step place None (t ∷ ts) = refl

-- a run goes on as before
pub placed_runs : (v : RunValue) → IsRunning v → IsRunning (placed v)
placed_runs v r = record {
  sound = r.sound;
  going = ap (λ (o : Option Status). (if v.failed then None else o)) (status_same v.limit v.step 0 v.fault v.tasks) ∙ r.going;
}

-- so many start tasks may be begun with
pub few_starts : (starts most : ℕ) → refused_starts starts most ≡ false → (most ≤ 2147483647) × (starts ≤ 65535) × (starts ≤ most)
few_starts starts most h = by (nat_lt 2147483647 most) (nat_lt 65535 starts) (nat_lt most starts) refl refl refl h
  where
    by : (a b c : Bool) → nat_lt 2147483647 most ≡ a → nat_lt 65535 starts ≡ b → nat_lt most starts ≡ c → (a || (b || c)) ≡ false
        → (most ≤ 2147483647) × (starts ≤ 65535) × (starts ≤ most)
    by true b c ea eb ec k = cc
    by false true c ea eb ec k = cc
    by false false true ea eb ec k = cc
    by false false false ea eb ec k = (grind (arith, nat_tests), grind (arith, nat_tests), grind (arith, nat_tests))
