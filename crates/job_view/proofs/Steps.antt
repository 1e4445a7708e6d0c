-- A run of a job, some supersteps on.
use Rattle.std.proofs.Common.{◌≡◌, ℕ, suc, ◌+◌, ◌-◌, ◌*◌, ◌≤◌, List, [], ◌++◌, subst, sym, ap, ◌∙◌, arith}
use Rattle.std.specs.Prelude.{ℤ}
use Rattle.std.proofs.Math.Nat.{mul-suc}
use Rattle.step_core.specs.JobMeaning.{so_far}
use Rattle.step_core.specs.Program.{program_of}
use Rattle.step_core.specs.Superstep.{State}
use Rattle.task_code.specs.JobValue.{JobValue}
use Rattle.step_core.specs.JobRun.{JobRunValue, HasReached, IsAfter, IsLater}
use Rattle.job_view.specs.Look.{named}
use Rattle.job_view.specs.Rows.{cells_or_none, rows}

-- a run of this job and this limit, so many times so many supersteps after its beginning
pub record IsAt (j : JobValue) (limit every i : ℕ) (r : JobRunValue) : Type 0 where
  pub job : r.job ≡ j
  pub limit_is : r.run.limit ≡ limit
  pub reached : HasReached (every * i) r

-- a run that begins
pub begun : (j : JobValue) (limit every : ℕ) (r : JobRunValue) → IsAfter 0 [] [] r → (r.job ≡ j) × (r.run.limit ≡ limit)
    → IsAt j limit every 0 r
begun j limit every r h same =
    let none : 0 ≡ every * 0 = omega arith in
    record {
      job = same.0;
      limit_is = same.1;
      reached = subst (λ (n : ℕ). HasReached n r) none (record { prints = []; records = []; after = h });
    }

-- so many supersteps later
later_at : (j : JobValue) (limit every i : ℕ) (r s : JobRunValue) → IsAt j limit every i r → IsLater every r s
    → IsAt j limit every (i + 1) s
later_at j limit every i r s h g =
    let one : suc i ≡ i + 1 = omega arith in
    let more : every * i + every ≡ every * (i + 1) = sym (mul-suc every i) ∙ ap (λ (k : ℕ). every * k) one in
    record {
      job = g.job ∙ h.job;
      limit_is = g.limit ∙ h.limit_is;
      reached = subst (λ (n : ℕ). HasReached n s) more (g.reached (every * i) h.reached);
    }

-- the arrays are those of the job
arrays_at : (j : JobValue) (limit every i : ℕ) (r : JobRunValue) → IsAt j limit every i r
    → r.run.arrays ≡ (so_far (program_of j) limit (every * i)).arrays
arrays_at j limit every i r h =
    ap (λ (x : State). x.arrays) h.reached.after.state ∙ (λ k. (so_far (program_of (h.job k)) (h.limit_is k) (every * i)).arrays)

-- one row more
pub next_row : (j : JobValue) (limit every i : ℕ) (name : List ℕ) (r : JobRunValue) (arrays : List (List ℕ × List ℤ)) (old new : List ℤ)
    → IsAt j limit every i r
    → arrays ≡ r.run.arrays → old ≡ rows (program_of j) limit name every i → new ≡ old ++ cells_or_none (named name arrays)
    → new ≡ rows (program_of j) limit name every (i + 1)
next_row j limit every i name r arrays old new h a o e =
    let one : suc i ≡ i + 1 = omega arith in
    e ∙ ap (λ (xs : List ℤ). xs ++ cells_or_none (named name arrays)) o
    ∙ ap (λ (all : List (List ℕ × List ℤ)). rows (program_of j) limit name every i ++ cells_or_none (named name all))
    (a ∙ arrays_at j limit every i r h)
    ∙ ap (λ (k : ℕ). rows (program_of j) limit name every k) one

-- the first row
pub first_row : (j : JobValue) (limit every : ℕ) (name : List ℕ) (r : JobRunValue) (arrays : List (List ℕ × List ℤ)) (old new : List ℤ)
    → IsAt j limit every 0 r
    → arrays ≡ r.run.arrays → old ≡ rows (program_of j) limit name every 0 → new ≡ old ++ cells_or_none (named name arrays)
    → new ≡ rows (program_of j) limit name every 1
first_row j limit every name r arrays old new h a o e = next_row j limit every 0 name r arrays old new h a o e

-- as many supersteps later as lie between two rows, if a row was read before
pub row_later : (j : JobValue) (limit every done : ℕ) (r s : JobRunValue) → 1 ≤ done → IsAt j limit every (done - 1) r → IsLater every r s
    → IsAt j limit every done s
row_later j limit every done r s lt h g =
    let one : (done - 1) + 1 ≡ done = omega (arith, lt) in
    subst (λ (i : ℕ). IsAt j limit every i s) one (later_at j limit every (done - 1) r s h g)
