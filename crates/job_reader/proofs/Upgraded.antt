-- A job as one of format 2 is a job.
use Rattle.std.proofs.Common.{◌≡◌, ℕ, refl, sym, ap, arith}
use Rattle.task_code.specs.JobValue.{JobValue}
use Rattle.task_code.specs.Rules.{IsJob}
use Rattle.job_reader.specs.Upgrade.{upgraded}

one-two : (f : ℕ) → f ≡ 2 → f ≡ 1 → ⊥
one-two f e g = omega arith

pub upgraded-job : (j : JobValue) → IsJob j → IsJob (upgraded j)
upgraded-job j h = record {
  format = refl;
  first = λ e. absurd (one-two 2 refl e);
  few_arrays = h.few_arrays;
  few_bodies = h.few_bodies;
  few_starts = h.few_starts;
  arrays = h.arrays;
  named = h.named;
  bodies = h.bodies;
  each = h.each;
  lines = h.lines;
  starts = h.starts;
  cells = h.cells;
  args = h.args;
}

pub upgraded-same : (j : JobValue) → j.format ≡ 2 → upgraded j ≡ j
upgraded-same j e = ap (λ (f : ℕ). record j { format = f }) (sym e)

pub ruleset upgraded_jobs = (upgraded-job, upgraded-same)
