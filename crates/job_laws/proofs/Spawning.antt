-- When a task may spawn.
use Rattle.std.proofs.Common.{◌≡◌, ℕ, ◌+◌, ◌<◌, ◌≤◌, Bool, true, false, nat_le, length, ℤ, refl, arith}
use Rattle.std.proofs.lemmas.Grind.{common_steps}
use Rattle.task_lang.specs.declared.fault.Fault.TheVariants.{Spawns}
use Rattle.task_lang.specs.Meaning.{Setting, Doing, Fails, spawn}
use Rattle.job_laws.specs.WorkedFaults.{SpawnsAreNumbered}

at_least : (m n : ℕ) → m ≤ n → nat_le m n ≡ true
at_least m n h = grind (arith, common_steps)

less : (m n : ℕ) → n < m → nat_le m n ≡ false
less m n h = grind (arith, common_steps)

pub numbered : SpawnsAreNumbered
numbered = record {
  goes_on =
      λ s d b v short few capacity. rw
      (less 8 (length s.path) short, less 8 (length d.spawns) few, less 65535 (s.begun + length d.spawns) capacity) refl;
  too_deep = λ s d b v deep. rw (at_least 8 (length s.path) deep) refl;
  too_many_now = λ s d b v short many. rw (less 8 (length s.path) short, at_least 8 (length d.spawns) many) refl;
  too_many = λ s d b v short many. by_now s d b v short many (nat_le 8 (length d.spawns)) refl;
}
  where
    by_now : (s : Setting) (d : Doing) (b : ℕ) (v : ℤ) → length s.path < 8 → 65535 ≤ s.begun + length d.spawns → (t : Bool)
        → nat_le 8 (length d.spawns) ≡ t → spawn s d b v ≡ Fails Spawns
    by_now s d b v short many true e = rw (less 8 (length s.path) short, e) refl
    by_now s d b v short many false e = rw (less 8 (length s.path) short, e, at_least 65535 (s.begun + length d.spawns) many) refl
