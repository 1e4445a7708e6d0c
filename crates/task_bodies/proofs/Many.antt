-- How many tasks a run may start with.
use Rattle.std.proofs.Common.{◌≡◌, ℕ, ◌≤◌, ◌<◌, true, false, arith}
use Rattle.std.proofs.lemmas.Bool.Decides.{nat_tests}
use Rattle.task_bodies.specs.Bodies.{are_too_many}

pub not_too_many : (most count : ℕ) → count ≤ 65535 → count ≤ most → are_too_many most count ≡ false
not_too_many most count a b = grind (arith, nat_tests)

pub more_than_numbers : (most count : ℕ) → 65535 < count → are_too_many most count ≡ true
more_than_numbers most count a = grind (arith, nat_tests)

pub more_than_most : (most count : ℕ) → most < count → are_too_many most count ≡ true
more_than_most most count a = grind (arith, nat_tests)
