-- What becomes of a text that is given piece by piece.
use Rattle.std.specs.Prelude.{◌≡◌, ℕ, ◌+◌, Bool, true, false, List, ◌++◌, Option, ◌⊎◌}
use Rattle.std.specs.Io.KnownBytes.{Appends, Keeps}
use Rattle.phase_records.specs.Device.{AppendsBeginning}

-- the device, by the name of its borrow, the bytes that it holds, those that wait for it, whether giving has failed, and the
-- count of the device's failures
pub record Outlet : Type 0 where
  pub name : ℕ
  pub held : Option (List ℕ)
  pub waiting : List ℕ
  pub failed : Bool
  pub failures : ℕ

-- of what waited and then these bytes, some went out, and the others wait
pub record Passes (old new : Outlet) (bytes : List ℕ) : Type 0 where
  pub was : old.failed ≡ false
  pub is : new.failed ≡ false
  pub failures : new.failures ≡ old.failures
  pub front : List ℕ
  pub whole : old.waiting ++ bytes ≡ front ++ new.waiting
  pub out : Appends old.held new.held front

-- a beginning of them went out, and then it failed
pub record Fails (old new : Outlet) (bytes : List ℕ) : Type 0 where
  pub was : old.failed ≡ false
  pub is : new.failed ≡ true
  pub failures : new.failures ≡ old.failures + 1
  pub begun : AppendsBeginning old.held new.held (old.waiting ++ bytes)

-- it had failed, and nothing went out
pub record Stays (old new : Outlet) : Type 0 where
  pub was : old.failed ≡ true
  pub is : new.failed ≡ true
  pub failures : new.failures ≡ old.failures
  pub kept : Keeps old.held new.held

-- what the outlet has done with these bytes
pub record Took (old new : Outlet) (bytes : List ℕ) : Type 0 where
  pub same : new.name ≡ old.name
  pub way : Passes old new bytes ⊎ (Fails old new bytes ⊎ Stays old new)
