-- A stretch of live tasks, without its place in memory (own).
use Rattle.std.specs.Prelude.{ℕ, Bool, List, Option}
use Rattle.superstep_memory.specs.declared.arrays.Put.{Put}
use Rattle.phase_records.specs.PrintValue.{PrintValue}
use Rattle.programs.specs.DeedValue.{DeedValue}

-- Consecutive live tasks, and the place of the first among all live ones. Once they have run: their puts, deeds and
-- prints, the first fault, and whether the next live tasks have replaced them.
pub record PartValue (S : Type 0) : Type 0 where
  pub first : ℕ
  pub tasks : List S
  pub done : Bool
  pub puts : List Put
  pub deeds : List (DeedValue S)
  pub prints : List PrintValue
  pub fault : Option (ℕ × List ℕ)
  pub settled : Bool
