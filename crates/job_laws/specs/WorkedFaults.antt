-- In which cases tasks fault, and in which they just don't, worked out (own).
use Rattle.std.specs.Prelude.{◌≡◌, ℕ, ◌+◌, ◌<◌, ◌≤◌, ℤ, pos, negsuc, [], ◌∷◌, ◌++◌, length}
use Rattle.phase_records.specs.Status.{Ended, Fault, Limit}
use Rattle.superstep_memory.specs.declared.arrays.PutKind.TheVariants.{Set}
use Rattle.task_code.specs.declared.code.Index.TheVariants.{Number, Local, Step}
use Rattle.task_code.specs.declared.code.Operand.{Operand}
use Rattle.task_code.specs.declared.code.Operand.TheVariants.{Plain, Cell as At}
use Rattle.task_code.specs.declared.code.Operator.TheVariants.{Add, Below}
use Rattle.task_code.specs.declared.code.Expr.TheVariants.{One, Two}
use Rattle.task_code.specs.declared.code.Action.TheVariants.{Let, Put, Print, Spawn, Sync}
use Rattle.task_lang.specs.declared.fault.Fault.TheVariants.{Depth, Spawns}
use Rattle.task_code.specs.Tree.{Block, Done, Do, If, While}
use Rattle.task_lang.specs.Meaning.{Setting, Doing, Goes, Fails, spawn, started}
use Rattle.step_core.specs.Program.{Program}
use Rattle.step_core.specs.JobMeaning.{report_of}
use Rattle.job_laws.specs.Worked.{cell, arg, number, body, start, array, program, superstep, print, report}

-- A task may spawn with a path of fewer than 8 numbers, fewer than 8 spawns in the superstep, and fewer than 65535 in
-- all. The new task's path is the spawner's, followed by how many it has spawned before. The new task begins with its
-- argument, at its body's first statement. Otherwise the spawner faults.
pub record SpawnsAreNumbered : Type 0 where
  pub goes_on : (s : Setting) (d : Doing) (b : ℕ) (v : ℤ) → length s.path < 8 → length d.spawns < 8 → s.begun + length d.spawns < 65535
      → spawn s d b v ≡ Goes (record d { spawns = d.spawns ++ started s.plans (s.path ++ (s.begun + length d.spawns) ∷ []) b v ∷ [] })
  pub too_deep : (s : Setting) (d : Doing) (b : ℕ) (v : ℤ) → 8 ≤ length s.path → spawn s d b v ≡ Fails Depth
  pub too_many_now : (s : Setting) (d : Doing) (b : ℕ) (v : ℤ) → length s.path < 8 → 8 ≤ length d.spawns → spawn s d b v ≡ Fails Spawns
  pub too_many : (s : Setting) (d : Doing) (b : ℕ) (v : ℤ) → length s.path < 8 → 65535 ≤ s.begun + length d.spawns
      → spawn s d b v ≡ Fails Spawns

-- a job of one task, whose argument is 0
abbrev pub alone : ℕ → Block → Program
alone locals ahead = program (array (pos 7 ∷ [])) (body locals ahead ∷ []) (start 0 (pos 0) ∷ [])

abbrev pub local : ℕ → Operand
local i = Plain (Local i)

abbrev pub counted : ℕ → Block
counted n = While (Two (local 0) Below (number (pos n))) (Do (Let 0 (Two (local 0) Add (number (pos 1)))) Done) Done

-- 2 n + 1 statements, which count to n
abbrev pub counts : ℕ → Program
counts n = alone 1 (counted n)

-- and one more in front
abbrev pub counts_on : ℕ → Program
counts_on n = alone 1 (Do (Let 0 (One (number (pos 0)))) (counted n))

-- each task spawns one in each superstep before this, and stops
abbrev pub chain : ℤ → Program
chain n = program [] (body 0 (If (Two (Plain Step) Below (number n)) (Do (Spawn 0 arg) Done) Done) ∷ []) (start 0 (pos 0) ∷ [])

-- a task spawns this many others, which do nothing
abbrev pub spawning : ℤ → Program
spawning n =
    program []
    (body 1 (While (Two (local 0) Below (number n)) (Do (Spawn 1 (One (local 0))) (Do (Let 0 (Two (local 0) Add (number (pos 1)))) Done)) Done)
    ∷ body 0 Done ∷ []) (start 0 (pos 0) ∷ [])

-- two supersteps
abbrev pub in_two : Program
in_two = program [] (body 0 (Do Sync Done) ∷ []) (start 0 (pos 0) ∷ [])

pub record FaultsAreWorkedOut : Type 0 where
  pub overflow : report_of (alone 0 (Do (Print (Two (number (pos 9223372036854775807)) Add (number (pos 1)))) Done)) 10
      ≡ report [] [] (array (pos 7 ∷ [])) (Fault 1 0 (0 ∷ []))
  -- the array has one cell, of the index 0
  pub read_outside : report_of (alone 0 (Do (Print (One (At (cell (Number (pos 1)))))) Done)) 10
      ≡ report [] [] (array (pos 7 ∷ [])) (Fault 3 0 (0 ∷ []))
  pub put_outside : report_of (alone 0 (Do (Put Set (cell (Number (negsuc 0))) arg) Done)) 10
      ≡ report [] [] (array (pos 7 ∷ [])) (Fault 3 0 (0 ∷ []))
  pub inside : report_of (alone 0 (Do (Print (One (At (cell (Number (pos 0)))))) Done)) 10
      ≡ report (print 0 (0 ∷ []) (pos 7) ∷ []) (superstep 0 1 1 0 ∷ []) (array (pos 7 ∷ [])) (Ended 1)
  -- the statement number 100001 of a superstep is one too many
  pub budget : report_of (counts 50000) 10 ≡ report [] [] (array (pos 7 ∷ [])) (Fault 4 0 (0 ∷ []))
  pub in_budget : report_of (counts_on 49999) 10 ≡ report [] (superstep 0 1 1 0 ∷ []) (array (pos 7 ∷ [])) (Ended 1)
  -- a path has at most 8 numbers
  pub depth : report_of (chain (pos 8)) 10
      ≡ report []
      (superstep 0 2 1 1 ∷ superstep 1 2 1 1 ∷ superstep 2 2 1 1 ∷ superstep 3 2 1 1 ∷ superstep 4 2 1 1 ∷ superstep 5 2 1 1
      ∷ superstep 6 2 1 1 ∷ [])
      []
      (Fault 5 7 (0 ∷ 0 ∷ 0 ∷ 0 ∷ 0 ∷ 0 ∷ 0 ∷ 0 ∷ []))
  pub in_depth : report_of (chain (pos 7)) 10
      ≡ report []
      (superstep 0 2 1 1 ∷ superstep 1 2 1 1 ∷ superstep 2 2 1 1 ∷ superstep 3 2 1 1 ∷ superstep 4 2 1 1 ∷ superstep 5 2 1 1
      ∷ superstep 6 2 1 1 ∷ superstep 7 1 1 0 ∷ [])
      [] (Ended 8)
  -- at most 8 spawns in a superstep
  pub spawns : report_of (spawning (pos 9)) 10 ≡ report [] [] [] (Fault 6 0 (0 ∷ []))
  pub eight : report_of (spawning (pos 8)) 10 ≡ report [] (superstep 0 9 1 8 ∷ superstep 1 8 8 0 ∷ []) [] (Ended 2)
  -- a job that ends as the limit is reached has ended
  pub at_limit : report_of in_two 2 ≡ report [] (superstep 0 1 0 0 ∷ superstep 1 1 1 0 ∷ []) [] (Ended 2)
  pub below_limit : report_of in_two 1 ≡ report [] (superstep 0 1 0 0 ∷ []) [] (Limit 1)
  pub no_task : report_of (program [] [] []) 0 ≡ report [] [] [] (Ended 0)
