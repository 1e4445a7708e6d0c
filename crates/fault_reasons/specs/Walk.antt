-- Where a segment ends, and what it did up to there (own): line by line, by what each line says.
use Rattle.std.specs.Prelude.{ℕ, zero, suc, ◌+◌, ◌-◌, ℤ, nat_le, pos, ◌||◌, if◌then◌else◌, List, [], ◌∷◌, ◌++◌, length, slice_set, slice_get, Option, Some, None, Result, Ok, Err}
use Rattle.std.specs.Ordering.{int_eq}
use Rattle.superstep_memory.specs.Cells.{place_at}
use Rattle.superstep_memory.specs.declared.arrays.PutKind.{PutKind}
use Rattle.task_code.specs.declared.code.Expr.{Expr}
use Rattle.task_code.specs.declared.code.Cell.{Cell}
use Rattle.task_code.specs.declared.code.Action.{Action}
use Rattle.task_code.specs.declared.code.Action.TheVariants.{Let, Put as PutAt, Print, Spawn, Sync, Stop}
use Rattle.task_code.specs.declared.code.Line.{Line}
use Rattle.task_code.specs.declared.code.Line.TheVariants as line
use Rattle.task_lang.specs.declared.fault.Fault.{Fault}
use Rattle.task_lang.specs.declared.fault.Fault.TheVariants.{Budget, Depth, Spawns, Index as NoCell}
use Rattle.task_lang.specs.declared.scene.Effect.{Effect}
use Rattle.task_lang.specs.declared.scene.Effect.TheVariants.{Goes, Syncs, Stops, Fails}
use Rattle.task_lang.specs.declared.scene.Move.{Move}
use Rattle.task_lang.specs.declared.scene.Move.TheVariants as move
use Rattle.task_lang.specs.Meaning.{Setting, value_of, index_value}
use Rattle.fault_reasons.specs.Done.{Done}
use Rattle.fault_reasons.specs.declared.walk.End.{End}
use Rattle.fault_reasons.specs.declared.walk.End.TheVariants as end

-- goes on with a value, or fails and has done nothing
abbrev pub by_value : Result ℤ Fault → Done → (ℤ → Effect × Done) → Effect × Done
by_value (Ok v) d go = go v
by_value (Err f) d go = (Fails f, d)

-- an action leads on to the next place
abbrev pub after_act : ℕ → Effect × Done → Move × Done
after_act next (Goes, d) = (move.To next, d)
after_act next (Syncs, d) = (move.Syncs next, d)
after_act next (Stops, d) = (move.Stops, d)
after_act next (Fails f, d) = (move.Fails f, d)

-- a test leads to one place after anything but 0, and else to the other
abbrev pub tested : Result ℤ Fault → ℕ → ℕ → Move
tested (Err f) there other = move.Fails f
tested (Ok v) there other = if int_eq v (pos 0) then move.To other else move.To there

module _ (s : Setting) where
  abbrev pub with_local : Done → ℕ → Expr → Effect × Done
  with_local d i e = by_value (value_of s d.locals e) d (λ v. (Goes, record d { locals = slice_set d.locals i v }))

  -- the cell is looked for before the value is read
  abbrev pub put_into : Done → PutKind → ℕ → Expr → Option ℕ → Effect × Done
  put_into d kind array e None = (Fails NoCell, d)
  put_into d kind array e (Some place) =
      by_value (value_of s d.locals e) d
      (λ v. (Goes, record d { puts = d.puts ++ (record { array = array; index = place; kind = kind; value = v }) ∷ [] }))

  abbrev pub with_put : Done → PutKind → Cell → Expr → Effect × Done
  with_put d kind c e = put_into d kind c.array e (place_at s.arrays c.array (index_value s d.locals c.index))

  -- a spawn of a task whose path has 8 numbers, then one past the eighth of a superstep or the 65535th of a task
  abbrev pub with_spawn : Done → Effect × Done
  with_spawn d =
      if nat_le 8 (length s.path) then (Fails Depth, d)
      else if nat_le 8 d.spawned || nat_le 65535 (s.begun + d.spawned) then (Fails Spawns, d)
      else (Goes, record d { spawned = d.spawned + 1 })

  -- what an action leads to, and what is done after it
  abbrev pub acted : Done → Action → Effect × Done
  acted d (Let i e) = with_local d i e
  acted d (PutAt kind c e) = with_put d kind c e
  acted d (Print e) = by_value (value_of s d.locals e) d (λ v. (Goes, d))
  acted d (Spawn b e) = by_value (value_of s d.locals e) d (λ v. with_spawn d)
  acted d Sync = (Syncs, d)
  acted d Stop = (Stops, d)

  -- where the line at a place leads, and what is done after it
  abbrev pub moved : ℕ → Done → Line → Move × Done
  moved place d (line.Do a) = after_act (place + 1) (acted d a)
  moved place d (line.If e n) = (tested (value_of s d.locals e) (place + 1) (place + 1 + n), d)
  moved place d (line.While e n) = (tested (value_of s d.locals e) (place + 1) (place + 1 + n), d)
  moved place d (line.EndWhile e n) = (tested (value_of s d.locals e) (place - n) (place + 1), d)
  moved place d (line.Else n) = (move.To (place + 1 + n), d)
  moved place d line.EndIf = (move.To (place + 1), d)

-- where an `else` or the end of an `if` at a place leads, at no cost
abbrev pub free_to : Option Line → ℕ → Option ℕ
free_to (Some (line.Else n)) place = Some (place + 1 + n)
free_to (Some line.EndIf) place = Some (place + 1)
free_to _ place = None

abbrev pub on_to : Option ℕ → ℕ → (ℕ → ℕ) → ℕ
on_to None place next = place
on_to (Some there) place next = next there

module _ (code : List Line) where
  -- the first place from this one on whose line costs, if at most so many lines are passed
  abbrev pub passed : ℕ → ℕ → ℕ
  passed zero place = place
  passed (suc k) place = on_to (free_to (slice_get code place) place) place (passed k)

  abbrev pub costing : ℕ → ℕ
  costing place = passed (length code) place

-- nothing is left of the budget
abbrev pub spent : Option Line → ℕ → Done → End × Done
spent None place d = (end.Stopped, d)
spent (Some l) place d = (end.Fault Budget place, d)

-- goes on as a move from this place says
abbrev pub after_move : ℕ → Move × Done → (ℕ → Done → End × Done) → End × Done
after_move place (move.To next, d) go = go next d
after_move place (move.Syncs next, d) go = (end.Synced, d)
after_move place (move.Stops, d) go = (end.Stopped, d)
after_move place (move.Fails f, d) go = (end.Fault f place, d)

module _ (s : Setting) where
  -- the line at a place, if there is one; after the last line a task stops
  abbrev pub moved_at : Option Line → ℕ → Done → Move × Done
  moved_at None place d = (move.Stops, d)
  moved_at (Some l) place d = moved s place d l

module _ (s : Setting) (code : List Line) where
  -- how a segment ends that goes on at this place of its body, with so much left of its budget, and what it has done then
  unfoldable pub walked : ℕ → ℕ → Done → End × Done
  walked zero place d = spent (slice_get code (costing code place)) (costing code place) d
  walked (suc n) place d =
      after_move (costing code place) (moved_at s (slice_get code (costing code place)) (costing code place) d) (walked n)

-- how many lines after the first of its body the statement is whose line is at a place: at the end of a loop, that is the loop's
-- first line
abbrev pub statement_count : Option Line → ℕ → ℕ
statement_count None place = 0
statement_count (Some (line.EndWhile e n)) place = place - n
statement_count (Some l) place = place + 1
