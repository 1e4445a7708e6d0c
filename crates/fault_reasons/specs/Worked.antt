-- Reasons for faults and for the limit, worked out by hand (own).
use Rattle.std.specs.Prelude.{◌≡◌, ℕ, ℤ, pos, List, [], ◌∷◌, ◌++◌, codes}
use Rattle.superstep_memory.specs.declared.arrays.PutKind.TheVariants.{Set, Add as Sum}
use Rattle.task_code.specs.declared.code.Index.{Index}
use Rattle.task_code.specs.declared.code.Index.TheVariants.{Number, Local, Arg, Step}
use Rattle.task_code.specs.declared.code.Cell.{Cell}
use Rattle.task_code.specs.declared.code.Operand.{Operand}
use Rattle.task_code.specs.declared.code.Operand.TheVariants.{Plain, Cell as At}
use Rattle.task_code.specs.declared.code.Operator.TheVariants.{Add, Multiply, Divide, Below}
use Rattle.task_code.specs.declared.code.Expr.TheVariants.{One, Two}
use Rattle.task_code.specs.declared.code.Action.TheVariants.{Let, Put, Print, Spawn, Sync}
use Rattle.task_code.specs.declared.code.Line.{Line}
use Rattle.task_code.specs.declared.code.Line.TheVariants.{Do, If, Else, EndIf, While, EndWhile}
use Rattle.task_lang.specs.TaskValue.{TaskValue}
use Rattle.task_lang.specs.declared.fault.Fault.TheVariants.{Budget}
use Rattle.fault_reasons.specs.Texts.{Again, fault_by, fault_text, fresh, limit_text, setting_in}
use Rattle.fault_reasons.specs.Walk.{walked}
use Rattle.fault_reasons.specs.declared.walk.End.TheVariants.{Fault as FaultAt}

abbrev pub number : ℤ → Operand
number n = Plain (Number n)

abbrev pub local : ℕ → Operand
local i = Plain (Local i)

abbrev pub cell : ℕ → Index → Cell
cell array index = record { array = array; index = index }

-- an array of these cells
abbrev pub array_of : List ℕ → List ℤ → List (List ℕ × List ℤ)
array_of name cells = (name, cells) ∷ []

-- a task of body 0 that goes on at this line
abbrev pub task : List ℕ → ℕ → List ℤ → ℤ → TaskValue
task path place locals arg = record { path = path; body = 0; place = place; locals = locals; arg = arg; spawned = 0 }

-- a superstep of a job of one body: its text, arrays, the names of its locals, its lines, the number of the superstep, and its tasks
abbrev pub job_in : List ℕ → List (List ℕ × List ℤ) → List (List ℕ) → List Line → ℕ → List TaskValue → Again
job_in text arrays locals code step tasks = record {
  text = text;
  job = record { format = 1; arrays = arrays; bodies = record { name = codes "b"; locals = locals; code = code } ∷ []; starts = [] };
  arrays = arrays;
  tasks = tasks;
  step = step;
}

-- a task of no local begins in superstep 0
abbrev pub alone : List ℕ → List (List ℕ × List ℤ) → List Line → ℤ → Again
alone text arrays code arg = job_in text arrays [] code 0 (task (0 ∷ []) 0 [] arg ∷ [])

-- a sum in the second branch, of the second task
abbrev pub branches : Again
branches =
    job_in
    (codes "bsp 1\nbody b\n  let i = 9223372036854775807\n  if i < 1\n    print 1\n  else\n    print i + arg\n  end\nend\nstart b 0\nstart b 7\n")
    [] (codes "i" ∷ [])
    (Do (Let 0 (One (number (pos 9223372036854775807)))) ∷ If (Two (local 0) Below (number (pos 1))) 2 ∷ Do (Print (One (number (pos 1))))
    ∷ Else 1
    ∷ Do (Print (Two (local 0) Add (Plain Arg))) ∷ EndIf ∷ [])
    0 (task (0 ∷ []) 0 (pos 0 ∷ []) (pos 0) ∷ task (1 ∷ []) 0 (pos 0 ∷ []) (pos 7) ∷ [])

-- a name that is read twice
abbrev pub square : Again
square =
    job_in (codes "bsp 1\nbody b\n  let i = 4294967296\n  print i * i\nend\n") [] (codes "i" ∷ [])
    (Do (Let 0 (One (number (pos 4294967296)))) ∷ Do (Print (Two (local 0) Multiply (local 0))) ∷ []) 0
    (task (0 ∷ []) 0 (pos 0 ∷ []) (pos 0) ∷ [])

abbrev pub share : Again
share =
    job_in (codes "bsp 1\narray c 2 4 6\nbody b\n\n  let n = 0\n  let x = c[arg] / n\nend\n") (array_of (codes "c") (pos 4 ∷ pos 6 ∷ []))
    (codes "n" ∷ codes "x" ∷ [])
    (Do (Let 0 (One (number (pos 0)))) ∷ Do (Let 1 (Two (At (cell 0 Arg)) Divide (local 0))) ∷ []) 0
    (task (0 ∷ []) 0 (pos 0 ∷ pos 0 ∷ []) (pos 1) ∷ [])

-- three cells
abbrev pub three : List (List ℕ × List ℤ)
three = array_of (codes "a") (pos 0 ∷ pos 0 ∷ pos 0 ∷ [])

-- the test at the end of a loop, and the first one
abbrev pub last_test : Again
last_test =
    job_in (codes "bsp 1\narray a 3\nbody b\n  let i = 1\n  while a[i] < 5\n    let i = i + 1\n  end\nend\n") three (codes "i" ∷ [])
    (Do (Let 0 (One (number (pos 1)))) ∷ While (Two (At (cell 0 (Local 0))) Below (number (pos 5))) 2
    ∷ Do (Let 0 (Two (local 0) Add (number (pos 1))))
    ∷ EndWhile (Two (At (cell 0 (Local 0))) Below (number (pos 5))) 1 ∷ [])
    0 (task (0 ∷ []) 0 (pos 0 ∷ []) (pos 0) ∷ [])

abbrev pub first_test : Again
first_test =
    alone (codes "bsp 1\narray a 3\nbody b\n  while a[arg] < 5\n  end\nend\n") three
    (While (Two (At (cell 0 Arg)) Below (number (pos 5))) 1 ∷ EndWhile (Two (At (cell 0 Arg)) Below (number (pos 5))) 0 ∷ []) (pos 9)

-- the test of a branch
abbrev pub branch_test : Again
branch_test =
    alone (codes "bsp 1\narray a 3\nbody b\n  if 5 < a[arg]\n  end\nend\n") three
    (If (Two (number (pos 5)) Below (At (cell 0 Arg))) 1 ∷ EndIf ∷ []) (pos 9)

-- a put whose cell isn't there, and one that reads a cell that isn't
abbrev pub put_outside : Again
put_outside =
    alone (codes "bsp 1\narray a 3\nbody b\n  put a[5] = 1 / 0\nend\n") three
    (Do (Put Set (cell 0 (Number (pos 5))) (Two (number (pos 1)) Divide (number (pos 0)))) ∷ []) (pos 0)

abbrev pub put_of_outside : Again
put_of_outside =
    job_in (codes "bsp 1\narray a 3\narray d 2\nbody b\n  put a[i] = d[j]\nend\n") (three ++ array_of (codes "d") (pos 0 ∷ pos 0 ∷ []))
    (codes "i" ∷ codes "j" ∷ [])
    (Do (Put Set (cell 0 (Local 0)) (One (At (cell 1 (Local 1))))) ∷ []) 0 (task (0 ∷ []) 0 (pos 1 ∷ pos 4 ∷ []) (pos 0) ∷ [])

-- in superstep 3
abbrev pub by_step : Again
by_step =
    job_in (codes "bsp 1\narray a 3\nbody b\n  print a[step]\nend\n") three [] (Do (Print (One (At (cell 0 Step)))) ∷ []) 3
    (task (0 ∷ 2 ∷ []) 0 [] (pos 0) ∷ [])

-- a loop that never ends
abbrev pub endless : List Line
endless = While (One (number (pos 1))) 1 ∷ EndWhile (One (number (pos 1))) 0 ∷ []

abbrev pub turning : Again
turning = alone (codes "bsp 1\nbody b\n\n  while 1\n  end\nend\n") [] endless (pos 7)

-- a task that spawns one like itself
abbrev pub spawner : List ℕ → ℕ → Again
spawner path spawned =
    job_in (codes "bsp 1\nbody b\n  spawn b arg\n  sync\nend\n") [] [] (Do (Spawn 0 (One (Plain Arg))) ∷ Do Sync ∷ [])
    2 (record (task path 0 [] (pos 3)) { spawned = spawned } ∷ task (9 ∷ []) 0 [] (pos 0) ∷ [])

-- two tasks that spawn one each, and stop
abbrev pub stopping : Again
stopping =
    job_in (codes "bsp 1\nbody b\n  spawn b arg\nend\n") [] [] (Do (Spawn 0 (One (Plain Arg))) ∷ []) 2
    (task (0 ∷ []) 0 [] (pos 3) ∷ task (1 ∷ []) 0 [] (pos 0) ∷ [])

-- two tasks that add to one cell
abbrev pub adding : Again
adding =
    job_in (codes "bsp 2\narray t 2 5 9223372036854775800\nbody b\n  sync\n  add t[1] = 4\n  add t[1] = arg\nend\n")
    (array_of (codes "t") (pos 5 ∷ pos 9223372036854775800 ∷ [])) []
    (Do Sync ∷ Do (Put Sum (cell 0 (Number (pos 1))) (One (number (pos 4)))) ∷ Do (Put Sum (cell 0 (Number (pos 1))) (One (Plain Arg)))
    ∷ [])
    1 (task (0 ∷ []) 1 [] (pos 3) ∷ task (1 ∷ []) 1 [] (pos 1) ∷ [])

-- tasks that wait after a `sync`
abbrev pub waiting_tasks : ℕ → List TaskValue → Again
waiting_tasks step tasks =
    job_in (codes "bsp 1\nbody b\n  while 1\n    sync\n  end\nend\n") [] []
    (While (One (number (pos 1))) 2 ∷ Do Sync ∷ EndWhile (One (number (pos 1))) 1 ∷ []) step tasks

abbrev pub waits_at : ℕ → TaskValue
waits_at n = task (n ∷ []) 2 [] (pos n)

pub record ReasonsAreWorkedOut : Type 0 where
  pub overflow : fault_text branches 1 (1 ∷ [])
      ≡ codes
      "fault 1 (Overflow) in body b, line 7: print i + arg, where i = 9223372036854775807 and arg = 7\n  task 1, arg = 7, in superstep 0\n"
  pub twice : fault_text square 1 (0 ∷ [])
      ≡ codes "fault 1 (Overflow) in body b, line 4: print i * i, where i = 4294967296\n  task 0, arg = 0, in superstep 0\n"
  pub divide : fault_text share 2 (0 ∷ [])
      ≡ codes
      "fault 2 (DivideByZero) in body b, line 6: let x = c[arg] / n, where arg = 1, c[arg] = 6 and n = 0\n  task 0, arg = 1, in superstep 0\n"
  pub last : fault_text last_test 3 (0 ∷ [])
      ≡ codes "fault 3 (Index) in body b, line 5: while a[i] < 5, where i = 3 and a has cells 0 to 2\n  task 0, arg = 0, in superstep 0\n"
  pub first : fault_text first_test 3 (0 ∷ [])
      ≡ codes
      "fault 3 (Index) in body b, line 4: while a[arg] < 5, where arg = 9 and a has cells 0 to 2\n  task 0, arg = 9, in superstep 0\n"
  pub branch : fault_text branch_test 3 (0 ∷ [])
      ≡ codes "fault 3 (Index) in body b, line 4: if 5 < a[arg], where arg = 9 and a has cells 0 to 2\n  task 0, arg = 9, in superstep 0\n"
  pub put : fault_text put_outside 3 (0 ∷ [])
      ≡ codes "fault 3 (Index) in body b, line 4: put a[5] = 1 / 0, where a has cells 0 to 2\n  task 0, arg = 0, in superstep 0\n"
  pub put_of : fault_text put_of_outside 3 (0 ∷ [])
      ≡ codes
      "fault 3 (Index) in body b, line 5: put a[i] = d[j], where i = 1, j = 4 and d has cells 0 to 1\n  task 0, arg = 0, in superstep 0\n"
  pub step : fault_text by_step 3 (0 ∷ 2 ∷ [])
      ≡ codes
      "fault 3 (Index) in body b, line 4: print a[step], where step = 3 and a has cells 0 to 2\n  task 0.2, arg = 0, in superstep 3\n"
  -- with 5 statements left of the budget
  pub budget : walked (setting_in by_step (task (0 ∷ []) 0 [] (pos 0))) endless 5 0 (fresh []) ≡ (FaultAt Budget 1, fresh [])
  pub budget_reason : fault_by turning (task (0 ∷ []) 0 [] (pos 7)) (FaultAt Budget 1, fresh [])
      ≡ codes "fault 4 (Budget) in body b, line 4: while 1\n  task 0, arg = 7, in superstep 0\n"
  pub depth : fault_text (spawner (0 ∷ 1 ∷ 2 ∷ 3 ∷ 4 ∷ 5 ∷ 6 ∷ 7 ∷ []) 0) 5 (0 ∷ 1 ∷ 2 ∷ 3 ∷ 4 ∷ 5 ∷ 6 ∷ 7 ∷ [])
      ≡ codes "fault 5 (Depth) in body b, line 3: spawn b arg, where arg = 3\n  task 0.1.2.3.4.5.6.7, arg = 3, in superstep 2\n"
  pub spawns : fault_text (spawner (0 ∷ []) 65535) 6 (0 ∷ [])
      ≡ codes "fault 6 (Spawns) in body b, line 3: spawn b arg, where arg = 3\n  task 0, arg = 3, in superstep 2\n"
  -- as if 4 were too many
  pub many : fault_text (spawner (0 ∷ []) 0) 7 [] ≡ codes "fault 7 (TooMany) in superstep 2: 4 tasks would live on, and at most 4096 may\n"
  -- as if 2 were: tasks that stop
  pub stopped : fault_text stopping 7 [] ≡ codes "fault 7 (TooMany) in superstep 2: 2 tasks would live on, and at most 4096 may\n"
  pub sum : fault_text adding 8 (1 ∷ [])
      ≡ codes "fault 8 (Overflowed) in superstep 1: t[1] came to 9223372036854775807, and task 1 adds 4\n"
  pub limit : limit_text (waiting_tasks 1 (waits_at 0 ∷ []))
      ≡ codes "limit of 1 superstep reached, live tasks: 1\n  task 0, arg = 0, in body b, line 4: sync\n"
  pub seven : limit_text (waiting_tasks 2 (waits_at 0 ∷ waits_at 1 ∷ waits_at 2 ∷ waits_at 3 ∷ waits_at 4 ∷ waits_at 5 ∷ waits_at 6 ∷ []))
      ≡ codes
      "limit of 2 supersteps reached, live tasks: 7\n  task 0, arg = 0, in body b, line 4: sync\n  task 1, arg = 1, in body b, line 4: sync\n"
      ++ codes
      "  task 2, arg = 2, in body b, line 4: sync\n  task 3, arg = 3, in body b, line 4: sync\n  task 4, arg = 4, in body b, line 4: sync\n  and 2 more\n"
