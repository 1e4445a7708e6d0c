-- Why a job ended by a fault or at its limit, in words for people (own).
use Rattle.std.specs.Prelude.{ℕ, zero, suc, ◌+◌, ◌==◌, ℤ, pos, if◌then◌else◌, List, [], ◌∷◌, ◌++◌, length, map, take, codes, decimal, Option, Some, None, slice_get, unwrap_or}
use Rattle.std.specs.Fmt.{signed_decimal}
use Rattle.std.specs.Str.{bytes_eq}
use Rattle.superstep_memory.specs.declared.arrays.Put.{Put}
use Rattle.superstep_memory.specs.Cells.{cell_at}
use Rattle.superstep_memory.specs.Landing.{landed, over_in}
use Rattle.phase_records.specs.ReportText.{path_text}
use Rattle.task_code.specs.BodyValue.{BodyValue}
use Rattle.task_code.specs.JobValue.{JobValue}
use Rattle.task_code.specs.declared.code.Line.{Line}
use Rattle.task_lang.specs.FaultCode.{code_of}
use Rattle.task_lang.specs.Meaning.{Setting}
use Rattle.task_lang.specs.TaskValue.{TaskValue}
use Rattle.task_lang.specs.Views.{plans}
use Rattle.task_lang.specs.declared.fault.Fault.{Fault}
use Rattle.task_lang.specs.declared.fault.Fault.TheVariants.{Overflow, DivideByZero, Index, Budget, Depth, Spawns}
use Rattle.job_reader.specs.Words.{name_at}
use Rattle.fault_reasons.specs.Done.{Done}
use Rattle.fault_reasons.specs.Items.{listed, reads}
use Rattle.fault_reasons.specs.Lines.{Numbered, joined, line_in}
use Rattle.fault_reasons.specs.Walk.{statement_count, walked}
use Rattle.fault_reasons.specs.declared.walk.End.{End}
use Rattle.fault_reasons.specs.declared.walk.End.TheVariants as end

-- A superstep that is looked at again: the text of its job, the job, and the arrays and the tasks with which it begins.
pub record Again : Type 0 where
  pub text : List ℕ
  pub job : JobValue
  pub arrays : List (List ℕ × List ℤ)
  pub tasks : List TaskValue
  pub step : ℕ

abbrev pub fault_name : Fault → List ℕ
fault_name Overflow = codes "Overflow"
fault_name DivideByZero = codes "DivideByZero"
fault_name Index = codes "Index"
fault_name Budget = codes "Budget"
fault_name Depth = codes "Depth"
fault_name Spawns = codes "Spawns"

-- a line of the text, by its number and its words
abbrev pub line_said : Option Numbered → List ℕ
line_said None = []
line_said (Some l) = codes "line " ++ decimal l.number ++ codes ": " ++ joined l.words

-- the path and the argument of a task
abbrev pub task_said : TaskValue → List ℕ
task_said t = codes "task " ++ path_text t.path ++ codes ", arg = " ++ signed_decimal t.arg

-- the number and the name of a fault
abbrev pub fault_head : Fault → List ℕ
fault_head f = codes "fault " ++ decimal (code_of f) ++ codes " (" ++ fault_name f ++ codes ") in "

abbrev pub more_said : ℕ → List ℕ
more_said n = codes "  and " ++ decimal n ++ codes " more\n"

-- the word for this many supersteps
abbrev pub supersteps_said : ℕ → List ℕ
supersteps_said n = if n == 1 then codes " superstep" else codes " supersteps"

abbrev pub fresh : List ℤ → Done
fresh locals = record { locals = locals; puts = []; spawned = 0 }

-- the superstep in which this fault came
unfoldable pub step_head : List ℕ → ℕ → List ℕ
step_head name step = codes "fault " ++ name ++ codes " in superstep " ++ decimal step ++ codes ": "

-- what the task of this path adds to a cell
unfoldable pub adds : List ℕ → Put → List ℕ
adds path p = codes ", and task " ++ path_text path ++ codes " adds " ++ signed_decimal p.value ++ codes "\n"

-- how many tasks live on of one whose segment ends so, with those that it spawned
abbrev pub living : End × Done → ℕ
living (end.Synced, d) = d.spawned + 1
living (end.Stopped, d) = d.spawned
living (end.Fault f place, d) = 0

module _ (a : Again) where
  -- what the segment of a task reads
  abbrev pub setting_in : TaskValue → Setting
  setting_in t = record { plans = plans a.job.bodies; arrays = a.arrays; arg = t.arg; step = a.step; path = t.path; begun = t.spawned }

  abbrev pub body_in : TaskValue → Option BodyValue
  body_in t = slice_get a.job.bodies t.body

  -- the lines of a task's body
  abbrev pub code_in : Option BodyValue → List Line
  code_in None = []
  code_in (Some b) = b.code

  abbrev pub names_in : Option BodyValue → List (List ℕ)
  names_in None = []
  names_in (Some b) = b.locals

  -- how the segment of a task ends, and what it has done then
  abbrev pub walk_of : TaskValue → End × Done
  walk_of t = walked (setting_in t) (code_in (body_in t)) 100000 t.place (fresh t.locals)

  -- the line of a body that comes so many lines after its first
  abbrev pub body_line : ℕ → ℕ → List ℕ
  body_line body count =
      codes "body " ++ name_at (map (λ b. b.name) a.job.bodies) body ++ codes ", " ++ line_said (line_in a.text body count)

  abbrev pub reads_on : TaskValue → List ℤ → Option Line → List ℕ
  reads_on t locals None = []
  reads_on t locals (Some l) = listed (reads (record { setting = setting_in t; names = names_in (body_in t); locals = locals }) l)

  -- the statement whose line is at a place of the task's body, and what it reads
  abbrev pub statement_said : TaskValue → ℕ → Option Line → List ℤ → List ℕ
  statement_said t place l locals = body_line t.body (statement_count l place) ++ reads_on t locals l

  -- the line of the task
  abbrev pub task_line : TaskValue → List ℕ
  task_line t = codes "\n  " ++ task_said t ++ codes ", in superstep " ++ decimal a.step ++ codes "\n"

  -- why the segment of a task faulted, if it did
  abbrev pub fault_by : TaskValue → End × Done → List ℕ
  fault_by t (end.Fault f place, d) = fault_head f ++ statement_said t place (slice_get (code_in (body_in t)) place) d.locals ++ task_line t
  fault_by t (e, d) = []

  -- the first of these tasks that has this path
  abbrev pub fault_at : List ℕ → List TaskValue → List ℕ
  fault_at path [] = []
  fault_at path (t ∷ ts) = if bytes_eq t.path path then fault_by t (walk_of t) else fault_at path ts

  abbrev pub all_living : List TaskValue → ℕ
  all_living [] = 0
  all_living (t ∷ ts) = living (walk_of t) + all_living ts

  abbrev pub too_many : List ℕ
  too_many = step_head (codes "7 (TooMany)") a.step ++ decimal (all_living a.tasks) ++ codes " tasks would live on, and at most 4096 may\n"

  -- the puts of all tasks, by path and then in program order
  abbrev pub all_puts : List TaskValue → List Put
  all_puts [] = []
  all_puts (t ∷ ts) = (walk_of t).1.puts ++ all_puts ts

  abbrev pub array_name : ℕ → List ℕ
  array_name array = name_at (map (λ x. x.0) a.arrays) array

  -- the cell of a put
  unfoldable pub cell_said : Put → List ℕ
  cell_said p = array_name p.array ++ codes "[" ++ decimal p.index ++ codes "]"

  unfoldable pub sum_head : Put → List ℕ
  sum_head p = step_head (codes "8 (Overflowed)") a.step ++ cell_said p

  -- a put makes a sum that overflows in a cell that had come to this
  abbrev pub sum_said : List ℕ → Put → ℤ → List ℕ
  sum_said path p held = sum_head p ++ codes " came to " ++ signed_decimal held ++ adds path p

  abbrev pub sum_at : List ℕ → List Put → ℕ → Option Put → List ℕ
  sum_at path puts place None = []
  sum_at path puts place (Some p) = sum_said path p (unwrap_or (cell_at (landed (take place puts) a.arrays) p.array (pos p.index)) (pos 0))

  abbrev pub sum_by : List ℕ → List Put → Option ℕ → List ℕ
  sum_by path puts None = []
  sum_by path puts (Some place) = sum_at path puts place (slice_get puts place)

  -- the first sum that overflows: the cell, what it had come to, and what is added
  abbrev pub overflow : List ℕ → List ℕ
  overflow path = sum_by path (all_puts a.tasks) (over_in a.arrays [] 0 (all_puts a.tasks))

  -- why this fault, of the task of this path, ended the job in this superstep
  abbrev pub fault_text : ℕ → List ℕ → List ℕ
  fault_text code path = if code == 7 then too_many else if code == 8 then overflow path else fault_at path a.tasks

  -- where a task waits: at the line after which it goes on
  abbrev pub waits : TaskValue → List ℕ
  waits t = codes "  " ++ task_said t ++ codes ", in " ++ body_line t.body t.place ++ codes "\n"

  -- where the first tasks wait, at most so many, and how many others there are
  abbrev pub waiting : ℕ → List TaskValue → List ℕ
  waiting left [] = []
  waiting zero (t ∷ ts) = more_said (length (t ∷ ts))
  waiting (suc left) (t ∷ ts) = waits t ++ waiting left ts

  -- how many tasks live at the limit, and where the first of them wait
  abbrev pub limit_text : List ℕ
  limit_text =
      codes "limit of " ++ decimal a.step ++ supersteps_said a.step ++ codes " reached, live tasks: " ++ decimal (length a.tasks)
      ++ codes "\n" ++ waiting 5 a.tasks
