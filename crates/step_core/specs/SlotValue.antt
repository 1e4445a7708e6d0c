-- A live task as the code has it, and its segment once it was delivered.
use Rattle.std.specs.Prelude.{Option}
use Rattle.task_lang.specs.TaskValue.{TaskValue}
use Rattle.task_lang.specs.SegmentValue.{SegmentValue}

pub record SlotValue : Type 0 where
  pub task : TaskValue
  pub done : Option SegmentValue
