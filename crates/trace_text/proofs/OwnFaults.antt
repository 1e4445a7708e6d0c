-- A line that is no command is refused by the fault of its words.
use Rattle.std.proofs.Common.{Bool, List, Result, refl}
use Rattle.text_lines.specs.declared.refusal.Code.{Code}
use Rattle.trace_text.specs.Words.{Word, command_of}
use Rattle.trace_text.specs.TreeWords.{tree_command_of, brings_token}
use Rattle.trace_text.specs.BarrierWords.{barrier_command_of}
use Rattle.trace_text.specs.Trace.{brings_none}
use Rattle.trace_text.specs.Laws.{RefusesByItself, FaultsOfLinesComeFirst}

own-fault : {C : Type 0} (says : List Word → Result C Code) (brings : C → Bool) → RefusesByItself says brings
own-fault says brings line count tokens this below code counts e = rw (counts, e) refl

pub own_faults : FaultsOfLinesComeFirst
own_faults = record {
  phasers = own-fault command_of brings_none;
  trees = own-fault tree_command_of brings_token;
  barriers = own-fault barrier_command_of brings_none;
}
