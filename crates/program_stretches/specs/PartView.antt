-- A stretch as its code keeps it (own).
use Rattle.std.specs.Prelude.{ℕ, List, reverse, is_some}
use Rattle.program_stretches.specs.declared.part.Part.TheInside.{Inside}
use Rattle.program_stretches.specs.PartValue.{PartValue}
use Rattle.program_stretches.specs.Kept.{IsKept, tasks_by, deeds_by, if_done, fault_if_done}

abbrev pub part_of : {S : Type 0} → Inside S → PartValue S
part_of i = record {
  first = i.state.value.first;
  tasks = tasks_by i.state.value.notes.items i.state.value.tasks.items;
  done = i.state.value.done;
  puts = if_done i.state.value.done i.state.value.work.puts;
  deeds = if_done i.state.value.done (deeds_by i.state.value.notes.items i.state.value.deeds);
  prints = if_done i.state.value.done i.state.value.prints.items;
  fault = fault_if_done i.state.value.done i.state.value.fault;
  settled = is_some i.state.value.settled;
}

abbrev pub IsPartInside : {S : Type 0} → (S → List ℕ) → Inside S → Type 0
IsPartInside path i =
    IsKept path i.state.value.settled i.state.value.tasks.items (reverse i.state.value.spare.waiting.items) i.state.value.notes.items
    i.state.value.done
