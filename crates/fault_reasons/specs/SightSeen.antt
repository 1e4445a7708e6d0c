-- What a statement reads, as the code has it.
use Rattle.std.specs.Prelude.{map, string_bytes}
use Rattle.task_lang.specs.Views.{setting}
use Rattle.fault_reasons.specs.Items.{Seen}
use Rattle.fault_reasons.specs.declared.items.Sight.{Sight}

abbrev pub sight_seen : Sight → Seen
sight_seen s = record { setting = setting s.scene.now; names = map string_bytes s.names.now; locals = s.locals.now }
