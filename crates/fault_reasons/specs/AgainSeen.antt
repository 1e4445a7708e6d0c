-- A superstep that is looked at again, as the code has it.
use Rattle.fault_reasons.specs.Texts.{Again}
use Rattle.fault_reasons.specs.declared.task.Superstep.{Superstep}

abbrev pub again_seen : Superstep → Again
again_seen s = record { text = s.text.now; job = s.job.now; arrays = s.arrays.now; tasks = s.tasks.now; step = s.step }
