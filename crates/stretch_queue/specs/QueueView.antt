-- The queue of a run, as its code keeps it (own).
use Rattle.stretch_queue.specs.declared.queue.Queue.TheInside.{Inside}
use Rattle.stretch_queue.specs.QueueValue.{QueueValue}

abbrev pub queue_of : {P H J T L : Type 0} {g : _} → Inside P H J T L g → QueueValue P T
queue_of i = record { stretches = i.stretches; stopped = i.stopped; first = i.first; ready = i.ready.items }
