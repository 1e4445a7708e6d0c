-- A device with its counts may go to another thread, if the device may.
use denote.Param.Send.{IsSend, owning_send, sendable}
use Rattle.phase_records.specs.contracts.count.Count.{the_row, the_type}

pub count_send : IsSend the_row
count_send = owning_send the_type (search sendable, tt) (λ d. tt) (λ k x w. tt)
