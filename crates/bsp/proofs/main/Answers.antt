use denote.Param.Send.{sendable}
use Rattle.bsp.proofs.Sent.{count_send}
use Rattle.bsp.proofs.main.Goals as goal

pub run_program-requires-send-W : goal.run_program-requires-send-W
run_program-requires-send-W g c κs = search (sendable, count_send) depth 40
