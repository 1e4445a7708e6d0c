use denote.Param.Send.{sendable}
use Rattle.std.proofs.Crossing.{crosses}
use Rattle.test_program.proofs.Sent.{count_send}
use Rattle.test_program.proofs.runs.run_by.Goals as goal

pub run-status-requires-send-W : goal.run-status-requires-send-W
run-status-requires-send-W g c κs within = search (sendable, crosses, count_send) depth 40
