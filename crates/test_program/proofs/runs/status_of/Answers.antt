use denote.Param.Send.{sendable}
use Rattle.std.proofs.Crossing.{crosses}
use Rattle.test_program.proofs.Sent.{count_send}
use Rattle.test_program.proofs.runs.status_of.Goals as goal

pub run_telling-requires-send-W : goal.run_telling-requires-send-W
run_telling-requires-send-W g c κs within = search (sendable, crosses, count_send) depth 40
