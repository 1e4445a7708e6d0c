use denote.Param.Send.{sendable}
use Rattle.std.proofs.Crossing.{crosses}
use Rattle.test_examples.proofs.Sent.{count_send}
use Rattle.test_examples.proofs.run_on.Goals as goal

pub run-status-requires-send-W : goal.run-status-requires-send-W
run-status-requires-send-W g c κs within = search (sendable, crosses, count_send) depth 40
