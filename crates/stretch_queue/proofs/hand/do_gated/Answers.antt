use Rattle.std.proofs.Common.{sym}
use Rattle.stretch_queue.proofs.hand.do_gated.Goals as goal

pub leave_for-requires : goal.leave_for-requires
leave_for-requires g c = record {
  ran = record {
    before = c.args.stretch.now;
    segment = record { first = sym c.in-Some.ensures; of_step = sym c.step-step.ensures; waits = c.requires.waits };
    same = c.run-done.ensures.same;
    ran = c.run-done.ensures.done;
  };
}
