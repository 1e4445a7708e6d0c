use Rattle.std.proofs.Common.{[]}
use Rattle.task_bodies.specs.Bodies.{BodyMay, member_frame, body_does, numbered}
use Rattle.programs.proofs.Exactly.{exactly, lives_exactly}
use Rattle.task_bodies.proofs.WellFormed.{numbered_paths, only_one}
use Rattle.task_bodies.proofs.run.run_exactly.Goals as goal

pub returns : goal.returns
returns g c =
    let b = c.args.body.now in
    record {
      report =
          exactly member_frame (BodyMay (g.B.TaskBody.may b)) c.args.most (body_does (g.B.Exact.does b))
          (only_one (g.B.TaskBody.may b) (g.B.Exact.does b) (g.met.B.Exact.exact b))
          c.args.arrays (numbered [] 0 c.args.tasks.items) c.args.limit (numbered_paths [] 0 c.args.tasks.items) c.in_ok-ran.ran.report
          c.in_ok-ran.ran.tasks.items c.in_ok-ran.ensures.ran;
      living =
          lives_exactly member_frame (BodyMay (g.B.TaskBody.may b)) c.args.most (body_does (g.B.Exact.does b))
          (only_one (g.B.TaskBody.may b) (g.B.Exact.does b) (g.met.B.Exact.exact b))
          c.args.arrays (numbered [] 0 c.args.tasks.items) c.args.limit (numbered_paths [] 0 c.args.tasks.items) c.in_ok-ran.ran.report
          c.in_ok-ran.ran.tasks.items c.in_ok-ran.ensures.ran;
      few = c.in_ok-ran.ensures.few;
      fault = tt;
    }
