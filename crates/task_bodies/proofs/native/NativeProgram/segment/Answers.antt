use Rattle.std.proofs.Common.{refl, subst}
use Rattle.programs.specs.declared.work.SegmentEnd.TheVariants as ended
use Rattle.programs.specs.Lent.{HasLeft}
use Rattle.task_bodies.specs.Bodies.{MemberValue, BodyMay, member_frame, path_of, framed, left_so}
use Rattle.task_bodies.proofs.WellFormed.{framed_formed}
use Rattle.task_bodies.proofs.Framed.{if_ok, left_fail, left_stop, left_sync}
use Rattle.task_bodies.proofs.native.NativeProgram.segment.Goals as goal

pub returns-in-Fails : goal.returns-in-Fails
returns-in-Fails g c =
    let may = g.B.TaskBody.may c.args.self.now.body.now in
    let arrays = c.args.arrays.now in
    let o = c.run.new.out in
    let k = c.run.new.kept in
    let left = left_so c.in_ok-ending.ending k o in
    let u : MemberValue g.row.B-Kept.Denot = record { path = c.task.inside.path.items; begun = c.task.inside.begun; kept = k } in
    subst
    (λ t. HasLeft member_frame (λ x a n h. BodyMay may x a n h) (λ x. x) path_of arrays c.args.step (ended.Fails c.in-Fails.code) t u c.args.work.now c.open-out.new.work)
    c.task.view_is
    (let t : MemberValue g.row.B-Kept.Denot =
    record { path = c.task.inside.path.items; begun = c.task.inside.begun; kept = c.task.inside.kept } in
    record {
      left = framed arrays t left;
      allowed = record { left = left; allowed = c.in_ok-ending.ensures; is = refl };
      formed = framed_formed arrays t left;
      is = left_fail arrays t u k o c.in_ok-ending.ending c.in-Fails.code c.args.work.now c.open-out.new.work c.in-Fails.is refl;
    })

pub returns-in-Stops : goal.returns-in-Stops
returns-in-Stops g c =
    let may = g.B.TaskBody.may c.args.self.now.body.now in
    let arrays = c.args.arrays.now in
    let o = c.run.new.out in
    let k = c.run.new.kept in
    let left = left_so c.in_ok-ending.ending k o in
    if_ok c.settle.result _ _ c.settle.ensures (λ e s.
    subst
    (λ t. HasLeft member_frame (λ x a n h. BodyMay may x a n h) (λ x. x) path_of arrays c.args.step e t c.settle.new.task c.args.work.now c.settle.new.work)
    c.task.view_is
    (let t : MemberValue g.row.B-Kept.Denot =
    record { path = c.task.inside.path.items; begun = c.task.inside.begun; kept = c.task.inside.kept } in
    record {
      left = framed arrays t left;
      allowed = record { left = left; allowed = c.in_ok-ending.ensures; is = refl };
      formed = framed_formed arrays t left;
      is =
          left_stop arrays t (record { path = c.task.inside.path.items; begun = c.task.inside.begun; kept = k }) c.settle.new.task k o
          c.in_ok-ending.ending e c.args.work.now c.open-out.new.work c.settle.new.work
          c.in-Stops.is refl refl c.open-out.ensures.puts s;
    }))

pub returns-in-Syncs : goal.returns-in-Syncs
returns-in-Syncs g c =
    let may = g.B.TaskBody.may c.args.self.now.body.now in
    let arrays = c.args.arrays.now in
    let o = c.run.new.out in
    let k = c.run.new.kept in
    let left = left_so c.in_ok-ending.ending k o in
    if_ok c.settle-in-Syncs.result _ _ c.settle-in-Syncs.ensures (λ e s.
    subst
    (λ t. HasLeft member_frame (λ x a n h. BodyMay may x a n h) (λ x. x) path_of arrays c.args.step e t c.settle-in-Syncs.new.task c.args.work.now c.settle-in-Syncs.new.work)
    c.task.view_is
    (let t : MemberValue g.row.B-Kept.Denot =
    record { path = c.task.inside.path.items; begun = c.task.inside.begun; kept = c.task.inside.kept } in
    record {
      left = framed arrays t left;
      allowed = record { left = left; allowed = c.in_ok-ending.ensures; is = refl };
      formed = framed_formed arrays t left;
      is =
          left_sync arrays t (record { path = c.task.inside.path.items; begun = c.task.inside.begun; kept = k }) c.settle-in-Syncs.new.task
          k o c.in_ok-ending.ending e c.args.work.now c.open-out.new.work c.settle-in-Syncs.new.work
          c.in-Syncs.is refl refl refl c.open-out.ensures.puts s;
    }))
