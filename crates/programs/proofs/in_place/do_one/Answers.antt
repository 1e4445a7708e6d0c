use Rattle.std.proofs.Common.{arith, subst, true, false, refl}
use Rattle.programs.specs.declared.work.SegmentEnd.{SegmentEnd}
use Rattle.programs.specs.Reads.{reads}
use Rattle.programs.specs.Lent.{IsLeft}
use Rattle.programs.proofs.InPlace.{kept_one, fault_one}
use Rattle.programs.proofs.in_place.do_one.Goals as goal

pub returns-in_ok-keep-in-Stops-clause-reported : goal.returns-in_ok-keep-in-Stops-clause-reported
returns-in_ok-keep-in-Stops-clause-reported g c =
    let q = c.args.scene.now.program.now in
    let meant = g.P.Program.meant q in
    let path = g.P.Task.OnPath.path_of in
    let h = c.in_ok-do_task.ensures in
    let done =
    subst (λ (e : SegmentEnd). IsLeft meant path e c.args.task.now c.do_task.new.task c.args.work.now c.do_task.new.work h.left)
    c.in-Stops.is h.is in
    let reported = c.in_ok-keep-in-Stops.ensures in
    record {
      left = h.left;
      allowed = h.allowed;
      formed = h.formed;
      reported = λ s.
          kept_one (reads s meant path) false _ h.left _ c.args.task.now c.do_task.new.task c.args.work.now c.do_task.new.work _ _ _ _ _
          done.0 done.1 done.2 reported.log
          (omega (arith, c.made-puts-in-Stops.ensures.made, c.requires.logged)) reported.deeds reported.prints;
    }

pub returns-in_ok-keep-in-Stays-clause-reported : goal.returns-in_ok-keep-in-Stays-clause-reported
returns-in_ok-keep-in-Stays-clause-reported g c =
    let q = c.args.scene.now.program.now in
    let meant = g.P.Program.meant q in
    let path = g.P.Task.OnPath.path_of in
    let h = c.in_ok-do_task.ensures in
    let done =
    subst (λ (e : SegmentEnd). IsLeft meant path e c.args.task.now c.do_task.new.task c.args.work.now c.do_task.new.work h.left)
    c.in-Stays.is h.is in
    let reported = c.in_ok-keep-in-Stays.ensures in
    record {
      left = h.left;
      allowed = h.allowed;
      formed = h.formed;
      reported = λ s.
          kept_one (reads s meant path) true _ h.left _ c.args.task.now c.do_task.new.task c.args.work.now c.do_task.new.work _ _ _ _ _
          done.0 done.1 done.2 reported.log
          (omega (arith, c.made-puts.ensures.made, c.requires.logged)) reported.deeds reported.prints;
    }

pub returns-in-Fails-clause-reported : goal.returns-in-Fails-clause-reported
returns-in-Fails-clause-reported g c =
    let q = c.args.scene.now.program.now in
    let meant = g.P.Program.meant q in
    let path = g.P.Task.OnPath.path_of in
    let h = c.in_ok-do_task.ensures in
    let done =
    subst (λ (e : SegmentEnd). IsLeft meant path e c.args.task.now c.do_task.new.task c.args.work.now c.do_task.new.work h.left)
    c.in-Fails.is h.is in
    record {
      left = h.left;
      allowed = h.allowed;
      formed = h.formed;
      reported = λ s. (refl, fault_one (reads s meant path) h.left c.args.task.now c.do_task.new.task c.in-Fails.code done.0 done.1);
    }
