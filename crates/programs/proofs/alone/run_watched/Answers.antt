use Rattle.std.proofs.Common.{◌≡◌, Bool, true, false, List, map, Option, Some, refl, sym, ap, ◌∙◌, subst}
use Rattle.std.specs.Prelude.{IfSome, not}
use Rattle.std.specs.Option.{option_map, is_some}
use Rattle.phase_records.specs.ReportValue.{ReportValue}
use Rattle.phase_records.specs.Status.{Status}
use Rattle.phase_records.specs.StatusSeen.{status_seen}
use Rattle.phase_records.specs.declared.record.JobStatus.{JobStatus}
use Rattle.programs.specs.History.{OfState, HasRunTo}
use Rattle.programs.specs.Steps.{StepsValue, IsRunning, HasStepped, ended, left_by}
use Rattle.programs.proofs.Reached.{setup_for, IsWatched, reached_none, none_began, reached_more, began_more, seen_now, reached_end, stopped_by, to_limit, fewer_left, is_open, none_is, some_is, ok_is}
use Rattle.programs.proofs.alone.run_watched.Goals as goal

-- a run that hasn't ended goes on
running : {S : Type 0} (v : StepsValue S) (r : Option JobStatus) (b : Bool) → v.failed ≡ false → option_map status_seen r ≡ ended v
    → is_some r ≡ not b → b ≡ true → IsRunning v
running v r b sound e n t = record { sound = sound; going = sym e ∙ ap (option_map status_seen) (none_is r b n t) }

pub loop-steps-init : goal.loop-steps-init
loop-steps-init g c =
    let q = c.args.program.now in
    let meant = g.P.Program.meant q in
    let given = setup_for (g.P.Program.frame q) (g.P.Program.may q) c.args.most meant c.args.arrays c.args.tasks.items c.args.limit in
    subst
    (λ (v : StepsValue g.row.P-Task.Denot). IsWatched given meant (OfState g.W.Watch.goes) v)
    (sym c.new-steps.ensures.begun)
    (record {
      reached = reached_none given meant c.args.tasks.items refl;
      went = none_began given (OfState g.W.Watch.goes);
      ordered = c.new-steps.ensures.ordered q;
    })

pub returns-then-not-may_go_on : goal.returns-then-not-may_go_on
returns-then-not-may_go_on g c =
    let q = c.args.program.now in
    let meant = g.P.Program.meant q in
    let given = setup_for (g.P.Program.frame q) (g.P.Program.may q) c.args.most meant c.args.arrays c.args.tasks.items c.args.limit in
    let v = c.loop-steps.steps in
    let h = c.loop-steps.invariant in
    let run = running v c.status.result c.is_none.result h.reached.sound c.status.ensures.status c.is_none.ensures c.if-is_none.true in
    let at = c.may_go_on.ensures.stops c.if-not-may_go_on.true in
    subst (λ (ts : List g.row.P-Task.Denot). HasRunTo g.W.Watch.stops g.W.Watch.goes given c.stop.result.report (map meant ts))
    (sym c.stop.ensures.tasks)
    (subst (λ (r : ReportValue). HasRunTo g.W.Watch.stops g.W.Watch.goes given r (map meant v.tasks)) (sym c.stop.ensures.report)
    (stopped_by given meant g.W.Watch.stops g.W.Watch.goes v h.reached run h.went at))

pub loop-steps-smaller : goal.loop-steps-smaller
loop-steps-smaller g c =
    let q = c.args.program.now in
    let meant = g.P.Program.meant q in
    let given = setup_for (g.P.Program.frame q) (g.P.Program.may q) c.args.most meant c.args.arrays c.args.tasks.items c.args.limit in
    let v = c.loop-steps.steps in
    let h = c.loop-steps.invariant in
    let run = running v c.status.result c.is_none.result h.reached.sound c.status.ensures.status c.is_none.ensures c.if-is_none.true in
    let t =
    ok_is c.step.result (HasStepped given.frame given.may meant v c.step.new.self) (sym c.is_err.ensures.value ∙ c.if-is_err.false)
    (c.step.ensures.stepped run) in
    fewer_left given meant v c.step.new.self run t

pub loop-steps-preserved : goal.loop-steps-preserved
loop-steps-preserved g c =
    let q = c.args.program.now in
    let meant = g.P.Program.meant q in
    let given = setup_for (g.P.Program.frame q) (g.P.Program.may q) c.args.most meant c.args.arrays c.args.tasks.items c.args.limit in
    let v = c.loop-steps.steps in
    let h = c.loop-steps.invariant in
    let run = running v c.status.result c.is_none.result h.reached.sound c.status.ensures.status c.is_none.ensures c.if-is_none.true in
    let at = c.may_go_on.ensures.goes c.if-not-may_go_on.false in
    let t =
    ok_is c.step.result (HasStepped given.frame given.may meant v c.step.new.self) (sym c.is_err.ensures.value ∙ c.if-is_err.false)
    (c.step.ensures.stepped run) in
    let now =
    seen_now given meant g.W.Watch.goes v h.reached (is_open v run).fault at in
    record {
      reached = reached_more given meant v c.step.new.self h.reached run t;
      went =
          began_more given (OfState g.W.Watch.goes) h.reached.history t.entries
          h.went now;
      ordered = c.step.ensures.ordered;
    }

pub returns : goal.returns
returns g c =
    let q = c.args.program.now in
    let meant = g.P.Program.meant q in
    let given = setup_for (g.P.Program.frame q) (g.P.Program.may q) c.args.most meant c.args.arrays c.args.tasks.items c.args.limit in
    let v = c.loop-steps.steps in
    let h = c.loop-steps.invariant in
    let some = some_is c.status.result c.is_none.result c.is_none.ensures c.if-is_none.false in
    let s = status_seen some.0 in
    let over : ended v ≡ Some s = sym c.status.ensures.status ∙ ap (option_map status_seen) some.1 in
    let report : c.in-Some.ran.report ≡ left_by v s =
    subst (λ (o : Option Status). IfSome o (λ x. c.in-Some.ran.report ≡ left_by v x)) over c.in-Some.ensures.report in
    subst (λ (ts : List g.row.P-Task.Denot). HasRunTo g.W.Watch.stops g.W.Watch.goes given c.in-Some.ran.report (map meant ts))
    (sym c.in-Some.ensures.tasks)
    (subst (λ (r : ReportValue). HasRunTo g.W.Watch.stops g.W.Watch.goes given r (map meant v.tasks)) (sym report)
    (to_limit g.W.Watch.stops g.W.Watch.goes given (left_by v s) (map meant v.tasks)
    (reached_end given meant v s h.reached over) h.went))
