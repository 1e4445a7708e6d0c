use Rattle.std.proofs.Common.{◌≡◌, ◌∙◌, true, false, Some, Bool, ap, sym, subst}
use Rattle.std.specs.Prelude.{not, ◌||◌}
use Rattle.std.specs.Option.{option_map}
use Rattle.phase_records.specs.StatusSeen.{status_seen}
use Rattle.program_stretches.specs.Parts.{reading_of}
use Rattle.program_stretches.specs.StretchesValue.{status_in}
use Rattle.program_stretches.specs.Closing.{HasLeft}
use Rattle.program_stretches.proofs.Closed.{has_left, left_when}
use Rattle.program_stretches.proofs.stretches.Stretches.into_left.Goals as goal

rests : (b c : Bool) → (not b || c) ≡ true → b ≡ true → c ≡ true
rests true c e t = e
rests false c e t = cc

pub returns-clause-left : goal.returns-clause-left
returns-clause-left g c =
    let m = reading_of g.P.Program.frame g.P.Program.may g.P.Program.meant g.P.Task.OnPath.path_of in
    let v = c.args.self in
    let s = status_seen c.in-Some.status in
    let ended : status_in v ≡ Some s = sym c.status.ensures.status ∙ ap (option_map status_seen) c.in-Some.is in
    left_when c.leave.result _ _ _ c.leave.ensures.left c.leave.ensures.some
    (λ l f there. (
      f.named,
      subst (λ log. HasLeft m log l.given l.ran.report l.ran.tasks.items) (sym f.logged)
          (subst (λ n. HasLeft m v.log n l.ran.report l.ran.tasks.items) (sym f.gave)
          (has_left m v c.leave.ensures.run (g.met.P.Program.keeps_paths v.program) s ended l.ran.tasks.items f.tasks (rests _ _ there) l.ran.report f.report)),
    ))

pub returns-clause-status : goal.returns-clause-status
returns-clause-status g c =
    left_when c.leave.result _ _ _ c.leave.ensures.left c.leave.ensures.some
    (λ l f there. ap (λ r. Some r.status) f.report ∙ sym (ap (option_map status_seen) c.in-Some.is) ∙ c.status.ensures.status)
