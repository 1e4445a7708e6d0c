use Rattle.std.proofs.Common.{◌∙◌, ap, List, ℕ}
use Rattle.phase_records.specs.ReportText.{path_text}
use Rattle.phase_records.proofs.ReportProofs.{path_cons, points_text, no_path, no_points}
use Rattle.phase_records.proofs.TakenProofs.{front_none, front_first, front_more, front_all}
use Rattle.phase_records.proofs.report.push_path.Goals as goal

pub returns-in_default : goal.returns-in_default
returns-in_default g c = front_all _ _ _ _ (front_none _ _) (no_path _ (c.in_default.ensures.cases))

pub loop-number-init : goal.loop-number-init
loop-number-init g c =
    front_first _ _ _ _ _ c.push_number.ensures
    (ap (λ (p : List ℕ). path_text p) c.in-Some.ensures.cases.0 ∙ path_cons c.in-Some.first.now c.in-Some.rest.now)

pub loop-number-preserved : goal.loop-number-preserved
loop-number-preserved g c =
    front_more _ _ _ _ _ _ _ c.loop-number.invariant c.push_field.ensures
    (ap (λ (p : List ℕ). points_text p) c.in-Some-split_first.ensures.cases.0)

pub returns : goal.returns
returns g c = front_all _ _ _ _ c.loop-number.invariant (no_points _ (c.in_default-split_first.ensures.cases))
