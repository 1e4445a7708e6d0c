use Rattle.std.proofs.Common.{◌≡◌, ◌∷◌, ◌++◌, ◌∙◌, sym, ap, append_assoc, List, ℕ}
use Rattle.phase_records.specs.ReportText.{path_text}
use Rattle.phase_records.proofs.ReportProofs.{path_cons, points_text}
use Rattle.fault_reasons.proofs.task.push_path.Goals as goal

pub loop-number-init : goal.loop-number-init
loop-number-init c =
    let cut : c.args.path.now ≡ c.in-Some.first.now ∷ c.in-Some.rest.now = c.in-Some.ensures.cases.0 in
    ap (λ (xs : List ℕ). xs ++ points_text c.in-Some.rest.now) c.in_ok-push_number.ensures
    ∙ append_assoc c.args.out.now.items _ (points_text c.in-Some.rest.now)
    ∙ ap (λ (xs : List ℕ). c.args.out.now.items ++ xs) (sym (path_cons c.in-Some.first.now c.in-Some.rest.now))
    ∙ ap (λ (p : List ℕ). c.args.out.now.items ++ path_text p) (sym cut)
