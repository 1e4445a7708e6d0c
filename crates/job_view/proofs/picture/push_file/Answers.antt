use Rattle.std.proofs.Common.{◌∙◌, length, ap}
use Rattle.phase_records.specs.ReportValue.{ReportValue}
use Rattle.job_view.specs.Picture.{file}
use Rattle.job_view.proofs.Behind.{last, onto}
use Rattle.job_view.proofs.picture.push_file.Goals as goal

pub returns : goal.returns
unfolding file
returns c =
    let steps = c.len-steps.ensures ∙ c.report.inside.records.ok.0 ∙ ap (λ (r : ReportValue). length r.records) c.report.view_is in
    let status = ap (λ (r : ReportValue). r.status) c.report.view_is in
    last c.args.out.now.items _ _ _ _ c.push_text.result
    (onto c.args.out.now.items _ _ _ _
    (onto c.args.out.now.items _ _ _ _
    (rw c.in_ok-whole_height.ensures at c.in_ok-push_head.ensures)
    (rw (c.deref.ensures.value, steps, status, c.in_ok-columns.ensures.most, c.in_ok-columns.ensures.columns) at c.in_ok-push_supersteps.ensures))
    c.in_ok-push_panels.ensures)
    c.push_text.ensures
