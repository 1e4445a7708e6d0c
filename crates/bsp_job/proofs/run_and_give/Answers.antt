use Rattle.std.proofs.Common.{◌≡◌, ◌∙◌, ap, sym, inr, length, FitsSigned, w32, to_z, of_z, arith, rules}
use Rattle.std.proofs.lemmas.Int.{ints}
use Rattle.phase_records.specs.ReportValue.{ReportValue}
use Rattle.bsp_job.specs.Jobs.{status_number}
use Rattle.bsp_job.proofs.Giving.{gives}
use Rattle.bsp_job.proofs.run_and_give.Goals as goal

pub returns-clause-given : goal.returns-clause-given
returns-clause-given c =
    let fits : FitsSigned w32 c.give.result = search rules in
    let status : to_z w32 (of_z w32 c.give.result) ≡ c.give.result = omega (arith, ints, fits) in
    let small : FitsSigned w32 c.status_of.result = search rules in
    let done : to_z w32 (of_z w32 c.status_of.result) ≡ c.status_of.result = omega (arith, ints, small) in
    rw status
    (inr
    (gives c.args.job.now c.args.limit c.in-Ok.report c.in-Ok-text_of.text.items c.give.new.out c.status_of.result c.give.result _ c.in-Ok.ensures c.in-Ok-text_of.ensures
    (c.status_of.ensures ∙ ap (λ (r : ReportValue). status_number r.status) c.report.view_is)
    (c.len-reported.ensures ∙ sym c.deref.ensures.len ∙ ap length c.deref.ensures.value)
    (rw (done, c.deref.ensures.value) at c.give.ensures)))
