use Rattle.std.proofs.Common.{refl}
use Rattle.job_view.proofs.views.found_panel.Goals as goal

pub returns-in-Some : goal.returns-in-Some
returns-in-Some c = rw (c.in-Some.is, c.time_form.ensures, c.width_of.ensures, c.as_bytes.ensures.value) refl
