-- A join at the tier of a token that has polled.
use Rattle.std.proofs.Common.{◌≡◌, ℕ, ◌<◌, ◌∙◌, ap, subst}
use Rattle.tier_steps.specs.Tally.{word_at}
use Rattle.tier_steps.specs.Step.{opening}
use Rattle.tier_steps.specs.declared.view.Errand.TheVariants.{Rest}
use Rattle.tier_steps.specs.declared.view.OpeningStage.TheVariants.{Seeking}
use Rattle.tier_core.specs.declared.call.Progress.TheVariants.{Seeking as ToSeek}
use Rattle.tier_core.specs.declared.call.Step.TheVariants.{Go}
use Rattle.tier_core.specs.Machine.{view_at}
use Rattle.tier_laws.proofs.Stepping.{fitting}
use Rattle.tier_laws.proofs.Members.{open_tiers_admit}
use Rattle.tier_laws.proofs.Opens.{awaited_tiers_wait}
use Rattle.job_laws.specs.Roles.{Role, Here, Seeks, Ready, Plays}
use Rattle.job_laws.specs.Cast.{HomesAdmit}
use Rattle.job_laws.proofs.Quiet.{is_forcing, goes_stay, keeps_the_cast}
use Rattle.job_laws.proofs.Joining.{placed}

pub homes_admit : HomesAdmit
homes_admit s roles own i home cast k h e f capacity =
    let here : Plays s own (Here home) = subst (λ (r : Role). Plays s own r) e (cast.plays own k) in
    let seeks : Plays s i (Seeks home 0) = subst (λ (r : Role). Plays s i r) f (cast.plays i h) in
    let tier = here.0.ready.late.tier in
    let waits = awaited_tiers_wait s own cast.core cast.going here.0.ready.late.awaited
    (ap (λ t. (word_at s.words t).phase) tier ∙ here.0.word) in
    let fits = fitting s i (ToSeek home 1) cast.core h seeks.2 in
    let rests : (view_at s.views i).errand ≡ Rest = fits.0 ∙ ap (λ n. opening home n Seeking 1) seeks.1 in
    let step = open_tiers_admit s i home 1 cast.core h cast.going seeks.2 rests
    (subst (λ (t : ℕ). 0 < (word_at s.words t).parties) tier waits.0) (subst (λ (t : ℕ). 0 < (word_at s.words t).unarrived) tier waits.1)
    capacity in
    let root = goes_stay s i cast.core (ap is_forcing seeks.2) in
    record {
      answer = step.answer;
      cast = keeps_the_cast s roles (Go i) (Ready home) cast tt root h
          (placed s i home cast.core h root step.placed.tier step.placed.size step.placed.arrived step.placed.phase step.call);
    }
