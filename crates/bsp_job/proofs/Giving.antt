-- What a job leaves, given as text.
use Rattle.std.proofs.Common.{◌≡◌, ℕ, ℤ, List, [], ◌∷◌, map, length, Some, refl, sym, ◌∙◌, ap, subst}
use Rattle.phase_records.specs.ReportValue.{ReportValue}
use Rattle.phase_records.specs.ReportText.{report_text}
use Rattle.task_code.specs.JobValue.{JobValue}
use Rattle.task_code.specs.BodyValue.{BodyValue}
use Rattle.task_lang.specs.Meaning.{Plan}
use Rattle.task_lang.specs.Views.{plans}
use Rattle.job_reader.specs.Trees.{body_tree, job_tree}
use Rattle.step_core.specs.Program.{Program, program_of}
use Rattle.step_core.specs.JobMeaning.{report_of}
use Rattle.bsp_job.specs.declared.Reported.{Reported}
use Rattle.bsp_job.specs.Given.{IsGiven}
use Rattle.bsp_job.specs.Jobs.{GivesReport, plan_of, program_of_tree, status_number}

same_plans : (bs : List BodyValue) → map plan_of (map body_tree bs) ≡ plans bs
same_plans [] = refl
same_plans (b ∷ bs) = ap (λ (ps : List Plan). plan_of (body_tree b) ∷ ps) (same_plans bs)

same_program : (j : JobValue) → program_of_tree (job_tree j) ≡ program_of j
same_program j = ap (λ (ps : List Plan). record { arrays = j.arrays; plans = ps; starts = j.starts }) (same_plans j.bodies)

pub gives : (j : JobValue) (limit : ℕ) (r : ReportValue) (text out : List ℕ) (done status : ℤ) (reported : Reported)
    → report_of (program_of j) limit ≡ Some r → text ≡ report_text r → done ≡ status_number r.status → reported.bytes ≡ length text
    → IsGiven text out done status (length text)
    → GivesReport (job_tree j) limit out status reported
gives j limit r text out done status reported left is ends bytes given =
    let P : List ℕ → Type 0 = λ t. IsGiven t out done status (length t) in
    let Q : ℤ → Type 0 = λ d. IsGiven (report_text r) out d status (length (report_text r)) in
    let R : ℕ → Type 0 = λ n. IsGiven (report_text r) out (status_number r.status) status n in
    record {
      report = r;
      leaves = ap (λ (p : Program). report_of p limit) (same_program j) ∙ left;
      given = subst R (sym (bytes ∙ ap length is)) (subst Q ends (subst P is given));
    }
