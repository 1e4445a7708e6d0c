-- A text of a job is read as that job.
use Rattle.std.proofs.Common.{◌≡◌, ℕ, ◌≤◌, Bool, true, List, [], ◌∷◌, length, map, Option, None, Result, Ok, refl, sym, ap, subst, ◌∙◌}
use Rattle.std.specs.Prelude.{if◌then◌else◌}
use Rattle.std.proofs.lemmas.List.{length-map}
use Rattle.text_lines.specs.declared.refusal.Code.TheVariants.{TooLong}
use Rattle.text_lines.specs.declared.refusal.Refusal.{Refusal}
use Rattle.text_lines.specs.Text.{lines_of, bad_byte_line}
use Rattle.task_code.specs.Names.{are_names}
use Rattle.task_code.specs.BodyValue.{BodyValue}
use Rattle.job_reader.specs.Words.{Word, Words}
use Rattle.job_reader.specs.Trees.{BodyTree, JobTree, body_names}
use Rattle.job_reader.specs.Grammar.{no_job, items_lines, job_of, kept, IsTextOf}
use Rattle.job_reader.specs.Legal.{flat_body, IsJobTree}
use Rattle.job_reader.specs.Reading.{refused, declared, read_from, unless_bad, job_in}
use Rattle.text_laws.specs.Laws.{TextsOfJobsAreRead, OneJobAText}
use Rattle.text_laws.proofs.Chain.{Reads, lines-read, header-read}
use Rattle.text_laws.proofs.Declares.{job-declared}
use Rattle.text_laws.proofs.Items.{AreFit, AreItems, IsRoomy, items-fit, items-read, joined-none}
use Rattle.job_reader.proofs.ReadJobs.{short-enough as short-text}

-- the names of bodies with flat code
flat-names : (bs : List BodyTree) → map (λ (b : BodyValue). b.name) (map flat_body bs) ≡ map (λ (b : BodyTree). b.name) bs
flat-names [] = refl
flat-names (b ∷ bs) = ap (λ (x : List Word). b.name ∷ x) (flat-names bs)

roomy : (j : JobTree) → IsJobTree j → IsRoomy j
roomy j h = record {
  arrays = h.named;
  few_arrays = h.few_arrays;
  bodies = subst (λ (x : List Word). are_names x ≡ true) (flat-names j.bodies) h.bodies;
  few_bodies = subst (λ (n : ℕ). n ≤ 64) (length-map j.bodies flat_body) h.few_bodies;
  few_starts = h.few_starts;
}

fit : (j : JobTree) → IsJobTree j → AreFit j
fit j h = record { arrays = h.arrays; cells = h.cells; bodies = h.each; args = h.args }

-- the lines of a job's text are read as the job
text-lines-read : (ls : List (List ℕ)) (j : JobTree) → IsJobTree j → IsTextOf j (kept ls) → read_from (declared ls) 1 ls ≡ Ok j
text-lines-read ls j job w =
    let capacity : IsRoomy j = roomy j job in
    let names : List Word = body_names j in
    let few : length (body_names (job_of j.format w.items)) ≤ 64 =
    subst (λ (x : JobTree). length (body_names x) ≤ 64) (sym w.said)
    (subst (λ (n : ℕ). n ≤ 64) (sym (length-map j.bodies (λ (b : BodyTree). b.name))) capacity.few_bodies) in
    let looked : declared ls ≡ names = job-declared j.format ls names w.items w.written few ∙ ap body_names w.said in
    let items : AreItems w.items = items-fit j.format w.items (subst AreFit (sym w.said) (fit j job)) in
    let reads : Reads names (items_lines j.format [] names w.items) (no_job j.format, None) (j, None) =
    items-read names j capacity.bodies capacity w.items (no_job j.format) (joined-none j.format w.items ∙ w.said) items w.sound in
    ap (λ (x : List Word). read_from x 1 ls) looked
    ∙ header-read names j.format ls 1 (items_lines j.format [] names w.items) j job.format w.written
    (λ m behind e. lines-read names behind m (no_job j.format, None) (j, None) j (subst (λ (x : List Words). Reads names x (no_job j.format, None) (j, None)) (sym e) reads) refl)

pub text-of-job-read : TextsOfJobsAreRead
unfolding job_in
text-of-job-read text j h =
    ap
    (λ (b : Bool). if b then refused 1 TooLong
    else unless_bad (bad_byte_line 1 text) (read_from (declared (lines_of text)) 1 (lines_of text)))
    (short-text (length text) h.short)
    ∙ ap (λ (o : Option ℕ). unless_bad o (read_from (declared (lines_of text)) 1 (lines_of text))) h.clean
    ∙ text-lines-read (lines_of text) j h.job h.written

pub one-job : OneJobAText
one-job text j k h i =
    let same : ◌≡◌ {A = Result JobTree Refusal} (Ok j) (Ok k) = sym (text-of-job-read text j h) ∙ text-of-job-read text k i in
    cc
