-- What a text is read as is a job.
use Rattle.std.proofs.Common.{◌≡◌, ℕ, ◌≤◌, true, List, [], ◌∷◌, length, map, Ok, refl, sym, ap, subst, ◌∙◌, arith, Bool, false, Option, None, Result, ℤ}
use Rattle.std.specs.Prelude.{nat_lt, if◌then◌else◌}
use Rattle.std.specs.List.{list_all, AllByRecursion}
use Rattle.std.proofs.lemmas.List.{length-map}
use Rattle.std.proofs.lemmas.Grind.{common_steps}
use Rattle.std.proofs.lemmas.Simd.{map-map}
use Rattle.task_code.specs.Names.{are_names}
use Rattle.task_code.specs.Limits.{is_line}
use Rattle.task_code.specs.Rules.{IsBody, IsOfFirst}
use Rattle.task_code.proofs.Reading.{tree-flat}
use Rattle.task_code.specs.Tree.{Block}
use Rattle.job_reader.specs.Words.{Word}
use Rattle.job_reader.proofs.SaidLemmas.{and-true}
use Rattle.job_reader.specs.Trees.{BodyTree, JobTree, body_tree, job_tree, array_names, body_names}
use Rattle.job_reader.specs.Legal.{flat_body, flat_job, IsJobTree}
use Rattle.job_reader.specs.Grammar.{job_of}
use Rattle.job_reader.proofs.SpelledWhole.{text-spelled-out}
use Rattle.job_reader.specs.Kept.{AreKept, KeptJob, SaysJobs}
use Rattle.job_reader.specs.Reading.{refused, unless_bad, declared, read_lines, read_from, job_in}
use Rattle.job_reader.specs.Above.{nothing}
use Rattle.job_reader.specs.Relates.{IsSoFar}
use Rattle.job_reader.specs.declared.so_far.SoFar.{SoFar}
use Rattle.text_lines.specs.Text.{lines_of, bad_byte_line}
use Rattle.text_lines.specs.declared.refusal.Code.TheVariants.{TooLong}
use Rattle.text_lines.specs.declared.refusal.Refusal.{Refusal}
use Rattle.task_code.specs.BodyValue.{BodyValue}
use Rattle.task_code.specs.JobValue.{JobValue, job_value}
use Rattle.task_code.specs.declared.job.Start.{Start}
use Rattle.job_reader.proofs.KeptLines.{text-kept}
use Rattle.job_reader.proofs.LegalBodies.{AreWhole, items-whole, starts-there}

bodies-lines : (n m : ℕ) (bs : List BodyTree) → AreWhole n m bs → list_all (λ b. list_all (is_line n m) b.code) (map flat_body bs) ≡ true
bodies-lines n m [] h = refl
bodies-lines n m (b ∷ bs) h = and-true _ _ h.0 (bodies-lines n m bs h.1)

bodies-are : (format : ℕ) (bs : List BodyTree) → AreKept format bs → AllByRecursion IsBody (map flat_body bs)
bodies-are format [] k = tt
bodies-are format (b ∷ bs) k = (k.0.0, bodies-are format bs k.1)

bodies-first : (format : ℕ) (bs : List BodyTree) → AreKept format bs → format ≡ 1 → AllByRecursion IsOfFirst (map flat_body bs)
bodies-first format [] k e = tt
bodies-first format (b ∷ bs) k e = (k.0.1 e, bodies-first format bs k.1 e)

-- a job's bodies and start lines among its arrays and bodies
record Whole (bodies : List Word) (j : JobTree) : Type 0 where
  bodies_whole : AreWhole (length (array_names j)) (length bodies) j.bodies
  starts_whole : list_all (λ s. nat_lt s.body (length bodies)) j.starts ≡ true

pub read-jobs : (text : List ℕ) (j : JobTree) → job_in text ≡ Ok j → IsJobTree j
read-jobs text j e =
    let t = text-spelled-out text j e in
    let k : KeptJob j = text-kept text j e in
    let w : Whole (body_names j) j =
    subst (Whole (body_names j)) t.said
    (record {
      bodies_whole = items-whole j.format [] (body_names j) (length (array_names (job_of j.format t.items))) t.items (omega arith) t.sound;
      starts_whole = starts-there j.format [] (body_names j) t.items t.sound;
    }) in
    let flats : map (λ b. b.name) (map flat_body j.bodies) ≡ body_names j = map-map (λ b. b.name) flat_body j.bodies in
    let arrays : length (array_names j) ≡ length j.arrays = length-map j.arrays (λ a. a.0) in
    let bodies : length (body_names j) ≡ length (map flat_body j.bodies) =
    ap (λ (x : List Word). length x) (sym flats) ∙ length-map (map flat_body j.bodies) (λ b. b.name) in
    let whole : AreWhole (length j.arrays) (length (map flat_body j.bodies)) j.bodies =
    subst (λ (n : ℕ). AreWhole n (length (map flat_body j.bodies)) j.bodies) arrays
    (subst (λ (m : ℕ). AreWhole (length (array_names j)) m j.bodies) bodies w.bodies_whole) in
    record {
      format = k.format;
      first = bodies-first j.format j.bodies k.bodies;
      few_arrays = k.few_arrays;
      few_bodies = omega (arith, bodies, k.few_bodies);
      few_starts = k.few_starts;
      arrays = k.arrays;
      named = k.arrays_named;
      bodies = ap are_names flats ∙ k.bodies_named;
      each = bodies-are j.format j.bodies k.bodies;
      lines = bodies-lines (length j.arrays) (length (map flat_body j.bodies)) j.bodies whole;
      starts = ap (λ (n : ℕ). list_all (λ s. nat_lt s.body n) j.starts) (sym bodies) ∙ w.starts_whole;
      cells = k.cells;
      args = k.args;
    }

value-parts : (n m : ℕ) (a b : List (Word × List ℤ)) (k l : List BodyValue) (s t : List Start) → n ≡ m → a ≡ b → k ≡ l → s ≡ t
    → ◌≡◌ {A = JobValue} (record { format = n; arrays = a; bodies = k; starts = s })
    (record { format = m; arrays = b; bodies = l; starts = t })
value-parts n m a b k l s t h e f g =
    ap (λ (x : ℕ). record { format = x; arrays = a; bodies = k; starts = s }) h
    ∙ ap (λ (x : List (Word × List ℤ)). record { format = m; arrays = x; bodies = k; starts = s }) e
    ∙ ap (λ (x : List BodyValue). record { format = m; arrays = b; bodies = x; starts = s }) f
    ∙ ap (λ (x : List Start). record { format = m; arrays = b; bodies = l; starts = x }) g

same-job : (j : JobTree) (r : SoFar) → IsSoFar j r → job_value r.format r.arrays r.bodies r.starts ≡ flat_job j
same-job j r s =
    value-parts r.format j.format r.arrays j.arrays r.bodies.items (map flat_body j.bodies) r.starts.items j.starts s.format s.arrays
    s.bodies s.starts

trees-back : (bs : List BodyTree) → map body_tree (map flat_body bs) ≡ bs
trees-back [] = refl
trees-back (b ∷ bs) =
    ap (λ (x : Block). record b { block = x } ∷ map body_tree (map flat_body bs)) (tree-flat b.block)
    ∙ ap (λ (xs : List BodyTree). b ∷ xs) (trees-back bs)

-- what the type of a job takes is the job that the reader has
pub job-back : (j : JobTree) (r : SoFar) (v : JobValue) → IsSoFar j r → v ≡ job_value r.format r.arrays r.bodies r.starts → job_tree v ≡ j
job-back j r v s e =
    ap job_tree (e ∙ same-job j r s) ∙ ap (λ (bs : List BodyTree). record j { bodies = bs }) (trees-back j.bodies)

pub short-enough : (n : ℕ) → n ≤ 1048576 → nat_lt 1048576 n ≡ false
short-enough n h = grind (arith, common_steps)

-- a text's lines after the header say a job, if anything
pub text-says : (text : List ℕ) (format n : ℕ) (rest : List (List ℕ)) (bodies : List Word) → length text ≤ 1048576
    → bad_byte_line 1 text ≡ None
    → ((bodies : List Word) → read_from bodies 1 (lines_of text) ≡ read_lines bodies n (nothing format) rest)
    → bodies ≡ declared (lines_of text)
    → SaysJobs (read_lines bodies n (nothing format) rest)
unfolding job_in
text-says text format n rest bodies short clean header same =
    λ j e.
    let all : List Word = declared (lines_of text) in
    let read : Result JobTree Refusal = read_from all 1 (lines_of text) in
    read-jobs text j
    (ap (λ (b : Bool). if b then refused 1 TooLong else unless_bad (bad_byte_line 1 text) read) (short-enough (length text) short)
    ∙ ap (λ (o : Option ℕ). unless_bad o read) clean ∙ header all
    ∙ ap (λ (x : List Word). read_lines x n (nothing format) rest) (sym same) ∙ e)
