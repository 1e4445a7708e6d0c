-- What `check --all` writes.
use Rattle.std.proofs.Common.{◌≡◌, ℕ, ◌<◌, List, [], ◌∷◌, Option, Some, None, Result, Ok, Err, length, inl, inr, refl, sym, ap, ◌∙◌, subst, codes, arith}
use Rattle.std.specs.Prelude.{IfSome}
use Rattle.std.specs.List.{flat_map}
use Rattle.std.specs.Io.KnownBytes.{Appends}
use Rattle.phase_records.specs.Device.{AppendsBeginning}
use Rattle.text_lines.specs.declared.refusal.Code.TheVariants.{TooLong}
use Rattle.text_lines.specs.declared.refusal.Refusal.{Refusal}
use Rattle.std.specs.Fmt as fmt
use Rattle.job_reader.specs.Trees.{JobTree}
use Rattle.job_reader.specs.Reading.{job_in}
use Rattle.job_reader.specs.Grammar.{canonical_text}
use Rattle.refusal_reasons.specs.Faults.{faults_in}
use Rattle.refusal_reasons.specs.Listing.{fault_line, listing}
use Rattle.refusal_reasons.proofs.Listed.{last_fault}
use Rattle.bsp_cli.specs.Ends.{ChecksAll, ChecksText, ListsFaults, ReadCause, Writes}
use Rattle.bsp_cli.specs.declared.fault.RunFault.{RunFault}
use Rattle.bsp_cli.specs.declared.fault.RunFault.TheVariants.{Text, Read, Write, Memory, NotStarted, Internal}
use Rattle.bsp_cli.proofs.TooLong.{long-refused}

-- a text that is a job
pub checks_job : (text : List ℕ) (old new : Option (List ℕ)) (job : JobTree) (r : Result (Unit {0}) RunFault) → job_in text ≡ Ok job
    → Writes (canonical_text job) old new r → ChecksText text old new r
checks_job text old new job (Ok x) e w = (job, e, w)
checks_job text old new job (Err (Text q)) e w = absurd w
checks_job text old new job (Err Read) e w = absurd w
checks_job text old new job (Err Write) e w = inl (job, e, w)
checks_job text old new job (Err Memory) e w = w
checks_job text old new job (Err (NotStarted k)) e w = absurd w
checks_job text old new job (Err Internal) e w = absurd w

-- a text that is refused
pub checks_refused : (text lines : List ℕ) (old new : Option (List ℕ)) (first : Refusal) (r : Result (Unit {0}) RunFault)
    → job_in text ≡ Err first
    → listing text ≡ lines → ListsFaults lines first old new r → ChecksText text old new r
checks_refused text lines old new first (Ok x) e s w = absurd w
checks_refused text lines old new first (Err (Text q)) e s w =
    (e ∙ ap (λ (x : Refusal). Err x) (sym w.0), subst (λ (x : List ℕ). Appends old new x) (sym s) w.1)
checks_refused text lines old new first (Err Read) e s w = absurd w
checks_refused text lines old new first (Err Write) e s w = inr (first, e, subst (λ (x : List ℕ). AppendsBeginning old new x) (sym s) w)
checks_refused text lines old new first (Err Memory) e s w = w
checks_refused text lines old new first (Err (NotStarted k)) e s w = absurd w
checks_refused text lines old new first (Err Internal) e s w = absurd w

abbrev long_line : Refusal
long_line = record { line = 1; code = TooLong }

-- a text that is too long
long_faults : (text : List ℕ) → 1048576 < length text → faults_in text ≡ long_line ∷ []
long_faults text h =
    sym (last_fault [] (faults_in text) (long_line ∷ []) 20 text long_line (omega arith) (long-refused text h) refl refl refl)

long_listing : (text : List ℕ) → 1048576 < length text → listing text ≡ codes "line 1 code 1 TooLong\n"
unfolding fmt.digits
long_listing text h = ap (flat_map fault_line) (long_faults text h)

-- what is known of the input is the text
pub checks_known : (input old new : Option (List ℕ)) (text : List ℕ) (r : Result (Unit {0}) RunFault) → IfSome input (λ bytes. text ≡ bytes)
    → ChecksText text old new r → ChecksAll input old new r
checks_known None old new text (Ok x) e w = tt
checks_known None old new text (Err (Text q)) e w = (tt, tt)
checks_known None old new text (Err Read) e w = absurd w
checks_known None old new text (Err Write) e w = tt
checks_known None old new text (Err Memory) e w = w
checks_known None old new text (Err (NotStarted k)) e w = absurd w
checks_known None old new text (Err Internal) e w = absurd w
checks_known (Some bytes) old new text (Ok x) e w = subst (λ (t : List ℕ). ChecksText t old new (Ok x)) e w
checks_known (Some bytes) old new text (Err (Text q)) e w = subst (λ (t : List ℕ). ChecksText t old new (Err (Text q))) e w
checks_known (Some bytes) old new text (Err Read) e w = absurd w
checks_known (Some bytes) old new text (Err Write) e w = subst (λ (t : List ℕ). ChecksText t old new (Err Write)) e w
checks_known (Some bytes) old new text (Err Memory) e w = w
checks_known (Some bytes) old new text (Err (NotStarted k)) e w = absurd w
checks_known (Some bytes) old new text (Err Internal) e w = absurd w

-- and the reader isn't asked again
pub checks_unread : (text : List ℕ) (old new : Option (List ℕ)) (before after : ℕ) (r : Result (Unit {0}) RunFault)
    → ChecksText text old new r
    → after ≡ before → ReadCause before after r
checks_unread text old new before after (Ok x) w e = e
checks_unread text old new before after (Err (Text q)) w e = e
checks_unread text old new before after (Err Read) w e = absurd w
checks_unread text old new before after (Err Write) w e = e
checks_unread text old new before after (Err Memory) w e = e
checks_unread text old new before after (Err (NotStarted k)) w e = absurd w
checks_unread text old new before after (Err Internal) w e = absurd w

-- a text that is too long
pub checks_long : (input old new : Option (List ℕ)) (r : Result (Unit {0}) RunFault) → IfSome input (λ bytes. 1048576 < length bytes)
    → ListsFaults (codes "line 1 code 1 TooLong\n") (record { line = 1; code = TooLong }) old new r → ChecksAll input old new r
checks_long None old new (Ok x) h w = absurd w
checks_long None old new (Err (Text q)) h w = (tt, tt)
checks_long None old new (Err Read) h w = absurd w
checks_long None old new (Err Write) h w = tt
checks_long None old new (Err Memory) h w = w
checks_long None old new (Err (NotStarted k)) h w = absurd w
checks_long None old new (Err Internal) h w = absurd w
checks_long (Some bytes) old new r h w =
    checks_known (Some bytes) old new bytes r refl
    (checks_refused bytes (codes "line 1 code 1 TooLong\n") old new long_line r (long-refused bytes h) (long_listing bytes h) w)
