-- What the program did, by its status.
use Rattle.std.specs.Prelude.{◌≡◌, ◌≤◌, ◌<◌, ◌⊎◌, ℕ, List, Option, IfSome, Err}
use Rattle.std.specs.Io.KnownBytes.{Appends, Keeps}
use Rattle.text_lines.specs.declared.refusal.Refusal.{Refusal}
use Rattle.phase_records.specs.ReportText.{report_text}
use Rattle.job_view.specs.Look.{LookValue}
use Rattle.job_view.specs.ReportJson.{json_text}
use Rattle.trace_text.specs.Trace.{asked_of}
use Rattle.trace_text.specs.Outcome.{WritesAnswers, WritesBeginning}
use Rattle.job_reader.specs.Reading.{job_in}
use Rattle.refusal_reasons.specs.Listing.{listing}
use Rattle.bsp_cli.specs.Drawn.{drawn_in}
use Rattle.bsp_cli.specs.Jobs.{WritesCanonical, BeginsCanonical, BeginsListing, WritesUpgraded, BeginsUpgraded, WritesReport, BeginsReport, WritesSteps}
use Rattle.bsp_cli.specs.Texts.{refusal_line, worker_line}
use Rattle.bsp_cli.specs.Explained.{WritesTopic, BeginsTopic}
use Rattle.bsp_words.specs.declared.asked.Asked.{Asked}
use Rattle.bsp_words.specs.declared.asked.Asked.TheVariants.{Trace, Check, CheckAll, Upgrade, Run, RunJson, RunStream, Draw, Explain}

-- the input was read, and all that is asked for was written
abbrev pub Finishes : Asked → LookValue → List ℕ → Option (List ℕ) → Option (List ℕ) → ℕ → Type 0
Finishes Trace look input old new status = (status ≡ 0) × WritesAnswers input old new
Finishes Check look input old new status = (status ≡ 0) × WritesCanonical input old new
Finishes CheckAll look input old new status = (status ≡ 0) × WritesCanonical input old new
Finishes Upgrade look input old new status = (status ≡ 0) × WritesUpgraded input old new
Finishes (Run workers limit) look input old new status = WritesReport report_text limit input old new status
Finishes (RunJson workers limit) look input old new status = WritesReport json_text limit input old new status
Finishes (RunStream workers limit) look input old new status = WritesReport report_text limit input old new status
Finishes (Explain topic) look input old new status = (status ≡ 0) × WritesTopic topic old new
Finishes (Draw workers limit) look input old new status = WritesReport (drawn_in look limit input) limit input old new status

-- the input was read, and a beginning of what is asked for was written
abbrev pub Begins : Asked → LookValue → List ℕ → Option (List ℕ) → Option (List ℕ) → Type 0
Begins Trace look input old new = WritesBeginning input old new
Begins Check look input old new = BeginsCanonical input old new
Begins CheckAll look input old new = BeginsCanonical input old new ⊎ BeginsListing input old new
Begins Upgrade look input old new = BeginsUpgraded input old new
Begins (Run workers limit) look input old new = BeginsReport report_text limit input old new
Begins (RunJson workers limit) look input old new = BeginsReport json_text limit input old new
Begins (RunStream workers limit) look input old new = BeginsReport report_text limit input old new
Begins (Explain topic) look input old new = BeginsTopic topic old new
Begins (Draw workers limit) look input old new = BeginsReport (drawn_in look limit input) limit input old new

-- the input is refused, first here
abbrev pub Refuses : Asked → List ℕ → Refusal → Type 0
Refuses Trace input r = asked_of input ≡ Err r
Refuses (Explain topic) input r = ⊥
Refuses _ input r = job_in input ≡ Err r

-- what is written if the input is refused: the list of its faulty lines, if that is asked for, and else nothing
abbrev pub Lists : Asked → Option (List ℕ) → Option (List ℕ) → Option (List ℕ) → Type 0
Lists CheckAll input old new = IfSome input (λ bytes. Appends old new (listing bytes))
Lists _ input old new = Keeps old new

-- if a job stops short, only one that is written superstep by superstep may have written the lines of some supersteps
abbrev pub StopsShort : Asked → Option (List ℕ) → Option (List ℕ) → Option (List ℕ) → Type 0
StopsShort (RunStream workers limit) input old new = Keeps old new ⊎ IfSome input (λ bytes. WritesSteps limit bytes old new)
StopsShort _ input old new = Keeps old new

-- if memory ran out, also a trace may have written some of its answers
abbrev pub RunsOut : Asked → Option (List ℕ) → Option (List ℕ) → Option (List ℕ) → Type 0
RunsOut Trace input old new = Keeps old new ⊎ IfSome input (λ bytes. WritesBeginning bytes old new)
RunsOut a input old new = StopsShort a input old new

-- what reads no input
abbrev pub ReadsNothing : Asked → Type 0
ReadsNothing (Explain topic) = Unit {0}
ReadsNothing _ = ⊥

-- a worker of those that are asked for, numbered from 0
abbrev pub IsWorkerOf : Asked → ℕ → Type 0
IsWorkerOf (Run workers limit) k = k < workers
IsWorkerOf (RunJson workers limit) k = k < workers
IsWorkerOf (RunStream workers limit) k = k < workers
IsWorkerOf (Draw workers limit) k = k < workers
IsWorkerOf _ k = ⊥

-- what is asked for is done if the status is 0, 2 or 3; else the output and the line on standard error say what went wrong
pub record Did (a : Asked) (look : LookValue) (input old new : Option (List ℕ)) (says : List ℕ → Type 0) (status : ℕ) : Type 0 where
  pub finished : status ≤ 3 → IfSome input (λ bytes. Finishes a look bytes old new status)
  pub refused : status ≡ 4 → Lists a input old new × (r : Refusal) × says (refusal_line r) × IfSome input (λ bytes. Refuses a bytes r)
  pub memory : status ≡ 6 → RunsOut a input old new
  pub not_started : status ≡ 7 → Keeps old new × (k : ℕ) × IsWorkerOf a k × says (worker_line k)
  pub failed : status ≡ 8 → Keeps old new ⊎ IfSome input (λ bytes. Begins a look bytes old new)
  pub internal : status ≡ 9 → StopsShort a input old new
