-- What the calls give (own). A status is 0 where the call was done.
use Rattle.std.specs.Prelude.{
  ◌≡◌,
  ◌≤◌,
  ◌<◌,
  ◌⊎◌,
  ℕ,
  ℤ,
  pos,
  Bool,
  true,
  false,
  List,
  [],
  length,
  take,
  Option,
  Some,
  None,
  MatchOption,
  slice_get,
}
use Rattle.std.specs.Option.{option_map}
use Rattle.std.specs.List.{list_all}
use Rattle.phase_records.specs.PrintValue.{PrintValue}
use Rattle.phase_records.specs.declared.record.PhaseRecord.{PhaseRecord}
use Rattle.programs.specs.Steps.{ended}
use Rattle.bsp_steps.specs.declared.given.ArrayGiven.{ArrayGiven}
use Rattle.bsp_steps.specs.declared.given.Deed.{Deed}
use Rattle.bsp_steps.specs.declared.given.Look.{Look}
use Rattle.bsp_steps.specs.declared.given.Origin.{Origin}
use Rattle.bsp_steps.specs.declared.given.PrintReport.{PrintReport}
use Rattle.bsp_steps.specs.declared.given.RecordReport.{RecordReport}
use Rattle.bsp_steps.specs.declared.packed.Block.{Block}
use Rattle.bsp_steps.specs.declared.packed.Unread.{Unread}
use Rattle.bsp_steps.specs.declared.state.State.{State}
use Rattle.bsp_steps.specs.Given.{MayFollow, is_named}
use Rattle.bsp_steps.specs.Runs.{RunValue, IsClosed, closing, fresh, refused_starts, text_by}
use Rattle.bsp_steps.specs.DeedReads.{IsClosedPacked}

-- begun (0), an array is refused (4), or memory ran out (6), which no array had that is refused
abbrev pub Begins : Option State → List ArrayGiven → ℕ → ℕ → ℕ → ℤ → Type 0
Begins after arrays starts most limit status =
    ((status ≡ pos 0) × MayFollow [] arrays × MatchOption after ⊥ (λ s. s.run ≡ fresh arrays starts most limit))
    ⊎ ((after ≡ None) × (((status ≡ pos 4) × (MayFollow [] arrays → ⊥)) ⊎ ((status ≡ pos 6) × MayFollow [] arrays)))

abbrev pub BeginsNamed : Bool → Option State → List ArrayGiven → ℕ → ℕ → ℕ → ℤ → Type 0
BeginsNamed false after arrays starts most limit status = (status ≡ pos 14) × (after ≡ None)
BeginsNamed true after arrays starts most limit status = Begins after arrays starts most limit status

abbrev pub OpensFresh : Bool → Option State → List ArrayGiven → ℕ → ℕ → ℕ → ℤ → Type 0
OpensFresh true after arrays starts most limit status = (status ≡ pos 5) × (after ≡ None)
OpensFresh false after arrays starts most limit status = BeginsNamed (list_all is_named arrays) after arrays starts most limit status

-- the slot is open already (8), the start tasks are refused (5), an array has no name of a job (14), or a run begins
abbrev pub Opens : Option State → Option State → List ArrayGiven → ℕ → ℕ → ℕ → ℤ → Type 0
Opens (Some s) after arrays starts most limit status = (status ≡ pos 8) × (after ≡ Some s)
Opens None after arrays starts most limit status = OpensFresh (refused_starts starts most) after arrays starts most limit status

-- nothing is open (7), or the run is closed so
abbrev pub Closes : Option State → Option State → List Deed → ℤ → Type 0
Closes None after deeds status = (status ≡ pos 7) × (after ≡ None)
Closes (Some s) after deeds status = MatchOption after ⊥ (λ t. IsClosed s.run t.run deeds status)

-- nothing is open (7), or the run is closed by what the blocks say
abbrev pub ClosesPacked : Option State → Option State → Unread → Unread → List Block → ℤ → Type 0
ClosesPacked None after unread place blocks status = (status ≡ pos 7) × (after ≡ None) × (place ≡ unread)
ClosesPacked (Some s) after unread place blocks status = MatchOption after ⊥ (λ t. IsClosedPacked s.run t.run unread place blocks status)

-- nothing was open (7), or it is no longer
abbrev pub Frees : Option State → Option State → ℤ → Type 0
Frees None after status = (status ≡ pos 7) × (after ≡ None)
Frees (Some s) after status = (status ≡ pos 0) × (after ≡ None)

abbrev pub look_at : RunValue → Look
look_at v = record {
  step = v.step;
  status = closing (ended v);
  live = length v.tasks;
  arrays = length v.arrays;
  prints = length v.prints;
  records = length v.records;
}

-- what is to be seen of a run, also whether and how it has ended; looking changes nothing
abbrev pub Looks : Option State → Option State → Look → Look → ℤ → Type 0
Looks None after before look status = (status ≡ pos 7) × (after ≡ None) × (look ≡ before)
Looks (Some s) after before look status = (status ≡ pos 0) × (after ≡ Some s) × (look ≡ look_at s.run)

module _ {A : Type 0} where
  -- reported (0), or there is none (9), and what was there stays
  abbrev pub Tells : Option A → A → A → ℤ → Type 0
  Tells None before after status = (status ≡ pos 9) × (after ≡ before)
  Tells (Some x) before after status = (status ≡ pos 0) × (after ≡ x)

  -- nothing is open (7), or what is said of the run
  abbrev pub TellsOf : (RunValue → Option A) → Option State → A → A → ℤ → Type 0
  TellsOf of None before after status = (status ≡ pos 7) × (after ≡ before)
  TellsOf of (Some s) before after status = Tells (of s.run) before after status

-- the cells of an array
abbrev pub ReadsCells : Option State → ℕ → List ℤ → List ℤ → ℤ → Type 0
ReadsCells state array before cells status = TellsOf (λ v. option_map (λ a. a.1) (slice_get v.arrays array)) state before cells status

-- the path of a live task
abbrev pub ReadsPath : Option State → ℕ → List ℕ → List ℕ → ℤ → Type 0
ReadsPath state task before path status = TellsOf (λ v. option_map (λ t. t.path) (slice_get v.tasks task)) state before path status

-- where a live task comes from; the run stays
abbrev pub ReadsOrigin : Option State → Option State → ℕ → Origin → Origin → ℤ → Type 0
ReadsOrigin state after task before origin status =
    (after ≡ state) × TellsOf (λ v. option_map (λ t. t.kept) (slice_get v.tasks task)) state before origin status

-- the number of the fault, and the path of its task
abbrev pub ReadsFault : Option State → ℕ → ℕ → List ℕ → List ℕ → ℤ → Type 0
ReadsFault state before code path_before path status = TellsOf (λ v. v.fault) state (before, path_before) (code, path) status

abbrev pub print_report : PrintValue → PrintReport × List ℕ
print_report p = (record { step = p.step; value = p.value }, p.path)

-- a print, and the path of its task
abbrev pub ReadsPrint : Option State → ℕ → PrintReport → PrintReport → List ℕ → List ℕ → ℤ → Type 0
ReadsPrint state print before reported path_before path status =
    TellsOf (λ v. option_map print_report (slice_get v.prints print)) state (before, path_before) (reported, path) status

abbrev pub record_report : PhaseRecord → RecordReport
record_report r = record { phase = r.phase; parties = r.parties; left = r.left; spawned = r.spawned }

-- a record; the run stays
abbrev pub ReadsRecord : Option State → Option State → ℕ → RecordReport → RecordReport → ℤ → Type 0
ReadsRecord state after place before reported status =
    (after ≡ state) × TellsOf (λ v. option_map record_report (slice_get v.records place)) state before reported status

-- The length of the text was given. If there is room for the text, it is at the front (0), else the status is 10.
pub record IsGiven (text out : List ℕ) (bytes : ℕ) (status : ℤ) : Type 0 where
  pub reported : bytes ≡ length text
  pub fits : length text ≤ length out → (status ≡ pos 0) × (take (length text) out ≡ text)
  pub short : length out < length text → status ≡ pos 10

abbrev pub GivesText : Option (List ℕ) → List ℕ → ℕ → ℤ → Type 0
GivesText None out bytes status = (bytes ≡ 0) × (status ≡ pos 13)
GivesText (Some text) out bytes status = IsGiven text out bytes status

-- nothing is open (7), the run isn't over (13), memory ran out (6), or the text of its report was given; the run stays
abbrev pub Reports : Option State → Option State → List ℕ → ℕ → ℤ → Type 0
Reports None after out bytes status = (after ≡ None) × (bytes ≡ 0) × (status ≡ pos 7)
Reports (Some s) after out bytes status =
    (after ≡ Some s)
    × (((status ≡ pos 6) × (bytes ≡ 0)) ⊎ GivesText (text_by s.run (ended s.run)) out bytes status)
