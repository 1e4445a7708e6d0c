-- What a single phaser promises, in the words of those who use it.
use Rattle.std.specs.Prelude.{◌≡◌, ◌≢◌, ◌⊎◌, ◌≤◌, ◌<◌, ◌+◌, ℕ, Bool, true, false, pos, negsuc}
use Rattle.phaser_word.specs.Fields.{Fields}
use Rattle.phaser_word.specs.Phase.{next_phase_of}
use Rattle.advance_rule.specs.declared.CountPlan.{CountPlan}
use Rattle.advance_rule.specs.Plan.{count_ends}
use Rattle.flat_phaser.specs.Flat.{Flat, registered, unarrived, everyone_arrived}
use Rattle.phaser_word.specs.Phase.{shown_of}
use Rattle.flat_phaser.specs.Alike.{IsAlike}
use Rattle.phaser_one.specs.Calls.{Call, Bulk, Arrive, Leave, Await, Reply, Number, Waiting, Refused, Full, NobodyUnarrived, Negative, answer, called, after}
use Rattle.phaser_one.specs.Seen.{flat_of}

-- a call advances: everyone who was then registered has arrived, and the phase is the next one
pub record Advances (plan : CountPlan) (call : Call) (f : Flat) : Type 0 where
  pub everyone : everyone_arrived f.phase (called call f).members ≡ true
  pub next : (after plan call f).phase ≡ next_phase_of f.phase
  pub end : (after plan call f).ended ≡ count_ends plan f.phase (registered (called call f))
  pub everybody_stays : registered (after plan call f) ≡ registered (called call f)
  pub nobody_has_arrived : unarrived (after plan call f) ≡ registered (called call f)

-- a call leaves the phase
pub record Stays (plan : CountPlan) (call : Call) (f : Flat) : Type 0 where
  pub phase : (after plan call f).phase ≡ f.phase
  pub due : (after plan call f).due ≡ false

-- While a phaser hasn't ended its phase takes one step at each advance, and moves at no other time.
abbrev pub PhaseMovesByOne : Type 0
PhaseMovesByOne = (plan : CountPlan) (call : Call) (f : Flat) → f.ended ≡ false → f.due ≡ false → Advances plan call f ⊎ Stays plan call f

-- Once it has ended nothing changes it.
abbrev pub EndedStays : Type 0
EndedStays = (plan : CountPlan) (call : Call) (f : Flat) → f.ended ≡ true → f.due ≡ false → after plan call f ≡ f

-- While two or more haven't arrived, no call advances.
abbrev pub NotAllArrived : Type 0
NotAllArrived = (plan : CountPlan) (call : Call) (f : Flat) → f.due ≡ false → 2 ≤ unarrived f → Stays plan call f

-- the counts of the flat phaser that a word represents are the word's
pub record IsCounted (w : Fields) : Type 0 where
  pub parties : registered (flat_of w) ≡ w.parties
  pub absent : unarrived (flat_of w) ≡ w.unarrived
  pub alike : IsAlike (flat_of w) (flat_of w)

-- Every word with no more unarrived than parties represents a flat phaser.
abbrev pub WordsAreSeen : Type 0
WordsAreSeen = (w : Fields) → w.unarrived ≤ w.parties → IsCounted w

-- Waiting for the end of a phase is over at once for a negative number, after the end, and for another phase than the current one; else it
-- goes on.
pub record AwaitTells (f : Flat) : Type 0 where
  pub negative : (n : ℕ) → answer (Await (negsuc n)) f ≡ Number (negsuc n)
  pub ended : f.ended ≡ true → (phase : ℕ) → answer (Await (pos phase)) f ≡ Number (shown_of f.phase true)
  pub other : f.ended ≡ false → (phase : ℕ) → phase ≢ f.phase → answer (Await (pos phase)) f ≡ Number (pos f.phase)
  pub current : f.ended ≡ false → answer (Await (pos f.phase)) f ≡ Waiting

abbrev pub AwaitsAreReported : Type 0
AwaitsAreReported = (f : Flat) → AwaitTells f

-- Registering below zero is refused, also after the end, and changes nothing; no room is a refusal only before the end.
pub record BulkTells (plan : CountPlan) (f : Flat) : Type 0 where
  pub negative : (n : ℕ) → answer (Bulk (negsuc n)) f ≡ Refused Negative
  pub kept : (n : ℕ) → f.due ≡ false → after plan (Bulk (negsuc n)) f ≡ f
  pub ended : f.ended ≡ true → (count : ℕ) → answer (Bulk (pos count)) f ≡ Number (shown_of f.phase true)
  pub full : f.ended ≡ false → (count : ℕ) → 65535 < registered f + count → answer (Bulk (pos count)) f ≡ Refused Full
  pub capacity : f.ended ≡ false → (count : ℕ) → registered f + count ≤ 65535 → answer (Bulk (pos count)) f ≡ Number (pos f.phase)

abbrev pub RegistrationsAreReported : Type 0
RegistrationsAreReported = (plan : CountPlan) (f : Flat) → BulkTells plan f

-- Arriving and leaving answer the phase if somebody hasn't arrived, and are refused if nobody is left; after the end
-- they answer it.
pub record ArriveTells (call : Call) (f : Flat) : Type 0 where
  pub ended : f.ended ≡ true → answer call f ≡ Number (shown_of f.phase true)
  pub nobody : f.ended ≡ false → unarrived f ≡ 0 → answer call f ≡ Refused NobodyUnarrived
  pub somebody : f.ended ≡ false → 0 < unarrived f → answer call f ≡ Number (pos f.phase)

abbrev pub ArrivalsAreReported : Type 0
ArrivalsAreReported = (f : Flat) → ArriveTells Arrive f × ArriveTells Leave f

-- Two words that represent alike phasers are one.
abbrev pub AlikeWordsAreOne : Type 0
AlikeWordsAreOne = (u v : Fields) → u.unarrived ≤ u.parties → v.unarrived ≤ v.parties → IsAlike (flat_of u) (flat_of v) → u ≡ v

-- whether a call arrives or leaves
abbrev pub is_arrival : Call → Bool
is_arrival Arrive = true
is_arrival Leave = true
is_arrival _ = false

-- Only arrivals and departures ask the plan: any other call leaves the same by each.
abbrev pub OnlyArrivalsAskThePlan : Type 0
OnlyArrivalsAskThePlan =
    (p q : CountPlan) (call : Call) (f : Flat) → f.due ≡ false → is_arrival call ≡ false → after p call f ≡ after q call f

-- whether a reply is a phase
abbrev pub is_number : Reply → Bool
is_number (Number phase) = true
is_number Waiting = false
is_number (Refused fault) = false

-- A call that is refused or has to wait leaves the phaser as it is.
abbrev pub RefusalsLeaveAll : Type 0
RefusalsLeaveAll = (plan : CountPlan) (call : Call) (f : Flat) → f.due ≡ false → is_number (answer call f) ≡ false → after plan call f ≡ f
