-- The flat phaser that a word represents.
use Rattle.std.specs.Prelude.{◌≡◌, ℕ, ◌-◌, ◌==◌, if◌then◌else◌, false, None, Some, List, ◌++◌, replicate, ℤ, Result, Ok, Err}
use Rattle.phaser_word.specs.Fields.{Fields}
use Rattle.phaser_word.specs.Phase.{next_phase_of}
use Rattle.advance_rule.specs.declared.CountPlan.{CountPlan}
use Rattle.advance_rule.specs.Plan.{count_ends}
use Rattle.advance_rule.specs.Stored.{Stored}
use Rattle.flat_phaser.specs.declared.Member.{Member}
use Rattle.flat_phaser.specs.Flat.{Flat}
use Rattle.flat_phaser.specs.Alike.{IsAlike}
use Rattle.phaser_one.specs.Calls.{Call, Reply, Number, Refused, OneFault, answer, after}
use Rattle.phaser_one.specs.Calls as calls
use Rattle.phaser_one.specs.declared.call.Awaited.{Awaited}
use Rattle.phaser_one.specs.declared.call.Awaited.TheVariants.{Now, Waiting}

-- what contracts see of a single phaser: its word and its rule
pub record Single (F : Type 0) : Type 0 where
  pub word : Fields
  pub rule : Stored F CountPlan

-- members of one owner: those that have arrived in the phase, and those that haven't
abbrev pub members_in : ℕ → ℕ → ℕ → List Member
members_in phase arrived unarrived =
    replicate arrived (record { owner = 0; mark = Some phase }) ++ replicate unarrived (record { owner = 0; mark = None })

-- the flat phaser of a word, in which no advance is due
abbrev pub flat_of : Fields → Flat
flat_of w = record { phase = w.phase; ended = w.ended; due = false; members = members_in w.phase (w.parties - w.unarrived) w.unarrived }

-- A call does to every flat phaser that is alike to the old word's what leaves one that is alike to the new word's, and answers what the
-- call answers there.
abbrev pub Follows : CountPlan → Call → Fields → Fields → Reply → Type 0
Follows plan call old new reply = (f : Flat) → IsAlike f (flat_of old) → IsAlike (after plan call f) (flat_of new) × (reply ≡ answer call f)

-- the replies of the calls that may be refused, and of those that may wait
abbrev pub reply_of : Result ℤ OneFault → Reply
reply_of (Ok phase) = Number phase
reply_of (Err fault) = Refused fault

abbrev pub reply_of_awaited : Awaited → Reply
reply_of_awaited (Now phase) = Number phase
reply_of_awaited Waiting = calls.Waiting

-- a word with these numbers, or the next phase of it if nobody is unarrived
pub record IsSettled (plan : CountPlan) (before members left : ℕ) (w : Fields) : Type 0 where
  pub parties : w.parties ≡ members
  pub phase : w.phase ≡ (if left == 0 then next_phase_of before else before)
  pub unarrived : w.unarrived ≡ (if left == 0 then members else left)
  pub ended : w.ended ≡ (if left == 0 then count_ends plan before members else false)
