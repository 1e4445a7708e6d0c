-- What a call on the number of a single phaser leaves and gives, as numbers (Java SE 21, `Phaser`; the numbers of the
-- statuses are own).
use Rattle.std.specs.Prelude.{◌≡◌, ◌≢◌, ◌↔◌, ℕ, ℤ, pos, negsuc, Some, nat_lt, if◌then◌else◌}
use Rattle.phaser_word.specs.Fields.{Fields}
use Rattle.advance_rule.specs.declared.CountPlan.{CountPlan}
use Rattle.flat_phaser.specs.Alike.{IsAlike}
use Rattle.phaser_one.specs.declared.call.Call.{Call}
use Rattle.phaser_one.specs.declared.call.Reply.{Reply}
use Rattle.phaser_one.specs.declared.call.Reply.TheVariants.{Number, Waiting, Refused}
use Rattle.phaser_one.specs.declared.call.OneFault.TheVariants.{TooMany, Full, NobodyUnarrived, Negative}
use Rattle.phaser_one.specs.Calls.{opened}
use Rattle.phaser_one.specs.Seen.{Follows, flat_of}
use Rattle.bsp_phaser.specs.Numbers.{IsWordOf, IsNoWord}

-- the status of a reply; 1 is the status of none
abbrev pub status_of : Reply → ℤ
status_of (Number phase) = pos 0
status_of Waiting = pos 2
status_of (Refused TooMany) = pos 3
status_of (Refused Full) = pos 4
status_of (Refused NobodyUnarrived) = pos 5
status_of (Refused Negative) = pos 6

-- the numbers of the statuses, written down
pub record StatusesAreNumbered : Type 0 where
  pub done : (phase : ℤ) → status_of (Number phase) ≡ pos 0
  pub waiting : status_of Waiting ≡ pos 2
  pub too_many : status_of (Refused TooMany) ≡ pos 3
  pub full : status_of (Refused Full) ≡ pos 4
  pub nobody_unarrived : status_of (Refused NobodyUnarrived) ≡ pos 5
  pub negative : status_of (Refused Negative) ≡ pos 6

-- the phase of a reply, as it is shown, and 0 if it has none
abbrev pub answer_of : Reply → ℤ
answer_of (Number phase) = phase
answer_of Waiting = pos 0
answer_of (Refused fault) = pos 0

-- the plan of a phaser that ends with fewer parties than the least, and at the end of a phase; a number above 2147483647 is no phase's, and
-- so names none
abbrev pub plan_of : ℕ → ℕ → CountPlan
plan_of least at = record { least = least; at = Some at }

-- the next number packs a state that follows from the old one by the call, and status and answer are those of its reply
pub record Stepped (plan : CountPlan) (call : Call) (old : Fields) (next : ℕ) (status answer : ℤ) : Type 0 where
  pub new : Fields
  pub reply : Reply
  pub packs : IsWordOf new next
  pub follows : Follows plan call old new reply
  pub reported : status ≡ status_of reply
  pub shown : answer ≡ answer_of reply

-- A call on a number is the call on the phaser that has this word. Status 1 means exactly that no phaser has it. If a
-- call isn't done, the number stays as it was, and the answer is 0.
pub record IsStep (plan : CountPlan) (call : Call) (number next : ℕ) (status answer : ℤ) : Type 0 where
  pub done : (w : Fields) → IsWordOf w number → Stepped plan call w next status answer
  pub none : (status ≡ pos 1) ↔ IsNoWord number
  pub kept : status ≢ pos 0 → (next ≡ number) × (answer ≡ pos 0)

-- the status of a new phaser: 1 above the last phase, else 3 below 0 parties and above 65535
abbrev pub status_of_count : ℤ → ℤ
status_of_count (negsuc n) = pos 3
status_of_count (pos parties) = if nat_lt 65535 parties then pos 3 else pos 0

abbrev pub status_of_new : ℤ → ℕ → ℤ
status_of_new parties phase = if nat_lt 2147483647 phase then pos 1 else status_of_count parties

-- the number of a new phaser with this many parties in this phase; none of them has arrived
pub record IsNew (parties : ℤ) (phase number : ℕ) : Type 0 where
  pub new : Fields
  pub packs : IsWordOf new number
  pub count : pos new.parties ≡ parties
  pub opened : IsAlike (opened new.parties phase) (flat_of new)
