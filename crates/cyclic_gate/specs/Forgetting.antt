-- The ledger beside the whole history of its calls, which nothing keeps (own).
use Rattle.std.specs.Prelude.{◌≡◌, ℕ, ◌+◌, ◌≤◌, Bool, true, false, zero, suc, if◌then◌else◌, List, [], ◌∷◌, ◌++◌, length, drop, Option, None, Some}
use Rattle.cyclic_gate.specs.Machine.{Machine, machine, fresh}
use Rattle.cyclic_gate.specs.Steps.{Answer, Waiting, answer, is_change}
use Rattle.cyclic_gate.specs.Runs.{after_all}
use Rattle.cyclic_gate.specs.History.{LedgerEntry, ledger_entry, calls_of, AreRight, first_end}
use Rattle.cyclic_gate.specs.Ledger.{Book, book, booked, end_of, read_by, is_end_of_generation, is_free}
use Rattle.cyclic_gate.specs.declared.call.Call.{Call}
use Rattle.cyclic_gate.specs.declared.call.Call.TheVariants.{Await, Abandon, BreakOff, Reset}

-- a caller that has to wait and hasn't read how its generation ended: the generation, and how long the whole history
-- was with its arrival
pub record Waiter : Type 0 where
  pub generation : ℕ
  pub place : ℕ

abbrev pub waiter : ℕ → ℕ → Waiter
waiter generation place = record { generation = generation; place = place }

-- the ledger, the history of all its calls, and the callers that haven't read how their generation ended
pub record Run : Type 0 where
  pub book : Book
  pub whole : List LedgerEntry
  pub unread : List Waiter

-- a call; or the caller of this number among those that haven't read their end looks for it
pub data Event : Type 0 where
  Called : Call → Event
  Wakes : ℕ → Event

abbrev pub is_made : Call → Book → Bool
is_made (Await c) b = is_free b
is_made (Abandon c) b = true
is_made BreakOff b = true
is_made Reset b = true

abbrev pub noted : Call → Answer → List LedgerEntry → List LedgerEntry
noted call a whole = if is_change a then whole ++ ledger_entry call a ∷ [] else whole

abbrev pub answered_to_wait : Answer → ℕ → List LedgerEntry → List Waiter → List Waiter
answered_to_wait (Waiting i) generation whole unread = unread ++ waiter generation (length whole + 1) ∷ []
answered_to_wait _ generation whole unread = unread

abbrev pub after_call : Call → Run → Run
after_call call r =
    if is_made call r.book then record {
      book = booked call r.book;
      whole = noted call (answer r.book.fails call r.book.barrier) r.whole;
      unread = answered_to_wait (answer r.book.fails call r.book.barrier) r.book.barrier.generation r.whole r.unread;
    } else r

abbrev pub waiter_at : ℕ → List Waiter → Option Waiter
waiter_at n [] = None
waiter_at zero (w ∷ ws) = Some w
waiter_at (suc n) (w ∷ ws) = waiter_at n ws

abbrev pub without : ℕ → List Waiter → List Waiter
without n [] = []
without zero (w ∷ ws) = ws
without (suc n) (w ∷ ws) = w ∷ without n ws

-- It reads its end if there is one, and else waits on.
abbrev pub after_reading : ℕ → Option Waiter → Run → Run
after_reading n None r = r
after_reading n (Some w) r =
    if is_end_of_generation (end_of w.generation r.book.ends) then record {
      book = book r.book.fails r.book.barrier (read_by w.generation r.book.ends);
      whole = r.whole;
      unread = without n r.unread;
    } else r

abbrev pub after_event : Event → Run → Run
after_event (Called call) r = after_call call r
after_event (Wakes n) r = after_reading n (waiter_at n r.unread) r

abbrev pub after_events : List Event → Run → Run
after_events [] r = r
after_events (e ∷ es) r = after_events es (after_event e r)

abbrev pub begun : ℕ → Option ℕ → Run
begun parties fails = record { book = book fails (fresh parties) []; whole = []; unread = [] }

-- What these callers find in the ledger is the first end that the whole history has after their arrival.
abbrev pub FindTheirEnd : Run → List Waiter → Type 0
FindTheirEnd r [] = Unit {0}
FindTheirEnd r (w ∷ ws) = (end_of w.generation r.book.ends ≡ first_end (drop w.place r.whole)) × FindTheirEnd r ws

-- The history is right and leaves the barrier; each caller that waits finds what the history says; and there are no more ends kept and
-- callers waiting than callers that haven't read their end.
pub record ForgetsNothingNeeded (parties : ℕ) (r : Run) : Type 0 where
  pub right : AreRight r.book.fails r.whole (fresh parties)
  pub barrier : after_all r.book.fails (calls_of r.whole) (fresh parties) ≡ r.book.barrier
  pub found : FindTheirEnd r r.unread
  pub few : length r.book.ends + length r.book.barrier.waiting ≤ length r.unread

-- Whatever happens, the ledger forgets no end that a caller has still to read, and keeps no other.
abbrev pub ForgettingChangesNoAnswer : Type 0
ForgettingChangesNoAnswer =
    (parties : ℕ) (fails : Option ℕ) (events : List Event) → ForgetsNothingNeeded parties (after_events events (begun parties fails))

-- The calls since the generation began that made the barrier what it is: the arrivals of those who wait, or a break.
abbrev pub arrivals : List ℕ → List Call
arrivals [] = []
arrivals (c ∷ cs) = Await c ∷ arrivals cs

abbrev pub calls_since : Machine → List Call
calls_since m = if m.broken then BreakOff ∷ [] else arrivals m.waiting

-- Whatever the calls before, the barrier is what the calls of this generation leave of an unbroken barrier of the
-- generation, at which nobody waits. So nothing of the earlier calls has to be kept.
abbrev pub BarriersAreTheirArrivals : Type 0
BarriersAreTheirArrivals =
    (parties : ℕ) (fails : Option ℕ) (calls : List Call)
    → after_all fails (calls_since (after_all fails calls (fresh parties)))
    (machine parties (after_all fails calls (fresh parties)).generation [] false)
    ≡ after_all fails calls (fresh parties)
