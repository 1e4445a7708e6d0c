-- The stretches of a run after a superstep was closed.
use Rattle.std.specs.Prelude.{slice_get, is_some, ◌||◌, ◌&&◌, not}
use Rattle.std.proofs.Common.{◌≡◌, ◌+◌, ℕ, Bool, true, false, length, None, refl, ap, arith}
use Rattle.program_stretches.specs.Parts.{covers, tasks_in}
use Rattle.program_stretches.specs.StretchesValue.{StretchesValue, status_in}
use Rattle.program_stretches.proofs.Reopening.{fresh_covers}
use Rattle.stretch_queue.specs.HandedOut.{out_at}
use Rattle.stretch_queue.specs.Hooked.{AreNext, Reopens, is_stopped}
use Rattle.stretch_queue.specs.Watched.{has_ended_in, can_leave_in}
use Rattle.stretch_queue.specs.declared.hook.Closed.{Closed}
use Rattle.stretch_queue.specs.declared.hook.Closed.TheVariants.{Landed, Stopped, Faulted}
use Rattle.stretch_queue.proofs.Slots.{fresh_none_out, fresh_leaves, fault_leaves}

only_left : (b : Bool) → (b || false) ≡ true → b ≡ true
only_left true e = refl
only_left false e = cc

module _ {Q S : Type 0} (v : StretchesValue Q S) where
  next_rest : AreNext v → covers false v.count 0 v.parts ≡ true
  next_rest n =
      fresh_covers v.count 0 v.parts n.fresh (let e = n.count in let k : v.count ≡ 0 + length (tasks_in v.parts) = omega (arith, e) in k)

  -- a run can leave once it has ended, or its hook has stopped it
  pub next_leaves : (stopped : Bool) → AreNext v → (stopped ≡ true → status_in v ≡ None) → has_ended_in v stopped ≡ true
      → can_leave_in v stopped ≡ true
  next_leaves true n run e = λ i. not (is_some (run refl i)) && next_rest n i
  next_leaves false n run e = fresh_leaves v n.fresh n.count (only_left (is_some (status_in v)) e)

  pub next_none_out : AreNext v → (k : ℕ) → out_at (slice_get v.parts k) ≡ false
  next_none_out n k = fresh_none_out 0 v.parts n.fresh k

  -- the same after a superstep was closed
  pub reopened_leaves : {L : Type 0} (c : Closed L) → Reopens c v → has_ended_in v (is_stopped c) ≡ true
      → can_leave_in v (is_stopped c) ≡ true
  reopened_leaves (Landed lines) h e = next_leaves false h (λ t. absurd (no t)) e
    where
      no : false ≡ true → ⊥
      no t = cc
  reopened_leaves Stopped h e = next_leaves true h.0 (λ t. h.1) e
  reopened_leaves Faulted h e = fault_leaves v h.1.0 h.1.1

  pub reopened_none_out : {L : Type 0} (c : Closed L) → Reopens c v → (k : ℕ) → out_at (slice_get v.parts k) ≡ false
  reopened_none_out (Landed lines) h k = next_none_out h k
  reopened_none_out Stopped h k = next_none_out h.0 k
  reopened_none_out Faulted h k = ap (λ ss. out_at (slice_get ss k)) h.0
