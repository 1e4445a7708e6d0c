-- What the type of a queue keeps, from call to call.
use Rattle.std.specs.Prelude.{slice_get, ◌||◌, is_some, IfSome, ◌⊎◌}
use Rattle.std.proofs.Common.{◌≡◌, ℕ, Bool, true, false, List, [], ◌∷◌, Option, Some, None, refl, sym, ap, ◌∙◌, subst, ⊎_elim}
use Rattle.atomic_table.specs.Seated.{TableId}
use Rattle.ghost_lists.specs.declared.tickets_rule.TicketEntry.{TicketEntry}
use Rattle.ghost_lists.specs.Passed.{IsOut, ticket_entry, without}
use Rattle.program_stretches.specs.PartValue.{PartValue}
use Rattle.program_stretches.specs.Parts.{covers}
use Rattle.program_stretches.specs.declared.fault.AcceptStretchFault.{AcceptStretchFault}
use Rattle.program_stretches.specs.declared.fault.AcceptStretchFault.TheVariants as unwanted
use Rattle.program_stretches.specs.StretchesValue.{StretchesValue, StretchValue, with_slot, status_in}
use Rattle.program_stretches.specs.Closing.{IsTaken, Accepts, Refuses, IsSameRun, is_there}
use Rattle.stretch_queue.specs.declared.fault.Refused.{Refused}
use Rattle.stretch_queue.specs.declared.queue.Lists.{Lists}
use Rattle.stretch_queue.specs.declared.hook.Closed.{Closed}
use Rattle.stretch_queue.specs.HandedOut.{AreOut, out_at}
use Rattle.stretch_queue.specs.Hooked.{bare, AreNext, Reopens, is_stopped}
use Rattle.stretch_queue.specs.QueueValue.{QueueValue, IsQueue, AreNew, AreNamed, is_over}
use Rattle.stretch_queue.specs.Refusals.{IsOfWorkers}
use Rattle.stretch_queue.specs.Watched.{has_ended_in}
use Rattle.stretch_queue.proofs.HandedOut.{found, one_more, one_less, none_out, not_both}
use Rattle.stretch_queue.proofs.Slots.{taken_out, taken_others, back_others, none_left}
use Rattle.stretch_queue.proofs.Reopened.{next_leaves, next_none_out, reopened_leaves, reopened_none_out}

or_true : (x : Bool) → (x || true) ≡ true
or_true true = refl
or_true false = refl

some_none : (r : Refused) → Some r ≡ None → ⊥
some_none r e = cc

out_not_there : {S : Type 0} (o : Option (Option (PartValue S))) → out_at o ≡ true → is_there o ≡ true → ⊥
out_not_there None a b = not_both false a refl
out_not_there (Some None) a b = not_both false b refl
out_not_there (Some (Some part)) a b = not_both false a refl

-- a stretch whose ticket came back isn't refused
pub not_refused : {Q S : Type 0} (v : StretchesValue Q S) (s : StretchValue Q S) (fault : AcceptStretchFault) → s.step ≡ v.step
    → s.part.done ≡ true → out_at (slice_get v.parts s.number) ≡ true → Refuses fault v s → ⊥
not_refused v s unwanted.WrongStep step done out h = h step
not_refused v s unwanted.Unfinished step done out h = not_both s.part.done done h.1
not_refused v s unwanted.Stranger step done out h = not_both (out_at (slice_get v.parts s.number)) out (ap out_at h.2)
not_refused v s unwanted.Double step done out h = out_not_there (slice_get v.parts s.number) out h.2

module _ {Q S : Type 0} {kept : StretchesValue Q S → Bool → Type 0} {mark : TableId} {workers : ℕ} {passes stops : TableId} where
  -- as it begins
  pub begun : (lists : Lists) (v : StretchesValue Q S) (stopped : Bool) (first : Option Refused) (ready : List ℕ) → v.name ≡ mark
      → IfSome first (IsOfWorkers workers) → AreNew lists → AreNamed passes stops lists → AreNext v
      → kept (bare v) stopped → (stopped ≡ true → status_in v ≡ None)
      → IsQueue kept mark workers passes stops lists (record { stretches = v; stopped = stopped; first = first; ready = ready })
  begun lists v stopped first ready m w new named next k halted = record {
    of_mark = m;
    of_workers = w;
    named = named;
    are_out = subst (λ ts. AreOut (λ k. out_at (slice_get v.parts k)) v.step ts) (sym new.0) (tt, tt);
    keeps = λ e. k;
    leaves = λ e ended. (next_leaves v stopped next halted ended, next_none_out v next);
    nobody = λ e. new.1;
  }

  module _ {lists : Lists} {b : QueueValue Q S} (q : IsQueue kept mark workers passes stops lists b) where
    ended_over : has_ended_in b.stretches b.stopped ≡ true → is_over b ≡ true
    ended_over e = ap (λ (x : Bool). is_some b.first || x) e ∙ or_true (is_some b.first)

    -- a stretch goes out
    pub handed_out : is_over b ≡ false → (number : ℕ) (v : StretchesValue Q S) (s : StretchValue Q S) → IsTaken b.stretches v number s
        → (new : Lists) (key at place : ℕ) → at ≡ s.step → place ≡ s.number
        → new.stretches ≡ record lists.stretches { out = ticket_entry key at place tt ∷ lists.stretches.out } → new.stops ≡ lists.stops
        → (ready : List ℕ)
        → IsQueue kept mark workers passes stops new (record b { stretches = v; ready = ready })
    handed_out going number v s t new key at place same here more others ready =
        let o = taken_out b.stretches v number s t in
        let n = here ∙ t.number in
        let step : v.step ≡ b.stretches.step = ap (λ (x : StretchesValue Q S). x.step) t.left in
        let status : status_in v ≡ status_in b.stretches = ap (λ (x : StretchesValue Q S). status_in x) t.left in
        let over : has_ended_in v b.stopped ≡ has_ended_in b.stretches b.stopped = ap (λ x. is_some x || b.stopped) status in
        record {
          of_mark = ap (λ (x : StretchesValue Q S). x.name) t.left ∙ q.of_mark;
          of_workers = q.of_workers;
          named = (ap (λ l. l.name) more ∙ q.named.0, ap (λ l. l.name) others ∙ q.named.1);
          are_out =
              subst (λ l. AreOut (λ k. out_at (slice_get v.parts k)) v.step l.out) (sym more)
              (one_more (λ k. out_at (slice_get b.stretches.parts k)) (λ k. out_at (slice_get v.parts k)) b.stretches.step v.step at key place tt lists.stretches.out q.are_out
              (ap (λ k. out_at (slice_get b.stretches.parts k)) n ∙ o.0) (ap (λ k. out_at (slice_get v.parts k)) n ∙ o.1)
              (taken_others b.stretches v number s t) step (same ∙ t.step ∙ sym step));
          keeps = λ e. subst (λ (x : StretchesValue Q S). kept (bare x) b.stopped) (sym t.left) (q.keeps e);
          leaves = λ e ended. absurd (not_both (is_over b) (ended_over (sym over ∙ ended)) going);
          nobody = λ e. ap (λ l. l.out) others ∙ q.nobody going;
        }

    -- a stretch comes back, with its ticket
    pub delivered : (s : StretchValue Q S) (v : StretchesValue Q S) (new : Lists) → v ≡ with_slot b.stretches s.number (Some s.part)
        → Accepts b.stretches s → (t : TicketEntry (Unit {0})) → IsOut t lists.stretches.out → t.number ≡ s.number
        → new.stretches.name ≡ lists.stretches.name → new.stretches.out ≡ without t.key lists.stretches.out → new.stops ≡ lists.stops
        → IsQueue kept mark workers passes stops new (record b { stretches = v })
    delivered s v new same a t there number name rest others =
        let was = found (λ k. out_at (slice_get b.stretches.parts k)) b.stretches.step lists.stretches.out t q.are_out there in
        subst (λ (x : StretchesValue Q S). IsQueue kept mark workers passes stops new (record b { stretches = x })) (sym same)
        (record {
          of_mark = q.of_mark;
          of_workers = q.of_workers;
          named = (name ∙ q.named.0, ap (λ l. l.name) others ∙ q.named.1);
          are_out =
              subst (λ ts. AreOut (λ k. out_at (slice_get (with_slot b.stretches s.number (Some s.part)).parts k)) b.stretches.step ts)
              (sym rest)
              (one_less (λ k. out_at (slice_get b.stretches.parts k))
              (λ k. out_at (slice_get (with_slot b.stretches s.number (Some s.part)).parts k)) b.stretches.step b.stretches.step
              lists.stretches.out t q.are_out there
              (λ k e n. back_others b.stretches s k (λ same. n (same ∙ sym number)) e) refl);
          keeps = q.keeps;
          leaves = λ e ended. absurd (not_both (out_at (slice_get b.stretches.parts t.number)) was.1 ((q.leaves e ended).1 t.number));
          nobody = λ e. ap (λ l. l.out) others ∙ q.nobody e;
        })

    -- a run that isn't over wasn't stopped
    pub not_stopped : is_over b ≡ false → b.stopped ≡ false
    not_stopped going = by b.stopped refl
      where
        by : (x : Bool) → b.stopped ≡ x → b.stopped ≡ false
        by true e =
            absurd
            (not_both (is_over b) (ended_over (ap (λ (x : Bool). is_some (status_in b.stretches) || x) e ∙ or_true (is_some (status_in b.stretches)))) going)
        by false e = e

    -- a superstep is closed
    pub closed : {L : Type 0} (c : Closed L) (v : StretchesValue Q S) (stopped : Bool) → stopped ≡ is_stopped c → IsSameRun b.stretches v
        → covers true b.stretches.count 0 b.stretches.parts ≡ true
        → kept (bare v) (is_stopped c) → Reopens c v → is_over b ≡ false
        → IsQueue kept mark workers passes stops lists (record b { stretches = v; stopped = stopped })
    closed c v stopped is same whole k r going =
        subst (λ (x : Bool). IsQueue kept mark workers passes stops lists (record b { stretches = v; stopped = x })) (sym is)
        (record {
          of_mark = same.named ∙ q.of_mark;
          of_workers = q.of_workers;
          named = q.named;
          are_out =
              none_out (λ j. out_at (slice_get b.stretches.parts j)) (λ j. out_at (slice_get v.parts j)) b.stretches.step v.step
              lists.stretches.out q.are_out
              (none_left b.stretches.count b.stretches.parts whole);
          keeps = λ e. k;
          leaves = λ e ended. (reopened_leaves v c r ended, reopened_none_out v c r);
          nobody = λ e. q.nobody going;
        })

    -- it couldn't be closed
    pub unclosed : (v : StretchesValue Q S) (r : Refused) → IsSameRun b.stretches v
        → (v ≡ b.stretches) ⊎ (covers true b.stretches.count 0 b.stretches.parts ≡ true) → IsOfWorkers workers r
        → IsQueue kept mark workers passes stops lists (record b { stretches = v; first = Some r })
    unclosed v r same why w = record {
      of_mark = same.named ∙ q.of_mark;
      of_workers = w;
      named = q.named;
      are_out =
          ⊎_elim
          (λ e. subst (λ (x : StretchesValue Q S). AreOut (λ j. out_at (slice_get x.parts j)) x.step lists.stretches.out) (sym e) q.are_out)
          (λ whole.
          none_out (λ j. out_at (slice_get b.stretches.parts j)) (λ j. out_at (slice_get v.parts j)) b.stretches.step v.step
          lists.stretches.out q.are_out
          (none_left b.stretches.count b.stretches.parts whole)) why;
      keeps = λ e. absurd (some_none r e);
      leaves = λ e ended. absurd (some_none r e);
      nobody = λ e. absurd (not_both true refl e);
    }

    -- a worker has stopped, so the run has ended if it wasn't refused
    pub over_by : (t : TicketEntry (Unit {0})) → IsOut t lists.stops.out → b.first ≡ None → has_ended_in b.stretches b.stopped ≡ true
    over_by t there none = by (is_over b) refl
      where
        nothing : (ts : List (TicketEntry (Unit {0}))) → ts ≡ [] → IsOut t ts → ⊥
        nothing ts e k = absurd (subst (IsOut t) e k)

        by : (x : Bool) → is_over b ≡ x → has_ended_in b.stretches b.stopped ≡ true
        by true e = sym (ap (λ (o : Option Refused). is_some o || has_ended_in b.stretches b.stopped) none) ∙ e
        by false e = absurd (nothing lists.stops.out (q.nobody e) there)
