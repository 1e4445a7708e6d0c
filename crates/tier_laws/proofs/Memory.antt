-- What a call has to remember of its moments for the answers that are still to come.
use Rattle.std.proofs.Common.{◌≡◌, ℕ, zero, suc, Bool, true, false, cond, List, ◌∷◌, refl, sym, ◌∙◌, ap, subst, arith}
use Rattle.std.specs.List.{Any}
use Rattle.tier_steps.specs.declared.view.View.{View}
use Rattle.tier_steps.specs.declared.view.Passage.{Passage}
use Rattle.tier_steps.specs.declared.view.Passage.TheVariants.{Arrival, Departure}
use Rattle.tier_steps.specs.Laws.{stepped_view}
use Rattle.tier_core.specs.declared.call.Call.{Call}
use Rattle.tier_core.specs.declared.call.Call.TheVariants as call
use Rattle.tier_core.specs.declared.call.Played.{Played}
use Rattle.tier_core.specs.declared.call.Played.TheVariants.{GoesOn, Done, Passed, Waiting, Held, Full, AlreadyArrived, Ended, MustAdvance}
use Rattle.tier_core.specs.declared.call.Progress.{Progress}
use Rattle.tier_core.specs.declared.call.Progress.TheVariants.{Idle, Begun, Seeking as ToSeek, Settling, GivingBack as ToGiveBack, Passing, Owing, Due, Refreshing}
use Rattle.tier_core.specs.declared.call.Turn.{Turn}
use Rattle.tier_core.specs.Turn.{giving_back, settling, unless_claimed, polled}
use Rattle.tier_core.specs.Machine.{State, view_at, is_active}
use Rattle.tier_core.proofs.Places.{MayPlay}
use Rattle.tier_laws.specs.Moments.{Moment, flat_at}
use Rattle.tier_steps.specs.Marks.{sees_root}
use Rattle.tier_laws.specs.Reports.{IsAwaiting, HasPassed, HasEnded, IsHeldBy, IsFullWith, last_seen, IsDoneIn, Tells, is_last, IsReported}
use Rattle.tier_laws.proofs.Ending.{at}

pub any_here : {X : Type 0} (P : X → Type 0) (x : X) (xs : List X) → P x → Any P (x ∷ xs)
any_here P x xs p = (0, x, omega arith, refl, p)

pub any_later : {X : Type 0} (P : X → Type 0) (x : X) (xs : List X) → Any P xs → Any P (x ∷ xs)
any_later P x xs a = (suc a.0, a.1, (let h = a.2 in omega arith), a.3, a.4)

-- what a poll has seen at its look: that the phase has passed, or that a member is awaited
abbrev pub PollTells : ℕ → Bool → ℕ → List Moment → Type 0
PollTells token true now ms = Any (HasPassed token now) ms
PollTells token false now ms = Any (IsAwaiting token now) ms

-- a refusal that is answered once the claimed tiers are given back
abbrev pub RefusalTells : ℕ → Call → List Moment → Played → Type 0
RefusalTells token c ms GoesOn = ⊥
RefusalTells token c ms (Done phase) = ⊥
RefusalTells token c ms (Passed phase) = ⊥
RefusalTells token c ms Waiting = ⊥
RefusalTells token c ms (Held phase why) = (phase ≡ last_seen ms) × Any (IsHeldBy token c phase why) ms
RefusalTells token c ms (Full parties) = Any (IsFullWith c parties) ms
RefusalTells token c ms (AlreadyArrived phase) = ⊥
RefusalTells token c ms (Ended number) = Any (HasEnded token number) ms
RefusalTells token c ms (MustAdvance phase parties) = ⊥

abbrev pub call_of : Passage → Call
call_of Arrival = call.Arrive
call_of Departure = call.Leave

abbrev pub Remembers : ℕ → Call → List Moment → Progress → View → Type 0
Remembers token c ms Idle v = Unit {0}
Remembers token c ms (Begun d) v = d ≡ c
Remembers token c ms (ToSeek tier size) v = (c ≡ call.Join tier size) × (v.phase ≡ last_seen ms)
Remembers token c ms Settling v = IsDoneIn token c v.phase ms
Remembers token c ms (ToGiveBack answer) v = RefusalTells token c ms answer
Remembers token c ms (Passing passage) v = c ≡ call_of passage
Remembers token c ms (Owing own) v = IsDoneIn token c v.phase ms
Remembers token c ms (Due own) v = IsDoneIn token c v.phase ms
Remembers token c ms (Refreshing has_moved) v = (c ≡ call.Poll) × PollTells token has_moved v.phase ms

-- a turn that says what it answers, and after which the call remembers what it has to
pub record Good (s : State) (i : ℕ) (c : Call) (past : List Moment) (r : Turn) : Type 0 where
  pub reported : IsReported i c (at i s r) past
  pub keeps : Remembers i c (at i s r ∷ past) r.next (stepped_view s.parents s.words r.kind r.tier (view_at s.views i))

abbrev pub Goal : State → ℕ → Call → List Moment → Turn → Type 0
Goal s i c past r = MayPlay s i r → Good s i c past r

pub by_turn : (P : Turn → Type 0) (b : Bool) (x y : Turn) → (b ≡ true → P x) → (b ≡ false → P y) → P (cond b x y)
by_turn P true x y f g = f refl
by_turn P false x y f g = g refl

pub no_last : {A : Type 0} → false ≡ true → A
no_last e = absurd (let a : false ≡ true = e in cc)

pub done_later : (i : ℕ) (c : Call) (p : ℕ) (m : Moment) (ms : List Moment) → IsDoneIn i c p ms → IsDoneIn i c p (m ∷ ms)
done_later i (call.Join tier size) p m ms d = any_later _ m ms d
done_later i call.Arrive p m ms d = any_later _ m ms d
done_later i call.Leave p m ms d = any_later _ m ms d
done_later i call.Poll p m ms d = any_later _ m ms d
done_later i call.Force p m ms d = d

pub poll_later : (i : ℕ) (b : Bool) (p : ℕ) (m : Moment) (ms : List Moment) → PollTells i b p ms → PollTells i b p (m ∷ ms)
poll_later i true p m ms d = any_later _ m ms d
poll_later i false p m ms d = any_later _ m ms d

pub refusal_later : (i : ℕ) (c : Call) (m : Moment) (ms : List Moment) (a : Played) → sees_root m.turn.tier m.turn.kind ≡ false
    → RefusalTells i c ms a → RefusalTells i c (m ∷ ms) a
refusal_later i c m ms GoesOn e d = absurd d
refusal_later i c m ms (Done phase) e d = absurd d
refusal_later i c m ms (Passed phase) e d = absurd d
refusal_later i c m ms Waiting e d = absurd d
refusal_later i c m ms (Held phase why) e d =
    (d.0 ∙ sym (ap (λ b. cond b (flat_at m).phase (last_seen ms)) e), any_later _ m ms d.1)
refusal_later i c m ms (Full parties) e d = any_later _ m ms d
refusal_later i c m ms (AlreadyArrived phase) e d = absurd d
refusal_later i c m ms (Ended number) e d = any_later _ m ms d
refusal_later i c m ms (MustAdvance phase parties) e d = absurd d

refusal_tells : (i : ℕ) (c : Call) (m : Moment) (past : List Moment) (a : Played) → RefusalTells i c (m ∷ past) a → Tells i c m past a
refusal_tells i c m past GoesOn d = absurd d
refusal_tells i c m past (Done phase) d = absurd d
refusal_tells i c m past (Passed phase) d = absurd d
refusal_tells i c m past Waiting d = absurd d
refusal_tells i c m past (Held phase why) d = d
refusal_tells i c m past (Full parties) d = d
refusal_tells i c m past (AlreadyArrived phase) d = absurd d
refusal_tells i c m past (Ended number) d = d
refusal_tells i c m past (MustAdvance phase parties) d = absurd d

-- a turn that answers a refusal, or keeps it until the claimed tiers are given back
pub refused_good : (s : State) (i : ℕ) (c : Call) (past : List Moment) (r : Turn) (claimed : ℕ) (a : Played)
    → r.next ≡ giving_back claimed a
    → r.answer ≡ unless_claimed claimed a → RefusalTells i c (at i s r ∷ past) a → Good s i c past r
refused_good s i c past r zero a next answer d =
    let v : View = stepped_view s.parents s.words r.kind r.tier (view_at s.views i) in
    record {
      reported = record {
        tells = subst (λ (x : Played). Tells i c (at i s r) past x) (sym answer) (refusal_tells i c (at i s r) past a d);
        ends = λ _. next;
      };
      keeps =
          subst (λ (x : Progress). Remembers i c (at i s r ∷ past) x (stepped_view s.parents s.words r.kind r.tier (view_at s.views i)))
          (sym next) tt;
    }
refused_good s i c past r (suc claimed) a next answer d = record {
  reported = record {
    tells = subst (λ (x : Played). Tells i c (at i s r) past x) (sym answer) (ap is_active next);
    ends = λ e. no_last (ap is_last (sym answer) ∙ e);
  };
  keeps =
      subst (λ (x : Progress). Remembers i c (at i s r ∷ past) x (stepped_view s.parents s.words r.kind r.tier (view_at s.views i)))
      (sym next) d;
}

-- a turn that answers that a join is done, or keeps it until the claimed tiers are settled
pub joined_good : (s : State) (i : ℕ) (c : Call) (past : List Moment) (r : Turn) (claimed p : ℕ) → r.next ≡ settling claimed
    → r.answer ≡ unless_claimed claimed (Done p) → (stepped_view s.parents s.words r.kind r.tier (view_at s.views i)).phase ≡ p
    → IsDoneIn i c p (at i s r ∷ past) → Good s i c past r
joined_good s i c past r zero p next answer phase d = record {
  reported = record { tells = subst (λ (x : Played). Tells i c (at i s r) past x) (sym answer) d; ends = λ _. next };
  keeps =
      subst (λ (x : Progress). Remembers i c (at i s r ∷ past) x (stepped_view s.parents s.words r.kind r.tier (view_at s.views i)))
      (sym next) tt;
}
joined_good s i c past r (suc claimed) p next answer phase d = record {
  reported = record {
    tells = subst (λ (x : Played). Tells i c (at i s r) past x) (sym answer) (ap is_active next);
    ends = λ e. no_last (ap is_last (sym answer) ∙ e);
  };
  keeps =
      subst (λ (x : Progress). Remembers i c (at i s r ∷ past) x (stepped_view s.parents s.words r.kind r.tier (view_at s.views i)))
      (sym next)
      (subst (λ (n : ℕ). IsDoneIn i c n (at i s r ∷ past)) (sym phase) d);
}

-- a poll's answer
pub polled_tells : (i : ℕ) (m : Moment) (past : List Moment) (b : Bool) (p : ℕ) → PollTells i b p (m ∷ past)
    → Tells i call.Poll m past (polled b p)
polled_tells i m past true p d = d
polled_tells i m past false p d = d
