-- A step of a worker on the tree: the call begins, if it hasn't, and goes on.
use Rattle.std.proofs.Common.{◌+◌, ◌≤◌, inl, ◌≡◌, ℕ, ◌<◌, Bool, true, false, ltb, List, length, set, refl, sym, ◌∙◌, ap, subst, arith}
use Rattle.std.specs.Prelude.{◌&&◌, if◌then◌else◌}
use Rattle.std.proofs.lemmas.Bool.{lt-ltb}
use Rattle.std.proofs.lemmas.List.{get_or-set_same, set-set}
use Rattle.tier_core.specs.declared.call.Call.{Call}
use Rattle.tier_core.specs.declared.call.Played.{Played}
use Rattle.tier_core.specs.declared.call.Played.TheVariants.{Done}
use Rattle.tier_steps.specs.Tally.{word_at}
use Rattle.tier_core.specs.declared.call.Answer.TheVariants as answer
use Rattle.tier_core.specs.declared.call.Progress.{Progress}
use Rattle.tier_core.specs.declared.call.Progress.TheVariants.{Idle, Begun, Seeking as ToSeek, Settling, GivingBack as ToGiveBack, Passing, Owing, Due, Refreshing}
use Rattle.tier_core.specs.declared.call.Step.{Step}
use Rattle.tier_core.specs.declared.call.Step.TheVariants.{Begin, Go, Finish}
use Rattle.tier_core.specs.Machine.{State, view_at, call_at, turn_at, is_active, played}
use Rattle.tier_core.specs.Run.{after, answer_to, may_begin, may_go, may_finish, may_call, is_idle, begun, finish_at, plan_ends}
use Rattle.tier_core.proofs.Turns.{not_both}
use Rattle.tier_laws.specs.Frame.{flat_of}
use Rattle.tier_laws.specs.Calls.{is_poll}
use Rattle.job_laws.specs.Roles.{Role, Out, Joins, Seeks, Settles, GivesBack, Late, Polls, Ready, Here, Looks, Passes, Owes, Leads, Past, Plays}
use Rattle.job_laws.specs.Cast.{role_at, IsCast, is_on_its_way, Follows, Begins}
use Rattle.job_laws.proofs.Admitting.{homes_admit}
use Rattle.job_laws.proofs.Quiet.{tokens_stay}
use Rattle.job_laws.proofs.Steps.{steps_keep_the_cast}
use Rattle.job_laws.proofs.Casting.{beginnings_keep_the_cast}

-- the tree that steps leave has the same tiers, plan and tokens
pub record IsSameTree (s t : State) : Type 0 where
  pub parents : t.parents ≡ s.parents
  pub plan : t.plan ≡ s.plan
  pub tokens : length t.views ≡ length s.views

pub one_step : (s : State) (x : Step) → IsSameTree s (after s x)
one_step s x = record { parents = parents x; plan = plan x; tokens = tokens_stay s x }
  where
    either : {A : Type 0} (f : State → A) (b : Bool) (t : State) → f t ≡ f s → f (if b then t else s) ≡ f s
    either f true t e = e
    either f false t e = refl

    parents : (x : Step) → (after s x).parents ≡ s.parents
    parents (Begin i c) = either (λ (t : State). t.parents) (may_begin s i c) (begun s i c) refl
    parents (Go i) = either (λ (t : State). t.parents) (may_go s i) (played s i (turn_at s i)) refl
    parents (Finish i) = either (λ (t : State). t.parents) (may_finish s i) (played s i (finish_at s i (plan_ends s))) refl

    plan : (x : Step) → (after s x).plan ≡ s.plan
    plan (Begin i c) = either (λ (t : State). t.plan) (may_begin s i c) (begun s i c) refl
    plan (Go i) = either (λ (t : State). t.plan) (may_go s i) (played s i (turn_at s i)) refl
    plan (Finish i) = either (λ (t : State). t.plan) (may_finish s i) (played s i (finish_at s i (plan_ends s))) refl

pub two_steps : (s : State) (x y : Step) → IsSameTree s (after (after s x) y)
two_steps s x y =
    let a = one_step s x in let b = one_step (after s x) y in
    record { parents = b.parents ∙ a.parents; plan = b.plan ∙ a.plan; tokens = b.tokens ∙ a.tokens }

-- a token on its way has a step to take, and begins no call
poll_active : (p : Progress) → is_poll p ≡ true → is_active p ≡ true
poll_active Idle e = not_both false e refl
poll_active (Begun c) e = refl
poll_active (ToSeek tier size) e = refl
poll_active Settling e = refl
poll_active (ToGiveBack a) e = refl
poll_active (Passing passage) e = refl
poll_active (Owing own) e = refl
poll_active (Due own) e = not_both false e refl
poll_active (Refreshing moved) e = refl

active_not_idle : (p : Progress) → is_active p ≡ true → is_idle p ≡ false
active_not_idle Idle e = not_both false e refl
active_not_idle (Begun c) e = refl
active_not_idle (ToSeek tier size) e = refl
active_not_idle Settling e = refl
active_not_idle (ToGiveBack a) e = refl
active_not_idle (Passing passage) e = refl
active_not_idle (Owing own) e = refl
active_not_idle (Due own) e = refl
active_not_idle (Refreshing moved) e = refl

active : (s : State) (i : ℕ) (r : Role) → Plays s i r → is_on_its_way r ≡ true → is_active (call_at s.calls i) ≡ true
active s i Out p e = not_both false e refl
active s i (Joins home) p e = ap is_active p.1
active s i (Seeks home claimed) p e = ap is_active p.2
active s i (Settles home) p e = ap is_active p.5
active s i GivesBack p e = ap is_active p.1.2
active s i (Late home) p e = not_both false e refl
active s i (Polls home) p e = poll_active (call_at s.calls i) p.1
active s i (Ready home) p e = not_both false e refl
active s i (Here home) p e = not_both false e refl
active s i (Looks home passage) p e = ap is_active p.1
active s i (Passes home passage) p e = ap is_active p.1
active s i (Owes home passage) p e = ap is_active p.1
active s i (Leads home passage) p e = not_both false e refl
active s i (Past home passage) p e = not_both false e refl

refused : (s : State) (i : ℕ) (c : Call) → is_active (call_at s.calls i) ≡ true → after s (Begin i c) ≡ s
refused s i c e =
    ap (λ (b : Bool). if (ltb i (length s.views) && (b && may_call (length s.parents) c (view_at s.views i))) then begun s i c else s)
    (active_not_idle (call_at s.calls i) e)
    ∙ by (ltb i (length s.views))
  where
    by : (b : Bool) → (if (b && false) then begun s i c else s) ≡ s
    by true = refl
    by false = refl

-- The call of a token goes on from this role to the next, with this answer.
pub record IsCalled (s : State) (roles : List Role) (i : ℕ) (c : Call) (role next : Role) (a : Played) : Type 0 where
  pub reported : answer_to (after s (Begin i c)) (Go i) ≡ answer.Played a
  pub follows : Follows (flat_of s).phase role a next
  pub cast : IsCast (after (after s (Begin i c)) (Go i)) (set roles i next)
  pub phase : (flat_of (after (after s (Begin i c)) (Go i))).phase ≡ (flat_of s).phase

-- the step alone
record IsGone (s : State) (roles : List Role) (i : ℕ) (role next : Role) : Type 0 where
  reported : answer_to s (Go i) ≡ answer.Played (turn_at s i).answer
  follows : Follows (flat_of s).phase role (turn_at s i).answer next
  cast : IsCast (after s (Go i)) (set roles i next)
  phase : (flat_of (after s (Go i))).phase ≡ (flat_of s).phase

goes : (s : State) (roles : List Role) (i : ℕ) (role : Role) → IsCast s roles → i < length s.views → role_at roles i ≡ role
    → is_on_its_way role ≡ true
    → (next : Role) × IsGone s roles i role next
goes s roles i role cast h e way =
    let step = steps_keep_the_cast s roles i cast h (ap is_on_its_way e ∙ way) in
    let may : may_go s i ≡ true =
    ap (λ (b : Bool). b && is_active (call_at s.calls i)) (lt-ltb i (length s.views) h)
    ∙ active s i (role_at roles i) (cast.plays i h) (ap is_on_its_way e ∙ way) in (
      step.0,
      record {
        reported = ap (λ (b : Bool). if b then answer.Played (turn_at s i).answer else answer.NotNow) may;
        follows = subst (λ (r : Role). Follows (flat_of s).phase r (turn_at s i).answer step.0) e step.1.follows;
        cast = step.1.cast;
        phase = step.1.phase;
      },
    )

-- it is on its way already
pub call_goes_on : (s : State) (roles : List Role) (i : ℕ) (c : Call) (role : Role) → IsCast s roles → i < length s.views
    → role_at roles i ≡ role
    → is_on_its_way role ≡ true → (next : Role) × ((a : Played) × IsCalled s roles i c role next a)
call_goes_on s roles i c role cast h e way =
    let g = goes s roles i role cast h e way in
    let same : after s (Begin i c) ≡ s = refused s i c (active s i (role_at roles i) (cast.plays i h) (ap is_on_its_way e ∙ way)) in (
      g.0,
      (
        (turn_at s i).answer,
        record {
          reported = ap (λ (t : State). answer_to t (Go i)) same ∙ g.1.reported;
          follows = g.1.follows;
          cast = subst (λ (t : State). IsCast (after t (Go i)) (set roles i g.0)) (sym same) g.1.cast;
          phase = ap (λ (t : State). (flat_of (after t (Go i))).phase) same ∙ g.1.phase;
        },
      ),
    )

-- or it begins
pub call_begins : (s : State) (roles : List Role) (i : ℕ) (c : Call) (role : Role) → IsCast s roles → i < length s.views
    → Begins (length s.parents) (role_at roles i) c role → is_on_its_way role ≡ true
    → (next : Role) × ((a : Played) × IsCalled s roles i c role next a)
call_begins s roles i c role cast h b way =
    let start = beginnings_keep_the_cast s roles i c role cast h b in
    let s' : State = after s (Begin i c) in
    let known : i < length s'.views = (let a = tokens_stay s (Begin i c) in omega arith) in
    let here : role_at (set roles i role) i ≡ role = get_or-set_same roles i role Out (let a = cast.long in omega arith) in
    let g = goes (after s (Begin i c)) (set roles i role) i role start.1 known here way in (
      g.0,
      (
        (turn_at (after s (Begin i c)) i).answer,
        record {
          reported = g.1.reported;
          follows = subst (λ (n : ℕ). Follows n role (turn_at (after s (Begin i c)) i).answer g.0) start.2 g.1.follows;
          cast = subst (λ (rs : List Role). IsCast (after (after s (Begin i c)) (Go i)) rs) (set-set roles i role g.0) g.1.cast;
          phase = g.1.phase ∙ start.2;
        },
      ),
    )

-- or it is a join at the tier of a token that has polled, which is done at once, if there is room
pub call_admitted : (s : State) (roles : List Role) (own i home : ℕ) (c : Call) → IsCast s roles → own < length s.views → i < length s.views
    → role_at roles own ≡ Here home → role_at roles i ≡ Seeks home 0 → (word_at s.words home).parties + 1 ≤ 65535
    → IsCalled s roles i c (Seeks home 0) (Ready home) (Done (flat_of s).phase)
call_admitted s roles own i home c cast k h here seeks capacity =
    let is = homes_admit s roles own i home cast k h here seeks capacity in
    let g = goes s roles i (Seeks home 0) cast h seeks refl in
    let same : after s (Begin i c) ≡ s = refused s i c (active s i (role_at roles i) (cast.plays i h) (ap is_on_its_way seeks)) in
    record {
      reported = ap (λ (t : State). answer_to t (Go i)) same ∙ g.1.reported ∙ ap answer.Played is.answer;
      follows = inl (refl, refl);
      cast = subst (λ (t : State). IsCast (after t (Go i)) (set roles i (Ready home))) (sym same) is.cast;
      phase = ap (λ (t : State). (flat_of (after t (Go i))).phase) same ∙ g.1.phase;
    }
