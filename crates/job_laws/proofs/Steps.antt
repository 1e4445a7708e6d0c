-- The next step of a poll, of an arrival and of a departure: the role that it leaves.
use Rattle.std.proofs.Common.{◌≡◌, ℕ, ◌<◌, ◌⊎◌, inl, inr, ⊎_elim, true, false, length, refl, sym, ◌∙◌, ap, subst, arith}
use Rattle.tier_steps.specs.declared.view.View.{View}
use Rattle.tier_steps.specs.declared.view.Passage.{Passage}
use Rattle.tier_steps.specs.declared.view.Passage.TheVariants.{Arrival, Departure}
use Rattle.tier_steps.specs.Tally.{word_at}
use Rattle.tier_core.specs.declared.call.Call.TheVariants as call
use Rattle.tier_core.specs.declared.call.Played.TheVariants.{GoesOn, Done, MustAdvance}
use Rattle.tier_core.specs.declared.call.Progress.{Progress}
use Rattle.tier_core.specs.declared.call.Progress.TheVariants.{Idle, Begun, Seeking as ToSeek, Settling, GivingBack as ToGiveBack, Passing, Owing, Due, Refreshing}
use Rattle.tier_core.specs.declared.call.Step.TheVariants.{Go}
use Rattle.tier_core.specs.Turn.{own_kind, end_shown}
use Rattle.tier_core.specs.Machine.{State, IsCore, view_at, call_at}
use Rattle.tier_core.specs.Run.{after}
use Rattle.tier_core.proofs.Turns.{not_both}
use Rattle.tier_laws.specs.Frame.{flat_of}
use Rattle.tier_laws.specs.Calls.{RootStays, view_then, call_then, answer_then, is_poll, call_by, IsSame, Counts, IsOwnStep}
use Rattle.tier_laws.proofs.Holding.{is_awaited as awaited_by, fits_at}
use Rattle.tier_laws.proofs.Stepping.{polls_follow_the_root, fitting, gone}
use Rattle.tier_laws.proofs.Members.{passes_begin_with_a_look, climbs_keep_members, pass_goes, counted, own_errand, still_going}
use Rattle.job_laws.specs.Roles.{Role, Out, Joins, Seeks, Settles, GivesBack, Late, Polls, Ready, Here, Looks, Passes, Owes, Leads, Past, Plays, IsLate, IsReady, HasCounted}
use Rattle.job_laws.specs.Cast.{role_at, is_on_its_way, StepsKeepTheCast}
use Rattle.job_laws.proofs.Quiet.{is_forcing, goes_stay, core_after, keeps_the_cast, Goes, known_after}
use Rattle.job_laws.proofs.Joining.{joins_go, seeks_go, settles_go, gives_back_go}

polls_go : (s : State) (i home : ℕ) → IsCore s → (flat_of s).ended ≡ false → RootStays s (after s (Go i)) → Plays s i (Polls home)
    → (next : Role) × Goes s i (Polls home) next
polls_go s i home core going root p =
    let step = polls_follow_the_root s i core going p.0.awaited p.1 in
    let late : IsLate (after s (Go i)) i home = record {
      awaited = awaited_by (after s (Go i)) i (core_after s (Go i) core tt) (known_after s i p.0.awaited.known) step.errand step.awaited;
      tier = step.tier ∙ p.0.tier;
      one = step.size ∙ p.0.one;
    } in
    ⊎_elim
    (λ q. (Polls home, record { follows = inl (q.0, refl); plays = (late, ap is_poll q.1.1) }))
    (λ q. (
      Here home,
      record {
        follows = inr (q.0, refl);
        plays = (
          record {
            ready = record { late = late; phase = step.phase ∙ sym root.phase };
            word = subst (λ (t : ℕ). (word_at (after s (Go i)).words t).phase ≡ (flat_of s).phase) p.0.tier q.2 ∙ sym root.phase;
          },
          q.1,
        );
      },
    ))
    step.goes_on

-- a token in the root's phase that is to pass its tier
ready_then : (s : State) (i home : ℕ) (passage : Passage) → IsCore s → RootStays s (after s (Go i)) → IsReady s i home
    → IsSame (view_at s.views i) (view_then s i)
    → call_then s i ≡ Passing passage → IsReady (after s (Go i)) i home
ready_then s i home passage core root is same e =
    let core' = core_after s (Go i) core tt in
    let h = known_after s i is.late.awaited.known in
    let fits = fitting (after s (Go i)) i (Passing passage) core' h e in
    record {
      late = record {
        awaited = awaited_by (after s (Go i)) i core' h fits.0 fits.1;
        tier = same.tier ∙ is.late.tier;
        one = same.size ∙ is.late.one;
      };
      phase = same.phase ∙ (is.phase ∙ sym root.phase);
    }

looks_go : (s : State) (i home : ℕ) (passage : Passage) → IsCore s → (flat_of s).ended ≡ false → RootStays s (after s (Go i))
    → Plays s i (Looks home passage)
    → (next : Role) × Goes s i (Looks home passage) next
looks_go s i home passage core going root p =
    let step = passes_begin_with_a_look s i passage core going p.0.late.awaited p.0.phase p.1 in (
      Passes home passage,
      record {
        follows = (step.answer, refl);
        plays = (ready_then s i home passage core root p.0 step.same step.call, step.call);
      },
    )

-- A call that passes its tier refreshes it first, or counts, whatever phase the tier is in.
abbrev IsWaiting : State → ℕ → Passage → Type 0
IsWaiting s i passage = IsSame (view_at s.views i) (view_then s i) × (answer_then s i ≡ GoesOn) × (call_then s i ≡ Passing passage)

waits_or_counts : (s : State) (i : ℕ) (passage : Passage) → IsCore s → i < length s.views → (flat_of s).ended ≡ false
    → call_at s.calls i ≡ Passing passage
    → IsWaiting s i passage ⊎ IsOwnStep s i passage
waits_or_counts s i passage core h going e =
    let v : View = view_at s.views i in
    let fits = fitting s i (Passing passage) core h e in
    let some : (view_at s.views i).arrived < (view_at s.views i).size = fits.1 in
    let fit = fits_at s i core h in
    let within : v.tier < length s.words = subst (λ (n : ℕ). v.tier < n) (sym core.tally.long) (fit.placed (omega arith)) in
    pass_goes s i passage v.tier passage (own_kind passage) (Passing passage) (end_shown (word_at s.words v.tier))
    (IsWaiting s i passage ⊎ IsOwnStep s i passage)
    (still_going s v.tier core going within) (own_errand s i passage)
    (λ g. inl (
      record {
        tier = ap (λ (x : View). x.tier) g.view;
        size = ap (λ (x : View). x.size) g.view;
        phase = ap (λ (x : View). x.phase) g.view;
        arrived = ap (λ (x : View). x.arrived) g.view;
      },
      g.answer,
      g.call,
    ))
    (λ view owes. inr (record { counts = counted s i passage fits.1 view; owes = owes }))
    (gone s i (Passing passage) core h e refl)

-- the member has been counted
counted_then : (s : State) (i home : ℕ) (passage : Passage) → IsCore s → RootStays s (after s (Go i)) → IsReady s i home
    → (view_at s.views i).arrived < (view_at s.views i).size
    → Counts passage (view_at s.views i) (view_then s i) → HasCounted (after s (Go i)) i home passage
counted_then s i home Arrival core root is some c =
    let one = is.late.one in (
      known_after s i is.late.awaited.known,
      c.0 ∙ is.late.tier,
      c.1 ∙ is.late.one,
      c.2 ∙ (is.phase ∙ sym root.phase),
      (let a = c.3 in omega arith),
    )
counted_then s i home Departure core root is some c =
    let one = is.late.one in
    (known_after s i is.late.awaited.known, (let a = c.1 in omega arith))

passes_go : (s : State) (i home : ℕ) (passage : Passage) → IsCore s → (flat_of s).ended ≡ false → RootStays s (after s (Go i))
    → Plays s i (Passes home passage)
    → (next : Role) × Goes s i (Passes home passage) next
passes_go s i home passage core going root p =
    let fits = fitting s i (Passing passage) core p.0.late.awaited.known p.1 in
    ⊎_elim
    (λ (w : IsWaiting s i passage). (
      Passes home passage,
      record {
        follows = inl (w.1, refl);
        plays = (ready_then s i home passage core root p.0 w.0 w.2, w.2);
      },
    ))
    (λ (o : IsOwnStep s i passage).
    let has = counted_then s i home passage core root p.0 fits.1 o.counts in
    ⊎_elim
    (λ q. (Past home passage, record { follows = inr (inl (q.0 ∙ ap Done p.0.phase, refl)); plays = (has, q.2) }))
    (λ q. ⊎_elim
    (λ q. (Owes home passage, record { follows = inr (inr (inl (q.0, refl))); plays = (has, q.2) }))
    (λ q. (
      Leads home passage,
      record {
        follows = inr (inr (inr ((q.0.0, q.0.1 ∙ ap (λ n. MustAdvance n q.0.0) p.0.phase), refl)));
        plays = (has, q.2);
      },
    ))
    q)
    o.owes)
    (waits_or_counts s i passage core p.0.late.awaited.known going p.1)

-- a climb
climbed : (s : State) (i home : ℕ) (passage : Passage) → RootStays s (after s (Go i)) → HasCounted s i home passage
    → IsSame (view_at s.views i) (view_then s i)
    → HasCounted (after s (Go i)) i home passage
climbed s i home Arrival root is same =
    (known_after s i is.0, same.tier ∙ is.1, same.size ∙ is.2, same.phase ∙ (is.3 ∙ sym root.phase), same.arrived ∙ is.4)
climbed s i home Departure root is same = (known_after s i is.0, same.size ∙ is.1)

known_by : (s : State) (i home : ℕ) (passage : Passage) → HasCounted s i home passage → i < length s.views
known_by s i home Arrival is = is.0
known_by s i home Departure is = is.0

owes_go : (s : State) (i home : ℕ) (passage : Passage) → IsCore s → (flat_of s).ended ≡ false → RootStays s (after s (Go i))
    → Plays s i (Owes home passage)
    → (next : Role) × Goes s i (Owes home passage) next
owes_go s i home passage core going root p =
    let step = climbs_keep_members s i passage core (known_by s i home passage p.0) p.1 in
    let has = climbed s i home passage root p.0 step.same in
    ⊎_elim
    (λ q. (Past home passage, record { follows = inl (((view_at s.views i).phase, q.0), refl); plays = (has, q.2) }))
    (λ q. ⊎_elim
    (λ q. (Owes home passage, record { follows = inr (inl (q.0, refl)); plays = (has, q.2) }))
    (λ q. (Leads home passage, record { follows = inr (inr ((q.0.0, (view_at s.views i).phase, q.0.1), refl)); plays = (has, q.2) }))
    q)
    step.owes

forces_not : (p : Progress) → is_poll p ≡ true → is_forcing p ≡ false
forces_not Idle e = refl
forces_not (Begun (call.Join tier size)) e = refl
forces_not (Begun call.Arrive) e = refl
forces_not (Begun call.Leave) e = refl
forces_not (Begun call.Poll) e = refl
forces_not (Begun call.Force) e = not_both false e refl
forces_not (ToSeek tier size) e = refl
forces_not Settling e = refl
forces_not (ToGiveBack answer) e = refl
forces_not (Passing passage) e = refl
forces_not (Owing own) e = refl
forces_not (Due own) e = refl
forces_not (Refreshing moved) e = refl

passage_not : (passage : Passage) → is_forcing (Begun (call_by passage)) ≡ false
passage_not Arrival = refl
passage_not Departure = refl

-- by the role
role_goes : (s : State) (i : ℕ) (r : Role) → IsCore s → (flat_of s).ended ≡ false → Plays s i r → is_on_its_way r ≡ true
    → RootStays s (after s (Go i)) × ((next : Role) × Goes s i r next)
role_goes s i Out core going p e = not_both false e refl
role_goes s i (Late home) core going p e = not_both false e refl
role_goes s i (Ready home) core going p e = not_both false e refl
role_goes s i (Here home) core going p e = not_both false e refl
role_goes s i (Leads home passage) core going p e = not_both false e refl
role_goes s i (Past home passage) core going p e = not_both false e refl
role_goes s i (Polls home) core going p e =
    let root = goes_stay s i core (forces_not (call_at s.calls i) p.1) in (root, polls_go s i home core going root p)
role_goes s i (Looks home passage) core going p e =
    let root = goes_stay s i core (ap is_forcing p.1 ∙ passage_not passage) in (root, looks_go s i home passage core going root p)
role_goes s i (Passes home passage) core going p e =
    let root = goes_stay s i core (ap is_forcing p.1) in (root, passes_go s i home passage core going root p)
role_goes s i (Owes home passage) core going p e =
    let root = goes_stay s i core (ap is_forcing p.1) in (root, owes_go s i home passage core going root p)
role_goes s i (Joins home) core going p e =
    let root = goes_stay s i core (ap is_forcing p.1) in (root, joins_go s i home core going root p)
role_goes s i (Seeks home claimed) core going p e =
    let root = goes_stay s i core (ap is_forcing p.2) in (root, seeks_go s i home claimed core going root p)
role_goes s i (Settles home) core going p e =
    let root = goes_stay s i core (ap is_forcing p.5) in (root, settles_go s i home core root p)
role_goes s i GivesBack core going p e =
    let root = goes_stay s i core (ap is_forcing p.1.2) in (root, gives_back_go s i core p)

pub steps_keep_the_cast : StepsKeepTheCast
steps_keep_the_cast s roles i cast h e =
    let g = role_goes s i (role_at roles i) cast.core cast.going (cast.plays i h) e in (
      g.1.0,
      record {
        follows = g.1.1.follows;
        cast = keeps_the_cast s roles (Go i) g.1.0 cast tt g.0 h g.1.1.plays;
        phase = g.0.phase;
      },
    )
