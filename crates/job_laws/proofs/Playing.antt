-- What the roles say of the tree, and that others' steps leave them.
use Rattle.std.proofs.Common.{◌≡◌, ◌≢◌, ℕ, suc, ◌<◌, ⊎_elim, true, false, List, [], ◌∷◌, length, get_or, refl, sym, ◌∙◌, ap, subst, arith}
use Rattle.std.specs.Prelude.{sum_by}
use Rattle.std.proofs.lemmas.List.Sums.{sum_by-cons}
use Rattle.tier_steps.specs.declared.view.View.{View}
use Rattle.tier_steps.specs.declared.view.Passage.{Passage}
use Rattle.tier_steps.specs.declared.view.Passage.TheVariants.{Arrival, Departure}
use Rattle.tier_steps.specs.View.{new_view, absent}
use Rattle.tier_steps.specs.declared.view.Errand.TheVariants.{Advancing}
use Rattle.tier_core.specs.declared.call.Progress.{Progress}
use Rattle.tier_core.specs.declared.call.Progress.TheVariants.{Idle, Begun, Seeking as ToSeek, Settling, GivingBack as ToGiveBack, Passing, Owing, Due, Refreshing}
use Rattle.tier_core.specs.declared.call.Step.{Step}
use Rattle.tier_core.specs.Machine.{State, IsCore, view_at, call_at, is_due, CallFits}
use Rattle.tier_core.specs.Turn.{claimed_by}
use Rattle.tier_core.specs.Run.{after}
use Rattle.tier_core.proofs.Turns.{not_both}
use Rattle.tier_laws.specs.Frame.{flat_of, actor}
use Rattle.tier_laws.specs.Hold.{IsAwaited}
use Rattle.tier_laws.specs.Calls.{RootStays, is_poll}
use Rattle.tier_laws.proofs.Framing.{others_stay}
use Rattle.tier_laws.proofs.Stepping.{fitting}
use Rattle.tier_steps.specs.SpelledOut.{is_under_way}
use Rattle.tier_laws.proofs.Holding.{awaited_tokens_hold, advances_are_alone, members_are_the_tokens, fits_at}
use Rattle.job_laws.specs.Roles.{Role, Out, Joins, Seeks, Settles, GivesBack, Late, Polls, Ready, Here, Looks, Passes, Owes, Leads, Past, Plays, IsOut, IsLate, IsReady, HasCounted}
use Rattle.job_laws.specs.Cast.{role_at, members_in, is_awaited, is_leading, NobodyLeads, LeadersAreAlone, MembersAreInRoles}

pub awaited_of : (s : State) (i : ℕ) (r : Role) → Plays s i r → is_awaited r ≡ true → IsAwaited s i
awaited_of s i Out p e = not_both false e refl
awaited_of s i (Joins home) p e = not_both false e refl
awaited_of s i (Seeks home claimed) p e = not_both false e refl
awaited_of s i (Settles home) p e = not_both false e refl
awaited_of s i GivesBack p e = not_both false e refl
awaited_of s i (Late home) p e = p.0.awaited
awaited_of s i (Polls home) p e = p.0.awaited
awaited_of s i (Ready home) p e = p.0.late.awaited
awaited_of s i (Here home) p e = p.0.ready.late.awaited
awaited_of s i (Looks home passage) p e = p.0.late.awaited
awaited_of s i (Passes home passage) p e = p.0.late.awaited
awaited_of s i (Owes home passage) p e = not_both false e refl
awaited_of s i (Leads home passage) p e = not_both false e refl
awaited_of s i (Past home passage) p e = not_both false e refl

-- a token leads exactly if its call is due
pub leads_is_due : (s : State) (i : ℕ) (r : Role) → Plays s i r → is_due (call_at s.calls i) ≡ is_leading r
leads_is_due s i Out p = ap is_due p.1
leads_is_due s i (Joins home) p = ap is_due p.1
leads_is_due s i (Seeks home claimed) p = ap is_due p.2
leads_is_due s i (Settles home) p = ap is_due p.5
leads_is_due s i GivesBack p = ap is_due p.1.2
leads_is_due s i (Late home) p = ap is_due p.1
leads_is_due s i (Polls home) p = polls_not (call_at s.calls i) p.1
  where
    polls_not : (c : Progress) → is_poll c ≡ true → is_due c ≡ false
    polls_not Idle e = refl
    polls_not (Begun c) e = refl
    polls_not (ToSeek tier size) e = refl
    polls_not Settling e = refl
    polls_not (ToGiveBack answer) e = refl
    polls_not (Passing passage) e = refl
    polls_not (Owing own) e = refl
    polls_not (Due own) e = not_both false e refl
    polls_not (Refreshing moved) e = refl
leads_is_due s i (Ready home) p = ap is_due p.1
leads_is_due s i (Here home) p = ap is_due p.1
leads_is_due s i (Looks home passage) p = ap is_due p.1
leads_is_due s i (Passes home passage) p = ap is_due p.1
leads_is_due s i (Owes home passage) p = ap is_due p.1
leads_is_due s i (Leads home passage) p = ap is_due p.1
leads_is_due s i (Past home passage) p = ap is_due p.1

-- whoever has to advance the root owes that
pub due_owes : (ps : List ℕ) (p : Progress) (v : View) → is_due p ≡ true → CallFits ps p v → v.errand ≡ Advancing
due_owes ps Idle v e fits = not_both false e refl
due_owes ps (Begun c) v e fits = not_both false e refl
due_owes ps (ToSeek tier size) v e fits = not_both false e refl
due_owes ps Settling v e fits = not_both false e refl
due_owes ps (ToGiveBack answer) v e fits = not_both false e refl
due_owes ps (Passing passage) v e fits = not_both false e refl
due_owes ps (Owing own) v e fits = not_both false e refl
due_owes ps (Due own) v e fits = fits
due_owes ps (Refreshing moved) v e fits = not_both false e refl

pub nobody_leads : NobodyLeads
nobody_leads s roles i j cast h k e =
    sym (leads_is_due s j (role_at roles j) (cast.plays j k))
    ∙ (awaited_tokens_hold s i j cast.core cast.going (awaited_of s i (role_at roles i) (cast.plays i h) e) k).call

-- no other owes anything
pub leaders_are_alone : LeadersAreAlone
leaders_are_alone s roles i j home passage cast h k n leads e =
    let due : is_due (call_at s.calls i) ≡ true = leads_is_due s i (role_at roles i) (cast.plays i h) ∙ leads in
    let owes = due_owes s.parents (call_at s.calls i) (view_at s.views i) due (cast.core.calls i h) in
    let still = advances_are_alone s i j cast.core cast.going h owes k n in
    ⊎_elim
    (λ (q : role_at roles j ≡ Owes home passage).
    let p : Plays s j (Owes home passage) = subst (λ (r : Role). Plays s j r) q (cast.plays j k) in
    let fits = fitting s j (Owing passage) cast.core k p.1 in
    not_both true refl (sym (ap is_under_way fits.2) ∙ still.errand))
    (λ (q : role_at roles j ≡ Leads home passage).
    let p : Plays s j (Leads home passage) = subst (λ (r : Role). Plays s j r) q (cast.plays j k) in
    let fits = fitting s j (Due passage) cast.core k p.1 in
    not_both true refl (sym (ap is_under_way fits) ∙ still.errand))
    e

-- the members of a token
pub size_of : (s : State) (i : ℕ) (r : Role) → Plays s i r → (view_at s.views i).size ≡ members_in r
size_of s i Out p = p.0.none
size_of s i (Joins home) p = p.0.none
size_of s i (Seeks home claimed) p = p.0.none
size_of s i (Settles home) p = p.2
size_of s i GivesBack p = p.0.none
size_of s i (Late home) p = p.0.one
size_of s i (Polls home) p = p.0.one
size_of s i (Ready home) p = p.0.late.one
size_of s i (Here home) p = p.0.ready.late.one
size_of s i (Looks home passage) p = p.0.late.one
size_of s i (Passes home passage) p = p.0.late.one
size_of s i (Owes home Arrival) p = p.0.2
size_of s i (Owes home Departure) p = p.0.1
size_of s i (Leads home Arrival) p = p.0.2
size_of s i (Leads home Departure) p = p.0.1
size_of s i (Past home Arrival) p = p.0.2
size_of s i (Past home Departure) p = p.0.1

pub sums_alike : {X Y : Type 0} (f : X → ℕ) (g : Y → ℕ) (xs : List X) (ys : List Y) (d : X) (e : Y) → length ys ≡ length xs
    → ((i : ℕ) → i < length xs → f (get_or xs i d) ≡ g (get_or ys i e)) → sum_by f xs ≡ sum_by g ys
sums_alike f g [] [] d e l h = refl
sums_alike f g [] (y ∷ ys) d e l h = absurd (omega arith)
sums_alike f g (x ∷ xs) [] d e l h = absurd (omega arith)
sums_alike f g (x ∷ xs) (y ∷ ys) d e l h =
    let a = sum_by-cons f x xs in let b = sum_by-cons g y ys in
    let c = h 0 (omega arith) in
    let m = sums_alike f g xs ys d e (omega arith) (λ i k. h (suc i) (omega arith)) in omega arith

pub members_are_in_roles : MembersAreInRoles
members_are_in_roles s roles cast =
    members_are_the_tokens s cast.core
    ∙ sums_alike (λ (v : View). v.size) members_in s.views roles (new_view 0) Out cast.long
    (λ i h. size_of s i (role_at roles i) (cast.plays i h))

-- a token that is still there, with the same view and call
pub record IsKept (i : ℕ) (s s' : State) : Type 0 where
  pub known : i < length s'.views
  pub view : view_at s'.views i ≡ view_at s.views i
  pub call : call_at s'.calls i ≡ call_at s.calls i

pub kept_by_others : (s : State) (x : Step) (i : ℕ) → i < length s.views → i ≢ actor x → IsKept i s (after s x)
kept_by_others s x i h n =
    let same = others_stay s x i n in
    record { known = subst (λ (m : ℕ). i < m) (sym same.tokens) h; view = same.view; call = same.call }

-- steps of others, which leave the root in its phase, leave each role
out_stays : (s s' : State) (i : ℕ) → IsKept i s s' → IsOut s i → IsOut s' i
out_stays s s' i same is = record {
  known = same.known;
  none = ap (λ (v : View). v.size) same.view ∙ is.none;
}

late_stays : (s s' : State) (i home : ℕ) → IsKept i s s' → RootStays s s' → IsLate s i home → IsLate s' i home
late_stays s s' i home same root is = record {
  awaited = record {
    known = same.known;
    rests = ap (λ (v : View). v.errand) same.view ∙ is.awaited.rests;
    some =
        subst (λ (n : ℕ). 0 < n) (sym (ap (λ v. absent (flat_of s').phase v) same.view ∙ ap (λ p. absent p (view_at s.views i)) root.phase))
        is.awaited.some;
  };
  tier = ap (λ (v : View). v.tier) same.view ∙ is.tier;
  one = ap (λ (v : View). v.size) same.view ∙ is.one;
}

ready_stays : (s s' : State) (i home : ℕ) → IsKept i s s' → RootStays s s' → IsReady s i home → IsReady s' i home
ready_stays s s' i home same root is = record {
  late = late_stays s s' i home same root is.late;
  phase = ap (λ (v : View). v.phase) same.view ∙ (is.phase ∙ sym root.phase);
}

-- the tier of a token with a member
pub home_within : (s : State) (i home : ℕ) → IsCore s → IsLate s i home → home < length s.words
home_within s i home core is =
    let one = is.one in
    let place : (view_at s.views i).tier < length s.parents = (fits_at s i core is.awaited.known).placed (omega arith) in
    subst (λ (n : ℕ). home < n) (sym core.tally.long) (subst (λ (t : ℕ). t < length s.parents) is.tier place)

counted_stays : (s s' : State) (i home : ℕ) (passage : Passage) → IsKept i s s' → RootStays s s' → HasCounted s i home passage
    → HasCounted s' i home passage
counted_stays s s' i home Arrival same root is = (
  same.known,
  ap (λ (v : View). v.tier) same.view ∙ is.1,
  ap (λ (v : View). v.size) same.view ∙ is.2,
  ap (λ (v : View). v.phase) same.view ∙ (is.3 ∙ sym root.phase),
  ap (λ (v : View). v.arrived) same.view ∙ is.4,
)
counted_stays s s' i home Departure same root is = (
  same.known,
  ap (λ (v : View). v.size) same.view ∙ is.1,
)

pub plays_stay : (s s' : State) (i : ℕ) (r : Role) → IsCore s → IsKept i s s' → RootStays s s' → Plays s i r → Plays s' i r
plays_stay s s' i Out core same root p = (out_stays s s' i same p.0, same.call ∙ p.1)
plays_stay s s' i (Joins home) core same root p = (out_stays s s' i same p.0, same.call ∙ p.1)
plays_stay s s' i (Seeks home claimed) core same root p =
    (out_stays s s' i same p.0, ap (λ (v : View). claimed_by v.errand) same.view ∙ p.1, same.call ∙ p.2)
plays_stay s s' i (Settles home) core same root p = (
  same.known,
  ap (λ (v : View). v.tier) same.view ∙ p.1,
  ap (λ (v : View). v.size) same.view ∙ p.2,
  ap (λ (v : View). v.arrived) same.view ∙ p.3,
  ap (λ (v : View). v.phase) same.view ∙ (p.4 ∙ sym root.phase),
  same.call ∙ p.5,
)
plays_stay s s' i GivesBack core same root p = (out_stays s s' i same p.0, (p.1.0, p.1.1, same.call ∙ p.1.2))
plays_stay s s' i (Late home) core same root p = (late_stays s s' i home same root p.0, same.call ∙ p.1)
plays_stay s s' i (Polls home) core same root p = (late_stays s s' i home same root p.0, ap is_poll same.call ∙ p.1)
plays_stay s s' i (Ready home) core same root p = (ready_stays s s' i home same root p.0, same.call ∙ p.1)
plays_stay s s' i (Here home) core same root p = (
  record {
    ready = ready_stays s s' i home same root p.0.ready;
    word = root.tiers home (home_within s i home core p.0.ready.late) p.0.word ∙ sym root.phase;
  },
  same.call ∙ p.1,
)
plays_stay s s' i (Looks home passage) core same root p = (ready_stays s s' i home same root p.0, same.call ∙ p.1)
plays_stay s s' i (Passes home passage) core same root p = (ready_stays s s' i home same root p.0, same.call ∙ p.1)
plays_stay s s' i (Owes home passage) core same root p = (counted_stays s s' i home passage same root p.0, same.call ∙ p.1)
plays_stay s s' i (Leads home passage) core same root p = (counted_stays s s' i home passage same root p.0, same.call ∙ p.1)
plays_stay s s' i (Past home passage) core same root p = (counted_stays s s' i home passage same root p.0, same.call ∙ p.1)
