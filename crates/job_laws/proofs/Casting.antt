-- Calls that begin, the advance, and tokens that come in.
use Rattle.std.proofs.Common.{◌≡◌, ◌≢◌, ℕ, zero, suc, ◌+◌, ◌<◌, ◌≤◌, ◌⊎◌, ⊎_elim, Bool, true, false, cond, ltb, eqb, List, [], ◌∷◌, length, set, map, refl, sym, ◌∙◌, ap, subst, arith}
use Rattle.std.specs.Prelude.{◌&&◌}
use Rattle.std.proofs.lemmas.Bool.{lt-ltb, eq-eqb, cases_eq, cases_lt}
use Rattle.std.proofs.lemmas.List.{get_or-set_same, length-append}
use Rattle.tier_steps.specs.declared.view.View.{View}
use Rattle.tier_steps.specs.declared.view.Errand.TheVariants.{Advancing}
use Rattle.tier_steps.specs.declared.view.Passage.{Passage}
use Rattle.tier_steps.specs.declared.view.Passage.TheVariants.{Arrival, Departure}
use Rattle.tier_steps.specs.View.{new_view}
use Rattle.tier_steps.specs.Tally.{word_at}
use Rattle.tier_steps.specs.SpelledOut.{is_under_way}
use Rattle.tier_core.specs.declared.call.Call.{Call}
use Rattle.tier_core.specs.declared.call.Call.TheVariants as call
use Rattle.tier_core.specs.declared.call.Progress.TheVariants.{Idle, Begun, Owing, Due}
use Rattle.tier_core.specs.declared.call.Step.TheVariants.{Begin, Finish}
use Rattle.tier_core.specs.Machine.{State, IsCore, view_at, call_at, with_token, is_due}
use Rattle.tier_core.specs.Run.{IsCall, after, may_begin, may_finish, begun, may_call, is_idle}
use Rattle.tier_core.proofs.Turns.{not_both}
use Rattle.tier_core.proofs.Opening.{token_core, entry_before, entry_last}
use Rattle.tier_laws.specs.Frame.{flat_of}
use Rattle.tier_laws.specs.Calls.{call_by, is_poll}
use Rattle.tier_laws.proofs.Holding.{advances_are_alone}
use Rattle.tier_laws.proofs.Stepping.{only_advances_move, fitting}
use Rattle.tier_laws.proofs.Members.{advances_keep_members}
use Rattle.tier_laws.proofs.Rounding.{advances_begin_the_phase}
use Rattle.job_laws.specs.Roles.{Role, Out, Joins, Seeks, Settles, GivesBack, Late, Polls, Ready, Here, Looks, Passes, Owes, Leads, Past, Plays, IsLate, IsReady}
use Rattle.job_laws.specs.Cast.{role_at, IsCast, is_awaited, is_leading, is_settled, turned, BeginningsKeepTheCast, AdvancesTurnTheCast, NewTokensAreOut}
use Rattle.job_laws.proofs.Playing.{kept_by_others, plays_stay, leads_is_due, due_owes, nobody_leads}
use Rattle.job_laws.proofs.Quiet.{core_after, tokens_stay, keeps_the_cast}

-- a call of a token with one member
record Started (s : State) (i : ℕ) (c : Call) : Type 0 where
  may : may_begin s i c ≡ true
  here : after s (Begin i c) ≡ begun s i c
  calls : call_at (begun s i c).calls i ≡ Begun c

starts : (s : State) (i : ℕ) (c : Call) → IsCore s → i < length s.views → call_at s.calls i ≡ Idle
    → may_call (length s.parents) c (view_at s.views i) ≡ true → Started s i c
starts s i c core h idle may =
    let m : may_begin s i c ≡ true =
    ap (λ b. b && (is_idle (call_at s.calls i) && may_call (length s.parents) c (view_at s.views i))) (lt-ltb i (length s.views) h)
    ∙ (ap (λ p. is_idle p && may_call (length s.parents) c (view_at s.views i)) idle ∙ may) in
    record {
      may = m;
      here = ap (λ b. cond b (begun s i c) s) m;
      calls = get_or-set_same s.calls i (Begun c) Idle (let l = core.long in omega arith);
    }

late_begun : (s : State) (i home : ℕ) (c : Call) → IsLate s i home → IsLate (begun s i c) i home
late_begun s i home c is = record {
  awaited = record { known = is.awaited.known; rests = is.awaited.rests; some = is.awaited.some };
  tier = is.tier;
  one = is.one;
}

one_may : (s : State) (i : ℕ) (passage : Passage) → (view_at s.views i).size ≡ 1
    → may_call (length s.parents) (call_by passage) (view_at s.views i) ≡ true
one_may s i Arrival one = ap (ltb 0) one
one_may s i Departure one = ap (ltb 0) one

passage_call : (passage : Passage) → IsCall (call_by passage)
passage_call Arrival = tt
passage_call Departure = tt

begins : (s : State) (roles : List Role) (i : ℕ) (c : Call) (next : Role) → IsCast s roles → i < length s.views → IsCall c → Started s i c
    → Plays (begun s i c) i next
    → (may_begin s i c ≡ true) × IsCast (after s (Begin i c)) (set roles i next)
    × ((flat_of (after s (Begin i c))).phase ≡ (flat_of s).phase)
begins s roles i c next cast h is st p =
    let root = only_advances_move s (Begin i c) cast.core is refl in
    (st.may, keeps_the_cast s roles (Begin i c) next cast is root h (subst (λ (x : State). Plays x i next) (sym st.here) p), root.phase)

ready_of : (s : State) (i home : ℕ) (r : Role) → Plays s i r → (r ≡ Here home) ⊎ (r ≡ Ready home)
    → IsReady s i home × (call_at s.calls i ≡ Idle)
ready_of s i home r p e = ⊎_elim
    (λ (q : r ≡ Here home). let is : Plays s i (Here home) = subst (λ (x : Role). Plays s i x) q p in (is.0.ready, is.1))
    (λ (q : r ≡ Ready home). let is : Plays s i (Ready home) = subst (λ (x : Role). Plays s i x) q p in is)
    e

pub beginnings_keep_the_cast : BeginningsKeepTheCast
beginnings_keep_the_cast s roles i c next cast h b =
    let p = cast.plays i h in
    ⊎_elim
    (λ q.
    let is : Plays s i (Late q.0) = subst (λ (x : Role). Plays s i x) q.1 p in
    let st = starts s i call.Poll cast.core h is.1 (ap (ltb 0) is.0.one) in
    subst
    (λ (x : Role). (may_begin s i c ≡ true) × IsCast (after s (Begin i c)) (set roles i x)
    × ((flat_of (after s (Begin i c))).phase ≡ (flat_of s).phase))
    (sym q.3)
    (subst (λ (d : Call). (may_begin s i d ≡ true) × IsCast (after s (Begin i d)) (set roles i (Polls q.0)) × ((flat_of (after s (Begin i d))).phase ≡ (flat_of s).phase)) (sym q.2)
    (begins s roles i call.Poll (Polls q.0) cast h tt st (late_begun s i q.0 call.Poll is.0, ap is_poll st.calls))))
    (λ q. ⊎_elim
    (λ q.
    let is = ready_of s i q.0 (role_at roles i) p q.2 in
    let st = starts s i (call_by q.1) cast.core h is.1 (one_may s i q.1 is.0.late.one) in
    subst
    (λ (x : Role). (may_begin s i c ≡ true) × IsCast (after s (Begin i c)) (set roles i x)
    × ((flat_of (after s (Begin i c))).phase ≡ (flat_of s).phase))
    (sym q.4)
    (subst (λ (d : Call). (may_begin s i d ≡ true) × IsCast (after s (Begin i d)) (set roles i (Looks q.0 q.1)) × ((flat_of (after s (Begin i d))).phase ≡ (flat_of s).phase)) (sym q.3)
    (begins s roles i (call_by q.1) (Looks q.0 q.1) cast h (passage_call q.1) st
    (record { late = late_begun s i q.0 (call_by q.1) is.0.late; phase = is.0.phase }, st.calls))))
    (λ q.
    let is : Plays s i Out = subst (λ (x : Role). Plays s i x) q.2 p in
    let st =
    starts s i (call.Join q.0 1) cast.core h is.1
    (ap (λ b. b && eqb (view_at s.views i).size 0) (lt-ltb q.0 (length s.parents) q.1) ∙ eq-eqb (view_at s.views i).size 0 is.0.none) in
    subst
    (λ (x : Role). (may_begin s i c ≡ true) × IsCast (after s (Begin i c)) (set roles i x)
    × ((flat_of (after s (Begin i c))).phase ≡ (flat_of s).phase))
    (sym q.4)
    (subst (λ (d : Call). (may_begin s i d ≡ true) × IsCast (after s (Begin i d)) (set roles i (Joins q.0)) × ((flat_of (after s (Begin i d))).phase ≡ (flat_of s).phase)) (sym q.3)
    (begins s roles i (call.Join q.0 1) (Joins q.0) cast h (let one : 0 < 1 = omega arith in (one, omega arith)) st
    (record { known = is.0.known; none = is.0.none }, st.calls))))
    q)
    b

-- the advance: what each other token does
others_turn : (s : State) (i j : ℕ) (r : Role) → IsCore s → (flat_of s).ended ≡ false → i < length s.views
    → (view_at s.views i).errand ≡ Advancing
    → may_finish s i ≡ true → j < length s.views → j ≢ i → is_awaited r ≡ false → is_settled r ≡ true → Plays s j r
    → Plays (after s (Finish i)) j (turned r)
others_turn s i j Out core going h e may k n a b p =
    let same = kept_by_others s (Finish i) j k n in
    (record { known = same.known; none = ap (λ (v : View). v.size) same.view ∙ p.0.none }, same.call ∙ p.1)
others_turn s i j (Joins home) core going h e may k n a b p = not_both false b refl
others_turn s i j (Seeks home claimed) core going h e may k n a b p = not_both false b refl
others_turn s i j (Settles home) core going h e may k n a b p = not_both false b refl
others_turn s i j GivesBack core going h e may k n a b p = not_both false b refl
others_turn s i j (Late home) core going h e may k n a b p = not_both true refl a
others_turn s i j (Polls home) core going h e may k n a b p = not_both true refl a
others_turn s i j (Ready home) core going h e may k n a b p = not_both true refl a
others_turn s i j (Here home) core going h e may k n a b p = not_both true refl a
others_turn s i j (Looks home passage) core going h e may k n a b p = not_both true refl a
others_turn s i j (Passes home passage) core going h e may k n a b p = not_both true refl a
others_turn s i j (Owes home passage) core going h e may k n a b p =
    let fits = fitting s j (Owing passage) core k p.1 in
    let still = advances_are_alone s i j core going h e k n in
    not_both true refl (sym (ap is_under_way fits.2) ∙ still.errand)
others_turn s i j (Leads home passage) core going h e may k n a b p =
    let fits = fitting s j (Due passage) core k p.1 in
    let still = advances_are_alone s i j core going h e k n in
    not_both true refl (sym (ap is_under_way fits) ∙ still.errand)
others_turn s i j (Past home Arrival) core going h e may k n a b p =
    let same = kept_by_others s (Finish i) j k n in
    let one = p.0.2 in
    let next = advances_begin_the_phase s i core going may in (
      record {
        awaited = record {
          known = same.known;
          rests = ap (λ (v : View). v.errand) same.view ∙ fitting s j Idle core k p.1;
          some = next.awaited j k (omega arith);
        };
        tier = ap (λ (v : View). v.tier) same.view ∙ p.0.1;
        one = ap (λ (v : View). v.size) same.view ∙ p.0.2;
      },
      same.call ∙ p.1,
    )
others_turn s i j (Past home Departure) core going h e may k n a b p =
    let same = kept_by_others s (Finish i) j k n in
    (record { known = same.known; none = ap (λ (v : View). v.size) same.view ∙ p.0.1 }, same.call ∙ p.1)

-- and the token that leads
leader_turns : (s : State) (i : ℕ) (r : Role) → IsCore s → (flat_of s).ended ≡ false → i < length s.views → may_finish s i ≡ true
    → is_leading r ≡ true → Plays s i r → Plays (after s (Finish i)) i (turned r)
leader_turns s i Out core going h may e p = not_both false e refl
leader_turns s i (Joins home) core going h may e p = not_both false e refl
leader_turns s i (Seeks home claimed) core going h may e p = not_both false e refl
leader_turns s i (Settles home) core going h may e p = not_both false e refl
leader_turns s i GivesBack core going h may e p = not_both false e refl
leader_turns s i (Late home) core going h may e p = not_both false e refl
leader_turns s i (Polls home) core going h may e p = not_both false e refl
leader_turns s i (Ready home) core going h may e p = not_both false e refl
leader_turns s i (Here home) core going h may e p = not_both false e refl
leader_turns s i (Looks home passage) core going h may e p = not_both false e refl
leader_turns s i (Passes home passage) core going h may e p = not_both false e refl
leader_turns s i (Owes home passage) core going h may e p = not_both false e refl
leader_turns s i (Past home passage) core going h may e p = not_both false e refl
leader_turns s i (Leads home Arrival) core going h may e p =
    let step = advances_keep_members s i Arrival core h p.1 in
    let next = advances_begin_the_phase s i core going may in
    let one = p.0.2 in
    let n = tokens_stay s (Finish i) in (
      record {
        awaited = record { known = omega arith; rests = step.errand; some = next.awaited i h (omega arith) };
        tier = step.same.tier ∙ p.0.1;
        one = step.same.size ∙ p.0.2;
      },
      step.call,
    )
leader_turns s i (Leads home Departure) core going h may e p =
    let step = advances_keep_members s i Departure core h p.1 in
    let n = tokens_stay s (Finish i) in
    (record { known = omega arith; none = step.same.size ∙ p.0.1 }, step.call)

map_at : (roles : List Role) (i : ℕ) → turned (role_at roles i) ≡ role_at (map turned roles) i
map_at [] i = refl
map_at (r ∷ rs) zero = refl
map_at (r ∷ rs) (suc i) = map_at rs i

map_long : (roles : List Role) → length (map turned roles) ≡ length roles
map_long [] = refl
map_long (r ∷ rs) = ap suc (map_long rs)

not_awaited : (b : Bool) → (b ≡ true → ⊥) → b ≡ false
not_awaited true n = absurd (n refl)
not_awaited false n = refl

pub advances_turn_the_cast : AdvancesTurnTheCast
advances_turn_the_cast s roles i cast h leads settled =
    let core = cast.core in
    let going = cast.going in
    let long = cast.long in
    let tokens = tokens_stay s (Finish i) in
    let due : is_due (call_at s.calls i) ≡ true = leads_is_due s i (role_at roles i) (cast.plays i h) ∙ leads in
    let may : may_finish s i ≡ true = ap (λ b. b && is_due (call_at s.calls i)) (lt-ltb i (length s.views) h) ∙ due in
    let owes = due_owes s.parents (call_at s.calls i) (view_at s.views i) due (core.calls i h) in
    let next = advances_begin_the_phase s i core going may in
    record {
      phase = next.phase;
      ended = next.ended;
      cast = λ goes. record {
        core = core_after s (Finish i) core tt;
        going = next.ended ∙ goes;
        long = map_long roles ∙ (long ∙ sym tokens);
        plays = λ j k. subst (λ (r : Role). Plays (after s (Finish i)) j r) (map_at roles j) (⊎_elim
            (λ (q : j ≡ i). subst (λ (n : ℕ). Plays (after s (Finish i)) n (turned (role_at roles n))) (sym q)
            (leader_turns s i (role_at roles i) core going h may leads (cast.plays i h)))
            (λ (q : j ≢ i). let m : j < length s.views = omega arith in
            others_turn s i j (role_at roles j) core going h owes may m q
            (not_awaited (is_awaited (role_at roles j)) (λ e. not_both (is_leading (role_at roles i)) leads (nobody_leads s roles j i cast m h e)))
            (settled j m) (cast.plays j m))
            (cases_eq j i));
      };
    }

-- a token that comes in
pub new_tokens_are_out : NewTokensAreOut
new_tokens_are_out s roles cast =
    let long = cast.long in
    let calls = cast.core.long in
    let v : View = new_view (word_at s.words 0).phase in
    let tokens = length-append s.views (new_view (word_at s.words 0).phase ∷ []) in
    record {
      core = token_core s cast.core;
      going = cast.going;
      long = length-append roles (Out ∷ []) ∙ (ap (λ n. n + 1) cast.long ∙ sym tokens);
      plays = λ j k. ⊎_elim
          (λ (old : j < length s.views).
          subst (λ (r : Role). Plays (with_token s) j r) (sym (entry_before roles Out Out j (omega arith)))
          (plays_stay s (with_token s) j (role_at roles j) cast.core record {
            known = k;
            view = entry_before s.views (new_view (word_at s.words 0).phase) (new_view 0) j old;
            call = entry_before s.calls Idle Idle j (omega arith);
          } record { phase = refl; ended = refl; tiers = λ t _ e. e } (cast.plays j old)))
          (λ (last : length s.views ≤ j).
          let here : j ≡ length s.views = omega arith in
          subst (λ (r : Role). Plays (with_token s) j r) (sym (entry_last roles Out Out j (omega arith))) (
            record {
              known = k;
              none = ap (λ (x : View). x.size) (entry_last s.views (new_view (word_at s.words 0).phase) (new_view 0) j here);
            },
            entry_last s.calls Idle Idle j (omega arith),
          ))
          (cases_lt j (length s.views));
    }
