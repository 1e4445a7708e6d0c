-- The advance, by the task whose token has to take it.
use Rattle.std.proofs.Common.{◌≡◌, ◌≢◌, ℕ, zero, suc, ◌+◌, ◌-◌, ◌<◌, ◌≤◌, ◌⊎◌, inl, inr, ⊎_elim, Bool, true, false, cond, List, [], ◌∷◌, ◌++◌, length, set, map, refl, sym, ◌∙◌, ap, subst, arith, Some, None, Option}
use Rattle.std.specs.Prelude.{sum_by, if◌then◌else◌, ◌&&◌, ◌||◌, ◌==◌, nat_le, is_some}
use Rattle.std.specs.List.{AllByRecursion}
use Rattle.std.proofs.lemmas.Bool.{eqb-true, eqb-false, ne_eqb, leb-false, cases_eq, cases_lt}
use Rattle.std.proofs.lemmas.List.{get_or-set_same, get_or-set_other, length-set, length-map, length-append}
use Rattle.std.proofs.lemmas.List.Sums.{sum_by-cons}
use Rattle.advance_rule.specs.Plan.{end_ends}
use Rattle.flat_phaser.specs.Flat.{registered}
use Rattle.phaser_word.specs.Phase.{next_phase_of}
use Rattle.phase_records.specs.Status.{Limit as IsAtLimit}
use Rattle.task_lang.specs.Meaning.{Task}
use Rattle.tier_steps.specs.declared.view.Passage.{Passage}
use Rattle.tier_steps.specs.declared.view.Passage.TheVariants.{Arrival, Departure}
use Rattle.tier_core.specs.declared.call.Answer.{Answer as TreeAnswer}
use Rattle.tier_core.specs.declared.call.Answer.TheVariants as answer
use Rattle.tier_core.specs.declared.call.Step.TheVariants.{Finish}
use Rattle.tier_core.specs.Machine.{State as Tree}
use Rattle.tier_core.specs.Run.{after, answer_to, may_finish, finish_at, plan_ends}
use Rattle.tier_core.proofs.Turns.{not_both}
use Rattle.tier_laws.specs.Frame.{flat_of}
use Rattle.tier_laws.specs.Plan.{flat_ends}
use Rattle.tier_laws.proofs.Planning.{known_due}
use Rattle.step_core.specs.Superstep.{State}
use Rattle.programs.specs.Supersteps.{status, status_of}
use Rattle.job_laws.specs.Roles.{Role, Out, Late, Polls, Here, Looks, Passes, Owes, Leads, Past}
use Rattle.job_laws.specs.Cast.{role_at, IsCast, IsTurned, members_in, is_awaited, is_leading, is_settled, turned}
use Rattle.job_laws.proofs.Playing.{nobody_leads, leaders_are_alone, leads_is_due, members_are_in_roles}
use Rattle.job_laws.proofs.Casting.{advances_turn_the_cast}
use Rattle.job_schedule.specs.declared.stage.Stage.{Stage}
use Rattle.job_schedule.specs.declared.stage.Stage.TheVariants.{Waits, Taken, Polling, Joining, Arriving, Leaving, Over}
use Rattle.job_schedule.specs.declared.stage.Move.TheVariants.{Advances}
use Rattle.job_schedule.specs.declared.stage.Mode.TheVariants as mode
use Rattle.job_schedule.specs.ParticipantValue.{ChildValue, ParticipantValue, no_participant, participant_at, child_at, is_over, all_over, waiting, own_participant, child_participant, living_participants}
use Rattle.job_schedule.specs.Moves.{at_stage}
use Rattle.job_schedule.specs.World.{World, advanced_by, has_advanced, done_by}
use Rattle.job_laws.specs.Working.{passage_if, IsOwnPassing, OwnFits, SitsAt, Sits, of_participant, of_all, AreShared, IsWorking, IsTurning}
use Rattle.job_laws.proofs.Sharing.{own_in, known_in, others_own}
use Rattle.job_laws.proofs.Calling.{one_step}
use Rattle.job_laws.proofs.Turning.{IsNext, next_sits, next_shared, next_free, sum_set_same}
use Rattle.job_laws.proofs.Moving.{children_stay, now_plays, sits_at}

-- what all roles count, their tasks' do, if free tokens count nothing

of_all_front : (n : ℕ) (m : ℕ → ℕ) → of_all (suc n) m ≡ m 0 + of_all n (λ t. m (suc t))
of_all_front zero m = let z : 0 + m 0 ≡ m 0 + 0 = omega arith in z
of_all_front (suc n) m = let a = of_all_front n m in omega arith

roles_all : (f : Role → ℕ) (roles : List Role) → sum_by f roles ≡ of_all (length roles) (λ t. f (role_at roles t))
roles_all f [] = refl
roles_all f (r ∷ rs) =
    let a = sum_by-cons f r rs in let b = roles_all f rs in let c = of_all_front (length rs) (λ t. f (role_at (r ∷ rs) t)) in omega arith

free_none : (f : Role → ℕ) (roles : List Role) (ts : List ℕ) → f Out ≡ 0 → AllByRecursion (λ t. role_at roles t ≡ Out) ts
    → sum_by (λ t. f (role_at roles t)) ts ≡ 0
free_none f roles [] z a = refl
free_none f roles (t ∷ ts) z a =
    let b = sum_by-cons (λ t. f (role_at roles t)) t ts in
    let c : f (role_at roles t) ≡ 0 = ap f a.0 ∙ z in
    let d = free_none f roles ts z a.1 in
    omega arith

pub total : (f : Role → ℕ) (roles : List Role) (participants : List ParticipantValue) (free : List ℕ) (n : ℕ) → f Out ≡ 0
    → AreShared participants free n → length roles ≡ n
    → AllByRecursion (λ t. role_at roles t ≡ Out) free → sum_by f roles ≡ sum_by (of_participant (λ t. f (role_at roles t))) participants
total f roles participants free n z shared long outs =
    let a = roles_all f roles in let b = shared (λ t. f (role_at roles t)) in let c = free_none f roles free z outs in
    let d : of_all (length roles) (λ t. f (role_at roles t)) ≡ of_all n (λ t. f (role_at roles t)) =
    ap (λ (m : ℕ). of_all m (λ t. f (role_at roles t))) long in
    omega arith

-- a task that is over

children_zero : (f : Role → ℕ) (roles : List Role) (ks : List ChildValue)
    → ((k : ℕ) → k < length ks → f (role_at roles (child_at ks k).token) ≡ 0)
    → sum_by (λ (k : ChildValue). f (role_at roles k.token)) ks ≡ 0
children_zero f roles [] h = refl
children_zero f roles (k ∷ ks) h =
    let a = sum_by-cons (λ (k : ChildValue). f (role_at roles k.token)) k ks in
    let b = h 0 (omega arith) in let c = children_zero f roles ks (λ j l. h (suc j) (omega arith)) in omega arith

children_one : (f : Role → ℕ) (roles : List Role) (ks : List ChildValue)
    → ((k : ℕ) → k < length ks → f (role_at roles (child_at ks k).token) ≡ 1)
    → sum_by (λ (k : ChildValue). f (role_at roles k.token)) ks ≡ length ks
children_one f roles [] h = refl
children_one f roles (k ∷ ks) h =
    let a = sum_by-cons (λ (k : ChildValue). f (role_at roles k.token)) k ks in
    let b = h 0 (omega arith) in let c = children_one f roles ks (λ j l. h (suc j) (omega arith)) in omega arith

abbrev pub unsettled : Role → ℕ
unsettled r = cond (is_settled r) 0 1

abbrev pub AllOver : List Role → ℕ → List ParticipantValue → Type 0
AllOver roles tiers gs =
    (q : ℕ) → q < length gs
    → SitsAt Over roles tiers (participant_at gs q).token (participant_at gs q).home (participant_at gs q).children
    (participant_at gs q).synced

over_settled : (roles : List Role) (tiers : ℕ) (gs : List ParticipantValue) → AllOver roles tiers gs
    → sum_by (of_participant (λ t. unsettled (role_at roles t))) gs ≡ 0
over_settled roles tiers [] h = refl
over_settled roles tiers (g ∷ gs) h =
    let a = sum_by-cons (of_participant (λ t. unsettled (role_at roles t))) g gs in
    let s = h 0 (omega arith) in
    let b : unsettled (role_at roles g.token) ≡ 0 = ap unsettled s.own in
    let c = children_zero unsettled roles g.children (λ k l. ap unsettled (s.each k l)) in
    let d = over_settled roles tiers gs (λ q l. h (suc q) (omega arith)) in omega arith

own_members : (home : ℕ) (b : Bool) (g : ParticipantValue) → members_in (Past home (passage_if b)) ≡ length (if b then g ∷ [] else [])
own_members home true g = refl
own_members home false g = refl

pub over_members : (roles : List Role) (tiers : ℕ) (gs : List ParticipantValue) → AllOver roles tiers gs
    → sum_by (of_participant (λ t. members_in (role_at roles t))) gs ≡ length (living_participants gs)
over_members roles tiers [] h = refl
over_members roles tiers (g ∷ gs) h =
    let a = sum_by-cons (of_participant (λ t. members_in (role_at roles t))) g gs in
    let s = h 0 (omega arith) in
    let b : members_in (role_at roles g.token) ≡ length (own_participant g) =
    ap members_in s.own ∙ own_members g.home g.synced (waiting g.path g.token g.home) in
    let c = children_one members_in roles g.children (λ k l. ap members_in (s.each k l)) in
    let d = over_members roles tiers gs (λ q l. h (suc q) (omega arith)) in
    let e : length (map child_participant g.children) ≡ length g.children = length-map g.children child_participant in
    let i = length-append (own_participant g) (map child_participant g.children) in
    let j = length-append (own_participant g ++ map child_participant g.children) (living_participants gs) in omega arith

none_at : (f : Role → ℕ) (rs : List Role) (j : ℕ) → sum_by f rs ≡ 0 → j < length rs → f (role_at rs j) ≡ 0
none_at f [] j e h = absurd (omega arith)
none_at f (r ∷ rs) zero e h = let a = sum_by-cons f r rs in omega arith
none_at f (r ∷ rs) (suc j) e h = let a = sum_by-cons f r rs in none_at f rs j (omega arith) (omega arith)

settled_is : (b : Bool) → cond {A = ℕ} b 0 1 ≡ 0 → b ≡ true
settled_is true e = refl
settled_is false e = absurd (omega arith)

pub all_over_is : (gs : List ParticipantValue) → ((q : ℕ) → q < length gs → (participant_at gs q).stage ≡ Over) → all_over gs ≡ true
all_over_is [] h = refl
all_over_is (g ∷ gs) h =
    ap (λ (b : Bool). b && all_over gs) (ap is_over (h 0 (omega arith))) ∙ all_over_is gs (λ q l. h (suc q) (omega arith))

map_turned : (roles : List Role) (i : ℕ) (r : Role) → turned r ≡ turned (role_at roles i) → map turned (set roles i r) ≡ map turned roles
map_turned [] i r e = refl
map_turned (x ∷ xs) zero r e = ap (λ (y : Role). y ∷ map turned xs) e
map_turned (x ∷ xs) (suc i) r e = ap (λ (ys : List Role). turned x ∷ ys) (map_turned xs i r e)

-- a job that runs is below its limit
pub running_step : (limit : ℕ) (st : State) → is_some (status limit st) ≡ false → st.step < limit
running_step limit st h = by st.fault st.live h
  where
    le : (b : Bool) → nat_le limit st.step ≡ b → is_some (if b then Some (IsAtLimit st.step) else None) ≡ false → st.step < limit
    le true e k = not_both true refl k
    le false e k = leb-false limit st.step e

    by : (fault : Option (ℕ × List ℕ)) (live : List Task) → is_some (status_of limit st.step fault live) ≡ false → st.step < limit
    by (Some f) live k = not_both true refl k
    by None [] k = not_both true refl k
    by None (t ∷ ts) k = le (nat_le limit st.step) refl k

ends_not : (b c : Bool) → ((b && true) || c) ≡ false → c ≡ false
ends_not true c e = not_both true refl e
ends_not false c e = e

ends_by : (b c : Bool) → ((b && true) || c) ≡ true → (b ≡ true) ⊎ (c ≡ true)
ends_by true c e = inl refl
ends_by false c e = inr e

next_is : (phase : ℕ) → phase < 2147483647 → next_phase_of phase ≡ suc phase
next_is phase h =
    let a : (phase == 2147483647) ≡ false = ne_eqb phase 2147483647 (λ e. absurd (omega arith)) in
    let b : phase + 1 ≡ suc phase = omega arith in
    ap (λ (b : Bool). if b then 0 else phase + 1) a ∙ b

same_turn : (home : ℕ) (passage : Passage) → turned (Past home passage) ≡ turned (Leads home passage)
same_turn home Arrival = refl
same_turn home Departure = refl

same_members : (home : ℕ) (passage : Passage) → members_in (Past home passage) ≡ members_in (Leads home passage)
same_members home Arrival = refl
same_members home Departure = refl

-- of all that it may do, it leads
leads_only : (home : ℕ) (passage : Passage) (own : Role) → IsOwnPassing home passage own → is_leading own ≡ true → own ≡ Leads home passage
leads_only home passage own f e = ⊎_elim (λ (q : own ≡ Here home). not_both (is_leading own) e (ap is_leading q))
    (λ q. ⊎_elim (λ (q : own ≡ Looks home passage). not_both (is_leading own) e (ap is_leading q))
    (λ q. ⊎_elim (λ (q : own ≡ Passes home passage). not_both (is_leading own) e (ap is_leading q))
    (λ q. ⊎_elim (λ (q : own ≡ Owes home passage). not_both (is_leading own) e (ap is_leading q)) (λ q. q) q) q) q) f

module _ (parents : List ℕ) (w : World) (roles : List Role) (worker place : ℕ) (is : IsWorking parents w roles)
    (h : place < length w.participants)
    (at : (participant_at w.participants place).stage ≡ Leaving)
    (due : may_finish w.tree (participant_at w.participants place).token ≡ true) where
  own_known : (q : ℕ) → q < length w.participants → (participant_at w.participants q).token < length w.tree.views
  own_known q l =
      known_in w.participants w.free (length w.tree.views) is.shared q (participant_at w.participants q).token l
      (own_in (participant_at w.participants q))

  leading : is_leading (role_at roles (participant_at w.participants place).token) ≡ true
  leading =
      let i : ℕ = (participant_at w.participants place).token in
      sym (leads_is_due w.tree i (role_at roles i) (is.cast.plays i (own_known place h))) ∙ (known_due w.tree i due).1

  leads : role_at roles (participant_at w.participants place).token
      ≡ Leads (participant_at w.participants place).home (passage_if (participant_at w.participants place).synced)
  leads =
      let g : ParticipantValue = participant_at w.participants place in
      leads_only g.home (passage_if g.synced) (role_at roles g.token) (sits_at parents w roles worker place is h Leaving at).own leading

  -- all others are over
  others_over : (q : ℕ) → q < length w.participants → q ≢ place → (participant_at w.participants q).stage ≡ Over
  others_over q l o = go (participant_at w.participants q).stage (is.sits q l).own
    where
      g : ParticipantValue
      g = participant_at w.participants q

      awaits : {A : Type 0} (r : Role) → role_at roles (participant_at w.participants q).token ≡ r → is_awaited r ≡ true → A
      awaits r e a =
          not_both (is_leading (role_at roles (participant_at w.participants place).token)) leading
          (nobody_leads w.tree roles (participant_at w.participants q).token (participant_at w.participants place).token is.cast (own_known q l) (own_known place h) (ap is_awaited e ∙ a))

      owes : {A : Type 0} (home : ℕ) (passage : Passage)
          → (role_at roles (participant_at w.participants q).token ≡ Owes home passage)
          ⊎ (role_at roles (participant_at w.participants q).token ≡ Leads home passage)
          → A
      owes home passage e =
          absurd
          (leaders_are_alone w.tree roles (participant_at w.participants place).token (participant_at w.participants q).token home passage is.cast (own_known place h) (own_known q l)
          (others_own w.participants w.free (length w.tree.views) is.shared place q (participant_at w.participants place).token h l o (own_in (participant_at w.participants place)))
          leading e)

      go : (s : Stage)
          → OwnFits s (participant_at w.participants q).home (participant_at w.participants q).synced
          (role_at roles (participant_at w.participants q).token)
          → s ≡ Over
      go Waits f = awaits (Late (participant_at w.participants q).home) f refl
      go Taken f = awaits (Late (participant_at w.participants q).home) f refl
      go Polling f =
          ⊎_elim (λ e. awaits (Late (participant_at w.participants q).home) e refl)
          (λ e. awaits (Polls (participant_at w.participants q).home) e refl) f
      go (Joining n) f = awaits (Here (participant_at w.participants q).home) f refl
      go (Arriving n) f = awaits (Here (participant_at w.participants q).home) f refl
      go Leaving f = ⊎_elim (λ e. awaits (Here (participant_at w.participants q).home) e refl)
          (λ e. ⊎_elim (λ e. awaits (Looks (participant_at w.participants q).home (passage_if (participant_at w.participants q).synced)) e refl)
          (λ e. ⊎_elim (λ e. awaits (Passes (participant_at w.participants q).home (passage_if (participant_at w.participants q).synced)) e refl)
          (λ e. owes (participant_at w.participants q).home (passage_if (participant_at w.participants q).synced) e) e) e) f
      go Over f = refl

  -- the roles as they are once its call is done
  abbrev done_roles : List Role
  done_roles =
      set roles (participant_at w.participants place).token
      (Past (participant_at w.participants place).home (passage_if (participant_at w.participants place).synced))

  abbrev done_participants : List ParticipantValue
  done_participants = set w.participants place (at_stage (participant_at w.participants place) Over)

  is_next : IsNext w roles done_roles (length parents) place (participant_at w.participants place).token
      (at_stage (participant_at w.participants place) Over)
  is_next =
      let r : Role = Past (participant_at w.participants place).home (passage_if (participant_at w.participants place).synced) in
      let sits = sits_at parents w roles worker place is h Leaving at in
      record {
        mine = own_in (participant_at w.participants place);
        same = λ j n. get_or-set_other roles (participant_at w.participants place).token j r Out n;
        count = λ measure. refl;
        sits = record {
          own =
              now_plays parents w roles worker place is h (participant_at w.participants place).token r
              (own_in (participant_at w.participants place));
          each = λ k l. children_stay parents w roles worker place is h r k l ∙ sits.each k l;
          turn = tt;
          homes = sits.homes;
        };
      }

  stages_over : (q : ℕ) → q < length done_participants → (participant_at done_participants q).stage ≡ Over
  stages_over q l =
      let len : length done_participants ≡ length w.participants =
      length-set w.participants place (at_stage (participant_at w.participants place) Over) in
      ⊎_elim
      (λ (e : q ≡ place). ap (λ (n : ℕ). (participant_at done_participants n).stage) e
      ∙ ap (λ (x : ParticipantValue). x.stage)
      (get_or-set_same w.participants place (at_stage (participant_at w.participants place) Over) no_participant h))
      (λ (o : q ≢ place). ap (λ (x : ParticipantValue). x.stage) (get_or-set_other w.participants place q (at_stage (participant_at w.participants place) Over) no_participant o)
      ∙ others_over q (omega arith) o)
      (cases_eq q place)

  done_sits : (q : ℕ) → q < length done_participants → Sits done_roles (length parents) (participant_at done_participants q)
  done_sits = next_sits w roles done_roles (length parents) place (participant_at w.participants place).token (length w.tree.views)
      (at_stage (participant_at w.participants place) Over) is.shared h is.sits is_next

  all_done : AllOver done_roles (length parents) done_participants
  all_done q l =
      let g : ParticipantValue = participant_at done_participants q in
      subst (λ (s : Stage). SitsAt s done_roles (length parents) g.token g.home g.children g.synced) (stages_over q l) (done_sits q l)

  done_shared : AreShared done_participants w.free (length w.tree.views)
  done_shared = next_shared w roles done_roles (length parents) place (participant_at w.participants place).token (length w.tree.views)
      (at_stage (participant_at w.participants place) Over) is.shared is_next

  done_free : AllByRecursion (λ t. role_at done_roles t ≡ Out) w.free
  done_free = next_free w roles done_roles (length parents) place (participant_at w.participants place).token (length w.tree.views)
      (at_stage (participant_at w.participants place) Over) is.shared h is.free is_next

  done_long : length done_roles ≡ length w.tree.views
  done_long =
      length-set roles (participant_at w.participants place).token
      (Past (participant_at w.participants place).home (passage_if (participant_at w.participants place).synced))
      ∙ is.cast.long

  settled : (j : ℕ) → j < length w.tree.views → is_settled (role_at roles j) ≡ true
  settled j l =
      let i : ℕ = (participant_at w.participants place).token in
      let nobody : sum_by unsettled done_roles ≡ 0 =
      total unsettled done_roles done_participants w.free (length w.tree.views) refl done_shared done_long done_free
      ∙ over_settled done_roles (length parents) done_participants all_done in
      ⊎_elim
      (λ (e : j ≡ i). ap (λ (n : ℕ). is_settled (role_at roles n)) e ∙ ap is_settled leads)
      (λ (o : j ≢ i). ap is_settled (sym (is_next.same j o))
      ∙ settled_is (is_settled (role_at done_roles j)) (none_at unsettled done_roles j nobody (let a = done_long in omega arith)))
      (cases_eq j i)

  turns : IsTurned w.tree roles (participant_at w.participants place).token
  turns = advances_turn_the_cast w.tree roles (participant_at w.participants place).token is.cast (own_known place h) leading settled

  -- the members are as many as the tasks that live on
  pub members_live_on : registered (flat_of w.tree) ≡ length (living_participants done_participants)
  members_live_on =
      let i : ℕ = (participant_at w.participants place).token in
      let home : ℕ = (participant_at w.participants place).home in
      let passage : Passage = passage_if (participant_at w.participants place).synced in
      members_are_in_roles w.tree roles is.cast
      ∙ sym (sum_set_same members_in roles i (Past home (passage_if (participant_at w.participants place).synced)) Out
      (same_members home (passage_if (participant_at w.participants place).synced) ∙ sym (ap members_in leads)))
      ∙ total members_in done_roles done_participants w.free (length w.tree.views) refl done_shared done_long done_free
      ∙ over_members done_roles (length parents) done_participants all_done

  pub all_delivered : (q : ℕ) → q < length w.participants
      → ((participant_at w.participants q).stage ≡ Over) ⊎ ((participant_at w.participants q).stage ≡ Leaving)
  all_delivered q l = ⊎_elim
      (λ (e : q ≡ place). inr (ap (λ (n : ℕ). (participant_at w.participants n).stage) e ∙ at))
      (λ (o : q ≢ place). inl (others_over q l o))
      (cases_eq q place)

  reported : answer_to w.tree (Finish (participant_at w.participants place).token)
      ≡ answer.Played (finish_at w.tree (participant_at w.participants place).token (plan_ends w.tree)).answer
  reported =
      ap
      (λ (b : Bool). if b then answer.Played (finish_at w.tree (participant_at w.participants place).token (plan_ends w.tree)).answer
      else answer.NotNow)
      due

  planned : flat_ends w.tree ≡ ((registered (flat_of w.tree) == 0) && true) || ((flat_of w.tree).phase == w.limit - 1)
  planned = ap (λ p. end_ends p (flat_of w.tree).phase (registered (flat_of w.tree) == 0)) is.built.plan

  pub advancing_turns : w.limit ≤ 2147483648 → is_some (status w.limit w.job) ≡ false
      → (rs : List Role) × IsTurning parents (done_by w worker (Advances place)).1 rs
  advancing_turns few running =
      let i : ℕ = (participant_at w.participants place).token in
      let tree : Tree = after w.tree (Finish (participant_at w.participants place).token) in
      let same = one_step w.tree (Finish (participant_at w.participants place).token) in
      let below = running_step w.limit w.job running in
      let now = is.phase in
      let base : IsTurning parents (has_advanced w worker place (after w.tree (Finish (participant_at w.participants place).token)))
      done_roles =
      record {
        built = record { shape = same.parents ∙ is.built.shape; plan = same.plan ∙ is.built.plan; leaves = is.built.leaves };
        over = all_over_is done_participants stages_over;
        sits = done_sits;
        shared = subst (λ (n : ℕ). AreShared done_participants w.free n) (sym same.tokens) done_shared;
        free = done_free;
        cast = λ e. subst (λ (rs : List Role). IsCast (after w.tree (Finish (participant_at w.participants place).token)) rs)
            (sym (map_turned roles (participant_at w.participants place).token (Past (participant_at w.participants place).home (passage_if (participant_at w.participants place).synced))
            (same_turn (participant_at w.participants place).home (passage_if (participant_at w.participants place).synced)
            ∙ sym (ap turned leads))))
            (turns.cast (sym turns.ended ∙ e));
        phase = λ e.
            let c : ((flat_of w.tree).phase == w.limit - 1) ≡ false =
            ends_not (registered (flat_of w.tree) == 0) ((flat_of w.tree).phase == w.limit - 1) (sym planned ∙ (sym turns.ended ∙ e)) in
            let d : (flat_of w.tree).phase ≢ w.limit - 1 = eqb-false (flat_of w.tree).phase (w.limit - 1) c in
            let f : (flat_of w.tree).phase < 2147483647 = ⊎_elim
            (λ (l : (flat_of w.tree).phase < 2147483647). l)
            (λ (l : 2147483647 ≤ (flat_of w.tree).phase). absurd (d (omega arith)))
            (cases_lt (flat_of w.tree).phase 2147483647) in
            turns.phase ∙ next_is (flat_of w.tree).phase f ∙ ap suc is.phase;
        last = λ e. ⊎_elim
            (λ (b : (registered (flat_of w.tree) == 0) ≡ true). inl (sym members_live_on ∙ eqb-true (registered (flat_of w.tree)) 0 b))
            (λ (c : ((flat_of w.tree).phase == w.limit - 1) ≡ true). let d = eqb-true (flat_of w.tree).phase (w.limit - 1) c in
            inr (omega arith))
            (ends_by (registered (flat_of w.tree) == 0) ((flat_of w.tree).phase == w.limit - 1) (sym planned ∙ (sym turns.ended ∙ e)));
      } in (
        done_roles,
        subst
            (λ (t : TreeAnswer). IsTurning parents (advanced_by w worker place (after w.tree (Finish (participant_at w.participants place).token)) t).1 done_roles)
            (sym reported) base,
      )

  pub advancing_mode : (done_by w worker (Advances place)).1.mode ≡ mode.Advanced worker (participant_at w.participants place).token
  advancing_mode =
      ap (λ (t : TreeAnswer). (advanced_by w worker place (after w.tree (Finish (participant_at w.participants place).token)) t).1.mode)
      reported
