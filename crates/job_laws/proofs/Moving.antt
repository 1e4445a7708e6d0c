-- Steps of calls in a superstep.
use Rattle.std.proofs.Common.{◌≡◌, ◌≢◌, ℕ, ◌+◌, ◌<◌, ◌≤◌, ◌⊎◌, inl, inr, ⊎_elim, Bool, true, false, List, length, set, refl, sym, ◌∙◌, ap, subst, arith}
use Rattle.std.specs.Prelude.{if◌then◌else◌, ◌&&◌}
use Rattle.std.proofs.lemmas.Bool.{lt-ltb, cases_eq, cases_lt}
use Rattle.std.proofs.lemmas.List.{get_or-set_same, get_or-set_other}
use Rattle.tier_steps.specs.declared.view.Passage.{Passage}
use Rattle.tier_steps.specs.declared.view.Passage.TheVariants.{Arrival}
use Rattle.tier_core.specs.declared.call.Call.{Call}
use Rattle.tier_core.specs.declared.call.Call.TheVariants as call
use Rattle.tier_core.specs.declared.call.Played.{Played}
use Rattle.tier_core.specs.declared.call.Answer.{Answer as TreeAnswer}
use Rattle.tier_core.specs.declared.call.Answer.TheVariants as answer
use Rattle.tier_core.specs.declared.call.Played.TheVariants.{Done}
use Rattle.tier_steps.specs.Tally.{word_at}
use Rattle.tier_core.specs.declared.call.Step.TheVariants.{Begin, Go}
use Rattle.tier_core.specs.Machine.{State as Tree, call_at, is_due}
use Rattle.tier_core.specs.Run.{after, answer_to, may_finish}
use Rattle.tier_core.proofs.Turns.{not_both}
use Rattle.tier_laws.specs.Frame.{flat_of}
use Rattle.tier_laws.specs.Calls.{call_by}
use Rattle.job_laws.specs.Roles.{Role, Out, Joins, Seeks, Late, Polls, Ready, Here, Looks, Leads, Plays}
use Rattle.job_laws.specs.Cast.{role_at, IsCast, is_awaited, is_leading}
use Rattle.job_laws.proofs.Playing.{nobody_leads, home_within, leads_is_due}
use Rattle.job_schedule.specs.declared.stage.Stage.{Stage}
use Rattle.job_schedule.specs.declared.stage.Stage.TheVariants.{Waits, Taken, Polling, Joining, Arriving, Leaving, Over}
use Rattle.job_schedule.specs.declared.stage.Move.TheVariants.{Calls}
use Rattle.job_schedule.specs.ParticipantValue.{ChildValue, ParticipantValue, participant_at, child_at, answered, is_refused}
use Rattle.job_schedule.specs.World.{World, called_by, hand_after, done_by}
use Rattle.job_laws.specs.Working.{passage_if, ComesTo, ArrivesAt, SitsAt, Sits, of_participant, IsWorking}
use Rattle.job_laws.proofs.Sharing.{one, own_in, child_in, known_in, child_not_own, children_differ}
use Rattle.job_laws.proofs.Calling.{two_steps, IsCalled, call_goes_on, call_begins, call_admitted}
use Rattle.job_laws.proofs.Turning.{turn_works}
use Rattle.job_laws.proofs.Answering.{done_stays, poll_next, goes_on_same, IsClaiming, claiming_goes, JoinEnds, look_next, claim_next, IsPassing, passing_goes, pass_next}
use Rattle.job_laws.proofs.Staging.{answer_count, after_poll, after_pass, after_join, after_arrival}

abbrev pub is_ready : Stage → Bool
is_ready Waits = true
is_ready Taken = false
is_ready Polling = false
is_ready (Joining joined) = false
is_ready (Arriving arrived) = false
is_ready Leaving = false
is_ready Over = false

-- a task that isn't ready was taken
pub was_taken : (parents : List ℕ) (w : World) (roles : List Role) (place : ℕ) → IsWorking parents w roles → place < length w.participants
    → is_ready (participant_at w.participants place).stage ≡ false → place < w.taken
was_taken parents w roles place is h e = ⊎_elim
    (λ l. l)
    (λ (l : w.taken ≤ place). not_both true refl (sym (ap is_ready (is.waits place l h)) ∙ e))
    (cases_lt place w.taken)

abbrev pub Works : List ℕ → World → Type 0
Works parents v = (roles : List Role) × IsWorking parents v roles

module _ (parents : List ℕ) (w : World) (roles : List Role) (worker place : ℕ) (is : IsWorking parents w roles)
    (h : place < length w.participants) where
  call_works : (i : ℕ) (c : Call) (role next : Role) (a : Played) → is_ready (participant_at w.participants place).stage ≡ false
      → 1 ≤ of_participant (one i) (participant_at w.participants place) → IsCalled w.tree roles i c role next a
      → Sits (set roles i next) (length parents) (answered (participant_at w.participants place) a)
      → Works parents (done_by w worker (Calls place i c)).1
  call_works i c role next a busy mine called sits =
      let g' : ParticipantValue = answered (participant_at w.participants place) a in
      let tree : Tree = after (after w.tree (Begin i c)) (Go i) in
      let taken = was_taken parents w roles place is h busy in
      let base = turn_works parents w roles (set roles i next) place i w.taken (answered (participant_at w.participants place) a)
      (after (after w.tree (Begin i c)) (Go i)) (hand_after (answered (participant_at w.participants place) a).stage w.hands worker) is h
      (λ q l. (λ e. absurd (omega arith), l))
      (record {
        mine = mine;
        same = λ j n. get_or-set_other roles i j next Out n;
        count = λ measure. answer_count measure (participant_at w.participants place) a;
        sits = sits;
      })
      called.cast called.phase (two_steps w.tree (Begin i c) (Go i)) in (
        set roles i next,
        subst
            (λ (t : TreeAnswer). IsWorking parents (called_by w worker place (after (after w.tree (Begin i c)) (Go i)) t).1 (set roles i next))
            (sym called.reported) base,
      )

  -- tokens of the task, and their roles after a step
  pub known : (i : ℕ) → 1 ≤ of_participant (one i) (participant_at w.participants place) → i < length w.tree.views
  known i mine = known_in w.participants w.free (length w.tree.views) is.shared place i h mine

  pub now_plays : (i : ℕ) (next : Role) → 1 ≤ of_participant (one i) (participant_at w.participants place)
      → role_at (set roles i next) i ≡ next
  now_plays i next mine =
      let a = known i mine in let b = is.cast.long in get_or-set_same roles i next Out (omega arith)

  pub children_stay : (next : Role) (k : ℕ) → k < length (participant_at w.participants place).children
      → role_at (set roles (participant_at w.participants place).token next)
      (child_at (participant_at w.participants place).children k).token
      ≡ role_at roles (child_at (participant_at w.participants place).children k).token
  children_stay next k l =
      get_or-set_other roles (participant_at w.participants place).token (child_at (participant_at w.participants place).children k).token
      next Out
      (child_not_own w.participants w.free (length w.tree.views) is.shared place k h l)

  own_stays : (next : Role) (k : ℕ) → k < length (participant_at w.participants place).children
      → role_at (set roles (child_at (participant_at w.participants place).children k).token next)
      (participant_at w.participants place).token
      ≡ role_at roles (participant_at w.participants place).token
  own_stays next k l =
      get_or-set_other roles (child_at (participant_at w.participants place).children k).token (participant_at w.participants place).token
      next Out
      (λ e. child_not_own w.participants w.free (length w.tree.views) is.shared place k h l (sym e))

  others_stay : (next : Role) (n k : ℕ) → n < length (participant_at w.participants place).children
      → k < length (participant_at w.participants place).children → k ≢ n
      → role_at (set roles (child_at (participant_at w.participants place).children n).token next)
      (child_at (participant_at w.participants place).children k).token
      ≡ role_at roles (child_at (participant_at w.participants place).children k).token
  others_stay next n k l m o =
      get_or-set_other roles (child_at (participant_at w.participants place).children n).token
      (child_at (participant_at w.participants place).children k).token next Out
      (children_differ w.participants w.free (length w.tree.views) is.shared place k n h m l o)

  abbrev pub At : Stage → Type 0
  At stage =
      SitsAt stage roles (length parents) (participant_at w.participants place).token (participant_at w.participants place).home
      (participant_at w.participants place).children (participant_at w.participants place).synced

  pub sits_at : (stage : Stage) → (participant_at w.participants place).stage ≡ stage → At stage
  sits_at stage at = subst (λ (s : Stage). At s) at (is.sits place h)

  -- its poll
  pub poll_step : (participant_at w.participants place).stage ≡ Polling
      → (next : Role)
      × ((a : Played)
      × IsCalled w.tree roles (participant_at w.participants place).token call.Poll (Polls (participant_at w.participants place).home) next
      a)
  poll_step at =
      let g : ParticipantValue = participant_at w.participants place in
      let i : ℕ = (participant_at w.participants place).token in
      let mine = own_in (participant_at w.participants place) in
      ⊎_elim
      (λ (q : role_at roles i ≡ Late g.home). call_begins w.tree roles i call.Poll (Polls g.home) is.cast (known i mine) (inl (g.home, q, refl, refl)) refl)
      (λ (q : role_at roles i ≡ Polls g.home). call_goes_on w.tree roles i call.Poll (Polls g.home) is.cast (known i mine) q refl)
      (sits_at Polling at).own

  pub polling_works : (participant_at w.participants place).stage ≡ Polling
      → Works parents (done_by w worker (Calls place (participant_at w.participants place).token call.Poll)).1
  polling_works at =
      let g : ParticipantValue = participant_at w.participants place in
      let i : ℕ = (participant_at w.participants place).token in
      let sits = sits_at Polling at in
      let mine = own_in (participant_at w.participants place) in
      let step = poll_step at in
      let next = poll_next (flat_of w.tree).phase g.home step.1.0 step.0 step.1.1.follows in
      call_works i call.Poll (Polls g.home) step.0 step.1.0 (ap is_ready at) mine step.1.1
      (after_poll (participant_at w.participants place) roles (set roles i step.0) (length parents) step.0 step.1.0 (now_plays i step.0 mine) (children_stay step.0) at sits
      (⊎_elim (λ q. inl (goes_on_same step.1.0 q.0, q.1)) (λ q. inr q) next))

  -- a join of a spawned task's token
  own_tier : role_at roles (participant_at w.participants place).token ≡ Here (participant_at w.participants place).home
      → (participant_at w.participants place).home < length parents
  own_tier e =
      let i : ℕ = (participant_at w.participants place).token in
      let p : Plays w.tree i (Here (participant_at w.participants place).home) =
      subst (λ (r : Role). Plays w.tree i r) e (is.cast.plays i (known i (own_in (participant_at w.participants place)))) in
      let a = home_within w.tree i (participant_at w.participants place).home is.cast.core p.0.ready.late in
      let b : length w.tree.words ≡ length w.tree.parents = is.cast.core.tally.long in
      let c : length w.tree.parents ≡ length parents = ap length is.built.shape in omega arith

  -- how it goes, by what it is: at the tier of its spawner it is never refused
  pub record IsJoinStep (home i : ℕ) : Type 0 where
    pub role : Role
    pub next : Role
    pub a : Played
    pub called : IsCalled w.tree roles i (call.Join home 1) role next a
    pub ends : JoinEnds (participant_at w.participants place).home home a next

  abbrev pub HasRoom : Type 0
  HasRoom = (word_at w.tree.words (participant_at w.participants place).home).parties + 1 ≤ 65535

  join_step : (i home : ℕ) → i < length w.tree.views → home < length w.tree.parents
      → role_at roles (participant_at w.participants place).token ≡ Here (participant_at w.participants place).home → HasRoom
      → ComesTo (participant_at w.participants place).home home (role_at roles i) → IsJoinStep home i
  join_step i home m there own capacity f = ⊎_elim
      (λ (q : role_at roles i ≡ Out).
      looked (call_begins w.tree roles i (call.Join home 1) (Joins home) is.cast m (inr (inr (home, there, q, refl, refl))) refl))
      (λ q. ⊎_elim
      (λ (q : role_at roles i ≡ Joins home). looked (call_goes_on w.tree roles i (call.Join home 1) (Joins home) is.cast m q refl))
      (λ q. ⊎_elim
      (λ (q : role_at roles i ≡ Seeks home 0). ⊎_elim
      (λ (e : home ≡ (participant_at w.participants place).home). record {
        role = Seeks home 0;
        next = Ready home;
        a = Done (flat_of w.tree).phase;
        called = call_admitted w.tree roles (participant_at w.participants place).token i home (call.Join home 1) is.cast
            (known (participant_at w.participants place).token (own_in (participant_at w.participants place))) m (own ∙ ap Here (sym e)) q
            (subst (λ (t : ℕ). (word_at w.tree.words t).parties + 1 ≤ 65535) (sym e) capacity);
        ends = inl (refl, refl);
      })
      (λ (n : home ≢ (participant_at w.participants place).home). elsewhere n (inl (0, q)))
      (cases_eq home (participant_at w.participants place).home))
      (λ q. elsewhere q.0 q.1)
      q) q) f
    where
      looked : (next : Role) × ((a : Played) × IsCalled w.tree roles i (call.Join home 1) (Joins home) next a) → IsJoinStep home i
      looked step = record {
        role = Joins home;
        next = step.0;
        a = step.1.0;
        called = step.1.1;
        ends = look_next (flat_of w.tree).phase (participant_at w.participants place).home home step.1.0 step.0 step.1.1.follows;
      }

      elsewhere : home ≢ (participant_at w.participants place).home → IsClaiming home (role_at roles i) → IsJoinStep home i
      elsewhere n q =
          let step =
          call_goes_on w.tree roles i (call.Join home 1) (role_at roles i) is.cast m refl (claiming_goes home (role_at roles i) q) in
          record {
            role = role_at roles i;
            next = step.0;
            a = step.1.0;
            called = step.1.1;
            ends =
                claim_next (flat_of w.tree).phase (participant_at w.participants place).home home (role_at roles i) step.1.0 step.0 n q
                step.1.1.follows;
          }

  pub child_step : (n : ℕ) → (participant_at w.participants place).stage ≡ Joining n → HasRoom
      → IsJoinStep (child_at (participant_at w.participants place).children n).home
      (child_at (participant_at w.participants place).children n).token
  child_step n at capacity =
      let k : ChildValue = child_at (participant_at w.participants place).children n in
      let sits = sits_at (Joining n) at in
      let turn : n < length (participant_at w.participants place).children = sits.turn in
      let there : k.home < length w.tree.parents =
      (let a = sits.homes n turn in let b : length w.tree.parents ≡ length parents = ap length is.built.shape in omega arith) in
      join_step k.token k.home (known k.token (child_in (participant_at w.participants place) n turn)) there sits.own capacity
      ((sits.each n turn).1 refl)

  pub joining_works : (n : ℕ) → (participant_at w.participants place).stage ≡ Joining n → HasRoom
      → Works parents
      (done_by w worker (Calls place (child_at (participant_at w.participants place).children n).token (call.Join (child_at (participant_at w.participants place).children n).home 1))).1
  joining_works n at capacity =
      let g : ParticipantValue = participant_at w.participants place in
      let k : ChildValue = child_at (participant_at w.participants place).children n in
      let sits = sits_at (Joining n) at in
      let turn : n < length g.children = sits.turn in
      let mine = child_in (participant_at w.participants place) n turn in
      let step = child_step n at capacity in
      call_works k.token (call.Join k.home 1) step.role step.next step.a (ap is_ready at) mine step.called
      (after_join (participant_at w.participants place) roles (set roles k.token step.next) (length parents) n step.next step.a (own_stays step.next n turn)
      (now_plays k.token step.next mine) (λ j l o. others_stay step.next n j turn l o) at sits (own_tier sits.own) step.ends)

  -- at the tier of its spawner it is never refused
  pub home_admits : (n : ℕ) (played : Played) → (participant_at w.participants place).stage ≡ Joining n → HasRoom
      → (child_at (participant_at w.participants place).children n).home ≡ (participant_at w.participants place).home
      → answer_to
      (after w.tree (Begin (child_at (participant_at w.participants place).children n).token (call.Join (child_at (participant_at w.participants place).children n).home 1)))
      (Go (child_at (participant_at w.participants place).children n).token) ≡ answer.Played played
      → is_refused played ≡ false
  home_admits n played at capacity e reported =
      let step = child_step n at capacity in
      let same : step.a ≡ played = played_same (sym step.called.reported ∙ reported) in
      ap is_refused (sym same)
      ∙ ⊎_elim (λ q. done_stays step.a q.0) (λ q. ⊎_elim (λ q. absurd (q.1 e)) (λ q. ap is_refused q.0) q) step.ends
    where
      played_same : {a b : Played} → ◌≡◌ {A = TreeAnswer} (answer.Played a) (answer.Played b) → a ≡ b
      played_same e = cc

  -- a token on its passage begins it, or is on its way
  abbrev pub IsPassingStep : ℕ → ℕ → Passage → Type 0
  IsPassingStep i home passage =
      (role : Role)
      × (IsPassing home passage role × ((next : Role) × ((a : Played) × IsCalled w.tree roles i (call_by passage) role next a)))

  passing : (i home : ℕ) (passage : Passage) → i < length w.tree.views
      → ((role_at roles i ≡ Here home) ⊎ (role_at roles i ≡ Ready home)) ⊎ IsPassing home passage (role_at roles i)
      → IsPassingStep i home passage
  passing i home passage m f = ⊎_elim
      (λ q. (
        Looks home passage,
        (
          inl refl,
          call_begins w.tree roles i (call_by passage) (Looks home passage) is.cast m (inr (inl (home, passage, q, refl, refl))) refl,
        ),
      ))
      (λ (q : IsPassing home passage (role_at roles i)). (
        role_at roles i,
        (q, call_goes_on w.tree roles i (call_by passage) (role_at roles i) is.cast m refl (passing_goes home passage (role_at roles i) q)),
      ))
      f

  pub arrival_step : (n : ℕ) → (participant_at w.participants place).stage ≡ Arriving n
      → IsPassingStep (child_at (participant_at w.participants place).children n).token
      (child_at (participant_at w.participants place).children n).home Arrival
  arrival_step n at =
      let k : ChildValue = child_at (participant_at w.participants place).children n in
      let sits = sits_at (Arriving n) at in
      let way : ArrivesAt k.home (role_at roles k.token) = (sits.each n sits.turn).1 refl in
      passing k.token k.home Arrival (known k.token (child_in (participant_at w.participants place) n sits.turn))
      (⊎_elim (λ q. inl (inr q)) (λ q. inr q) way)

  -- an arrival of a spawned task's token: while its spawner is awaited it never has to advance the root
  pub arriving_works : (n : ℕ) → (participant_at w.participants place).stage ≡ Arriving n
      → Works parents (done_by w worker (Calls place (child_at (participant_at w.participants place).children n).token call.Arrive)).1
  arriving_works n at =
      let g : ParticipantValue = participant_at w.participants place in
      let k : ChildValue = child_at (participant_at w.participants place).children n in
      let sits = sits_at (Arriving n) at in
      let turn : n < length g.children = sits.turn in
      let mine = child_in (participant_at w.participants place) n turn in
      let step = arrival_step n at in
      let called = step.1.1.1.1 in
      call_works k.token call.Arrive step.0 step.1.1.0 step.1.1.1.0 (ap is_ready at) mine called
      (after_arrival (participant_at w.participants place) roles (set roles k.token step.1.1.0) (length parents) n step.1.1.0 step.1.1.1.0 (own_stays step.1.1.0 n turn)
      (now_plays k.token step.1.1.0 mine) (λ j l o. others_stay step.1.1.0 n j turn l o) at sits
      (⊎_elim (λ q. inl q)
      (λ q. inr (
        q.0,
        ⊎_elim (λ p. inr p) (λ (p : step.1.1.0 ≡ Leads k.home Arrival).
            not_both (is_leading step.1.1.0) (ap is_leading p)
            (leads_not n step.1.1.0 (after (after w.tree (Begin k.token call.Arrive)) (Go k.token)) turn called.cast (two_steps w.tree (Begin k.token call.Arrive) (Go k.token)).tokens sits.own))
            q.1,
      ))
      (pass_next (flat_of w.tree).phase k.home Arrival step.0 step.1.1.1.0 step.1.1.0 step.1.0 called.follows)))
    where
      leads_not : (n : ℕ) (next : Role) (tree : Tree) → n < length (participant_at w.participants place).children
          → IsCast tree (set roles (child_at (participant_at w.participants place).children n).token next)
          → length tree.views ≡ length w.tree.views
          → role_at roles (participant_at w.participants place).token ≡ Here (participant_at w.participants place).home
          → is_leading next ≡ false
      leads_not n next tree turn cast same own =
          let i : ℕ = (child_at (participant_at w.participants place).children n).token in
          let mine = child_in (participant_at w.participants place) n turn in
          let a = known i mine in
          let b = known (participant_at w.participants place).token (own_in (participant_at w.participants place)) in
          ap is_leading (sym (now_plays i next mine))
          ∙ nobody_leads tree (set roles (child_at (participant_at w.participants place).children n).token next)
          (participant_at w.participants place).token i cast (omega arith) (omega arith)
          (ap is_awaited (own_stays next n turn ∙ own))

  -- its arrival or departure, until it has to advance the root
  must : (i : ℕ) → i < length w.tree.views → is_leading (role_at roles i) ≡ true → may_finish w.tree i ≡ true
  must i m e =
      ap (λ (b : Bool). b && is_due (call_at w.tree.calls i)) (lt-ltb i (length w.tree.views) m)
      ∙ (leads_is_due w.tree i (role_at roles i) (is.cast.plays i m) ∙ e)

  pub own_step : (participant_at w.participants place).stage ≡ Leaving
      → may_finish w.tree (participant_at w.participants place).token ≡ false
      → IsPassingStep (participant_at w.participants place).token (participant_at w.participants place).home
      (passage_if (participant_at w.participants place).synced)
  own_step at due =
      let g : ParticipantValue = participant_at w.participants place in
      let i : ℕ = (participant_at w.participants place).token in
      let mine = own_in (participant_at w.participants place) in
      passing i g.home (passage_if (participant_at w.participants place).synced) (known i mine) (⊎_elim (λ q. inl (inl q))
      (λ q. ⊎_elim (λ q. inr (inl q)) (λ q. ⊎_elim (λ q. inr (inr (inl q))) (λ q. ⊎_elim (λ q. inr (inr (inr q)))
      (λ q. not_both (may_finish w.tree i) (must i (known i mine) (ap is_leading q)) due) q) q) q) (sits_at Leaving at).own)

  pub passage_call : (b : Bool) → (if b then call.Arrive else call.Leave) ≡ call_by (passage_if b)
  passage_call true = refl
  passage_call false = refl

  pub leaving_works : (participant_at w.participants place).stage ≡ Leaving
      → may_finish w.tree (participant_at w.participants place).token ≡ false
      → Works parents
      (done_by w worker (Calls place (participant_at w.participants place).token (if (participant_at w.participants place).synced then call.Arrive else call.Leave))).1
  leaving_works at due =
      let g : ParticipantValue = participant_at w.participants place in
      let i : ℕ = (participant_at w.participants place).token in
      let passage : Passage = passage_if (participant_at w.participants place).synced in
      let sits = sits_at Leaving at in
      let mine = own_in (participant_at w.participants place) in
      let step = own_step at due in
      let called = step.1.1.1.1 in
      subst (λ (c : Call). Works parents (done_by w worker (Calls place i c)).1)
      (sym (passage_call (participant_at w.participants place).synced))
      (call_works i (call_by (passage_if (participant_at w.participants place).synced)) step.0 step.1.1.0 step.1.1.1.0 (ap is_ready at) mine called
      (after_pass (participant_at w.participants place) roles (set roles i step.1.1.0) (length parents) step.1.1.0 step.1.1.1.0 (now_plays i step.1.1.0 mine) (children_stay step.1.1.0) at sits
      (pass_next (flat_of w.tree).phase g.home (passage_if (participant_at w.participants place).synced) step.0 step.1.1.1.0 step.1.1.0 step.1.0 called.follows)))
