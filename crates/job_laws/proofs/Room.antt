-- There is room at the tier of a task that spawns: members, climbs and tiers are few.
use Rattle.std.proofs.Common.{◌≡◌, ◌≢◌, ℕ, zero, suc, ◌+◌, ◌*◌, ◌<◌, ◌≤◌, ⊎_elim, Bool, true, cond, List, [], ◌∷◌, length, refl, sym, ◌∙◌, ap, subst, arith}
use Rattle.std.specs.Prelude.{sum_by}
use Rattle.std.specs.List.{count_by}
use Rattle.std.proofs.lemmas.Bool.{cases_eq, cases_lt}
use Rattle.std.proofs.lemmas.List.Sums.{sum_by-cons}
use Rattle.tier_steps.specs.declared.view.View.{View}
use Rattle.tier_steps.specs.declared.view.Errand.{Errand}
use Rattle.tier_steps.specs.declared.view.OpeningStage.{OpeningStage as Opened}
use Rattle.tier_steps.specs.declared.view.OpeningStage.TheVariants.{Seeking}
use Rattle.tier_steps.specs.declared.view.Passage.{Passage}
use Rattle.tier_steps.specs.declared.view.Passage.TheVariants.{Arrival, Departure}
use Rattle.tier_steps.specs.Image.{is_climbing}
use Rattle.tier_steps.specs.Step.{opening}
use Rattle.tier_steps.specs.Tally.{word_at}
use Rattle.tier_steps.specs.View.{new_view}
use Rattle.tier_core.specs.declared.call.Call.TheVariants as call
use Rattle.tier_core.specs.declared.call.Progress.TheVariants.{Idle, Begun, Seeking as ToSeek, Settling, GivingBack as ToGiveBack, Owing, Due}
use Rattle.tier_core.specs.Turn.{claimed_by}
use Rattle.tier_core.specs.Machine.{State, IsCore, view_at}
use Rattle.tier_laws.proofs.Holding.{parties_are_few}
use Rattle.tier_laws.proofs.Stepping.{fitting}
use Rattle.job_laws.specs.Roles.{Role, Out, Joins, Seeks, Settles, GivesBack, Late, Polls, Ready, Here, Looks, Passes, Owes, Leads, Past, Plays}
use Rattle.job_laws.specs.Cast.{role_at, members_in}
use Rattle.job_laws.proofs.Playing.{size_of, sums_alike, home_within}
use Rattle.job_schedule.specs.declared.stage.Stage.{Stage}
use Rattle.job_schedule.specs.declared.stage.Stage.TheVariants.{Waits, Taken, Polling, Joining, Arriving, Leaving, Over}
use Rattle.job_schedule.specs.ParticipantValue.{ChildValue, ParticipantValue, participant_at, child_at, is_delivered}
use Rattle.job_schedule.specs.World.{World}
use Rattle.job_laws.specs.Working.{passage_if, ComesTo, ArrivesAt, SitsAt, of_participant, IsWorking}
use Rattle.job_laws.proofs.Sharing.{own_in, known_in}
use Rattle.job_laws.proofs.Advancing.{total}

-- a token that climbs, or has to advance the root
abbrev climbs : Role → ℕ
climbs Out = 0
climbs (Joins home) = 0
climbs (Seeks home claimed) = 0
climbs (Settles home) = 0
climbs GivesBack = 0
climbs (Late home) = 0
climbs (Polls home) = 0
climbs (Ready home) = 0
climbs (Here home) = 0
climbs (Looks home passage) = 0
climbs (Passes home passage) = 0
climbs (Owes home passage) = 1
climbs (Leads home passage) = 1
climbs (Past home passage) = 0

abbrev one_if : Errand → ℕ
one_if e = cond (is_climbing e) 1 0

no_climb : (tier claimed size : ℕ) (stage : Opened) → one_if (opening tier claimed stage size) ≡ 0
no_climb tier zero size stage = refl
no_climb tier (suc claimed) size stage = refl

climbs_of : (s : State) (i : ℕ) (r : Role) → IsCore s → i < length s.views → Plays s i r → one_if (view_at s.views i).errand ≡ climbs r
climbs_of s i Out core h p = ap one_if (fitting s i Idle core h p.1)
climbs_of s i (Joins home) core h p = ap one_if (fitting s i (Begun (call.Join home 1)) core h p.1).0
climbs_of s i (Seeks home claimed) core h p =
    ap one_if (fitting s i (ToSeek home 1) core h p.2).0 ∙ no_climb home (claimed_by (view_at s.views i).errand) 1 Seeking
climbs_of s i (Settles home) core h p = ap one_if (fitting s i Settling core h p.5).3
climbs_of s i GivesBack core h p = ap one_if (fitting s i (ToGiveBack p.1.0) core h p.1.2).3
climbs_of s i (Late home) core h p = ap one_if p.0.awaited.rests
climbs_of s i (Polls home) core h p = ap one_if p.0.awaited.rests
climbs_of s i (Ready home) core h p = ap one_if p.0.late.awaited.rests
climbs_of s i (Here home) core h p = ap one_if p.0.ready.late.awaited.rests
climbs_of s i (Looks home passage) core h p = ap one_if p.0.late.awaited.rests
climbs_of s i (Passes home passage) core h p = ap one_if p.0.late.awaited.rests
climbs_of s i (Owes home passage) core h p = ap one_if (fitting s i (Owing passage) core h p.1).2
climbs_of s i (Leads home passage) core h p = ap one_if (fitting s i (Due passage) core h p.1)
climbs_of s i (Past home passage) core h p = ap one_if (fitting s i Idle core h p.1)

abbrev weight : Role → ℕ
weight r = members_in r + climbs r

sum_both : (rs : List Role) → sum_by weight rs ≡ sum_by members_in rs + sum_by climbs rs
sum_both [] = refl
sum_both (r ∷ rs) =
    let a = sum_by-cons weight r rs in
    let b = sum_by-cons members_in r rs in
    let c = sum_by-cons climbs r rs in
    let d = sum_both rs in
    omega arith

-- a task with its spawned ones
children_light : (roles : List Role) (ks : List ChildValue) → ((k : ℕ) → k < length ks → weight (role_at roles (child_at ks k).token) ≤ 1)
    → sum_by (λ (k : ChildValue). weight (role_at roles k.token)) ks ≤ length ks
children_light roles [] h = omega arith
children_light roles (k ∷ ks) h =
    let a = sum_by-cons (λ (k : ChildValue). weight (role_at roles k.token)) k ks in
    let b = h 0 (omega arith) in let c = children_light roles ks (λ j l. h (suc j) (omega arith)) in omega arith

one_heavy : (roles : List Role) (ks : List ChildValue) (n : ℕ)
    → ((k : ℕ) → k < length ks → k ≢ n → weight (role_at roles (child_at ks k).token) ≤ 1)
    → ((k : ℕ) → k < length ks → k ≡ n → weight (role_at roles (child_at ks k).token) ≤ 2)
    → sum_by (λ (k : ChildValue). weight (role_at roles k.token)) ks ≤ length ks + 1
one_heavy roles [] n h i = omega arith
one_heavy roles (k ∷ ks) zero h i =
    let a = sum_by-cons (λ (k : ChildValue). weight (role_at roles k.token)) k ks in
    let b = i 0 (omega arith) refl in
    let c = children_light roles ks (λ j l. h (suc j) (omega arith) (λ e. absurd (omega arith))) in
    omega arith
one_heavy roles (k ∷ ks) (suc n) h i =
    let a = sum_by-cons (λ (k : ChildValue). weight (role_at roles k.token)) k ks in
    let b = h 0 (omega arith) (λ e. absurd (omega arith)) in
    let c = one_heavy roles ks n (λ j l o. h (suc j) (omega arith) (λ e. o (omega arith))) (λ j l e. i (suc j) (omega arith) (ap suc e)) in
    omega arith

no_children : (ks : List ChildValue) → ((k : ℕ) → k < length ks → ⊥) → length ks ≡ 0
no_children [] h = refl
no_children (k ∷ ks) h = absurd (h 0 (omega arith))

passage_weight : (home : ℕ) (passage : Passage)
    → (weight (Owes home passage) ≤ 2) × (weight (Leads home passage) ≤ 2) × (weight (Past home passage) ≤ 1)
passage_weight home Arrival = (omega arith, omega arith, omega arith)
passage_weight home Departure = (omega arith, omega arith, omega arith)

is_at : (r q : Role) (n : ℕ) → r ≡ q → weight q ≤ n → weight r ≤ n
is_at r q n e h = subst (λ (x : Role). weight x ≤ n) (sym e) h

coming_light : (own home : ℕ) (r : Role) → ComesTo own home r → weight r ≤ 1
coming_light own home r f = ⊎_elim (λ q. is_at r Out 1 q (omega arith)) (λ q. ⊎_elim (λ q. is_at r (Joins home) 1 q (omega arith))
    (λ q. ⊎_elim (λ q. is_at r (Seeks home 0) 1 q (omega arith)) (λ q. ⊎_elim (λ q. is_at r (Seeks home q.0) 1 q.1 (omega arith))
    (λ q. ⊎_elim (λ q. is_at r (Settles home) 1 q (omega arith)) (λ q. is_at r GivesBack 1 q (omega arith)) q) q.1) q) q) f

arriving_light : (home : ℕ) (r : Role) → ArrivesAt home r → weight r ≤ 2
arriving_light home r f =
    ⊎_elim (λ q. is_at r (Ready home) 2 q (omega arith)) (λ q. ⊎_elim (λ q. is_at r (Looks home Arrival) 2 q (omega arith))
    (λ q. ⊎_elim (λ q. is_at r (Passes home Arrival) 2 q (omega arith)) (λ q. is_at r (Owes home Arrival) 2 q (omega arith)) q) q) f

module _ (roles : List Role) (tiers token home : ℕ) (children : List ChildValue) (synced : Bool) where
  abbrev child_role : ℕ → Role
  child_role k = role_at roles (child_at children k).token

  abbrev all : ℕ
  all = weight (role_at roles token) + sum_by (λ (k : ChildValue). weight (role_at roles k.token)) children

  by_stage : (stage : Stage) → SitsAt stage roles tiers token home children synced → (is_delivered stage ≡ true → length children ≤ 8)
      → all ≤ 10
  by_stage Waits is few =
      let a = is_at (role_at roles token) (Late home) 1 is.own (omega arith) in let b = no_children children is.each in
      let c = children_light roles children (λ k l. absurd (is.each k l)) in omega arith
  by_stage Taken is few =
      let a = is_at (role_at roles token) (Late home) 1 is.own (omega arith) in let b = no_children children is.each in
      let c = children_light roles children (λ k l. absurd (is.each k l)) in omega arith
  by_stage Polling is few =
      let a =
      ⊎_elim (λ q. is_at (role_at roles token) (Late home) 1 q (omega arith))
      (λ q. is_at (role_at roles token) (Polls home) 1 q (omega arith)) is.own in
      let b = few refl in
      let c = children_light roles children (λ k l. is_at (child_role k) Out 1 (is.each k l) (omega arith)) in omega arith
  by_stage (Joining n) is few =
      let a = is_at (role_at roles token) (Here home) 1 is.own (omega arith) in
      let b = few refl in
      let c = children_light roles children (λ k l. ⊎_elim
      (λ (q : k < n). is_at (child_role k) (Ready (child_at children k).home) 1 ((is.each k l).0 q) (omega arith))
      (λ (q : n ≤ k). ⊎_elim (λ (e : k ≡ n). coming_light home (child_at children k).home (child_role k) ((is.each k l).1 e))
      (λ (o : k ≢ n). is_at (child_role k) Out 1 ((is.each k l).2 (omega arith)) (omega arith)) (cases_eq k n))
      (cases_lt k n)) in omega arith
  by_stage (Arriving n) is few =
      let a = is_at (role_at roles token) (Here home) 1 is.own (omega arith) in
      let b = few refl in
      let c = one_heavy roles children n (λ k l o. ⊎_elim
      (λ (q : k < n). is_at (child_role k) (Past (child_at children k).home Arrival) 1 ((is.each k l).0 q) (omega arith))
      (λ (q : n ≤ k). is_at (child_role k) (Ready (child_at children k).home) 1 ((is.each k l).2 (omega arith)) (omega arith))
      (cases_lt k n))
      (λ k l e. arriving_light (child_at children k).home (child_role k) ((is.each k l).1 e)) in omega arith
  by_stage Leaving is few =
      let w = passage_weight home (passage_if synced) in
      let a = ⊎_elim (λ q. is_at (role_at roles token) (Here home) 2 q (omega arith))
      (λ q. ⊎_elim (λ q. is_at (role_at roles token) (Looks home (passage_if synced)) 2 q (omega arith))
      (λ q. ⊎_elim (λ q. is_at (role_at roles token) (Passes home (passage_if synced)) 2 q (omega arith))
      (λ q. ⊎_elim (λ q. is_at (role_at roles token) (Owes home (passage_if synced)) 2 q w.0) (λ q. is_at (role_at roles token) (Leads home (passage_if synced)) 2 q w.1) q)
      q)
      q)
      is.own in
      let b = few refl in
      let c =
      children_light roles children (λ k l. is_at (child_role k) (Past (child_at children k).home Arrival) 1 (is.each k l) (omega arith)) in
      omega arith
  by_stage Over is few =
      let w = passage_weight home (passage_if synced) in
      let a = is_at (role_at roles token) (Past home (passage_if synced)) 1 is.own w.2 in
      let b = few refl in
      let c =
      children_light roles children (λ k l. is_at (child_role k) (Past (child_at children k).home Arrival) 1 (is.each k l) (omega arith)) in
      omega arith

participants_light : (f : ParticipantValue → ℕ) (gs : List ParticipantValue) → ((q : ℕ) → q < length gs → f (participant_at gs q) ≤ 10)
    → sum_by f gs ≤ 10 * length gs
participants_light f [] h = omega arith
participants_light f (g ∷ gs) h =
    let a = sum_by-cons f g gs in
    let b = h 0 (omega arith) in
    let c = participants_light f gs (λ q l. h (suc q) (omega arith)) in
    omega arith

-- at most 4096 live tasks, each with at most 8 spawned ones
pub record AreFew (w : World) : Type 0 where
  pub participants : length w.participants ≤ 4096
  pub children : (place : ℕ) → place < length w.participants → is_delivered (participant_at w.participants place).stage ≡ true
      → length (participant_at w.participants place).children ≤ 8

pub has_room : (parents : List ℕ) (w : World) (roles : List Role) (place : ℕ) → length parents ≤ 64 → AreFew w → IsWorking parents w roles
    → place < length w.participants
    → role_at roles (participant_at w.participants place).token ≡ Here (participant_at w.participants place).home
    → (word_at w.tree.words (participant_at w.participants place).home).parties + 1 ≤ 65535
has_room parents w roles place tiers few is h here =
    let s : State = w.tree in
    let i : ℕ = (participant_at w.participants place).token in
    let home : ℕ = (participant_at w.participants place).home in
    let known : i < length w.tree.views =
    known_in w.participants w.free (length w.tree.views) is.shared place i h (own_in (participant_at w.participants place)) in
    let p : Plays w.tree i (Here home) = subst (λ (r : Role). Plays w.tree i r) here (is.cast.plays i known) in
    let within = home_within w.tree i home is.cast.core p.0.ready.late in
    let parties = parties_are_few w.tree home is.cast.core within (λ e. is.cast.going) in
    let sizes : sum_by (λ (v : View). v.size) w.tree.views ≡ sum_by members_in roles =
    sums_alike (λ (v : View). v.size) members_in w.tree.views roles (new_view 0) Out is.cast.long
    (λ j l. size_of w.tree j (role_at roles j) (is.cast.plays j l)) in
    let climbing : count_by (λ (v : View). is_climbing v.errand) w.tree.views ≡ sum_by climbs roles =
    sums_alike (λ (v : View). one_if v.errand) climbs w.tree.views roles (new_view 0) Out is.cast.long
    (λ j l. climbs_of w.tree j (role_at roles j) is.cast.core l (is.cast.plays j l)) in
    let both = sum_both roles in
    let held = total weight roles w.participants w.free (length w.tree.views) refl is.shared is.cast.long is.free in
    let light = participants_light (of_participant (λ t. weight (role_at roles t))) w.participants
    (λ q l. let g : ParticipantValue = participant_at w.participants q in
    by_stage roles (length parents) g.token g.home g.children g.synced g.stage (is.sits q l) (few.children q l)) in
    let many = few.participants in
    let same : length w.tree.parents ≡ length parents = ap length is.built.shape in
    omega arith
