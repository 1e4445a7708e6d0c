-- A task after an answer of a call of its token, or of a spawned task's token.
use Rattle.std.proofs.Common.{◌≡◌, ◌≢◌, ℕ, suc, ◌+◌, ◌<◌, ◌≤◌, ◌⊎◌, inl, inr, ⊎_elim, Bool, true, false, List, length, set, refl, sym, ◌∙◌, ap, subst, arith}
use Rattle.std.specs.Prelude.{if◌then◌else◌, nat_lt}
use Rattle.std.proofs.lemmas.Bool.{ltb-true, ltb-false, cases_eq}
use Rattle.std.proofs.lemmas.List.{get_or-set_same, get_or-set_other, length-set}
use Rattle.tier_steps.specs.declared.view.Passage.TheVariants.{Arrival}
use Rattle.tier_core.specs.declared.call.Played.{Played}
use Rattle.job_laws.specs.Roles.{Role, Out, Polls, Ready, Here, Past}
use Rattle.job_laws.specs.Cast.{role_at}
use Rattle.job_schedule.specs.declared.stage.Stage.{Stage}
use Rattle.job_schedule.specs.declared.stage.Stage.TheVariants.{Waits, Taken, Polling, Joining, Arriving, Leaving, Over}
use Rattle.job_schedule.specs.ParticipantValue.{ChildValue, ParticipantValue, no_child, child_at, is_done, is_refused, next_stage, sent_home, answered, arriving, joining}
use Rattle.job_laws.specs.Working.{passage_if, ComesTo, ArrivesAt, SitsAt, Sits, of_participant}
use Rattle.job_laws.proofs.Turning.{sum_set_same}
use Rattle.job_laws.proofs.Answering.{done_answer, refused_answer, kept_answer, goes_same, JoinEnds, PassEnds}

-- an answer changes none of its tokens
pub answer_count : (measure : ℕ → ℕ) (g : ParticipantValue) (a : Played) → of_participant measure (answered g a) ≡ of_participant measure g
answer_count measure g a = by (is_done a) (is_refused a)
  where
    home : (s : Stage) → of_participant measure (sent_home g s) ≡ of_participant measure g
    home Waits = refl
    home Taken = refl
    home Polling = refl
    home (Joining n) =
        ap (λ (m : ℕ). measure g.token + m)
        (sum_set_same (λ (k : ChildValue). measure k.token) g.children n (record (child_at g.children n) { home = g.home }) no_child refl)
    home (Arriving n) = refl
    home Leaving = refl
    home Over = refl

    by : (b c : Bool)
        → of_participant measure
        (if b then record g { stage = next_stage g.stage (length g.children) } else (if c then sent_home g g.stage else g))
        ≡ of_participant measure g
    by true c = refl
    by false true = home g.stage
    by false false = refl

done_sits : (g : ParticipantValue) (a : Played) (roles : List Role) (tiers : ℕ) (s : Stage) → g.stage ≡ s → is_done a ≡ true
    → SitsAt (next_stage s (length g.children)) roles tiers g.token g.home g.children g.synced → Sits roles tiers (answered g a)
done_sits g a roles tiers s at e is =
    subst (λ (x : ParticipantValue). Sits roles tiers x)
    (sym (done_answer g a e ∙ ap (λ (t : Stage). record g { stage = next_stage t (length g.children) }) at)) is

kept_sits : (g : ParticipantValue) (a : Played) (roles : List Role) (tiers : ℕ) (s : Stage) → g.stage ≡ s → goes_same a
    → SitsAt s roles tiers g.token g.home g.children g.synced → Sits roles tiers (answered g a)
kept_sits g a roles tiers s at e is =
    subst (λ (x : ParticipantValue). Sits roles tiers x) (sym (kept_answer g a e))
    (subst (λ (t : Stage). SitsAt t roles tiers g.token g.home g.children g.synced) (sym at) is)

-- the roles of its spawned tasks' tokens: of these some have joined, and the rest not yet
abbrev pub AreChildren : (ℕ → Role) → (ℕ → Role) → List Role → List ChildValue → ℕ → Type 0
AreChildren front back roles children n =
    (k : ℕ) → k < length children → (k < n → role_at roles (child_at children k).token ≡ front (child_at children k).home)
    × (n ≤ k → role_at roles (child_at children k).token ≡ back (child_at children k).home)

abbrev pub gone : ℕ → Role
gone home = Past home Arrival

abbrev pub none : ℕ → Role
none home = Out

module _ (roles : List Role) (tiers token home : ℕ) (children : List ChildValue) (synced : Bool)
    (homes : (k : ℕ) → k < length children → (child_at children k).home < tiers) (own : role_at roles token ≡ Here home) where
  pub arriving_sits : (n : ℕ) → n ≤ length children → AreChildren gone Ready roles children n
      → SitsAt (arriving n (length children)) roles tiers token home children synced
  arriving_sits n l each = by (nat_lt n (length children)) refl
    where
      by : (b : Bool) → nat_lt n (length children) ≡ b → SitsAt (if b then Arriving n else Leaving) roles tiers token home children synced
      by true e = record {
        own = own;
        each = λ k h. ((each k h).0, λ q. inl ((each k h).1 (omega arith)), λ q. (each k h).1 (omega arith));
        turn = ltb-true n (length children) e;
        homes = homes;
      }
      by false e =
          let m : length children ≤ n = ltb-false n (length children) e in
          record { own = inl own; each = λ k h. (each k h).0 (omega arith); turn = tt; homes = homes }

  pub joining_sits : (n : ℕ) → n ≤ length children → AreChildren Ready none roles children n
      → SitsAt (joining n (length children)) roles tiers token home children synced
  joining_sits n l each = by (nat_lt n (length children)) refl
    where
      by : (b : Bool) → nat_lt n (length children) ≡ b
          → SitsAt (if b then Joining n else arriving 0 (length children)) roles tiers token home children synced
      by true e = record {
        own = own;
        each = λ k h. ((each k h).0, λ q. inl ((each k h).1 (omega arith)), λ q. (each k h).1 (omega arith));
        turn = ltb-true n (length children) e;
        homes = homes;
      }
      by false e =
          let m : length children ≤ n = ltb-false n (length children) e in
          arriving_sits 0 (omega arith) (λ k h. (λ q. absurd (omega arith), λ q. (each k h).0 (omega arith)))

-- the step of its token
module _ (g : ParticipantValue) (roles roles' : List Role) (tiers : ℕ) (next : Role) (a : Played)
    (own : role_at roles' g.token ≡ next)
    (same : (k : ℕ) → k < length g.children
    → role_at roles' (child_at g.children k).token ≡ role_at roles (child_at g.children k).token) where
  pub after_poll : g.stage ≡ Polling → SitsAt Polling roles tiers g.token g.home g.children g.synced
      → (goes_same a × (next ≡ Polls g.home)) ⊎ ((is_done a ≡ true) × (next ≡ Here g.home)) → Sits roles' tiers (answered g a)
  after_poll at is f = ⊎_elim
      (λ q. kept_sits g a roles' tiers Polling at q.0
      (record { own = inr (own ∙ q.1); each = λ k h. same k h ∙ is.each k h; turn = tt; homes = is.homes }))
      (λ q. done_sits g a roles' tiers Polling at q.0
      (joining_sits roles' tiers g.token g.home g.children g.synced is.homes (own ∙ q.1) 0 (omega arith)
      (λ k h. (λ l. absurd (omega arith), λ l. same k h ∙ is.each k h))))
      f

  pub after_pass : g.stage ≡ Leaving → SitsAt Leaving roles tiers g.token g.home g.children g.synced
      → PassEnds g.home (passage_if g.synced) a next
      → Sits roles' tiers (answered g a)
  after_pass at is f = ⊎_elim
      (λ q. done_sits g a roles' tiers Leaving at q.0
      (record { own = own ∙ q.1; each = λ k h. same k h ∙ is.each k h; turn = tt; homes = is.homes }))
      (λ q. kept_sits g a roles' tiers Leaving at q.0 (record {
        own =
            ⊎_elim
            (λ p. ⊎_elim (λ e. inr (inl (own ∙ e))) (λ p. ⊎_elim (λ e. inr (inr (inl (own ∙ e)))) (λ e. inr (inr (inr (inl (own ∙ e))))) p) p)
            (λ e. inr (inr (inr (inr (own ∙ e))))) q.1;
        each = λ k h. same k h ∙ is.each k h;
        turn = tt;
        homes = is.homes;
      }))
      f

-- a step of the token of a spawned task
module _ (g : ParticipantValue) (roles roles' : List Role) (tiers n : ℕ) (next : Role) (a : Played)
    (own : role_at roles' g.token ≡ role_at roles g.token) (here : role_at roles' (child_at g.children n).token ≡ next)
    (same : (k : ℕ) → k < length g.children → k ≢ n
    → role_at roles' (child_at g.children k).token ≡ role_at roles (child_at g.children k).token) where
  -- at this place, or at another
  place : (P : Role → ℕ → Type 0) (k : ℕ) → k < length g.children → (k ≡ n → P next (child_at g.children n).home)
      → (k ≢ n → P (role_at roles (child_at g.children k).token) (child_at g.children k).home)
      → P (role_at roles' (child_at g.children k).token) (child_at g.children k).home
  place P k h at other = ⊎_elim
      (λ (e : k ≡ n). subst (λ (m : ℕ). P (role_at roles' (child_at g.children m).token) (child_at g.children m).home) (sym e)
      (subst (λ (r : Role). P r (child_at g.children n).home) (sym here) (at e)))
      (λ (o : k ≢ n). subst (λ (r : Role). P r (child_at g.children k).home) (sym (same k h o)) (other o))
      (cases_eq k n)

  joined : SitsAt (Joining n) roles tiers g.token g.home g.children g.synced → next ≡ Ready (child_at g.children n).home
      → SitsAt (joining (suc n) (length g.children)) roles' tiers g.token g.home g.children g.synced
  joined is e =
      let turn = is.turn in
      joining_sits roles' tiers g.token g.home g.children g.synced is.homes (own ∙ is.own) (suc n) (omega arith)
      (λ k h. (
        λ l. place (λ r home. r ≡ Ready home) k h (λ q. e) (λ o. (is.each k h).0 (omega arith)),
        λ l. place (λ r home. r ≡ Out) k h (λ q. absurd (omega arith)) (λ o. (is.each k h).2 (omega arith)),
      ))

  arrived : SitsAt (Arriving n) roles tiers g.token g.home g.children g.synced → next ≡ Past (child_at g.children n).home Arrival
      → SitsAt (arriving (suc n) (length g.children)) roles' tiers g.token g.home g.children g.synced
  arrived is e =
      let turn = is.turn in
      arriving_sits roles' tiers g.token g.home g.children g.synced is.homes (own ∙ is.own) (suc n) (omega arith)
      (λ k h. (
        λ l. place (λ r home. r ≡ Past home Arrival) k h (λ q. e) (λ o. (is.each k h).0 (omega arith)),
        λ l. place (λ r home. r ≡ Ready home) k h (λ q. absurd (omega arith)) (λ o. (is.each k h).2 (omega arith)),
      ))

  still_joins : SitsAt (Joining n) roles tiers g.token g.home g.children g.synced → ComesTo g.home (child_at g.children n).home next
      → SitsAt (Joining n) roles' tiers g.token g.home g.children g.synced
  still_joins is e = record {
    own = own ∙ is.own;
    each = λ k h. (
      λ l. place (λ r home. r ≡ Ready home) k h (λ q. absurd (omega arith)) (λ o. (is.each k h).0 l),
      λ l. place (λ r home. ComesTo g.home home r) k h (λ q. e) (λ o. absurd (o l)),
      λ l. place (λ r home. r ≡ Out) k h (λ q. absurd (omega arith)) (λ o. (is.each k h).2 l),
    );
    turn = is.turn;
    homes = is.homes;
  }

  still_arrives : SitsAt (Arriving n) roles tiers g.token g.home g.children g.synced → ArrivesAt (child_at g.children n).home next
      → SitsAt (Arriving n) roles' tiers g.token g.home g.children g.synced
  still_arrives is e = record {
    own = own ∙ is.own;
    each = λ k h. (
      λ l. place (λ r home. r ≡ Past home Arrival) k h (λ q. absurd (omega arith)) (λ o. (is.each k h).0 l),
      λ l. place (λ r home. ArrivesAt home r) k h (λ q. e) (λ o. absurd (o l)),
      λ l. place (λ r home. r ≡ Ready home) k h (λ q. absurd (omega arith)) (λ o. (is.each k h).2 l),
    );
    turn = is.turn;
    homes = is.homes;
  }

  -- refused, it is to join at the tier of its spawner
  goes_home : g.stage ≡ Joining n → SitsAt (Joining n) roles tiers g.token g.home g.children g.synced → next ≡ Out → g.home < tiers
      → Sits roles' tiers (sent_home g (Joining n))
  goes_home at is e tier =
      let sent : ChildValue = record (child_at g.children n) { home = g.home } in
      let children' : List ChildValue = set g.children n (record (child_at g.children n) { home = g.home }) in
      let len : length children' ≡ length g.children = length-set g.children n (record (child_at g.children n) { home = g.home }) in
      let turn : n < length g.children = is.turn in
      let here' : child_at children' n ≡ sent =
      get_or-set_same g.children n (record (child_at g.children n) { home = g.home }) no_child turn in
      let there : (k : ℕ) → k ≢ n → child_at children' k ≡ child_at g.children k =
      λ k o. get_or-set_other g.children n k (record (child_at g.children n) { home = g.home }) no_child o in
      subst (λ (s : Stage). SitsAt s roles' tiers g.token g.home children' g.synced) (sym at) (record {
        own = own ∙ is.own;
        each = λ k h. (
          λ l. subst (λ (x : ChildValue). role_at roles' x.token ≡ Ready x.home) (sym (there k (λ q. absurd (omega arith))))
              (same k (omega arith) (λ q. absurd (omega arith)) ∙ (is.each k (omega arith)).0 l),
          λ l. subst (λ (m : ℕ). ComesTo g.home (child_at children' m).home (role_at roles' (child_at children' m).token)) (sym l)
              (subst (λ (x : ChildValue). ComesTo g.home x.home (role_at roles' x.token)) (sym here') (inl (here ∙ e))),
          λ l. subst (λ (x : ChildValue). role_at roles' x.token ≡ Out) (sym (there k (λ q. absurd (omega arith))))
              (same k (omega arith) (λ q. absurd (omega arith)) ∙ (is.each k (omega arith)).2 l),
        );
        turn = subst (λ (m : ℕ). n < m) (sym len) turn;
        homes = λ k h. ⊎_elim
            (λ (q : k ≡ n). subst (λ (m : ℕ). (child_at children' m).home < tiers) (sym q) (subst (λ (x : ChildValue). x.home < tiers) (sym here') tier))
            (λ (o : k ≢ n). subst (λ (x : ChildValue). x.home < tiers) (sym (there k o)) (is.homes k (omega arith)))
            (cases_eq k n);
      })

  pub after_join : g.stage ≡ Joining n → SitsAt (Joining n) roles tiers g.token g.home g.children g.synced → g.home < tiers
      → JoinEnds g.home (child_at g.children n).home a next → Sits roles' tiers (answered g a)
  after_join at is tier f = ⊎_elim
      (λ q. done_sits g a roles' tiers (Joining n) at q.0 (joined is q.1))
      (λ q. ⊎_elim
      (λ q. subst (λ (x : ParticipantValue). Sits roles' tiers x) (sym (refused_answer g a q.0 ∙ ap (sent_home g) at)) (goes_home at is q.2 tier))
      (λ q. kept_sits g a roles' tiers (Joining n) at (ap is_done q.0, ap is_refused q.0) (still_joins is q.1))
      q) f

  pub after_arrival : g.stage ≡ Arriving n → SitsAt (Arriving n) roles tiers g.token g.home g.children g.synced
      → ((is_done a ≡ true) × (next ≡ Past (child_at g.children n).home Arrival))
      ⊎ (goes_same a × ArrivesAt (child_at g.children n).home next)
      → Sits roles' tiers (answered g a)
  after_arrival at is f = ⊎_elim
      (λ q. done_sits g a roles' tiers (Arriving n) at q.0 (arrived is q.1))
      (λ q. kept_sits g a roles' tiers (Arriving n) at q.0 (still_arrives is q.1))
      f
