-- A worker takes a task, and hands in its segment.
use Rattle.std.proofs.Common.{◌≡◌, ◌≢◌, ℕ, zero, suc, ◌+◌, ◌<◌, ◌≤◌, inl, inr, ⊎_elim, Bool, List, [], ◌∷◌, ◌++◌, length, set, get_or, refl, sym, ◌∙◌, ap, subst, arith, Some}
use Rattle.std.specs.Prelude.{sum_by, ◌%◌}
use Rattle.std.specs.List.{AllByRecursion}
use Rattle.std.proofs.lemmas.Bool.{cases_eq, cases_lt}
use Rattle.std.proofs.lemmas.List.{get_or-set_same, get_or-set_other, length-set, length-append}
use Rattle.std.proofs.lemmas.List.Sums.{sum_by-cons, sum_by_push}
use Rattle.tier_core.specs.Machine.{State as Tree, with_token}
use Rattle.tier_core.proofs.Opening.{entry_before, entry_last}
use Rattle.task_lang.specs.Meaning.{Segment}
use Rattle.step_core.specs.OrderValue.{has_synced, spawned_paths}
use Rattle.job_laws.specs.Roles.{Role, Out}
use Rattle.job_laws.specs.Cast.{role_at}
use Rattle.job_laws.proofs.Casting.{new_tokens_are_out}
use Rattle.job_schedule.specs.declared.stage.Stage.{Stage}
use Rattle.job_schedule.specs.declared.stage.Stage.TheVariants.{Waits, Taken, Polling}
use Rattle.job_schedule.specs.declared.stage.Move.TheVariants.{Takes, Delivers}
use Rattle.job_schedule.specs.ParticipantValue.{ChildValue, ParticipantValue, no_participant, no_child, participant_at, child_at}
use Rattle.tier_shape.specs.Preferred.{preferred, number_in, last_number}
use Rattle.job_schedule.specs.Moves.{at_stage}
use Rattle.job_schedule.specs.World.{World, with_child, child_from, with_children, noted, deed_of, done_by}
use Rattle.job_laws.specs.Working.{SitsAt, Sits, of_participant, of_all, IsWorking}
use Rattle.job_laws.proofs.Sharing.{own_in}
use Rattle.job_laws.proofs.Calling.{IsSameTree}
use Rattle.job_laws.proofs.Turning.{turn_works, sits_stay}
use Rattle.job_laws.proofs.Moving.{is_ready, was_taken, Works}

same_tree : (t : Tree) → IsSameTree t t
same_tree t = record { parents = refl; plan = refl; tokens = refl }

pub taking_works : (parents : List ℕ) (w : World) (roles : List Role) (worker : ℕ) → IsWorking parents w roles
    → w.taken < length w.participants
    → IsWorking parents (done_by w worker (Takes w.taken)).1 roles
taking_works parents w roles worker is h =
    let place : ℕ = w.taken in
    let g : ParticipantValue = participant_at w.participants w.taken in
    let at : g.stage ≡ Waits = is.waits w.taken (omega arith) h in
    let sits : SitsAt Waits roles (length parents) g.token g.home g.children g.synced =
    subst (λ (s : Stage). SitsAt s roles (length parents) g.token g.home g.children g.synced) at (is.sits w.taken h) in
    turn_works parents w roles roles w.taken (participant_at w.participants w.taken).token (suc w.taken)
    (at_stage (participant_at w.participants w.taken) Taken) w.tree
    (set w.hands worker (Some w.taken)) is h (λ q l. (λ e. absurd (omega arith), omega arith))
    (record {
      mine = own_in (participant_at w.participants w.taken);
      same = λ j n. refl;
      count = λ measure. refl;
      sits = record { own = sits.own; each = sits.each; turn = tt; homes = sits.homes };
    })
    is.cast refl (same_tree w.tree)

no_children : (ks : List ChildValue) → ((k : ℕ) → k < length ks → ⊥) → ks ≡ []
no_children [] h = refl
no_children (k ∷ ks) h = absurd (h 0 (omega arith))

-- the segment is known: no token yet for what it has spawned
noted_works : (parents : List ℕ) (w : World) (roles : List Role) (place : ℕ) (synced : Bool) → IsWorking parents w roles
    → place < length w.participants
    → (participant_at w.participants place).stage ≡ Taken → IsWorking parents (noted w place synced) roles
noted_works parents w roles place synced is h at =
    let g : ParticipantValue = participant_at w.participants place in
    let sits : SitsAt Taken roles (length parents) g.token g.home g.children g.synced =
    subst (λ (s : Stage). SitsAt s roles (length parents) g.token g.home g.children g.synced) at (is.sits place h) in
    let none : g.children ≡ [] = no_children g.children sits.each in
    let taken = was_taken parents w roles place is h (ap is_ready at) in
    turn_works parents w roles roles place (participant_at w.participants place).token w.taken
    (record (at_stage (participant_at w.participants place) Polling) { synced = synced; children = [] }) w.tree w.hands is h
    (λ q l. (λ e. absurd (omega arith), l))
    (record {
      mine = own_in (participant_at w.participants place);
      same = λ j n. refl;
      count = λ measure. sym (ap (λ (ks : List ChildValue). measure g.token + sum_by (λ (k : ChildValue). measure k.token) ks) none);
      sits = record { own = inl sits.own; each = λ k l. absurd (omega arith); turn = tt; homes = λ k l. absurd (omega arith) };
    })
    is.cast refl (same_tree w.tree)

-- roles with one more token
pub out_last : (roles : List Role) (t : ℕ) → role_at (roles ++ Out ∷ []) t ≡ role_at roles t
out_last [] zero = refl
out_last [] (suc t) = refl
out_last (r ∷ rs) zero = refl
out_last (r ∷ rs) (suc t) = out_last rs t

pub out_behind : (roles : List Role) (t : ℕ) → length roles ≤ t → role_at roles t ≡ Out
out_behind [] t h = refl
out_behind (r ∷ rs) zero h = absurd (omega arith)
out_behind (r ∷ rs) (suc t) h = out_behind rs t (omega arith)

pub leaf_within : (leaves : List ℕ) (i n : ℕ) → AllByRecursion (λ leaf. leaf < n) leaves → 0 < n → get_or leaves i 0 < n
leaf_within [] i n a h = h
leaf_within (l ∷ ls) zero n a h = a.0
leaf_within (l ∷ ls) (suc i) n a h = leaf_within ls i n a.1 h

pub sum_set_more : {X : Type 0} (f : X → ℕ) (xs : List X) (p m : ℕ) (y d : X) → p < length xs → f y ≡ f (get_or xs p d) + m
    → sum_by f (set xs p y) ≡ sum_by f xs + m
sum_set_more f [] p m y d h e = absurd (omega arith)
sum_set_more f (x ∷ xs) zero m y d h e = let a = sum_by-cons f x xs in let b = sum_by-cons f y xs in omega arith
sum_set_more f (x ∷ xs) (suc p) m y d h e =
    let a = sum_by-cons f x xs in let b = sum_by-cons f x (set xs p y) in let c = sum_set_more f xs p m y d (omega arith) e in omega arith

-- One spawned task has its token, which is out.
module _ (parents : List ℕ) (w : World) (roles : List Role) (place : ℕ) (is : IsWorking parents w roles) (h : place < length w.participants)
    (at : (participant_at w.participants place).stage ≡ Polling) where
  some : 0 < length parents
  some = let a = is.cast.core.shape.some in let b : length w.tree.parents ≡ length parents = ap length is.built.shape in omega arith

  mine : SitsAt Polling roles (length parents) (participant_at w.participants place).token (participant_at w.participants place).home
      (participant_at w.participants place).children (participant_at w.participants place).synced
  mine =
      let g : ParticipantValue = participant_at w.participants place in
      subst (λ (s : Stage). SitsAt s roles (length parents) g.token g.home g.children g.synced) at (is.sits place h)

  -- its participant
  child_sits : (roles' : List Role) (path : List ℕ) (token : ℕ) → ((t : ℕ) → role_at roles' t ≡ role_at roles t) → role_at roles token ≡ Out
      → Sits roles' (length parents) (with_child (participant_at w.participants place) w.leaves path token)
  child_sits roles' path token same out =
      let g : ParticipantValue = participant_at w.participants place in
      let child : ChildValue = record { path = path; token = token; home = preferred w.leaves g.home path } in
      let children' : List ChildValue = g.children ++ child ∷ [] in
      let len : length children' ≡ length g.children + 1 = length-append g.children (child ∷ []) in
      subst (λ (s : Stage). SitsAt s roles' (length parents) g.token g.home children' g.synced) (sym at) (record {
        own = ⊎_elim (λ e. inl (same g.token ∙ e)) (λ e. inr (same g.token ∙ e)) mine.own;
        each = λ k l. ⊎_elim
            (λ (q : k < length g.children).
            subst (λ (x : ChildValue). role_at roles' x.token ≡ Out) (sym (entry_before g.children child no_child k q))
            (same (child_at g.children k).token ∙ mine.each k q))
            (λ (q : length g.children ≤ k).
            subst (λ (x : ChildValue). role_at roles' x.token ≡ Out) (sym (entry_last g.children child no_child k (omega arith)))
            (same token ∙ out))
            (cases_lt k (length g.children));
        turn = tt;
        homes = λ k l. ⊎_elim
            (λ (q : k < length g.children).
            subst (λ (x : ChildValue). x.home < length parents) (sym (entry_before g.children child no_child k q)) (mine.homes k q))
            (λ (q : length g.children ≤ k).
            subst (λ (x : ChildValue). x.home < length parents) (sym (entry_last g.children child no_child k (omega arith)))
            (leaf_within w.leaves ((number_in w.leaves g.home + 1 + last_number path) % length w.leaves) (length parents) is.built.leaves some))
            (cases_lt k (length g.children));
      })

  child_count : (path : List ℕ) (token : ℕ) (measure : ℕ → ℕ)
      → of_participant measure (with_child (participant_at w.participants place) w.leaves path token)
      ≡ of_participant measure (participant_at w.participants place) + measure token
  child_count path token measure =
      let g : ParticipantValue = participant_at w.participants place in
      let a =
      sum_by_push (λ (k : ChildValue). measure k.token) g.children
      (record { path = path; token = token; home = preferred w.leaves g.home path }) in
      omega arith

  all_sit : (roles' : List Role) (path : List ℕ) (token : ℕ) → ((t : ℕ) → role_at roles' t ≡ role_at roles t) → role_at roles token ≡ Out
      → (q : ℕ) → q < length (set w.participants place (with_child (participant_at w.participants place) w.leaves path token))
      → Sits roles' (length parents)
      (participant_at (set w.participants place (with_child (participant_at w.participants place) w.leaves path token)) q)
  all_sit roles' path token same out q l =
      let g' : ParticipantValue = with_child (participant_at w.participants place) w.leaves path token in
      let len : length (set w.participants place g') ≡ length w.participants =
      length-set w.participants place (with_child (participant_at w.participants place) w.leaves path token) in
      ⊎_elim
      (λ (e : q ≡ place).
      subst (λ (x : ParticipantValue). Sits roles' (length parents) x)
      (sym (ap (participant_at (set w.participants place (with_child (participant_at w.participants place) w.leaves path token))) e
      ∙ get_or-set_same w.participants place (with_child (participant_at w.participants place) w.leaves path token) no_participant h))
      (child_sits roles' path token same out))
      (λ (o : q ≢ place).
      let x : ParticipantValue = participant_at w.participants q in
      subst (λ (y : ParticipantValue). Sits roles' (length parents) y)
      (sym (get_or-set_other w.participants place q (with_child (participant_at w.participants place) w.leaves path token) no_participant o))
      (sits_stay x.stage roles roles' (length parents) x.token x.home x.children x.synced (same x.token) (λ k d. same (child_at x.children k).token) (is.sits q (omega arith))))
      (cases_eq q place)

  waits_still : (path : List ℕ) (token q : ℕ) → w.taken ≤ q
      → q < length (set w.participants place (with_child (participant_at w.participants place) w.leaves path token))
      → (participant_at (set w.participants place (with_child (participant_at w.participants place) w.leaves path token)) q).stage ≡ Waits
  waits_still path token q a b =
      let len = length-set w.participants place (with_child (participant_at w.participants place) w.leaves path token) in
      let taken = was_taken parents w roles place is h (ap is_ready at) in
      ap (λ (x : ParticipantValue). x.stage)
      (get_or-set_other w.participants place q (with_child (participant_at w.participants place) w.leaves path token) no_participant (λ e. absurd (omega arith)))
      ∙ is.waits q a (omega arith)

  -- a new token, or a free one
  child_works : (path free : List ℕ) → w.free ≡ free → Works parents (child_from w place path free)
  child_works path [] e =
      let n : ℕ = length w.tree.views in
      let many : length (with_token w.tree).views ≡ length w.tree.views + 1 = length-append w.tree.views _ in
      let out : role_at roles (length w.tree.views) ≡ Out = out_behind roles (length w.tree.views) (let a = is.cast.long in omega arith) in (
        roles ++ Out ∷ [],
        record {
          built = record { shape = is.built.shape; plan = is.built.plan; leaves = is.built.leaves };
          cast = new_tokens_are_out w.tree roles is.cast;
          phase = is.phase;
          sits = all_sit (roles ++ Out ∷ []) path (length w.tree.views) (out_last roles) out;
          shared = λ measure.
              let a = is.shared measure in
              let b =
              sum_set_more (of_participant measure) w.participants place (measure n)
              (with_child (participant_at w.participants place) w.leaves path (length w.tree.views)) no_participant h
              (child_count path (length w.tree.views) measure) in
              let one : length w.tree.views + 1 ≡ suc (length w.tree.views) = omega arith in
              let c : of_all (length (with_token w.tree).views) measure ≡ of_all (length w.tree.views) measure + measure n =
              ap (λ (m : ℕ). of_all m measure) (many ∙ one) in
              omega arith;
          free = still w.free is.free;
          waits = waits_still path (length w.tree.views);
        },
      )
    where
      still : (ts : List ℕ) → AllByRecursion (λ t. role_at roles t ≡ Out) ts → AllByRecursion (λ t. role_at (roles ++ Out ∷ []) t ≡ Out) ts
      still [] a = tt
      still (t ∷ ts) a = (out_last roles t ∙ a.0, still ts a.1)
  child_works path (token ∷ free) e =
      let outs : AllByRecursion (λ t. role_at roles t ≡ Out) (token ∷ free) =
      subst (λ (ts : List ℕ). AllByRecursion (λ t. role_at roles t ≡ Out) ts) e is.free in (
        roles,
        record {
          built = record { shape = is.built.shape; plan = is.built.plan; leaves = is.built.leaves };
          cast = is.cast;
          phase = is.phase;
          sits = all_sit roles path token (λ t. refl) outs.0;
          shared = λ measure.
              let a = is.shared measure in
              let b =
              sum_set_more (of_participant measure) w.participants place (measure token)
              (with_child (participant_at w.participants place) w.leaves path token) no_participant h (child_count path token measure) in
              let c : sum_by measure w.free ≡ sum_by measure (token ∷ free) = ap (sum_by measure) e in
              let d = sum_by-cons measure token free in
              omega arith;
          free = outs.1;
          waits = waits_still path token;
        },
      )

  -- the participant stays at its stage
  child_stays : (path free : List ℕ)
      → (place < length (child_from w place path free).participants)
      × ((participant_at (child_from w place path free).participants place).stage ≡ Polling)
  child_stays path [] = set_stays path (length w.tree.views)
    where
      set_stays : (path : List ℕ) (token : ℕ)
          → (place < length (set w.participants place (with_child (participant_at w.participants place) w.leaves path token)))
          × ((participant_at (set w.participants place (with_child (participant_at w.participants place) w.leaves path token)) place).stage
          ≡ Polling)
      set_stays path token = (
        (let len = length-set w.participants place (with_child (participant_at w.participants place) w.leaves path token) in omega arith),
        ap (λ (x : ParticipantValue). x.stage)
            (get_or-set_same w.participants place (with_child (participant_at w.participants place) w.leaves path token) no_participant h)
            ∙ at,
      )
  child_stays path (token ∷ free) = (
    (let len = length-set w.participants place (with_child (participant_at w.participants place) w.leaves path token) in omega arith),
    ap (λ (x : ParticipantValue). x.stage)
        (get_or-set_same w.participants place (with_child (participant_at w.participants place) w.leaves path token) no_participant h)
        ∙ at,
  )

children_work : (parents : List ℕ) (w : World) (place : ℕ) (paths : List (List ℕ)) → Works parents w → place < length w.participants
    → (participant_at w.participants place).stage ≡ Polling
    → Works parents (with_children w place paths)
children_work parents w place [] is h at = is
children_work parents w place (path ∷ paths) is h at =
    let one = child_works parents w is.0 place is.1 h at path w.free refl in
    let stays = child_stays parents w is.0 place is.1 h at path w.free in
    children_work parents (child_from w place path w.free) place paths one stays.0 stays.1

pub delivering_works : (parents : List ℕ) (w : World) (roles : List Role) (worker place : ℕ) → IsWorking parents w roles
    → place < length w.participants
    → (participant_at w.participants place).stage ≡ Taken → Works parents (done_by w worker (Delivers place)).1
delivering_works parents w roles worker place is h at =
    let s : Segment = deed_of w (participant_at w.participants place).path in
    let synced : Bool = has_synced (deed_of w (participant_at w.participants place).path) in
    let g' : ParticipantValue =
    record (at_stage (participant_at w.participants place) Polling) {
      synced =
          has_synced (deed_of w (participant_at w.participants place).path);
      children = [];
    } in
    children_work parents (noted w place (has_synced (deed_of w (participant_at w.participants place).path))) place
    (spawned_paths (deed_of w (participant_at w.participants place).path))
    (roles, noted_works parents w roles place (has_synced (deed_of w (participant_at w.participants place).path)) is h at)
    (let len =
    length-set w.participants place
    (record (at_stage (participant_at w.participants place) Polling) { synced = has_synced (deed_of w (participant_at w.participants place).path); children = [] }) in
    omega arith)
    (ap (λ (x : ParticipantValue). x.stage) (get_or-set_same w.participants place
    (record (at_stage (participant_at w.participants place) Polling) { synced = has_synced (deed_of w (participant_at w.participants place).path); children = [] })
    no_participant h))
