-- What a step of one token leaves of its task, and of the others.
use Rattle.std.proofs.Common.{◌≡◌, ◌≢◌, ℕ, zero, suc, ◌<◌, ◌≤◌, ⊎_elim, Bool, List, [], ◌∷◌, length, set, get_or, refl, sym, ◌∙◌, ap, subst, arith, Option}
use Rattle.std.specs.Prelude.{sum_by}
use Rattle.std.specs.List.{AllByRecursion}
use Rattle.std.proofs.lemmas.Bool.{cases_eq}
use Rattle.std.proofs.lemmas.List.{get_or-set_same, get_or-set_other, length-set}
use Rattle.std.proofs.lemmas.List.Sums.{sum_by-cons}
use Rattle.tier_core.specs.Machine.{State}
use Rattle.tier_laws.specs.Frame.{flat_of}
use Rattle.job_laws.specs.Roles.{Role, Out}
use Rattle.job_laws.specs.Cast.{role_at, IsCast}
use Rattle.job_schedule.specs.declared.stage.Stage.{Stage}
use Rattle.job_schedule.specs.ParticipantValue.{ChildValue, ParticipantValue, no_participant, participant_at, child_at}
use Rattle.job_schedule.specs.World.{World, with_participant}
use Rattle.job_laws.specs.Working.{OwnFits, ChildFits, SitsAt, Sits, of_participant, AreShared, IsWorking}
use Rattle.job_laws.proofs.Sharing.{one, others_own, others_child, free_not}
use Rattle.job_laws.proofs.Calling.{IsSameTree}

-- the same roles for its tokens
pub sits_stay : (stage : Stage) (roles roles' : List Role) (tiers token home : ℕ) (children : List ChildValue) (synced : Bool)
    → role_at roles' token ≡ role_at roles token
    → ((k : ℕ) → k < length children → role_at roles' (child_at children k).token ≡ role_at roles (child_at children k).token)
    → SitsAt stage roles tiers token home children synced → SitsAt stage roles' tiers token home children synced
sits_stay stage roles roles' tiers token home children synced e each is = record {
  own = subst (λ (r : Role). OwnFits stage home synced r) (sym e) is.own;
  each = λ k h. subst (λ (r : Role). ChildFits stage home k (child_at children k).home r) (sym (each k h)) (is.each k h);
  turn = is.turn;
  homes = is.homes;
}

pub sum_set_same : {X : Type 0} (f : X → ℕ) (xs : List X) (p : ℕ) (y d : X) → f y ≡ f (get_or xs p d) → sum_by f (set xs p y) ≡ sum_by f xs
sum_set_same f [] p y d e = refl
sum_set_same f (x ∷ xs) zero y d e = let a = sum_by-cons f x xs in let b = sum_by-cons f y xs in omega arith
sum_set_same f (x ∷ xs) (suc p) y d e =
    let a = sum_by-cons f x xs in let b = sum_by-cons f x (set xs p y) in let c = sum_set_same f xs p y d e in omega arith

-- The participant at this place is another with the same tokens, and only this token plays another role.
pub record IsNext (w : World) (roles roles' : List Role) (tiers place i : ℕ) (g : ParticipantValue) : Type 0 where
  pub mine : 1 ≤ of_participant (one i) (participant_at w.participants place)
  pub same : (j : ℕ) → j ≢ i → role_at roles' j ≡ role_at roles j
  pub count : (measure : ℕ → ℕ) → of_participant measure g ≡ of_participant measure (participant_at w.participants place)
  pub sits : Sits roles' tiers g

pub next_sits : (w : World) (roles roles' : List Role) (tiers place i n : ℕ) (g : ParticipantValue) → AreShared w.participants w.free n
    → place < length w.participants
    → ((q : ℕ) → q < length w.participants → Sits roles tiers (participant_at w.participants q)) → IsNext w roles roles' tiers place i g
    → (q : ℕ) → q < length (set w.participants place g) → Sits roles' tiers (participant_at (set w.participants place g) q)
next_sits w roles roles' tiers place i n g shared h sits is q l =
    let len : length (set w.participants place g) ≡ length w.participants = length-set w.participants place g in
    let m : q < length w.participants = omega arith in
    ⊎_elim
    (λ (e : q ≡ place).
    subst (λ (x : ParticipantValue). Sits roles' tiers x)
    (sym (ap (participant_at (set w.participants place g)) e ∙ get_or-set_same w.participants place g no_participant h)) is.sits)
    (λ (o : q ≢ place).
    let x : ParticipantValue = participant_at w.participants q in
    subst (λ (y : ParticipantValue). Sits roles' tiers y) (sym (get_or-set_other w.participants place q g no_participant o))
    (sits_stay x.stage roles roles' tiers x.token x.home x.children x.synced
    (is.same x.token (others_own w.participants w.free n shared place q i h m o is.mine))
    (λ k d. is.same (child_at x.children k).token (others_child w.participants w.free n shared place q i k h m o is.mine d))
    (sits q m)))
    (cases_eq q place)

pub next_shared : (w : World) (roles roles' : List Role) (tiers place i n : ℕ) (g : ParticipantValue) → AreShared w.participants w.free n
    → IsNext w roles roles' tiers place i g → AreShared (set w.participants place g) w.free n
next_shared w roles roles' tiers place i n g shared is = λ measure.
    let a = sum_set_same (of_participant measure) w.participants place g no_participant (is.count measure) in
    let b = shared measure in
    omega arith

pub next_free : (w : World) (roles roles' : List Role) (tiers place i n : ℕ) (g : ParticipantValue) → AreShared w.participants w.free n
    → place < length w.participants
    → AllByRecursion (λ t. role_at roles t ≡ Out) w.free → IsNext w roles roles' tiers place i g
    → AllByRecursion (λ t. role_at roles' t ≡ Out) w.free
next_free w roles roles' tiers place i n g shared h free is = each w.free free (free_not w.participants w.free n shared place i h is.mine)
  where
    each : (ts : List ℕ) → AllByRecursion (λ t. role_at roles t ≡ Out) ts → AllByRecursion (λ t. t ≢ i) ts
        → AllByRecursion (λ t. role_at roles' t ≡ Out) ts
    each [] a b = tt
    each (t ∷ ts) a b = (is.same t b.0 ∙ a.0, each ts a.1 b.1)

pub turn_works : (parents : List ℕ) (w : World) (roles roles' : List Role) (place i taken : ℕ) (g : ParticipantValue) (tree : State)
    (hands : List (Option ℕ))
    → IsWorking parents w roles → place < length w.participants → ((q : ℕ) → taken ≤ q → (q ≢ place) × (w.taken ≤ q))
    → IsNext w roles roles' (length parents) place i g → IsCast tree roles' → (flat_of tree).phase ≡ (flat_of w.tree).phase
    → IsSameTree w.tree tree
    → IsWorking parents (record (with_participant w place g) { tree = tree; hands = hands; taken = taken }) roles'
turn_works parents w roles roles' place i taken g tree hands is h rest next cast phase same =
    let len : length (set w.participants place g) ≡ length w.participants = length-set w.participants place g in
    let n : ℕ = length w.tree.views in
    record {
      built = record { shape = same.parents ∙ is.built.shape; plan = same.plan ∙ is.built.plan; leaves = is.built.leaves };
      cast = cast;
      phase = phase ∙ is.phase;
      sits = next_sits w roles roles' (length parents) place i n g is.shared h is.sits next;
      shared = subst (λ (m : ℕ). AreShared (set w.participants place g) w.free m) (sym same.tokens)
          (next_shared w roles roles' (length parents) place i n g is.shared next);
      free = next_free w roles roles' (length parents) place i n g is.shared h is.free next;
      waits = λ q a b.
          let k : q < length w.participants = omega arith in
          ap (λ (x : ParticipantValue). x.stage) (get_or-set_other w.participants place q g no_participant (rest q a).0)
          ∙ is.waits q (rest q a).1 k;
    }
