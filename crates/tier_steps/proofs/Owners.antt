-- What of an image doesn't depend on whose the members are.
use Rattle.std.proofs.Common.{◌≡◌, ℕ, suc, ◌+◌, ◌-◌, ◌*◌, Bool, true, false, cond, eqb, List, [], ◌∷◌, ◌++◌, refl, sym, ◌∙◌, ap, arith, Some, None}
use Rattle.std.specs.Prelude.{Option, count_by, sum_by, replicate, not, ◌&&◌}
use Rattle.std.proofs.lemmas.Bool.{ne_eqb}
use Rattle.std.proofs.lemmas.List.Sums.{sum_by-append, sum_by-cons}
use Rattle.flat_phaser.specs.declared.Member.{Member}
use Rattle.flat_phaser.specs.Flat.{has_arrived, everyone_arrived}
use Rattle.flat_phaser.proofs.Counts.{count_cons, count_append, count_replicate}
use Rattle.tier_steps.specs.Word.{Fields}
use Rattle.tier_steps.specs.View.{View, new_view}
use Rattle.tier_steps.specs.Tally.{word_at}
use Rattle.tier_steps.specs.Image.{token_members, all_members, is_climbing, some_climbing, image}
use Rattle.tier_steps.specs.Known.{seated_views}
use Rattle.tier_steps.specs.Seats.{IsSameButOwners, JoinedSeatsLookTheSame, NewSeatsLookTheSame}
use Rattle.tier_steps.proofs.Balance.{sum_around}
use Rattle.tier_steps.proofs.Seats.{seats_around}
use Rattle.tier_steps.proofs.Joined.{joined_sum, seats_append}

-- how many members of a token have a mark that passes a test
abbrev pub marked_share : (Option ℕ → Bool) → View → ℕ
marked_share test v = v.arrived * cond {A = ℕ} (test (Some v.phase)) 1 0 + (v.size - v.arrived) * cond {A = ℕ} (test None) 1 0

marks_sum : (test : Option ℕ → Bool) (owner : ℕ) (views : List View)
    → count_by (λ m. test m.mark) (all_members owner views) ≡ sum_by (marked_share test) views
marks_sum test owner [] = refl
marks_sum test owner (v ∷ views) =
    let a = count_append (λ (m : Member). test m.mark) (token_members owner v) (all_members (suc owner) views) in
    let b = count_append (λ (m : Member). test m.mark) (replicate v.arrived (record { owner = owner; mark = Some v.phase }))
    (replicate (v.size - v.arrived) (record { owner = owner; mark = None })) in
    let c = count_replicate (λ (m : Member). test m.mark) v.arrived (record { owner = owner; mark = Some v.phase }) in
    let d = count_replicate (λ (m : Member). test m.mark) (v.size - v.arrived) (record { owner = owner; mark = None }) in
    let e = marks_sum test (suc owner) views in
    let f = sum_by-cons (marked_share test) v views in
    omega arith

-- everyone has arrived if nobody is counted who hasn't
pub all_by_count : (phase : ℕ) (members : List Member)
    → everyone_arrived phase members ≡ eqb (count_by (λ m. not (has_arrived phase m)) members) 0
all_by_count phase [] = refl
all_by_count phase (m ∷ members) =
    let a = count_cons (λ x. not (has_arrived phase x)) m members in
    ap (λ b. has_arrived phase m && b) (all_by_count phase members)
    ∙ (none_more (has_arrived phase m) (count_by (λ x. not (has_arrived phase x)) members) ∙ sym (ap (λ n. eqb n 0) a))
  where
    none_more : (b : Bool) (n : ℕ) → (b && eqb n 0) ≡ eqb (cond {A = ℕ} (not b) 1 0 + n) 0
    none_more true n = ap (λ k. eqb k 0) (omega arith)
    none_more false n = sym (ne_eqb (1 + n) 0 (omega arith))

abbrev pub climb_share : View → ℕ
climb_share v = cond {A = ℕ} (is_climbing v.errand) 1 0

climbs_by_count : (views : List View) → some_climbing views ≡ not (eqb (sum_by climb_share views) 0)
climbs_by_count [] = refl
climbs_by_count (v ∷ views) =
    let a = sum_by-cons climb_share v views in
    ap (λ b. cond (is_climbing v.errand) true b) (climbs_by_count views)
    ∙ (one_more (is_climbing v.errand) (sum_by climb_share views) ∙ sym (ap (λ n. not (eqb n 0)) a))
  where
    one_more : (b : Bool) (n : ℕ) → cond b true (not (eqb n 0)) ≡ not (eqb (cond {A = ℕ} b 1 0 + n) 0)
    one_more true n = sym (ap not (ne_eqb (1 + n) 0 (omega arith)))
    one_more false n = ap (λ k. not (eqb k 0)) (omega arith)

-- views whose sums agree give images that differ in owners alone
pub same_but_owners : (words : List Fields) (xs ys : List View)
    → ((test : Option ℕ → Bool) → sum_by (marked_share test) xs ≡ sum_by (marked_share test) ys)
    → sum_by climb_share xs ≡ sum_by climb_share ys
    → IsSameButOwners (image words xs) (image words ys)
same_but_owners words xs ys marks climbs =
    let same : (test : Option ℕ → Bool) → count_by (λ m. test m.mark) (all_members 0 xs) ≡ count_by (λ m. test m.mark) (all_members 0 ys) =
    λ test. marks_sum test 0 xs ∙ (marks test ∙ sym (marks_sum test 0 ys)) in
    let phase : ℕ = (word_at words 0).phase in
    let everyone : everyone_arrived (word_at words 0).phase (all_members 0 xs)
    ≡ everyone_arrived (word_at words 0).phase (all_members 0 ys) =
    all_by_count (word_at words 0).phase (all_members 0 xs)
    ∙ (ap (λ n. eqb n 0) (same (λ mark. not (has_arrived (word_at words 0).phase (record { owner = 0; mark = mark }))))
    ∙ sym (all_by_count (word_at words 0).phase (all_members 0 ys))) in
    let moving : some_climbing xs ≡ some_climbing ys =
    climbs_by_count xs ∙ (ap (λ n. not (eqb n 0)) climbs ∙ sym (climbs_by_count ys)) in
    record {
      phase = refl;
      ended = refl;
      due = ap (λ b. cond (word_at words 0).ended false (b && some_climbing xs)) everyone
          ∙ ap (λ b. cond (word_at words 0).ended false (everyone_arrived (word_at words 0).phase (all_members 0 ys) && b)) moving;
      marks = same;
    }

pub joined_seats_look_the_same : JoinedSeatsLookTheSame
joined_seats_look_the_same words front x middle y back =
    same_but_owners words (seated_views (front ++ x ∷ (middle ++ y ∷ back))) (seated_views (front ++ (x ++ y) ∷ (middle ++ [] ∷ back)))
    (λ test. sym (joined_sum (marked_share test) front x middle y back)) (sym (joined_sum climb_share front x middle y back))

new_sum : (f : View → ℕ) (front back : List (List View)) (p : ℕ) → f (new_view p) ≡ 0
    → sum_by f (seated_views (front ++ back)) ≡ sum_by f (seated_views (front ++ (new_view p ∷ []) ∷ back))
new_sum f front back p none =
    let a : sum_by f (seated_views (front ++ back)) ≡ sum_by f (seated_views front ++ seated_views back) =
    ap (sum_by f) (seats_append front back) in
    let b : sum_by f (seated_views (front ++ (new_view p ∷ []) ∷ back)) ≡ sum_by f (seated_views front ++ new_view p ∷ seated_views back) =
    ap (sum_by f) (seats_around front back (new_view p)) in
    let c = sum_by-append f (seated_views front) (seated_views back) in
    let d = sum_around f (seated_views front) (seated_views back) (new_view p) in
    omega arith

pub no_share : (a b : ℕ) → 0 * a + 0 * b ≡ 0
no_share a b = omega arith

pub new_seats_look_the_same : NewSeatsLookTheSame
new_seats_look_the_same words front back p =
    same_but_owners words (seated_views (front ++ back)) (seated_views (front ++ (new_view p ∷ []) ∷ back))
    (λ test. new_sum (marked_share test) front back p (no_share (cond {A = ℕ} (test (Some p)) 1 0) (cond {A = ℕ} (test None) 1 0)))
    (new_sum climb_share front back p refl)
