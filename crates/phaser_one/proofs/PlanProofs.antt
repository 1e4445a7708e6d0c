-- What plans say.
use Rattle.std.proofs.Common.{◌≡◌, ◌⊎◌, inl, inr, ℕ, ◌<◌, ◌==◌, nat_lt, ◌&&◌, ◌||◌, Bool, true, false, Option, None, Some, refl, ap, arith}
use Rattle.std.proofs.lemmas.Bool.Decides.{nat_tests}
use Rattle.advance_rule.specs.declared.CountPlan.{CountPlan}
use Rattle.advance_rule.specs.declared.EndPlan.{EndPlan}
use Rattle.advance_rule.specs.Plan.{is_at, count_ends, end_ends, end_ends_at}
use Rattle.phaser_one.specs.Plans.{PlansAreSpelledOut}

named : (at : Option ℕ) (phase : ℕ) → is_at at phase ≡ true → at ≡ Some phase
named None phase is = absurd cc
named (Some at) phase is = let same : at ≡ phase = grind (arith, nat_tests) in ap Some same

itself : (n : ℕ) → (n == n) ≡ true
itself n = grind (arith, nat_tests)

is_named : (at : Option ℕ) (phase : ℕ) → at ≡ Some phase → is_at at phase ≡ true
is_named at phase same = rw same (itself phase)

either_true : (b c : Bool) → (b || c) ≡ true → (b ≡ true) ⊎ (c ≡ true)
either_true true c is = inl refl
either_true false c is = inr is

right_true : (b c : Bool) → c ≡ true → (b || c) ≡ true
right_true true c is = refl
right_true false c is = is

both : (b c : Bool) → (b && c) ≡ true → (b ≡ true) × (c ≡ true)
both true c is = (refl, is)
both false c is = absurd cc

below : (count least : ℕ) → nat_lt count least ≡ true → count < least
below count least is = grind (arith, nat_tests)

is_below : (count least : ℕ) → count < least → nat_lt count least ≡ true
is_below count least less = grind (arith, nat_tests)

nobody : (count : ℕ) → (count == 0) ≡ true → count ≡ 0
nobody count is = grind (arith, nat_tests)

count_ends_why : (plan : CountPlan) (phase count : ℕ) → count_ends plan phase count ≡ true → (count < plan.least) ⊎ (plan.at ≡ Some phase)
count_ends_why plan phase count is =
    elim (either_true (nat_lt count plan.least) (is_at plan.at phase) is) as (λ _. (count < plan.least) ⊎ (plan.at ≡ Some phase)) [
      | inl e ↦ inl (below count plan.least e)
      | inr e ↦ inr (named plan.at phase e)
    ]

count_ends_so : (plan : CountPlan) (phase count : ℕ) → (count < plan.least) ⊎ (plan.at ≡ Some phase) → count_ends plan phase count ≡ true
count_ends_so plan phase count (inl less) = rw (is_below count plan.least less) refl
count_ends_so plan phase count (inr same) = right_true (nat_lt count plan.least) (is_at plan.at phase) (is_named plan.at phase same)

end_ends_why : (plan : EndPlan) (phase : ℕ) (empty : Bool) → end_ends plan phase empty ≡ true
    → ((empty ≡ true) × (plan.when_empty ≡ true)) ⊎ (plan.at ≡ Some phase)
end_ends_why plan phase empty is =
    elim (either_true (empty && plan.when_empty) (is_at plan.at phase) is) as
    (λ _. ((empty ≡ true) × (plan.when_empty ≡ true)) ⊎ (plan.at ≡ Some phase)) [
      | inl e ↦ inl (both empty plan.when_empty e)
      | inr e ↦ inr (named plan.at phase e)
    ]

end_ends_so : (plan : EndPlan) (phase : ℕ) (empty : Bool) → ((empty ≡ true) × (plan.when_empty ≡ true)) ⊎ (plan.at ≡ Some phase)
    → end_ends plan phase empty ≡ true
end_ends_so plan phase empty (inl two) = rw (two.0, two.1) refl
end_ends_so plan phase empty (inr same) = right_true (empty && plan.when_empty) (is_at plan.at phase) (is_named plan.at phase same)

counted_ends_why : (plan : EndPlan) (phase count : ℕ) → end_ends_at plan phase count ≡ true
    → ((count ≡ 0) × (plan.when_empty ≡ true)) ⊎ (plan.at ≡ Some phase)
counted_ends_why plan phase count is =
    elim (end_ends_why plan phase (count == 0) is) as (λ _. ((count ≡ 0) × (plan.when_empty ≡ true)) ⊎ (plan.at ≡ Some phase)) [
      | inl two ↦ inl (nobody count two.0, two.1)
      | inr same ↦ inr same
    ]

counted_so : (plan : EndPlan) (phase count : ℕ) → ((count ≡ 0) × (plan.when_empty ≡ true)) ⊎ (plan.at ≡ Some phase)
    → end_ends_at plan phase count ≡ true
counted_so plan phase count (inl two) = end_ends_so plan phase (count == 0) (inl (ap (λ (n : ℕ). n == 0) two.0, two.1))
counted_so plan phase count (inr same) = end_ends_so plan phase (count == 0) (inr same)

pub plans_are_spelled_out : PlansAreSpelledOut
plans_are_spelled_out = record {
  counts = record {
    ends = λ plan phase count. (count_ends_why plan phase count, count_ends_so plan phase count);
    default = (refl, refl);
    least = (refl, refl, refl);
    at = (refl, refl, refl);
    goes_on = refl;
  };
  trees = record {
    ends = λ plan phase empty. (end_ends_why plan phase empty, end_ends_so plan phase empty);
    counted = λ plan phase count. (counted_ends_why plan phase count, counted_so plan phase count);
    default = (refl, refl);
    stays = (refl, refl);
    at = (refl, refl, refl);
  };
}
