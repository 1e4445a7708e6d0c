-- The test for a leaf says what a leaf is.
use Rattle.std.proofs.Common.{◌≡◌, ℕ, ◌-◌, ◌==◌, ◌||◌, ◌↔◌, not, nat_lt, IsTrue, Bool, true, false, List, length, get_or, refl, arith, inl, inr, subst, sym, ◌∙◌}
use Rattle.std.proofs.lemmas.Bool.{and_parts, and_from, cases_eq, or_cases, or_left, or_right, ltb-true, lt-ltb, eq-eqb, eqb-true, ne_eqb, not-true, not_from_false, both_ways, false_from_ne_true, false≢true}
use Rattle.std.proofs.lemmas.List.{get_or_default}
use Rattle.std.specs.List.{Contains}
use Rattle.tier_shape.specs.Parents.{parent_of, IsShape}
use Rattle.tier_shape.specs.Leaves.{IsLeaf, is_leaf_of, leaves_of, IsLeavesOf, TreesHaveALeaf}
use Rattle.tier_shape.proofs.Kept.{kept, kept_rise, contains_kept, all_pass, each_passes}

pub leaf_passes : (ps : List ℕ) (tier : ℕ) → IsLeaf ps tier → is_leaf_of ps tier ≡ true
leaf_passes ps tier leaf =
    and_from (nat_lt tier (length ps)) _ (lt-ltb tier (length ps) leaf.within)
    (all_pass (λ other. (other == tier) || not (parent_of ps other == tier)) (length ps) 0
    (λ other from below. elim (cases_eq other tier) [
      | inl same ↦ or_left (other == tier) _ (eq-eqb other tier same)
      | inr apart ↦ or_right (other == tier) _
          (not_from_false _ (ne_eqb (parent_of ps other) tier (leaf.childless other (omega arith) apart)))
    ]))

pub passes_leaf : (ps : List ℕ) (tier : ℕ) → is_leaf_of ps tier ≡ true → IsLeaf ps tier
passes_leaf ps tier passes =
    let parts = and_parts (nat_lt tier (length ps)) _ passes in
    record {
      within = ltb-true tier (length ps) parts.0;
      childless = λ other below apart child.
          elim
          (or_cases (other == tier) _ (each_passes (λ other. (other == tier) || not (parent_of ps other == tier)) (length ps) 0 parts.1 other (omega arith) (omega arith))) [
            | inl same ↦ apart (eqb-true other tier same)
            | inr none ↦ both_ways (parent_of ps other == tier) (not-true _ none) (eq-eqb (parent_of ps other) tier child)
          ];
    }

pub test_from_iff : (b : Bool) (ps : List ℕ) (tier : ℕ) → (IsTrue b ↔ IsLeaf ps tier) → b ≡ is_leaf_of ps tier
test_from_iff true ps tier iff = sym (leaf_passes ps tier (iff.0 refl))
test_from_iff false ps tier iff = sym (false_from_ne_true (is_leaf_of ps tier) (λ passes. false≢true (iff.1 (passes_leaf ps tier passes))))

kept_leaf : (ps : List ℕ) (tier : ℕ) → Contains (leaves_of ps) tier → IsLeaf ps tier
kept_leaf ps tier found =
    let passes = (kept (is_leaf_of ps) (length ps) 0 found.0 found.1).passes in
    let here : get_or (leaves_of ps) found.0 0 ≡ tier = get_or_default (leaves_of ps) found.0 0 tier found.1 ∙ found.2 in
    let P : ℕ → Type 0 = λ x. is_leaf_of ps x ≡ true in
    passes_leaf ps tier (subst P here passes)

pub leaves_right : (ps : List ℕ) → IsLeavesOf ps (leaves_of ps)
leaves_right ps = record {
  exact = λ tier. (
    λ found. kept_leaf ps tier found,
    λ leaf. contains_kept (is_leaf_of ps) (length ps) 0 tier (omega arith) (omega (arith, leaf.within)) (leaf_passes ps tier leaf),
  );
  rising = kept_rise (is_leaf_of ps) (length ps) 0;
}

-- no tier comes after the last, and a parent comes before
last_leaf : (ps : List ℕ) → IsShape ps → IsLeaf ps (length ps - 1)
last_leaf ps shape = record {
  within = (let some = shape.some in omega arith);
  childless = λ other below apart child. elim (cases_eq other 0) [
    | inl root ↦ absurd (
        let here : parent_of ps other ≡ 0 = subst (λ (t : ℕ). parent_of ps t ≡ 0) (sym root) shape.root in
        apart (root ∙ (sym here ∙ child)))
    | inr up ↦ absurd (let earlier = shape.earlier other (omega arith) below in omega arith)
  ];
}

pub trees_have_a_leaf : TreesHaveALeaf
trees_have_a_leaf ps shape =
    let found = ((leaves_right ps).exact (length ps - 1)).1 (last_leaf ps shape) in
    (last_leaf ps shape, (let within = found.1 in omega arith))
