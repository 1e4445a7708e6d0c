-- What a text of widths means, as a function and as a statement.
use Rattle.std.proofs.Common.{◌≡◌, ◌≢◌, ℕ, zero, suc, ◌+◌, ◌<◌, ◌≤◌, ◌==◌, Bool, true, false, nat_lt, cond, List, [], ◌∷◌, length, map, All, find, codes, Option, Some, None, Result, Ok, Err, MatchResult, IfOk, IfErr, ◌↔◌, append-nil, refl, sym, ap, ◌∙◌, subst, arith, inl, inr}
use Rattle.std.proofs.lemmas.Bool.{cases_Bool, and_from, and_parts, cond-true, cond-false, eq-eqb, eqb-true, both_ways, false_from_ne_true, lt-ltb, le-ltb}
use Rattle.std.proofs.lemmas.Fmt.{decimal_injective}
use Rattle.std.specs.Fmt.{decimal}
use Rattle.std.specs.List.{range_with_len}
use Rattle.tier_shape.specs.declared.ShapeFault.{ShapeFault}
use Rattle.tier_shape.specs.declared.ShapeFault.TheVariants.{NoTier, TooManyTiers, ParentNotEarlier, TooDeep, BadText, Memory}
use Rattle.tier_shape.specs.Faults.{IsRefusedText, fault_number}
use Rattle.tier_shape.specs.Widths.{IsWidth, IsWidthsText, IsBadText, IsTreeText, tiers_of, tree_of}
use Rattle.tier_shape.specs.Paths.{IsTiers}
use Rattle.tier_shape.specs.InText.{same_text, width_in_text, put_before, pieces_in_text, widths_in_text, tree_in_text, shape_in_text}
use Rattle.tier_shape.proofs.Joined.{pieces, all_head, all_tail, pieces_joined, not_flat, reads_flat, says_widths}

same_true : (xs ys : List ℕ) → xs ≡ ys → same_text xs ys ≡ true
same_true [] [] e = refl
same_true [] (y ∷ ys) e = cc
same_true (x ∷ xs) [] e = cc
same_true (x ∷ xs) (y ∷ ys) e =
    let h : x ≡ y = cc in
    let t : xs ≡ ys = cc in
    and_from (x == y) (same_text xs ys) (eq-eqb x y h) (same_true xs ys t)

true_same : (xs ys : List ℕ) → same_text xs ys ≡ true → xs ≡ ys
true_same [] [] e = refl
true_same [] (y ∷ ys) e = cc
true_same (x ∷ xs) [] e = cc
true_same (x ∷ xs) (y ∷ ys) e =
    let parts = and_parts (x == y) (same_text xs ys) e in
    let h = eqb-true x y parts.0 in
    let t = true_same xs ys parts.1 in
    cc

-- what is found in a row of numbers
found_is : (p : ℕ → Bool) (n a w : ℕ) → a ≤ w → w < a + n → p w ≡ true → ((v : ℕ) → p v ≡ true → a ≤ v → v < a + n → v ≡ w)
    → find p (range_with_len a n) ≡ Some w
found_is p zero a w low high here one = absurd (omega arith)
found_is p (suc n) a w low high here one = elim (cases_Bool (p a)) [
  | inl passes ↦
      let same : a ≡ w = one a passes (omega arith) (omega arith) in
      cond-true (p a) (Some a) (find p (range_with_len (a + 1) n)) passes ∙ ap (λ v. Some v) same
  | inr fails ↦
      let other : a ≢ w = λ same. both_ways (p a) fails (ap p same ∙ here) in
      cond-false (p a) (Some a) (find p (range_with_len (a + 1) n)) fails
      ∙ found_is p n (a + 1) w (omega arith) (omega arith) here (λ v passes above below. one v passes (omega arith) (omega arith))
]

is_found : (p : ℕ → Bool) (n a w : ℕ) → find p (range_with_len a n) ≡ Some w → (p w ≡ true) × (a ≤ w) × (w < a + n)
is_found p zero a w e = cc
is_found p (suc n) a w e = elim (cases_Bool (p a)) [
  | inl passes ↦
      let first = cond-true (p a) (Some a) (find p (range_with_len (a + 1) n)) passes in
      let same : a ≡ w = cc in
      let here : p w ≡ true = ap p (sym same) ∙ passes in
      (here, omega arith, omega arith)
  | inr fails ↦
      let rest : find p (range_with_len (a + 1) n) ≡ Some w =
      sym (cond-false (p a) (Some a) (find p (range_with_len (a + 1) n)) fails) ∙ e in
      let i = is_found p n (a + 1) w rest in
      (i.0, omega (arith, i.1), omega (arith, i.2))
]

width_of_decimal : (w : ℕ) → IsWidth w → width_in_text (decimal w) ≡ Some w
unfolding width_in_text
width_of_decimal w is =
    found_is (λ width. same_text (decimal width) (decimal w)) 64 1 w (omega arith) (omega arith) (same_true (decimal w) (decimal w) refl)
    (λ v passes above below. decimal_injective v w (omega arith) (omega arith) (true_same (decimal v) (decimal w) passes))

width_said : (digits : List ℕ) (w : ℕ) → width_in_text digits ≡ Some w → IsWidth w × (decimal w ≡ digits)
unfolding width_in_text
width_said digits w e =
    let i = is_found (λ width. same_text (decimal width) digits) 64 1 w e in
    ((omega (arith, i.1), omega (arith, i.2)), true_same (decimal w) digits i.0)

pieces_of_decimals : (ws : List ℕ) → All IsWidth ws → pieces_in_text (map decimal ws) ≡ Some ws
pieces_of_decimals [] all = refl
pieces_of_decimals (w ∷ ws) all =
    ap (λ o. put_before o (pieces_in_text (map decimal ws))) (width_of_decimal w (all_head IsWidth w ws all))
    ∙ ap (put_before (Some w)) (pieces_of_decimals ws (all_tail IsWidth w ws all))

all_cons : (P : ℕ → Type 0) (x : ℕ) (xs : List ℕ) → P x → All P xs → All P (x ∷ xs)
all_cons P x xs here all zero d h = here
all_cons P x xs here all (suc k) d h = all k d (omega arith)

put_width : (o : Option ℕ) (os : Option (List ℕ)) (ws : List ℕ) → put_before o os ≡ Some ws
    → (w : ℕ) × (vs : List ℕ) × (o ≡ Some w) × (os ≡ Some vs) × (w ∷ vs ≡ ws)
put_width None os ws e = cc
put_width (Some w) None ws e = cc
put_width (Some w) (Some vs) ws e = let same : w ∷ vs ≡ ws = cc in (w, vs, refl, refl, same)

all_said : (ps : List (List ℕ)) (ws : List ℕ) → pieces_in_text ps ≡ Some ws → All IsWidth ws × (ps ≡ map decimal ws)
all_said [] ws e =
    let same : [] ≡ ws = cc in
    let P : List ℕ → Type 0 = λ vs. All IsWidth vs × ([] ≡ map decimal vs) in
    subst P same ((λ k d h. absurd (omega arith)), refl)
all_said (piece ∷ ps) ws e =
    let put = put_width (width_in_text piece) (pieces_in_text ps) ws e in
    let first = width_said piece put.0 put.2 in
    let rest = all_said ps put.1 put.3 in
    let P : List ℕ → Type 0 = λ vs. All IsWidth vs × (piece ∷ ps ≡ map decimal vs) in
    subst P put.4 (all_cons IsWidth put.0 put.1 first.0 rest.0, ap (λ d. d ∷ ps) (sym first.1) ∙ ap (λ qs. decimal put.0 ∷ qs) rest.1)

-- from the statement to the function
pub said_is_in_text : (text ws : List ℕ) → IsWidthsText text ws → widths_in_text text ≡ Some ws
said_is_in_text text [] says =
    cond-true (same_text text (codes "flat")) (Some []) (pieces_in_text (pieces text)) (same_true text (codes "flat") says.says)
said_is_in_text text (w ∷ ws) says =
    let apart : same_text text (codes "flat") ≡ false =
    false_from_ne_true (same_text text (codes "flat")) (λ t. not_flat w ws says.each (sym (true_same text (codes "flat") t) ∙ says.says)) in
    cond-false (same_text text (codes "flat")) (Some []) (pieces_in_text (pieces text)) apart
    ∙ ap pieces_in_text (ap pieces says.says ∙ pieces_joined w ws says.each) ∙ pieces_of_decimals (w ∷ ws) says.each

-- from the function to the statement
pub in_text_is_said : (text ws : List ℕ) → widths_in_text text ≡ Some ws → IsWidthsText text ws
in_text_is_said text ws e = elim (cases_Bool (same_text text (codes "flat"))) [
  | inl flat ↦
      let none = cond-true (same_text text (codes "flat")) (Some []) (pieces_in_text (pieces text)) flat in
      let same : [] ≡ ws = cc in
      subst (IsWidthsText text) same (reads_flat text (true_same text (codes "flat") flat))
  | inr apart ↦
      let spelled_out : pieces_in_text (pieces text) ≡ Some ws =
      sym (cond-false (same_text text (codes "flat")) (Some []) (pieces_in_text (pieces text)) apart) ∙ e in
      let all = all_said (pieces text) ws spelled_out in
      says_widths text ws all.0 (all.1 ∙ sym (append-nil (map decimal ws)))
]

none_in_text : (text : List ℕ) (spelled_out : Option (List ℕ)) → widths_in_text text ≡ spelled_out → IsBadText text → spelled_out ≡ None
none_in_text text None e bad = refl
none_in_text text (Some ws) e bad = absurd (bad ws (in_text_is_said text ws e))

pub tree_is_in_text : (text parents : List ℕ) → IsTreeText text parents → shape_in_text text ≡ Ok parents
tree_is_in_text text parents says =
    ap tree_in_text (said_is_in_text text says.widths says.says)
    ∙ cond-false (nat_lt 6 (length says.widths)) (Err TooDeep)
    (cond (nat_lt 64 (tiers_of says.widths)) (Err TooManyTiers) (Ok (tree_of says.widths))) (le-ltb 6 (length says.widths) says.near)
    ∙ cond-false (nat_lt 64 (tiers_of says.widths)) (Err TooManyTiers) (Ok (tree_of says.widths))
    (le-ltb 64 (tiers_of says.widths) says.few)
    ∙ ap (λ ps. Ok ps) (sym says.tree)

pub refusal_is_in_text : (text : List ℕ) (fault : ShapeFault) → IsRefusedText text fault → (fault_number fault ≡ None → ⊥)
    → shape_in_text text ≡ Err fault
refusal_is_in_text text NoTier is some = absurd is
refusal_is_in_text text TooManyTiers is some =
    ap tree_in_text (said_is_in_text text is.0 is.1)
    ∙ cond-false (nat_lt 6 (length is.0)) (Err TooDeep) (cond (nat_lt 64 (tiers_of is.0)) (Err TooManyTiers) (Ok (tree_of is.0)))
    (le-ltb 6 (length is.0) is.2)
    ∙ cond-true (nat_lt 64 (tiers_of is.0)) (Err TooManyTiers) (Ok (tree_of is.0)) (lt-ltb 64 (tiers_of is.0) is.3)
refusal_is_in_text text ParentNotEarlier is some = absurd is
refusal_is_in_text text TooDeep is some =
    ap tree_in_text (said_is_in_text text is.0 is.1)
    ∙ cond-true (nat_lt 6 (length is.0)) (Err TooDeep) (cond (nat_lt 64 (tiers_of is.0)) (Err TooManyTiers) (Ok (tree_of is.0)))
    (lt-ltb 6 (length is.0) is.2)
refusal_is_in_text text BadText is some = ap tree_in_text (none_in_text text (widths_in_text text) refl is)
refusal_is_in_text text (Memory e) is some = absurd (some refl)

pub ok_in_text : (text : List ℕ) (r : Result (List ℕ) ShapeFault)
    → MatchResult r (λ shape. IsTreeText text shape × IsTiers shape) (λ fault. IsRefusedText text fault)
    → IfOk r (λ shape. shape_in_text text ≡ Ok shape)
ok_in_text text (Ok shape) h = tree_is_in_text text shape h.0
ok_in_text text (Err fault) h = tt

pub err_in_text : (text : List ℕ) (r : Result (List ℕ) ShapeFault)
    → MatchResult r (λ shape. IsTreeText text shape × IsTiers shape) (λ fault. IsRefusedText text fault)
    → IfErr r (λ fault. (fault_number fault ≡ None → ⊥) → shape_in_text text ≡ Err fault)
err_in_text text (Ok shape) h = tt
err_in_text text (Err fault) h = λ some. refusal_is_in_text text fault h some

pub in_text_right : (text widths : List ℕ) → (widths_in_text text ≡ Some widths) ↔ IsWidthsText text widths
in_text_right text widths = (in_text_is_said text widths, said_is_in_text text widths)
