-- The rest of a call on a tree, step by step.
use Rattle.std.proofs.Common.{◌≡◌, ℕ, suc, ◌+◌, ◌-◌, ◌<◌, ◌≤◌, true, false, cond, List, ◌++◌, refl, sym, ap, ◌∙◌, append_assoc, append-nil, arith}
use Rattle.tier_core.specs.Machine.{State}
use Rattle.tier_core.specs.Run.{answer_to, after}
use Rattle.trace_text.specs.TreeAnswers.{advance_reported, going_on, is_underway, answer_text, rest_text, rest_after}

next_text : (n token : ℕ) (s : State) → rest_text (suc n) token s
    ≡ advance_reported s token
    ++ cond (is_underway (answer_to s (going_on s token))) (rest_text n token (after s (going_on s token)))
    (answer_text (answer_to s (going_on s token)))
unfolding rest_text
next_text n token s = refl

next_after : (n token : ℕ) (s : State) → rest_after (suc n) token s
    ≡ cond (is_underway (answer_to s (going_on s token))) (rest_after n token (after s (going_on s token))) (after s (going_on s token))
unfolding rest_after
next_after n token s = refl

left_one : (i : ℕ) → i < 16 → 16 - i ≡ suc (16 - (i + 1))
left_one i h = omega arith

-- a step that the call goes on from
pub goes_text : (out reported total : List ℕ) (i token : ℕ) (s : State) → i < 16 → reported ≡ out ++ advance_reported s token
    → is_underway (answer_to s (going_on s token)) ≡ true
    → out ++ rest_text (16 - i) token s ≡ total → reported ++ rest_text (16 - (i + 1)) token (after s (going_on s token)) ≡ total
goes_text out reported total i token s h t u e =
    let left : 16 - i ≡ suc (16 - (i + 1)) = left_one i h in
    let later : List ℕ = rest_text (16 - (i + 1)) token (after s (going_on s token)) in
    let now : rest_text (16 - i) token s ≡ advance_reported s token ++ later =
    ap (λ n. rest_text n token s) left ∙ next_text (16 - (i + 1)) token s
    ∙ ap (λ b. advance_reported s token ++ cond b later (answer_text (answer_to s (going_on s token)))) u in
    ap (λ (x : List ℕ). x ++ later) t ∙ append_assoc out (advance_reported s token) later ∙ sym (ap (λ (x : List ℕ). out ++ x) now) ∙ e

pub goes_after : (total : State) (i token : ℕ) (s : State) → i < 16 → is_underway (answer_to s (going_on s token)) ≡ true
    → rest_after (16 - i) token s ≡ total → rest_after (16 - (i + 1)) token (after s (going_on s token)) ≡ total
goes_after total i token s h u e =
    let left : 16 - i ≡ suc (16 - (i + 1)) = left_one i h in
    let later : State = rest_after (16 - (i + 1)) token (after s (going_on s token)) in
    sym (ap (λ n. rest_after n token s) left ∙ next_after (16 - (i + 1)) token s ∙ ap (λ b. cond b later (after s (going_on s token))) u)
    ∙ e

-- the step that it ends with
pub ends_text : (out reported total : List ℕ) (i token : ℕ) (s : State) → i < 16 → reported ≡ out ++ advance_reported s token
    → is_underway (answer_to s (going_on s token)) ≡ false
    → out ++ rest_text (16 - i) token s ≡ total → reported ++ answer_text (answer_to s (going_on s token)) ≡ total
ends_text out reported total i token s h t u e =
    let left : 16 - i ≡ suc (16 - (i + 1)) = left_one i h in
    let last : List ℕ = answer_text (answer_to s (going_on s token)) in
    let now : rest_text (16 - i) token s ≡ advance_reported s token ++ last =
    ap (λ n. rest_text n token s) left ∙ next_text (16 - (i + 1)) token s
    ∙ ap (λ b. advance_reported s token ++ cond b (rest_text (16 - (i + 1)) token (after s (going_on s token))) last) u in
    ap (λ (x : List ℕ). x ++ last) t ∙ append_assoc out (advance_reported s token) last ∙ sym (ap (λ (x : List ℕ). out ++ x) now) ∙ e

pub ends_after : (total : State) (i token : ℕ) (s : State) → i < 16 → is_underway (answer_to s (going_on s token)) ≡ false
    → rest_after (16 - i) token s ≡ total → after s (going_on s token) ≡ total
ends_after total i token s h u e =
    let left : 16 - i ≡ suc (16 - (i + 1)) = left_one i h in
    sym (ap (λ n. rest_after n token s) left ∙ next_after (16 - (i + 1)) token s
    ∙ ap (λ b. cond b (rest_after (16 - (i + 1)) token (after s (going_on s token))) (after s (going_on s token))) u) ∙ e

-- no step is left
pub spent_text : (out total : List ℕ) (i token : ℕ) (s : State) → 16 ≤ i → out ++ rest_text (16 - i) token s ≡ total → out ≡ total
unfolding rest_text
spent_text out total i token s h e =
    let none : 16 - i ≡ 0 = omega arith in
    sym (append-nil out) ∙ sym (ap (λ n. out ++ rest_text n token s) none) ∙ e

pub spent_after : (total : State) (i token : ℕ) (s : State) → 16 ≤ i → rest_after (16 - i) token s ≡ total → s ≡ total
unfolding rest_after
spent_after total i token s h e =
    let none : 16 - i ≡ 0 = omega arith in
    sym (ap (λ n. rest_after n token s) none) ∙ e
