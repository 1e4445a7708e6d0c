-- A new tree keeps the core, and so does a token that comes in.
use Rattle.std.proofs.Common.{◌≡◌, ℕ, zero, suc, ◌+◌, ◌<◌, ◌≤◌, ⊎_elim, List, [], ◌∷◌, ◌++◌, length, get_or, refl, sym, ◌∙◌, ap, subst, arith}
use Rattle.std.proofs.lemmas.Bool.{cases_lt}
use Rattle.std.proofs.lemmas.List.{length-append}
use Rattle.advance_rule.specs.declared.EndPlan.{EndPlan}
use Rattle.tier_steps.specs.declared.view.View.{View}
use Rattle.tier_steps.specs.View.{new_view}
use Rattle.tier_steps.specs.Tally.{word_at, Tallies}
use Rattle.tier_shape.specs.Parents.{IsShape}
use Rattle.tier_core.specs.Turn.{Progress, Idle}
use Rattle.tier_core.specs.Machine.{State, IsCore, CallFits, view_at, call_at, opened, with_token}
use Rattle.tier_steps.proofs.Start.{nobody_tallies, new_tokens_tally}

pub opened_core : (ps : List ℕ) (phase : ℕ) (plan : EndPlan) → IsShape ps → length ps ≤ 65535 → phase ≤ 2147483647
    → IsCore (opened ps phase plan)
opened_core ps phase plan shape few legal = record {
  shape = shape;
  few = few;
  tally = nobody_tallies ps phase legal shape.some;
  long = refl;
  calls = λ token h. absurd (omega arith);
}

append_none : {X : Type 0} (xs : List X) → xs ++ [] ≡ xs
append_none [] = refl
append_none (x ∷ xs) = ap (λ ys. x ∷ ys) (append_none xs)

-- an entry of a list that has one more at the end
pub entry_before : {X : Type 0} (xs : List X) (y d : X) (i : ℕ) → i < length xs → get_or (xs ++ y ∷ []) i d ≡ get_or xs i d
entry_before [] y d i h = absurd (omega arith)
entry_before (x ∷ xs) y d zero h = refl
entry_before (x ∷ xs) y d (suc i) h = entry_before xs y d i (omega arith)

pub entry_last : {X : Type 0} (xs : List X) (y d : X) (i : ℕ) → i ≡ length xs → get_or (xs ++ y ∷ []) i d ≡ y
entry_last [] y d i h = ap (λ k. get_or (y ∷ []) k d) h
entry_last (x ∷ xs) y d zero h = absurd (omega arith)
entry_last (x ∷ xs) y d (suc i) h = entry_last xs y d i (omega arith)

pub token_core : (s : State) → IsCore s → IsCore (with_token s)
token_core s core =
    let v : View = new_view (word_at s.words 0).phase in
    record {
      shape = core.shape;
      few = core.few;
      tally = new_tokens_tally s.parents s.words s.views [] (word_at s.words 0).phase
          (subst (λ (vs : List View). Tallies s.parents s.words vs) (sym (append_none s.views)) core.tally);
      long =
          length-append s.calls (Idle ∷ [])
          ∙ (ap (λ n. n + 1) core.long ∙ sym (length-append s.views (new_view (word_at s.words 0).phase ∷ [])));
      calls = λ token h. ⊎_elim
          (λ (old : token < length s.views).
          subst (λ (p : Progress). CallFits s.parents p (view_at (s.views ++ new_view (word_at s.words 0).phase ∷ []) token))
          (sym (entry_before s.calls Idle Idle token (let l = core.long in omega arith)))
          (subst (λ (x : View). CallFits s.parents (call_at s.calls token) x)
          (sym (entry_before s.views (new_view (word_at s.words 0).phase) (new_view 0) token old)) (core.calls token old)))
          (λ (last : length s.views ≤ token).
          let n = length-append s.views (new_view (word_at s.words 0).phase ∷ []) in
          let here : token ≡ length s.views = omega arith in
          subst (λ (p : Progress). CallFits s.parents p (view_at (s.views ++ new_view (word_at s.words 0).phase ∷ []) token))
          (sym (entry_last s.calls Idle Idle token (here ∙ sym core.long)))
          (subst (λ (x : View). CallFits s.parents Idle x)
          (sym (entry_last s.views (new_view (word_at s.words 0).phase) (new_view 0) token here)) refl))
          (cases_lt token (length s.views));
    }

-- the same tokens, and those with one more, whatever their places in memory
pub same_core : (s : State) → IsCore s → (views : List View) (calls : List Progress) → views ≡ s.views → calls ≡ s.calls
    → IsCore record { parents = s.parents; words = s.words; views = views; calls = calls; plan = s.plan }
same_core s core views calls same kept =
    subst (λ (vs : List View). IsCore record { parents = s.parents; words = s.words; views = vs; calls = calls; plan = s.plan }) (sym same)
    (subst (λ (ps : List Progress). IsCore record { parents = s.parents; words = s.words; views = s.views; calls = ps; plan = s.plan }) (sym kept) core)

pub added_core : (s : State) (phase : ℕ) (v : View) (views : List View) (before calls : List Progress) → IsCore s
    → phase ≡ (word_at s.words 0).phase → v ≡ new_view phase
    → views ≡ s.views ++ v ∷ [] → before ≡ s.calls → calls ≡ before ++ Idle ∷ []
    → IsCore record { parents = s.parents; words = s.words; views = views; calls = calls; plan = s.plan }
added_core s phase v views before calls core root new more same one =
    same_core (with_token s) (token_core s core) views calls (more ∙ ap (λ (u : View). s.views ++ u ∷ []) (new ∙ ap new_view root))
    (one ∙ ap (λ (ps : List Progress). ps ++ Idle ∷ []) same)
