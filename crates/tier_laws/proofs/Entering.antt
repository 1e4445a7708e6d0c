-- A token that comes in leaves all else as it was.
use Rattle.std.proofs.Common.{◌≡◌, ℕ, zero, suc, ◌-◌, ◌<◌, ◌≤◌, ⊎_elim, Bool, true, false, cond, eqb, List, [], ◌∷◌, ◌++◌, length, get_or, refl, sym, ◌∙◌, ap, subst, arith}
use Rattle.std.proofs.lemmas.Bool.{cases_lt}
use Rattle.tier_steps.specs.declared.view.View.{View}
use Rattle.tier_steps.specs.View.{new_view, absent}
use Rattle.tier_steps.specs.Tally.{word_at}
use Rattle.tier_steps.proofs.Start.{new_tokens_are_unseen}
use Rattle.tier_core.specs.declared.call.Progress.TheVariants.{Idle}
use Rattle.tier_core.specs.Machine.{State, IsCore, with_token}
use Rattle.tier_core.proofs.Opening.{token_core}
use Rattle.tier_laws.specs.Frame.{flat_of}
use Rattle.tier_laws.specs.Hold.{IsAwaited}
use Rattle.tier_laws.specs.Tokens.{TokensEnterUnseen}
use Rattle.tier_laws.proofs.Along.{one_more, view_stays, call_stays}

last_one : {X : Type 0} (xs : List X) (y d : X) (i : ℕ) → i ≡ length xs → get_or (xs ++ y ∷ []) i d ≡ y
last_one [] y d i h = ap (λ k. get_or (y ∷ []) k d) h
last_one (x ∷ xs) y d zero h = absurd (omega arith)
last_one (x ∷ xs) y d (suc i) h = last_one xs y d i (omega arith)

pub same_flat : (s : State) → flat_of (with_token s) ≡ flat_of s
same_flat s = new_tokens_are_unseen s.words s.views (word_at s.words 0).phase

-- the new token isn't awaited
none_absent : (root : ℕ) → absent root (new_view root) ≡ 0
none_absent root = by_either (eqb root root)
  where
    by_either : (b : Bool) → cond {A = ℕ} b (0 - 0) 0 ≡ 0
    by_either true = refl
    by_either false = refl

old_awaited : (s : State) (j : ℕ) → IsCore s → IsAwaited (with_token s) j → IsAwaited s j
old_awaited s j core is = ⊎_elim
    (λ (h : j < length s.views). record {
      known = h;
      rests = ap (λ (v : View). v.errand) (sym (view_stays s j h)) ∙ is.rests;
      some = subst (λ (v : View). 0 < absent (word_at s.words 0).phase v) (view_stays s j h) is.some;
    })
    (λ (h : length s.views ≤ j). absurd (
    let more = one_more s in
    let k = is.known in
    let here : j ≡ length s.views = omega arith in
    let new = last_one s.views (new_view (word_at s.words 0).phase) (new_view 0) j here in
    let none = none_absent (word_at s.words 0).phase in
    let some : 0 < absent (word_at s.words 0).phase (new_view (word_at s.words 0).phase) =
    subst (λ (v : View). 0 < absent (word_at s.words 0).phase v) new is.some in
    omega arith))
    (cases_lt j (length s.views))

pub tokens_enter_unseen : TokensEnterUnseen
tokens_enter_unseen s core = record {
  core = token_core s core;
  tokens = one_more s;
  view = last_one s.views (new_view (word_at s.words 0).phase) (new_view 0) (length s.views) refl;
  call = last_one s.calls Idle Idle (length s.views) (sym core.long);
  flat = same_flat s;
  parents = refl;
  words = refl;
  plan = refl;
  views = λ j h. view_stays s j h;
  calls = λ j h. call_stays s j core h;
  awaited = λ j. (
    old_awaited s j core,
    λ is. record {
      known = (let a = one_more s in let b = is.known in omega arith);
      rests = ap (λ (v : View). v.errand) (view_stays s j is.known) ∙ is.rests;
      some = subst (λ (v : View). 0 < absent (word_at s.words 0).phase v) (sym (view_stays s j is.known)) is.some;
    },
  );
}
