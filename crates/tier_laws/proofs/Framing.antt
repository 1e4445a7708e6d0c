-- What a turn of a token leaves as it was.
use Rattle.std.proofs.Common.{◌≡◌, ◌≢◌, ℕ, Bool, true, false, cond, length-set, refl}
use Rattle.std.proofs.lemmas.List.{get_or-set_other}
use Rattle.tier_steps.specs.View.{new_view}
use Rattle.tier_steps.specs.Tally.{blank, word_at}
use Rattle.tier_steps.specs.Step.{word_after}
use Rattle.tier_steps.specs.Laws.{stepped_view}
use Rattle.tier_core.specs.declared.call.Turn.{Turn}
use Rattle.tier_core.specs.declared.call.Progress.TheVariants.{Idle, Begun}
use Rattle.tier_core.specs.Machine.{State, view_at, turn_at, played}
use Rattle.tier_core.specs.declared.call.Step.TheVariants.{Begin, Go, Finish}
use Rattle.tier_core.specs.Run.{may_begin, may_go, may_finish, begun, finish_at, plan_ends}
use Rattle.tier_laws.specs.Frame.{TurnsChangeTheirOwn, IsUntouched, OthersStay}

pub turns_change_their_own : TurnsChangeTheirOwn
turns_change_their_own s i r = record {
  parents = refl;
  plan = refl;
  tiers = length-set s.words r.tier (word_after r.kind r.tier (word_at s.words r.tier) (view_at s.views i));
  tokens = length-set s.views i (stepped_view s.parents s.words r.kind r.tier (view_at s.views i));
  views = λ j n. get_or-set_other s.views i j (stepped_view s.parents s.words r.kind r.tier (view_at s.views i)) (new_view 0) n;
  calls = λ j n. get_or-set_other s.calls i j r.next Idle n;
  words = λ u n. get_or-set_other s.words r.tier u (word_after r.kind r.tier (word_at s.words r.tier) (view_at s.views i)) blank n;
}

-- what holds of a state, and of what is left by a step that can be taken, holds after the step
pub after_either : (P : State → Type 0) (b : Bool) (s s' : State) → (b ≡ true → P s') → P s → P (cond b s' s)
after_either P true s s' f p = f refl
after_either P false s s' f p = p

same : (s : State) (j : ℕ) → IsUntouched j s s
same s j = record { view = refl; call = refl; tokens = refl }

pub turned : (s : State) (i j : ℕ) (r : Turn) → j ≢ i → IsUntouched j s (played s i r)
turned s i j r n = let own = turns_change_their_own s i r in record { view = own.views j n; call = own.calls j n; tokens = own.tokens }

pub others_stay : OthersStay
others_stay s (Begin i c) j n = after_either (IsUntouched j s) (may_begin s i c) s (begun s i c)
    (λ _. record { view = refl; call = get_or-set_other s.calls i j (Begun c) Idle n; tokens = refl }) (same s j)
others_stay s (Go i) j n =
    after_either (IsUntouched j s) (may_go s i) s (played s i (turn_at s i)) (λ _. turned s i j (turn_at s i) n) (same s j)
others_stay s (Finish i) j n = after_either (IsUntouched j s) (may_finish s i) s (played s i (finish_at s i (plan_ends s)))
    (λ _. turned s i j (finish_at s i (plan_ends s)) n) (same s j)
