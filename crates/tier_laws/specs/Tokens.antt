-- Tokens that are added (own).
use Rattle.std.specs.Prelude.{◌≡◌, ◌↔◌, ℕ, ◌+◌, ◌<◌, length}
use Rattle.tier_steps.specs.View.{new_view}
use Rattle.tier_core.specs.declared.call.Progress.TheVariants.{Idle}
use Rattle.tier_core.specs.Machine.{State, IsCore, view_at, call_at, with_token}
use Rattle.tier_laws.specs.Frame.{flat_of}
use Rattle.tier_laws.specs.Hold.{IsAwaited}

-- A token that is added has no members and is in no call, and nothing else changes.
pub record HasEntered (old new : State) : Type 0 where
  pub core : IsCore new
  pub tokens : length new.views ≡ length old.views + 1
  pub view : view_at new.views (length old.views) ≡ new_view (flat_of old).phase
  pub call : call_at new.calls (length old.views) ≡ Idle
  pub flat : flat_of new ≡ flat_of old
  pub parents : new.parents ≡ old.parents
  pub words : new.words ≡ old.words
  pub plan : new.plan ≡ old.plan
  pub views : (other : ℕ) → other < length old.views → view_at new.views other ≡ view_at old.views other
  pub calls : (other : ℕ) → other < length old.views → call_at new.calls other ≡ call_at old.calls other
  pub awaited : (other : ℕ) → IsAwaited new other ↔ IsAwaited old other

abbrev pub TokensEnterUnseen : Type 0
TokensEnterUnseen = (s : State) → IsCore s → HasEntered s (with_token s)
