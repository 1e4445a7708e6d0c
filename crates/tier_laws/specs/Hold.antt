-- What keeps the root from advancing, and what nobody does while it advances (own).
use Rattle.std.specs.Prelude.{◌≡◌, ◌≢◌, ℕ, ◌+◌, ◌<◌, ◌≤◌, true, false, length, sum_by, count_by}
use Rattle.flat_phaser.specs.Flat.{registered}
use Rattle.tier_steps.specs.declared.view.View.{View}
use Rattle.tier_steps.specs.declared.view.Errand.TheVariants.{Rest, Advancing}
use Rattle.tier_steps.specs.View.{absent}
use Rattle.tier_steps.specs.Tally.{word_at, Compared}
use Rattle.tier_steps.specs.SpelledOut.{is_under_way}
use Rattle.tier_steps.specs.Image.{is_climbing}
use Rattle.tier_core.specs.Machine.{State, IsCore, view_at, call_at, is_due, turn_at}
use Rattle.tier_core.specs.Run.{may_go}
use Rattle.tier_laws.specs.Frame.{flat_of}

-- a token without an errand, which has a member that hasn't arrived in the root's phase
pub record IsAwaited (s : State) (token : ℕ) : Type 0 where
  pub known : token < length s.views
  pub rests : (view_at s.views token).errand ≡ Rest
  pub some : 0 < absent (flat_of s).phase (view_at s.views token)

-- Such a token holds the root: no token advances, or has to.
pub record IsHolding (s : State) (other : ℕ) : Type 0 where
  pub errand : (view_at s.views other).errand ≢ Advancing
  pub call : is_due (call_at s.calls other) ≡ false

abbrev pub AwaitedTokensHold : Type 0
AwaitedTokensHold =
    (s : State) (token other : ℕ) → IsCore s → (flat_of s).ended ≡ false → IsAwaited s token → other < length s.views → IsHolding s other

-- No step of another token leaves that token with the advance to take.
abbrev pub NobodyMustAdvance : Type 0
NobodyMustAdvance =
    (s : State) (token other : ℕ) → IsCore s → (flat_of s).ended ≡ false → IsAwaited s token → other ≢ token → may_go s other ≡ true
    → is_due (turn_at s other).next ≡ false

-- a token whose members have all arrived in this phase, and which neither climbs nor advances nor has a join to open a path for
pub record IsStill (now : ℕ) (v : View) : Type 0 where
  pub arrived : v.arrived ≡ v.size
  pub phase : 0 < v.size → v.phase ≡ now
  pub errand : is_under_way v.errand ≡ false

-- While a token has to advance the root all others are still.
abbrev pub AdvancesAreAlone : Type 0
AdvancesAreAlone =
    (s : State) (token other : ℕ) → IsCore s → (flat_of s).ended ≡ false → token < length s.views
    → (view_at s.views token).errand ≡ Advancing
    → other < length s.views → other ≢ token → IsStill (flat_of s).phase (view_at s.views other)

-- The members of the flat phaser are as many as the tokens have.
abbrev pub MembersAreTheTokens : Type 0
MembersAreTheTokens = (s : State) → IsCore s → registered (flat_of s) ≡ sum_by (λ v. v.size) s.views

-- A tier has at most as many parties as there are members, tokens that climb, and tiers.
abbrev pub PartiesAreFew : Type 0
PartiesAreFew =
    (s : State) (t : ℕ) → IsCore s → t < length s.words → Compared s.words t
    → (word_at s.words t).parties ≤ sum_by (λ v. v.size) s.views + count_by (λ v. is_climbing v.errand) s.views + length s.parents
