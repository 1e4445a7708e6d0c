-- What a join says of its token, however far it has come (not part of Java's API).
use Rattle.std.specs.Prelude.{◌≡◌, ℕ, suc, ◌≤◌, Bool, true, false, Some, None, List}
use Rattle.phaser_word.specs.Fields.{Fields}
use Rattle.tier_steps.specs.View.{ancestor}
use Rattle.tier_steps.specs.Step.{added}
use Rattle.tier_steps.specs.declared.view.View.{View}
use Rattle.tier_steps.specs.declared.view.Errand.TheVariants.{Opening}
use Rattle.tier_steps.specs.declared.view.OpeningStage.TheVariants as stage
use Rattle.tier_core.specs.declared.call.Played.{Played}
use Rattle.tier_core.specs.declared.call.Played.TheVariants.{Done, Held, Full, Ended}
use Rattle.tier_core.specs.declared.call.Progress.{Progress}
use Rattle.tier_core.specs.declared.call.Progress.TheVariants.{Idle, Seeking as ToSeek, Settling, GivingBack as ToGiveBack}
use Rattle.tier_core.specs.Turn.{has_no_room, is_refusing, cause_of, claimed_by}
use Rattle.tier_rule.specs.declared.sight.Key.{Key}
use Rattle.tier_calls.specs.Passes.{EndSeen}
use Rattle.tier_calls.specs.Goes.{Position, Goes}

-- a token with `size` members at this tier, all unarrived, that took no advance
pub record IsJoined (tier size : ℕ) (v : View) : Type 0 where
  pub place : v.tier ≡ tier
  pub members : v.size ≡ size
  pub none_arrived : v.arrived ≡ 0
  pub unled : v.led ≡ false

-- The token noted a word on the path of its join, above its claimed tiers, that refuses what the join would add there, and it has not seen
-- the end. A join at the root claims nothing.
pub record IsNoted (parents : List ℕ) (tier size : ℕ) (v : View) (R : ℕ → ℕ → Fields → Type 0) : Type 0 where
  pub claimed : ℕ
  pub alone : tier ≡ 0 → claimed ≡ 0
  pub word : Fields
  pub note : v.note ≡ Some (ancestor parents tier claimed, word)
  pub refuses : is_refusing (added claimed size) word ≡ true
  pub says : R (ancestor parents tier claimed) (added claimed size) word
  pub unseen : v.end_seen ≡ None

-- why a join was refused: by the noted word, or by the end
abbrev pub Refusal : List ℕ → ℕ → ℕ → View → Played → Type 0
Refusal parents tier size v (Held phase cause) =
    (phase ≡ v.phase) × IsNoted parents tier size v (λ t more w. (has_no_room more w ≡ false) × (cause ≡ cause_of t v.phase w))
Refusal parents tier size v (Full count) = IsNoted parents tier size v (λ t more w. (has_no_room more w ≡ true) × (count ≡ w.parties))
Refusal parents tier size v (Ended shown) = EndSeen v shown
Refusal parents tier size v _ = ⊥

-- the answer of a join that is over
abbrev pub JoinAnswer : List ℕ → ℕ → ℕ → View → Played → Type 0
JoinAnswer parents tier size v (Done phase) = IsJoined tier size v × (phase ≡ v.phase)
JoinAnswer parents tier size v (Held phase cause) = (v.size ≡ 0) × Refusal parents tier size v (Held phase cause)
JoinAnswer parents tier size v (Full count) = (v.size ≡ 0) × Refusal parents tier size v (Full count)
JoinAnswer parents tier size v (Ended shown) = (v.size ≡ 0) × Refusal parents tier size v (Ended shown)
JoinAnswer parents tier size v _ = ⊥

-- a join that is going up its path, with at least `least` claimed tiers, by a token that was at the tier `home` before
pub record SeeksFor (least home tier size tier' size' : ℕ) (v : View) : Type 0 where
  pub same_tier : tier' ≡ tier
  pub same_size : size' ≡ size
  pub at_home : v.tier ≡ home
  pub claims : least ≤ claimed_by v.errand
  pub unseen : v.end_seen ≡ None
  pub unled : v.led ≡ false

-- a join whose members are admitted and that has claimed tiers left
pub record SettlesFor (tier size : ℕ) (v : View) : Type 0 where
  pub claimed : ℕ
  pub errand : v.errand ≡ Opening tier (suc claimed) stage.Joined size
  pub joined : IsJoined tier size v

-- a join that was refused and that has claimed tiers left
pub record GivesBackFor (parents : List ℕ) (tier size : ℕ) (v : View) (answer : Played) : Type 0 where
  pub claimed : ℕ
  pub errand : v.errand ≡ Opening tier (suc claimed) stage.GoingBack size
  pub none : v.size ≡ 0
  pub refusal : Refusal parents tier size v answer

abbrev pub JoinAt : List ℕ → ℕ → ℕ → ℕ → ℕ → View → Played → Progress → Type 0
JoinAt parents least home tier size v answer Idle = JoinAnswer parents tier size v answer
JoinAt parents least home tier size v answer (ToSeek tier' size') = SeeksFor least home tier size tier' size' v
JoinAt parents least home tier size v answer Settling = SettlesFor tier size v
JoinAt parents least home tier size v answer (ToGiveBack refusal) = GivesBackFor parents tier size v refusal
JoinAt parents least home tier size v answer _ = ⊥

-- By any steps and looks, a join places the members that were asked for at the tier that was asked for, or is refused as its token has
-- noted.
abbrev pub JoinsDoAsAsked : Type 0
JoinsDoAsAsked =
    (k : Key) (least home tier size : ℕ) (from at : Position) → JoinAt k.shape least home tier size from.view from.answer from.progress
    → Goes k from at → JoinAt k.shape least home tier size at.view at.answer at.progress

-- calls that never advance the root
abbrev pub is_joining : Progress → Bool
is_joining Idle = true
is_joining (ToSeek tier size) = true
is_joining Settling = true
is_joining (ToGiveBack answer) = true
is_joining _ = false
