-- What an arrival or a departure says of its token, however far it has come (not part of Java's API).
use Rattle.std.specs.Prelude.{◌≡◌, ℕ, ◌+◌, ◌<◌, true, false, Some, None, ℤ}
use Rattle.phaser_word.specs.Phase.{shown_of}
use Rattle.tier_steps.specs.declared.view.View.{View}
use Rattle.tier_steps.specs.declared.view.Passage.{Passage}
use Rattle.tier_steps.specs.declared.view.Passage.TheVariants.{Arrival, Departure}
use Rattle.tier_core.specs.declared.call.Played.{Played}
use Rattle.tier_core.specs.declared.call.Played.TheVariants.{Done, Ended}
use Rattle.tier_core.specs.declared.call.Progress.{Progress}
use Rattle.tier_core.specs.declared.call.Progress.TheVariants.{Idle, Passing, Owing, Due}
use Rattle.tier_rule.specs.declared.sight.Key.{Key}
use Rattle.tier_calls.specs.Next.{is_owing}
use Rattle.tier_calls.specs.Goes.{Position, Goes}

-- the members are as before
pub record IsSame (old new : View) : Type 0 where
  pub tier : new.tier ≡ old.tier
  pub size : new.size ≡ old.size
  pub phase : new.phase ≡ old.phase
  pub arrived : new.arrived ≡ old.arrived

-- one more member has arrived, or one has left
pub record HasCounted (own : Passage) (old new : View) : Type 0 where
  pub tier : new.tier ≡ old.tier
  pub phase : new.phase ≡ old.phase
  pub arrival : own ≡ Arrival → (new.size ≡ old.size) × (new.arrived ≡ old.arrived + 1)
  pub departure : own ≡ Departure → (new.size + 1 ≡ old.size) × (new.arrived ≡ old.arrived)

-- the token has seen the end, and the tree shows this phase
abbrev pub EndSeen : View → ℤ → Type 0
EndSeen v shown = (phase : ℕ) × (v.end_seen ≡ Some phase) × (shown ≡ shown_of phase true)

-- the token has not seen the end and has taken no advance
pub record IsFresh (v : View) : Type 0 where
  pub unseen : v.end_seen ≡ None
  pub unled : v.led ≡ false

-- The answer of such a call that is over. `P` says of its token that nothing was counted, and `C` that its member was.
abbrev pub PassAnswer : (View → Type 0) → (View → Type 0) → View → Played → Type 0
PassAnswer P C u (Done phase) = C u × (phase ≡ u.phase)
PassAnswer P C u (Ended shown) = P u × EndSeen u shown
PassAnswer P C u _ = ⊥

-- What holds of such a call, however far it has come. Until its member is counted it has not seen the end, and until it is over it has
-- taken no advance.
abbrev pub PassAt : Passage → (View → Type 0) → (View → Type 0) → View → Played → Progress → Type 0
PassAt own P C u answer Idle = PassAnswer P C u answer
PassAt own P C u answer (Passing passage) = (passage ≡ own) × P u × IsFresh u
PassAt own P C u answer (Owing passage) = C u × (u.led ≡ false)
PassAt own P C u answer (Due passage) = C u × (u.led ≡ false)
PassAt own P C u answer _ = ⊥

-- By any steps and looks after its first look, an arrival or a departure counts one member, once.
abbrev pub PassesCountOnce : Type 0
PassesCountOnce =
    (k : Key) (own : Passage) (v : View) (from at : Position) → from.progress ≡ Passing own → from.view ≡ v → v.arrived < v.size → IsFresh v
    → Goes k from at → PassAt own (IsSame v) (HasCounted own v) at.view at.answer at.progress

-- An arrival or a departure whose member was counted counts no other.
abbrev pub PassesCountNoMore : Type 0
PassesCountNoMore =
    (k : Key) (own : Passage) (v : View) (from at : Position) → is_owing from.progress ≡ true → from.view ≡ v → v.led ≡ false
    → Goes k from at → PassAt own (λ u. ⊥) (IsSame v) at.view at.answer at.progress
