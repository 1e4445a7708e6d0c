-- Looking alike, part by part.
use Rattle.std.proofs.Common.{◌≡◌, ℕ, false, ap, sym, ◌∙◌}
use Rattle.flat_phaser.specs.Flat.{Flat, members_of, arrived_of}
use Rattle.tier_steps.specs.Image.{LooksAlike}

-- two flat phasers that nobody can distinguish while they haven't ended
pub record AlikeParts (f g : Flat) : Type 0 where
  pub phase : f.phase ≡ g.phase
  pub ended : f.ended ≡ g.ended
  pub due : f.ended ≡ false → f.due ≡ g.due
  pub members : f.ended ≡ false → (o : ℕ) → members_of o f.members ≡ members_of o g.members
  pub arrived : f.ended ≡ false → (o : ℕ) → arrived_of f.phase o f.members ≡ arrived_of f.phase o g.members

pub parts_of : (f g : Flat) → LooksAlike f g → AlikeParts f g
parts_of f g a = record {
  phase = a.phase;
  ended = a.ended;
  due = λ e. (a.going e).due;
  members = λ e. (a.going e).members;
  arrived = λ e o. (a.going e).arrived o ∙ ap (λ (p : ℕ). arrived_of p o g.members) (sym a.phase);
}

pub whole_of : (f g : Flat) → AlikeParts f g → LooksAlike f g
whole_of f g a = record {
  phase = a.phase;
  ended = a.ended;
  going = λ e. record {
    phase = a.phase;
    ended = a.ended;
    due = a.due e;
    members = a.members e;
    arrived = λ o. a.arrived e o ∙ ap (λ (p : ℕ). arrived_of p o g.members) a.phase;
  };
}
