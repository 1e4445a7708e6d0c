-- Flat phasers that nobody can distinguish, and steps that take any member of the owner that hasn't arrived (own).
use Rattle.std.specs.Prelude.{◌≡◌, ℕ, true, Some, List, ◌∷◌, ◌++◌}
use Rattle.flat_phaser.specs.Flat.{Flat, Member, members_of, arrived_of, everyone_arrived}
use Rattle.flat_phaser.specs.Step.{FlatStep, Join, Arrive, Leave, Advance, Force, is_awaited, with_members, taken}

-- each owner has as many members, and as many that have arrived, in both
pub record IsAlike (f g : Flat) : Type 0 where
  pub phase : f.phase ≡ g.phase
  pub ended : f.ended ≡ g.ended
  pub due : f.due ≡ g.due
  pub members : (owner : ℕ) → members_of owner f.members ≡ members_of owner g.members
  pub arrived : (owner : ℕ) → arrived_of f.phase owner f.members ≡ arrived_of g.phase owner g.members

-- an advance is due only if everyone has arrived, as it is wherever a run leads
abbrev pub IsSound : Flat → Type 0
IsSound f = f.due ≡ true → everyone_arrived f.phase f.members ≡ true

-- some place in the list of members that holds one of this owner that hasn't arrived
pub record IsPlace (owner : ℕ) (f : Flat) (front : List Member) (m : Member) (back : List Member) : Type 0 where
  pub here : f.members ≡ front ++ m ∷ back
  pub awaited : is_awaited owner f.phase m ≡ true

-- what a step may leave of a phaser that hasn't ended, whichever member it takes
abbrev pub MayLeave : FlatStep → Flat → Flat → Type 0
MayLeave (Join owner count) f g = g ≡ taken (Join owner count) f
MayLeave (Arrive owner) f g =
    (front : List Member) × (m : Member) × (back : List Member) × IsPlace owner f front m back
    × (g ≡ with_members (front ++ record m { mark = Some f.phase } ∷ back) f)
MayLeave (Leave owner) f g =
    (front : List Member) × (m : Member) × (back : List Member) × IsPlace owner f front m back × (g ≡ with_members (front ++ back) f)
MayLeave (Advance ends) f g = (f.due ≡ true) × (g ≡ taken (Advance ends) f)
MayLeave Force f g = g ≡ taken Force f
