-- The flat phaser that a tree represents, and the flat step of each step of the tree (not part of Java's API).
use Rattle.std.specs.Prelude.{◌≡◌, ℕ, suc, ◌-◌, Bool, true, false, if◌then◌else◌, ◌&&◌, Option, Some, None, List, [], ◌∷◌, ◌++◌, replicate}
pub use Rattle.flat_phaser.specs.declared.Member.{Member}
pub use Rattle.flat_phaser.specs.declared.FlatStep.{FlatStep}
use Rattle.flat_phaser.specs.declared.FlatStep.TheVariants as flat
use Rattle.flat_phaser.specs.Flat.{Flat, everyone_arrived}
use Rattle.flat_phaser.specs.Step.{flat_step, IsAllowed, newcomers}
use Rattle.flat_phaser.specs.Alike.{IsAlike}
use Rattle.tier_steps.specs.Word.{Fields}
use Rattle.tier_steps.specs.View.{View, Errand, Rest, Opening, Climbing, Advancing}
use Rattle.tier_steps.specs.Tally.{word_at}
use Rattle.tier_steps.specs.Step.{Kind, Join, Arrive, Leave, Advance, Force}

-- the members of a token: those that have arrived are marked with its phase
abbrev pub token_members : ℕ → View → List Member
token_members owner v = replicate v.arrived (record { owner = owner; mark = Some v.phase }) ++ newcomers owner (v.size - v.arrived)

-- the members of all tokens; a token's number is its place
abbrev pub all_members : ℕ → List View → List Member
all_members owner [] = []
all_members owner (v ∷ views) = token_members owner v ++ all_members (suc owner) views

abbrev pub is_climbing : Errand → Bool
is_climbing Rest = false
is_climbing Advancing = true
is_climbing (Climbing t passage) = true
is_climbing (Opening tier claimed stage size) = false

-- some token climbs or advances
abbrev pub some_climbing : List View → Bool
some_climbing [] = false
some_climbing (v ∷ views) = if is_climbing v.errand then true else some_climbing views

-- The phase and the end are the root's, and the members are the tokens'. An advance is due if everyone has arrived and some token climbs or
-- advances. No tier's count is used.
abbrev pub image : List Fields → List View → Flat
image words views =
    let root : Fields = word_at words 0 in
    record {
      phase = root.phase;
      ended = root.ended;
      members = all_members 0 views;
      due = (if root.ended then false else (everyone_arrived root.phase (all_members 0 views) && some_climbing views));
    }

-- the flat step of a kind of step that the token with this number takes; most kinds have none
abbrev pub label : ℕ → Kind → Option FlatStep
label owner (Join tier claimed size) = Some (flat.Join owner size)
label owner Arrive = Some (flat.Arrive owner)
label owner Leave = Some (flat.Leave owner)
label owner (Advance ends) = Some (flat.Advance ends)
label owner Force = Some flat.Force
label owner _ = None

-- the flat phaser after a label, and whether it may take the label
abbrev pub labelled : Option FlatStep → Flat → Flat
labelled None f = f
labelled (Some step) f = flat_step step f

abbrev pub IsAllowedLabel : Option FlatStep → Flat → Type 0
IsAllowedLabel None f = Unit {0}
IsAllowedLabel (Some step) f = IsAllowed step f

-- two flat phasers that nobody can distinguish; after the end only the phase and the end are compared
pub record LooksAlike (f g : Flat) : Type 0 where
  pub phase : f.phase ≡ g.phase
  pub ended : f.ended ≡ g.ended
  pub going : f.ended ≡ false → IsAlike f g
