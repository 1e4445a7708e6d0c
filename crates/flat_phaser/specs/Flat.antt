-- The flat phaser: one multiset of members, each with an owner and a mark (Java SE 21, `Phaser`; owners, marks and the due mark are own).
pub use Rattle.flat_phaser.specs.declared.Member.{Member}
use Rattle.std.specs.Prelude.{ℕ, Bool, false, not, ◌==◌, ◌&&◌, Option, None, Some, List, [], count_by, length, ℤ}
use Rattle.std.specs.List.{list_all}
use Rattle.phaser_word.specs.Phase.{shown_of}

-- a phase, an end mark, whether an advance is due, and the members
pub record Flat : Type 0 where
  pub phase : ℕ
  pub ended : Bool
  pub due : Bool
  pub members : List Member

-- a member has arrived if its mark is the phase
abbrev pub is_marked : ℕ → Option ℕ → Bool
is_marked phase None = false
is_marked phase (Some mark) = mark == phase

abbrev pub has_arrived : ℕ → Member → Bool
has_arrived phase m = is_marked phase m.mark

abbrev pub is_owned : ℕ → Member → Bool
is_owned owner m = m.owner == owner

-- how many members an owner has, and how many of them have arrived
abbrev pub members_of : ℕ → List Member → ℕ
members_of owner members = count_by (is_owned owner) members

abbrev pub arrived_of : ℕ → ℕ → List Member → ℕ
arrived_of phase owner members = count_by (λ m. is_owned owner m && has_arrived phase m) members

-- how many members there are, and how many of them haven't arrived
abbrev pub registered : Flat → ℕ
registered f = length f.members

abbrev pub unarrived : Flat → ℕ
unarrived f = count_by (λ m. not (has_arrived f.phase m)) f.members

abbrev pub everyone_arrived : ℕ → List Member → Bool
everyone_arrived phase members = list_all (has_arrived phase) members

-- the phase as a caller is shown it
abbrev pub shown : Flat → ℤ
shown f = shown_of f.phase f.ended

-- no members in this phase
abbrev pub empty_in : ℕ → Flat
empty_in phase = record { phase = phase; ended = false; due = false; members = [] }
