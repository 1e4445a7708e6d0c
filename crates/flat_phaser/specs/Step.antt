-- The steps of a flat phaser (Java SE 21, `Phaser`: registering, arriving, deregistering, the advance; that the advance
-- is a separate step is own).
pub use Rattle.flat_phaser.specs.declared.FlatStep.{FlatStep}
pub use Rattle.flat_phaser.specs.declared.FlatStep.TheVariants.{Join, Arrive, Leave, Advance, Force}
use Rattle.std.specs.Prelude.{◌≡◌, ℕ, ◌<◌, Bool, true, false, not, ◌&&◌, if◌then◌else◌, Some, None, List, [], ◌∷◌, ◌++◌, replicate}
use Rattle.phaser_word.specs.Phase.{next_phase_of}
use Rattle.flat_phaser.specs.Flat.{Flat, Member, has_arrived, is_owned, members_of, arrived_of, everyone_arrived}

-- a member of this owner that hasn't arrived in this phase
abbrev pub is_awaited : ℕ → ℕ → Member → Bool
is_awaited owner phase m = is_owned owner m && not (has_arrived phase m)

-- the first of them arrives, or is taken away
abbrev pub mark_one : ℕ → ℕ → List Member → List Member
mark_one owner phase [] = []
mark_one owner phase (m ∷ ms) = if is_awaited owner phase m then record m { mark = Some phase } ∷ ms else m ∷ mark_one owner phase ms

abbrev pub drop_one : ℕ → ℕ → List Member → List Member
drop_one owner phase [] = []
drop_one owner phase (m ∷ ms) = if is_awaited owner phase m then ms else m ∷ drop_one owner phase ms

-- this many members of an owner; none of them has arrived
abbrev pub newcomers : ℕ → ℕ → List Member
newcomers owner count = replicate count (record { owner = owner; mark = None })

-- after an arrival or a departure an advance is due if everyone has arrived
abbrev pub with_members : List Member → Flat → Flat
with_members members f = record f { members = members; due = everyone_arrived f.phase members }

-- what a step leaves of a phaser that hasn't ended
abbrev pub taken : FlatStep → Flat → Flat
taken (Join owner count) f = record f { members = f.members ++ newcomers owner count; due = false }
taken (Arrive owner) f = with_members (mark_one owner f.phase f.members) f
taken (Leave owner) f = with_members (drop_one owner f.phase f.members) f
taken (Advance ends) f = record f { phase = next_phase_of f.phase; due = false; ended = ends }
taken Force f = record f { ended = true; due = false }

-- once ended, no step changes anything
abbrev pub flat_step : FlatStep → Flat → Flat
flat_step step f = if f.ended then f else taken step f

-- an owner has a member that hasn't arrived
abbrev pub IsWaitedFor : ℕ → ℕ → List Member → Type 0
IsWaitedFor owner phase members = arrived_of phase owner members < members_of owner members

-- an arrival and a departure need an unarrived member of the owner, and an advance needs that it is due
abbrev pub MayTake : FlatStep → Flat → Type 0
MayTake (Join owner count) f = Unit {0}
MayTake (Arrive owner) f = IsWaitedFor owner f.phase f.members
MayTake (Leave owner) f = IsWaitedFor owner f.phase f.members
MayTake (Advance ends) f = f.due ≡ true
MayTake Force f = Unit {0}

-- a phaser that has ended takes every step, and stays as it is
abbrev pub IsAllowed : FlatStep → Flat → Type 0
IsAllowed step f = f.ended ≡ false → MayTake step f

-- a list of steps, each allowed at its turn, and what they leave
abbrev pub IsFlatRun : List FlatStep → Flat → Type 0
IsFlatRun [] f = Unit {0}
IsFlatRun (step ∷ steps) f = IsAllowed step f × IsFlatRun steps (flat_step step f)

abbrev pub flat_run : List FlatStep → Flat → Flat
flat_run [] f = f
flat_run (step ∷ steps) f = flat_run steps (flat_step step f)
