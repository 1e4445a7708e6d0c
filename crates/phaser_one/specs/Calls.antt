-- The calls of a single phaser, on a flat phaser in which every member has one owner and an advance follows as soon as
-- it is due (Java SE 21, `Phaser`; the end before the limit, and the answers of `await`, are own).
pub use Rattle.phaser_one.specs.declared.call.Call.{Call}
pub use Rattle.phaser_one.specs.declared.call.Call.TheVariants.{Register, Bulk, Arrive, Leave, Await, Force}
pub use Rattle.phaser_one.specs.declared.call.Reply.{Reply}
pub use Rattle.phaser_one.specs.declared.call.Reply.TheVariants.{Number, Waiting, Refused}
pub use Rattle.phaser_one.specs.declared.call.OneFault.{OneFault}
pub use Rattle.phaser_one.specs.declared.call.OneFault.TheVariants.{TooMany, Full, NobodyUnarrived, Negative}
use Rattle.std.specs.Prelude.{ℕ, ◌+◌, Bool, true, false, nat_lt, ◌==◌, if◌then◌else◌, Option, None, Some, ℤ, pos, negsuc}
use Rattle.advance_rule.specs.declared.CountPlan.{CountPlan}
use Rattle.advance_rule.specs.Plan.{count_ends}
use Rattle.flat_phaser.specs.Flat.{Flat, registered, unarrived, shown, empty_in}
use Rattle.flat_phaser.specs.declared.FlatStep.{FlatStep}
use Rattle.flat_phaser.specs.Step.{flat_step}
use Rattle.flat_phaser.specs.declared.FlatStep.TheVariants as flat
use Rattle.phaser_word.specs.Phase.{shown_of}

-- what a call that may register answers: the phase shown once it has ended, a refusal if there is no room, else the
-- phase
abbrev pub room_for : ℕ → Flat → Reply
room_for count f =
    if f.ended then Number (shown f)
    else if nat_lt 65535 (registered f + count) then Refused Full
    else Number (pos f.phase)

-- what a call that arrives answers
abbrev pub someone_in : Flat → Reply
someone_in f =
    if f.ended then Number (shown f)
    else if unarrived f == 0 then Refused NobodyUnarrived
    else Number (pos f.phase)

-- what waiting for the end of a phase answers: a negative number as it is, then the phase shown once ended, then another phase than the
-- current one is over
abbrev pub passed : ℤ → Flat → Reply
passed (negsuc n) f = Number (negsuc n)
passed (pos phase) f =
    if f.ended then Number (shown f)
    else if phase == f.phase then Waiting
    else Number (pos f.phase)

abbrev pub answer : Call → Flat → Reply
answer Register f = room_for 1 f
answer (Bulk (pos count)) f = room_for count f
answer (Bulk (negsuc n)) f = Refused Negative
answer Arrive f = someone_in f
answer Leave f = someone_in f
answer (Await phase) f = passed phase f
answer Force f = Number (shown_of f.phase true)

-- the flat step that a call takes if it isn't refused; every member is of owner 0
abbrev pub step_of : Call → Option FlatStep
step_of Register = Some (flat.Join 0 1)
step_of (Bulk (pos count)) = Some (flat.Join 0 count)
step_of (Bulk (negsuc n)) = None
step_of Arrive = Some (flat.Arrive 0)
step_of Leave = Some (flat.Leave 0)
step_of (Await phase) = None
step_of Force = Some flat.Force

abbrev pub is_refused : Reply → Bool
is_refused (Number n) = false
is_refused Waiting = false
is_refused (Refused fault) = true

abbrev pub taken_by : Option FlatStep → Flat → Flat
taken_by None f = f
taken_by (Some step) f = flat_step step f

-- the phaser after a call, before an advance that is due
abbrev pub called : Call → Flat → Flat
called call f = if is_refused (answer call f) then f else taken_by (step_of call) f

-- an advance that is due comes at once, and ends the phaser as the plan says of the phase and the members
abbrev pub settled : CountPlan → Flat → Flat
settled plan f = if f.due then flat_step (flat.Advance (count_ends plan f.phase (registered f))) f else f

abbrev pub after : CountPlan → Call → Flat → Flat
after plan call f = settled plan (called call f)

-- this many members in this phase
abbrev pub opened : ℕ → ℕ → Flat
opened parties phase = flat_step (flat.Join 0 parties) (empty_in phase)
