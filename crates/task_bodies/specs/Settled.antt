-- How what a body wrote joins what others wrote (own).
use Rattle.std.specs.Prelude.{◌≡◌, ℕ, ◌++◌, length, Option, Some, None}
use Rattle.programs.specs.declared.work.Work.{Work}
use Rattle.programs.specs.declared.work.SegmentEnd.{SegmentEnd}
use Rattle.programs.specs.declared.work.SegmentEnd.TheVariants as ending
use Rattle.task_bodies.specs.Bodies.{OutValue, MemberValue, numbered, went}

module _ {K : Type 0} where
  -- what it wrote follows what others wrote, its spawned tasks are numbered, and its task counts them
  pub record HasJoined (t u : MemberValue K) (o : OutValue K) (old new : Work (MemberValue K)) : Type 0 where
    pub puts : new.puts ≡ old.puts ++ o.puts
    pub prints : new.prints.items ≡ o.prints
    pub spawns : new.spawns.items ≡ numbered t.path t.begun o.spawns
    pub task : u ≡ went t (length o.spawns) t.kept

  -- if it is refused with this number it is a fault, and the task is as it was; else it joins, and its task ends so
  abbrev pub IsSettled : Option ℕ → MemberValue K → MemberValue K → OutValue K → Work (MemberValue K) → Work (MemberValue K) → SegmentEnd
      → SegmentEnd → Type 0
  IsSettled (Some code) t u o old new ended e = (e ≡ ending.Fails code) × (u ≡ t)
  IsSettled None t u o old new ended e = (e ≡ ended) × HasJoined t u o old new
