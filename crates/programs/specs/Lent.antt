-- What a segment leaves in its task and in the buffers that it was given (own).
use Rattle.std.specs.Prelude.{◌≡◌, ℕ, ℤ, List, ◌++◌, map}
use Rattle.programs.specs.declared.work.Work.{Work}
use Rattle.programs.specs.declared.work.SegmentEnd.{SegmentEnd}
use Rattle.programs.specs.declared.work.SegmentEnd.TheVariants as ending
use Rattle.programs.specs.Meaning.{Synced, Stopped, Faulted, Segment, Frame, IsFormed}

-- the puts, prints and spawns of this segment follow those that the buffers held
pub record HasAdded {S T : Type 0} (f : S → T) (old new : Work S) (g : Segment T) : Type 0 where
  pub puts : new.puts ≡ old.puts ++ g.puts
  pub prints : new.prints.items ≡ g.prints
  pub spawns : map f new.spawns.items ≡ g.spawns

-- This task's segment ended so, and left this in the buffers and in the task. After a fault the content of the buffers
-- has no meaning, nor has the task except for its path.
abbrev pub IsLeft : {S T : Type 0} → (S → T) → (S → List ℕ) → SegmentEnd → S → S → Work S → Work S → Segment T → Type 0
IsLeft f path (ending.Fails code) t u old new g = (g.after ≡ Faulted code) × (path u ≡ path t)
IsLeft f path ending.Stops t u old new g = HasAdded f old new g × (g.after ≡ Stopped) × (path u ≡ path t)
IsLeft f path ending.Stays t u old new g = HasAdded f old new g × (g.after ≡ Synced (f u)) × (path u ≡ path t)

-- what it left is allowed and well formed
pub record HasLeft {S T : Type 0} (f : Frame T) (may : T → List (List ℕ × List ℤ) → ℕ → Segment T → Type 0) (meant : S → T)
    (path : S → List ℕ) (arrays : List (List ℕ × List ℤ)) (step : ℕ) (e : SegmentEnd) (t u : S) (old new : Work S) : Type 0 where
  pub left : Segment T
  pub allowed : may (meant t) arrays step left
  pub formed : IsFormed f (meant t) left
  pub is : IsLeft meant path e t u old new left
