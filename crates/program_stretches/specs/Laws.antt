-- Which refusal of a stretch comes first (own).
use Rattle.std.specs.Prelude.{◌≡◌, ◌≢◌, true, false, Some, None, slice_get}
use Rattle.program_stretches.specs.declared.fault.AcceptStretchFault.{AcceptStretchFault}
use Rattle.program_stretches.specs.declared.fault.AcceptStretchFault.TheVariants.{WrongStep, Unfinished, Stranger, Double}
use Rattle.program_stretches.specs.PartValue.{PartValue}
use Rattle.program_stretches.specs.StretchesValue.{StretchesValue, StretchValue}
use Rattle.program_stretches.specs.Closing.{Refuses}

-- A stretch is refused for the first of these that holds: it is of another step, it hasn't run, no stretch has its
-- number, its stretch isn't out.
pub record StretchesAreRefusedInOrder (Q S : Type 0) : Type 0 where
  pub step : (fault : AcceptStretchFault) (v : StretchesValue Q S) (s : StretchValue Q S) → Refuses fault v s → s.step ≢ v.step
      → fault ≡ WrongStep
  pub unfinished : (fault : AcceptStretchFault) (v : StretchesValue Q S) (s : StretchValue Q S) → Refuses fault v s → s.step ≡ v.step
      → s.part.done ≡ false
      → fault ≡ Unfinished
  pub number : (fault : AcceptStretchFault) (v : StretchesValue Q S) (s : StretchValue Q S) → Refuses fault v s → s.step ≡ v.step
      → s.part.done ≡ true
      → slice_get v.parts s.number ≡ None → fault ≡ Stranger
  pub there : (fault : AcceptStretchFault) (v : StretchesValue Q S) (s : StretchValue Q S) (part : PartValue S) → Refuses fault v s
      → s.step ≡ v.step → s.part.done ≡ true
      → slice_get v.parts s.number ≡ Some (Some part) → fault ≡ Double
  -- one that is of this step, has run and is out is taken back
  pub out : (fault : AcceptStretchFault) (v : StretchesValue Q S) (s : StretchValue Q S) → s.step ≡ v.step → s.part.done ≡ true
      → slice_get v.parts s.number ≡ Some None → Refuses fault v s → ⊥
