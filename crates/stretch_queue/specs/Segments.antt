-- The segments that hooks hear of (own).
use Rattle.std.specs.Prelude.{◌≡◌, ℕ, true, false, List, map, slice_get, Some, Result, OnOk}
use Rattle.program_stretches.specs.StretchesValue.{StretchValue}

module _ {Q S : Type 0} (path_of : S → List ℕ) where
  -- the first task of this stretch has this path, and its segment is one of this superstep that hasn't run
  pub record IsSegment (s : StretchValue Q S) (path : List ℕ) (step : ℕ) : Type 0 where
    pub first : slice_get (map path_of s.part.tasks) 0 ≡ Some path
    pub of_step : s.step ≡ step
    pub waits : s.part.done ≡ false

  -- that segment has run, which left the stretch as it is now, or memory ran out
  pub record HasRunSegment {A E : Type 0} (now : StretchValue Q S) (path : List ℕ) (step : ℕ) (result : Result A E) : Type 0 where
    pub before : StretchValue Q S
    pub segment : IsSegment before path step
    pub same : now ≡ record before { part = now.part }
    pub ran : OnOk result (now.part.done ≡ true)
