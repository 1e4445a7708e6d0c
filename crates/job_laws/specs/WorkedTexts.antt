-- Reports worked out as text: what is printed of these is written down, byte for byte (own).
use Rattle.std.specs.Prelude.{◌≡◌, pos, negsuc, [], ◌∷◌, Some, codes}
use Rattle.std.specs.Option.{option_map}
use Rattle.phase_records.specs.ReportText.{report_text}
use Rattle.phase_records.specs.Status.{Fault}
use Rattle.step_core.specs.JobMeaning.{report_of}
use Rattle.job_laws.specs.Worked.{swap, spawns, faulting, forever, print, superstep}

pub record ReportsAreWrittenSo : Type 0 where
  pub ended : option_map report_text (report_of swap 10)
      ≡ Some
      (codes "phase 0 parties 2 left 0 spawned 0\nprint 1 0 20\nprint 1 1 10\nphase 1 parties 2 left 2 spawned 0\narray a 20 10\nended 2\n")
  -- points between the numbers of a path
  pub spawned : option_map report_text (report_of spawns 10)
      ≡ Some (codes "phase 0 parties 2 left 0 spawned 1\nprint 1 0.0 5\nphase 1 parties 2 left 2 spawned 0\nended 2\n")
  pub faulted : option_map report_text (report_of faulting 10) ≡ Some (codes "array a 7\nfault 2 step 0 path 1\n")
  pub limited : option_map report_text (report_of forever 2)
      ≡ Some (codes "phase 0 parties 1 left 0 spawned 0\nphase 1 parties 1 left 0 spawned 0\nlimit 2\n")
  -- a fault of no task; numbers below 0; a path of three numbers
  pub of_nobody : report_text (record {
    prints = print 0 (10 ∷ 2 ∷ 0 ∷ []) (negsuc 6) ∷ [];
    records = superstep 0 5 4 3 ∷ [];
    arrays = (codes "x", negsuc 9223372036854775807 ∷ pos 0 ∷ []) ∷ [];
    status = Fault 7 1 [];
  })
      ≡ codes "print 0 10.2.0 -7\nphase 0 parties 5 left 4 spawned 3\narray x -9223372036854775808 0\nfault 7 step 1 path -\n"
