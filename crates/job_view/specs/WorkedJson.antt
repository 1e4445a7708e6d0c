-- Reports as JSON, worked out by hand (own).
use Rattle.std.specs.Prelude.{◌≡◌, ℕ, pos, negsuc, List, [], ◌∷◌, ◌++◌, codes}
use Rattle.phase_records.specs.ReportValue.{ReportValue}
use Rattle.phase_records.specs.Status.{Status, Ended, Fault, Limit}
use Rattle.job_view.specs.JsonLaws.{HasShortNumbers}
use Rattle.job_view.specs.ReportJson.{json_text}

-- Two supersteps, and two arrays, one without cells. Two tasks print in the second superstep.
abbrev pub two_supersteps : Status → ReportValue
two_supersteps status = record {
  prints =
      record { step = 1; path = 0 ∷ []; value = pos 9223372036854775807 } ∷ record { step = 1; path = 1 ∷ 65535 ∷ []; value = negsuc 9 }
      ∷ [];
  records = record { phase = 0; parties = 2; left = 0; spawned = 1 } ∷ record { phase = 1; parties = 3; left = 3; spawned = 0 } ∷ [];
  arrays = (codes "b", pos 20 ∷ negsuc 0 ∷ []) ∷ (codes "a", []) ∷ [];
  status = status;
}

abbrev pub front : List ℕ
front =
    codes "{\"supersteps\":[{\"phase\":0,\"parties\":2,\"left\":0,\"spawned\":1},{\"phase\":1,\"parties\":3,\"left\":3,\"spawned\":0}],"
    ++ codes "\"prints\":[{\"step\":1,\"path\":[0],\"value\":9223372036854775807},{\"step\":1,\"path\":[1,65535],\"value\":-10}],"
    ++ codes "\"arrays\":{\"b\":[20,-1],\"a\":[]},"

-- nothing ran
abbrev pub nothing : ReportValue
nothing = record { prints = []; records = []; arrays = []; status = Ended 0 }

pub record ReportsAreWorkedOut : Type 0 where
  -- a report as those that are read back
  pub short : HasShortNumbers (two_supersteps (Fault 2 2 (1 ∷ 65535 ∷ [])))
  pub ended : json_text (two_supersteps (Ended 2)) ≡ front ++ codes "\"status\":{\"end\":\"ended\",\"steps\":2}}\n"
  pub faulted : json_text (two_supersteps (Fault 2 2 (1 ∷ 65535 ∷ [])))
      ≡ front ++ codes "\"status\":{\"end\":\"fault\",\"code\":2,\"step\":2,\"path\":[1,65535]}}\n"
  pub crowded : json_text (two_supersteps (Fault 7 2 []))
      ≡ front ++ codes "\"status\":{\"end\":\"fault\",\"code\":7,\"step\":2,\"path\":[]}}\n"
  pub limited : json_text (two_supersteps (Limit 2)) ≡ front ++ codes "\"status\":{\"end\":\"limit\",\"steps\":2}}\n"
  pub idle : json_text nothing ≡ codes "{\"supersteps\":[],\"prints\":[],\"arrays\":{},\"status\":{\"end\":\"ended\",\"steps\":0}}\n"
