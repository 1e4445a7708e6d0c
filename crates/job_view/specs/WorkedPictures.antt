-- One picture worked out by hand, line by line, and how columns are joined (own).
use Rattle.std.specs.Prelude.{◌≡◌, ℕ, pos, negsuc, true, false, List, [], ◌∷◌, ◌++◌, codes}
use Rattle.phase_records.specs.ReportValue.{ReportValue}
use Rattle.phase_records.specs.Status.{Ended, Fault, Limit}
use Rattle.job_view.specs.Columns.{joined}
use Rattle.job_view.specs.Picture.{ending, group_of, picture, sharing}
use Rattle.job_view.specs.declared.columns.Column.{Column}

-- Three tasks: one leaves, and two are spawned. After them four tasks: one prints, and one faults. There is an array of
-- two cells.
abbrev pub faulted_report : ReportValue
faulted_report = record {
  prints = record { step = 1; path = 0 ∷ []; value = pos 20 } ∷ [];
  records = record { phase = 0; parties = 3; left = 1; spawned = 2 } ∷ record { phase = 1; parties = 4; left = 4; spawned = 0 } ∷ [];
  arrays = (codes "a", negsuc 0 ∷ pos 8 ∷ []) ∷ [];
  status = Fault 3 1 (0 ∷ []);
}

abbrev pub faulted_picture : List ℕ
faulted_picture =
    codes "<svg xmlns=\"http://www.w3.org/2000/svg\" viewBox=\"0 0 920 370\" font-family=\"sans-serif\" font-size=\"12\">\n"
    ++ codes
    "<style>.p,.c{fill:#6d9fd6}.l{fill:#d9776c}.s{fill:#6fbf73}.d{fill:#444}.t{font-size:15px;font-weight:bold}.n{text-anchor:end}.m,.v{text-anchor:middle}.a{stroke:#ccc}.o{fill:none;stroke:#999}</style>\n"
    ++ codes "<rect width=\"100%\" height=\"100%\" fill=\"#fff\"/>\n"
    ++ codes "<text class=\"t\" x=\"20\" y=\"24\">supersteps 2, parties at most 4, fault 3 in superstep 1</text>\n"
    ++ codes
    "<text class=\"n\" x=\"71\" y=\"42\">parties</text><text class=\"n\" x=\"71\" y=\"265\">printed</text><text class=\"n\" x=\"71\" y=\"279\">superstep</text>\n"
    ++ codes
    "<rect class=\"p\" x=\"80\" y=\"287\" width=\"10\" height=\"10\"/><text x=\"95\" y=\"296\">lives on</text><rect class=\"l\" x=\"180\" y=\"287\" width=\"10\" height=\"10\"/><text x=\"195\" y=\"296\">left</text><rect class=\"s\" x=\"280\" y=\"287\" width=\"10\" height=\"10\"/><text x=\"295\" y=\"296\">spawned</text><rect class=\"d\" x=\"380\" y=\"287\" width=\"10\" height=\"10\"/><text x=\"395\" y=\"296\">some task printed</text>\n"
    ++ codes "<svg x=\"80\" width=\"800\" y=\"50\" height=\"200\" preserveAspectRatio=\"none\" viewBox=\"0 0 1 4\" overflow=\"visible\">\n"
    ++ codes
    "<g transform=\"translate(0,4) scale(.00125,4) scale(1,.005)\"><path class=\"a\" d=\"M-5 0H800\"/><text class=\"n\" x=\"-9\" y=\"4\">0</text></g>\n"
    ++ codes
    "<g transform=\"translate(0,3) scale(.00125,4) scale(1,.005)\"><path class=\"a\" d=\"M-5 0H800\"/><text class=\"n\" x=\"-9\" y=\"4\">1</text></g>\n"
    ++ codes
    "<g transform=\"translate(0,2) scale(.00125,4) scale(1,.005)\"><path class=\"a\" d=\"M-5 0H800\"/><text class=\"n\" x=\"-9\" y=\"4\">2</text></g>\n"
    ++ codes
    "<g transform=\"translate(0,1) scale(.00125,4) scale(1,.005)\"><path class=\"a\" d=\"M-5 0H800\"/><text class=\"n\" x=\"-9\" y=\"4\">3</text></g>\n"
    ++ codes
    "<g transform=\"translate(0,0) scale(.00125,4) scale(1,.005)\"><path class=\"a\" d=\"M-5 0H800\"/><text class=\"n\" x=\"-9\" y=\"4\">4</text></g>\n"
    ++ codes "</svg>\n"
    ++ codes "<svg x=\"80\" width=\"800\" y=\"50\" height=\"200\" preserveAspectRatio=\"none\" viewBox=\"0 0 2 4\" overflow=\"visible\">\n"
    ++ codes "<g transform=\"scale(1,-1) translate(0,-4)\">\n"
    ++ codes "<rect class=\"p\" x=\"0\" width=\"0.9\" y=\"0\" height=\"3\"/>\n"
    ++ codes "<rect class=\"l\" x=\"0\" width=\"0.9\" y=\"0\" height=\"1\"/>\n"
    ++ codes "<rect class=\"s\" x=\"0\" width=\"0.9\" y=\"1\" height=\"2\"/>\n"
    ++ codes "<rect class=\"p\" x=\"1\" width=\"0.9\" y=\"0\" height=\"4\"/>\n"
    ++ codes "<rect class=\"l\" x=\"1\" width=\"0.9\" y=\"0\" height=\"4\"/>\n"
    ++ codes "<rect class=\"s\" x=\"1\" width=\"0.9\" y=\"4\" height=\"0\"/>\n"
    ++ codes "</g>\n"
    ++ codes "</svg>\n"
    ++ codes "<svg x=\"80\" width=\"800\" y=\"257\" height=\"8\" preserveAspectRatio=\"none\" viewBox=\"0 0 2 1\" overflow=\"visible\">\n"
    ++ codes "<rect class=\"d\" x=\"1\" width=\"0.9\" y=\"0\" height=\"1\"/>\n"
    ++ codes "</svg>\n"
    ++ codes "<svg x=\"80\" width=\"800\" y=\"267\" height=\"20\" preserveAspectRatio=\"none\" viewBox=\"0 0 2 1\" overflow=\"visible\">\n"
    ++ codes "<g transform=\"translate(0.5,0) scale(2,1) scale(.00125,.05)\"><text class=\"m\" y=\"12\">0</text></g>\n"
    ++ codes "<g transform=\"translate(1.5,0) scale(2,1) scale(.00125,.05)\"><text class=\"m\" y=\"12\">1</text></g>\n"
    ++ codes "</svg>\n"
    ++ codes "<g transform=\"translate(0,310)\"><text class=\"k\" x=\"80\" y=\"12\">a: cells 2, least -1, greatest 8</text>\n"
    ++ codes
    "<svg x=\"80\" y=\"18\" width=\"800\" height=\"25\" viewBox=\"0 0 2 1\" preserveAspectRatio=\"none\" overflow=\"visible\"><g class=\"c\">\n"
    ++ codes "<rect x=\"0\" width=\"1\" height=\"1\" fill-opacity=\".0\"/>\n"
    ++ codes "<rect x=\"1\" width=\"1\" height=\"1\" fill-opacity=\".9\"/>\n"
    ++ codes "</g>\n"
    ++ codes "<g font-size=\"12\">\n"
    ++ codes "<text class=\"v\" transform=\"translate(0.5,.68) scale(2,1) scale(.00125,.04)\">-1</text>\n"
    ++ codes "<text class=\"v\" transform=\"translate(1.5,.68) scale(2,1) scale(.00125,.04)\">8</text>\n"
    ++ codes "</g>\n"
    ++ codes "</svg><path class=\"o\" d=\"M80 18h800v25h-800z\"/></g>\n"
    ++ codes "</svg>\n"

-- three supersteps as columns, and the first two and the last joined
abbrev pub three_columns : List Column
three_columns =
    record { counts = record { phase = 0; parties = 3; left = 1; spawned = 2 }; steps = 1; prints = false }
    ∷ record { counts = record { phase = 1; parties = 4; left = 0; spawned = 1 }; steps = 1; prints = true }
    ∷ record { counts = record { phase = 2; parties = 2; left = 2; spawned = 0 }; steps = 1; prints = false } ∷ []

abbrev pub two_columns : List Column
two_columns =
    record { counts = record { phase = 0; parties = 4; left = 1; spawned = 2 }; steps = 2; prints = true }
    ∷ record { counts = record { phase = 2; parties = 2; left = 2; spawned = 0 }; steps = 1; prints = false } ∷ []

pub record PicturesAreWorkedOut : Type 0 where
  pub faulted : picture faulted_report ≡ faulted_picture
  pub ended : ending (Ended 2) ≡ codes "ended"
  pub limited : ending (Limit 2) ≡ codes "stopped at the limit"
  pub pairs : joined 2 2 three_columns ≡ two_columns
  pub alone : sharing (group_of 4000) ≡ []
  pub shared : sharing (group_of 4001) ≡ codes ", each column the greatest of 2 supersteps"
