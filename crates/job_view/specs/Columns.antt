-- The columns of a picture (own): a superstep is one unit wide and a party one unit high, and the file says how units are
-- scaled. Over 4000 supersteps share columns.
use Rattle.std.specs.Prelude.{ℕ, zero, suc, ◌-◌, max, Bool, false, ◌||◌, ◌==◌, if◌then◌else◌, List, [], ◌∷◌, ◌++◌, take, drop, length, codes, decimal}
use Rattle.std.specs.List.{fold}
use Rattle.phase_records.specs.declared.record.PhaseRecord.{PhaseRecord}
use Rattle.phase_records.specs.PrintValue.{PrintValue}
use Rattle.phase_records.specs.ReportText.{rest_of}
use Rattle.job_view.specs.declared.columns.Column.{Column}

-- whether the first of these prints is of this superstep
abbrev pub begins : ℕ → List PrintValue → Bool
begins step [] = false
begins step (p ∷ ps) = p.step == step

-- a column for each superstep, beside whether tasks printed in it
abbrev pub columns_of : List PrintValue → List PhaseRecord → List Column
columns_of prints [] = []
columns_of prints (r ∷ rs) = record { counts = r; steps = 1; prints = begins r.phase prints } ∷ columns_of (rest_of r.phase prints) rs

abbrev pub no_superstep : Column
no_superstep = record { counts = record { phase = 0; parties = 0; left = 0; spawned = 0 }; steps = 0; prints = false }

-- the greater of each count, from where the first begins on
abbrev pub greater : Column → Column → Column
greater a b = record {
  counts = record {
    phase = a.counts.phase;
    parties = max a.counts.parties b.counts.parties;
    left = max a.counts.left b.counts.left;
    spawned = max a.counts.spawned b.counts.spawned;
  };
  steps = a.steps;
  prints = a.prints || b.prints;
}

abbrev pub greatest : List Column → Column
greatest [] = no_superstep
greatest (c ∷ cs) = fold greater c cs

-- a number of columns, each the greatest of `group`, the last of what is left
abbrev pub joined : ℕ → ℕ → List Column → List Column
joined zero group columns = []
joined (suc n) group columns =
    record (greatest (take group columns)) { steps = length (take group columns) } ∷ joined n group (drop group columns)

-- a rectangle of a class: where it begins, over `steps` supersteps with a tenth of one left free, how far up, and how
-- high
abbrev pub bar : List ℕ → ℕ → ℕ → ℕ → ℕ → List ℕ
bar class at steps up height =
    codes "<rect class=\"" ++ class ++ codes "\" x=\"" ++ decimal at ++ codes "\" width=\"" ++ decimal (steps - 1) ++ codes ".9\" y=\""
    ++ decimal up
    ++ codes "\" height=\"" ++ decimal height ++ codes "\"/>\n"

-- the parties of a column; before them those that left, from the bottom, and those that were spawned, from the top
abbrev pub bars : Column → List ℕ
bars c =
    bar (codes "p") c.counts.phase c.steps 0 c.counts.parties ++ bar (codes "l") c.counts.phase c.steps 0 c.counts.left
    ++ bar (codes "s") c.counts.phase c.steps (c.counts.parties - c.counts.spawned) c.counts.spawned

-- a tick where tasks printed
abbrev pub tick : Column → List ℕ
tick c = if c.prints then bar (codes "d") c.counts.phase c.steps 0 1 else []
