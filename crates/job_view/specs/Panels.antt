-- What is drawn of an array (own): a strip, a board, its cells over supersteps, or a small board for each superstep.
use Rattle.std.specs.Prelude.{ℕ, zero, suc, ◌+◌, ◌-◌, ◌*◌, max, nat_le, nat_lt, if◌then◌else◌, ℤ, List, [], ◌∷◌, ◌++◌, length, take, drop, codes, decimal}
use Rattle.std.specs.Int.{div_ceil}
use Rattle.job_view.specs.Cells.{caption, escape, extent_of, strip}
use Rattle.job_view.specs.Grids.{beside, board_frame, grid, placed, small_frame, time_frame}
use Rattle.job_view.specs.declared.cells.Extent.{Extent}
use Rattle.job_view.specs.declared.grids.Frame.{Frame}
use Rattle.job_view.specs.declared.panels.Form.{Form}
use Rattle.job_view.specs.declared.panels.Form.TheVariants.{Strip, Board, OverTime, Boards, Missing}
use Rattle.job_view.specs.declared.panels.Panel.{Panel}

-- how far two rows or boards are apart
abbrev pub several : ℕ → List ℕ
several every = codes " every " ++ decimal every ++ codes " supersteps"

abbrev pub distance : ℕ → List ℕ
distance every = if nat_le every 1 then codes " a superstep" else several every

-- of how many supersteps there is one row, or one board
abbrev pub spacing : List ℕ → ℕ → List ℕ
spacing what every = codes ", a " ++ what ++ distance every

-- a number beside a row
abbrev pub row_number : ℕ → ℕ → List ℕ
row_number y n = codes "<text class=\"n\" x=\"71\" y=\"" ++ decimal y ++ codes "\">" ++ decimal n ++ codes "</text>\n"

-- the superstep of the first row, and of the last if there are several: row `i` is of superstep `every * i`
abbrev pub row_numbers : Frame → ℕ → List ℕ
row_numbers f every =
    if nat_lt 1 f.down then row_number 28 0 ++ row_number (f.top + f.high) (every * (f.down - 1)) else row_number 28 0

-- the superstep of a small board, above it
abbrev pub board_number : Frame → ℕ → List ℕ
board_number f n =
    codes "<text x=\"" ++ decimal f.left ++ codes "\" y=\"" ++ decimal (f.top - 4) ++ codes "\">" ++ decimal n ++ codes "</text>\n"

abbrev pub small_board : Frame → Extent → ℕ → ℕ → List ℤ → List ℕ
small_board f e across n values = board_number f n ++ grid f e across values

-- the last boards, out of `count`, each of `cells` cells: board `i` is of superstep `every * i`
abbrev pub boards_from : Extent → ℕ → ℕ → ℕ → ℕ → ℕ → List ℤ → List ℕ
boards_from e across every count cells zero values = []
boards_from e across every count cells (suc n) values =
    small_board (placed (small_frame across cells) (count - suc n)) e across (every * (count - suc n)) (take cells values)
    ++ boards_from e across every count cells n (drop cells values)

-- how many boards there are
abbrev pub board_count : ℕ → List ℤ → ℕ
board_count cells values = div_ceil (length values) (max cells 1)

abbrev pub small_boards : ℕ → ℕ → ℕ → List ℤ → List ℕ
small_boards across every cells values =
    boards_from (extent_of values) across every (board_count cells values) cells (board_count cells values) values

-- in rows of at least one
abbrev pub across_of : ℕ → ℕ
across_of across = max across 1

-- what is written over an array that isn't there
abbrev pub missing : ℕ → List ℕ → List ℕ
missing top name =
    codes "<g transform=\"translate(0," ++ decimal top ++ codes ")\"><text class=\"k\" x=\"80\" y=\"12\">" ++ escape name
    ++ codes ": no such array</text></g>\n"

abbrev pub board : ℕ → List ℕ → ℕ → List ℤ → ℕ → List ℕ
board top name cells values across =
    caption top name cells (extent_of values) ++ codes ", in rows of " ++ decimal across ++ codes "</text>\n"
    ++ grid (board_frame across (length values)) (extent_of values) across values ++ codes "</g>\n"

abbrev pub over_time : ℕ → List ℕ → ℕ → List ℤ → ℕ → List ℕ
over_time top name cells values every =
    caption top name cells (extent_of values) ++ spacing (codes "row") every ++ codes "</text>\n"
    ++ row_numbers (time_frame (across_of cells) (length values)) every
    ++ grid (time_frame (across_of cells) (length values)) (extent_of values) (across_of cells) values ++ codes "</g>\n"

abbrev pub boards : ℕ → List ℕ → ℕ → List ℤ → ℕ → ℕ → List ℕ
boards top name cells values across every =
    caption top name cells (extent_of values) ++ spacing (codes "board") every ++ codes "</text>\n"
    ++ small_boards across every cells values ++ codes "</g>\n"

-- what is drawn, so far below the top
abbrev pub drawn : ℕ → List ℕ → ℕ → List ℤ → Form → List ℕ
drawn top name cells values Strip = strip top (name, values)
drawn top name cells values (Board across) = board top name cells values (across_of across)
drawn top name cells values (OverTime every) = over_time top name cells values every
drawn top name cells values (Boards across every) = boards top name cells values (across_of across) every
drawn top name cells values Missing = missing top name

-- how high a panel is
abbrev pub small_lines : ℕ → ℕ → List ℤ → ℕ
small_lines across cells values =
    div_ceil (board_count cells values) (beside (small_frame across cells)) * ((small_frame across cells).high + 20)

abbrev pub height : ℕ → List ℤ → Form → ℕ
height cells values Strip = 50
height cells values (Board across) = 30 + (board_frame (across_of across) (length values)).high
height cells values (OverTime every) = 30 + (time_frame (across_of cells) (length values)).high
height cells values (Boards across every) = 30 + small_lines (across_of across) cells values
height cells values Missing = 25

-- panels one below another
abbrev pub panels_from : ℕ → List Panel → List ℕ
panels_from top [] = []
panels_from top (p ∷ ps) = drawn top p.name.now p.cells p.values.now p.form ++ panels_from (top + height p.cells p.values.now p.form) ps

-- how high they are together
abbrev pub height_of : List Panel → ℕ
height_of [] = 0
height_of (p ∷ ps) = height p.cells p.values.now p.form + height_of ps
