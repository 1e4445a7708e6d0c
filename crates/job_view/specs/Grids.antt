-- Cells in rows (own): a board, a matrix, or an array over supersteps. A cell is one unit wide and one unit high, and the file
-- says how units are scaled.
use Rattle.std.specs.Prelude.{ℕ, zero, suc, ◌+◌, ◌-◌, ◌*◌, ◌/◌, ◌%◌, min, max, ◌==◌, if◌then◌else◌, ℤ, List, [], ◌∷◌, ◌++◌, length, codes, decimal}
use Rattle.std.specs.Int.{div_ceil}
use Rattle.job_view.specs.Cells.{shade}
use Rattle.job_view.specs.declared.cells.Extent.{Extent}
use Rattle.job_view.specs.declared.grids.Frame.{Frame}

-- a cell, as a line that is as thick as it is long
abbrev pub mark : ℕ → ℕ → List ℕ
mark x y = codes "M" ++ decimal x ++ codes " " ++ decimal y ++ codes "h1"

-- the cell of this number in rows of `across`, if it is this dark
abbrev pub mark_if : Extent → ℕ → ℕ → ℕ → ℤ → List ℕ
mark_if e across dark at v = if shade e v == dark then mark (at % across) (at / across) else []

-- those of the last cells, out of `count`, that are this dark
abbrev pub marks_from : Extent → ℕ → ℕ → ℕ → List ℤ → List ℕ
marks_from e across dark count [] = []
marks_from e across dark count (v ∷ vs) = mark_if e across dark (count - length (v ∷ vs)) v ++ marks_from e across dark count vs

-- cells of one shade
abbrev pub path : ℕ → List ℕ → List ℕ
path dark marks = codes "<path opacity=\"." ++ decimal dark ++ codes "\" d=\"" ++ marks ++ codes "\"/>\n"

-- all of them, if there are any
abbrev pub shaded : ℕ → List ℕ → List ℕ
shaded dark [] = []
shaded dark (m ∷ ms) = path dark (m ∷ ms)

abbrev pub layer : Extent → ℕ → List ℤ → ℕ → List ℕ
layer e across values dark = shaded dark (marks_from e across dark (length values) values)

-- each shade from 1 to a last one: the least stays white
abbrev pub layers : Extent → ℕ → List ℤ → ℕ → List ℕ
layers e across values zero = []
layers e across values (suc n) = layers e across values n ++ layer e across values (n + 1)

-- where cells are drawn, and how many there are across and down
abbrev pub frame_head : Frame → List ℕ
frame_head f =
    codes "<svg x=\"" ++ decimal f.left ++ codes "\" y=\"" ++ decimal f.top ++ codes "\" width=\"" ++ decimal f.wide ++ codes "\" height=\""
    ++ decimal f.high
    ++ codes "\" viewBox=\"0 -.5 " ++ decimal f.across ++ codes " " ++ decimal f.down
    ++ codes "\" preserveAspectRatio=\"none\" stroke=\"#6d9fd6\">\n"

-- a line round them
abbrev pub frame_end : Frame → List ℕ
frame_end f =
    codes "</svg><path class=\"o\" d=\"M" ++ decimal f.left ++ codes " " ++ decimal f.top ++ codes "h" ++ decimal f.wide ++ codes "v"
    ++ decimal f.high
    ++ codes "h-" ++ decimal f.wide ++ codes "z\"/>\n"

abbrev pub grid : Frame → Extent → ℕ → List ℤ → List ℕ
grid f e across values = frame_head f ++ layers e across values 9 ++ frame_end f

-- how long the side of a cell is, so that `across` of them fit: at most `longest`
abbrev pub side : ℕ → ℕ → ℕ → ℕ
side room longest across = max 1 (min longest (room / across))

-- `count` cells in rows of `across`: squares, unless there are too many for the room
abbrev pub sized : ℕ → ℕ → ℕ → ℕ → ℕ → Frame
sized wide high longest across count = record {
  left = 80;
  top = 18;
  wide = min wide (across * side wide longest across);
  high = min high (div_ceil count across * side wide longest across);
  across = across;
  down = div_ceil count across;
}

-- one large board
abbrev pub board_frame : ℕ → ℕ → Frame
board_frame across count = sized 800 600 20 across count

-- an array over supersteps, with room for two numbers beside it
abbrev pub time_frame : ℕ → ℕ → Frame
time_frame across count = record (sized 800 600 20 across count) { high = max 24 (sized 800 600 20 across count).high }

-- how many small boards are side by side
abbrev pub beside : Frame → ℕ
beside f = 800 / (f.wide + 8)

-- one of many small boards, by its number
abbrev pub placed : Frame → ℕ → Frame
placed f number = record f {
  left = 80 + number % beside f * (f.wide + 8);
  top = 38 + number / beside f * (f.high + 20);
}

abbrev pub small_frame : ℕ → ℕ → Frame
small_frame across cells = sized 152 152 8 across cells
