-- Panels worked out by hand, line by line (own).
use Rattle.std.specs.Prelude.{◌≡◌, ℕ, ℤ, pos, List, [], ◌∷◌, ◌++◌, codes, Some}
use Rattle.phase_records.specs.Status.{Ended}
use Rattle.job_view.specs.Cells.{escape}
use Rattle.job_view.specs.Panels.{drawn, height}
use Rattle.job_view.specs.Picture.{title}
use Rattle.job_view.specs.declared.panels.Form.TheVariants.{Board, OverTime, Boards, Missing}

abbrev pub board_values : List ℤ
board_values = pos 0 ∷ pos 5 ∷ pos 9 ∷ pos 0 ∷ []

-- a board of two rows
abbrev pub worked_board : List ℕ
worked_board =
    codes "<g transform=\"translate(0,310)\"><text class=\"k\" x=\"80\" y=\"12\">b: cells 4, least 0, greatest 9, in rows of 2</text>\n"
    ++ codes "<svg x=\"80\" y=\"18\" width=\"40\" height=\"40\" viewBox=\"0 -.5 2 2\" preserveAspectRatio=\"none\" stroke=\"#6d9fd6\">\n"
    ++ codes "<path opacity=\".5\" d=\"M1 0h1\"/>\n"
    ++ codes "<path opacity=\".9\" d=\"M0 1h1\"/>\n"
    ++ codes "</svg><path class=\"o\" d=\"M80 18h40v40h-40z\"/>\n"
    ++ codes "</g>\n"

-- three cells at the supersteps 0 and 3
abbrev pub time_values : List ℤ
time_values = pos 0 ∷ pos 1 ∷ pos 2 ∷ pos 2 ∷ pos 1 ∷ pos 0 ∷ []

abbrev pub worked_over_time : List ℕ
worked_over_time =
    codes
    "<g transform=\"translate(0,380)\"><text class=\"k\" x=\"80\" y=\"12\">t: cells 3, least 0, greatest 2, a row every 3 supersteps</text>\n"
    ++ codes "<text class=\"n\" x=\"71\" y=\"28\">0</text>\n"
    ++ codes "<text class=\"n\" x=\"71\" y=\"58\">3</text>\n"
    ++ codes "<svg x=\"80\" y=\"18\" width=\"60\" height=\"40\" viewBox=\"0 -.5 3 2\" preserveAspectRatio=\"none\" stroke=\"#6d9fd6\">\n"
    ++ codes "<path opacity=\".4\" d=\"M1 0h1M1 1h1\"/>\n"
    ++ codes "<path opacity=\".9\" d=\"M2 0h1M0 1h1\"/>\n"
    ++ codes "</svg><path class=\"o\" d=\"M80 18h60v40h-60z\"/>\n"
    ++ codes "</g>\n"

-- a board of two rows at the supersteps 0 and 1
abbrev pub boards_values : List ℤ
boards_values = pos 0 ∷ pos 1 ∷ pos 1 ∷ pos 0 ∷ pos 1 ∷ pos 0 ∷ pos 0 ∷ pos 1 ∷ []

abbrev pub worked_boards : List ℕ
worked_boards =
    codes
    "<g transform=\"translate(0,450)\"><text class=\"k\" x=\"80\" y=\"12\">g: cells 4, least 0, greatest 1, a board a superstep</text>\n"
    ++ codes "<text x=\"80\" y=\"34\">0</text>\n"
    ++ codes "<svg x=\"80\" y=\"38\" width=\"16\" height=\"16\" viewBox=\"0 -.5 2 2\" preserveAspectRatio=\"none\" stroke=\"#6d9fd6\">\n"
    ++ codes "<path opacity=\".9\" d=\"M1 0h1M0 1h1\"/>\n"
    ++ codes "</svg><path class=\"o\" d=\"M80 38h16v16h-16z\"/>\n"
    ++ codes "<text x=\"104\" y=\"34\">1</text>\n"
    ++ codes "<svg x=\"104\" y=\"38\" width=\"16\" height=\"16\" viewBox=\"0 -.5 2 2\" preserveAspectRatio=\"none\" stroke=\"#6d9fd6\">\n"
    ++ codes "<path opacity=\".9\" d=\"M0 0h1M1 1h1\"/>\n"
    ++ codes "</svg><path class=\"o\" d=\"M104 38h16v16h-16z\"/>\n"
    ++ codes "</g>\n"

-- Each form of panel but the strip, with its height, and a title with a name.
pub record PanelsAreWorkedOut : Type 0 where
  pub board : drawn 310 (codes "b") 4 board_values (Board 2) ≡ worked_board
  pub over_time : drawn 380 (codes "t") 3 time_values (OverTime 3) ≡ worked_over_time
  pub boards : drawn 450 (codes "g") 4 boards_values (Boards 2 1) ≡ worked_boards
  pub missing : drawn 516 (codes "no") 0 [] Missing
      ≡ codes "<g transform=\"translate(0,516)\"><text class=\"k\" x=\"80\" y=\"12\">no: no such array</text></g>\n"
  pub board_height : height 4 board_values (Board 2) ≡ 70
  pub over_time_height : height 3 time_values (OverTime 3) ≡ 70
  pub boards_height : height 4 boards_values (Boards 2 1) ≡ 66
  pub named : title (Some (codes "a<b")) 2 4 (Ended 2)
      ≡ codes "<text class=\"t\" x=\"20\" y=\"24\">a&lt;b: supersteps 2, parties at most 4, ended</text>\n"
  pub ampersand : title (Some (codes "a & b>c")) 2 4 (Ended 2)
      ≡ codes "<text class=\"t\" x=\"20\" y=\"24\">a &amp; b&gt;c: supersteps 2, parties at most 4, ended</text>\n"
  pub bytes : escape (97 ∷ 27 ∷ 13 ∷ 98 ∷ []) ≡ codes "a  b"
  pub none : escape (97 ∷ 239 ∷ 191 ∷ 191 ∷ 98 ∷ 239 ∷ 191 ∷ 189 ∷ []) ≡ 97 ∷ 32 ∷ 98 ∷ 239 ∷ 191 ∷ 189 ∷ []
  pub unnamed : title (Some []) 2 4 (Ended 2) ≡ codes "<text class=\"t\" x=\"20\" y=\"24\">supersteps 2, parties at most 4, ended</text>\n"
