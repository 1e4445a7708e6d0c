-- The numbers at the axes (own): each is at its unit, and a scale that undoes the scale of the units draws it at its
-- usual size.
use Rattle.std.specs.Prelude.{ℕ, zero, suc, ◌+◌, ◌-◌, ◌/◌, nat_le, if◌then◌else◌, List, [], ◌++◌, codes, decimal}

-- a line across at `n` parties, of at most `most`
abbrev pub party_tick : ℕ → ℕ → List ℕ
party_tick most n =
    codes "<g transform=\"translate(0," ++ decimal (most - n) ++ codes ") scale(.00125," ++ decimal most
    ++ codes ") scale(1,.005)\"><path class=\"a\" d=\"M-5 0H800\"/><text class=\"n\" x=\"-9\" y=\"4\">" ++ decimal n
    ++ codes "</text></g>\n"

-- a number below the middle of its superstep, of `steps`
abbrev pub step_tick : ℕ → ℕ → List ℕ
step_tick steps n =
    codes "<g transform=\"translate(" ++ decimal n ++ codes ".5,0) scale(" ++ decimal steps
    ++ codes ",1) scale(.00125,.05)\"><text class=\"m\" y=\"12\">" ++ decimal n ++ codes "</text></g>\n"

-- the first numbers at an axis, up to a given number
abbrev pub first_ticks : (ℕ → List ℕ) → ℕ → List ℕ
first_ticks tick zero = []
first_ticks tick (suc n) = first_ticks tick n ++ tick n

-- 0, the last, and those at its quarters
abbrev pub quarters : (ℕ → List ℕ) → ℕ → List ℕ
quarters tick last = tick 0 ++ tick (last / 4) ++ tick (last / 2) ++ tick (last - last / 4) ++ tick last

-- the numbers at an axis: each up to the last, or if that is above 8 the quarters, so that none is drawn twice
abbrev pub ticks : (ℕ → List ℕ) → ℕ → List ℕ
ticks tick last = if nat_le last 8 then first_ticks tick (last + 1) else quarters tick last
