-- Where faults are shown, worked out by hand: the column and how many bytes count (own).
use Rattle.std.specs.Prelude.{◌≡◌, ℕ, List, codes}
use Rattle.text_lines.specs.declared.refusal.Code.{Code}
use Rattle.text_lines.specs.declared.refusal.Code.TheVariants.{BadByte, UnknownLine, BadNumber, BadLine, UnknownName, Twice, BadLength, Reserved, BadName, Unclosed}
use Rattle.refusal_reasons.specs.Places.{place_in}

-- the fault of this line and code of a text is shown at a column, with `count` bytes
abbrev pub IsAt : List ℕ → ℕ → Code → ℕ → ℕ → Type 0
IsAt text line code column count =
    place_in text (record { line = line; code = code }) ≡ record { line = line; code = code; column = column; count = count }

pub record PlacesAreWorkedOut : Type 0 where
  pub number : IsAt (codes "bsp 1\nbody b\n  let x = y + 05\nend\n") 3 BadNumber 15 2
  pub name : IsAt (codes "bsp 1\narray Sum 1\n") 2 BadName 7 3
  pub reserved : IsAt (codes "bsp 1\nbody b\nlet x = end\nend\n") 3 Reserved 9 3
  pub array : IsAt (codes "bsp 1\nbody b\nlet x = c[0]\nend\n") 3 UnknownName 9 1
  pub local : IsAt (codes "bsp 2\narray a 1\nbody b x\nlet x = a[0] + y\nend\n") 4 UnknownName 16 1
  pub body : IsAt (codes "bsp 1\nstart main 0\n") 2 UnknownName 7 4
  pub twice : IsAt (codes "bsp 1\narray a 1\narray a 2\n") 3 Twice 7 1
  pub long : IsAt (codes "bsp 1\narray a 5000\n") 2 BadLength 9 4
  pub line : IsAt (codes "bsp 1\n  show me\n") 2 UnknownLine 3 4
  pub words : IsAt (codes "bsp 1\nbody b\n  let x = 1 + 2 + 3\nend\n") 3 BadLine 3 17
  pub byte : IsAt (codes "bsp 1\nbody b\nlet\tx = 1\nend\n") 3 BadByte 4 1
  pub unclosed : IsAt (codes "bsp 1\nbody b\n") 3 Unclosed 1 1
  -- the word at fault, though others look like it
  pub cell_name : IsAt (codes "bsp 1\nbody b\nlet x = Y[0]\nend\n") 3 BadName 9 1
  pub cell_number : IsAt (codes "bsp 1\nbody b\nlet x = a[05]\nend\n") 3 BadNumber 11 2
  pub cell_reserved : IsAt (codes "bsp 1\nbody b\nlet x = a[end]\nend\n") 3 Reserved 11 3
  pub put_value : IsAt (codes "bsp 1\narray a 1\nbody b\nput a[0] = Y[0]\nend\n") 4 BadName 12 1
  pub compared : IsAt (codes "bsp 1\nbody b\nprint Y[0] < x\nend\n") 3 BadName 7 1
  pub own_name : IsAt (codes "bsp 1\nbody a\nlet x = a[0]\nend\n") 3 UnknownName 9 1
  pub other_local : IsAt (codes "bsp 2\nbody a m\nend\nbody b n\nlet n = m + 1\nend\n") 5 UnknownName 9 1
  pub value : IsAt (codes "bsp 1\narray a 4 1 2 x\n") 2 BadNumber 15 1
  pub length : IsAt (codes "bsp 1\narray a two\n") 2 BadNumber 9 3
  pub argument : IsAt (codes "bsp 1\nbody b\nend\nstart b x\n") 4 BadNumber 9 1
  pub twice_listed : IsAt (codes "bsp 2\nbody b x y x\n") 2 Twice 12 1
  -- the 33rd, though more than 32 are too many
  pub last_listed : IsAt
      (codes "bsp 2\nbody b l0 l1 l2 l3 l4 l5 l6 l7 l8 l9 m0 m1 m2 m3 m4 m5 m6 m7 m8 m9 n0 n1 n2 n3 n4 n5 n6 n7 n8 n9 o0 o1 l0\n")
      2 Twice 104 2
