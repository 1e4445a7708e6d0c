-- What a text of widths means, as a function (own).
use Rattle.std.specs.Prelude.{◌≡◌, ◌↔◌, ℕ, Bool, true, false, ◌&&◌, ◌==◌, nat_lt, if◌then◌else◌, List, [], ◌∷◌, length, find, codes, Option, Some, None, Result, Ok, Err}
use Rattle.std.specs.List.{range_with_len, slice_split}
use Rattle.std.specs.Fmt.{decimal}
use Rattle.tier_shape.specs.Widths.{tiers_of, tree_of, IsWidthsText}
use Rattle.tier_shape.specs.declared.ShapeFault.{ShapeFault}
use Rattle.tier_shape.specs.declared.ShapeFault.TheVariants.{TooManyTiers, TooDeep, BadText}

-- whether two texts are the same
abbrev pub same_text : List ℕ → List ℕ → Bool
same_text [] [] = true
same_text [] (y ∷ ys) = false
same_text (x ∷ xs) [] = false
same_text (x ∷ xs) (y ∷ ys) = (x == y) && same_text xs ys

-- the number from 1 to 64 whose digits these are
unfoldable pub width_in_text : List ℕ → Option ℕ
width_in_text digits = find (λ width. same_text (decimal width) digits) (range_with_len 1 64)

-- one number before others, if there are all
abbrev pub put_before : Option ℕ → Option (List ℕ) → Option (List ℕ)
put_before None others = None
put_before (Some width) None = None
put_before (Some width) (Some widths) = Some (width ∷ widths)

-- the numbers of all pieces
abbrev pub pieces_in_text : List (List ℕ) → Option (List ℕ)
pieces_in_text [] = Some []
pieces_in_text (piece ∷ pieces) = put_before (width_in_text piece) (pieces_in_text pieces)

-- the widths that a text says
abbrev pub widths_in_text : List ℕ → Option (List ℕ)
widths_in_text text = if same_text text (codes "flat") then Some [] else pieces_in_text (slice_split (λ byte. byte == 120) text)

-- the tree of widths, or why there is none
abbrev pub tree_in_text : Option (List ℕ) → Result (List ℕ) ShapeFault
tree_in_text None = Err BadText
tree_in_text (Some widths) =
    if nat_lt 6 (length widths) then Err TooDeep else (if nat_lt 64 (tiers_of widths) then Err TooManyTiers else Ok (tree_of widths))

-- the shape that a text says, or its refusal
abbrev pub shape_in_text : List ℕ → Result (List ℕ) ShapeFault
shape_in_text text = tree_in_text (widths_in_text text)

-- the function gives just what the text says
abbrev pub TextsAreSpelledOut : Type 0
TextsAreSpelledOut = (text widths : List ℕ) → (widths_in_text text ≡ Some widths) ↔ IsWidthsText text widths
