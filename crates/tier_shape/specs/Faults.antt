-- The numbers and names of the refusals of a shape (own).
use Rattle.std.specs.Prelude.{ℕ, List, Option, Some, None, codes}
use Rattle.tier_shape.specs.Widths.{IsBadText, IsDeepText, IsWideText, IsGoodText}
use Rattle.tier_shape.specs.declared.ShapeFault.{ShapeFault}
use Rattle.tier_shape.specs.declared.ShapeFault.TheVariants.{NoTier, TooManyTiers, ParentNotEarlier, TooDeep, BadText, Memory}

-- the number of a refusal; running out of memory has none
abbrev pub fault_number : ShapeFault → Option ℕ
fault_number NoTier = Some 1
fault_number TooManyTiers = Some 2
fault_number ParentNotEarlier = Some 3
fault_number TooDeep = Some 4
fault_number BadText = Some 5
fault_number (Memory e) = None

-- its name
abbrev pub fault_name : ShapeFault → List ℕ
fault_name NoTier = codes "NoTier"
fault_name TooManyTiers = codes "TooManyTiers"
fault_name ParentNotEarlier = codes "ParentNotEarlier"
fault_name TooDeep = codes "TooDeep"
fault_name BadText = codes "BadText"
fault_name (Memory e) = codes "Memory"

-- what a text is like that is refused so
abbrev pub IsRefusedText : List ℕ → ShapeFault → Type 0
IsRefusedText text NoTier = ⊥
IsRefusedText text TooManyTiers = IsWideText text
IsRefusedText text ParentNotEarlier = ⊥
IsRefusedText text TooDeep = IsDeepText text
IsRefusedText text BadText = IsBadText text
IsRefusedText text (Memory e) = IsGoodText text
