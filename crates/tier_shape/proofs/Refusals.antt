-- Which text is refused how.
use Rattle.std.proofs.Common.{◌≡◌, ◌↔◌, ℕ, List, length, Result, Ok, Err, MatchResult, refl, ap, arith}
use Rattle.std.specs.Result.{IsErrOf}
use Rattle.tier_shape.specs.declared.ShapeFault.{ShapeFault}
use Rattle.tier_shape.specs.declared.ShapeFault.TheVariants.{NoTier, TooManyTiers, ParentNotEarlier, TooDeep, BadText, Memory}
use Rattle.tier_shape.specs.Faults.{IsRefusedText}
use Rattle.tier_shape.specs.Widths.{IsWidthsText, IsBadText, IsDeepText, IsWideText, IsGoodText, tiers_of}
use Rattle.tier_shape.proofs.Joined.{one_reading}

-- the widths of two readings of a text are equally many, and so are their tiers
same_length : (text ws vs : List ℕ) → IsWidthsText text ws → IsWidthsText text vs → length ws ≡ length vs
same_length text ws vs a b = ap length (one_reading text ws vs a b)

same_tiers : (text ws vs : List ℕ) → IsWidthsText text ws → IsWidthsText text vs → tiers_of ws ≡ tiers_of vs
same_tiers text ws vs a b = ap tiers_of (one_reading text ws vs a b)

deep_or_wide : (text : List ℕ) → IsDeepText text → IsWideText text → ⊥
deep_or_wide text deep wide = let e = same_length text deep.0 wide.0 deep.1 wide.1 in omega (arith, e, deep.2, wide.2)

deep_or_good : (text : List ℕ) → IsDeepText text → IsGoodText text → ⊥
deep_or_good text deep good = let e = same_length text deep.0 good.1.widths deep.1 good.1.says in omega (arith, e, deep.2, good.1.near)

wide_or_good : (text : List ℕ) → IsWideText text → IsGoodText text → ⊥
wide_or_good text wide good = let e = same_tiers text wide.0 good.1.widths wide.1 good.1.says in omega (arith, e, wide.3, good.1.few)

module _ {X : Type 0} where
  pub exact_bad : (text : List ℕ) (good : X → Type 0) (one : (x : X) → good x → IsGoodText text) (r : Result X ShapeFault)
      → MatchResult r good (λ fault. IsRefusedText text fault) → IsErrOf r BadText ↔ IsBadText text
  exact_bad text good one (Ok x) h = (λ e. cc, λ bad. let g = one x h in absurd (bad g.1.widths g.1.says))
  exact_bad text good one (Err NoTier) h = absurd h
  exact_bad text good one (Err TooManyTiers) h = (λ e. cc, λ bad. absurd (bad h.0 h.1))
  exact_bad text good one (Err ParentNotEarlier) h = absurd h
  exact_bad text good one (Err TooDeep) h = (λ e. cc, λ bad. absurd (bad h.0 h.1))
  exact_bad text good one (Err BadText) h = (λ e. h, λ bad. refl)
  exact_bad text good one (Err (Memory a)) h = (λ e. cc, λ bad. absurd (bad h.1.widths h.1.says))

  pub exact_deep : (text : List ℕ) (good : X → Type 0) (one : (x : X) → good x → IsGoodText text) (r : Result X ShapeFault)
      → MatchResult r good (λ fault. IsRefusedText text fault) → IsErrOf r TooDeep ↔ IsDeepText text
  exact_deep text good one (Ok x) h = (λ e. cc, λ deep. absurd (deep_or_good text deep (one x h)))
  exact_deep text good one (Err NoTier) h = absurd h
  exact_deep text good one (Err TooManyTiers) h = (λ e. cc, λ deep. absurd (deep_or_wide text deep h))
  exact_deep text good one (Err ParentNotEarlier) h = absurd h
  exact_deep text good one (Err TooDeep) h = (λ e. h, λ deep. refl)
  exact_deep text good one (Err BadText) h = (λ e. cc, λ deep. absurd (h deep.0 deep.1))
  exact_deep text good one (Err (Memory a)) h = (λ e. cc, λ deep. absurd (deep_or_good text deep h))

  pub exact_wide : (text : List ℕ) (good : X → Type 0) (one : (x : X) → good x → IsGoodText text) (r : Result X ShapeFault)
      → MatchResult r good (λ fault. IsRefusedText text fault) → IsErrOf r TooManyTiers ↔ IsWideText text
  exact_wide text good one (Ok x) h = (λ e. cc, λ wide. absurd (wide_or_good text wide (one x h)))
  exact_wide text good one (Err NoTier) h = absurd h
  exact_wide text good one (Err TooManyTiers) h = (λ e. h, λ wide. refl)
  exact_wide text good one (Err ParentNotEarlier) h = absurd h
  exact_wide text good one (Err TooDeep) h = (λ e. cc, λ wide. absurd (deep_or_wide text h wide))
  exact_wide text good one (Err BadText) h = (λ e. cc, λ wide. absurd (h wide.0 wide.1))
  exact_wide text good one (Err (Memory a)) h = (λ e. cc, λ wide. absurd (wide_or_good text wide h))
