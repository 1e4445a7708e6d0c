-- The claimed tiers of an opening, on the path from its tier to the root.
use Rattle.std.proofs.Common.{◌≡◌, ℕ, zero, suc, ◌+◌, cond, eqb, refl, ◌∙◌, ap, arith}
use Rattle.std.specs.Prelude.{slice_index}
use Rattle.std.proofs.lemmas.List.Sums.{sum_by-cons}
use Rattle.tier_steps.specs.View.{parent_of, ancestor, claimed_tiers}
use Rattle.tier_steps.specs.Path.{AncestorsAreOnThePath, ClaimsAreListed, PathsFall}
use Rattle.tier_steps.proofs.Known.{path_falls}

pub ancestors_are_on_the_path : AncestorsAreOnThePath
ancestors_are_on_the_path ps tier path first next zero h = first
ancestors_are_on_the_path ps tier path first next (suc above) h =
    let place : suc above ≡ above + 1 = omega arith in
    let below : slice_index path above ≡ ancestor ps tier above = ancestors_are_on_the_path ps tier path first next above (omega arith) in
    ap (slice_index path) place ∙ (next above (omega arith) ∙ ap (parent_of ps) below)

pub claims_are_listed : ClaimsAreListed
claims_are_listed ps tier zero u = refl
claims_are_listed ps tier (suc claimed) u =
    let a = claims_are_listed ps tier claimed u in
    let b = sum_by-cons (λ x. cond {A = ℕ} (eqb x u) 1 0) (ancestor ps tier claimed) (claimed_tiers ps tier claimed) in
    omega arith

pub paths_fall : PathsFall
paths_fall ps tier above shape place below = path_falls ps tier above shape place below
