-- A tree in which nobody has an errand waits for somebody, if it has a member.
use Rattle.std.proofs.Common.{◌≡◌, ◌≢◌, ℕ, ◌+◌, ◌<◌, ⊎_elim, Bool, true, cond, eqb, List, length, refl, sym, ◌∙◌, ap, subst, arith}
use Rattle.std.specs.Prelude.{sum_by}
use Rattle.std.specs.List.{AllByRecursion}
use Rattle.std.proofs.lemmas.Bool.{cases_eq, eq-eqb, ne_eqb}
use Rattle.flat_phaser.specs.Flat.{unarrived, everyone_arrived}
use Rattle.tier_steps.specs.Word.{Fields, late}
use Rattle.tier_steps.specs.View.{View, Rest, only_at, errand_parties, is_hidden, party_share, errand_advances, advance_share}
use Rattle.tier_steps.specs.Tally.{word_at, root_phase, ViewFits, is_zero}
use Rattle.tier_steps.specs.Image.{image, all_members}
use Rattle.tier_steps.specs.Due.{QuietTreesAwaitSomebody}
use Rattle.tier_steps.proofs.Keeping.{all_map}
use Rattle.tier_steps.proofs.Pass.{only_here}
use Rattle.tier_steps.proofs.Chains.{zero_each, each_below, both}
use Rattle.tier_steps.proofs.Due.{all_still, sum_zero}
use Rattle.tier_steps.proofs.Ready.{no_parties, resting, members_are_sizes}
use Rattle.tier_steps.proofs.Owners.{all_by_count}

-- a token at rest that counts no party at its tier has no members
memberless : (ps : List ℕ) (root : ℕ) (ended : Bool) (v : View) → ViewFits ps root ended v → v.errand ≡ Rest
    → ((t : ℕ) → t < length ps → party_share ps t v ≡ 0) → v.size ≡ 0
memberless ps root ended v ok rest none = ⊎_elim (λ (z : v.size ≡ 0). z)
    (λ (n : v.size ≢ 0). absurd (
    let a = none v.tier (ok.placed (omega arith)) in
    let b : party_share ps v.tier v ≡ only_at v.tier v.size v.tier + 0 =
    ap (λ e. cond (is_hidden e) 0 (only_at v.tier v.size v.tier) + errand_parties ps e v.tier) rest in
    let c = only_here v.tier v.size in omega arith))
    (cases_eq v.size 0)

-- a root that nobody advances, and at which nobody is late, has no parties
root_empty : (root : ℕ) (w : Fields) → w.phase ≡ root → late root w ≡ 0 → is_zero w.unarrived ≡ 0 → w.parties ≡ 0
root_empty root w here none some = ⊎_elim (λ (z : w.parties ≡ 0). z)
    (λ (n : w.parties ≢ 0). absurd (
    let a : late root w ≡ w.unarrived = ap (λ b. cond b 0 (cond (eqb w.phase root) w.unarrived w.parties)) (ne_eqb w.parties 0 n)
    ∙ ap (λ b. cond b w.unarrived w.parties) (eq-eqb w.phase root here) in
    let b : is_zero w.unarrived ≡ 1 = ap (λ x. cond {A = ℕ} x 1 0) (eq-eqb w.unarrived 0 (omega arith)) in
    omega arith))
    (cases_eq w.parties 0)

pub quiet_trees_await_somebody : QuietTreesAwaitSomebody
quiet_trees_await_somebody ps ws vs shape tally going quiet some =
    let f : ℕ = unarrived (image ws vs) in
    ⊎_elim
    (λ (z : unarrived (image ws vs) ≡ 0). absurd (
    let everyone : everyone_arrived (root_phase ws) (all_members 0 vs) ≡ true =
    all_by_count (root_phase ws) (all_members 0 vs) ∙ eq-eqb (unarrived (image ws vs)) 0 z in
    let still = all_still ps ws vs shape tally going everyone (resting vs quiet) 0 tally.some in
    let nobody : sum_by advance_share vs ≡ 0 = sum_zero advance_share vs
    (all_map (λ v. v.errand ≡ Rest) (λ v. advance_share v ≡ 0) (λ v e. ap errand_advances e) vs quiet) in
    let none = root_empty (root_phase ws) (word_at ws 0) refl still (tally.advances going ∙ nobody) in
    let empty : AllByRecursion (λ v. v.size ≡ 0) vs =
    all_map
    (λ v. (ViewFits ps (root_phase ws) (word_at ws 0).ended v × (v.errand ≡ Rest)) × ((t : ℕ) → t < length ps → party_share ps t v ≡ 0))
    (λ v. v.size ≡ 0) (λ v h. memberless ps (root_phase ws) (word_at ws 0).ended v h.0.0 h.0.1 h.1) vs
    (both (λ v. ViewFits ps (root_phase ws) (word_at ws 0).ended v × (v.errand ≡ Rest)) (λ v. (t : ℕ) → t < length ps → party_share ps t v ≡ 0) vs
    (both (ViewFits ps (root_phase ws) (word_at ws 0).ended) (λ v. v.errand ≡ Rest) vs tally.fits quiet)
    (each_below (λ t v. party_share ps t v ≡ 0) (length ps) vs
    (λ t h. zero_each (party_share ps t) vs (no_parties ps ws vs shape tally going none t (subst (λ (n : ℕ). t < n) (sym tally.long) h))))) in
    let sizes = members_are_sizes ps ws vs tally in
    let zero = sum_zero (λ (v : View). v.size) vs empty in
    omega arith))
    (λ (n : unarrived (image ws vs) ≢ 0). omega arith)
    (cases_eq (unarrived (image ws vs)) 0)
