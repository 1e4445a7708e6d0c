-- Which tiers a token refreshes.
use Rattle.std.proofs.Common.{◌≡◌, ◌≢◌, ℕ, ◌<◌, ◌⊎◌, inl, inr, Bool, true, ltb, eqb, not, ◌&&◌, ◌∙◌, ap}
use Rattle.std.proofs.lemmas.Bool.{lt-ltb, eq-eqb, ne_eqb}
use Rattle.tier_steps.specs.declared.view.View.{View}
use Rattle.tier_steps.specs.declared.view.Errand.TheVariants.{Rest, Climbing}
use Rattle.tier_steps.specs.declared.view.Passage.{Passage}
use Rattle.tier_laws.specs.Refreshes.{IsNext, RefreshesAreNext}

is_next : (t : ℕ) (v : View)
    → ((v.errand ≡ Rest) × (v.tier ≡ t) × (v.arrived < v.size)) ⊎ ((passage : Passage) × (v.errand ≡ Climbing t passage)) → IsNext t v
is_next t v (inl own) = inl (own.1, own.2)
is_next t v (inr climbs) = inr climbs

lags_so : (n m p q : ℕ) → 0 < n → m ≡ 0 → p ≢ q → (ltb 0 n && (eqb m 0 && not (eqb p q))) ≡ true
lags_so n m p q some none other =
    ap (λ (b : Bool). b && (eqb m 0 && not (eqb p q))) (lt-ltb 0 n some)
    ∙ (ap (λ (b : Bool). b && not (eqb p q)) (eq-eqb m 0 none) ∙ ap not (ne_eqb p q other))

pub refreshes_are_next : RefreshesAreNext
refreshes_are_next parents t w v needs =
    (is_next t v needs.leave, lags_so w.parties w.unarrived w.phase v.phase needs.some needs.arrived needs.behind)
