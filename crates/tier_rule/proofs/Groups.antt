-- The laws of the steps of tokens that share a seat.
use Rattle.std.proofs.Common.{◌≡◌, ℕ, suc, ◌+◌, ⊎_elim, Bool, false, List, take, [], ◌∷◌, ◌++◌, length, set, refl, sym, ◌∙◌, ap, subst, length-append}
use Rattle.std.specs.List.{AllByRecursion}
use Rattle.phaser_word.specs.Fields.{Fields}
use Rattle.tier_steps.specs.declared.view.View.{View}
use Rattle.tier_steps.specs.declared.kind.Kind.{Kind}
use Rattle.tier_steps.specs.declared.kind.Kind.TheVariants.{Advance}
use Rattle.tier_steps.specs.Tally.{word_at, root_phase, Tallies}
use Rattle.tier_steps.specs.Laws.{words_after, stepped_view, IsStep}
use Rattle.tier_steps.specs.Image.{image, label, labelled, IsAllowedLabel, LooksAlike}
use Rattle.tier_steps.specs.Due.{is_advance}
use Rattle.tier_steps.proofs.Due.{everyone_here}
use Rattle.tier_steps.proofs.FlatLaw.{kinds_are_flat}
use Rattle.tier_steps.proofs.Ready.{advances_are_due, phases_stay}
use Rattle.tier_rule.specs.declared.sight.Key.{Key}
use Rattle.tier_rule.specs.declared.sight.Sight.{Sight}
use Rattle.tier_rule.specs.Reach.{those, views_of}
use Rattle.tier_rule.specs.Laws.{HasArrived, MayStep, number_of, StepsAreFlat, AdvancesWaitForAll, RunsAreSteps}
use Rattle.tier_rule.proofs.Seats.{amid}
use Rattle.tier_rule.proofs.Reaching.{shaped, reached_states_tally}
use Rattle.tier_rule.proofs.Leaving.{advance_or_not, all_arrived}
use Rattle.tier_rule.proofs.Going.{goes_on}

those_long : (l : List Sight) → length (those l) ≡ length l
those_long [] = refl
those_long (x ∷ xs) = ap suc (those_long xs)

pub step_amid : (k : Key) (ws : List Fields) (vs : List (List Sight)) (id t : ℕ) (front : List Sight) (x : Sight) (back : List Sight)
    (kind : Kind)
    → (m : MayStep k ws vs id t front x back kind)
    → IsStep k.shape ws (amid vs id front x back m.seat).front x.view (amid vs id front x back m.seat).back t kind
step_amid k ws vs id t front x back kind m =
    let a = amid vs id front x back m.seat in record {
      shape = (shaped k ws vs m.reached).shape;
      within = m.within;
      tally = subst (λ (us : List View). Tallies k.shape ws us) a.is (reached_states_tally k ws vs m.reached);
      needs = m.needs;
    }

pub steps_are_flat : StepsAreFlat
steps_are_flat k ws vs id t front x y back kind f m is alike =
    let a = amid vs id front x back m.seat in
    let n : length a.front ≡ number_of vs id front =
    ap length (sym a.before)
    ∙ (length-append (views_of (take id vs)) (those front) ∙ ap (λ (z : ℕ). length (views_of (take id vs)) + z) (those_long front)) in
    let flat =
    kinds_are_flat k.shape ws a.front x.view a.back t kind f (step_amid k ws vs id t front x back kind m)
    (subst (λ (us : List View). LooksAlike f (image ws us)) a.is alike) in
    let after : a.front ++ stepped_view k.shape ws kind t x.view ∷ a.back ≡ views_of (set vs id (front ++ y ∷ back)) =
    ap (λ (v : View). a.front ++ v ∷ a.back) (sym is) ∙ sym (a.after y) in
    subst
    (λ (z : ℕ × List View). IsAllowedLabel (label z.0 kind) f
    × LooksAlike (labelled (label z.0 kind) f) (image (words_after ws kind t x.view) z.1))
    (λ i. (n i, after i)) flat

pub advances_wait_for_all : AdvancesWaitForAll
advances_wait_for_all k words seats id t front x back kind reached at within needs leaves =
    let a = amid seats id front x back at in
    let tally : Tallies k.shape words (a.front ++ x.view ∷ a.back) =
    subst (λ (vs : List View). Tallies k.shape words vs) a.is (reached_states_tally k words seats reached) in
    let step : IsStep k.shape words a.front x.view a.back t kind =
    record { shape = (shaped k words seats reached).shape; within = within; tally = tally; needs = needs } in
    subst (λ (vs : List View). AllByRecursion (HasArrived (word_at words 0).phase) vs) (sym a.is)
    (⊎_elim
    (λ (no_advance : is_advance kind ≡ false). absurd (leaves (phases_stay k.shape words a.front x.view a.back t kind 0 step no_advance tally.some refl)))
    (λ (e : (ends : Bool) × (kind ≡ Advance ends)).
    let ready =
    advances_are_due k.shape words a.front x.view a.back t e.0
    (subst (λ (z : Kind). IsStep k.shape words a.front x.view a.back t z) e.1 step) in
    all_arrived k.shape (root_phase words) (word_at words 0).ended (a.front ++ x.view ∷ a.back) tally.fits
    (everyone_here (root_phase words) 0 (a.front ++ x.view ∷ a.back) ready.everyone))
    (advance_or_not kind))

pub runs_are_steps : RunsAreSteps
runs_are_steps k words seats id t word old new r at inside g =
    goes_on k t (word_at words t) word old new g [] words seats id r at inside refl
