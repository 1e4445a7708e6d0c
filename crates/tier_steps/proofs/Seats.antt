-- The tally over seats, each with a list of views.
use Rattle.std.proofs.Common.{◌≡◌, List, [], ◌∷◌, ◌++◌, refl, sym, ◌∙◌, ap, subst, arith, append_assoc}
use Rattle.tier_steps.specs.View.{View}
use Rattle.tier_steps.specs.Tally.{Tallies}
use Rattle.tier_steps.specs.Laws.{IsStep, words_after, stepped_view}
use Rattle.tier_steps.specs.Known.{seated_views, SeatsKeepTally, RegroupingKeepsTally}
use Rattle.tier_steps.proofs.KindLaw.{kinds_keep_tally}

pub seats_around : (front back : List (List View)) (v : View)
    → seated_views (front ++ (v ∷ []) ∷ back) ≡ seated_views front ++ v ∷ seated_views back
seats_around [] back v = refl
seats_around (x ∷ front) back v =
    ap (λ ys. x ++ ys) (seats_around front back v) ∙ sym (append_assoc x (seated_views front) (v ∷ seated_views back))

pub seats_keep_tally : SeatsKeepTally
seats_keep_tally ps ws front v back t kind shape h tally needs =
    let v' : View = stepped_view ps ws kind t v in
    let step : IsStep ps ws (seated_views front) v (seated_views back) t kind = record {
      shape = shape;
      within = h;
      needs = needs;
      tally = subst (λ (vs : List View). Tallies ps ws vs) (seats_around front back v) tally;
    } in
    subst (λ (vs : List View). Tallies ps (words_after ws kind t v) vs) (sym (seats_around front back v'))
    (kinds_keep_tally ps ws (seated_views front) v (seated_views back) t kind step)

pub regrouping_keeps_tally : RegroupingKeepsTally
regrouping_keeps_tally ps ws old new tally same ok = record {
  long = tally.long;
  some = tally.some;
  legal = tally.legal;
  ends = tally.ends;
  parties = λ t h c. (let a = tally.parties t h c in let b = same.parties t in omega arith);
  unarrived = λ t h c. (let a = tally.unarrived t h c in let b = same.unarrived t in omega arith);
  claims = λ t h. tally.claims t h ∙ sym (same.claims t);
  root_claims = tally.root_claims;
  phases = tally.phases;
  advances = λ e. tally.advances e ∙ sym same.advances;
  fits = ok;
}
