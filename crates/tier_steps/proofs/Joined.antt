-- Steps by seats as flat steps, seats that are joined, and seats that come in.
use Rattle.std.proofs.Common.{◌≡◌, ℕ, ◌+◌, List, [], ◌∷◌, ◌++◌, length, refl, sym, ◌∙◌, ap, subst, arith, append_assoc}
use Rattle.std.specs.Prelude.{sum_by}
use Rattle.std.specs.List.{AllByRecursion}
use Rattle.std.proofs.lemmas.List.Sums.{sum_by-append, sum_by-cons}
use Rattle.tier_steps.specs.View.{View, new_view, party_share, late_share, claim_share, advance_share}
use Rattle.tier_steps.specs.Tally.{word_at, root_phase, ViewFits, Tallies}
use Rattle.tier_steps.specs.Image.{image, label, labelled, IsAllowedLabel, LooksAlike}
use Rattle.tier_steps.specs.Laws.{IsStep, words_after, stepped_view}
use Rattle.tier_steps.specs.Known.{seated_views}
use Rattle.tier_steps.specs.Seats.{SeatsAreFlat, JoinedSeatsTally, NewSeatsTally}
use Rattle.tier_steps.proofs.Balance.{sum_around}
use Rattle.tier_steps.proofs.Keeping.{all_here, all_around}
use Rattle.tier_steps.proofs.Seats.{seats_around, regrouping_keeps_tally}
use Rattle.tier_steps.proofs.Start.{new_tokens_tally}
use Rattle.tier_steps.proofs.FlatLaw.{kinds_are_flat}

pub seats_are_flat : SeatsAreFlat
seats_are_flat ps ws front v back t kind f shape h tally needs alike =
    let v' : View = stepped_view ps ws kind t v in
    let o : ℕ = length (seated_views front) in
    let step : IsStep ps ws (seated_views front) v (seated_views back) t kind = record {
      shape = shape;
      within = h;
      needs = needs;
      tally = subst (λ (vs : List View). Tallies ps ws vs) (seats_around front back v) tally;
    } in
    subst
    (λ (vs : List View). IsAllowedLabel (label o kind) f × LooksAlike (labelled (label o kind) f) (image (words_after ws kind t v) vs))
    (sym (seats_around front back v'))
    (kinds_are_flat ps ws (seated_views front) v (seated_views back) t kind f step
    (subst (λ (vs : List View). LooksAlike f (image ws vs)) (seats_around front back v) alike))

-- a sum over all views, seat by seat
seats_sum : (f : View → ℕ) (seats : List (List View)) → sum_by f (seated_views seats) ≡ sum_by (λ views. sum_by f views) seats
seats_sum f [] = refl
seats_sum f (x ∷ seats) =
    let a = sum_by-append f x (seated_views seats) in
    let b = seats_sum f seats in
    let c = sum_by-cons (λ views. sum_by f views) x seats in
    omega arith

same_parts : (front both x y middle back : ℕ) → both ≡ x + y → front + both + (middle + 0 + back) ≡ front + x + (middle + y + back)
same_parts front both x y middle back e = omega arith

-- two seats apart
two_apart : (g : List View → ℕ) (front : List (List View)) (x : List View) (middle : List (List View)) (y : List View)
    (back : List (List View))
    → sum_by g (front ++ x ∷ (middle ++ y ∷ back)) ≡ sum_by g front + g x + (sum_by g middle + g y + sum_by g back)
two_apart g front x middle y back =
    sum_around g front (middle ++ y ∷ back) x ∙ ap (λ k. sum_by g front + g x + k) (sum_around g middle back y)

pub joined_sum : (f : View → ℕ) (front : List (List View)) (x : List View) (middle : List (List View)) (y : List View)
    (back : List (List View))
    → sum_by f (seated_views (front ++ (x ++ y) ∷ (middle ++ [] ∷ back))) ≡ sum_by f (seated_views (front ++ x ∷ (middle ++ y ∷ back)))
joined_sum f front x middle y back =
    let a = seats_sum f (front ++ (x ++ y) ∷ (middle ++ [] ∷ back)) in
    let b = seats_sum f (front ++ x ∷ (middle ++ y ∷ back)) in
    let c = two_apart (λ views. sum_by f views) front (x ++ y) middle [] back in
    let d = two_apart (λ views. sum_by f views) front x middle y back in
    let e = sum_by-append f x y in
    a ∙ (c ∙ (same_parts (sum_by (λ views. sum_by f views) front) (sum_by f (x ++ y)) (sum_by f x) (sum_by f y)
    (sum_by (λ views. sum_by f views) middle) (sum_by (λ views. sum_by f views) back) e ∙ sym (b ∙ d)))

all_append : (P : View → Type 0) (xs ys : List View) → AllByRecursion P xs → AllByRecursion P ys → AllByRecursion P (xs ++ ys)
all_append P [] ys a b = b
all_append P (x ∷ xs) ys a b = (a.0, all_append P xs ys a.1 b)

all_first : (P : View → Type 0) (xs ys : List View) → AllByRecursion P (xs ++ ys) → AllByRecursion P xs
all_first P [] ys h = tt
all_first P (x ∷ xs) ys h = (h.0, all_first P xs ys h.1)

all_last : (P : View → Type 0) (xs ys : List View) → AllByRecursion P (xs ++ ys) → AllByRecursion P ys
all_last P [] ys h = h
all_last P (x ∷ xs) ys h = all_last P xs ys h.1

-- a fact of all views is a fact of each seat's
by_seat : (P : View → Type 0) (seats : List (List View)) → AllByRecursion P (seated_views seats) → AllByRecursion (AllByRecursion P) seats
by_seat P [] h = tt
by_seat P (x ∷ seats) h = (all_first P x (seated_views seats) h, by_seat P seats (all_last P x (seated_views seats) h))

from_seats : (P : View → Type 0) (seats : List (List View)) → AllByRecursion (AllByRecursion P) seats
    → AllByRecursion P (seated_views seats)
from_seats P [] h = tt
from_seats P (x ∷ seats) h = all_append P x (seated_views seats) h.0 (from_seats P seats h.1)

joined_all : (P : View → Type 0) (front : List (List View)) (x : List View) (middle : List (List View)) (y : List View)
    (back : List (List View))
    → AllByRecursion (AllByRecursion P) (front ++ x ∷ (middle ++ y ∷ back))
    → AllByRecursion (AllByRecursion P) (front ++ (x ++ y) ∷ (middle ++ [] ∷ back))
joined_all P [] x middle y back h =
    (all_append P x y h.0 (all_here (AllByRecursion P) middle back y h.1), all_around (AllByRecursion P) middle back y [] h.1 tt)
joined_all P (z ∷ front) x middle y back h = (h.0, joined_all P front x middle y back h.1)

pub joined_seats_tally : JoinedSeatsTally
joined_seats_tally ps ws front x middle y back tally =
    let old : List (List View) = front ++ x ∷ (middle ++ y ∷ back) in
    let new : List (List View) = front ++ (x ++ y) ∷ (middle ++ [] ∷ back) in
    regrouping_keeps_tally ps ws (seated_views old) (seated_views new) tally
    (record {
      parties = λ t. joined_sum (party_share ps t) front x middle y back;
      unarrived = λ t. joined_sum (late_share (root_phase ws) ps t) front x middle y back;
      claims = λ t. joined_sum (claim_share ps t) front x middle y back;
      advances = joined_sum advance_share front x middle y back;
    })
    (from_seats (ViewFits ps (root_phase ws) (word_at ws 0).ended) new
    (joined_all (ViewFits ps (root_phase ws) (word_at ws 0).ended) front x middle y back
    (by_seat (ViewFits ps (root_phase ws) (word_at ws 0).ended) old tally.fits)))

pub seats_append : (front back : List (List View)) → seated_views (front ++ back) ≡ seated_views front ++ seated_views back
seats_append [] back = refl
seats_append (x ∷ front) back = ap (λ ys. x ++ ys) (seats_append front back) ∙ sym (append_assoc x (seated_views front) (seated_views back))

pub new_seats_tally : NewSeatsTally
new_seats_tally ps ws front back p tally =
    subst (λ (vs : List View). Tallies ps ws vs) (sym (seats_around front back (new_view p)))
    (new_tokens_tally ps ws (seated_views front) (seated_views back) p
    (subst (λ (vs : List View). Tallies ps ws vs) (seats_append front back) tally))
