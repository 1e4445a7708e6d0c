-- The tree as it is made, and a token that comes in.
use Rattle.std.proofs.Common.{◌≡◌, ℕ, zero, suc, ◌<◌, ◌≤◌, Bool, true, false, cond, List, [], ◌∷◌, ◌++◌, length, refl, sym, ◌∙◌, ap, subst, arith, Some, None}
use Rattle.std.specs.Prelude.{sum_by, replicate, ◌&&◌}
use Rattle.std.specs.List.{AllByRecursion}
use Rattle.std.proofs.lemmas.List.Sums.{sum_by-append}
use Rattle.tier_steps.specs.Word.{Fields, IsLegal, is_being_opened, late}
use Rattle.tier_steps.specs.View.{View, new_view, party_share, late_share, claim_share, advance_share}
use Rattle.tier_steps.specs.Tally.{word_at, root_phase, ViewFits, bit, is_zero, Tallies}
use Rattle.std.proofs.lemmas.List.{length-replicate}
use Rattle.tier_steps.specs.Start.{empty_word, empty_words, StartTallies, EmptyTreesHaveNoMembers, NewTokensTally, NewTokensAreUnseen}
use Rattle.tier_steps.proofs.Balance.{sum_around}
use Rattle.tier_steps.proofs.Due.{children_none}
use Rattle.tier_steps.proofs.Quiet.{resting_absent, Absent}
use Rattle.tier_steps.proofs.Seats.{regrouping_keeps_tally}
use Rattle.flat_phaser.specs.declared.Member.{Member}
use Rattle.flat_phaser.specs.Flat.{Flat, everyone_arrived}
use Rattle.tier_steps.specs.Image.{token_members, all_members, is_climbing, some_climbing, image, LooksAlike}
use Rattle.flat_phaser.specs.Flat.{empty_in}

at_replicate : (n t : ℕ) (w : Fields) → t < n → word_at (replicate n w) t ≡ w
at_replicate zero t w h = absurd (omega arith)
at_replicate (suc n) zero w h = refl
at_replicate (suc n) (suc t) w h = at_replicate n t w (omega arith)

pub nobody_tallies : (ps : List ℕ) (p : ℕ) → p ≤ 2147483647 → 0 < length ps → Tallies ps (empty_words ps p) []
nobody_tallies ps p legal some =
    let ws : List Fields = replicate (length ps) (empty_word p) in
    let long : length (replicate (length ps) (empty_word p)) ≡ length ps = length-replicate (length ps) (empty_word p) in
    let at : (t : ℕ) → t < length ws → word_at ws t ≡ empty_word p = λ t h.
    at_replicate (length ps) t (empty_word p) (subst (λ (n : ℕ). t < n) long h) in
    let root : word_at ws 0 ≡ empty_word p = at 0 (subst (λ (n : ℕ). 0 < n) (sym long) some) in
    record {
      long = long;
      some = subst (λ (n : ℕ). 0 < n) (sym long) some;
      legal = λ t h. subst IsLegal (sym (at t h)) (record { phase = legal; parties = omega arith; unarrived = omega arith });
      ends = λ t _ h. ap (λ (w : Fields). w.ended) (at t h);
      parties = λ t h c.
          let a : (word_at ws t).parties ≡ 0 = ap (λ (w : Fields). w.parties) (at t h) in
          let b = children_none (λ w. w.parties) t ps ws (λ i z k l e. ap (λ (w : Fields). w.parties) (at i l)) in omega arith;
      unarrived = λ t h c.
          let a : late (root_phase ws) (word_at ws t) ≡ 0 = ap (late (root_phase ws)) (at t h) in
          let b = children_none (late (root_phase ws)) t ps ws (λ i z k l e. ap (late (root_phase ws)) (at i l)) in omega arith;
      claims = λ t h. ap (λ (w : Fields). bit (is_being_opened w)) (at t h);
      root_claims = ap (λ (w : Fields). is_being_opened w) root;
      phases = λ t h z. absurd (let a : (word_at ws t).parties ≡ 0 = ap (λ (w : Fields). w.parties) (at t h) in omega arith);
      advances = λ _. ap (λ (w : Fields). is_zero w.unarrived) root;
      fits = tt;
    }

all_into : {X : Type 0} (P : X → Type 0) (front back : List X) (y : X) → AllByRecursion P (front ++ back) → P y
    → AllByRecursion P (front ++ y ∷ back)
all_into P [] back y h p = (p, h)
all_into P (x ∷ front) back y h p = (h.0, all_into P front back y h.1 p)

sum_into : {X : Type 0} (f : X → ℕ) (front back : List X) (y : X) → f y ≡ 0 → sum_by f (front ++ y ∷ back) ≡ sum_by f (front ++ back)
sum_into f front back y z = let a = sum_around f front back y in let b = sum_by-append f front back in omega arith

pub new_tokens_tally : NewTokensTally
new_tokens_tally ps ws front back p tally =
    let new : View = new_view p in
    let free : Absent ps (root_phase ws) (new_view p) = resting_absent ps (root_phase ws) (new_view p) refl refl in
    regrouping_keeps_tally ps ws (front ++ back) (front ++ new ∷ back) tally
    (record {
      parties = λ t. sum_into (party_share ps t) front back new (free.parties t);
      unarrived = λ t. sum_into (late_share (root_phase ws) ps t) front back new (free.unarrived t);
      claims = λ t. sum_into (claim_share ps t) front back new refl;
      advances = sum_into advance_share front back new refl;
    })
    (all_into (ViewFits ps (root_phase ws) (word_at ws 0).ended) front back new tally.fits (record {
      within = omega arith;
      few = omega arith;
      placed = λ h. absurd (omega arith);
      current = λ h. absurd (omega arith);
      seen = λ q e. absurd (let a : None ≡ Some q = e in cc);
      errand = tt;
    }))

no_members : (owner : ℕ) (views : List View) (p : ℕ) → all_members owner (views ++ new_view p ∷ []) ≡ all_members owner views
no_members owner [] p = refl
no_members owner (v ∷ views) p = ap (λ ms. token_members owner v ++ ms) (no_members (suc owner) views p)

nobody_more : (views : List View) (p : ℕ) → some_climbing (views ++ new_view p ∷ []) ≡ some_climbing views
nobody_more [] p = refl
nobody_more (v ∷ views) p = ap (λ b. cond (is_climbing v.errand) true b) (nobody_more views p)

-- an image by its members and by whether someone climbs
abbrev image_by : List Fields → List Member → Bool → Flat
image_by ws members climbs = record {
  phase = (word_at ws 0).phase;
  ended = (word_at ws 0).ended;
  members = members;
  due = cond (word_at ws 0).ended false (everyone_arrived (word_at ws 0).phase members && climbs);
}

pub new_tokens_are_unseen : NewTokensAreUnseen
new_tokens_are_unseen ws views p =
    ap (λ ms. image_by ws ms (some_climbing (views ++ new_view p ∷ []))) (no_members 0 views p)
    ∙ ap (λ b. image_by ws (all_members 0 views) b) (nobody_more views p)

image_at : (ws : List Fields) (p : ℕ) → word_at ws 0 ≡ empty_word p → image ws (new_view p ∷ []) ≡ empty_in p
image_at ws p e = ap (λ (w : Fields). record {
  phase = w.phase;
  ended = w.ended;
  members = all_members 0 (new_view p ∷ []);
  due = cond w.ended false (true && false);
}) e

pub empty_trees_have_no_members : EmptyTreesHaveNoMembers
empty_trees_have_no_members ps p shape = ap (λ (w : Fields). record {
  phase = w.phase;
  ended = w.ended;
  members = [];
  due = cond w.ended false (true && false);
}) (at_replicate (length ps) 0 (empty_word p) shape.some)

pub start_tallies : StartTallies
start_tallies ps p shape legal =
    let ws : List Fields = empty_words ps p in
    let root : word_at ws 0 ≡ empty_word p = at_replicate (length ps) 0 (empty_word p) shape.some in
    let same : image ws (new_view p ∷ []) ≡ empty_in p = image_at ws p root in (
      new_tokens_tally ps ws [] [] p (nobody_tallies ps p legal shape.some),
      subst (λ (f : Flat). LooksAlike (empty_in p) f) (sym same)
          (record {
            phase = refl;
            ended = refl;
            going = λ _. record {
              phase = refl;
              ended = refl;
              due = refl;
              members = λ _. refl;
              arrived = λ _. refl;
            };
          }),
    )
