-- What keeps the root from advancing, and how many parties a tier may have.
use Rattle.std.proofs.Common.{◌≡◌, ◌≢◌, ℕ, zero, suc, ◌+◌, ◌<◌, ◌≤◌, Bool, true, false, cond, eqb, List, [], ◌∷◌, ◌++◌, length, take, drop, get_or, refl, sym, ◌∙◌, ap, subst, arith}
use Rattle.std.specs.Prelude.{sum_by, count_by}
use Rattle.std.specs.List.{AllByRecursion}
use Rattle.std.proofs.lemmas.List.Sums.{sum_by-cons}
use Rattle.flat_phaser.proofs.Counts.{count_cons}
use Rattle.phaser_word.specs.Fields.{Fields}
use Rattle.tier_steps.specs.declared.view.View.{View}
use Rattle.tier_steps.specs.declared.view.Errand.{Errand}
use Rattle.tier_steps.specs.declared.view.Errand.TheVariants.{Rest, Opening, Climbing, Advancing}
use Rattle.tier_steps.specs.declared.view.OpeningStage.TheVariants.{Seeking, Joined, GoingBack}
use Rattle.tier_steps.specs.declared.view.Passage.TheVariants.{Arrival, Departure}
use Rattle.tier_steps.specs.View.{new_view, ancestor, absent, only_at, late_share, party_share, errand_parties, errand_late, is_hidden, advance_share, errand_advances}
use Rattle.tier_steps.specs.Tally.{word_at, root_phase, counted, children_among, children, Tallies, ViewFits, ErrandFits, is_zero}
use Rattle.tier_steps.specs.SpelledOut.{is_under_way}
use Rattle.tier_steps.specs.Image.{is_climbing}
use Rattle.tier_steps.proofs.Advance.{all_arrived, is_done, IsDone, zero_field}
use Rattle.tier_steps.proofs.Chains.{both}
use Rattle.tier_steps.proofs.Keeping.{all_here, all_map}
use Rattle.tier_steps.proofs.KindLaw.{mine}
use Rattle.tier_steps.proofs.Pass.{share_fits, only_here, absent_current, resting_late, unarrived_is_current}
use Rattle.tier_steps.proofs.Ready.{unarrived_hold_the_root, members_are_sizes}
use Rattle.tier_core.specs.Machine.{State, IsCore, view_at, call_at, is_due}
use Rattle.tier_core.proofs.Places.{around}
use Rattle.tier_core.proofs.Runs.{due_advances}
use Rattle.tier_laws.specs.Hold.{IsAwaited, AwaitedTokensHold, AdvancesAreAlone, MembersAreTheTokens, PartiesAreFew}

-- the tally, split at a token
pub split : (s : State) (i : ℕ) → IsCore s → i < length s.views
    → Tallies s.parents s.words (take i s.views ++ view_at s.views i ∷ drop (suc i) s.views)
split s i core h = subst (λ (vs : List View). Tallies s.parents s.words vs) (around s.views i (new_view 0) h) core.tally

-- what fits each view
pub fits_at : (s : State) (i : ℕ) → IsCore s → i < length s.views
    → ViewFits s.parents (root_phase s.words) (word_at s.words 0).ended (view_at s.views i)
fits_at s i core h = mine s.parents s.words (take i s.views) (drop (suc i) s.views) (view_at s.views i) (split s i core h)

-- a share of one view is part of the sum
pub part : (s : State) (f : View → ℕ) (i : ℕ) → i < length s.views → f (view_at s.views i) ≤ sum_by f s.views
part s f i h = subst (λ (vs : List View). f (view_at s.views i) ≤ sum_by f vs) (sym (around s.views i (new_view 0) h))
    (share_fits f (take i s.views) (drop (suc i) s.views) (view_at s.views i))

-- an unarrived party keeps the root's field above 0, and so nobody advances
pub held : (s : State) (i t : ℕ) → IsCore s → i < length s.views → (word_at s.words 0).ended ≡ false → t < length s.parents
    → 0 < late_share (root_phase s.words) s.parents t (view_at s.views i) → (word_at s.words 0).unarrived ≢ 0
held s i t core h going k some =
    unarrived_hold_the_root s.parents s.words (take i s.views) (view_at s.views i) (drop (suc i) s.views) t core.shape (split s i core h)
    going k some

pub nobody_advances : (s : State) (j : ℕ) → IsCore s → (word_at s.words 0).ended ≡ false → (word_at s.words 0).unarrived ≢ 0
    → j < length s.views
    → (view_at s.views j).errand ≢ Advancing
nobody_advances s j core going some h e =
    some (zero_field (word_at s.words 0).unarrived
    (let a : advance_share (view_at s.views j) ≡ 1 = ap errand_advances e in
    let b = part s advance_share j h in let c = core.tally.advances going in omega arith))

absent_some : (root : ℕ) (v : View) → 0 < absent root v → 0 < v.size
absent_some root v h = grind arith

pub awaited_late : (s : State) (i : ℕ) → IsCore s → IsAwaited s i → ((view_at s.views i).tier < length s.parents) ×
    (0 < late_share (root_phase s.words) s.parents (view_at s.views i).tier (view_at s.views i))
awaited_late s i core is =
    let fit = fits_at s i core is.known in
    let some = is.some in
    let a = resting_late (root_phase s.words) s.parents (view_at s.views i).tier (view_at s.views i) is.rests in
    let c = only_here (view_at s.views i).tier (absent (root_phase s.words) (view_at s.views i)) in
    (fit.placed (absent_some (root_phase s.words) (view_at s.views i) is.some), omega arith)

-- a token with a member that hasn't arrived in the token's phase
pub is_awaited : (s : State) (i : ℕ) → IsCore s → i < length s.views → (view_at s.views i).errand ≡ Rest
    → (view_at s.views i).arrived < (view_at s.views i).size → IsAwaited s i
is_awaited s i core h rests some =
    let current =
    unarrived_is_current s.parents (root_phase s.words) (word_at s.words 0).ended (view_at s.views i) (fits_at s i core h) some in
    let b = absent_current (root_phase s.words) (view_at s.views i) current in
    record { known = h; rests = rests; some = omega arith }

pub awaited_field : (s : State) (i : ℕ) → IsCore s → (word_at s.words 0).ended ≡ false → IsAwaited s i → (word_at s.words 0).unarrived ≢ 0
awaited_field s i core going is = let a = awaited_late s i core is in held s i (view_at s.views i).tier core is.known going a.0 a.1

not_due : (b : Bool) → (b ≡ true → ⊥) → b ≡ false
not_due true n = absurd (n refl)
not_due false n = refl

pub awaited_tokens_hold : AwaitedTokensHold
awaited_tokens_hold s i j core going is h =
    let nobody = nobody_advances s j core going (awaited_field s i core going is) h in
    record {
      errand = nobody;
      call =
          not_due (is_due (call_at s.calls j))
          (λ e. nobody (due_advances s.parents (call_at s.calls j) (view_at s.views j) e (core.calls j h)));
    }

-- while a token advances, every token has done what it can
pub each_done : (s : State) (i : ℕ) → IsCore s → (word_at s.words 0).ended ≡ false → i < length s.views
    → (view_at s.views i).errand ≡ Advancing
    → AllByRecursion (λ x. ViewFits s.parents (root_phase s.words) (word_at s.words 0).ended x × IsDone (root_phase s.words) x) s.views
each_done s i core going h e =
    let due : (word_at s.words 0).unarrived ≡ 0 = zero_field (word_at s.words 0).unarrived
    (let a : advance_share (view_at s.views i) ≡ 1 = ap errand_advances e in
    let b = part s advance_share i h in let c = core.tally.advances going in omega arith) in
    let arrived = all_arrived s.parents s.words s.views core.shape core.tally going due in
    all_map (λ x. ViewFits s.parents (root_phase s.words) (word_at s.words 0).ended x ×
    ((t : ℕ) → t < length s.parents → late_share (root_phase s.words) s.parents t x ≡ 0))
    (λ x. ViewFits s.parents (root_phase s.words) (word_at s.words 0).ended x × IsDone (root_phase s.words) x)
    (λ x k. (k.0, is_done s.parents (root_phase s.words) (word_at s.words 0).ended x core.shape core.shape.some k.0 k.1)) s.views
    (both (ViewFits s.parents (root_phase s.words) (word_at s.words 0).ended)
    (λ x. (t : ℕ) → t < length s.parents → late_share (root_phase s.words) s.parents t x ≡ 0) s.views core.tally.fits arrived.tokens)

at_most_one : (n : ℕ) → is_zero n ≤ 1
at_most_one n = grind arith

within : {X : Type 0} (f : X → ℕ) (xs : List X) (i : ℕ) (d : X) → i < length xs → f (get_or xs i d) ≤ sum_by f xs
within f [] i d h = absurd (omega arith)
within f (x ∷ xs) zero d h = let a = sum_by-cons f x xs in omega arith
within f (x ∷ xs) (suc i) d h = let a = sum_by-cons f x xs in let b = within f xs i d (omega arith) in omega arith

-- two places of a list count apart
apart : {X : Type 0} (f : X → ℕ) (xs : List X) (i j : ℕ) (d : X) → i < length xs → j < length xs → i ≢ j
    → f (get_or xs i d) + f (get_or xs j d) ≤ sum_by f xs
apart f [] i j d h k n = absurd (omega arith)
apart f (x ∷ xs) zero zero d h k n = absurd (n refl)
apart f (x ∷ xs) zero (suc j) d h k n =
    let a = sum_by-cons f x xs in let b = within f xs j d (omega arith) in omega arith
apart f (x ∷ xs) (suc i) zero d h k n =
    let a = sum_by-cons f x xs in let b = within f xs i d (omega arith) in omega arith
apart f (x ∷ xs) (suc i) (suc j) d h k n =
    let a = sum_by-cons f x xs in let b = apart f xs i j d (omega arith) (omega arith) (λ e. n (ap suc e)) in omega arith

still_by : (root : ℕ) (v : View) (e : Errand) → v.errand ≡ e → IsDone root v → errand_advances e ≡ 0 → is_under_way e ≡ false
still_by root v Rest q d none = refl
still_by root v Advancing q d none = absurd (let a : 1 ≡ 0 = none in omega arith)
still_by root v (Climbing t passage) q d none = absurd
    (let a : only_at t 1 t ≡ 0 = sym (ap (λ x. errand_late [] x t) q) ∙ d.lates [] t in let b = only_here t 1 in omega arith)
still_by root v (Opening tier claimed Seeking size) q d none = refl
still_by root v (Opening tier claimed GoingBack size) q d none = refl
still_by root v (Opening tier claimed Joined size) q d none = absurd
    (let a : only_at (ancestor [] tier claimed) 1 (ancestor [] tier claimed) ≡ 0 =
    sym (ap (λ x. errand_late [] x (ancestor [] tier claimed)) q) ∙ d.lates [] (ancestor [] tier claimed) in
    let b = only_here (ancestor [] tier claimed) 1 in omega arith)

pub advances_are_alone : AdvancesAreAlone
advances_are_alone s i j core going h e k n =
    let v : View = view_at s.views j in
    let all : AllByRecursion (λ x. ViewFits s.parents (root_phase s.words) (word_at s.words 0).ended x × IsDone (root_phase s.words) x)
    (take j s.views ++ view_at s.views j ∷ drop (suc j) s.views) =
    subst
    (λ (vs : List View). AllByRecursion (λ x. ViewFits s.parents (root_phase s.words) (word_at s.words 0).ended x × IsDone (root_phase s.words) x) vs)
    (around s.views j (new_view 0) k) (each_done s i core going h e) in
    let done = all_here (λ x. ViewFits s.parents (root_phase s.words) (word_at s.words 0).ended x × IsDone (root_phase s.words) x)
    (take j s.views) (drop (suc j) s.views) (view_at s.views j) all in
    let one : advance_share (view_at s.views i) ≡ 1 = ap errand_advances e in
    let most : is_zero (word_at s.words 0).unarrived ≤ 1 = at_most_one (word_at s.words 0).unarrived in
    let sum = core.tally.advances going in
    let two = apart advance_share s.views i j (new_view 0) h k (λ q. n (sym q)) in
    record {
      arrived = done.1.arrived;
      phase = done.1.phase;
      errand = still_by (root_phase s.words) (view_at s.views j) (view_at s.views j).errand refl done.1 (omega arith);
    }

pub members_are_the_tokens : MembersAreTheTokens
members_are_the_tokens s core = members_are_sizes s.parents s.words s.views core.tally

-- what a token counts at a tier is within its members, and one party more for a climb
bit_of : Bool → ℕ
bit_of b = cond b 1 0

only_le : (t n u : ℕ) → only_at t n u ≤ n
only_le t n u = grind arith

share_le : (ps : List ℕ) (root u : ℕ) (v : View) (e : Errand) → ErrandFits ps root v e
    → cond (is_hidden e) 0 (only_at v.tier v.size u) + errand_parties ps e u ≤ v.size + cond (is_climbing e) 1 0
share_le ps root u v Rest ok = let a = only_le v.tier v.size u in omega arith
share_le ps root u v Advancing ok = let a = only_le v.tier v.size u in omega arith
share_le ps root u v (Climbing t Arrival) ok = let a = only_le v.tier v.size u in omega arith
share_le ps root u v (Climbing t Departure) ok = let a = only_le v.tier v.size u in let b = only_le t 1 u in omega arith
share_le ps root u v (Opening tier claimed Seeking size) ok = omega arith
share_le ps root u v (Opening tier claimed GoingBack size) ok = omega arith
share_le ps root u v (Opening tier claimed Joined size) ok =
    let a = only_le (ancestor ps tier claimed) 1 u in let b = ok.0.some in let c = ok.1.members in omega arith

sums_le : (ps : List ℕ) (root : ℕ) (ended : Bool) (u : ℕ) (vs : List View) → AllByRecursion (ViewFits ps root ended) vs
    → sum_by (party_share ps u) vs ≤ sum_by (λ v. v.size) vs + count_by (λ v. is_climbing v.errand) vs
sums_le ps root ended u [] h = omega arith
sums_le ps root ended u (v ∷ vs) h =
    let a = sum_by-cons (party_share ps u) v vs in let b = sum_by-cons (λ (x : View). x.size) v vs in
    let c = count_cons (λ (x : View). is_climbing x.errand) v vs in
    let d = share_le ps root u v v.errand h.0.errand in
    let e = sums_le ps root ended u vs h.1 in omega arith

counted_le : (b z : Bool) → cond b (cond z 0 1) 0 ≤ 1
counted_le true true = omega arith
counted_le true false = omega arith
counted_le false z = omega arith

among_le : (f : Fields → ℕ) (t : ℕ) (ps : List ℕ) (ws : List Fields) → children_among f t ps ws ≤ length ps
among_le f t [] ws = omega arith
among_le f t (p ∷ ps) [] = omega arith
among_le f t (p ∷ ps) (w ∷ ws) =
    let a = among_le f t ps ws in
    let b : cond (eqb p t) (counted f w) 0 ≤ 1 = counted_le (eqb p t) (eqb (f w) 0) in omega arith

children_le : (f : Fields → ℕ) (t : ℕ) (ps : List ℕ) (ws : List Fields) → children f t ps ws ≤ length ps
children_le f t [] ws = omega arith
children_le f t (p ∷ ps) [] = omega arith
children_le f t (p ∷ ps) (w ∷ ws) = let a = among_le f t ps ws in omega arith

pub parties_are_few : PartiesAreFew
parties_are_few s t core h compared =
    let a = core.tally.parties t h compared in
    let b = sums_le s.parents (root_phase s.words) (word_at s.words 0).ended t s.views core.tally.fits in
    let c = children_le (λ w. w.parties) t s.parents s.words in omega arith
