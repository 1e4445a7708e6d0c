-- Two groups of members at one tier have at most 65535.
use Rattle.std.proofs.Common.{◌≡◌, ℕ, zero, suc, ◌+◌, ◌<◌, ◌≤◌, List, ◌++◌, length, refl, sym, ◌∙◌, ap, subst, arith}
use Rattle.std.specs.Prelude.{sum_by}
use Rattle.std.proofs.lemmas.List.Sums.{sum_by-append}
use Rattle.atomic_table.specs.Seated.{TableId}
use Rattle.phaser_word.specs.Fields.{Fields}
use Rattle.tier_steps.specs.declared.view.View.{View}
use Rattle.tier_steps.specs.declared.view.Errand.{Errand}
use Rattle.tier_steps.specs.View.{only_at, party_share}
use Rattle.tier_steps.specs.Tally.{word_at, root_phase, ViewFits}
use Rattle.tier_steps.proofs.Pass.{only_here}
use Rattle.tier_rule.specs.declared.sight.Key.{Key}
use Rattle.tier_rule.specs.declared.sight.Sight.{Sight}
use Rattle.tier_rule.specs.Reach.{those, views_of}
use Rattle.tier_rule.specs.Group.{AreAlike, AreReached, LookedAll}
use Rattle.tier_rule.specs.Laws.{members_at_root}
use Rattle.std.specs.List.{AllByRecursion}
use Rattle.tier_rule.proofs.Seats.{those-append, Beside, beside, all_front, all_back}
use Rattle.tier_rule.proofs.Reaching.{reached_states_tally}
use Rattle.tier_rule.proofs.Room.{roots_have_room}
use Rattle.atomic_table.specs.Table.{Me}
use Rattle.tier_steps.specs.declared.kind.Kind.{Kind}
use Rattle.tier_calls.specs.Holding.{Named}
use Rattle.tier_calls.specs.Groups.{GroupHeld, group_of, IsOne, AreSeated}
use Rattle.tier_calls.specs.Splits.{AreTogether}
use Rattle.tier_calls.proofs.ArrivingAll.{crowd_alike}
use Rattle.tier_calls.proofs.Arrivals.{shares, first_fits}

-- by a measure that counts each of two groups' members, the tokens count both groups
both_count : (k : Key) (f : View → ℕ) (v u : View) (l m : List Sight) (seats : List (List Sight)) (front back : List View) → f v ≡ 1
    → f u ≡ 1 → AreAlike k v l → AreAlike k u m
    → views_of seats ≡ front ++ (those (l ++ m) ++ back) → length l + length m ≤ sum_by f (views_of seats)
both_count k f v u l m seats front back one other alike alike' is =
    let a = shares k f v l one alike in
    let b = shares k f u m other alike' in
    let c : sum_by f (those (l ++ m)) ≡ sum_by f (those l) + sum_by f (those m) =
    ap (sum_by f) (those-append l m) ∙ sum_by-append f (those l) (those m) in
    let d : sum_by f (views_of seats) ≡ sum_by f (front ++ (those (l ++ m) ++ back)) = ap (sum_by f) is in
    let e = sum_by-append f front (those (l ++ m) ++ back) in
    let g = sum_by-append f (those (l ++ m)) back in
    omega arith

one_at_root : (v : View) → v.tier ≡ 0 → IsOne v → members_at_root v ≡ 1
one_at_root v root one =
    ap (λ (e : Errand). members_at_root (record v { errand = e })) one.rests
    ∙ (ap (λ (n : ℕ). only_at n v.size 0) root ∙ (only_here 0 v.size ∙ one.one))

one_party : (ps : List ℕ) (t : ℕ) (v : View) → v.tier ≡ t → IsOne v → party_share ps t v ≡ 1
one_party ps t v here one =
    ap (λ (e : Errand). party_share ps t (record v { errand = e })) one.rests
    ∙ (ap (λ (n : ℕ). only_at n v.size t + 0) here ∙ (ap (λ (n : ℕ). n + 0) (only_here t v.size) ∙ (let a = one.one in omega arith)))

pub few : (k : Key) (w : Fields) (v u : View) (l m : List Sight) → AreReached k 0 w (l ++ m) → AreAlike k v l → AreAlike k u m → IsOne v
    → IsOne u → u.tier ≡ v.tier → 0 < length l → length l + length m ≤ 65535
few k w v u l m r alike alike' one one' same some' = at v.tier refl
  where
    b : Beside r.seats r.id (l ++ m)
    b = beside r.seats r.id (l ++ m) r.seat

    at : (t : ℕ) → v.tier ≡ t → length l + length m ≤ 65535
    at zero root =
        let a =
        both_count k members_at_root v u l m r.seats b.front b.back (one_at_root v root one) (one_at_root u (same ∙ root) one') alike alike'
        b.is in
        let c = roots_have_room k r.words r.seats r.reached in
        omega arith
    at (suc t) here =
        let tally = reached_states_tally k r.words r.seats r.reached in
        let a =
        both_count k (party_share k.shape (suc t)) v u l m r.seats b.front b.back (one_party k.shape (suc t) v here one)
        (one_party k.shape (suc t) u (same ∙ here) one') alike alike' b.is in
        let P : View → Type 0 = ViewFits k.shape (root_phase r.words) (word_at r.words 0).ended in
        let both =
        subst (AllByRecursion P) (ap (λ (us : List View). us ++ b.back) (those-append l m))
        (all_back P b.front (those (l ++ m) ++ b.back) (subst (AllByRecursion P) b.is tally.fits)) in
        let mine : AllByRecursion P (those l) = all_front P (those l) (those m) (all_front P (those l ++ those m) b.back both) in
        let fits = first_fits k P v l some' alike (mine) in
        let inside : suc t < length r.words = let x = fits.placed (let y = one.one in omega arith) in let y = tally.long in omega arith in
        let c = tally.parties (suc t) inside (λ e. absurd (omega arith)) in
        let d = (tally.legal (suc t) inside).parties in
        omega arith

abbrev Seat : Type 0
Seat = Me Kind (List Sight)

-- so it is with two groups that were joined and have looked at the root
pub few_joined : {id id' : TableId} {me mo : Seat} {v u : View} {count count' : ℕ} {h o : GroupHeld} {n : Named} {w : Fields}
    (joined now : Seat)
    → AreSeated me v count → group_of id me v ≡ h → h.tree ≡ n → AreSeated mo u count' → group_of id' mo u ≡ o → o.tree ≡ n
    → AreTogether h.view o.view → joined ≡ (me.0 ++ mo.0, me.1) → LookedAll n.key 0 w 0 joined.0 now.0 → count + count' ≤ 65535
few_joined {id} {id'} {me} {mo} {v} {u} {count} {count'} {h} {o} {n} {w} joined now seated is own seated' is' own' same at r =
    let agree : AreTogether v u =
    subst (λ (z : GroupHeld). AreTogether z.view u) (sym is) (subst (λ (z : GroupHeld). AreTogether h.view z.view) (sym is') same) in
    let found = subst (AreReached n.key 0 w) (ap (λ (z : Seat). z.0) at) r.found in
    let a =
    few n.key w v u me.0 mo.0 found (crowd_alike {id = id} {me = me} seated is own) (crowd_alike {id = id'} {me = mo} seated' is' own')
    seated.view seated'.view agree.tier (let x = seated.long in let y = seated.some in omega arith) in
    let x = seated.long in let y = seated'.long in
    omega arith
