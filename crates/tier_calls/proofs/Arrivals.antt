-- Arrivals of several tokens by one exchange.
use Rattle.std.proofs.Common.{◌≡◌, ℕ, zero, suc, ◌+◌, ◌-◌, ◌<◌, ◌≤◌, Bool, true, false, cond, eqb, List, [], ◌∷◌, ◌++◌, length, sum_by, refl, ap, sym, ◌∙◌, subst, arith, ne_eqb}
use Rattle.std.proofs.lemmas.Bool.{eq-eqb}
use Rattle.std.specs.List.{AllByRecursion}
use Rattle.std.proofs.lemmas.List.Sums.{sum_by-append}
use Rattle.phaser_word.specs.Fields.{Fields, IsLegal}
use Rattle.tier_shape.specs.Parents.{parent_of}
use Rattle.tier_steps.specs.Word.{late, arrived_one}
use Rattle.tier_steps.specs.View.{late_share, absent, only_at}
use Rattle.tier_steps.specs.declared.view.View.{View}
use Rattle.tier_steps.specs.declared.view.Errand.TheVariants.{Rest, Climbing, Advancing}
use Rattle.tier_steps.specs.declared.view.Passage.TheVariants.{Arrival}
use Rattle.tier_steps.specs.declared.kind.Kind.{Kind}
use Rattle.tier_steps.specs.declared.kind.Kind.TheVariants.{Arrive}
use Rattle.tier_steps.specs.Tally.{word_at, root_phase, ViewFits}
use Rattle.tier_steps.specs.Step.{CanPass, owed}
use Rattle.tier_steps.proofs.Legal.{is_legal, legal_empty, legal_open}
use Rattle.tier_steps.proofs.Pass.{only_here, unarrived_is_current, resting_late, absent_current}
use Rattle.tier_rule.specs.declared.sight.Key.{Key}
use Rattle.tier_rule.specs.declared.sight.Sight.{Sight}
use Rattle.tier_rule.specs.Reach.{those}
use Rattle.tier_rule.specs.Group.{AreAlike, Among, Goes, after_many, all_stepped}
use Rattle.tier_rule.proofs.Seats.{all_front, all_back}
use Rattle.tier_rule.proofs.Together.{sweep}
use Rattle.atomic_table.specs.Table.{Me}
use Rattle.atomic_table.specs.Seated.{TableId}
use Rattle.tier_calls.specs.Holding.{Named, first_of, no_sight, sight_of}
use Rattle.tier_calls.specs.Groups.{GroupHeld, group_of, IsOne, AreSeated, MayGo, HaveGone, AllArrived}
use Rattle.tier_calls.proofs.Grouping.{alike_own}

abbrev pub less : Fields → ℕ → Fields
less w n = record w { unarrived = w.unarrived - n }

pub arrivals : (t : ℕ) (v : View) (w : Fields) (n : ℕ) → after_many Arrive t v w n ≡ less w n
arrivals t v w zero = ap (λ (u : ℕ). record w { unarrived = u }) (let a : w.unarrived ≡ w.unarrived - 0 = omega arith in a)
arrivals t v w (suc n) =
    ap arrived_one (arrivals t v w n)
    ∙ ap (λ (u : ℕ). record w { unarrived = u }) (let a : w.unarrived - n - 1 ≡ w.unarrived - suc n = omega arith in a)

pub still_can : (t : ℕ) (v : View) (w : Fields) (n : ℕ) → CanPass t w v → CanPass t (after_many Arrive t v w n) v
still_can t v w zero can = can
still_can t v w (suc n) can = let c = still_can t v w n can in
    record { rest = c.rest; own = c.own; going = c.going; current = c.current; unarrived = c.unarrived }

pub arrive_goes : (k : Key) (t : ℕ) (v : View) (w : Fields) (l : List Sight) → AreAlike k v l → CanPass t w v
    → Goes k t w l (less w (length l)) (all_stepped Arrive 1 t v w l)
arrive_goes k t v w l alike can =
    subst (λ (u : Fields). Goes k t w l u (all_stepped Arrive 1 t v w l)) (arrivals t v w (length l))
    (sweep k Arrive 1 t v w l (omega arith) (λ j. refl) alike (λ n h. (still_can t v w n can, tt)))

pub less_legal : (w : Fields) (n : ℕ) → IsLegal w → IsLegal (less w n)
less_legal w n legal =
    is_legal (less w n) legal.phase legal.parties (λ e. let a = legal_empty w legal e in omega arith)
    (λ h. let a = legal_open w legal h in omega arith)

pub owed_rest : (above t : ℕ) (w : Fields) → 2 ≤ w.unarrived → owed above t Arrival w ≡ Rest
owed_rest above zero w h = ap (λ (b : Bool). cond b Advancing Rest) (ne_eqb w.unarrived 1 (omega arith))
owed_rest above (suc t) w h = ap (λ (b : Bool). cond b (Climbing above Arrival) Rest) (ne_eqb w.unarrived 1 (omega arith))

-- a token with one member that is to arrive has none that has
pub none_yet : (t : ℕ) (w : Fields) (v : View) → CanPass t w v → IsOne v → v.arrived ≡ 0
none_yet t w v can one = let a = can.unarrived in let b = one.one in omega arith

-- the views of those that don't arrive last
pub early : (k : Key) (t : ℕ) (v : View) (w : Fields) (l : List Sight) → AreAlike k v l → v.arrived ≡ 0 → v.errand ≡ Rest
    → length l < w.unarrived
    → AreAlike k (record v { arrived = 1 }) (all_stepped Arrive 1 t v w l)
early k t v w [] alike none rests more = tt
early k t v w (x ∷ xs) alike none rests more =
    let u : Fields = after_many Arrive t v w (length xs) in
    let is : u.unarrived ≡ w.unarrived - length xs = ap (λ (z : Fields). z.unarrived) (arrivals t v w (length xs)) in
    let e : owed (parent_of x.key.shape t) t Arrival u ≡ v.errand = owed_rest (parent_of x.key.shape t) t u (omega arith) ∙ sym rests in
    let n : v.arrived + 1 ≡ 1 = omega arith in (
      (
        alike.0.0,
        ap (λ (z : View). record z { arrived = z.arrived + 1; errand = owed (parent_of x.key.shape t) t Arrival u }) alike.0.1
            ∙ (λ i. record v { arrived = n i; errand = e i }),
      ),
      early k t v w xs alike.1 none rests (omega arith),
    )

-- what a word counts in the root's phase is in its field
late_field : (root : ℕ) (w : Fields) → w.phase ≡ root → late root w ≤ w.unarrived
late_field root w is =
    subst (λ (b : Bool). cond (eqb w.parties 0) 0 (cond b w.unarrived w.parties) ≤ w.unarrived) (sym (eq-eqb w.phase root is))
    (go (eqb w.parties 0))
  where
    go : (b : Bool) → cond b 0 w.unarrived ≤ w.unarrived
    go true = omega arith
    go false = omega arith

share_one : (root : ℕ) (ps : List ℕ) (t : ℕ) (v : View) → v.errand ≡ Rest → v.tier ≡ t → v.phase ≡ root → v.size ≡ 1 → v.arrived ≡ 0
    → late_share root ps t v ≡ 1
share_one root ps t v rests own is one none =
    let a = resting_late root ps t v rests in
    let b = absent_current root v is in
    let c : only_at v.tier (absent root v) t ≡ absent root v =
    ap (λ (n : ℕ). only_at n (absent root v) t) own ∙ only_here t (absent root v) in
    omega arith

pub shares : (k : Key) (f : View → ℕ) (v : View) (l : List Sight) → f v ≡ 1 → AreAlike k v l → sum_by f (those l) ≡ length l
shares k f v [] is alike = refl
shares k f v (x ∷ xs) is alike = let a = ap f alike.0.1 in
    let b = shares k f v xs is alike.1 in
    let c = sum_by-append f (x.view ∷ []) (those xs) in
    omega arith

pub first_fits : (k : Key) (P : View → Type 0) (v : View) (l : List Sight) → 0 < length l → AreAlike k v l → AllByRecursion P (those l)
    → P v
first_fits k P v [] h alike all = absurd (omega arith)
first_fits k P v (x ∷ xs) h alike all = subst P alike.0.1 all.0

-- a tier counts all that are to arrive there
pub enough : (k : Key) (t : ℕ) (w : Fields) (v : View) (l : List Sight) → Among k.shape t w (those l) → AreAlike k v l → CanPass t w v
    → IsOne v → 0 < length l → length l ≤ w.unarrived
enough k t w v l among alike can one some' =
    let ws = among.words in
    let root : ℕ = root_phase ws in
    let share : View → ℕ = late_share root k.shape t in
    let fits = first_fits k (ViewFits k.shape root (word_at ws 0).ended) v l some' alike
    (all_front (ViewFits k.shape root (word_at ws 0).ended) (those l) among.back (all_back (ViewFits k.shape root (word_at ws 0).ended) among.front (those l ++ among.back) among.tally.fits)) in
    let is : v.phase ≡ root = unarrived_is_current k.shape root (word_at ws 0).ended v fits can.unarrived in
    let one_each = shares k share v l (share_one root k.shape t v can.rest can.own is one.one (none_yet t w v can one)) alike in
    let balance =
    among.tally.unarrived t among.within
    (λ e. ap (λ (n : ℕ). (word_at ws n).ended) (sym e) ∙ (ap (λ (z : Fields). z.ended) among.word ∙ can.going)) in
    let here : late root (word_at ws t) ≡ late root w = ap (late root) among.word in
    let field = late_field root w (can.current ∙ is) in
    let a = sum_by-append share among.front (those l ++ among.back) in
    let b = sum_by-append share (those l) among.back in
    omega arith

abbrev Seat : Type 0
Seat = Me Kind (List Sight)

pub first_alike : (k : Key) (v : View) (l : List Sight) → 0 < length l → AreAlike k v l → (first_of no_sight l).view ≡ v
first_alike k v [] h alike = absurd (omega arith)
first_alike k v (x ∷ xs) h alike = alike.0.1

-- the seat's first sight has the view of all
pub first_view : {me : Seat} {v : View} {count : ℕ} → AreSeated me v count → (sight_of me).view ≡ v
first_view {me} {v} {count} seated =
    first_alike (sight_of me).key v me.0 (let a = seated.long in let b = seated.some in omega arith) seated.alike

pub stepped_long : (kind : Kind) (tries t : ℕ) (v : View) (w : Fields) (l : List Sight) → length (all_stepped kind tries t v w l) ≡ length l
stepped_long kind tries t v w [] = refl
stepped_long kind tries t v w (x ∷ xs) = ap suc (stepped_long kind tries t v w xs)

pub stepped_key : (kind : Kind) (tries t : ℕ) (v : View) (w : Fields) (me me' : Seat) → me'.0 ≡ all_stepped kind tries t v w me.0
    → (sight_of me').key ≡ (sight_of me).key
stepped_key kind tries t v w me me' is = ap (λ (l : List Sight). (first_of no_sight l).key) is ∙ go me.0
  where
    go : (l : List Sight) → (first_of no_sight (all_stepped kind tries t v w l)).key ≡ (first_of no_sight l).key
    go [] = refl
    go (x ∷ xs) = refl

-- the tokens of a seat may all arrive
pub early_may : {id : TableId} {me : Seat} {v : View} {count : ℕ} {h : GroupHeld} {n : Named} {w next : Fields} → AreSeated me v count
    → group_of id me v ≡ h → h.tree ≡ n
    → IsLegal w → CanPass h.view.tier w h.view → next ≡ less w count
    → MayGo n.key v.tier w next me (all_stepped Arrive 1 v.tier (sight_of me).view w me.0)
early_may {id} {me} {v} {count} {h} {n} {w} {next} seated is own legal can to =
    let can' : CanPass v.tier w v = subst (λ (z : GroupHeld). CanPass z.view.tier w z.view) (sym is) can in
    let key : (sight_of me).key ≡ n.key = ap (λ (z : GroupHeld). z.tree.key) is ∙ ap (λ (z : Named). z.key) own in
    let alike : AreAlike n.key v me.0 = subst (λ (z : Key). AreAlike z v me.0) key seated.alike in
    record {
      bare = seated.bare;
      legal = legal;
      own = alike_own n.key v me.0 alike;
      goes =
          subst (λ (z : Fields). Goes n.key v.tier w me.0 z (all_stepped Arrive 1 v.tier (sight_of me).view w me.0))
          (ap (less w) seated.long ∙ sym to)
          (subst (λ (u : View). Goes n.key v.tier w me.0 (less w (length me.0)) (all_stepped Arrive 1 v.tier u w me.0))
          (sym (first_view {me = me} seated)) (arrive_goes n.key v.tier v w me.0 alike can'));
    }

-- they have arrived, and others are still to arrive
pub early_seat : {k : Key} {me me' : Seat} {v : View} {count : ℕ} {h : GroupHeld} {id : TableId} {w next : Fields} → AreSeated me v count
    → group_of id me v ≡ h → CanPass h.view.tier w h.view → length h.tokens < w.unarrived
    → HaveGone k v.tier w next me me' (all_stepped Arrive 1 v.tier (sight_of me).view w me.0)
    → AreSeated me' (record v { arrived = 1 }) count
early_seat {k} {me} {me'} {v} {count} {h} {id} {w} {next} seated is can more gone =
    let can' : CanPass v.tier w v = subst (λ (z : GroupHeld). CanPass z.view.tier w z.view) (sym is) can in
    let more' : length me.0 < w.unarrived = subst (λ (z : GroupHeld). length z.tokens < w.unarrived) (sym is) more in
    let now : me'.0 ≡ all_stepped Arrive 1 v.tier v w me.0 =
    gone.now ∙ ap (λ (u : View). all_stepped Arrive 1 v.tier u w me.0) (first_view {me = me} seated) in
    let key = stepped_key Arrive 1 v.tier v w me me' now in
    let one = seated.view.one in
    let rests = seated.view.rests in record {
      bare = gone.bare;
      long = ap length now ∙ (stepped_long Arrive 1 v.tier v w me.0 ∙ seated.long);
      some = seated.some;
      alike =
          subst (λ (z : Key). AreAlike z (record v { arrived = 1 }) me'.0) (sym key)
          (subst (AreAlike (sight_of me).key (record v { arrived = 1 })) (sym now)
          (early (sight_of me).key v.tier v w me.0 seated.alike (none_yet v.tier w v can' seated.view) rests more'));
      view = record { one = one; within = omega arith; rests = rests };
    }

pub early_arrived : {id : TableId} {v : View} {count : ℕ} {h : GroupHeld} {n : Named} {w next : Fields} (me me' : Seat)
    → AreSeated me v count → group_of id me v ≡ h → h.tree ≡ n
    → (one : TableId) → one ≡ id → next ≡ less w count
    → HaveGone n.key v.tier w next me me' (all_stepped Arrive 1 v.tier (sight_of me).view w me.0)
    → AllArrived w h (group_of one me' (record v { arrived = 1 }))
early_arrived {id} {v} {count} {h} {n} {w} {next} me me' seated is own one same to gone =
    let now : me'.0 ≡ all_stepped Arrive 1 v.tier v w me.0 =
    gone.now ∙ ap (λ (u : View). all_stepped Arrive 1 v.tier u w me.0) (first_view {me = me} seated) in
    let key = stepped_key Arrive 1 v.tier v w me me' now in
    let mine : n.key ≡ (sight_of me).key = sym (ap (λ (z : GroupHeld). z.tree.key) is ∙ ap (λ (z : Named). z.key) own) in
    let word : next ≡ less w (length me.0) = to ∙ ap (less w) (sym seated.long) in
    let a : AllArrived w (group_of id me v) (group_of one me' (record v { arrived = 1 })) = record {
      tree = λ i. record { id = same i; key = key i };
      view = refl;
      tokens = now;
      after = subst (λ (z : Key). Among z.shape v.tier (less w (length me.0)) (those me'.0)) mine
          (subst (λ (z : Fields). Among n.key.shape v.tier z (those me'.0)) word (subst (λ (l : List Sight). Among n.key.shape v.tier next (those l)) (sym gone.now) gone.after));
    } in
    subst (λ (z : GroupHeld). AllArrived w z (group_of one me' (record v { arrived = 1 }))) is a
