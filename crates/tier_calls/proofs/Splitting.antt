-- Several tokens in one seat are split, or put together.
use Rattle.std.proofs.Common.{◌≡◌, ℕ, zero, suc, ◌+◌, ◌-◌, ◌<◌, ◌≤◌, Bool, true, false, cond, Some, None, List, [], ◌∷◌, ◌++◌, length, take, drop, refl, ap, sym, ◌∙◌, subst, arith, append_assoc, length-append}
use mathlib.Core.Option.{none}
use Rattle.atomic_table.specs.Table.{Me, step, Allows, Splits}
use Rattle.atomic_table.specs.Seated.{TableId}
use Rattle.phaser_word.specs.Fields.{Fields}
use Rattle.tier_steps.specs.declared.view.View.{View}
use Rattle.tier_steps.specs.declared.view.Errand.TheVariants.{Rest}
use Rattle.tier_steps.specs.declared.kind.Kind.{Kind}
use Rattle.tier_steps.specs.Step.{looked, moved, dropped, is_going_back}
use Rattle.tier_rule.specs.declared.sight.Key.{Key}
use Rattle.tier_rule.specs.declared.sight.Sight.{Sight}
use Rattle.tier_rule.specs.Reach.{those, Kept}
use Rattle.tier_rule.specs.Group.{stepped_sight, AreOf, AreAlike, Among, looked_all, LookedAll, SawAll, AreReached}
use Rattle.tier_rule.proofs.Seats.{those-append}
use Rattle.tier_rule.proofs.Together.{looks_all_allow, parts_at}
use Rattle.tier_calls.specs.Holding.{Named, first_of, no_sight, sight_of}
use Rattle.tier_calls.specs.Groups.{GroupHeld, group_of, IsOne, AreSeated}
use Rattle.tier_calls.specs.Arrives.{IsLooked}
use Rattle.tier_calls.specs.Splits.{SplitAt, AreTogether, Together}
use Rattle.tier_steps.specs.Tally.{Tallies}
use Rattle.tier_rule.specs.Look.{glance}
use Rattle.tier_rule.specs.Tell.{Beside}
use Rattle.tier_core.proofs.Turns.{not_both}
use Rattle.tier_calls.proofs.Settling.{looked_first, none_of, end_found}
use Rattle.tier_calls.proofs.Grouping.{alike_own, unled, looked_alike, looked_long, glanced_one}
use Rattle.tier_calls.proofs.ArrivingAll.{among_beside, crowd_alike}

abbrev Seat : Type 0
Seat = Me Kind (List Sight)

pub seat_saw : {k j : Key} {id' : TableId} {n : Named} {t t' : ℕ} (slots id : ℕ) (me : Seat) → me.1 ≡ [] → AreOf n.key me.0
    → record { id = id'; key = k } ≡ n → j ≡ n.key → t < length n.key.shape → t' ≡ t
    → Allows (Kept k) slots id me t' (λ c. c) (SawAll j (step slots t' 0 0 none) me)
seat_saw {k} {j} {id'} {n} {t} {t'} slots id me bare own nv key inside tier =
    let mine : n.key ≡ k = sym (ap (λ (z : Named). z.key) nv) in
    let a : Allows (Kept n.key) slots id (me.0, []) t (λ c. c) (SawAll n.key (step slots t 0 0 none) (me.0, [])) =
    looks_all_allow n.key slots id t me.0 inside own in
    let b : Allows (Kept n.key) slots id me t (λ c. c) (SawAll n.key (step slots t 0 0 none) me) =
    subst (λ (z : Seat). Allows (Kept n.key) slots id z t (λ c. c) (SawAll n.key (step slots t 0 0 none) z))
    (λ i. let z : Seat = (me.0, sym bare i) in z) a in
    subst (λ (z : Key). Allows (Kept z) slots id me t' (λ c. c) (SawAll j (step slots t' 0 0 none) me)) mine
    (subst (λ (z : Key). Allows (Kept n.key) slots id me t' (λ c. c) (SawAll z (step slots t' 0 0 none) me)) (sym key)
    (subst (λ (z : ℕ). Allows (Kept n.key) slots id me z (λ c. c) (SawAll n.key (step slots z 0 0 none) me)) (sym tier) b))

pub take_drop : (n : ℕ) (l : List Sight) → l ≡ take n l ++ drop n l
take_drop zero l = refl
take_drop (suc n) [] = refl
take_drop (suc n) (x ∷ xs) = ap (λ (m : List Sight). x ∷ m) (take_drop n xs)

pub take_long : (n : ℕ) (l : List Sight) → n ≤ length l → length (take n l) ≡ n
take_long zero l h = refl
take_long (suc n) [] h = absurd (omega arith)
take_long (suc n) (x ∷ xs) h = ap suc (take_long n xs (omega arith))

pub drop_long : (n : ℕ) (l : List Sight) → length (drop n l) ≡ length l - n
drop_long zero l = (let a : length l ≡ length l - 0 = omega arith in a)
drop_long (suc n) [] = (let a : 0 ≡ 0 - suc n = omega arith in a)
drop_long (suc n) (x ∷ xs) = drop_long n xs ∙ (let a : length xs - n ≡ suc (length xs) - suc n = omega arith in a)

pub take_alike : (k : Key) (v : View) (n : ℕ) (l : List Sight) → AreAlike k v l → AreAlike k v (take n l)
take_alike k v zero l all = tt
take_alike k v (suc n) [] all = tt
take_alike k v (suc n) (x ∷ xs) all = (all.0, take_alike k v n xs all.1)

pub drop_alike : (k : Key) (v : View) (n : ℕ) (l : List Sight) → AreAlike k v l → AreAlike k v (drop n l)
drop_alike k v zero l all = all
drop_alike k v (suc n) [] all = tt
drop_alike k v (suc n) (x ∷ xs) all = drop_alike k v n xs all.1

pub first_alike_key : (k : Key) (v : View) (l : List Sight) → 0 < length l → AreAlike k v l → (first_of no_sight l).key ≡ k
first_alike_key k v [] h alike = absurd (omega arith)
first_alike_key k v (x ∷ xs) h alike = alike.0.0

-- a seat with some alike tokens
pub crowd_with : {v : View} {count : ℕ} (k : Key) (me : Seat) → me.1 ≡ [] → length me.0 ≡ count → 0 < count → AreAlike k v me.0 → IsOne v
    → AreSeated me v count
crowd_with {v} {count} k me bare long some' alike one = record {
  bare = bare;
  long = long;
  some = some';
  alike = subst (λ (z : Key). AreAlike z v me.0) (sym (first_alike_key k v me.0 (omega arith) alike)) alike;
  view = one;
}

pub split_ok : {k : Key} {me : Seat} {v : View} {count n : ℕ} {id : TableId} {h : GroupHeld} {f b : List Sight} (seat : ℕ)
    → AreSeated me v count → group_of id me v ≡ h → 0 < n → n < length h.tokens → f ≡ take n h.tokens → b ≡ drop n h.tokens
    → Splits (Kept k) seat me.0 f b
split_ok {k} {me} {v} {count} {n} {id} {h} {f} {b} seat seated is some' less' front back =
    let few : n < length me.0 = subst (λ (z : GroupHeld). n < length z.tokens) (sym is) less' in
    let f' : f ≡ take n me.0 = front ∙ ap (λ (z : GroupHeld). take n z.tokens) (sym is) in
    let b' : b ≡ drop n me.0 = back ∙ ap (λ (z : GroupHeld). drop n z.tokens) (sym is) in
    parts_at k seat me.0 f b (take_drop n me.0 ∙ (λ i. sym f' i ++ sym b' i))
    (let x = ap length f' in let y = take_long n me.0 (omega arith) in omega arith)
    (let x = ap length b' in let y = drop_long n me.0 in omega arith)

pub kept_crowd : {me : Seat} {v : View} {count n : ℕ} {id : TableId} {h : GroupHeld} {f : List Sight} (me' : Seat) → AreSeated me v count
    → group_of id me v ≡ h → 0 < n → n < length h.tokens → f ≡ take n h.tokens → me' ≡ (f, me.1) → AreSeated me' v n
kept_crowd {me} {v} {count} {n} {id} {h} {f} me' seated is some' less' front at =
    let few : n < length me.0 = subst (λ (z : GroupHeld). n < length z.tokens) (sym is) less' in
    let now : me'.0 ≡ take n me.0 = ap (λ (z : Seat). z.0) at ∙ (front ∙ ap (λ (z : GroupHeld). take n z.tokens) (sym is)) in
    crowd_with (sight_of me).key me' (ap (λ (z : Seat). z.1) at ∙ seated.bare) (ap length now ∙ take_long n me.0 (omega arith)) some'
    (subst (AreAlike (sight_of me).key v) (sym now) (take_alike (sight_of me).key v n me.0 seated.alike)) seated.view

pub given_crowd : {me : Seat} {v : View} {count n : ℕ} {id : TableId} {h : GroupHeld} {b : List Sight} (me' : Seat) → AreSeated me v count
    → group_of id me v ≡ h → 0 < n → n < length h.tokens → b ≡ drop n h.tokens → me' ≡ (b, []) → AreSeated me' v (count - n)
given_crowd {me} {v} {count} {n} {id} {h} {b} me' seated is some' less' back at =
    let few : n < length me.0 = subst (λ (z : GroupHeld). n < length z.tokens) (sym is) less' in
    let now : me'.0 ≡ drop n me.0 = ap (λ (z : Seat). z.0) at ∙ (back ∙ ap (λ (z : GroupHeld). drop n z.tokens) (sym is)) in
    crowd_with (sight_of me).key me' (ap (λ (z : Seat). z.1) at) (ap length now ∙ (drop_long n me.0 ∙ ap (λ (c : ℕ). c - n) seated.long))
    (let x = seated.long in omega arith)
    (subst (AreAlike (sight_of me).key v) (sym now) (drop_alike (sight_of me).key v n me.0 seated.alike)) seated.view

pub split_done : {v : View} {count n : ℕ} {id : TableId} {h : GroupHeld} {f b : List Sight} (me kept given : Seat) (one two : TableId)
    → AreSeated me v count → group_of id me v ≡ h → 0 < n → n < length h.tokens → f ≡ take n h.tokens → b ≡ drop n h.tokens
    → kept ≡ (f, me.1) → given ≡ (b, []) → one ≡ id → two ≡ id → SplitAt n h (group_of one kept v) (group_of two given v)
split_done {v} {count} {n} {id} {h} {f} {b} me kept given one two seated is some' less' front back a c same same' =
    let few : n < length me.0 = subst (λ (z : GroupHeld). n < length z.tokens) (sym is) less' in
    let f' : kept.0 ≡ take n me.0 = ap (λ (z : Seat). z.0) a ∙ (front ∙ ap (λ (z : GroupHeld). take n z.tokens) (sym is)) in
    let b' : given.0 ≡ drop n me.0 = ap (λ (z : Seat). z.0) c ∙ (back ∙ ap (λ (z : GroupHeld). drop n z.tokens) (sym is)) in
    let k : Key = (sight_of me).key in
    let p : (sight_of kept).key ≡ k =
    ap (λ (l : List Sight). (first_of no_sight l).key) f'
    ∙ first_alike_key k v (take n me.0) (let x = take_long n me.0 (omega arith) in omega arith) (take_alike k v n me.0 seated.alike) in
    let q : (sight_of given).key ≡ k =
    ap (λ (l : List Sight). (first_of no_sight l).key) b'
    ∙ first_alike_key k v (drop n me.0) (let x = drop_long n me.0 in omega arith) (drop_alike k v n me.0 seated.alike) in
    let r : SplitAt n (group_of id me v) (group_of one kept v) (group_of two given v) = record {
      tree = ((λ i. record { id = same i; key = p i }), (λ i. record { id = same' i; key = q i }));
      view = (refl, refl);
      kept = f';
      given = b';
    } in
    subst (λ (z : GroupHeld). SplitAt n z (group_of one kept v) (group_of two given v)) is r

-- the two parts of a seat's views
among_front : (ps : List ℕ) (t : ℕ) (w : Fields) (xs ys : List View) → Among ps t w (xs ++ ys) → Among ps t w xs
among_front ps t w xs ys a = record {
  words = a.words;
  front = a.front;
  back = ys ++ a.back;
  shape = a.shape;
  within = a.within;
  word = a.word;
  tally = subst (λ (us : List View). Tallies ps a.words (a.front ++ us)) (append_assoc xs ys a.back) a.tally;
}

among_back : (ps : List ℕ) (t : ℕ) (w : Fields) (xs ys : List View) → Among ps t w (xs ++ ys) → Among ps t w ys
among_back ps t w xs ys a = record {
  words = a.words;
  front = a.front ++ xs;
  back = a.back;
  shape = a.shape;
  within = a.within;
  word = a.word;
  tally =
      subst (λ (us : List View). Tallies ps a.words us)
      (ap (λ (us : List View). a.front ++ us) (append_assoc xs ys a.back) ∙ sym (append_assoc a.front xs (ys ++ a.back))) a.tally;
}

pub among_parts : (k : Key) (t : ℕ) (w : Fields) (l m : List Sight) → Among k.shape t w (those (l ++ m))
    → Among k.shape t w (those l) × Among k.shape t w (those m)
among_parts k t w l m a =
    let b : Among k.shape t w (those l ++ those m) = subst (Among k.shape t w) (those-append l m) a in
    (among_front k.shape t w (those l) (those m) b, among_back k.shape t w (those l) (those m) b)

-- whoever finds the root open has not seen the end
pub unseen_all : (k : Key) (w : Fields) (v : View) (l : List Sight) → Among k.shape 0 w (those l) → AreAlike k v l → 0 < length l
    → w.ended ≡ false → v.end_seen ≡ None
unseen_all k w v l a alike some' going =
    none_of v.end_seen (λ p is. not_both w.ended (end_found k.shape w v p (among_beside k 0 w v l a alike some') is) going)

-- two views that agree on their members agree after a look
resting : (v : View) → v.errand ≡ Rest → unled v ≡ record v { led = false; note = None; errand = Rest }
resting v e = λ i. record v { led = false; note = cond (is_going_back (e i)) v.note None; errand = e i }

pub same_looked : (w : Fields) (v u : View) → u.tier ≡ v.tier → u.size ≡ v.size → u.phase ≡ v.phase → u.arrived ≡ v.arrived
    → u.errand ≡ Rest → v.errand ≡ Rest → (w.ended ≡ false → u.end_seen ≡ v.end_seen) → looked w u ≡ looked w v
same_looked w v u tier size phase arrived ru rv seen = go w.ended seen
  where
    go : (b : Bool) → (b ≡ false → u.end_seen ≡ v.end_seen)
        → cond b (record (unled u) { end_seen = Some w.phase; errand = dropped u.errand }) (moved w (unled u))
        ≡ cond b (record (unled v) { end_seen = Some w.phase; errand = dropped v.errand }) (moved w (unled v))
    go true e =
        ap (λ (z : View). record z { end_seen = Some w.phase; errand = dropped z.errand }) (resting u ru)
        ∙ ((λ i. record { tier = tier i; size = size i; phase = phase i; arrived = arrived i; end_seen = Some w.phase; led = false; note = None; errand = dropped Rest })
        ∙ ap (λ (z : View). record z { end_seen = Some w.phase; errand = dropped z.errand }) (sym (resting v rv)))
    go false e =
        ap (moved w)
        (resting u ru
        ∙ ((λ i. record { tier = tier i; size = size i; phase = phase i; arrived = arrived i; end_seen = e refl i; led = false; note = None; errand = Rest })
        ∙ sym (resting v rv)))

pub looked_append : (t : ℕ) (w : Fields) (tries : ℕ) (l m : List Sight)
    → looked_all t w tries (l ++ m) ≡ looked_all t w tries l ++ looked_all t w tries m
looked_append t w tries [] m = refl
looked_append t w tries (x ∷ xs) m = ap (λ (n : List Sight). stepped_sight (glance t) t w tries x ∷ n) (looked_append t w tries xs m)

pub both_are : (k : Key) (l m : List Sight) → AreOf k l → AreOf k m → AreOf k (l ++ m)
both_are k [] m a b = b
both_are k (x ∷ xs) m a b = (a.0, both_are k xs m a.1 b)

pub both_alike : (k : Key) (v : View) (l m : List Sight) → AreAlike k v l → AreAlike k v m → AreAlike k v (l ++ m)
both_alike k v [] m a b = b
both_alike k v (x ∷ xs) m a b = (a.0, both_alike k v xs m a.1 b)

pub joined_own : {id id' : TableId} {me mo : Seat} {v u : View} {count count' : ℕ} {h o : GroupHeld} {n : Named} (joined : Seat)
    → AreSeated me v count → group_of id me v ≡ h → h.tree ≡ n → AreSeated mo u count' → group_of id' mo u ≡ o → o.tree ≡ n
    → joined ≡ (me.0 ++ mo.0, me.1) → AreOf n.key joined.0
joined_own {id} {id'} {me} {mo} {v} {u} {count} {count'} {h} {o} {n} joined seated is own seated' is' own' at =
    subst (AreOf n.key) (sym (ap (λ (z : Seat). z.0) at))
    (both_are n.key me.0 mo.0 (alike_own n.key v me.0 (crowd_alike {id = id} {me = me} seated is own)) (alike_own n.key u mo.0 (crowd_alike {id = id'} {me = mo} seated' is' own')))

-- what two groups are together after a look at the root
pub record Joined (k : Key) (w : Fields) (v : View) (me mo now : Seat) : Type 0 where
  pub all : now.0 ≡ looked_all 0 w 0 (me.0 ++ mo.0)
  pub alike : AreAlike k (looked w v) now.0
  pub long : length now.0 ≡ length me.0 + length mo.0
  pub beside : Beside k.shape 0 w v
  pub found : AreReached k 0 w (me.0 ++ mo.0)

pub joined_now : {id id' : TableId} {me mo : Seat} {v u : View} {count count' : ℕ} {h o : GroupHeld} {n : Named} {w : Fields}
    (joined now : Seat)
    → AreSeated me v count → group_of id me v ≡ h → h.tree ≡ n → AreSeated mo u count' → group_of id' mo u ≡ o → o.tree ≡ n
    → AreTogether h.view o.view → joined ≡ (me.0 ++ mo.0, me.1) → LookedAll n.key 0 w 0 joined.0 now.0 → Joined n.key w v me mo now
joined_now {id} {id'} {me} {mo} {v} {u} {count} {count'} {h} {o} {n} {w} joined now seated is own seated' is' own' same at r =
    let a = crowd_alike {id = id} {me = me} seated is own in
    let b = crowd_alike {id = id'} {me = mo} seated' is' own' in
    let list : joined.0 ≡ me.0 ++ mo.0 = ap (λ (z : Seat). z.0) at in
    let all : now.0 ≡ looked_all 0 w 0 (me.0 ++ mo.0) = r.all ∙ ap (looked_all 0 w 0) list in
    let parts = among_parts n.key 0 w me.0 mo.0 (subst (λ (l : List Sight). Among n.key.shape 0 w (those l)) list r.before) in
    let some' : 0 < length me.0 = let x = seated.long in let y = seated.some in omega arith in
    let more : 0 < length mo.0 = let x = seated'.long in let y = seated'.some in omega arith in
    let agree : AreTogether v u =
    subst (λ (z : GroupHeld). AreTogether z.view u) (sym is) (subst (λ (z : GroupHeld). AreTogether h.view z.view) (sym is') same) in
    let view : looked w u ≡ looked w v =
    same_looked w v u agree.tier (seated'.view.one ∙ sym seated.view.one) agree.phase agree.arrived seated'.view.rests seated.view.rests
    (λ e. unseen_all n.key w u mo.0 parts.1 b more e ∙ sym (unseen_all n.key w v me.0 parts.0 a some' e)) in
    record {
      all = all;
      alike = subst (AreAlike n.key (looked w v)) (sym (all ∙ looked_append 0 w 0 me.0 mo.0))
          (both_alike n.key (looked w v) (looked_all 0 w 0 me.0) (looked_all 0 w 0 mo.0) (looked_alike n.key 0 w 0 v me.0 a)
          (subst (λ (z : View). AreAlike n.key z (looked_all 0 w 0 mo.0)) view (looked_alike n.key 0 w 0 u mo.0 b)));
      long = ap length all ∙ (looked_long 0 w 0 (me.0 ++ mo.0) ∙ length-append me.0 mo.0);
      beside = among_beside n.key 0 w v me.0 parts.0 a some';
      found = subst (AreReached n.key 0 w) list r.found;
    }

pub joined_crowd : {k : Key} {w : Fields} {v u z : View} {me mo : Seat} {count count' : ℕ} (now : Seat) → AreSeated me v count
    → AreSeated mo u count' → now.1 ≡ [] → Joined k w v me mo now → z ≡ looked w v → AreSeated now z (count + count')
joined_crowd {k} {w} {v} {u} {z} {me} {mo} {count} {count'} now seated seated' bare j is =
    subst (λ (y : View). AreSeated now y (count + count')) (sym is)
    (crowd_with k now bare (let a = j.long in let b = seated.long in let c = seated'.long in omega arith) (let b = seated.some in omega arith) j.alike (glanced_one 0 w v seated.view))

pub together_now : {id id' one : TableId} {me mo : Seat} {v u z : View} {count : ℕ} {h o : GroupHeld} {n : Named} {w : Fields} (now : Seat)
    → AreSeated me v count → group_of id me v ≡ h → h.tree ≡ n → group_of id' mo u ≡ o
    → Joined n.key w v me mo now → z ≡ looked w v → one ≡ id → Together h o (group_of one now z)
together_now {id} {id'} {one} {me} {mo} {v} {u} {z} {count} {h} {o} {n} {w} now seated is own is' j view same =
    let a = crowd_alike {id = id} {me = me} seated is own in
    let mine : (sight_of me).key ≡ n.key = ap (λ (y : GroupHeld). y.tree.key) is ∙ ap (λ (y : Named). y.key) own in
    let some' : 0 < length now.0 = let x = j.long in let y = seated.long in let c = seated.some in omega arith in
    let key : (sight_of now).key ≡ (sight_of me).key = first_alike_key n.key (looked w v) now.0 some' j.alike ∙ sym mine in
    let size = seated.view.one in
    let r : Together (group_of id me v) (group_of id' mo u) (group_of one now z) = record {
      root = w;
      tree = λ i. record { id = same i; key = key i };
      view = view;
      looked = subst (IsLooked v) (sym view) (looked_first n.key.shape w v j.beside (omega arith));
      tokens = j.all;
      found = subst (λ (k : Key). AreReached k 0 w (me.0 ++ mo.0)) (sym mine) j.found;
    } in
    subst (λ (y : GroupHeld). Together y o (group_of one now z)) is
    (subst (λ (y : GroupHeld). Together (group_of id me v) y (group_of one now z)) is' r)
