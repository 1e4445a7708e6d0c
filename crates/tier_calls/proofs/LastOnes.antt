-- Arrivals of several tokens by one exchange, of which one is the last at their tier.
use Rattle.std.proofs.Common.{◌≡◌, ℕ, zero, suc, ◌+◌, ◌-◌, ◌<◌, ◌≤◌, Bool, cond, Option, Some, None, List, [], ◌∷◌, ◌++◌, length, IfSome, MatchOption, option_map, refl, ap, sym, ◌∙◌, subst, arith, eq-eqb}
use Rattle.atomic_table.specs.Table.{Me, Splits}
use Rattle.atomic_table.specs.Seated.{TableId}
use Rattle.phaser_word.specs.Fields.{Fields}
use Rattle.tier_shape.specs.Parents.{parent_of}
use Rattle.tier_steps.specs.declared.view.View.{View}
use Rattle.tier_steps.specs.declared.view.Errand.{Errand}
use Rattle.tier_steps.specs.declared.view.Errand.TheVariants.{Rest, Climbing, Advancing}
use Rattle.tier_steps.specs.declared.view.Passage.TheVariants.{Arrival}
use Rattle.tier_steps.specs.declared.kind.Kind.{Kind}
use Rattle.tier_steps.specs.declared.kind.Kind.TheVariants.{Arrive}
use Rattle.tier_steps.specs.Step.{CanPass, owed}
use Rattle.tier_rule.specs.declared.sight.Key.{Key}
use Rattle.tier_rule.specs.declared.sight.Sight.{Sight}
use Rattle.tier_rule.specs.Reach.{those, front_of, rest_of, Kept}
use Rattle.tier_rule.specs.Tell.{Beside}
use Rattle.tier_rule.specs.Group.{stepped_sight, AreAlike, Among, after_many, all_stepped}
use Rattle.tier_rule.proofs.Together.{parts_any}
use Rattle.tier_calls.specs.Holding.{Named, Holding, first_of, no_sight, sight_of, sight_held, IsSeated}
use Rattle.tier_calls.specs.Groups.{GroupHeld, group_of, AreSeated, HaveGone}
use Rattle.tier_calls.specs.LastOnes.{IsLast, tokens_in, Others, LastArrived}
use Rattle.tier_calls.proofs.Seating.{holding}
use Rattle.tier_calls.proofs.Sitting.{held_seat}
use Rattle.tier_calls.proofs.Arrivals.{less, arrivals, early, none_yet, first_view, stepped_long}

abbrev Seat : Type 0
Seat = Me Kind (List Sight)

-- the first of at least two tokens may be parted from the others
pub part_allow : (k : Key) (id : ℕ) (l : List Sight) → 1 < length l → Splits (Kept k) id l (front_of l) (rest_of l)
part_allow k id [] h = absurd (omega arith)
part_allow k id (x ∷ []) h = absurd (omega arith)
part_allow k id (x ∷ y ∷ m) h = parts_any k id x [] y m

-- the view of the token that arrives last
abbrev pub last_view : ℕ → ℕ → View → Fields → ℕ → View
last_view above t v w count = record v { arrived = 1; errand = owed above t Arrival (less w (count - 1)) }

pub owed_last : (above t : ℕ) (w : Fields) → w.unarrived ≡ 1 → IsLast (owed above t Arrival w)
owed_last above zero w h = subst IsLast (sym (ap (λ (b : Bool). cond b Advancing Rest) (eq-eqb w.unarrived 1 h))) tt
owed_last above (suc t) w h = subst IsLast (sym (ap (λ (b : Bool). cond b (Climbing above Arrival) Rest) (eq-eqb w.unarrived 1 h))) tt

pub is_last : (above t : ℕ) (w before : Fields) (count : ℕ) (e : Errand) → count ≡ w.unarrived → 0 < count → before ≡ less w (count - 1)
    → e ≡ owed above t Arrival before → IsLast e
is_last above t w before count e all some' is owes =
    subst IsLast (sym (owes ∙ ap (owed above t Arrival) is))
    (owed_last above t (less w (count - 1)) (let a : w.unarrived - (count - 1) ≡ 1 = omega arith in a))

pub front_beside : (k : Key) (t : ℕ) (u : Fields) (y : Sight) (ys : List Sight) → Among k.shape t u (those (y ∷ ys))
    → Beside k.shape t u y.view
front_beside k t u y ys a =
    record {
      words = a.words;
      front = a.front;
      back = those ys ++ a.back;
      shape = a.shape;
      within = a.within;
      word = a.word;
      tally = a.tally;
    }

pub last_seated_at : (k : Key) (t : ℕ) (v : View) (w : Fields) (l : List Sight) → AreAlike k v l → 0 < length l → v.arrived ≡ 0
    → Among k.shape t (less w (length l)) (those (all_stepped Arrive 1 t v w l))
    → IsSeated (front_of (all_stepped Arrive 1 t v w l), []) (last_view (parent_of k.shape t) t v w (length l)) t (less w (length l))
last_seated_at k t v w [] alike some' none among = absurd (omega arith)
last_seated_at k t v w (x ∷ xs) alike some' none among =
    let n : ℕ = length xs in
    let u : Fields = after_many Arrive t v w n in
    let y : Sight = stepped_sight Arrive t u 1 x in
    let one : v.arrived + 1 ≡ 1 = omega arith in
    let n' : n ≡ suc n - 1 = omega arith in
    let e : owed (parent_of x.key.shape t) t Arrival u ≡ owed (parent_of k.shape t) t Arrival (less w (suc n - 1)) =
    ap (λ (z : Key). owed (parent_of z.shape t) t Arrival u) alike.0.0
    ∙ ap (owed (parent_of k.shape t) t Arrival) (arrivals t v w n ∙ ap (less w) n') in
    let view : y.view ≡ last_view (parent_of k.shape t) t v w (suc n) =
    ap (λ (z : View). record z { arrived = z.arrived + 1; errand = owed (parent_of x.key.shape t) t Arrival u }) alike.0.1
    ∙ (λ i. record v { arrived = one i; errand = e i }) in
    let b : Beside k.shape t (less w (suc n)) y.view = front_beside k t (less w (suc n)) y (all_stepped Arrive 1 t v w xs) among in
    record {
      one = refl;
      view = view;
      tier = refl;
      word = arrivals t v w (suc n);
      beside =
          subst (λ (z : Key). Beside z.shape t (less w (suc n)) (last_view (parent_of k.shape t) t v w (suc n))) (sym alike.0.0)
          (subst (Beside k.shape t (less w (suc n))) view b);
    }

-- the seat of the token that arrived last
pub
    last_seated : {id : TableId} {me gone me' : Seat} {v : View} {count above : ℕ} {h : GroupHeld} {n : Named} {w next before u : Fields} {e : Errand}
    → AreSeated me v count → group_of id me v ≡ h → h.tree ≡ n → CanPass h.view.tier w h.view
    → next ≡ less w count → before ≡ less w (count - 1) → u ≡ next → above ≡ parent_of n.key.shape v.tier
    → e ≡ owed above v.tier Arrival before
    → HaveGone n.key v.tier w next me gone (all_stepped Arrive 1 v.tier (sight_of me).view w me.0) → me' ≡ (front_of gone.0, [])
    → IsSeated me' (record v { arrived = 1; errand = e }) v.tier u
last_seated {id} {me} {gone} {me'} {v} {count} {above} {h} {n} {w} {next} {before} {u} {e} seated is own can to was here up owes g kept =
    let can' : CanPass v.tier w v = subst (λ (z : GroupHeld). CanPass z.view.tier w z.view) (sym is) can in
    let key : (sight_of me).key ≡ n.key = ap (λ (z : GroupHeld). z.tree.key) is ∙ ap (λ (z : Named). z.key) own in
    let alike : AreAlike n.key v me.0 = subst (λ (z : Key). AreAlike z v me.0) key seated.alike in
    let m : List Sight = all_stepped Arrive 1 v.tier v w me.0 in
    let m' : all_stepped Arrive 1 v.tier (sight_of me).view w me.0 ≡ m =
    ap (λ (z : View). all_stepped Arrive 1 v.tier z w me.0) (first_view {me = me} seated) in
    let word : next ≡ less w (length me.0) = to ∙ ap (less w) (sym seated.long) in
    let among : Among n.key.shape v.tier (less w (length me.0)) (those m) =
    subst (λ (z : Fields). Among n.key.shape v.tier z (those m)) word
    (subst (λ (l : List Sight). Among n.key.shape v.tier next (those l)) m' g.after) in
    let a =
    last_seated_at n.key v.tier v w me.0 alike (let x = seated.long in let y = seated.some in omega arith)
    (none_yet v.tier w v can' seated.view) among in
    let b : IsSeated me' (last_view (parent_of n.key.shape v.tier) v.tier v w (length me.0)) v.tier (less w (length me.0)) =
    subst (λ (z : Seat). IsSeated z (last_view (parent_of n.key.shape v.tier) v.tier v w (length me.0)) v.tier (less w (length me.0)))
    (sym (kept ∙ ap (λ (l : List Sight). let z : Seat = (front_of l, []) in z) (g.now ∙ m'))) a in
    let view : last_view (parent_of n.key.shape v.tier) v.tier v w (length me.0) ≡ record v { arrived = 1; errand = e } =
    ap (last_view (parent_of n.key.shape v.tier) v.tier v w) seated.long
    ∙ (λ i. record v { arrived = 1; errand = sym (owes ∙ (ap (λ (z : ℕ). owed z v.tier Arrival before) up ∙ ap (owed (parent_of n.key.shape v.tier) v.tier Arrival) was)) i }) in
    subst (λ (z : Fields). IsSeated me' (record v { arrived = 1; errand = e }) v.tier z) (sym (here ∙ word))
    (subst (λ (z : View). IsSeated me' z v.tier (less w (length me.0))) view b)

first_is : (k : Key) (v : View) (l : List Sight) → 0 < length l → AreAlike k v l → (first_of no_sight l).key ≡ k
first_is k v [] h alike = absurd (omega arith)
first_is k v (x ∷ xs) h alike = alike.0.0

pub rest_alike : (k : Key) (t : ℕ) (v : View) (w : Fields) (l : List Sight) → AreAlike k v l → v.arrived ≡ 0 → v.errand ≡ Rest
    → length l ≤ w.unarrived → AreAlike k (record v { arrived = 1 }) (rest_of (all_stepped Arrive 1 t v w l))
rest_alike k t v w [] alike none rests few = tt
rest_alike k t v w (x ∷ xs) alike none rests few = early k t v w xs alike.1 none rests (omega arith)

pub rest_long : (l : List Sight) → length (rest_of l) ≡ length l - 1
rest_long [] = omega arith
rest_long (x ∷ xs) = let a : length xs ≡ suc (length xs) - 1 = omega arith in a

-- the seat of the others
pub rest_crowd : {id : TableId} {me gone : Seat} {v : View} {count : ℕ} {h : GroupHeld} {n : Named} {w next : Fields} (me' : Seat)
    → AreSeated me v count → group_of id me v ≡ h → h.tree ≡ n → CanPass h.view.tier w h.view
    → length h.tokens ≡ w.unarrived → HaveGone n.key v.tier w next me gone (all_stepped Arrive 1 v.tier (sight_of me).view w me.0)
    → 1 < count → me' ≡ (rest_of gone.0, []) → AreSeated me' (record v { arrived = 1 }) (count - 1)
rest_crowd {id} {me} {gone} {v} {count} {h} {n} {w} {next} me' seated is own can last' g more given =
    let can' : CanPass v.tier w v = subst (λ (z : GroupHeld). CanPass z.view.tier w z.view) (sym is) can in
    let few : length me.0 ≤ w.unarrived =
    let a : length me.0 ≡ w.unarrived = subst (λ (z : GroupHeld). length z.tokens ≡ w.unarrived) (sym is) last' in
    omega arith in
    let key : (sight_of me).key ≡ n.key = ap (λ (z : GroupHeld). z.tree.key) is ∙ ap (λ (z : Named). z.key) own in
    let alike : AreAlike n.key v me.0 = subst (λ (z : Key). AreAlike z v me.0) key seated.alike in
    let m : List Sight = all_stepped Arrive 1 v.tier v w me.0 in
    let now : me'.0 ≡ rest_of m =
    ap (λ (z : Seat). z.0) given
    ∙ ap rest_of (g.now ∙ ap (λ (z : View). all_stepped Arrive 1 v.tier z w me.0) (first_view {me = me} seated)) in
    let r : AreAlike n.key (record v { arrived = 1 }) me'.0 =
    subst (AreAlike n.key (record v { arrived = 1 })) (sym now)
    (rest_alike n.key v.tier v w me.0 alike (none_yet v.tier w v can' seated.view) seated.view.rests few) in
    let long : length me'.0 ≡ count - 1 =
    ap length now ∙ (rest_long m ∙ ap (λ (c : ℕ). c - 1) (stepped_long Arrive 1 v.tier v w me.0 ∙ seated.long)) in
    let one = seated.view.one in
    let rests = seated.view.rests in
    record {
      bare = ap (λ (z : Seat). z.1) given;
      long = long;
      some = omega arith;
      alike =
          subst (λ (z : Key). AreAlike z (record v { arrived = 1 }) me'.0)
          (sym (first_is n.key (record v { arrived = 1 }) me'.0 (omega arith) r)) r;
      view = record { one = one; within = omega arith; rests = rests };
    }

pub from_match : {X : Type 0} (A : Type 0) (B P : X → Type 0) (o : Option X) → MatchOption o A B → ((s : X) → B s → P s) → IfSome o P
from_match A B P None a f = tt
from_match A B P (Some s) b f = f s b

pub tokens_behind : {X : Type 0} (o : Option X) (f : X → GroupHeld) (l : List Sight) → MatchOption o (l ≡ []) (λ s. (f s).tokens ≡ l)
    → tokens_in (option_map f o) ≡ l
tokens_behind None f l a = sym a
tokens_behind (Some s) f l a = a

pub put_first : (s : Sight) (m : List Sight) → s ∷ [] ≡ front_of m → s ∷ rest_of m ≡ m
put_first s [] e = absurd (let a : 1 ≡ 0 = ap length e in omega arith)
put_first s (x ∷ xs) e = ap (λ (l : List Sight). first_of s l ∷ xs) e

others_behind : {X : Type 0} (A : Type 0) (B : X → Type 0) (old : GroupHeld) (o : Option X) (f : X → GroupHeld) → MatchOption o A B
    → ((s : X) → B s → ((f s).tree ≡ old.tree) × ((f s).view ≡ record old.view { arrived = 1 })) → Others old (option_map f o)
others_behind A B old None f a is = tt
others_behind A B old (Some s) f b is = is s b

-- what has been counted, and who owes what
pub
    last_arrived : {X : Type 0} {id : TableId} {me gone me' : Seat} {v v' : View} {count : ℕ} {h : GroupHeld} {n : Named} {w next u : Fields} {rest : Option GroupHeld} {first : Holding}
    (one mid : TableId) (seat : X → Seat) (name : X → TableId) (o : Option X)
    → AreSeated me v count → group_of id me v ≡ h → h.tree ≡ n → CanPass h.view.tier w h.view → length h.tokens ≡ w.unarrived
    → HaveGone n.key v.tier w next me gone (all_stepped Arrive 1 v.tier (sight_of me).view w me.0)
    → IsSeated me' v' v.tier u → v' ≡ record v { arrived = 1; errand = v'.errand } → first ≡ holding one me' v' v.tier u → one ≡ mid
    → mid ≡ id → me' ≡ (front_of gone.0, [])
    → MatchOption o (rest_of gone.0 ≡ []) (λ s. (name s ≡ mid) × (seat s ≡ (rest_of gone.0, [])) × (1 < count))
    → rest ≡ option_map (λ s. group_of (name s) (seat s) (record v { arrived = 1 })) o → LastArrived w h first rest
last_arrived {X} {id} {me} {gone} {me'} {v} {v'} {count} {h} {n} {w} {next} {u} {rest} {first} one mid seat name o seated is own can last' g
    first-seated view held same middle kept given others =
    let can' : CanPass v.tier w v = subst (λ (z : GroupHeld). CanPass z.view.tier w z.view) (sym is) can in
    let few : length me.0 ≤ w.unarrived =
    let a : length me.0 ≡ w.unarrived = subst (λ (z : GroupHeld). length z.tokens ≡ w.unarrived) (sym is) last' in
    omega arith in
    let key : (sight_of me).key ≡ n.key = ap (λ (z : GroupHeld). z.tree.key) is ∙ ap (λ (z : Named). z.key) own in
    let alike : AreAlike n.key v me.0 = subst (λ (z : Key). AreAlike z v me.0) key seated.alike in
    let m : List Sight = all_stepped Arrive 1 v.tier v w me.0 in
    let now : gone.0 ≡ m = g.now ∙ ap (λ (z : View). all_stepped Arrive 1 v.tier z w me.0) (first_view {me = me} seated) in
    let a : me' ≡ (sight_held (holding one me' v' v.tier u) ∷ [], []) = held_seat {id = one} refl first-seated in
    let front : sight_held (holding one me' v' v.tier u) ∷ [] ≡ front_of m =
    sym (ap (λ (z : Seat). z.0) a) ∙ (ap (λ (z : Seat). z.0) kept ∙ ap front_of now) in
    let behind : tokens_in rest ≡ rest_of m = ap tokens_in others ∙ (tokens_by o (rest_of gone.0) given ∙ ap rest_of now) in
    let mine : (sight_of me').key ≡ (sight_of me).key =
    ap (λ (z : Seat). (sight_of z).key) kept
    ∙ (front_key gone.0
    ∙ (ap (λ (l : List Sight). (first_of no_sight l).key) g.now ∙ first_stepped v.tier (sight_of me).view w me.0)) in
    let r : AreAlike n.key (record v { arrived = 1 }) (rest_of m) =
    rest_alike n.key v.tier v w me.0 alike (none_yet v.tier w v can' seated.view) seated.view.rests few in
    let rest_key : (z : Seat) → z ≡ (rest_of gone.0, []) → 1 < count → (sight_of z).key ≡ (sight_of me).key = λ z e some'.
    ap (λ (y : Seat). (sight_of y).key) e ∙ (ap (λ (l : List Sight). (first_of no_sight (rest_of l)).key) now
    ∙ (first_is n.key (record v { arrived = 1 }) (rest_of m) (let a = rest_long m in let b = stepped_long Arrive 1 v.tier v w me.0 in let d = seated.long in omega arith) r
    ∙ sym key)) in
    let t : LastArrived w (group_of id me v) (holding one me' v' v.tier u) rest = record {
      tree = λ i. record { id = (same ∙ middle) i; key = mine i };
      view = view;
      tokens =
          ap (λ (l : List Sight). sight_held (holding one me' v' v.tier u) ∷ l) behind
          ∙ put_first (sight_held (holding one me' v' v.tier u)) m front;
      others = subst (Others (group_of id me v)) (sym others)
          (others_behind (rest_of gone.0 ≡ []) (λ s. (name s ≡ mid) × (seat s ≡ (rest_of gone.0, [])) × (1 < count)) (group_of id me v) o
          (λ s. group_of (name s) (seat s) (record v { arrived = 1 })) given
          (λ s b. (
            (λ i. record { id = (b.0 ∙ middle) i; key = rest_key (seat s) b.1 b.2 i }),
            refl,
          )));
    } in
    subst (λ (z : Holding). LastArrived w h z rest) (sym held)
    (subst (λ (z : GroupHeld). LastArrived w z (holding one me' v' v.tier u) rest) is t)
  where
    tokens_by : (p : Option X) (l : List Sight) → MatchOption p (l ≡ []) (λ s. (name s ≡ mid) × (seat s ≡ (l, [])) × (1 < count))
        → tokens_in (option_map (λ s. group_of (name s) (seat s) (record v { arrived = 1 })) p) ≡ l
    tokens_by None l a = sym a
    tokens_by (Some s) l a = ap (λ (z : Seat). z.0) a.1

    front_key : (l : List Sight) → (first_of no_sight (front_of l)).key ≡ (first_of no_sight l).key
    front_key [] = refl
    front_key (x ∷ xs) = refl

    first_stepped : (t : ℕ) (z : View) (y : Fields) (l : List Sight)
        → (first_of no_sight (all_stepped Arrive 1 t z y l)).key ≡ (first_of no_sight l).key
    first_stepped t z y [] = refl
    first_stepped t z y (x ∷ xs) = refl

pub gone_long : {k : Key} {count : ℕ} {v : View} {w next : Fields} (me gone : Seat) → AreSeated me v count
    → HaveGone k v.tier w next me gone (all_stepped Arrive 1 v.tier (sight_of me).view w me.0) → length gone.0 ≡ count
gone_long {k} {count} {v} {w} {next} me gone seated g =
    ap length g.now ∙ (stepped_long Arrive 1 v.tier (sight_of me).view w me.0 ∙ seated.long)
