-- What is left to do when the last of some tokens has arrived at a tier.
use Rattle.std.proofs.Common.{◌≡◌, ℕ, ◌-◌, ◌<◌, Option, Some, None, List, [], ◌∷◌, length, MatchOption, option_map, refl, ap, sym, ◌∙◌, subst, arith}
use Rattle.atomic_table.specs.Table.{Me}
use Rattle.atomic_table.specs.Seated.{TableId}
use Rattle.phaser_word.specs.Fields.{Fields}
use Rattle.tier_shape.specs.Parents.{parent_of}
use Rattle.tier_steps.specs.declared.view.View.{View}
use Rattle.tier_steps.specs.declared.view.Errand.{Errand}
use Rattle.tier_steps.specs.declared.view.Passage.TheVariants.{Arrival}
use Rattle.tier_steps.specs.declared.kind.Kind.{Kind}
use Rattle.tier_steps.specs.declared.kind.Kind.TheVariants.{Arrive}
use Rattle.tier_steps.specs.Step.{owed}
use Rattle.tier_rule.specs.declared.sight.Key.{Key}
use Rattle.tier_rule.specs.declared.sight.Sight.{Sight}
use Rattle.tier_rule.specs.Reach.{those, front_of, rest_of}
use Rattle.tier_rule.specs.Group.{AreAlike, Among, all_stepped}
use Rattle.tier_calls.specs.Holding.{Named, Holding, first_of, no_sight, sight_of, sight_held, IsSeated}
use Rattle.tier_calls.specs.Groups.{GroupHeld, group_of, AreSeated}
use Rattle.tier_calls.specs.LastOnes.{IsLast, tokens_in}
use Rattle.tier_calls.specs.Settles.{HaveAllArrived, OthersOf, Settles}
use Rattle.tier_calls.proofs.Seating.{holding}
use Rattle.tier_calls.proofs.Sitting.{held_seat}
use Rattle.tier_calls.proofs.Splitting.{crowd_with, first_alike_key}
use Rattle.tier_calls.proofs.LastOnes.{last_view, last_seated_at, owed_last, rest_alike, rest_long, put_first}
use Rattle.tier_calls.proofs.Arrivals.{less, stepped_long}

abbrev Seat : Type 0
Seat = Me Kind (List Sight)

module _ (k : Key) (t : ℕ) (v : View) (count : ℕ) (me : Seat) (before next : Fields) (c : HaveAllArrived k t v count me before next) where
  abbrev all : List Sight
  all = all_stepped Arrive 1 t v c.from c.list

  is : me.0 ≡ all
  is = ap (λ (z : Seat). z.0) c.seat

  pub come_long : length me.0 ≡ count
  come_long = ap length is ∙ (stepped_long Arrive 1 t v c.from c.list ∙ c.long)

  others_alike : AreAlike k (record v { arrived = 1 }) (rest_of all)
  others_alike = rest_alike k t v c.from c.list c.alike c.none c.one.rests (let a = c.long in let b = c.few in omega arith)

  pub others_crowd : (m : Seat) → m ≡ (rest_of me.0, []) → 1 < count → AreSeated m (record v { arrived = 1 }) (count - 1)
  others_crowd m at more =
      let now : m.0 ≡ rest_of all = ap (λ (z : Seat). z.0) at ∙ ap rest_of is in
      let one = c.one.one in let rests = c.one.rests in
      crowd_with k m (ap (λ (z : Seat). z.1) at)
      (ap length now ∙ (rest_long all ∙ ap (λ (n : ℕ). n - 1) (stepped_long Arrive 1 t v c.from c.list ∙ c.long))) (omega arith)
      (subst (AreAlike k (record v { arrived = 1 })) (sym now) others_alike) (record { one = one; within = omega arith; rests = rests })

  pub first_seated : (m : Seat) (above : ℕ) (e : Errand) (u : Fields) → m ≡ (front_of me.0, []) → above ≡ parent_of k.shape t
      → e ≡ owed above t Arrival before → u ≡ next → IsSeated m (record v { arrived = 1; errand = e }) t u
  first_seated m above e u at up owes here =
      let word : next ≡ less c.from (length c.list) = c.word-after ∙ ap (less c.from) (sym c.long) in
      let among : Among k.shape t (less c.from (length c.list)) (those all) =
      subst (λ (z : Fields). Among k.shape t z (those all)) word (subst (λ (l : List Sight). Among k.shape t next (those l)) is c.among) in
      let a = last_seated_at k t v c.from c.list c.alike (let x = c.long in let y = c.some in omega arith) c.none among in
      let b : IsSeated m (last_view (parent_of k.shape t) t v c.from (length c.list)) t (less c.from (length c.list)) =
      subst (λ (z : Seat). IsSeated z (last_view (parent_of k.shape t) t v c.from (length c.list)) t (less c.from (length c.list)))
      (sym (at ∙ ap (λ (l : List Sight). let z : Seat = (front_of l, []) in z) is)) a in
      let view : last_view (parent_of k.shape t) t v c.from (length c.list) ≡ record v { arrived = 1; errand = e } =
      ap (last_view (parent_of k.shape t) t v c.from) c.long
      ∙ (λ i. record v { arrived = 1; errand = sym (owes ∙ (ap (λ (z : ℕ). owed z t Arrival before) up ∙ ap (owed (parent_of k.shape t) t Arrival) c.word-before)) i }) in
      subst (λ (z : Fields). IsSeated m (record v { arrived = 1; errand = e }) t z) (sym (here ∙ word))
      (subst (λ (z : View). IsSeated m z t (less c.from (length c.list))) view b)

  pub first_owes : (above : ℕ) (e : Errand) → e ≡ owed above t Arrival before → IsLast e
  first_owes above e owes = subst IsLast (sym owes) (owed_last above t before c.last)

others_of_tree : {X : Type 0} (A : Type 0) (B : X → Type 0) (n : Named) (v : View) (o : Option X) (f : X → GroupHeld) → MatchOption o A B
    → ((s : X) → B s → ((f s).tree ≡ n) × ((f s).view ≡ record v { arrived = 1 })) → OthersOf n v (option_map f o)
others_of_tree A B n v None f a is = tt
others_of_tree A B n v (Some s) f b is = is s b

pub
    settles_now : {X : Type 0} {n : Named} {t count : ℕ} {v : View} {before next u : Fields} {e : Errand} {rest : Option GroupHeld} {first : Holding}
    (one mid : TableId) (me m : Seat) (seat : X → Seat) (name : X → TableId) (o : Option X)
    → HaveAllArrived n.key t v count me before next → IsSeated m (record v { arrived = 1; errand = e }) t u
    → first ≡ holding one m (record v { arrived = 1; errand = e }) t u → one ≡ mid → mid ≡ n.id → m ≡ (front_of me.0, [])
    → MatchOption o (rest_of me.0 ≡ []) (λ s. (name s ≡ mid) × (seat s ≡ (rest_of me.0, [])) × (1 < count))
    → rest ≡ option_map (λ s. group_of (name s) (seat s) (record v { arrived = 1 })) o → Settles n v me.0 first rest
settles_now {X} {n} {t} {count} {v} {before} {next} {u} {e} {rest} {first} one mid me m seat name o c seated held same middle kept given
    others =
    let h : Holding = holding one m (record v { arrived = 1; errand = e }) t u in
    let a : m ≡ (sight_held h ∷ [], []) = held_seat {id = one} refl seated in
    let front : sight_held h ∷ [] ≡ front_of me.0 = sym (ap (λ (z : Seat). z.0) a) ∙ ap (λ (z : Seat). z.0) kept in
    let behind : tokens_in rest ≡ rest_of me.0 = ap tokens_in others ∙ tokens_by o (rest_of me.0) given in
    let list : List Sight = all_stepped Arrive 1 t v c.from c.list in
    let key : (sight_of m).key ≡ n.key =
    ap (λ (z : Seat). (sight_of z).key) kept
    ∙ (ap (λ (l : List Sight). (first_of no_sight (front_of l)).key) (ap (λ (z : Seat). z.0) c.seat)
    ∙ (front_key t v c.from c.list ∙ first_alike_key n.key v c.list (let x = c.long in let y = c.some in omega arith) c.alike)) in
    let r : Settles n v me.0 h rest = record {
      tree = λ i. record { id = (same ∙ middle) i; key = key i };
      view = refl;
      all = ap (λ (l : List Sight). sight_held h ∷ l) behind ∙ put_first (sight_held h) me.0 front;
      others =
          subst (OthersOf n v) (sym others)
          (others_of_tree (rest_of me.0 ≡ []) (λ s. (name s ≡ mid) × (seat s ≡ (rest_of me.0, [])) × (1 < count)) n v o (λ s. group_of (name s) (seat s) (record v { arrived = 1 })) given
          (λ s b. (
            (λ i. record { id = (b.0 ∙ middle) i; key = (rest_key (seat s) b.1 b.2) i }),
            refl,
          )));
    } in
    subst (λ (z : Holding). Settles n v me.0 z rest) (sym held) r
  where
    tokens_by : (p : Option X) (l : List Sight) → MatchOption p (l ≡ []) (λ s. (name s ≡ mid) × (seat s ≡ (l, [])) × (1 < count))
        → tokens_in (option_map (λ s. group_of (name s) (seat s) (record v { arrived = 1 })) p) ≡ l
    tokens_by None l a = sym a
    tokens_by (Some s) l a = ap (λ (z : Seat). z.0) a.1

    front_key : (t' : ℕ) (v' : View) (w : Fields) (l : List Sight)
        → (first_of no_sight (front_of (all_stepped Arrive 1 t' v' w l))).key ≡ (first_of no_sight l).key
    front_key t' v' w [] = refl
    front_key t' v' w (x ∷ xs) = refl

    rest_key : (z : Seat) → z ≡ (rest_of me.0, []) → 1 < count → (sight_of z).key ≡ n.key
    rest_key z at more = let g = others_crowd n.key t v count me before next c z at more in first_of_crowd z g (rest_is z at)
      where
        rest_is : (y : Seat) → y ≡ (rest_of me.0, []) → AreAlike n.key (record v { arrived = 1 }) y.0
        rest_is y e' =
            subst (AreAlike n.key (record v { arrived = 1 })) (sym (ap (λ (q : Seat). q.0) e' ∙ ap (λ (q : Seat). rest_of q.0) c.seat))
            (others_alike n.key t v count me before next c)

        first_of_crowd : (y : Seat) → AreSeated y (record v { arrived = 1 }) (count - 1) → AreAlike n.key (record v { arrived = 1 }) y.0
            → (sight_of y).key ≡ n.key
        first_of_crowd y g l = first_alike_key n.key (record v { arrived = 1 }) y.0 (let p = g.long in let q = g.some in omega arith) l
