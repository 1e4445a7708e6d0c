-- The exchange by which some new members join a tier, some old ones leave it, and all others arrive there.
use Rattle.std.proofs.Common.{◌≡◌, ◌≢◌, ℕ, ◌+◌, ◌-◌, ◌<◌, ◌≤◌, List, [], ◌∷◌, ◌++◌, length, take, drop, ap, sym, ◌∙◌, subst, arith, length-append}
use Rattle.std.proofs.Math.Seq.{drop-append_seam, take-append_seam}
use Rattle.atomic_table.specs.Table.{Me, Splits}
use Rattle.atomic_table.specs.Seated.{TableId}
use Rattle.phaser_word.specs.Fields.{Fields, IsLegal}
use Rattle.tier_steps.specs.declared.view.View.{View}
use Rattle.tier_steps.specs.View.{new_view}
use Rattle.tier_steps.specs.declared.kind.Kind.{Kind}
use Rattle.tier_steps.specs.declared.kind.Kind.TheVariants.{Join, Leave, Arrive}
use Rattle.tier_rule.specs.declared.sight.Key.{Key}
use Rattle.tier_rule.specs.declared.sight.Sight.{Sight}
use Rattle.tier_rule.specs.Reach.{those, Kept}
use Rattle.tier_rule.specs.Group.{AreOf, AreAlike, Among, Goes, all_stepped, looked_all}
use Rattle.tier_rule.proofs.Together.{parts_at}
use Rattle.tier_calls.specs.Holding.{Named, first_of, no_sight, sight_of}
use Rattle.tier_calls.specs.Groups.{GroupHeld, group_of, AreSeated, MayGo, HaveGone, HaveLost, glanced, joined_more, left_less}
use Rattle.tier_calls.specs.NewTokens.{TokensHeld, AreBlank, AreTokens, tokens_of, MayExchange}
use Rattle.tier_calls.specs.Exchanges.{sights_with}
use Rattle.tier_calls.proofs.Grouping.{alike_own, looked_alike, looked_long, glanced_one}
use Rattle.tier_calls.proofs.Splitting.{take_drop, take_long, drop_long, take_alike, drop_alike, looked_append, both_are, crowd_with, first_alike_key, among_parts}
use Rattle.tier_calls.specs.Settles.{HaveAllArrived}
use Rattle.tier_calls.proofs.Exchanging.{pass_goes, come_alike, come_before, before_long, come_long, gone_count}

abbrev Seat : Type 0
Seat = Me Kind (List Sight)

-- what is known before an exchange by which new tokens join a tier, some members of a group leave it, and the others arrive there
pub record Exchange : Type 0 where
  pub id : TableId
  pub new_id : TableId
  pub me : Seat
  pub new : Seat
  pub view : View
  pub count : ℕ
  pub new_count : ℕ
  pub leaving : ℕ
  pub named : Named
  pub word : Fields
  pub seated : AreSeated me view count
  pub pool : AreTokens new new_count
  pub may : MayExchange named leaving word (group_of id me view) (tokens_of new_id new)

-- by what is known of the group and of the tokens whose seats these are
abbrev pub exchange : {id id' : TableId} {v : View} {h : GroupHeld} {p : TokensHeld} {n : Named} {leaving : ℕ} {w : Fields} {count s : ℕ}
    (me mo : Seat) → AreSeated me v count → AreTokens mo s → group_of id me v ≡ h → tokens_of id' mo ≡ p → MayExchange n leaving w h p
    → Exchange
exchange {id} {id'} {v} {h} {p} {n} {leaving} {w} {count} {s} me mo seated pool is is' may = record {
  id = id;
  new_id = id';
  me = me;
  new = mo;
  view = v;
  count = count;
  new_count = s;
  leaving = leaving;
  named = n;
  word = w;
  seated = seated;
  pool = pool;
  may =
      subst (λ (z : GroupHeld). MayExchange n leaving w z (tokens_of id' mo)) (sym is)
      (subst (λ (z : TokensHeld). MayExchange n leaving w h z) (sym is') may);
}

pub part_ok : {k : Key} {n : ℕ} {f b : List Sight} (seat : ℕ) (l : List Sight) → 0 < n → n < length l → f ≡ take n l → b ≡ drop n l
    → Splits (Kept k) seat l f b
part_ok {k} {n} {f} {b} seat l some' less' front back =
    parts_at k seat l f b (take_drop n l ∙ (λ i. sym front i ++ sym back i))
    (let x = ap length front in let y = take_long n l (omega arith) in omega arith)
    (let x = ap length back in let y = drop_long n l in omega arith)

pub blank_own : (k : Key) (l : List Sight) → AreBlank k l → AreOf k l
blank_own k [] all = tt
blank_own k (x ∷ xs) all = (all.0.0, blank_own k xs all.1)

module _ (x : Exchange) where
  abbrev id : TableId
  id = x.id

  abbrev id' : TableId
  id' = x.new_id

  abbrev me : Seat
  me = x.me

  abbrev mo : Seat
  mo = x.new

  abbrev v : View
  v = x.view

  abbrev count : ℕ
  count = x.count

  abbrev s : ℕ
  s = x.new_count

  abbrev leaving : ℕ
  leaving = x.leaving

  abbrev n : Named
  n = x.named

  abbrev w : Fields
  w = x.word

  abbrev seated : AreSeated me v count
  seated = x.seated

  abbrev pool : AreTokens mo s
  pool = x.pool

  abbrev may : MayExchange n leaving w (group_of id me v) (tokens_of id' mo)
  may = x.may

  abbrev stay : List Sight
  stay = take (length me.0 - leaving) me.0

  abbrev gone : List Sight
  gone = drop (length me.0 - leaving) me.0

  k : AreAlike n.key v me.0
  k = subst (λ (z : Key). AreAlike z v me.0) (ap (λ (z : Named). z.key) may.own.0) seated.alike

  blank : AreBlank n.key mo.0
  blank = may.blank

  stay_long : length stay ≡ count - leaving
  stay_long = take_long (length me.0 - leaving) me.0 (omega arith) ∙ ap (λ (c : ℕ). c - leaving) seated.long

  gone_long : length gone ≡ leaving
  gone_long =
      drop_long (length me.0 - leaving) me.0
      ∙ (let a = may.few in let b : length me.0 - (length me.0 - leaving) ≡ leaving = omega arith in b)

  pub all_own : (joined : Seat) → joined ≡ (mo.0 ++ me.0, mo.1) → AreOf n.key joined.0
  all_own joined at =
      subst (AreOf n.key) (sym (ap (λ (z : Seat). z.0) at))
      (both_are n.key mo.0 me.0 (blank_own n.key mo.0 blank) (alike_own n.key v me.0 k))

  pub pass_may : (joined : Seat) (next : Fields) (sights : List Sight) → IsLegal w → joined ≡ (mo.0 ++ me.0, mo.1)
      → sights ≡ sights_with (group_of id me v) (tokens_of id' mo) leaving w
      → next ≡ record w { parties = w.parties + s - leaving; unarrived = w.unarrived - count } → MayGo n.key v.tier w next joined sights
  pass_may joined next sights legal at is to =
      let a = stay_long in
      let b = gone_long in
      let c = seated.long in
      let d = pool.long in
      let e = may.come in
      let f = seated.some in
      let g = may.enough in
      let h = may.few in
      let r = may.capacity in
      let u : Fields =
      record w { parties = w.parties + length mo.0 - length gone; unarrived = w.unarrived - (length stay + length gone) } in
      let q : Goes n.key v.tier w (mo.0 ++ (stay ++ gone)) u (sights_with (group_of id me v) (tokens_of id' mo) leaving w) =
      pass_goes n.key v.tier (new_view 0) v w mo.0 stay gone blank (take_alike n.key v (length me.0 - leaving) me.0 k)
      (drop_alike n.key v (length me.0 - leaving) me.0 k) may.may seated.view may.eager may.place legal may.some r (omega arith)
      (omega arith) (omega arith) in
      let list : mo.0 ++ (stay ++ gone) ≡ joined.0 =
      ap (λ (l : List Sight). mo.0 ++ l) (sym (take_drop (length me.0 - leaving) me.0)) ∙ sym (ap (λ (z : Seat). z.0) at) in
      let word : u ≡ next = (λ i. record w {
        parties = (let x : w.parties + length mo.0 - length gone ≡ w.parties + s - leaving = omega arith in x) i;
        unarrived = (let x : w.unarrived - (length stay + length gone) ≡ w.unarrived - count = omega arith in x) i;
      }) ∙ sym to in
      record {
        bare = ap (λ (z : Seat). z.1) at ∙ pool.bare;
        legal = legal;
        own = all_own joined at;
        goes =
            subst (λ (l : List Sight). Goes n.key v.tier w l next sights) list
            (subst (λ (z : Fields). Goes n.key v.tier w (mo.0 ++ (stay ++ gone)) z sights) word
            (subst (λ (m : List Sight). Goes n.key v.tier w (mo.0 ++ (stay ++ gone)) u m) (sym is) q));
      }

  -- the exchange was lost
  pub lost_long : (joined now : Seat) (z : Fields) → joined ≡ (mo.0 ++ me.0, mo.1) → HaveLost n.key v.tier w z joined now
      → length now.0 ≡ s + count
  lost_long joined now z at lost =
      ap length lost.looked.all
      ∙ (looked_long v.tier z 1 joined.0
      ∙ (ap (λ (m : Seat). length m.0) at ∙ (length-append mo.0 me.0 ∙ (λ i. pool.long i + seated.long i))))

  lost_is : (joined now part : Seat) (z : Fields) → joined ≡ (mo.0 ++ me.0, mo.1) → HaveLost n.key v.tier w z joined now
      → part ≡ (drop s now.0, []) → part.0 ≡ looked_all v.tier z 1 me.0
  lost_is joined now part z at lost given =
      let l : List Sight = looked_all v.tier z 1 mo.0 in
      let m : List Sight = looked_all v.tier z 1 me.0 in
      let all : now.0 ≡ l ++ m = lost.looked.all ∙ (ap (λ (y : Seat). looked_all v.tier z 1 y.0) at ∙ looked_append v.tier z 1 mo.0 me.0) in
      let long : s ≡ length l = sym (looked_long v.tier z 1 mo.0 ∙ pool.long) in
      ap (λ (y : Seat). y.0) given ∙ ((λ i. drop (long i) (all i)) ∙ drop-append_seam l m)

  pub lost_crowd : (joined now part : Seat) (z : Fields) (u : View) → joined ≡ (mo.0 ++ me.0, mo.1) → HaveLost n.key v.tier w z joined now
      → part ≡ (drop s now.0, []) → u ≡ glanced v.tier z v → AreSeated part u count
  lost_crowd joined now part z u at lost given is =
      let now' = lost_is joined now part z at lost given in
      subst (λ (y : View). AreSeated part y count) (sym is)
      (crowd_with n.key part (ap (λ (y : Seat). y.1) given) (ap length now' ∙ (looked_long v.tier z 1 me.0 ∙ seated.long)) seated.some
      (subst (AreAlike n.key (glanced v.tier z v)) (sym now') (looked_alike n.key v.tier z 1 v me.0 k))
      (glanced_one v.tier z v seated.view))

  pub lost_now : (joined now part : Seat) (z : Fields) (u : View) (one : TableId) → joined ≡ (mo.0 ++ me.0, mo.1)
      → HaveLost n.key v.tier w z joined now → part ≡ (drop s now.0, []) → u ≡ glanced v.tier z v → one ≡ n.id
      → (z ≢ w) × ((group_of one part u).tree ≡ (group_of id me v).tree) × (u ≡ glanced v.tier z v) × (part.0 ≡ looked_all v.tier z 1 me.0)
  lost_now joined now part z u one at lost given is same =
      let c = lost_crowd joined now part z u at lost given is in
      let now' = lost_is joined now part z at lost given in
      let long = ap length now' ∙ looked_long v.tier z 1 me.0 in
      let x = seated.long in let y = seated.some in
      let key : (sight_of part).key ≡ n.key = ap (λ (l : List Sight). (first_of no_sight l).key) now'
      ∙ first_alike_key n.key (glanced v.tier z v) (looked_all v.tier z 1 me.0) (let o = looked_long v.tier z 1 me.0 in omega arith)
      (looked_alike n.key v.tier z 1 v me.0 k) in
      (lost.other, ((λ i. record { id = same i; key = key i }) ∙ sym may.own.0), is, now')

  -- the exchange was won
  abbrev come : List Sight
  come =
      all_stepped Arrive 1 v.tier v (left_less (joined_more w (length mo.0)) (length gone))
      (all_stepped (Join v.tier 0 1) 0 v.tier (new_view 0) w mo.0 ++ stay)

  abbrev went : List Sight
  went = all_stepped Leave 1 v.tier v (joined_more w (length mo.0)) gone

  come_count : length come ≡ s + count - leaving
  come_count =
      let a = come_long v.tier (new_view 0) v w (left_less (joined_more w (length mo.0)) (length gone)) mo.0 stay in
      let b = stay_long in
      let c = pool.long in
      let d = may.few in
      let e = seated.long in
      omega arith

  pub won_long : (joined now : Seat) (next : Fields) (sights : List Sight)
      → sights ≡ sights_with (group_of id me v) (tokens_of id' mo) leaving w → HaveGone n.key v.tier w next joined now sights
      → (0 < s + count - leaving) × (s + count - leaving + leaving ≡ length now.0)
  won_long joined now next sights is g =
      let a = come_count in
      let b = gone_count v.tier v (joined_more w (length mo.0)) gone in
      let c = gone_long in
      let d = may.few in
      let e = seated.long in
      let f = may.come in
      let i = pool.long in
      let h : length now.0 ≡ length come + length went = ap length (g.now ∙ is) ∙ length-append come went in
      (omega arith, omega arith)

  front_is : (joined now kept : Seat) (next : Fields) (sights : List Sight)
      → sights ≡ sights_with (group_of id me v) (tokens_of id' mo) leaving w → HaveGone n.key v.tier w next joined now sights
      → kept ≡ (take (s + count - leaving) now.0, []) → kept.0 ≡ come
  front_is joined now kept next sights is g at =
      ap (λ (y : Seat). y.0) at ∙ ((λ i. take (sym come_count i) ((g.now ∙ is) i)) ∙ take-append_seam come went)

  come_are : length me.0 < w.unarrived → AreAlike n.key (record v { arrived = 1 }) come
  come_are more =
      let a = stay_long in let b = gone_long in let c = may.few in let d = seated.long in
      come_alike n.key v.tier (new_view 0) v w mo.0 stay gone blank (take_alike n.key v (length me.0 - leaving) me.0 k) may.may seated.view
      may.eager may.some (omega arith)

  pub won_crowd : (joined now kept : Seat) (next : Fields) (sights : List Sight)
      → sights ≡ sights_with (group_of id me v) (tokens_of id' mo) leaving w → HaveGone n.key v.tier w next joined now sights
      → kept ≡ (take (s + count - leaving) now.0, [])
      → length me.0 < w.unarrived → AreSeated kept (record v { arrived = 1 }) (s + count - leaving)
  won_crowd joined now kept next sights is g at more =
      let now' = front_is joined now kept next sights is g at in
      let one = seated.view.one in let rests = seated.view.rests in
      crowd_with n.key kept (ap (λ (y : Seat). y.1) at) (ap length now' ∙ come_count) (won_long joined now next sights is g).0
      (subst (AreAlike n.key (record v { arrived = 1 })) (sym now') (come_are more))
      (record { one = one; within = omega arith; rests = rests })

  pub won_now : (joined now kept : Seat) (next : Fields) (sights : List Sight) (one : TableId)
      → sights ≡ sights_with (group_of id me v) (tokens_of id' mo) leaving w → HaveGone n.key v.tier w next joined now sights
      → kept ≡ (take (s + count - leaving) now.0, []) → one ≡ n.id → length me.0 < w.unarrived
      → ((group_of one kept (record v { arrived = 1 })).tree ≡ (group_of id me v).tree)
      × ((l : List Sight) × (kept.0 ++ l ≡ sights_with (group_of id me v) (tokens_of id' mo) leaving w) × (length l ≡ leaving))
  won_now joined now kept next sights one is g at same more =
      let now' = front_is joined now kept next sights is g at in
      let a = come_count in let some' = (won_long joined now next sights is g).0 in
      let key : (sight_of kept).key ≡ n.key =
      ap (λ (l : List Sight). (first_of no_sight l).key) now'
      ∙ first_alike_key n.key (record v { arrived = 1 }) come (omega arith) (come_are more) in (
        (λ i. record { id = same i; key = key i }) ∙ sym may.own.0,
        (went, ap (λ (l : List Sight). l ++ went) now', gone_count v.tier v (joined_more w (length mo.0)) gone ∙ gone_long),
      )

  -- one of the arrivals was the last
  pub won_last : (joined now kept : Seat) (before next : Fields) (sights : List Sight)
      → sights ≡ sights_with (group_of id me v) (tokens_of id' mo) leaving w → HaveGone n.key v.tier w next joined now sights
      → kept ≡ (take (s + count - leaving) now.0, [])
      → length me.0 ≡ w.unarrived → before ≡ record w { parties = w.parties + s - leaving; unarrived = 1 }
      → next ≡ record w { parties = w.parties + s - leaving; unarrived = w.unarrived - count }
      → HaveAllArrived n.key v.tier v (s + count - leaving) kept before next
  won_last joined now kept before next sights is g at last' was to =
      let now' = front_is joined now kept next sights is g at in
      let a = stay_long in let b = gone_long in let c = seated.long in let d = pool.long in let e = may.few in
      let list : List Sight = all_stepped (Join v.tier 0 1) 0 v.tier (new_view 0) w mo.0 ++ stay in
      let from : Fields = left_less (joined_more w (length mo.0)) (length gone) in
      let long = before_long v.tier (new_view 0) w mo.0 stay in
      let all : Among n.key.shape v.tier next (those (come ++ went)) =
      subst (λ (l : List Sight). Among n.key.shape v.tier next (those l)) is g.after in
      record {
        from = from;
        list = list;
        seat = λ i. let z : Seat = (now' i, ap (λ (y : Seat). y.1) at i) in z;
        alike =
            come_before n.key v.tier (new_view 0) v w mo.0 stay blank (take_alike n.key v (length me.0 - leaving) me.0 k) may.may
            seated.view may.eager may.some;
        long = (let x : length list ≡ s + count - leaving = omega arith in x);
        some = (won_long joined now next sights is g).0;
        word-before = was ∙ (λ i. record w {
          parties = (let x : w.parties + s - leaving ≡ w.parties + length mo.0 - length gone = omega arith in x) i;
          unarrived =
              (let x : 1 ≡ w.unarrived + length mo.0 - length gone - (s + count - leaving - 1) =
              let y = (won_long joined now next sights is g).0 in
              omega arith in
              x)
              i;
        });
        word-after = to ∙ (λ i. record w {
          parties = (let x : w.parties + s - leaving ≡ w.parties + length mo.0 - length gone = omega arith in x) i;
          unarrived = (let x : w.unarrived - count ≡ w.unarrived + length mo.0 - length gone - (s + count - leaving) = omega arith in x) i;
        });
        last = ap (λ (z : Fields). z.unarrived) was;
        few = (let x : s + count - leaving ≤ w.unarrived + length mo.0 - length gone = omega arith in x);
        among =
            subst (λ (l : List Sight). Among n.key.shape v.tier next (those l)) (sym now') (among_parts n.key v.tier next come went all).0;
        one = seated.view;
        none = may.eager.none;
      }

  pub last_passed : (joined now kept : Seat) (next : Fields) (sights : List Sight) (first : Sight) (rest : List Sight)
      → sights ≡ sights_with (group_of id me v) (tokens_of id' mo) leaving w → HaveGone n.key v.tier w next joined now sights
      → kept ≡ (take (s + count - leaving) now.0, []) → first ∷ rest ≡ kept.0
      → (l : List Sight) × ((first ∷ rest) ++ l ≡ sights_with (group_of id me v) (tokens_of id' mo) leaving w) × (length l ≡ leaving)
  last_passed joined now kept next sights first rest is g at all = (
    went,
    ap (λ (l : List Sight). l ++ went) (all ∙ front_is joined now kept next sights is g at),
    gone_count v.tier v (joined_more w (length mo.0)) gone ∙ gone_long,
  )
