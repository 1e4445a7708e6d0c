-- The exchange by which new tokens join a tier beside a group.
use Rattle.std.proofs.Common.{◌≡◌, ◌≢◌, ℕ, ◌+◌, ◌<◌, ◌≤◌, List, [], ◌++◌, length, drop, ap, sym, ◌∙◌, subst, arith, length-append}
use Rattle.std.proofs.Math.Seq.{drop-append_seam}
use Rattle.atomic_table.specs.Table.{Me}
use Rattle.atomic_table.specs.Seated.{TableId}
use Rattle.phaser_word.specs.Fields.{Fields, IsLegal}
use Rattle.tier_steps.specs.declared.view.View.{View}
use Rattle.tier_steps.specs.View.{new_view}
use Rattle.tier_steps.specs.Step.{CanPass}
use Rattle.tier_steps.specs.declared.kind.Kind.{Kind}
use Rattle.tier_steps.specs.declared.kind.Kind.TheVariants.{Join}
use Rattle.tier_rule.specs.declared.sight.Key.{Key}
use Rattle.tier_rule.specs.declared.sight.Sight.{Sight}
use Rattle.tier_rule.specs.Group.{AreOf, AreAlike, Goes, all_stepped, looked_all}
use Rattle.tier_rule.proofs.Together.{front_goes}
use Rattle.tier_calls.specs.Holding.{Named, first_of, no_sight, sight_of}
use Rattle.tier_calls.specs.Groups.{GroupHeld, group_of, AreSeated, MayGo, HaveGone, HaveLost, glanced, joined_more}
use Rattle.tier_calls.specs.NewTokens.{TokensHeld, AreBlank, AreTokens, IsEager, tokens_of}
use Rattle.tier_calls.specs.JoinsAll.{MayJoin, sights_joined}
use Rattle.tier_calls.proofs.Arrivals.{stepped_long}
use Rattle.tier_calls.proofs.Grouping.{alike_own, looked_alike, looked_long, glanced_one}
use Rattle.tier_calls.proofs.Splitting.{looked_append, both_are, both_alike, crowd_with, first_alike_key}
use Rattle.tier_calls.proofs.Exchanging.{joins_are, join_goes, joined_alike}
use Rattle.tier_calls.proofs.ExchangeTry.{blank_own}

abbrev Seat : Type 0
Seat = Me Kind (List Sight)

pub may_join : {n : Named} {w : Fields} {c : GroupHeld} {p : TokensHeld} → (c.tree ≡ n) × (p.table ≡ n.id) → AreBlank n.key p.tokens
    → CanPass c.view.tier w c.view → IsEager c.view → c.view.tier < length n.key.shape → 0 < w.parties → length c.tokens ≤ w.unarrived
    → w.parties + length p.tokens ≤ 65535 → MayJoin n w c p
may_join own blank may eager place some enough capacity = record {
  own = own;
  blank = blank;
  may = may;
  eager = eager;
  place = place;
  some = some;
  enough = enough;
  capacity = capacity;
}

-- what is known before an exchange by which new tokens join a tier beside a group
pub record Joining : Type 0 where
  pub id : TableId
  pub new_id : TableId
  pub me : Seat
  pub new : Seat
  pub view : View
  pub count : ℕ
  pub new_count : ℕ
  pub named : Named
  pub word : Fields
  pub seated : AreSeated me view count
  pub pool : AreTokens new new_count
  pub may : MayJoin named word (group_of id me view) (tokens_of new_id new)

-- by what is known of the group and of the tokens whose seats these are
abbrev pub joining : {id id' : TableId} {v : View} {h : GroupHeld} {p : TokensHeld} {n : Named} {w : Fields} {count s : ℕ} (me mo : Seat)
    → AreSeated me v count → AreTokens mo s → group_of id me v ≡ h → tokens_of id' mo ≡ p → MayJoin n w h p → Joining
joining {id} {id'} {v} {h} {p} {n} {w} {count} {s} me mo seated pool is is' may = record {
  id = id;
  new_id = id';
  me = me;
  new = mo;
  view = v;
  count = count;
  new_count = s;
  named = n;
  word = w;
  seated = seated;
  pool = pool;
  may =
      subst (λ (z : GroupHeld). MayJoin n w z (tokens_of id' mo)) (sym is) (subst (λ (z : TokensHeld). MayJoin n w h z) (sym is') may);
}

module _ (x : Joining) where
  abbrev id : TableId
  id = x.id

  abbrev id' : TableId
  id' = x.new_id

  abbrev me : Seat
  me = x.me

  abbrev mo : Seat
  mo = x.new

  abbrev v : View
  v = x.view

  abbrev count : ℕ
  count = x.count

  abbrev s : ℕ
  s = x.new_count

  abbrev n : Named
  n = x.named

  abbrev w : Fields
  w = x.word

  abbrev seated : AreSeated me v count
  seated = x.seated

  abbrev pool : AreTokens mo s
  pool = x.pool

  abbrev may : MayJoin n w (group_of id me v) (tokens_of id' mo)
  may = x.may

  k : AreAlike n.key v me.0
  k = subst (λ (z : Key). AreAlike z v me.0) (ap (λ (z : Named). z.key) may.own.0) seated.alike

  abbrev news : List Sight
  news = all_stepped (Join v.tier 0 1) 1 v.tier (new_view 0) w mo.0

  waits : 0 < w.unarrived
  waits = let a = seated.long in let b = seated.some in let c = may.enough in omega arith

  all_own : (joined : Seat) → joined ≡ (mo.0 ++ me.0, mo.1) → AreOf n.key joined.0
  all_own joined at =
      subst (AreOf n.key) (sym (ap (λ (z : Seat). z.0) at))
      (both_are n.key mo.0 me.0 (blank_own n.key mo.0 may.blank) (alike_own n.key v me.0 k))

  pub joins_may : (joined : Seat) (next : Fields) (sights : List Sight) → IsLegal w → joined ≡ (mo.0 ++ me.0, mo.1)
      → sights ≡ sights_joined (group_of id me v) (tokens_of id' mo) w
      → next ≡ joined_more w s → MayGo n.key v.tier w next joined sights
  joins_may joined next sights legal at is to =
      let all : Goes n.key v.tier w (mo.0 ++ me.0) (joined_more w (length mo.0)) (news ++ me.0) =
      front_goes n.key v.tier w (joined_more w (length mo.0)) mo.0 news me.0
      (subst (λ (z : Fields). Goes n.key v.tier w mo.0 z news) (joins_are v.tier (new_view 0) w may.some (length mo.0))
      (join_goes n.key 1 v.tier (new_view 0) w mo.0 (omega arith) may.blank may.place may.may.going may.some waits may.capacity)) in
      let word : joined_more w (length mo.0) ≡ next = ap (joined_more w) pool.long ∙ sym to in
      record {
        bare = ap (λ (z : Seat). z.1) at ∙ pool.bare;
        legal = legal;
        own = all_own joined at;
        goes =
            subst (λ (l : List Sight). Goes n.key v.tier w l next sights) (sym (ap (λ (z : Seat). z.0) at))
            (subst (λ (z : Fields). Goes n.key v.tier w (mo.0 ++ me.0) z sights) word
            (subst (λ (m : List Sight). Goes n.key v.tier w (mo.0 ++ me.0) (joined_more w (length mo.0)) m) (sym is) all));
      }

  -- the exchange was lost
  pub lost_count : (joined now : Seat) (z : Fields) → joined ≡ (mo.0 ++ me.0, mo.1) → HaveLost n.key v.tier w z joined now
      → s < length now.0
  lost_count joined now z at lost =
      let a : length now.0 ≡ s + count =
      ap length lost.looked.all
      ∙ (looked_long v.tier z 1 joined.0
      ∙ (ap (λ (m : Seat). length m.0) at ∙ (length-append mo.0 me.0 ∙ (λ i. pool.long i + seated.long i)))) in
      let b = seated.some in omega arith

  lost_are : (joined now part : Seat) (z : Fields) → joined ≡ (mo.0 ++ me.0, mo.1) → HaveLost n.key v.tier w z joined now
      → part ≡ (drop s now.0, []) → part.0 ≡ looked_all v.tier z 1 me.0
  lost_are joined now part z at lost given =
      let l : List Sight = looked_all v.tier z 1 mo.0 in
      let m : List Sight = looked_all v.tier z 1 me.0 in
      let all : now.0 ≡ l ++ m = lost.looked.all ∙ (ap (λ (y : Seat). looked_all v.tier z 1 y.0) at ∙ looked_append v.tier z 1 mo.0 me.0) in
      let long : s ≡ length l = sym (looked_long v.tier z 1 mo.0 ∙ pool.long) in
      ap (λ (y : Seat). y.0) given ∙ ((λ i. drop (long i) (all i)) ∙ drop-append_seam l m)

  pub lost_seated : (joined now part : Seat) (z : Fields) (u : View) → joined ≡ (mo.0 ++ me.0, mo.1) → HaveLost n.key v.tier w z joined now
      → part ≡ (drop s now.0, []) → u ≡ glanced v.tier z v → AreSeated part u count
  lost_seated joined now part z u at lost given is =
      let now' = lost_are joined now part z at lost given in
      subst (λ (y : View). AreSeated part y count) (sym is)
      (crowd_with n.key part (ap (λ (y : Seat). y.1) given) (ap length now' ∙ (looked_long v.tier z 1 me.0 ∙ seated.long)) seated.some
      (subst (AreAlike n.key (glanced v.tier z v)) (sym now') (looked_alike n.key v.tier z 1 v me.0 k))
      (glanced_one v.tier z v seated.view))

  pub lost_join : (joined now part : Seat) (z : Fields) (u : View) (one : TableId) → joined ≡ (mo.0 ++ me.0, mo.1)
      → HaveLost n.key v.tier w z joined now → part ≡ (drop s now.0, []) → u ≡ glanced v.tier z v → one ≡ n.id
      → (z ≢ w) × ((group_of one part u).tree ≡ (group_of id me v).tree) × (u ≡ glanced v.tier z v) × (part.0 ≡ looked_all v.tier z 1 me.0)
  lost_join joined now part z u one at lost given is same =
      let now' = lost_are joined now part z at lost given in
      let x = seated.long in let y = seated.some in
      let key : (sight_of part).key ≡ n.key = ap (λ (l : List Sight). (first_of no_sight l).key) now'
      ∙ first_alike_key n.key (glanced v.tier z v) (looked_all v.tier z 1 me.0) (let o = looked_long v.tier z 1 me.0 in omega arith)
      (looked_alike n.key v.tier z 1 v me.0 k) in
      (lost.other, ((λ i. record { id = same i; key = key i }) ∙ sym may.own.0), is, now')

  -- the exchange was won
  both_long : length (news ++ me.0) ≡ s + count
  both_long = length-append news me.0 ∙ (λ i. (stepped_long (Join v.tier 0 1) 1 v.tier (new_view 0) w mo.0 ∙ pool.long) i + seated.long i)

  both : AreAlike n.key v (news ++ me.0)
  both = both_alike n.key v news me.0 (joined_alike n.key 1 v.tier (new_view 0) v w mo.0 may.some may.blank may.may seated.view may.eager) k

  pub joined_seated : (joined now : Seat) (next : Fields) (sights : List Sight)
      → sights ≡ sights_joined (group_of id me v) (tokens_of id' mo) w → HaveGone n.key v.tier w next joined now sights
      → AreSeated now v (s + count)
  joined_seated joined now next sights is g =
      let now' : now.0 ≡ news ++ me.0 = g.now ∙ is in
      let a = seated.some in
      crowd_with n.key now g.bare (ap length now' ∙ both_long) (omega arith) (subst (AreAlike n.key v) (sym now') both) seated.view

  pub joined_all : (joined now : Seat) (next : Fields) (sights : List Sight) (one : TableId)
      → sights ≡ sights_joined (group_of id me v) (tokens_of id' mo) w → HaveGone n.key v.tier w next joined now sights → one ≡ n.id
      → ((group_of one now v).tree ≡ (group_of id me v).tree) × (now.0 ≡ sights_joined (group_of id me v) (tokens_of id' mo) w)
  joined_all joined now next sights one is g same =
      let now' : now.0 ≡ news ++ me.0 = g.now ∙ is in
      let a = seated.some in
      let key : (sight_of now).key ≡ n.key =
      ap (λ (l : List Sight). (first_of no_sight l).key) now'
      ∙ first_alike_key n.key v (news ++ me.0) (let o = both_long in omega arith) both in
      ((λ i. record { id = same i; key = key i }) ∙ sym may.own.0, now')
