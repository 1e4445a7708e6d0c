-- All members of a group leave their tier by one exchange of its word.
use Rattle.std.proofs.Common.{◌≡◌, ◌≢◌, ℕ, zero, suc, ◌-◌, ◌<◌, ◌≤◌, ⊎_elim, Bool, true, false, cond, eqb, List, [], ◌∷◌, ◌==◌, length, refl, ap, sym, ◌∙◌, subst, arith, eq-eqb, ne_eqb}
use Rattle.std.proofs.lemmas.Bool.{cases_eq}
use Rattle.std.specs.List.{AllByRecursion}
use Rattle.atomic_table.specs.Table.{Me}
use Rattle.atomic_table.specs.Seated.{TableId}
use Rattle.phaser_word.specs.Fields.{Fields, IsLegal}
use Rattle.tier_shape.specs.Parents.{parent_of}
use Rattle.tier_steps.specs.declared.view.View.{View}
use Rattle.tier_steps.specs.declared.view.Errand.{Errand}
use Rattle.tier_steps.specs.declared.view.Errand.TheVariants.{Rest, Climbing, Advancing}
use Rattle.tier_steps.specs.declared.view.Passage.TheVariants.{Arrival, Departure}
use Rattle.tier_steps.specs.declared.kind.Kind.{Kind}
use Rattle.tier_steps.specs.declared.kind.Kind.TheVariants.{Leave}
use Rattle.tier_steps.specs.Step.{CanPass, passed, owed}
use Rattle.tier_steps.proofs.Legal.{legal_open}
use Rattle.tier_rule.specs.declared.sight.Key.{Key}
use Rattle.tier_rule.specs.declared.sight.Sight.{Sight}
use Rattle.tier_rule.specs.Reach.{those, front_of, rest_of}
use Rattle.tier_rule.specs.Tell.{Beside}
use Rattle.tier_rule.specs.Group.{stepped_sight, AreAlike, Among, Goes, after_many, all_stepped}
use Rattle.tier_rule.proofs.Together.{sweep}
use Rattle.tier_calls.specs.Holding.{Named, Holding, first_of, no_sight, sight_of, sight_held, shape_of, IsSeated}
use Rattle.tier_calls.specs.Made.{is_quiet}
use Rattle.tier_calls.specs.Passes.{HasCounted}
use Rattle.tier_calls.specs.Groups.{GroupHeld, group_of, AreSeated, MayGo, HaveGone, left_less}
use Rattle.tier_calls.specs.LastOnes.{IsLast}
use Rattle.tier_calls.specs.ArrivesAll.{Each, Did}
use Rattle.tier_calls.specs.LeavesAll.{all_left, owed_by_last, LeavesOnce, IsSpare, HaveLeft}
use Rattle.tier_calls.proofs.Seating.{holding}
use Rattle.tier_calls.proofs.Sitting.{held_seat}
use Rattle.tier_calls.proofs.Making.{made_none}
use Rattle.tier_calls.proofs.Grouping.{alike_own}
use Rattle.tier_calls.proofs.Arrivals.{none_yet, stepped_long, first_view}
use Rattle.tier_calls.proofs.LastOnes.{front_beside, put_first}
use Rattle.tier_calls.proofs.Exchanging.{leaves_are, can_later}
use Rattle.tier_calls.proofs.ArrivingAll.{crowd_alike}

abbrev Seat : Type 0
Seat = Me Kind (List Sight)

-- the word before the last of `count` departures
abbrev pub before_last : Fields → ℕ → Fields
before_last w count = left_less w (count - 1)

-- all members may leave, one after another
pub leave_all_goes : (k : Key) (t : ℕ) (v : View) (w : Fields) (l : List Sight) → AreAlike k v l → CanPass t w v → 0 < length l
    → length l ≤ w.parties
    → Goes k t w l (passed t Departure (before_last w (length l))) (all_stepped Leave 1 t v w l)
leave_all_goes k t v w [] alike can some' few = absurd (omega arith)
leave_all_goes k t v w (x ∷ xs) alike can some' few =
    let n : ℕ = length xs in
    let n' : n ≡ suc n - 1 = omega arith in
    subst (λ (z : Fields). Goes k t w (x ∷ xs) z (all_stepped Leave 1 t v w (x ∷ xs)))
    (ap (passed t Departure) (leaves_are t v w n (omega arith) ∙ ap (left_less w) n'))
    (sweep k Leave 1 t v w (x ∷ xs) (omega arith) (λ j. refl) alike
    (λ i h. (can_later t w (after_many Leave t v w i) v can (ap (λ (z : Fields). z.ended) (leaves_are t v w i (omega arith))) (ap (λ (z : Fields). z.phase) (leaves_are t v w i (omega arith))), tt)))

-- one party stays before the last departure exactly if none stays after it
one_before : (p n : ℕ) → 0 < n → n ≤ p → eqb (p - (n - 1)) 1 ≡ eqb p n
one_before p n some' few = ⊎_elim
    (λ (e : p ≡ n). eq-eqb (p - (n - 1)) 1 (omega arith) ∙ sym (eq-eqb p n e))
    (λ (e : p ≢ n). ne_eqb (p - (n - 1)) 1 (omega arith) ∙ sym (ne_eqb p n e))
    (cases_eq p n)

-- the word after all of them
pub all_left_is : (t n : ℕ) (w : Fields) → 0 < n → n ≤ w.parties → passed t Departure (before_last w n) ≡ all_left t n w
all_left_is zero n w some' few = λ i. record w {
  parties = (let a : w.parties - (n - 1) - 1 ≡ w.parties - n = omega arith in a) i;
  unarrived = (let a : w.unarrived - (n - 1) - 1 ≡ w.unarrived - n = omega arith in a) i;
}
all_left_is (suc t) n w some' few =
    let u : w.unarrived - (n - 1) - 1 ≡ w.unarrived - n = omega arith in
    let b : cond (eqb (w.parties - (n - 1)) 1) 1 (w.unarrived - (n - 1) - 1) ≡ cond (eqb w.parties n) 1 (w.unarrived - n) =
    λ i. cond (one_before w.parties n some' few i) 1 (u i) in
    λ i. record w { parties = (let a : w.parties - (n - 1) - 1 ≡ w.parties - n = omega arith in a) i; unarrived = b i }

-- what the last departure owes, if others are still to arrive, and if nobody was
pub owed_early : (above t n : ℕ) (w : Fields) → 0 < n → n < w.unarrived → w.unarrived ≤ w.parties
    → owed above t Departure (before_last w n) ≡ Rest
owed_early above zero n w some' more few = ap (λ (b : Bool). cond b Advancing Rest) (ne_eqb (w.unarrived - (n - 1)) 1 (omega arith))
owed_early above (suc t) n w some' more few =
    ap (λ (b : Bool). cond b (Climbing above Departure) (cond (eqb (w.unarrived - (n - 1)) 1) (Climbing above Arrival) Rest))
    (ne_eqb (w.parties - (n - 1)) 1 (omega arith))
    ∙ ap (λ (b : Bool). cond b (Climbing above Arrival) Rest) (ne_eqb (w.unarrived - (n - 1)) 1 (omega arith))

pub owed_last_of_all : (above t n : ℕ) (w : Fields) → 0 < n → n ≡ w.unarrived → w.unarrived ≤ w.parties
    → owed above t Departure (before_last w n) ≡ owed_by_last above t (w.parties == n)
owed_last_of_all above zero n w some' all few = ap (λ (b : Bool). cond b Advancing Rest) (eq-eqb (w.unarrived - (n - 1)) 1 (omega arith))
owed_last_of_all above (suc t) n w some' all few =
    ap (λ (b : Bool). cond (eqb (w.parties - (n - 1)) 1) (Climbing above Departure) (cond b (Climbing above Arrival) Rest))
    (eq-eqb (w.unarrived - (n - 1)) 1 (omega arith))
    ∙ (ap (λ (b : Bool). cond b (Climbing above Departure) (Climbing above Arrival)) (one_before w.parties n some' (omega arith))
    ∙ into (eqb w.parties n))
  where
    into : (b : Bool) → cond b (Climbing above Departure) (Climbing above Arrival) ≡ Climbing above (cond b Departure Arrival)
    into true = refl
    into false = refl

last_is_owed : (above t : ℕ) (b : Bool) → IsLast (owed_by_last above t b)
last_is_owed above zero b = tt
last_is_owed above (suc t) b = tt

pub each_left : (t : ℕ) (v : View) (w : Fields) (l : List Sight) → Each (Did LeavesOnce 1) l (all_stepped Leave 1 t v w l)
each_left t v w [] = tt
each_left t v w (x ∷ xs) = (
  record { key = refl; tried = omega arith; since = omega arith; steps = (x.steps, made_none is_quiet x.steps, refl); opened = refl },
  each_left t v w xs,
)

-- those that leave before the last one owe nothing
spare_before : (k : Key) (t : ℕ) (v : View) (w : Fields) (l : List Sight) → AreAlike k v l → v.size ≡ 1 → length l < w.unarrived
    → w.unarrived ≤ w.parties → AllByRecursion IsSpare (all_stepped Leave 1 t v w l)
spare_before k t v w [] alike one more few = tt
spare_before k t v w (x ∷ xs) alike one more few =
    let n : ℕ = length xs in
    let n' : n ≡ suc n - 1 = omega arith in
    let above : ℕ = parent_of x.key.shape t in (
      record {
        none = (let a = ap (λ (z : View). z.size) alike.0.1 in omega arith);
        rests =
            ap (owed above t Departure) (leaves_are t v w n (omega arith) ∙ ap (left_less w) n')
            ∙ owed_early above t (suc n) w (omega arith) more few;
      },
      spare_before k t v w xs alike.1 one (omega arith) few,
    )

rest_spare : (k : Key) (t : ℕ) (v : View) (w : Fields) (l : List Sight) → AreAlike k v l → v.size ≡ 1 → length l ≤ w.unarrived
    → w.unarrived ≤ w.parties → AllByRecursion IsSpare (rest_of (all_stepped Leave 1 t v w l))
rest_spare k t v w [] alike one some' few = tt
rest_spare k t v w (x ∷ xs) alike one some' few = spare_before k t v w xs alike.1 one (omega arith) few

-- the view of the token that leaves last
abbrev pub gone_view : ℕ → ℕ → View → Fields → ℕ → View
gone_view above t v w count = record v { size = 0; errand = owed above t Departure (before_last w count) }

gone_seated_at : (k : Key) (t : ℕ) (v : View) (w : Fields) (l : List Sight) → AreAlike k v l → 0 < length l → length l ≤ w.parties
    → v.size ≡ 1
    → Among k.shape t (passed t Departure (before_last w (length l))) (those (all_stepped Leave 1 t v w l))
    → IsSeated (front_of (all_stepped Leave 1 t v w l), []) (gone_view (parent_of k.shape t) t v w (length l)) t
    (passed t Departure (before_last w (length l)))
gone_seated_at k t v w [] alike some' few one among = absurd (omega arith)
gone_seated_at k t v w (x ∷ xs) alike some' few one among =
    let n : ℕ = length xs in
    let u : Fields = after_many Leave t v w n in
    let y : Sight = stepped_sight Leave t u 1 x in
    let n' : n ≡ suc n - 1 = omega arith in
    let before : u ≡ before_last w (suc n) = leaves_are t v w n (omega arith) ∙ ap (left_less w) n' in
    let none : v.size - 1 ≡ 0 = omega arith in
    let e : owed (parent_of x.key.shape t) t Departure u ≡ owed (parent_of k.shape t) t Departure (before_last w (suc n)) =
    ap (λ (z : Key). owed (parent_of z.shape t) t Departure u) alike.0.0 ∙ ap (owed (parent_of k.shape t) t Departure) before in
    let view : y.view ≡ gone_view (parent_of k.shape t) t v w (suc n) =
    ap (λ (z : View). record z { size = z.size - 1; errand = owed (parent_of x.key.shape t) t Departure u }) alike.0.1
    ∙ (λ i. record v { size = none i; errand = e i }) in
    let after : Fields = passed t Departure (before_last w (suc n)) in
    let b : Beside k.shape t after y.view = front_beside k t after y (all_stepped Leave 1 t v w xs) among in
    record {
      one = refl;
      view = view;
      tier = refl;
      word = ap (passed t Departure) before;
      beside =
          subst (λ (z : Key). Beside z.shape t after (gone_view (parent_of k.shape t) t v w (suc n))) (sym alike.0.0)
          (subst (Beside k.shape t after) view b);
    }

front_key : (t : ℕ) (v : View) (w : Fields) (l : List Sight)
    → (first_of no_sight (front_of (all_stepped Leave 1 t v w l))).key ≡ (first_of no_sight l).key
front_key t v w [] = refl
front_key t v w (x ∷ xs) = refl

-- a group that leaves its tier, whose word is w
module _ (id : TableId) (me : Seat) (v : View) (count : ℕ) (h : GroupHeld) (n : Named) (w : Fields) (seated : AreSeated me v count)
    (is : group_of id me v ≡ h) (own : h.tree ≡ n)
    (may : CanPass h.view.tier w h.view) (legal : IsLegal w) (some' : 0 < w.parties) (enough : length h.tokens ≤ w.unarrived) where
  alike : AreAlike n.key v me.0
  alike = crowd_alike {id = id} {me = me} seated is own

  can : CanPass v.tier w v
  can = subst (λ (z : GroupHeld). CanPass z.view.tier w z.view) (sym is) may

  -- the seat's first sight has the view of all
  reported : all_stepped Leave 1 v.tier (sight_of me).view w me.0 ≡ all_stepped Leave 1 v.tier v w me.0
  reported = ap (λ (z : View). all_stepped Leave 1 v.tier z w me.0) (first_view {me = me} seated)

  pub open_word : w.unarrived ≤ w.parties
  open_word = legal_open w legal some'

  pub few : count ≤ w.unarrived
  few = let a : length me.0 ≤ w.unarrived = subst (λ (z : GroupHeld). length z.tokens ≤ w.unarrived) (sym is) enough in
      let b = seated.long in
      omega arith

  pub many : length h.tokens ≡ count
  many = ap (λ (z : GroupHeld). length z.tokens) (sym is) ∙ seated.long

  pub may_leave : (next : Fields) → next ≡ passed v.tier Departure (before_last w count)
      → MayGo n.key v.tier w next me (all_stepped Leave 1 v.tier (sight_of me).view w me.0)
  may_leave next to = record {
    bare = seated.bare;
    legal = legal;
    own = alike_own n.key v me.0 alike;
    goes =
        subst (λ (z : Fields). Goes n.key v.tier w me.0 z (all_stepped Leave 1 v.tier (sight_of me).view w me.0))
        (ap (λ (c : ℕ). passed v.tier Departure (before_last w c)) seated.long ∙ sym to)
        (subst (Goes n.key v.tier w me.0 (passed v.tier Departure (before_last w (length me.0)))) (sym reported)
        (leave_all_goes n.key v.tier v w me.0 alike can (let a = seated.long in let b = seated.some in omega arith) (let a = seated.long in let b = few in let c = open_word in omega arith)));
  }

  pub gone_long : (next : Fields) (gone : Seat)
      → HaveGone n.key v.tier w next me gone (all_stepped Leave 1 v.tier (sight_of me).view w me.0) → length gone.0 ≡ count
  gone_long next gone g = ap length g.now ∙ (stepped_long Leave 1 v.tier (sight_of me).view w me.0 ∙ seated.long)

  -- the first token's seat
  pub gone_seated : (next before u : Fields) (gone me' : Seat) (e : Errand) → before ≡ before_last w count
      → next ≡ passed v.tier Departure before → HaveGone n.key v.tier w next me gone (all_stepped Leave 1 v.tier (sight_of me).view w me.0)
      → me' ≡ (front_of gone.0, []) → e ≡ owed (parent_of n.key.shape v.tier) v.tier Departure before → u ≡ next
      → IsSeated me' (record v { size = 0; errand = e }) v.tier u
  gone_seated next before u gone me' e was to g kept owes here =
      let all : List Sight = all_stepped Leave 1 v.tier v w me.0 in
      let word : next ≡ passed v.tier Departure (before_last w (length me.0)) =
      to ∙ (ap (passed v.tier Departure) was ∙ ap (λ (c : ℕ). passed v.tier Departure (before_last w c)) (sym seated.long)) in
      let a =
      gone_seated_at n.key v.tier v w me.0 alike (let a = seated.long in let b = seated.some in omega arith)
      (let a = seated.long in let b = few in let c = open_word in omega arith) seated.view.one
      (subst (λ (z : Fields). Among n.key.shape v.tier z (those all)) word (subst (λ (l : List Sight). Among n.key.shape v.tier next (those l)) reported g.after)) in
      let view : gone_view (parent_of n.key.shape v.tier) v.tier v w (length me.0) ≡ record v { size = 0; errand = e } =
      ap (gone_view (parent_of n.key.shape v.tier) v.tier v w) seated.long
      ∙ (λ i. record v { size = 0; errand = sym (owes ∙ ap (owed (parent_of n.key.shape v.tier) v.tier Departure) was) i }) in
      subst (λ (z : Seat). IsSeated z (record v { size = 0; errand = e }) v.tier u)
      (sym (kept ∙ ap (λ (l : List Sight). let z : Seat = (front_of l, []) in z) (g.now ∙ reported)))
      (subst (λ (z : Fields). IsSeated (front_of all, []) (record v { size = 0; errand = e }) v.tier z) (sym (here ∙ word))
      (subst (λ (z : View). IsSeated (front_of all, []) z v.tier (passed v.tier Departure (before_last w (length me.0)))) view a))

  -- what the first token owes
  pub owes_nothing : (before : Fields) (above : ℕ) (e : Errand) → before ≡ before_last w count → e ≡ owed above v.tier Departure before
      → count < w.unarrived → e ≡ Rest
  owes_nothing before above e was owes more =
      owes ∙ (ap (owed above v.tier Departure) was ∙ owed_early above v.tier count w seated.some more open_word)

  pub owes_last : (before : Fields) (above : ℕ) (e : Errand) → before ≡ before_last w count → e ≡ owed above v.tier Departure before
      → count ≡ w.unarrived → e ≡ owed_by_last above v.tier (w.parties == count)
  owes_last before above e was owes all =
      owes ∙ (ap (owed above v.tier Departure) was ∙ owed_last_of_all above v.tier count w seated.some all open_word)

  pub owes_something : (before : Fields) (above : ℕ) (e : Errand) → before ≡ before_last w count → e ≡ owed above v.tier Departure before
      → count ≡ w.unarrived → IsLast e
  owes_something before above e was owes all =
      subst IsLast (sym (owes_last before above e was owes all)) (last_is_owed above v.tier (w.parties == count))

  pub counted : (e : Errand) → HasCounted Departure h.view (record v { size = 0; errand = e })
  counted e = subst (λ (z : GroupHeld). HasCounted Departure z.view (record v { size = 0; errand = e })) is
      (record { tier = refl; phase = refl; arrival = λ d. absurd (cc); departure = λ d. ((let a = seated.view.one in omega arith), refl) })

  pub have_left : (next before u : Fields) (gone me' : Seat) (e : Errand) (one mid : TableId) (first : Holding)
      → before ≡ before_last w count → next ≡ passed v.tier Departure before
      → HaveGone n.key v.tier w next me gone (all_stepped Leave 1 v.tier (sight_of me).view w me.0) → me' ≡ (front_of gone.0, [])
      → IsSeated me' (record v { size = 0; errand = e }) v.tier u → u ≡ next → h.view.led ≡ false
      → one ≡ mid → mid ≡ id → first ≡ holding one me' (record v { size = 0; errand = e }) v.tier u → HaveLeft LeavesOnce 1 w h first
  have_left next before u gone me' e one mid first was to g kept seat here unled same middle held =
      let all : List Sight = all_stepped Leave 1 v.tier v w me.0 in
      let f : Holding = holding one me' (record v { size = 0; errand = e }) v.tier u in
      let a : me' ≡ (sight_held f ∷ [], []) = held_seat {id = one} refl seat in
      let front : sight_held f ∷ [] ≡ front_of all =
      sym (ap (λ (z : Seat). z.0) a) ∙ (ap (λ (z : Seat). z.0) kept ∙ ap front_of (g.now ∙ reported)) in
      let key : (sight_of me').key ≡ (sight_of me).key =
      ap (λ (z : Seat). (sight_of z).key) kept
      ∙ (ap (λ (l : List Sight). (first_of no_sight (front_of l)).key) (g.now ∙ reported) ∙ front_key v.tier v w me.0) in
      let r : HaveLeft LeavesOnce 1 w (group_of id me v) f = record {
        tree = λ i. record { id = (same ∙ middle) i; key = key i };
        none = refl;
        nobody = none_yet v.tier w v can seated.view;
        unled = ap (λ (z : GroupHeld). z.view.led) is ∙ unled;
        tier = refl;
        word =
            here
            ∙ (to
            ∙ (ap (passed v.tier Departure) was
            ∙ (all_left_is v.tier count w seated.some (let b = few in let c = open_word in omega arith)
            ∙ ap (λ (c : ℕ). all_left v.tier c w) (sym seated.long))));
        enough = open_word;
        gone = rest_of all;
        spare = rest_spare n.key v.tier v w me.0 alike seated.view.one (let a = seated.long in let b = few in omega arith) open_word;
        tokens = subst (Each (Did LeavesOnce 1) me.0) (sym (put_first (sight_held f) all front)) (each_left v.tier v w me.0);
      } in
      subst (HaveLeft LeavesOnce 1 w h) (sym held) (subst (λ (z : GroupHeld). HaveLeft LeavesOnce 1 w z f) is r)

  -- nobody else was to arrive there
  pub owing_last : (before u : Fields) (e : Errand) (me' : Seat) (one : TableId) (first : Holding) → before ≡ before_last w count
      → e ≡ owed (parent_of n.key.shape v.tier) v.tier Departure before → count ≡ w.unarrived
      → first ≡ holding one me' (record v { size = 0; errand = e }) v.tier u → first.tree ≡ h.tree
      → HasCounted Departure h.view first.view × (length h.tokens ≡ w.unarrived)
      × (first.view.errand ≡ owed_by_last (parent_of (shape_of first) h.view.tier) h.view.tier (w.parties == length h.tokens))
  owing_last before u e me' one first was owes all held tree =
      let shape : n.key.shape ≡ shape_of first = ap (λ (z : Named). z.key.shape) (sym (tree ∙ own)) in
      let tier : v.tier ≡ h.view.tier = ap (λ (z : GroupHeld). z.view.tier) is in
      let parent : parent_of n.key.shape v.tier ≡ parent_of (shape_of first) h.view.tier = λ i. parent_of (shape i) (tier i) in (
        subst (λ (z : Holding). HasCounted Departure h.view z.view) (sym held) (counted e),
        many ∙ all,
        ap (λ (z : Holding). z.view.errand) held
            ∙ (owes_last before (parent_of n.key.shape v.tier) e was owes all
            ∙ (λ i. owed_by_last (parent i) (tier i) (w.parties == sym many i))),
      )
