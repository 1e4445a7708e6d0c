-- A group keeps the root's word that its tokens found, and goes on from it without a load.
use Rattle.std.proofs.Common.{◌≡◌, ◌≢◌, ℕ, zero, suc, ◌+◌, ◌<◌, ◌≤◌, inl, inr, ◌⊎◌, Bool, true, false, cond, Option, Some, None, List, [], ◌∷◌, ◌==◌, length, refl, ap, sym, ◌∙◌, subst, arith, ne_eqb}
use Rattle.std.specs.Prelude.{MatchOption, IfSome}
use Rattle.atomic_table.specs.Table.{Me}
use Rattle.atomic_table.specs.Seated.{TableId}
use Rattle.phaser_word.specs.Fields.{Fields}
use Rattle.tier_core.specs.Turn.{lags}
use Rattle.tier_steps.specs.declared.view.View.{View}
use Rattle.tier_steps.specs.declared.view.Errand.{Errand}
use Rattle.tier_steps.specs.declared.kind.Kind.{Kind}
use Rattle.tier_steps.specs.Step.{CanPass, looked, dropped, is_going_back}
use Rattle.tier_rule.specs.declared.sight.Key.{Key}
use Rattle.tier_rule.specs.declared.sight.Sight.{Sight}
use Rattle.tier_rule.specs.Reach.{those}
use Rattle.tier_rule.specs.Group.{AreAlike, Among, Goes, follows, looked_all}
use Rattle.tier_rule.proofs.Going.{looks_go}
use Rattle.tier_calls.specs.Holding.{Named, sight_of}
use Rattle.tier_calls.specs.Made.{is_quiet}
use Rattle.tier_calls.specs.Groups.{GroupHeld, group_of, IsOne, AreSeated, IsGroup, glanced, AllLooked, MayGo, HaveGone, HaveLost, AllArrived, AllLost}
use Rattle.tier_calls.specs.NewTokens.{IsEager}
use Rattle.tier_calls.specs.Kept.{FoundThere, MayBegin, MayKeep, LooksUnlessKept, Finds, before_of, as_seat, GoesFrom, Begins, begun}
use Rattle.tier_calls.specs.KeptTries.{TriesFrom, LooksAndTries, TriesKept, SoFar, TriedOnce}
use Rattle.tier_calls.specs.ArrivesAll.{Each, Did, HasSpent, OnlyLooks, Looks, StillHere, KeepsAll, TriesAll}
use Rattle.tier_calls.specs.ArrivesWith.{FirstLook, OnlyTried}
use Rattle.tier_calls.specs.declared.groups.TriedAll.{TriedAll}
use Rattle.tier_calls.specs.declared.groups.TriedAll.TheVariants as tried
use Rattle.tier_calls.specs.Passes.{IsFresh}
use Rattle.tier_core.proofs.Turns.{not_both}
use Rattle.tier_calls.proofs.Passing.{looked_fresh}
use Rattle.tier_calls.proofs.Settling.{none_of, end_found}
use Rattle.tier_calls.proofs.Making.{made_none}
use Rattle.tier_calls.proofs.Grouping.{alike_own, unled, looked_alike, looked_long, seated_group}
use Rattle.tier_calls.proofs.Arrivals.{enough}
use Rattle.tier_calls.proofs.Splitting.{first_alike_key, Joined}
use Rattle.tier_calls.proofs.ExchangeTries.{eager_first, looked_note, parties_there}
use Rattle.tier_calls.proofs.Waits.{lags_parts}
use Rattle.tier_calls.proofs.ArrivingAll.{among_beside, crowd_alike, each_long, each_looked, spent_looks, looked_keeps, looked_yet, none_now, ready, last_count, yet, keeps_none, keeps_then, counts_then, last_then, comes_then, arrived_counts, may_pass, may_pass_all, first_tokens, first_look, unseen_all, looked_unled, glanced_here, to_arrive, still}

abbrev Seat : Type 0
Seat = Me Kind (List Sight)

-- what a look at the root lets a group keep
pub found_after : {w : Fields} {h : GroupHeld} {id : TableId} {u : View} (me : Seat) (o : Option Fields)
    → AllLooked 0 w 0 h (group_of id me u) → IfSome o (λ f. (f ≡ w) × MayKeep u w) → IfSome o (FoundThere me u)
found_after {w} {h} {id} {u} me None r is = tt
found_after {w} {h} {id} {u} me (Some f) r is =
    let may = is.1 in
    let none = to_arrive u r.group.view may.some in
    subst (FoundThere me u) (sym is.0) (record {
      root = may.root;
      among =
          subst (λ (n : ℕ). Among (sight_of me).key.shape n w (those me.0)) (sym may.root)
          (subst (λ (z : Named). Among z.key.shape 0 w (those me.0)) (sym r.tree) r.looked.after);
      may = subst (λ (n : ℕ). CanPass n w u) (sym may.root) (may_pass_all r may.root none may.going may.current);
      eager = eager_first r may.going none;
    })

-- what two groups keep together of a look at the root
pub found_joined : {k : Key} {w : Fields} {v z : View} {me mo : Seat} {count count' : ℕ} (now : Seat) (o : Option Fields)
    → AreSeated me v count → AreSeated now z count' → Joined k w v me mo now → Among k.shape 0 w (those now.0) → z ≡ looked w v
    → IfSome o (λ f. (f ≡ w) × MayKeep z w) → IfSome o (FoundThere now z)
found_joined {k} {w} {v} {z} {me} {mo} {count} {count'} now None seated both j among is r = tt
found_joined {k} {w} {v} {z} {me} {mo} {count} {count'} now (Some f) seated both j among is r =
    let may = r.1 in
    let some' : 0 < length now.0 = let a = both.long in let b = both.some in omega arith in
    let key : (sight_of now).key ≡ k = first_alike_key k (looked w v) now.0 some' j.alike in
    let alike : AreAlike k z now.0 = subst (λ (y : View). AreAlike k y now.0) (sym is) j.alike in
    let none = to_arrive z both.view may.some in
    let fresh : IsFresh z =
    subst IsFresh (sym is)
    (looked_fresh w v may.going (none_of v.end_seen (λ p e. not_both w.ended (end_found k.shape w v p j.beside e) may.going))) in
    subst (FoundThere now z) (sym r.0) (record {
      root = may.root;
      among =
          subst (λ (n : ℕ). Among (sight_of now).key.shape n w (those now.0)) (sym may.root)
          (subst (λ (y : Key). Among y.shape 0 w (those now.0)) (sym key) among);
      may =
          subst (λ (n : ℕ). CanPass n w z) (sym may.root)
          (may_pass k 0 w z now.0 among alike some' may.root both.view none may.going may.current);
      eager =
          record {
            none = none;
            unseen = fresh.unseen;
            unled = fresh.unled;
            unnoted = ap (λ (y : View). y.note) is ∙ looked_note w v seated.view.rests;
          };
    })

begin_by : {id : TableId} {me : Seat} {v : View} {count : ℕ} {h : GroupHeld} {w : Fields} → AreSeated me v count → FoundThere me v w
    → group_of id me v ≡ h → MayBegin h w
begin_by {id} {me} {v} {count} {h} {w} seated f is =
    let a : MayBegin (group_of id me v) w =
    record { group = seated_group seated; root = f.root; among = f.among; may = f.may; eager = f.eager } in
    subst (λ (z : GroupHeld). MayBegin z w) is a

-- what a group keeps, for the first of some tries
pub may_begin : {id : TableId} {me : Seat} {v : View} {count tries : ℕ} {h : GroupHeld} (found : Option Fields) → AreSeated me v count
    → IfSome found (FoundThere me v) → group_of id me v ≡ h → 0 < tries → IfSome found (λ w. MayBegin h w × (0 < tries))
may_begin None seated f is some' = tt
may_begin {id} {me} {v} {count} {tries} {h} (Some w) seated f is some' = (begin_by {id = id} {me = me} seated f is, some')

-- tokens that know the same of their members
those_alike : (k : Key) (v : View) (l m : List Sight) → AreAlike k v l → AreAlike k v m → length m ≡ length l → those m ≡ those l
those_alike k v [] [] a b e = refl
those_alike k v [] (y ∷ ys) a b e = absurd (omega arith)
those_alike k v (x ∷ xs) [] a b e = absurd (omega arith)
those_alike k v (x ∷ xs) (y ∷ ys) a b e = let r = those_alike k v xs ys a.1 b.1 (omega arith) in let s = b.0.1 ∙ sym a.0.1 in λ i. s i ∷ r i

-- looks first, and then the steps
pub from_may : {k : Key} {t : ℕ} {w u : Fields} {me : Seat} {before m : List Sight} → GoesFrom k t w me before
    → MayGo k t w u (as_seat before) m → MayGo k t w u me m
from_may {k} {t} {w} {u} {me} {before} {m} f may =
    record { bare = f.bare; legal = may.legal; own = f.own; goes = follows w w u me.0 before m f.goes may.goes }

pub from_gone : {k : Key} {t : ℕ} {w : Fields} {me : Seat} {before : List Sight} (u : Fields) (me' : Seat) (m : List Sight)
    (lost : Option Fields)
    → GoesFrom k t w me before → MatchOption lost (HaveGone k t w u me me' m) (λ z. HaveLost k t w z me me')
    → MatchOption lost (HaveGone k t w u (as_seat before) me' m) (λ z. HaveLost k t w z me me')
from_gone {k} {t} {w} {me} {before} u me' m None f g =
    record { bare = g.bare; now = g.now; before = subst (Among k.shape t w) (sym f.same) g.before; after = g.after }
from_gone {k} {t} {w} {me} {before} u me' m (Some z) f g = g

-- a group's seat whose tokens know what they know before the steps
module _ {id : TableId} {me : Seat} {v : View} {count : ℕ} {h : GroupHeld} {w : Fields} {before : List Sight}
    (seated : AreSeated me v count) (is : group_of id me v ≡ h) (b : Begins h w before) where
  begun_alike : AreAlike h.tree.key v before
  begun_alike = subst (λ (z : View). AreAlike h.tree.key z before) (sym (ap (λ (z : GroupHeld). z.view) is)) b.alike

  pub begun_long : length before ≡ count
  begun_long = b.long ∙ (sym (ap (λ (z : GroupHeld). length z.tokens) is) ∙ seated.long)

  begun_key : (sight_of (as_seat before)).key ≡ h.tree.key
  begun_key = first_alike_key h.tree.key v before (let a = begun_long in let c = seated.some in omega arith) begun_alike

  pub begun_seated : AreSeated (as_seat before) v count
  begun_seated = record {
    bare = refl;
    long = begun_long;
    some = seated.some;
    alike = subst (λ (k : Key). AreAlike k v before) (sym begun_key) begun_alike;
    view = seated.view;
  }

  pub begun_is : group_of id (as_seat before) v ≡ begun h before
  begun_is =
      let key : (sight_of (as_seat before)).key ≡ (sight_of me).key = begun_key ∙ sym (ap (λ (z : GroupHeld). z.tree.key) is) in
      (λ i. record { tree = record { id = id; key = key i }; view = v; tokens = before }) ∙ ap (λ (z : GroupHeld). begun z before) is

  pub begun_from : {n : Named} → h.tree ≡ n → GoesFrom n.key v.tier w me before
  begun_from {n} own =
      let alike = crowd_alike {id = id} {me = me} seated is own in
      let now : AreAlike n.key v before = subst (λ (z : Named). AreAlike z.key v before) own begun_alike in
      record {
        bare = seated.bare;
        own = alike_own n.key v me.0 alike;
        goes = subst (λ (z : Named). Goes z.key v.tier w me.0 w before) (ap (λ (z : GroupHeld). z.tree) is ∙ own)
            (subst (λ (z : GroupHeld). Goes z.tree.key z.view.tier w z.tokens w before) (sym is) b.goes);
        same = those_alike n.key v me.0 before alike now (begun_long ∙ sym seated.long);
      }

-- a look at an open root lets tokens know nothing more of their members, which are to arrive
looked_stays : (w : Fields) (v : View) → w.ended ≡ false → IsOne v → IsEager v → looked w v ≡ v
looked_stays w v going one eager =
    go w.ended (v.arrived == v.size) (v.phase == w.phase) going (ne_eqb v.arrived v.size (yet v one eager.none))
  where
    noted : cond (is_going_back v.errand) v.note None ≡ v.note
    noted = ap (λ (e : Errand). cond (is_going_back e) v.note None) one.rests ∙ sym eager.unnoted

    go : (e g h : Bool) → e ≡ false → g ≡ false
        → cond e (record (unled v) { end_seen = Some w.phase; errand = dropped v.errand })
        (cond g (cond h (unled v) (record (unled v) { phase = w.phase; arrived = 0 })) (unled v))
        ≡ v
    go true g h is n = absurd (let a = sym is in cc)
    go false true h is n = absurd (let a = sym n in cc)
    go false false h is n = λ i. record v { led = sym eager.unled i; note = noted i }

glance_stays : (t : ℕ) (w : Fields) (v : View) → w.ended ≡ false → IsOne v → (t ≡ 0 → IsEager v) → glanced t w v ≡ v
glance_stays zero w v going one eager = looked_stays w v going one (eager refl)
glance_stays (suc t) w v going one eager = refl

-- the exchange is a look too
begins_so : {c : GroupHeld} {w : Fields} → IsGroup c → w.ended ≡ false → (c.view.tier ≡ 0 → IsEager c.view) → Begins c w (before_of w c)
begins_so {c} {w} group going eager = record {
  goes = looks_go c.tree.key c.view.tier w 0 (omega arith) c.tokens (alike_own c.tree.key c.view c.tokens group.alike);
  alike =
      subst (λ (v : View). AreAlike c.tree.key v (before_of w c)) (glance_stays c.view.tier w c.view going group.view eager)
      (looked_alike c.tree.key c.view.tier w 0 c.view c.tokens group.alike);
  long = looked_long c.view.tier w 0 c.tokens;
}

begin_place : {c : GroupHeld} {w : Fields} → MayBegin c w → c.view.tier < length c.tree.key.shape
begin_place {c} {w} r = let a = r.among.within in let b = r.among.tally.long in omega arith

begin_enough : {c : GroupHeld} {w : Fields} → MayBegin c w → length c.tokens ≤ w.unarrived
begin_enough {c} {w} r = enough c.tree.key c.view.tier w c.view c.tokens r.among r.group.alike r.may r.group.view r.group.some

pub begin_parties : {c : GroupHeld} {w : Fields} → MayBegin c w → 0 < w.parties
begin_parties {c} {w} r =
    parties_there c.tree.key.shape c.view.tier w c.view
    (among_beside c.tree.key c.view.tier w c.view c.tokens r.among r.group.alike r.group.some) r.may

-- a try by which nobody arrived last
pub early_from : (w : Fields) (b c from : GroupHeld) (r : TriedAll) (lost : Option Fields) → from.view.arrived ≡ 0
    → MatchOption lost (AllArrived w from c) (λ z. AllLost w z b c) → MatchOption lost (r ≡ tried.Done c) (λ z. r ≡ tried.Yet c)
    → TriesFrom w from b r
early_from w b c from r None none came is = subst (TriesFrom w from b) (sym is) (arrived_counts none came)
early_from w b c from r (Some z) none lost is = subst (TriesFrom w from b) (sym is) (z, lost)

-- a look more before the steps
pub looked_before : {a b : GroupHeld} (w : Fields) → KeepsAll 0 a b → 0 < length b.tokens → KeepsAll 0 a (begun b (before_of w b))
looked_before {a} {b} w k some' =
    keeps_then 0 0 0 refl k
    (record {
      tree = refl;
      view = still b.view;
      below = λ h. refl;
      tokens = each_looked b.view.tier w 0 b.tokens;
      spent = spent_looks b.view.tier w 0 b.tokens some';
    })

-- a try after a look
pub tries_from : {a b : GroupHeld} (w : Fields) (r : TriedAll) → IsGroup b → b.view.arrived ≡ 0 → KeepsAll 0 a b
    → TriesFrom w (begun b (before_of w b)) b r → TriesAll 1 a r
tries_from {a} {b} w (tried.Yet group) g none k q = keeps_then 0 1 1 refl k (looked_keeps refl (yet b.view g.view none) q.1.looked)
tries_from {a} {b} w (tried.Done group) g none k q = counts_then 0 1 (omega arith) (looked_before w k g.some) q
tries_from {a} {b} w (tried.Owing errand rest) g none k q = last_then 0 1 (omega arith) (looked_before w k g.some) q
tries_from {a} {b} w (tried.Ended group word) g none k q = absurd q

-- the first try was won, and found the root's word once more
pub first_kept : {c : GroupHeld} {w : Fields} → MayBegin c w → FirstLook c (begun c (before_of w c))
first_kept {c} {w} r = record {
  tree = refl;
  looked = record { tier = refl; size = refl; phase = inl (refl, refl) };
  unled = r.eager.unled;
  tokens = subst (λ (t : ℕ). Each (Did Looks 0) c.tokens (looked_all t w 0 c.tokens)) (sym r.root) (first_tokens w c.tokens);
  place = begin_place r;
}

-- The first try was lost, and found another word of the root: a look at the root, and then a try.
each_tried : (z : Fields) (l : List Sight) → Each (Did OnlyLooks 1) (looked_all 0 z 0 l) (looked_all 0 z 1 l)
each_tried z [] = tt
each_tried z (x ∷ xs) =
    (record { key = refl; tried = omega arith; since = omega arith; steps = made_none is_quiet _; opened = refl }, each_tried z xs)

spent_tried : (z : Fields) (l : List Sight) → 0 < length l → HasSpent 1 (looked_all 0 z 0 l) (looked_all 0 z 1 l)
spent_tried z [] h = absurd (omega arith)
spent_tried z (x ∷ xs) h = omega arith

pub first_tried : {old new : GroupHeld} {w : Fields} (z : Fields) → MayBegin old w → new.tree ≡ old.tree
    → new.view ≡ glanced old.view.tier z old.view → new.tokens ≡ looked_all old.view.tier z 1 old.tokens → OnlyTried 1 old new
first_tried {old} {new} {w} z begin tree view tokens =
    let mid : GroupHeld = record new { tokens = looked_all 0 z 0 old.tokens } in
    let view' : new.view ≡ looked z old.view = view ∙ ap (λ (t : ℕ). glanced t z old.view) begin.root in
    let tokens' : new.tokens ≡ looked_all 0 z 1 old.tokens = tokens ∙ ap (λ (t : ℕ). looked_all t z 1 old.tokens) begin.root in
    let none = begin.eager.none in
    let same = (subst (StillHere old.view) (sym view) (glanced_here old.view.tier z old.view (yet old.view begin.group.view none))).same in
    let place = begin_place begin in
    let tier = same.tier in
    let first : FirstLook old mid = record {
      tree = tree;
      looked = record { tier = tier; size = same.size; phase = inl (same.phase, same.arrived) };
      unled = ap (λ (v : View). v.led) view' ∙ looked_unled z old.view;
      tokens = first_tokens z old.tokens;
      place = omega arith;
    } in
    let kept : KeepsAll 1 mid new = record {
      tree = refl;
      view = still new.view;
      below = λ h. refl;
      tokens = subst (Each (Did OnlyLooks 1) (looked_all 0 z 0 old.tokens)) (sym tokens') (each_tried z old.tokens);
      spent = subst (HasSpent 1 (looked_all 0 z 0 old.tokens)) (sym tokens') (spent_tried z old.tokens begin.group.some);
    } in
    record { mid = mid; first = first; none = same.arrived ∙ none; kept = kept }

pub first_lost : {w z : Fields} {old new : GroupHeld} → MayBegin old w → AllLost w z old new → OnlyTried 1 old new
first_lost {w} {z} {old} {new} begin lost = first_tried z begin lost.looked.tree lost.looked.view lost.looked.looked.all

-- one try from a kept word
kept_once : {c : GroupHeld} {w : Fields} (r : TriedAll) → MayBegin c w → TriesFrom w (begun c (before_of w c)) c r → LooksAndTries 1 c r
kept_once {c} {w} (tried.Yet group) begin q = let o = first_lost begin q.1 in (o.mid, o.first, o.none, o.kept)
kept_once {c} {w} (tried.Done group) begin q = (begun c (before_of w c), first_kept begin, begin.eager.none, q)
kept_once {c} {w} (tried.Owing errand rest) begin q = (begun c (before_of w c), first_kept begin, begin.eager.none, q)
kept_once {c} {w} (tried.Ended group word) begin q = absurd q

-- one try from a word that was found by a load, or kept
module _ {t : ℕ} {w : Fields} {old new : GroupHeld} where
  -- from a word that was kept, members may pass, which have not arrived
  pub unkept_ended : (kept : Option Fields) → IfSome kept (MayBegin old) → Finds kept t w old new → w.ended ≡ true → kept ≡ None
  unkept_ended None b f e = refl
  unkept_ended (Some k) b f e = absurd (let x : true ≡ false = sym e ∙ (ap (λ (z : Fields). z.ended) f.how.0 ∙ b.may.going) in cc)

  pub unkept_behind : (kept : Option Fields) → IfSome kept (MayBegin old) → Finds kept t w old new → lags w new.view ≡ true → kept ≡ None
  unkept_behind None b f e = refl
  unkept_behind (Some k) b f e =
      let p = lags_parts w new.view e in
      absurd (p.2 (ap (λ (z : Fields). z.phase) f.how.0 ∙ (b.may.current ∙ ap (λ (z : GroupHeld). z.view.phase) (sym f.how.1))))

  pub unkept_arrived : (kept : Option Fields) → IfSome kept (MayBegin old) → Finds kept t w old new → new.view.arrived ≡ 1 → kept ≡ None
  unkept_arrived None b f e = refl
  unkept_arrived (Some k) b f e = let n = b.eager.none in let s = ap (λ (z : GroupHeld). z.view.arrived) f.how.1 in absurd (omega arith)

  pub looks_unkept : {kept : Option Fields} → Finds kept t w old new → kept ≡ None → AllLooked t w 0 old new
  looks_unkept {kept} f is = subst (λ (k : Option Fields). LooksUnlessKept k t w old new) is f.how

  pub finds_keeps : (kept : Option Fields) → Finds kept t w old new → t ≡ old.view.tier → old.view.arrived ≡ 0 → KeepsAll 0 old new
  finds_keeps None f here none = looked_yet f.how here none
  finds_keeps (Some k) f here none = subst (KeepsAll 0 old) (sym f.how.1) (keeps_none old)

  pub finds_begins : (kept : Option Fields) → IfSome kept (MayBegin old) → Finds kept t w old new → t ≡ old.view.tier → old.view.arrived ≡ 0
      → w.ended ≡ false → Begins new w (before_of w new)
  finds_begins None b f here none going =
      let k = looked_yet f.how here none in
      begins_so f.how.group going
      (λ root. eager_first (subst (λ (n : ℕ). AllLooked n w 0 old new) (here ∙ (sym k.view.same.tier ∙ root)) f.how) going (none_now k none))
  finds_begins (Some k) b f here none going =
      let g : MayBegin new k = subst (λ (z : GroupHeld). MayBegin z k) (sym f.how.1) b in begins_so g.group going (λ root. g.eager)

  pub finds_may : (kept : Option Fields) → IfSome kept (MayBegin old) → Finds kept t w old new → t ≡ old.view.tier → old.view.arrived ≡ 0
      → w.ended ≡ false → lags w new.view ≡ false → CanPass new.view.tier w new.view
  finds_may None b f here none going keeps = ready f.how here none going keeps
  finds_may (Some k) b f here none going keeps =
      subst (λ (z : Fields). CanPass new.view.tier z new.view) (sym f.how.0)
      (subst (λ (z : GroupHeld). CanPass z.view.tier k z.view) (sym f.how.1) b.may)

  pub finds_enough : (kept : Option Fields) → IfSome kept (MayBegin old) → Finds kept t w old new → t ≡ old.view.tier → old.view.arrived ≡ 0
      → CanPass new.view.tier w new.view → length new.tokens ≤ w.unarrived
  finds_enough None b f here none can = let k = looked_yet f.how here none in
      last_count f.how (subst (λ (n : ℕ). CanPass n w new.view) (k.view.same.tier ∙ sym here) can)
  finds_enough (Some k) b f here none can =
      subst (λ (z : Fields). length new.tokens ≤ z.unarrived) (sym f.how.0)
      (subst (λ (z : GroupHeld). length z.tokens ≤ k.unarrived) (sym f.how.1) (begin_enough b))

  pub finds_tries : (kept : Option Fields) → IfSome kept (MayBegin old) → Finds kept t w old new → t ≡ old.view.tier → old.view.arrived ≡ 0
      → (r : TriedAll) → TriesFrom w (begun new (before_of w new)) new r → TriesKept kept 1 old r
  finds_tries None b f here none r q = let k = looked_yet f.how here none in tries_from w r f.how.group (none_now k none) k q
  finds_tries (Some k) b f here none r q =
      kept_once r b
      (subst (λ (z : GroupHeld). TriesFrom k (begun z (before_of k z)) z r) f.how.1 (subst (λ (z : Fields). TriesFrom z (begun new (before_of z new)) new r) f.how.0 q))

-- some tries, of which the first one may begin with a word that was kept
tried_then : {m n o : ℕ} {a b c : GroupHeld} → m + n ≡ o → OnlyTried m a b → KeepsAll n b c → OnlyTried o a c
tried_then {m} {n} {o} {a} {b} {c} few p q = record { mid = p.mid; first = p.first; none = p.none; kept = keeps_then m n o few p.kept q }

pub so_far_none : (kept : Option Fields) (old : GroupHeld) → SoFar kept kept 0 old old
so_far_none None old = record { how = (keeps_none old, refl) }
so_far_none (Some k) old = record { how = inl (refl, refl, refl) }

-- what the next try needs
pub record IsStill (old new : GroupHeld) : Type 0 where
  pub tree : new.tree ≡ old.tree
  pub tier : new.view.tier ≡ old.view.tier
  pub unled : old.view.led ≡ false → new.view.led ≡ false
  pub none : old.view.arrived ≡ 0 → new.view.arrived ≡ 0
  pub long : length new.tokens ≡ length old.tokens

keeps_still : {tries : ℕ} {old new : GroupHeld} → KeepsAll tries old new → IsStill old new
keeps_still {tries} {old} {new} k =
    record {
      tree = k.tree;
      tier = k.view.same.tier;
      unled = k.view.unled;
      none = λ e. k.view.same.arrived ∙ e;
      long = each_long (Did OnlyLooks tries) old.tokens new.tokens k.tokens;
    }

tried_still : {tries : ℕ} {old new : GroupHeld} → OnlyTried tries old new → IsStill old new
tried_still {tries} {old} {new} o =
    let k = keeps_still o.kept in record {
      tree = k.tree ∙ o.first.tree;
      tier = k.tier ∙ o.first.looked.tier;
      unled = λ e. k.unled o.first.unled;
      none = λ e. k.none o.none;
      long = k.long ∙ each_long (Did Looks 0) old.tokens o.mid.tokens o.first.tokens;
    }

module _ {n : ℕ} {old group : GroupHeld} where
  pub so_far_still : (kept now : Option Fields) → SoFar kept now n old group → IsStill old group
  so_far_still None now s = keeps_still s.how.0
  so_far_still (Some k) now s = go s.how
    where
      go : ((n ≡ 0) × (group ≡ old) × (now ≡ Some k)) ⊎ (OnlyTried n old group × (now ≡ None)) → IsStill old group
      go (inl h) = subst (IsStill old) (sym h.1) (keeps_still (keeps_none old))
      go (inr h) = tried_still h.0

  pub so_far_begin : (P : GroupHeld → Fields → Type 0) (kept now : Option Fields) → IfSome kept (P old) → SoFar kept now n old group
      → IfSome now (P group)
  so_far_begin P None now b s = subst (λ (o : Option Fields). IfSome o (P group)) (sym s.how.1) tt
  so_far_begin P (Some k) now b s = go s.how
    where
      go : ((n ≡ 0) × (group ≡ old) × (now ≡ Some k)) ⊎ (OnlyTried n old group × (now ≡ None)) → IfSome now (P group)
      go (inl h) = subst (λ (o : Option Fields). IfSome o (P group)) (sym h.2) (subst (λ (z : GroupHeld). P z k) (sym h.1) b)
      go (inr h) = subst (λ (o : Option Fields). IfSome o (P group)) (sym h.1) tt

  pub so_far_next : {next : GroupHeld} (kept now : Option Fields) → SoFar kept now n old group → TriedOnce now group next
      → SoFar kept None (n + 1) old next
  so_far_next {next} None now s q =
      record { how = (keeps_then n 1 (n + 1) refl s.how.0 (subst (λ (o : Option Fields). TriedOnce o group next) s.how.1 q), refl) }
  so_far_next {next} (Some k) now s q = record { how = inr (go s.how, refl) }
    where
      go : ((n ≡ 0) × (group ≡ old) × (now ≡ Some k)) ⊎ (OnlyTried n old group × (now ≡ None)) → OnlyTried (n + 1) old next
      go (inl h) =
          let a : OnlyTried 1 group next = subst (λ (o : Option Fields). TriedOnce o group next) h.2 q in
          let b : OnlyTried 1 old next = subst (λ (z : GroupHeld). OnlyTried 1 z next) h.1 a in
          subst (λ (m : ℕ). OnlyTried m old next) (let e = h.0 in omega arith) b
      go (inr h) = tried_then refl h.0 (subst (λ (o : Option Fields). TriedOnce o group next) h.1 q)

  pub so_far_done : (tries : ℕ) (kept now : Option Fields) → n + 1 ≤ tries → SoFar kept now n old group → (r : TriedAll)
      → ((z : GroupHeld) → r ≢ tried.Yet z) → TriesKept now 1 group r → TriesKept kept tries old r
  so_far_done tries None now few s r other q =
      comes_then n tries few s.how.0 r other (subst (λ (o : Option Fields). TriesKept o 1 group r) s.how.1 q)
  so_far_done tries (Some k) now few s r other q = go s.how
    where
      go : ((n ≡ 0) × (group ≡ old) × (now ≡ Some k)) ⊎ (OnlyTried n old group × (now ≡ None)) → LooksAndTries tries old r
      go (inl h) =
          let a : LooksAndTries 1 group r = subst (λ (o : Option Fields). TriesKept o 1 group r) h.2 q in
          let b : LooksAndTries 1 old r = subst (λ (z : GroupHeld). LooksAndTries 1 z r) h.1 a in
          (b.0, b.1, b.2, comes_then 0 tries (omega arith) (keeps_none b.0) r other b.3)
      go (inr h) = let o = h.0 in
          (o.mid, o.first, o.none, comes_then n tries few o.kept r other (subst (λ (p : Option Fields). TriesKept p 1 group r) h.1 q))

tried_once : (kept : Option Fields) (old group : GroupHeld) → TriesKept kept 1 old (tried.Yet group) → TriedOnce kept old group
tried_once None old group q = q
tried_once (Some k) old group q = record { mid = q.0; first = q.1; none = q.2; kept = q.3 }

pub yet_next : {n : ℕ} {old group next : GroupHeld} (kept now : Option Fields) → SoFar kept now n old group
    → TriesKept now 1 group (tried.Yet next) → SoFar kept None (n + 1) old next
yet_next {n} {old} {group} {next} kept now s q = so_far_next kept now s (tried_once now group next q)

-- what a call finds at the root first, or has kept
pub begins_only : (tries : ℕ) (kept : Option Fields) (old : GroupHeld) → IfSome kept (λ w. MayBegin old w × (0 < tries))
    → IfSome kept (MayBegin old)
begins_only tries None old b = tt
begins_only tries (Some k) old b = b.0

module _ {w : Fields} {old mid : GroupHeld} where
  pub begins_still : (P : GroupHeld → Fields → Type 0) (kept : Option Fields) → IfSome kept (P old) → Finds kept 0 w old mid
      → IfSome kept (P mid)
  begins_still P None b f = tt
  begins_still P (Some k) b f = subst (λ (z : GroupHeld). P z k) (sym f.how.1) b

  pub finds_place : (kept : Option Fields) → IfSome kept (MayBegin old) → Finds kept 0 w old mid → mid.view.tier < length old.tree.key.shape
  finds_place None b f = (first_look f.how).place
  finds_place (Some k) b f = subst (λ (z : GroupHeld). z.view.tier < length old.tree.key.shape) (sym f.how.1) (begin_place b)

  pub finds_unled : (kept : Option Fields) → IfSome kept (MayBegin old) → Finds kept 0 w old mid → mid.view.led ≡ false
  finds_unled None b f = (first_look f.how).unled
  finds_unled (Some k) b f = subst (λ (z : GroupHeld). z.view.led ≡ false) (sym f.how.1) b.eager.unled

  pub finds_tree : (kept : Option Fields) → Finds kept 0 w old mid → mid.tree ≡ old.tree
  finds_tree None f = f.how.tree
  finds_tree (Some k) f = ap (λ (z : GroupHeld). z.tree) f.how.1

  pub finds_group : (kept : Option Fields) → IfSome kept (MayBegin old) → Finds kept 0 w old mid → IsGroup mid
  finds_group None b f = f.how.group
  finds_group (Some k) b f = subst IsGroup (sym f.how.1) b.group

  pub finds_unseen : (kept : Option Fields) → IfSome kept (MayBegin old) → Finds kept 0 w old mid → w.ended ≡ false → (phase : ℕ)
      → old.view.end_seen ≡ Some phase → ⊥
  finds_unseen None b f going phase is = unseen_all f.how going phase is
  finds_unseen (Some k) b f going phase is = absurd (let a = sym b.eager.unseen ∙ is in cc)

  pub looks_and_tries : (tries : ℕ) (kept : Option Fields) → Finds kept 0 w old mid → mid.view.arrived ≡ 0 → (r : TriedAll)
      → TriesKept kept tries mid r → LooksAndTries tries old r
  looks_and_tries tries None f none r q = (mid, first_look f.how, none, q)
  looks_and_tries tries (Some k) f none r q = subst (λ (z : GroupHeld). LooksAndTries tries z r) f.how.1 q
