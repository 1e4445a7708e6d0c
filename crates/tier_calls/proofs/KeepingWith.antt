-- All members of a group pass their tier by an exchange, and new ones join by it, the first try from the root's word if the group has kept
-- it.
use Rattle.std.proofs.Common.{◌≡◌, ◌≢◌, ℕ, ◌+◌, ◌-◌, ◌<◌, ◌≤◌, inl, inr, ◌⊎◌, false, Option, Some, None, List, [], ◌∷◌, ◌++◌, length, length-append, take, refl, ap, sym, ◌∙◌, subst, arith}
use Rattle.std.specs.Prelude.{IfSome}
use Rattle.tier_steps.specs.Step.{CanPass}
use Rattle.std.proofs.Math.Seq.{take-append_seam}
use Rattle.atomic_table.specs.Table.{Me}
use Rattle.atomic_table.specs.Seated.{TableId}
use Rattle.phaser_word.specs.Fields.{Fields}
use Rattle.tier_steps.specs.declared.view.View.{View}
use Rattle.tier_steps.specs.declared.kind.Kind.{Kind}
use Rattle.tier_rule.specs.declared.sight.Key.{Key}
use Rattle.tier_rule.specs.declared.sight.Sight.{Sight}
use Rattle.tier_rule.specs.Reach.{those}
use Rattle.tier_rule.specs.Group.{AreOf, Goes, passes}
use Rattle.tier_rule.proofs.Seats.{those-append}
use Rattle.tier_calls.specs.Holding.{Named}
use Rattle.tier_calls.specs.Groups.{GroupHeld, group_of, AreSeated, IsOne, IsGroup}
use Rattle.tier_calls.specs.NewTokens.{TokensHeld, AreTokens, tokens_of, MayExchange, IsEager}
use Rattle.tier_calls.specs.ArrivesAll.{KeepsAll}
use Rattle.tier_calls.specs.ArrivesWith.{TriesWith, OnlyTried}
use Rattle.tier_calls.specs.KeptTries.{SoFar, TriedOnce}
use Rattle.tier_calls.specs.KeptWith.{AllTried, PassesFrom, LooksAndTriesWith, TriesWithKept}
use Rattle.tier_calls.specs.declared.arriving_with.TriedWith.{TriedWith}
use Rattle.tier_calls.specs.declared.arriving_with.TriedWith.TheVariants as went
use Rattle.tier_calls.proofs.ArrivingAll.{yet, keeps_none, keeps_then, here_then, looked_yet, none_now, first_look}
use Rattle.tier_calls.proofs.ExchangeTries.{lost_pass, passed_then, went_then, has_parties, eager_first, eager_now, still_many, still_eager}
use Rattle.tier_calls.proofs.ExchangeTry.{Exchange, exchange}
use Rattle.tier_calls.proofs.Keeping.{begun_seated, begun_is, begin_parties, first_kept, first_tried, looked_before, so_far_next, so_far_still}
use Rattle.tier_calls.specs.Kept.{MayBegin, Finds, before_of, as_seat, GoesFrom, Begins, begun, ahead}

abbrev Seat : Type 0
Seat = Me Kind (List Sight)

-- tokens behind go while those in front stay
back_goes : (k : Key) (t : ℕ) (w u : Fields) (b l m : List Sight) → Goes k t w l u m → Goes k t w (b ++ l) u (b ++ m)
back_goes k t w u [] l m g = g
back_goes k t w u (x ∷ b) l m g = passes w u x (b ++ l) (b ++ m) (back_goes k t w u b l m g)

ahead_is : (a l before : List Sight) → length before ≡ length l → ahead (a ++ l) before ≡ a ++ before
ahead_is a l before long =
    let n : length (a ++ l) - length before ≡ length a = let b = length-append a l in omega arith in
    ap (λ (i : ℕ). take i (a ++ l) ++ before) n ∙ ap (λ (z : List Sight). z ++ before) (take-append_seam a l)

ahead_now : (me mo joined : Seat) (before : List Sight) → joined ≡ (mo.0 ++ me.0, mo.1) → length before ≡ length me.0
    → ahead joined.0 before ≡ mo.0 ++ before
ahead_now me mo joined before at long = ap (λ (z : Seat). ahead z.0 before) at ∙ ahead_is mo.0 me.0 before long

-- new tokens' seat, joined by old ones that know what they know before their steps
pub ahead_joined : (me mo joined : Seat) (before : List Sight) → joined ≡ (mo.0 ++ me.0, mo.1) → length before ≡ length me.0 → mo.1 ≡ []
    → as_seat (ahead joined.0 before) ≡ (mo.0 ++ before, mo.1)
ahead_joined me mo joined before at long bare = let a = ahead_now me mo joined before at long in λ i. let z : Seat = (a i, sym bare i) in z

pub joined_from : {k : Key} {t : ℕ} {w : Fields} (me mo joined : Seat) (before : List Sight) → joined ≡ (mo.0 ++ me.0, mo.1)
    → length before ≡ length me.0 → mo.1 ≡ [] → AreOf k joined.0 → GoesFrom k t w me before
    → GoesFrom k t w joined (ahead joined.0 before)
joined_from {k} {t} {w} me mo joined before at long bare own f =
    let now = ahead_now me mo joined before at long in
    let list : joined.0 ≡ mo.0 ++ me.0 = ap (λ (z : Seat). z.0) at in
    record {
      bare = ap (λ (z : Seat). z.1) at ∙ bare;
      own = own;
      goes = subst (λ (l : List Sight). Goes k t w l w (ahead joined.0 before)) (sym list)
          (subst (λ (m : List Sight). Goes k t w (mo.0 ++ me.0) w m) (sym now) (back_goes k t w w mo.0 me.0 before f.goes));
      same =
          ap those now
          ∙ (those-append mo.0 before
          ∙ (ap (λ (vs : List View). those mo.0 ++ vs) f.same ∙ (sym (those-append mo.0 me.0) ∙ ap those (sym list))));
    }

pub begun_exchange : {n : Named} {leaving : ℕ} {w : Fields} {c : GroupHeld} {p : TokensHeld} {before : List Sight} → Begins c w before
    → MayExchange n leaving w c p → MayExchange n leaving w (begun c before) p
begun_exchange {n} {leaving} {w} {c} {p} {before} b m =
    let l = b.long in let e = m.enough in let f = m.few in let d = m.come in record {
      own = m.own;
      blank = m.blank;
      may = m.may;
      eager = m.eager;
      place = m.place;
      some = m.some;
      capacity = m.capacity;
      enough = omega arith;
      few = omega arith;
      come = omega arith;
    }

-- the exchange of a group that began with these steps
abbrev pub begun_with : {id id' : TableId} {v : View} {h : GroupHeld} {p : TokensHeld} {n : Named} {leaving : ℕ} {w : Fields} {count s : ℕ}
    (me mo : Seat) (before : List Sight) → AreSeated me v count → AreTokens mo s → group_of id me v ≡ h → tokens_of id' mo ≡ p
    → Begins h w before → MayExchange n leaving w h p → Exchange
begun_with me mo before seated pool is is' begins may =
    exchange (as_seat before) mo (begun_seated {me = me} seated is begins) pool (begun_is {me = me} seated is begins) is'
    (begun_exchange begins may)

-- a try after a look
tried_pass : {b c : GroupHeld} → IsOne b.view → b.view.arrived ≡ 0 → 0 < length b.tokens → AllTried b c → KeepsAll 1 b c
tried_pass {b} {c} one none some' t = lost_pass t.word some' (yet b.view one none) t.tree t.view t.tokens

passes_loaded : {a b : GroupHeld} (w : Fields) (joining leaving : ℕ) (r : TriedWith) → IsGroup b → b.view.arrived ≡ 0 → KeepsAll 0 a b
    → PassesFrom joining leaving (begun b (before_of w b)) b r → TriesWith 1 joining leaving a r
passes_loaded {a} {b} w joining leaving (went.Yet group) g none k q = keeps_then 0 1 1 refl k (tried_pass g.view none g.some q)
passes_loaded {a} {b} w joining leaving (went.Done group) g none k q =
    passed_then 0 1 1 joining leaving (omega arith) (looked_before w k g.some) q
passes_loaded {a} {b} w joining leaving (went.Owing errand rest) g none k q = (
  passed_then 0 1 1 joining leaving (omega arith) (looked_before w k g.some) q.0,
  λ c is. (let r = q.1 c is in (r.0 ∙ k.tree, here_then a.view b.view c.view k.view r.1)),
)
passes_loaded {a} {b} w joining leaving (went.Full group count) g none k q = absurd q
passes_loaded {a} {b} w joining leaving (went.Ended group word) g none k q = absurd q

-- one try from a kept word
passes_kept : {c : GroupHeld} {w : Fields} (joining leaving : ℕ) (r : TriedWith) → MayBegin c w
    → PassesFrom joining leaving (begun c (before_of w c)) c r → LooksAndTriesWith 1 joining leaving c r
passes_kept {c} {w} joining leaving (went.Yet group) begin q = let o = first_tried q.word begin q.tree q.view q.tokens in
    (o.mid, o.first, o.none, o.kept)
passes_kept {c} {w} joining leaving (went.Done group) begin q = (begun c (before_of w c), first_kept begin, begin.eager.none, q)
passes_kept {c} {w} joining leaving (went.Owing errand rest) begin q = (begun c (before_of w c), first_kept begin, begin.eager.none, q)
passes_kept {c} {w} joining leaving (went.Full group count) begin q = absurd q
passes_kept {c} {w} joining leaving (went.Ended group word) begin q = absurd q

module _ {t : ℕ} {w : Fields} {old new : GroupHeld} (joining leaving : ℕ) where
  pub finds_passes : (kept : Option Fields) → IfSome kept (MayBegin old) → Finds kept t w old new → t ≡ old.view.tier → old.view.arrived ≡ 0
      → (r : TriedWith) → PassesFrom joining leaving (begun new (before_of w new)) new r → TriesWithKept kept 1 joining leaving old r
  finds_passes None b f here none r q = let k = looked_yet f.how here none in
      passes_loaded w joining leaving r f.how.group (none_now k none) k q
  finds_passes (Some k) b f here none r q =
      passes_kept joining leaving r b
      (subst (λ (z : GroupHeld). PassesFrom joining leaving (begun z (before_of k z)) z r) f.how.1
      (subst (λ (z : Fields). PassesFrom joining leaving (begun new (before_of z new)) new r) f.how.0 q))

-- what a word that was kept has room for
module _ {t : ℕ} {w : Fields} {old new : GroupHeld} (joining : ℕ) where
  pub unkept_full : (kept : Option Fields) → IfSome kept (λ w. MayBegin old w × (w.parties + joining ≤ 65535)) → Finds kept t w old new
      → 65535 < w.parties + joining → kept ≡ None
  unkept_full None b f full = refl
  unkept_full (Some k) b f full = absurd (let e = ap (λ (z : Fields). z.parties) f.how.0 in let h = b.1 in omega arith)

  pub begins_fit : (kept : Option Fields) → IfSome kept (λ w. MayBegin old w × (w.parties + joining ≤ 65535)) → Finds kept t w old new
      → IfSome kept (MayBegin old)
  begins_fit None b f = tt
  begins_fit (Some k) b f = b.0

  pub finds_eager : (kept : Option Fields) → IfSome kept (λ w. MayBegin old w × (w.parties + joining ≤ 65535)) → Finds kept t w old new
      → t ≡ old.view.tier → old.view.arrived ≡ 0 → (0 < old.view.tier → IsEager old.view) → w.ended ≡ false → IsEager new.view
  finds_eager None b f here none eager going = eager_now f.how here none eager going
  finds_eager (Some k) b f here none eager going = subst (λ (z : GroupHeld). IsEager z.view) (sym f.how.1) b.0.eager

  pub finds_some : (kept : Option Fields) → IfSome kept (λ w. MayBegin old w × (w.parties + joining ≤ 65535)) → Finds kept t w old new
      → t ≡ old.view.tier → old.view.arrived ≡ 0 → CanPass new.view.tier w new.view → 0 < w.parties
  finds_some None b f here none can = let k = looked_yet f.how here none in has_parties f.how (here ∙ sym k.view.same.tier) can
  finds_some (Some k) b f here none can = subst (λ (z : Fields). 0 < z.parties) (sym f.how.0) (begin_parties b.0)

-- some tries
with_once : (joining leaving : ℕ) (kept : Option Fields) (old group : GroupHeld) → TriesWithKept kept 1 joining leaving old (went.Yet group)
    → TriedOnce kept old group
with_once joining leaving None old group q = q
with_once joining leaving (Some k) old group q = record { mid = q.0; first = q.1; none = q.2; kept = q.3 }

pub with_next : {n : ℕ} {old group next : GroupHeld} (joining leaving : ℕ) (kept now : Option Fields) → SoFar kept now n old group
    → TriesWithKept now 1 joining leaving group (went.Yet next) → SoFar kept None (n + 1) old next
with_next {n} {old} {group} {next} joining leaving kept now s q = so_far_next kept now s (with_once joining leaving now group next q)

module _ {n : ℕ} {old group : GroupHeld} (joining leaving : ℕ) where
  pub with_done : (tries : ℕ) (kept now : Option Fields) → n + 1 ≤ tries → SoFar kept now n old group → (r : TriedWith)
      → ((z : GroupHeld) → r ≢ went.Yet z) → TriesWithKept now 1 joining leaving group r → TriesWithKept kept tries joining leaving old r
  with_done tries None now few s r other q =
      went_then n tries joining leaving few s.how.0 r other
      (subst (λ (o : Option Fields). TriesWithKept o 1 joining leaving group r) s.how.1 q)
  with_done tries (Some k) now few s r other q = go s.how
    where
      go : ((n ≡ 0) × (group ≡ old) × (now ≡ Some k)) ⊎ (OnlyTried n old group × (now ≡ None))
          → LooksAndTriesWith tries joining leaving old r
      go (inl h) =
          let a : LooksAndTriesWith 1 joining leaving group r =
          subst (λ (o : Option Fields). TriesWithKept o 1 joining leaving group r) h.2 q in
          let b : LooksAndTriesWith 1 joining leaving old r = subst (λ (z : GroupHeld). LooksAndTriesWith 1 joining leaving z r) h.1 a in
          (b.0, b.1, b.2, went_then 0 tries joining leaving (omega arith) (keeps_none b.0) r other b.3)
      go (inr h) = let o = h.0 in (
        o.mid,
        o.first,
        o.none,
        went_then n tries joining leaving few o.kept r other
            (subst (λ (p : Option Fields). TriesWithKept p 1 joining leaving group r) h.1 q),
      )

pub so_far_eager : {n : ℕ} {old group : GroupHeld} (kept now : Option Fields) → IfSome kept (MayBegin old) → SoFar kept now n old group
    → (0 < old.view.tier → IsEager old.view) → 0 < group.view.tier → IsEager group.view
so_far_eager {n} {old} {group} None now b s eager h = still_eager s.how.0 (eager (let t = s.how.0.view.same.tier in omega arith)) h
so_far_eager {n} {old} {group} (Some k) now b s eager h =
    absurd (let t = (so_far_still (Some k) now s).tier in let r = b.root in omega arith)

-- a call's look at the root, and then some tries
pub looks_and_passes : {w : Fields} {old mid : GroupHeld} (tries joining leaving : ℕ) (kept : Option Fields) → Finds kept 0 w old mid
    → mid.view.arrived ≡ 0 → (r : TriedWith) → TriesWithKept kept tries joining leaving mid r
    → LooksAndTriesWith tries joining leaving old r
looks_and_passes {w} {old} {mid} tries joining leaving None f none r q = (mid, first_look f.how, none, q)
looks_and_passes tries joining leaving (Some k) f none r q =
    subst (λ (z : GroupHeld). LooksAndTriesWith tries joining leaving z r) f.how.1 q

-- what the first try needs
pub first_begins : (tries joining : ℕ) (kept : Option Fields) (old : GroupHeld)
    → IfSome kept (λ w. MayBegin old w × (0 < tries) × (w.parties + joining ≤ 65535)) → IfSome kept (MayBegin old)
first_begins tries joining None old b = tt
first_begins tries joining (Some k) old b = b.0

pub first_fits : (tries joining : ℕ) (kept : Option Fields) (old : GroupHeld)
    → IfSome kept (λ w. MayBegin old w × (0 < tries) × (w.parties + joining ≤ 65535))
    → IfSome kept (λ w. MayBegin old w × (w.parties + joining ≤ 65535))
first_fits tries joining None old b = tt
first_fits tries joining (Some k) old b = (b.0, b.2)

module _ {w : Fields} {old mid : GroupHeld} where
  pub finds_long : (kept : Option Fields) → Finds kept 0 w old mid → length mid.tokens ≡ length old.tokens
  finds_long None f = still_many f.how
  finds_long (Some k) f = ap (λ (z : GroupHeld). length z.tokens) f.how.1

  pub finds_eager_first : (kept : Option Fields) → IfSome kept (MayBegin old) → Finds kept 0 w old mid → w.ended ≡ false
      → mid.view.arrived ≡ 0 → IsEager mid.view
  finds_eager_first None b f going none = eager_first f.how going none
  finds_eager_first (Some k) b f going none = subst (λ (z : GroupHeld). IsEager z.view) (sym f.how.1) b.eager
