-- Answers of calls on groups that are repeated.
use Rattle.std.proofs.Common.{◌≡◌, ℕ, ◌+◌, ◌<◌, Option, Some, None, List, length, refl, sym, ◌∙◌, ap, subst, arith, ◌⊎◌, inl, inr, ⊎_elim, Bool}
use Rattle.std.specs.Prelude.{IfSome}
use Rattle.tier_steps.specs.declared.view.View.{View}
use Rattle.tier_steps.specs.declared.kind.Kind.{Kind}
use Rattle.phaser_word.specs.Phase.{next_phase_of}
use Rattle.tier_calls.specs.Holding.{Holding}
use Rattle.tier_calls.specs.Made.{MadeOnly, HasLooked, is_quiet}
use Rattle.tier_calls.specs.Arrives.{IsLooked}
use Rattle.tier_calls.specs.Passes.{IsSame, IsFresh}
use Rattle.tier_calls.specs.Groups.{GroupHeld}
use Rattle.tier_calls.specs.ArrivesAll.{Each, Did, Looks, OnlyLooks, KeepsAll}
use Rattle.tier_calls.specs.ArrivesWith.{FirstLook, OnlySplit}
use Rattle.tier_calls.specs.Finishes.{IsBeside, IsWhole}
use Rattle.tier_calls.proofs.ArrivingAll.{each_then, each_long}
use Rattle.tier_table.specs.declared.groups.GroupArrived.{GroupArrived}
use Rattle.tier_table.specs.declared.groups.GroupArrived.TheVariants as group_arrived
use Rattle.tier_table.specs.GroupsAtLast.{HaveLookedOn, FinishesAtLast, IsBefore, ArrivesAllAtLast, ArrivesWithAtLast, HaveWaited, AllWait, tokens_arrived}
use Rattle.tier_table.proofs.Lasting.{looked_then, watched_then, same_first, same_then, waits_same}

pub beside_by : (h : Holding) (o : Option GroupHeld) → ((c : GroupHeld) → o ≡ Some c → IsBeside h c) → IfSome o (IsBeside h)
beside_by h None all = tt
beside_by h (Some c) all = all c refl

-- tries that counted nothing, one after another
looks_on : {a b c : GroupHeld} → 0 < b.view.size → HaveLookedOn a b → HaveLookedOn b c → HaveLookedOn a c
looks_on {a} {b} {c} some' p q = record {
  tree = q.tree ∙ p.tree;
  view = looked_then some' p.view q.view;
  tries = p.tries + q.tries;
  tokens =
      each_then HasLooked HasLooked HasLooked p.tries q.tries (p.tries + q.tries) (λ x y z m n. watched_then (inr m) n) (omega arith)
      a.tokens b.tokens c.tokens p.tokens q.tokens;
}

pub before_more : {a b c : GroupHeld} → 0 < b.view.size → IsBefore a b → HaveLookedOn b c → HaveLookedOn a c
before_more {a} {b} {c} some' (inl e) q = subst (λ (z : GroupHeld). HaveLookedOn z c) e q
before_more some' (inr p) q = looks_on some' p q

pub before_then : {a b c : GroupHeld} → 0 < b.view.size → IsBefore a b → IsBefore b c → IsBefore a c
before_then {a} {b} {c} some' p (inl e) = subst (IsBefore a) (sym e) p
before_then some' p (inr q) = inr (before_more some' p q)

pub before_tree : {a b : GroupHeld} → IsBefore a b → b.tree ≡ a.tree
before_tree (inl e) = ap (λ (z : GroupHeld). z.tree) e
before_tree (inr p) = p.tree

pub before_long : {a b : GroupHeld} → IsBefore a b → length b.tokens ≡ length a.tokens
before_long (inl e) = ap (λ (z : GroupHeld). length z.tokens) e
before_long {a} {b} (inr p) = each_long (Did HasLooked p.tries) a.tokens b.tokens p.tokens

-- what is answered to a group that was looked at before
pub all_before : (tries : ℕ) (a b : GroupHeld) (r : GroupArrived) → 0 < b.view.size → IsBefore a b → ArrivesAllAtLast tries b r
    → ArrivesAllAtLast tries a r
all_before tries a b (group_arrived.Done new phase led) some' p reported = (reported.0, before_then some' p reported.1, reported.2)
all_before tries a b (group_arrived.Full new parties) some' p reported = absurd reported
all_before tries a b (group_arrived.AlreadyArrived new phase) some' p reported = (reported.0, before_then some' p reported.1, reported.2)
all_before tries a b (group_arrived.Ended new shown) some' p reported = (reported.0, before_then some' p reported.1, reported.2)

pub with_before : (tries joining leaving : ℕ) (a b : GroupHeld) (r : GroupArrived) → 0 < b.view.size → IsBefore a b
    → ArrivesWithAtLast tries joining leaving b r → ArrivesWithAtLast tries joining leaving a r
with_before tries joining leaving a b (group_arrived.Done new phase led) some' p reported =
    (reported.0, before_then some' p reported.1, reported.2)
with_before tries joining leaving a b (group_arrived.Full new parties) some' p reported =
    (reported.0, before_then some' p reported.1, reported.2)
with_before tries joining leaving a b (group_arrived.AlreadyArrived new phase) some' p reported =
    (reported.0, before_then some' p reported.1, reported.2)
with_before tries joining leaving a b (group_arrived.Ended new shown) some' p reported =
    (reported.0, before_then some' p reported.1, reported.2)

-- a look, and then nothing that counts
looked_on : {a b c : View} → IsLooked a b → IsSame b c → IsLooked a c
looked_on {a} {b} {c} s t = record { tier = t.tier ∙ s.tier; size = t.size ∙ s.size; phase = moved s.phase }
  where
    moved : ((b.phase ≡ a.phase) × (b.arrived ≡ a.arrived)) ⊎ ((a.arrived ≡ a.size) × (b.phase ≡ next_phase_of a.phase) × (b.arrived ≡ 0))
        → ((c.phase ≡ a.phase) × (c.arrived ≡ a.arrived)) ⊎ ((a.arrived ≡ a.size) × (c.phase ≡ next_phase_of a.phase) × (c.arrived ≡ 0))
    moved (inl u) = inl (t.phase ∙ u.0, t.arrived ∙ u.1)
    moved (inr u) = inr (u.0, t.phase ∙ u.1, t.arrived ∙ u.2)

pub kept_looked : {old mid new : GroupHeld} (tries : ℕ) → FirstLook old mid → KeepsAll tries mid new → HaveLookedOn old new
kept_looked {old} {mid} {new} tries f k = record {
  tree = k.tree ∙ f.tree;
  view = looked_on f.looked k.view.same;
  tries = tries;
  tokens =
      each_then Looks OnlyLooks HasLooked 0 tries tries (λ x y z m n. subst (λ (ks : List Kind). MadeOnly is_quiet ks z) m n) (omega arith)
      old.tokens mid.tokens new.tokens f.tokens k.tokens;
}

-- doors off which seats were split, one call after another
pub split_first : (h : Holding) → OnlySplit h h
split_first h = record { tree = refl; view = refl; steps = refl; tried = refl }

pub split_then : {a b c : Holding} → OnlySplit a b → OnlySplit b c → OnlySplit a c
split_then p q = record { tree = q.tree ∙ p.tree; view = q.view ∙ p.view; steps = q.steps ∙ p.steps; tried = q.tried ∙ p.tried }

pub waited_first : (a : GroupHeld) → HaveWaited a a
waited_first a = record { tree = refl; view = same_first a.view; before = inl refl }

-- a wait that goes on
pub waited_more : {a b c : GroupHeld} (tries : ℕ) → b.view.size ≡ 1 → HaveWaited a b → c.tree ≡ b.tree → IsLooked b.view c.view
    → c.view.arrived ≡ 1 → Each (Did HasLooked tries) b.tokens c.tokens → HaveWaited a c
waited_more {a} {b} {c} tries one p tree looked all each =
    let size : c.view.size ≡ 1 = looked.size ∙ one in record {
      tree = tree ∙ p.tree;
      view = same_then p.view (waits_same (omega arith) (all ∙ sym size) looked);
      before = inr (before_more (omega arith) p.before (record { tree = tree; view = looked; tries = tries; tokens = each }));
    }

-- a wait that is given up
pub waits_all : {a b c : GroupHeld} (tries : ℕ) → b.view.size ≡ 1 → HaveWaited a b → c.tree ≡ b.tree → IsLooked b.view c.view → IsFresh c.view
    → c.view.arrived ≡ 1 → Each (Did HasLooked tries) b.tokens c.tokens → AllWait a c
waits_all {a} {b} {c} tries one p tree looked fresh all each =
    let size : c.view.size ≡ 1 = looked.size ∙ one in record {
      same = same_then p.view (waits_same (omega arith) (all ∙ sym size) looked);
      looked = before_more (omega arith) p.before (record { tree = tree; view = looked; tries = tries; tokens = each });
      fresh = fresh;
      all = all;
    }

whole_tree : (h : Holding) (o : Option GroupHeld) (c : GroupHeld) → IsWhole h o c → c.tree ≡ h.tree
whole_tree h None c w = ap (λ (z : GroupHeld). z.tree) w
whole_tree h (Some o) c w = w.tree

finished_tree : (h : Holding) (o : Option GroupHeld) (c : GroupHeld) (phase : ℕ) (led : Bool) → FinishesAtLast h o c phase led
    → c.tree ≡ h.tree
finished_tree h o c phase led f = whole_tree f.0 o c f.4 ∙ f.1.0

-- an answer returns tokens of the same tree
pub all_tree : (tries : ℕ) (a : GroupHeld) (r : GroupArrived) → ArrivesAllAtLast tries a r → (tokens_arrived r).tree ≡ a.tree
all_tree tries a (group_arrived.Done new phase led) reported =
    ⊎_elim (λ z. z.0.0) (λ z. finished_tree z.0.token z.1 new phase led z.3 ∙ z.2.0) reported.2
    ∙ before_tree {a = a} {b = reported.0} reported.1
all_tree tries a (group_arrived.Full new parties) reported = absurd reported
all_tree tries a (group_arrived.AlreadyArrived new phase) reported = reported.2.0 ∙ before_tree {a = a} {b = reported.0} reported.1
all_tree tries a (group_arrived.Ended new shown) reported = reported.2.0 ∙ before_tree {a = a} {b = reported.0} reported.1

pub with_tree : (tries joining leaving : ℕ) (a : GroupHeld) (r : GroupArrived) → ArrivesWithAtLast tries joining leaving a r
    → (tokens_arrived r).tree ≡ a.tree
with_tree tries joining leaving a (group_arrived.Done new phase led) reported =
    ⊎_elim (λ z. z.0.2.same ∙ z.0.1.tree) (λ z. finished_tree z.0.token z.1 new phase led z.3 ∙ (z.2.2.same ∙ z.2.1.tree)) reported.2
    ∙ before_tree {a = a} {b = reported.0} reported.1
with_tree tries joining leaving a (group_arrived.Full new parties) reported =
    reported.2.2.kept.tree ∙ (reported.2.2.first.tree ∙ before_tree {a = a} {b = reported.0} reported.1)
with_tree tries joining leaving a (group_arrived.AlreadyArrived new phase) reported =
    reported.2.0.tree ∙ before_tree {a = a} {b = reported.0} reported.1
with_tree tries joining leaving a (group_arrived.Ended new shown) reported =
    reported.2.2.kept.tree ∙ (reported.2.1.tree ∙ before_tree {a = a} {b = reported.0} reported.1)
