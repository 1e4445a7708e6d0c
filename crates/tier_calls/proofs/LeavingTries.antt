-- What each of some tokens did that leave their tier together.
use Rattle.std.proofs.Common.{◌≡◌, ◌≢◌, ℕ, refl, ◌+◌, ◌<◌, ◌≤◌, List, ◌∷◌, ◌==◌, length, sym, ◌∙◌, subst, arith}
use Rattle.phaser_word.specs.Fields.{Fields}
use Rattle.tier_shape.specs.Parents.{parent_of}
use Rattle.tier_steps.specs.declared.view.View.{View}
use Rattle.tier_steps.specs.declared.view.Passage.TheVariants.{Departure}
use Rattle.tier_steps.specs.declared.kind.Kind.{Kind}
use Rattle.tier_calls.specs.Holding.{Holding, sight_held, shape_of}
use Rattle.tier_calls.specs.Made.{MadeOnly, is_quiet}
use Rattle.tier_calls.specs.Passes.{IsSame, HasCounted}
use Rattle.tier_calls.specs.Arrives.{HasPassed}
use Rattle.tier_calls.specs.Groups.{GroupHeld}
use Rattle.tier_calls.specs.ArrivesAll.{Each, Did, OnlyLooks, Looks, KeepsAll}
use Rattle.tier_calls.specs.ArrivesWith.{FirstLook}
use Rattle.tier_calls.specs.LeavesAll.{all_left, owed_by_last, LeavesOnce, LooksAndLeaves, HaveLeft, LeftEarly, LeftLast, TriesLeaving}
use Rattle.tier_calls.specs.declared.leaving_all.TriedLeaving.{TriedLeaving}
use Rattle.tier_calls.specs.declared.leaving_all.TriedLeaving.TheVariants as tried
use Rattle.tier_calls.proofs.Making.{made_then}
use Rattle.tier_calls.proofs.ArrivingAll.{each_then, soon_then}
use Rattle.tier_calls.proofs.ExchangeTries.{kept_many, each_many}

waits_leaves : (a b c : List Kind) → OnlyLooks a b → LeavesOnce b c → LeavesOnce a c
waits_leaves a b c p q = (q.0, made_then is_quiet p q.1, q.2)

looks_leaves : (a b c : List Kind) → Looks a b → LeavesOnce b c → LooksAndLeaves a c
looks_leaves a b c p q = (q.0, subst (λ (k : List Kind). MadeOnly is_quiet k q.0) p q.1, q.2)

-- the same before some steps by which the tokens stay where they are
left_since : {a b : GroupHeld} {first : Holding} {w : Fields} (P Q R : List Kind → List Kind → Type 0) (m n o : ℕ)
    → ((x y z : List Kind) → P x y → Q y z → R x z) → m + n ≤ o → Each (Did P m) a.tokens b.tokens
    → b.tree ≡ a.tree → b.view.tier ≡ a.view.tier → length b.tokens ≡ length a.tokens → HaveLeft Q n w b first → HaveLeft R o w a first
left_since {a} {b} {first} {w} P Q R m n o both few each tree tier long h = record {
  tree = h.tree ∙ tree;
  none = h.none;
  nobody = h.nobody;
  unled = h.unled;
  tier = h.tier ∙ tier;
  word = h.word ∙ (λ i. all_left (tier i) (long i) w);
  enough = h.enough;
  gone = h.gone;
  spare = h.spare;
  tokens = each_then P Q R m n o both few a.tokens b.tokens (sight_held first ∷ h.gone) each h.tokens;
}

counted_since : (a b c : View) → IsSame a b → HasCounted Departure b c → HasCounted Departure a c
counted_since a b c s q = record {
  tier = q.tier ∙ s.tier;
  phase = q.phase ∙ s.phase;
  arrival = λ e. absurd (cc);
  departure = λ e. let d = q.departure e in (d.0 ∙ s.size, d.1 ∙ s.arrived);
}

module _ {a b : GroupHeld} {first : Holding} (m n o : ℕ) (few : m + n ≤ o) (k : KeepsAll m a b) (q : HasCounted Departure b.view first.view)
    (w : Fields) (h : HaveLeft LeavesOnce n w b first) where
  since : HaveLeft LeavesOnce o w a first
  since = left_since OnlyLooks LeavesOnce LeavesOnce m n o waits_leaves few k.tokens k.tree k.view.same.tier (kept_many k) h

  pub left_after : length b.tokens < w.unarrived → HasCounted Departure a.view first.view × LeftEarly LeavesOnce o a first
  left_after more = (counted_since a.view b.view first.view k.view.same q, (w, since, (let e = kept_many k in omega arith)))

  pub left_last_after : length b.tokens ≡ w.unarrived
      → first.view.errand ≡ owed_by_last (parent_of (shape_of first) b.view.tier) b.view.tier (w.parties == length b.tokens)
      → HasCounted Departure a.view first.view × LeftLast LeavesOnce o a first
  left_last_after all owes = (
    counted_since a.view b.view first.view k.view.same q,
    (
      w,
      since,
      sym (kept_many k) ∙ all,
      owes ∙ (λ i. owed_by_last (parent_of (shape_of first) (k.view.same.tier i)) (k.view.same.tier i) (w.parties == kept_many k i)),
    ),
  )

pub left_first : {a b : GroupHeld} {first : Holding} → KeepsAll 0 a b → HasCounted Departure b.view first.view → (w : Fields)
    → HaveLeft LeavesOnce 1 w b first → length b.tokens < w.unarrived
    → HasCounted Departure a.view first.view × LeftEarly LeavesOnce 1 a first
left_first {a} {b} {first} k q w h more = left_after 0 1 1 (omega arith) k q w h more

pub left_last : {a b : GroupHeld} {first : Holding} → KeepsAll 0 a b → HasCounted Departure b.view first.view → (w : Fields)
    → HaveLeft LeavesOnce 1 w b first → length b.tokens ≡ w.unarrived
    → first.view.errand ≡ owed_by_last (parent_of (shape_of first) b.view.tier) b.view.tier (w.parties == length b.tokens)
    → HasCounted Departure a.view first.view × LeftLast LeavesOnce 1 a first
left_last {a} {b} {first} k q w h all owes = left_last_after 0 1 1 (omega arith) k q w h all owes

-- one more try, unless none of the members has left by it
pub leaves_then : {a b : GroupHeld} (m o : ℕ) → m + 1 ≤ o → KeepsAll m a b → (r : TriedLeaving)
    → ((group : GroupHeld) → r ≢ tried.Yet group) → TriesLeaving 1 b r → TriesLeaving o a r
leaves_then {a} {b} m o few k (tried.Yet group) other q = absurd (other group refl)
leaves_then {a} {b} m o few k (tried.Left door) other q = left_after m 1 o few k q.0 q.1.0 q.1.1 q.1.2
leaves_then {a} {b} m o few k (tried.Owing errand) other q = left_last_after m 1 o few k q.0 q.1.0 q.1.1 q.1.2 q.1.3
leaves_then {a} {b} m o few k (tried.Ended group word) other q = (soon_then m 1 o few k q.0, q.1, q.2)

-- a call whose members have left, from its first look on
passed_since : {old mid : GroupHeld} (first : Holding) → FirstLook old mid → HasCounted Departure mid.view first.view
    → HasPassed Departure old.view first.view
passed_since {old} {mid} first f q = record { from = mid.view; looked = f.looked; unled = f.unled; counted = q }

looked_many : {old mid : GroupHeld} → FirstLook old mid → length mid.tokens ≡ length old.tokens
looked_many {old} {mid} f = each_many (Did Looks 0) old.tokens mid.tokens f.tokens

looked_since : {old mid : GroupHeld} {first : Holding} {w : Fields} (tries : ℕ) → FirstLook old mid → HaveLeft LeavesOnce tries w mid first
    → HaveLeft LooksAndLeaves tries w old first
looked_since {old} {mid} {first} {w} tries f h =
    left_since Looks LeavesOnce LooksAndLeaves 0 tries tries looks_leaves (omega arith) f.tokens f.tree f.looked.tier (looked_many f) h

pub left_all : {old mid : GroupHeld} {first : Holding} {phase : ℕ} (tries : ℕ) → FirstLook old mid
    → HasCounted Departure mid.view first.view × LeftEarly LeavesOnce tries mid first → phase ≡ first.view.phase
    → HasPassed Departure old.view first.view × (phase ≡ first.view.phase) × LeftEarly LooksAndLeaves tries old first
left_all {old} {mid} {first} {phase} tries f q is =
    (passed_since first f q.0, is, (q.1.0, looked_since tries f q.1.1, (let e = looked_many f in let more = q.1.2 in omega arith)))

pub left_owing : {old mid : GroupHeld} {first : Holding} (tries : ℕ) → FirstLook old mid
    → HasCounted Departure mid.view first.view × LeftLast LeavesOnce tries mid first
    → HasPassed Departure old.view first.view × LeftLast LooksAndLeaves tries old first
left_owing {old} {mid} {first} tries f q = (
  passed_since first f q.0,
  (
    q.1.0,
    looked_since tries f q.1.1,
    sym (looked_many f) ∙ q.1.2,
    q.1.3 ∙ (λ i. owed_by_last (parent_of (shape_of first) (f.looked.tier i)) (f.looked.tier i) (q.1.0.parties == looked_many f i)),
  ),
)
