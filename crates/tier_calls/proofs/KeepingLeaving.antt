-- All members of a group leave the root by an exchange from the word that the group has kept.
use Rattle.std.proofs.Common.{◌≡◌, ◌≢◌, ℕ, ◌+◌, ◌<◌, ◌≤◌, ◌==◌, inl, inr, ◌⊎◌, Option, Some, None, length, refl, sym, ◌∙◌, subst, arith}
use Rattle.std.specs.Prelude.{IfSome}
use Rattle.phaser_word.specs.Fields.{Fields}
use Rattle.tier_shape.specs.Parents.{parent_of}
use Rattle.tier_steps.specs.declared.view.Passage.TheVariants.{Departure}
use Rattle.tier_steps.specs.Step.{CanPass}
use Rattle.tier_calls.specs.Holding.{Holding, shape_of}
use Rattle.tier_calls.specs.declared.going.Going.{Going}
use Rattle.tier_calls.specs.Passes.{HasCounted}
use Rattle.tier_calls.specs.Groups.{GroupHeld, IsGroup, AllLost}
use Rattle.tier_calls.specs.Kept.{MayBegin, Finds, before_of, begun}
use Rattle.tier_calls.specs.KeptTries.{LooksAndTriesLeaving, TriesLeavingKept, SoFar, TriedOnce}
use Rattle.tier_calls.specs.ArrivesAll.{KeepsAll}
use Rattle.tier_calls.specs.ArrivesWith.{OnlyTried}
use Rattle.tier_calls.specs.LeavesAll.{LeavesOnce, owed_by_last, HaveLeft, TriesOnce, TriesLeaving}
use Rattle.tier_calls.specs.declared.leaving_all.LeavingTry.{LeavingTry}
use Rattle.tier_calls.specs.declared.leaving_all.LeavingTry.TheVariants as once
use Rattle.tier_calls.specs.declared.leaving_all.TriedLeaving.{TriedLeaving}
use Rattle.tier_calls.specs.declared.leaving_all.TriedLeaving.TheVariants as tried
use Rattle.tier_calls.proofs.ArrivingAll.{keeps_none, keeps_then, looked_yet, looked_keeps, none_now, first_look, yet}
use Rattle.tier_calls.proofs.ExchangeTries.{has_parties}
use Rattle.tier_calls.proofs.LeavingTries.{left_after, left_last_after, left_first, left_last, leaves_then}
use Rattle.tier_calls.proofs.Keeping.{begin_parties, first_kept, first_lost, looked_before, so_far_next}

-- one try from a kept word
module _ {c : GroupHeld} {w : Fields} (begin : MayBegin c w) where
  abbrev seen : GroupHeld
  seen = begun c (before_of w c)

  kept_left : (door : Holding) → HasCounted Departure c.view door.view → HaveLeft LeavesOnce 1 w seen door
      → length seen.tokens < w.unarrived → LooksAndTriesLeaving 1 c (tried.Left door)
  kept_left door q h more = (seen, first_kept begin, begin.eager.none, left_after 0 1 1 (omega arith) (keeps_none seen) q w h more)

  kept_owing : (errand : Going) → HasCounted Departure c.view errand.token.view → HaveLeft LeavesOnce 1 w seen errand.token
      → length seen.tokens ≡ w.unarrived
      → errand.token.view.errand
      ≡ owed_by_last (parent_of (shape_of errand.token) c.view.tier) c.view.tier (w.parties == length seen.tokens)
      → LooksAndTriesLeaving 1 c (tried.Owing errand)
  kept_owing errand q h all owes =
      (seen, first_kept begin, begin.eager.none, left_last_after 0 1 1 (omega arith) (keeps_none seen) q w h all owes)

-- how a try came out
abbrev tried_of : LeavingTry → TriedLeaving
tried_of (once.Left door) = tried.Left door
tried_of (once.Owing errand) = tried.Owing errand
tried_of (once.Lost group z) = tried.Yet group

leaves_kept : {c : GroupHeld} {w : Fields} (r : LeavingTry) → MayBegin c w → TriesOnce w (begun c (before_of w c)) c r
    → LooksAndTriesLeaving 1 c (tried_of r)
leaves_kept (once.Left door) begin q = kept_left begin door q.0 q.1 q.2
leaves_kept (once.Owing errand) begin q = kept_owing begin errand q.0 q.1 q.2 q.3
leaves_kept (once.Lost group z) begin q = let o = first_lost begin q in (o.mid, o.first, o.none, o.kept)

-- one try from a word that a load found
leaves_loaded : {a b : GroupHeld} (w : Fields) (r : LeavingTry) → IsGroup b → b.view.arrived ≡ 0 → KeepsAll 0 a b
    → TriesOnce w (begun b (before_of w b)) b r → TriesLeaving 1 a (tried_of r)
leaves_loaded w (once.Left door) g none k q = left_first (looked_before w k g.some) q.0 w q.1 q.2
leaves_loaded w (once.Owing errand) g none k q = left_last (looked_before w k g.some) q.0 w q.1 q.2 q.3
leaves_loaded {a} {b} w (once.Lost group z) g none k q = keeps_then 0 1 1 refl k (looked_keeps refl (yet b.view g.view none) q.looked)

module _ {t : ℕ} {w : Fields} {old new : GroupHeld} where
  leaves_found : (kept : Option Fields) → IfSome kept (MayBegin old) → Finds kept t w old new → t ≡ old.view.tier → old.view.arrived ≡ 0
      → (r : LeavingTry) → TriesOnce w (begun new (before_of w new)) new r → TriesLeavingKept kept 1 old (tried_of r)
  leaves_found None b f here none r q = let k = looked_yet f.how here none in leaves_loaded w r f.how.group (none_now k none) k q
  leaves_found (Some k) b f here none r q =
      leaves_kept r b
      (subst (λ (z : GroupHeld). TriesOnce k (begun z (before_of k z)) z r) f.how.1 (subst (λ (z : Fields). TriesOnce z (begun new (before_of z new)) new r) f.how.0 q))

  pub finds_left : (kept : Option Fields) → IfSome kept (MayBegin old) → Finds kept t w old new → t ≡ old.view.tier → old.view.arrived ≡ 0
      → (door : Holding) → TriesOnce w (begun new (before_of w new)) new (once.Left door) → TriesLeavingKept kept 1 old (tried.Left door)
  finds_left kept b f here none door q = leaves_found kept b f here none (once.Left door) q

  pub finds_owing : (kept : Option Fields) → IfSome kept (MayBegin old) → Finds kept t w old new → t ≡ old.view.tier → old.view.arrived ≡ 0
      → (errand : Going) → TriesOnce w (begun new (before_of w new)) new (once.Owing errand)
      → TriesLeavingKept kept 1 old (tried.Owing errand)
  finds_owing kept b f here none errand q = leaves_found kept b f here none (once.Owing errand) q

  pub finds_lost : (kept : Option Fields) → IfSome kept (MayBegin old) → Finds kept t w old new → t ≡ old.view.tier → old.view.arrived ≡ 0
      → (group : GroupHeld) (z : Fields) → AllLost w z new group → TriesLeavingKept kept 1 old (tried.Yet group)
  finds_lost kept b f here none group z q = leaves_found kept b f here none (once.Lost group z) q

  -- a tier from whose word members may pass has parties
  pub finds_parties : (kept : Option Fields) → IfSome kept (MayBegin old) → Finds kept t w old new → t ≡ old.view.tier
      → old.view.arrived ≡ 0 → CanPass new.view.tier w new.view → 0 < w.parties
  finds_parties None b f here none can = let k = looked_yet f.how here none in has_parties f.how (here ∙ sym k.view.same.tier) can
  finds_parties (Some k) b f here none can = subst (λ (z : Fields). 0 < z.parties) (sym f.how.0) (begin_parties b)

-- some tries
leaving_once : (kept : Option Fields) (old group : GroupHeld) → TriesLeavingKept kept 1 old (tried.Yet group) → TriedOnce kept old group
leaving_once None old group q = q
leaving_once (Some k) old group q = record { mid = q.0; first = q.1; none = q.2; kept = q.3 }

pub leaving_next : {n : ℕ} {old group next : GroupHeld} (kept now : Option Fields) → SoFar kept now n old group
    → TriesLeavingKept now 1 group (tried.Yet next) → SoFar kept None (n + 1) old next
leaving_next {n} {old} {group} {next} kept now s q = so_far_next kept now s (leaving_once now group next q)

module _ {n : ℕ} {old group : GroupHeld} where
  pub leaving_done : (tries : ℕ) (kept now : Option Fields) → n + 1 ≤ tries → SoFar kept now n old group → (r : TriedLeaving)
      → ((z : GroupHeld) → r ≢ tried.Yet z) → TriesLeavingKept now 1 group r → TriesLeavingKept kept tries old r
  leaving_done tries None now few s r other q =
      leaves_then n tries few s.how.0 r other (subst (λ (o : Option Fields). TriesLeavingKept o 1 group r) s.how.1 q)
  leaving_done tries (Some k) now few s r other q = go s.how
    where
      go : ((n ≡ 0) × (group ≡ old) × (now ≡ Some k)) ⊎ (OnlyTried n old group × (now ≡ None)) → LooksAndTriesLeaving tries old r
      go (inl h) =
          let a : LooksAndTriesLeaving 1 group r = subst (λ (o : Option Fields). TriesLeavingKept o 1 group r) h.2 q in
          let b : LooksAndTriesLeaving 1 old r = subst (λ (z : GroupHeld). LooksAndTriesLeaving 1 z r) h.1 a in
          (b.0, b.1, b.2, leaves_then 0 tries (omega arith) (keeps_none b.0) r other b.3)
      go (inr h) = let o = h.0 in (
        o.mid,
        o.first,
        o.none,
        leaves_then n tries few o.kept r other (subst (λ (p : Option Fields). TriesLeavingKept p 1 group r) h.1 q),
      )

-- a call's look at the root, and then some tries
pub looks_and_leaves : {w : Fields} {old mid : GroupHeld} (tries : ℕ) (kept : Option Fields) → Finds kept 0 w old mid → mid.view.arrived ≡ 0
    → (r : TriedLeaving) → TriesLeavingKept kept tries mid r → LooksAndTriesLeaving tries old r
looks_and_leaves {w} {old} {mid} tries None f none r q = (mid, first_look f.how, none, q)
looks_and_leaves tries (Some k) f none r q = subst (λ (z : GroupHeld). LooksAndTriesLeaving tries z r) f.how.1 q
