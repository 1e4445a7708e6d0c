-- One try by which new tokens join beside a group, and what follows from it.
use Rattle.std.proofs.Common.{◌≡◌, ◌≢◌, ℕ, refl, ◌+◌, ◌<◌, ◌≤◌, sym, ◌∙◌, subst, arith}
use Rattle.phaser_word.specs.Fields.{Fields}
use Rattle.tier_calls.specs.Holding.{Named}
use Rattle.tier_calls.specs.Groups.{GroupHeld, AllLooked}
use Rattle.tier_calls.specs.ArrivesAll.{KeepsAll}
use Rattle.tier_calls.specs.NewTokens.{TokensHeld, AreSat, IsEager}
use Rattle.tier_calls.specs.ArrivesWith.{FindsFull, OnlyTried}
use Rattle.tier_calls.specs.JoinsAll.{sights_joined, HasJoined, TriesToJoin}
use Rattle.tier_calls.specs.declared.joining_all.TriedJoin.{TriedJoin}
use Rattle.tier_calls.specs.declared.joining_all.TriedJoin.TheVariants as went
use Rattle.tier_calls.proofs.ArrivingAll.{keeps_then, soon_then, first_look}

-- the exchange was won
pub joined_from : {old mid new : GroupHeld} {pool : TokensHeld} {n : Named} (word : Fields) (count : ℕ) → KeepsAll 0 old mid
    → IsEager mid.view → old.tree ≡ n → AreSat n count pool → word.parties + count ≤ 65535
    → new.tree ≡ mid.tree → new.view ≡ mid.view → new.tokens ≡ sights_joined mid pool word → HasJoined 1 count old new
joined_from {old} {mid} {new} {pool} {n} word count kept eager own fresh capacity same view tokens = record {
  mid = mid;
  word = word;
  pool = pool;
  used = 0;
  few = omega arith;
  kept = kept;
  eager = eager;
  fresh = subst (λ (z : Named). AreSat z count pool) (sym own) fresh;
  capacity = capacity;
  tree = same ∙ kept.tree;
  view = view;
  tokens = tokens;
}

joined_then : {a b new : GroupHeld} (m o count : ℕ) → m + 1 ≤ o → KeepsAll m a b → HasJoined 1 count b new → HasJoined o count a new
joined_then {a} {b} {new} m o count few k p = record {
  mid = p.mid;
  word = p.word;
  pool = p.pool;
  used = m + p.used;
  few = let h = p.few in omega arith;
  kept = keeps_then m p.used (m + p.used) refl k p.kept;
  eager = p.eager;
  fresh = subst (λ (z : Named). AreSat z count p.pool) k.tree p.fresh;
  capacity = p.capacity;
  tree = p.tree ∙ k.tree;
  view = p.view;
  tokens = p.tokens;
}

-- one more try, unless nobody has joined by it
pub joins_then : {a b : GroupHeld} (m o count : ℕ) → m + 1 ≤ o → KeepsAll m a b → (r : TriedJoin)
    → ((group : GroupHeld) → r ≢ went.Yet group) → TriesToJoin 1 count b r → TriesToJoin o count a r
joins_then {a} {b} m o count few k (went.Yet group) other q = absurd (other group refl)
joins_then {a} {b} m o count few k (went.Joined group) other q = joined_then m o count few k q
joins_then {a} {b} m o count few k (went.Full group parties) other q = let h = q.1 in
    (m + q.0, (omega arith), keeps_then m q.0 (m + q.0) refl k q.2, q.3)
joins_then {a} {b} m o count few k (went.Ended group word) other q = (soon_then m 1 o few k q.0, q.1, q.2)

-- the tier has no room
pub finds_full : {t parties : ℕ} {w : Fields} {old mid : GroupHeld} (n : ℕ) → AllLooked t w 0 old mid → t ≡ old.view.tier
    → KeepsAll 0 old mid → parties ≡ w.parties → 65535 < parties + n → FindsFull n mid parties
finds_full {t} {parties} {w} {old} {mid} n r here k is full = record {
  before = old;
  word = w;
  found = subst (λ (u : ℕ). AllLooked u w 0 old mid) (here ∙ sym k.view.same.tier) r;
  parties = is;
  full = full;
}

-- some tries after the first look
pub only_tried : {w : Fields} {old mid new : GroupHeld} {tries : ℕ} → AllLooked 0 w 0 old mid → mid.view.arrived ≡ 0
    → KeepsAll tries mid new → OnlyTried tries old new
only_tried {w} {old} {mid} {new} {tries} r none k = record { mid = mid; first = first_look r; none = none; kept = k }
