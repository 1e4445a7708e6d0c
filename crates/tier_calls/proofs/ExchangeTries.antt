-- One try by which all tokens of a group pass their tier, and what follows from it.
use Rattle.std.proofs.Common.{◌≡◌, ◌≢◌, ℕ, zero, suc, ◌+◌, ◌<◌, ◌≤◌, false, cond, Option, Some, None, List, [], ◌∷◌, ◌++◌, length, refl, ap, sym, ◌∙◌, subst, arith}
use Rattle.phaser_word.specs.Fields.{Fields}
use Rattle.tier_steps.specs.declared.view.View.{View}
use Rattle.tier_steps.specs.declared.view.Errand.{Errand}
use Rattle.tier_steps.specs.declared.view.Errand.TheVariants.{Rest}
use Rattle.tier_steps.specs.Step.{CanPass, looked, is_going_back}
use Rattle.tier_steps.specs.Tally.{word_at, root_phase}
use Rattle.tier_steps.proofs.Pass.{own_waits, unarrived_is_current}
use Rattle.tier_steps.proofs.KindLaw.{mine}
use Rattle.tier_rule.specs.declared.sight.Sight.{Sight}
use Rattle.tier_rule.specs.Tell.{Beside}
use Rattle.tier_rule.specs.Reach.{those}
use Rattle.tier_rule.specs.Group.{Among, looked_all}
use Rattle.tier_calls.specs.Holding.{Named, Holding}
use Rattle.tier_calls.specs.Groups.{GroupHeld, glanced, AllLooked}
use Rattle.tier_calls.specs.Settles.{OthersOf}
use Rattle.tier_calls.specs.ArrivesAll.{Each, Did, OnlyLooks, StillHere, AllHere, KeepsAll}
use Rattle.tier_calls.specs.NewTokens.{TokensHeld, AreSat, IsEager}
use Rattle.tier_calls.specs.Exchanges.{sights_with}
use Rattle.tier_calls.specs.ArrivesWith.{HasExchanged, TriesWith, OnlySplit}
use Rattle.tier_calls.specs.declared.arriving_with.TriedWith.{TriedWith}
use Rattle.tier_calls.specs.declared.arriving_with.TriedWith.TheVariants as went
use Rattle.tier_calls.proofs.Grouping.{looked_cases, looked_long}
use Rattle.tier_calls.proofs.ArrivingAll.{each_looked, all_spent, glanced_here, glanced_below, looked_yet, none_now, first_fresh_all, among_beside, keeps_then, soon_then, here_then}

-- a lost try
pub lost_pass : {b c : GroupHeld} (z : Fields) → 0 < length b.tokens → b.view.arrived ≢ b.view.size → c.tree ≡ b.tree
    → c.view ≡ glanced b.view.tier z b.view → c.tokens ≡ looked_all b.view.tier z 1 b.tokens → KeepsAll 1 b c
lost_pass {b} {c} z any some' tree view tokens = record {
  tree = tree;
  view = subst (StillHere b.view) (sym view) (glanced_here b.view.tier z b.view some');
  below = λ h. view ∙ glanced_below b.view.tier z b.view h;
  tokens = subst (Each (Did OnlyLooks 1) b.tokens) (sym tokens) (each_looked b.view.tier z 1 b.tokens);
  spent = all_spent b.view.tier z 1 b.tokens c.tokens any tokens;
}

-- tokens that are to arrive and have found their tier open
pub looked_note : (w : Fields) (v : View) → v.errand ≡ Rest → (looked w v).note ≡ None
looked_note w v rests =
    let n : cond (is_going_back v.errand) v.note None ≡ None = ap (λ (e : Errand). cond (is_going_back e) v.note None) rests in
    looked_cases (λ u. u.note ≡ None) w v (λ e. n) (λ e. n) (λ e. n)

pub eager_now : {t : ℕ} {w : Fields} {old mid : GroupHeld} → AllLooked t w 0 old mid → t ≡ old.view.tier → old.view.arrived ≡ 0
    → (0 < old.view.tier → IsEager old.view) → w.ended ≡ false → IsEager mid.view
eager_now {t = zero} {w} {old} {mid} r here none eager going =
    let f = first_fresh_all r going in record {
      none = none_now (looked_yet r here none) none;
      unseen = f.unseen;
      unled = f.unled;
      unnoted = ap (λ (v : View). v.note) r.view ∙ looked_note w old.view r.was.view.rests;
    }
eager_now {t = suc t} {w} {old} {mid} r here none eager going = subst IsEager (sym r.view) (eager (omega arith))

-- a tier at which members are to arrive has parties
pub parties_there : (ps : List ℕ) (t : ℕ) (w : Fields) (v : View) → Beside ps t w v → CanPass t w v → 0 < w.parties
parties_there ps t w v b can =
    let here = b.word in
    let can' : CanPass t (word_at b.words t) v = subst (λ (z : Fields). CanPass t z v) (sym here) can in
    let current =
    unarrived_is_current ps (root_phase b.words) (word_at b.words 0).ended v (mine ps b.words b.front b.back v b.tally) can.unarrived in
    subst (λ (z : Fields). 0 < z.parties) here (own_waits ps b.words b.front b.back v t b.within b.tally can' current).0

pub has_parties : {t : ℕ} {w : Fields} {old mid : GroupHeld} → AllLooked t w 0 old mid → t ≡ mid.view.tier
    → CanPass mid.view.tier w mid.view → 0 < w.parties
has_parties {t} {w} {old} {mid} r here can =
    let b : Beside old.tree.key.shape t w mid.view = subst (λ (n : Named). Beside n.key.shape t w mid.view) r.tree
    (among_beside mid.tree.key t w mid.view mid.tokens (subst (λ (n : Named). Among n.key.shape t w (those mid.tokens)) (sym r.tree) r.looked.after) r.group.alike r.group.some) in
    parties_there old.tree.key.shape t w mid.view b (subst (λ (n : ℕ). CanPass n w mid.view) (sym here) can)

pub still_many : {t : ℕ} {w : Fields} {old mid : GroupHeld} → AllLooked t w 0 old mid → length mid.tokens ≡ length old.tokens
still_many {t} {w} {old} {mid} r = ap length r.looked.all ∙ looked_long t w 0 old.tokens

arrived_here : (v u : View) (e : Errand) → u ≡ record v { arrived = 1; errand = e } → AllHere v u
arrived_here v u e is = subst (AllHere v) (sym is) (record { tier = refl; size = refl; phase = refl; arrived = refl; unled = λ x. x })

-- the exchange was won
pub passed_from : {old mid : GroupHeld} {pool : TokensHeld} {tree : Named} {view : View} {e : Errand} {n : Named} (word : Fields)
    (joining leaving : ℕ) (tokens gone : List Sight)
    → KeepsAll 0 old mid → old.tree ≡ n → AreSat n joining pool → tree ≡ mid.tree → view ≡ record mid.view { arrived = 1; errand = e }
    → tokens ++ gone ≡ sights_with mid pool leaving word → length gone ≡ leaving → HasExchanged 1 joining leaving old tree view tokens
passed_from {old} {mid} {pool} {tree} {view} {e} {n} word joining leaving tokens gone kept own fresh same is all those' = record {
  mid = mid;
  word = word;
  pool = pool;
  used = 0;
  few = omega arith;
  kept = kept;
  fresh = subst (λ (z : Named). AreSat z joining pool) (sym own) fresh;
  same = same ∙ kept.tree;
  here = here_then old.view mid.view view kept.view (arrived_here mid.view view e is);
  gone = gone;
  all = all;
  those = those';
}

pub others_from : {old mid : GroupHeld} {m : ℕ} (rest : Option GroupHeld) → KeepsAll m old mid → OthersOf mid.tree mid.view rest
    → (c : GroupHeld) → rest ≡ Some c → (c.tree ≡ old.tree) × AllHere old.view c.view
others_from {old} {mid} {m} None kept a c is = absurd (let b = sym is in cc)
others_from {old} {mid} {m} (Some d) kept a c is =
    let e : d ≡ c = ap (λ (o : Option GroupHeld). crowd_or d o) is in (
      ap (λ (z : GroupHeld). z.tree) (sym e) ∙ (a.0 ∙ kept.tree),
      here_then old.view mid.view c.view kept.view
          (arrived_here mid.view c.view mid.view.errand (ap (λ (z : GroupHeld). z.view) (sym e) ∙ a.1)),
    )
  where
    crowd_or : GroupHeld → Option GroupHeld → GroupHeld
    crowd_or d None = d
    crowd_or d (Some c) = c

pub passed_then : {a b : GroupHeld} {tree : Named} {view : View} {tokens : List Sight} (m n o joining leaving : ℕ) → m + n ≤ o
    → KeepsAll m a b → HasExchanged n joining leaving b tree view tokens → HasExchanged o joining leaving a tree view tokens
passed_then {a} {b} {tree} {view} {tokens} m n o joining leaving few k p = record {
  mid = p.mid;
  word = p.word;
  pool = p.pool;
  used = m + p.used;
  few = let h = p.few in omega arith;
  kept = keeps_then m p.used (m + p.used) refl k p.kept;
  fresh = subst (λ (z : Named). AreSat z joining p.pool) k.tree p.fresh;
  same = p.same ∙ k.tree;
  here = here_then a.view b.view view k.view p.here;
  gone = p.gone;
  all = p.all;
  those = p.those;
}

-- one more try, unless nothing was counted by it
pub went_then : {a b : GroupHeld} (m o joining leaving : ℕ) → m + 1 ≤ o → KeepsAll m a b → (r : TriedWith)
    → ((group : GroupHeld) → r ≢ went.Yet group) → TriesWith 1 joining leaving b r → TriesWith o joining leaving a r
went_then {a} {b} m o joining leaving few k (went.Yet group) other q = absurd (other group refl)
went_then {a} {b} m o joining leaving few k (went.Done group) other q = passed_then m 1 o joining leaving few k q
went_then {a} {b} m o joining leaving few k (went.Owing errand rest) other q =
    (passed_then m 1 o joining leaving few k q.0, λ c is. (let r = q.1 c is in (r.0 ∙ k.tree, here_then a.view b.view c.view k.view r.1)))
went_then {a} {b} m o joining leaving few k (went.Full group count) other q = let h = q.1 in
    (m + q.0, (omega arith), keeps_then m q.0 (m + q.0) refl k q.2, q.3)
went_then {a} {b} m o joining leaving few k (went.Ended group word) other q = (soon_then m 1 o few k q.0, q.1, q.2)

-- the loop's state
pub record Still (tries : ℕ) (old new : GroupHeld) : Type 0 where
  pub kept : KeepsAll tries old new
  pub many : length new.tokens ≡ length old.tokens

pub each_many : (R : Sight → Sight → Type 0) (l m : List Sight) → Each R l m → length m ≡ length l
each_many R [] [] a = refl
each_many R [] (y ∷ ys) a = absurd a
each_many R (x ∷ xs) [] a = absurd a
each_many R (x ∷ xs) (y ∷ ys) a = ap suc (each_many R xs ys a.1)

pub kept_many : {tries : ℕ} {a b : GroupHeld} → KeepsAll tries a b → length b.tokens ≡ length a.tokens
kept_many {tries} {a} {b} k = each_many (Did OnlyLooks tries) a.tokens b.tokens k.tokens

pub still_eager : {tries : ℕ} {a b : GroupHeld} → KeepsAll tries a b → IsEager a.view → 0 < b.view.tier → IsEager b.view
still_eager {tries} {a} {b} k eager h = subst IsEager (sym (k.below (let t = k.view.same.tier in omega arith))) eager

-- after a look at an open root
pub eager_first : {w : Fields} {old mid : GroupHeld} → AllLooked 0 w 0 old mid → w.ended ≡ false → mid.view.arrived ≡ 0 → IsEager mid.view
eager_first {w} {old} {mid} r going none =
    let f = first_fresh_all r going in record {
      none = none;
      unseen = f.unseen;
      unled = f.unled;
      unnoted = ap (λ (v : View). v.note) r.view ∙ looked_note w old.view r.was.view.rests;
    }

pub split_none : (h : Holding) → OnlySplit h h
split_none h = record { tree = refl; view = refl; steps = refl; tried = refl }

pub split_then : {a b c : Holding} → OnlySplit a b → OnlySplit b c → OnlySplit a c
split_then {a} {b} {c} p q = record { tree = q.tree ∙ p.tree; view = q.view ∙ p.view; steps = q.steps ∙ p.steps; tried = q.tried ∙ p.tried }
