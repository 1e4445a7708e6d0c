-- How many steps are left of a call: each step of the call takes one of them, and others' steps add none.
use Rattle.std.proofs.Common.{◌≡◌, ◌≢◌, ℕ, zero, suc, ◌+◌, ◌-◌, ◌<◌, ◌≤◌, ⊎_elim, Bool, true, false, cond, eqb, List, length, length-set, set, take, drop, refl, sym, ◌∙◌, ap, subst, arith}
use Rattle.std.specs.Prelude.{◌&&◌, not}
use Rattle.std.proofs.lemmas.Bool.{cases_eq, cases_lt, eq-eqb, ne_eqb}
use Rattle.std.proofs.lemmas.List.{get_or-set_same, get_or-set_other, get_or_past}
use Rattle.flat_phaser.proofs.Everyone.{either}
use Rattle.phaser_word.specs.Fields.{Fields}
use Rattle.tier_steps.specs.declared.view.View.{View}
use Rattle.tier_steps.specs.declared.view.Errand.{Errand}
use Rattle.tier_steps.specs.declared.view.Errand.TheVariants.{Rest, Opening, Climbing, Advancing}
use Rattle.tier_steps.specs.declared.view.OpeningStage.{OpeningStage}
use Rattle.tier_steps.specs.declared.view.OpeningStage.TheVariants.{Seeking, Joined, GoingBack}
use Rattle.tier_steps.specs.declared.view.Passage.{Passage}
use Rattle.tier_steps.specs.declared.view.Passage.TheVariants.{Arrival, Departure}
use Rattle.tier_steps.specs.declared.kind.Kind.{Kind}
use Rattle.tier_steps.specs.declared.kind.Kind.TheVariants.{Look, Glance, Refuse, Join, Arrive, Leave, Advance, Force, Claim, Settle, SettleBack, Climb, Refresh}
use Rattle.tier_shape.specs.Parents.{parent_of}
use Rattle.tier_shape.specs.Paths.{IsTiers, path_of}
use Rattle.tier_shape.proofs.Going.{goes_up}
use Rattle.tier_steps.specs.View.{ancestor, late_share}
use Rattle.tier_steps.specs.Tally.{blank, word_at, root_phase, ErrandFits}
use Rattle.tier_steps.specs.Step.{owed, added, opening, looked, dropped, given_up, refused, word_after, IsDue, Needs}
use Rattle.tier_steps.specs.Laws.{words_after, stepped_view}
use Rattle.tier_steps.specs.Due.{is_advance}
use Rattle.tier_steps.proofs.Advance.{ancestor_within}
use Rattle.tier_steps.proofs.Closing.{phase_passed}
use Rattle.tier_steps.proofs.Pass.{only_here, climbing_late, unarrived_is_current}
use Rattle.tier_steps.proofs.Path.{ancestors_are_on_the_path}
use Rattle.tier_steps.proofs.Ready.{phases_stay}
use Rattle.tier_core.specs.declared.call.Call.{Call}
use Rattle.tier_core.specs.declared.call.Call.TheVariants as call
use Rattle.tier_core.specs.declared.call.Played.{Played}
use Rattle.tier_core.specs.declared.call.Played.TheVariants.{GoesOn, Done}
use Rattle.tier_core.specs.declared.call.Progress.{Progress}
use Rattle.tier_core.specs.declared.call.Progress.TheVariants.{Idle, Begun, Seeking as ToSeek, Settling, GivingBack as ToGiveBack, Passing, Owing, Due, Refreshing}
use Rattle.tier_core.specs.declared.call.Turn.{Turn}
use Rattle.tier_core.specs.Turn.{end_shown, is_refusing, refusal, lags, claimed_by, giving_back, settling, seek_turn, settle_turn, give_back_turn, own_kind, pass_turn, climb_turn, errand_place, turn}
use Rattle.tier_core.specs.Machine.{State, IsCore, CallFits, view_at, is_active}
use Rattle.tier_core.specs.Run.{is_idle}
use Rattle.tier_core.proofs.Turns.{not_both, looked_tier, looked_rests, looked_ended, looked_open}
use Rattle.tier_core.proofs.Places.{MayPlay, is_step}
use Rattle.tier_laws.specs.Count.{most_steps}
use Rattle.tier_laws.proofs.Holding.{fits_at, held, nobody_advances, awaited_field, is_awaited}
use Rattle.tier_laws.proofs.Seeking.{ended_root}
use Rattle.tier_laws.proofs.Searching.{by_search}
use Rattle.tier_laws.proofs.Passing.{by_passing}

-- 1 for a tier that isn't in the phase of the climb
abbrev pub behind : ℕ → Fields → ℕ
behind phase w = cond {A = ℕ} (eqb w.phase phase) 0 1

-- the steps of a climb from a tier that is this many levels below the root, and the advance
abbrev pub climb_left : ℕ → List ℕ → List Fields → ℕ → ℕ → ℕ
climb_left zero ps ws phase t = 2
climb_left (suc levels) ps ws phase t = 1 + behind phase (word_at ws t) + climb_left levels ps ws phase (parent_of ps t)

pub record ClimbsWithin (ps : List ℕ) (ws : List Fields) (phase t n : ℕ) : Type 0 where
  pub levels : ℕ
  pub root : ancestor ps t levels ≡ 0
  pub left : climb_left levels ps ws phase t ≤ n

pub record SeeksWithin (ps : List ℕ) (tier claimed n : ℕ) : Type 0 where
  pub levels : ℕ
  pub root : ancestor ps tier levels ≡ 0
  pub reached : claimed ≤ levels
  pub left : levels + levels + 1 ≤ n + claimed

-- the tier that a climb has reached
abbrev pub climbs_to : Errand → ℕ
climbs_to Rest = 0
climbs_to Advancing = 0
climbs_to (Climbing t passage) = t
climbs_to (Opening tier claimed stage size) = 0

-- a call takes at most this many further steps
abbrev pub Within : List ℕ → List Fields → Progress → View → ℕ → Type 0
Within ps ws Idle v n = Unit {0}
Within ps ws (Begun c) v n = most_steps c ≤ n
Within ps ws (ToSeek tier size) v n = SeeksWithin ps tier (claimed_by v.errand) n
Within ps ws Settling v n = claimed_by v.errand ≤ n
Within ps ws (ToGiveBack answer) v n = claimed_by v.errand ≤ n
Within ps ws (Passing passage) v n = ClimbsWithin ps ws v.phase v.tier n
Within ps ws (Owing own) v n = ClimbsWithin ps ws v.phase (climbs_to v.errand) n
Within ps ws (Due own) v n = 1 ≤ n
Within ps ws (Refreshing has_moved) v n = 1 ≤ n

climb_some : (levels : ℕ) (ps : List ℕ) (ws : List Fields) (phase t : ℕ) → 1 < climb_left levels ps ws phase t
climb_some zero ps ws phase t = omega arith
climb_some (suc levels) ps ws phase t = let a = climb_some levels ps ws phase (parent_of ps t) in omega arith

behind_one : (phase : ℕ) (w : Fields) → behind phase w ≤ 1
behind_one phase w = grind arith

pub climb_most : (levels : ℕ) (ps : List ℕ) (ws : List Fields) (phase t : ℕ) → climb_left levels ps ws phase t ≤ levels + levels + 2
climb_most zero ps ws phase t = omega arith
climb_most (suc levels) ps ws phase t =
    let a = climb_most levels ps ws phase (parent_of ps t) in let b = behind_one phase (word_at ws t) in omega arith

-- fewer tiers to come, fewer steps
abbrev pub NoneFallsBehind : ℕ → List Fields → List Fields → Type 0
NoneFallsBehind phase ws ws' = (u : ℕ) → (word_at ws u).phase ≡ phase → (word_at ws' u).phase ≡ phase

behind_less : (phase : ℕ) (w w' : Fields) → (w.phase ≡ phase → w'.phase ≡ phase) → behind phase w' ≤ behind phase w
behind_less phase w w' h = ⊎_elim
    (λ (e : w.phase ≡ phase). let a : behind phase w' ≡ 0 = ap (λ b. cond {A = ℕ} b 0 1) (eq-eqb w'.phase phase (h e)) in omega arith)
    (λ (n : w.phase ≢ phase). let a : behind phase w ≡ 1 = ap (λ b. cond {A = ℕ} b 0 1) (ne_eqb w.phase phase n) in
    let b = behind_one phase w' in omega arith)
    (cases_eq w.phase phase)

climb_less : (levels : ℕ) (ps : List ℕ) (ws ws' : List Fields) (phase t : ℕ) → NoneFallsBehind phase ws ws'
    → climb_left levels ps ws' phase t ≤ climb_left levels ps ws phase t
climb_less zero ps ws ws' phase t h = omega arith
climb_less (suc levels) ps ws ws' phase t h =
    let a = climb_less levels ps ws ws' phase (parent_of ps t) h in
    let b = behind_less phase (word_at ws t) (word_at ws' t) (h t) in omega arith

pub climbs_still : (ps : List ℕ) (ws ws' : List Fields) (phase t n : ℕ) → NoneFallsBehind phase ws ws' → ClimbsWithin ps ws phase t n
    → ClimbsWithin ps ws' phase t n
climbs_still ps ws ws' phase t n h is = record {
  levels = is.levels;
  root = is.root;
  left = (let a = climb_less is.levels ps ws ws' phase t h in let b = is.left in omega arith);
}

-- a word that is written in the phase
written : (ws : List Fields) (t : ℕ) (w : Fields) (phase : ℕ) → t < length ws → w.phase ≡ phase → NoneFallsBehind phase ws (set ws t w)
written ws t w phase h e u k = ⊎_elim
    (λ (q : u ≡ t). ap (λ n. (word_at (set ws t w) n).phase) q ∙ (ap (λ (x : Fields). x.phase) (get_or-set_same ws t w blank h) ∙ e))
    (λ (q : u ≢ t). ap (λ (x : Fields). x.phase) (get_or-set_other ws t u w blank q) ∙ k)
    (cases_eq u t)

above_parent : (ps : List ℕ) (t n : ℕ) → ancestor ps (parent_of ps t) n ≡ ancestor ps t (suc n)
above_parent ps t zero = refl
above_parent ps t (suc n) = ap (parent_of ps) (above_parent ps t n)

-- a tree's tiers are at most 6 levels below the root
pub shallow : (ps : List ℕ) (tier : ℕ) → IsTiers ps → tier < length ps → (levels : ℕ) × (levels ≤ 6) × (ancestor ps tier levels ≡ 0)
shallow ps tier tiers h =
    let path = goes_up tier ps tier tiers.shape h (omega arith) in
    let short = tiers.short tier h in
    let some = path.some in (
      length (path_of ps tier) - 1,
      omega arith,
      sym (ancestors_are_on_the_path ps tier (path_of ps tier) path.first path.parent (length (path_of ps tier) - 1) (omega arith))
          ∙ path.last,
    )

some_step : (c : Call) → 0 < most_steps c
some_step (call.Join tier size) = omega arith
some_step call.Arrive = omega arith
some_step call.Leave = omega arith
some_step call.Poll = omega arith
some_step call.Force = omega arith

-- a call that isn't over has a step left
pub some_left : (ps : List ℕ) (ws : List Fields) (p : Progress) (v : View) (n : ℕ) → is_idle p ≡ false → CallFits ps p v
    → Within ps ws p v n → 0 < n
some_left ps ws Idle v n going fits left = not_both true refl going
some_left ps ws (Begun c) v n going fits left = let a = some_step c in omega arith
some_left ps ws (ToSeek tier size) v n going fits left = let a = left.left in let b = left.reached in omega arith
some_left ps ws Settling v n going fits left = let a : claimed_by v.errand ≡ suc fits.1 = ap claimed_by fits.3 in omega arith
some_left ps ws (ToGiveBack answer) v n going fits left = let a : claimed_by v.errand ≡ suc fits.1 = ap claimed_by fits.3 in omega arith
some_left ps ws (Passing passage) v n going fits left =
    let a = climb_some left.levels ps ws v.phase v.tier in let b = left.left in omega arith
some_left ps ws (Owing own) v n going fits left =
    let a = climb_some left.levels ps ws v.phase (climbs_to v.errand) in let b = left.left in omega arith
some_left ps ws (Due own) v n going fits left = omega arith
some_left ps ws (Refreshing has_moved) v n going fits left = omega arith

-- what is left after a turn of the token
abbrev pub Lowers : State → ℕ → ℕ → Turn → Type 0
Lowers s i n r = MayPlay s i r
    → Within s.parents (words_after s.words r.kind r.tier (view_at s.views i)) r.next
    (stepped_view s.parents s.words r.kind r.tier (view_at s.views i)) (n - 1)

claims_kept : (tier k size : ℕ) (stage : OpeningStage) → claimed_by (opening tier k stage size) ≡ k
claims_kept tier zero size stage = refl
claims_kept tier (suc k) size stage = refl

claims_dropped : (tier k size : ℕ) → claimed_by (dropped (opening tier k Seeking size)) ≡ k
claims_dropped tier zero size = refl
claims_dropped tier (suc k) size = refl

claims_given_up : (tier k size : ℕ) → claimed_by (given_up (opening tier k Seeking size)) ≡ k
claims_given_up tier zero size = refl
claims_given_up tier (suc k) size = refl

refused_errand : (t : ℕ) (w : Fields) (v : View) → w.ended ≡ false → (refused t w v).errand ≡ given_up v.errand
refused_errand zero w v going = ap given_up (looked_open w v going)
refused_errand (suc t) w v going = refl

backs : (ps : List ℕ) (ws : List Fields) (k n : ℕ) (a : Played) (v : View) → claimed_by v.errand ≡ k → k ≤ n
    → Within ps ws (giving_back k a) v n
backs ps ws zero n a v e h = tt
backs ps ws (suc k) n a v e h = omega arith

settles : (ps : List ℕ) (ws : List Fields) (k n : ℕ) (v : View) → claimed_by v.errand ≡ k → k ≤ n → Within ps ws (settling k) v n
settles ps ws zero n v e h = tt
settles ps ws (suc k) n v e h = omega arith

-- a step of a join that looks for its tier
seek_lowers : (s : State) (i n tier k size t : ℕ) → IsCore s → t < length s.words → IsDue s.parents tier k size t (view_at s.views i)
    → SeeksWithin s.parents tier k n → Lowers s i n (seek_turn tier k size t (word_at s.words t) (view_at s.views i))
seek_lowers s i n tier k size t core within due left =
    let w : Fields = word_at s.words t in
    let v : View = view_at s.views i in
    let p : ℕ = (refused t (word_at s.words t) (view_at s.views i)).phase in
    let most : k ≤ n - 1 = (let a = left.left in let b = left.reached in omega arith) in
    by_search (Lowers s i n) tier k size t w v
    (λ e _. let z = ended_root s t core within e in
    backs s.parents (words_after s.words Look 0 v) k (n - 1) (end_shown w) (looked (word_at s.words 0) v)
    (ap claimed_by (looked_ended (word_at s.words 0) v (ap (λ m. (word_at s.words m).ended) (sym z) ∙ e) ∙ ap dropped due.errand)
    ∙ claims_dropped tier k size)
    most)
    (λ going _ _. backs s.parents (words_after s.words (Refuse tier k size) t v) k (n - 1) (refusal t (added k size) p w) (refused t w v)
    (ap claimed_by (refused_errand t w v going ∙ ap given_up due.errand) ∙ claims_given_up tier k size) most)
    (λ _ _ _ may.
    let below : 0 < t = may.needs.1.below in
    let other : k ≢ left.levels = λ q. absurd
    (let a : t ≡ 0 = due.here ∙ (ap (ancestor s.parents tier) q ∙ left.root) in omega arith) in
    record {
      levels = left.levels;
      root = left.root;
      reached = (let a = left.reached in omega arith);
      left = (let a = left.left in let b = left.reached in omega arith);
    })
    (λ _ _ _ _. settles s.parents (words_after s.words (Join tier k size) t v) k (n - 1) (stepped_view s.parents s.words (Join tier k size) t v)
    (claims_kept tier k size Joined) most)

-- a step that settles a claimed tier, or gives it back
settle_lowers : (s : State) (i n tier k size : ℕ) → (view_at s.views i).errand ≡ Opening tier (suc k) Joined size
    → claimed_by (view_at s.views i).errand ≤ n
    → Lowers s i n (settle_turn s.parents (view_at s.views i) (view_at s.views i).errand)
settle_lowers s i n tier k size q left =
    let v : View = view_at s.views i in
    let a : claimed_by (view_at s.views i).errand ≡ suc k = ap claimed_by q in
    subst (λ (e : Errand). Lowers s i n (settle_turn s.parents v e)) (sym q)
    (λ _. settles s.parents (words_after s.words (Settle tier k size) (ancestor s.parents tier k) v) k (n - 1)
    (stepped_view s.parents s.words (Settle tier k size) (ancestor s.parents tier k) v) (claims_kept tier k size Joined) (omega arith))

give_back_lowers : (s : State) (i n tier k size : ℕ) (a : Played) → (view_at s.views i).errand ≡ Opening tier (suc k) GoingBack size
    → claimed_by (view_at s.views i).errand ≤ n → Lowers s i n (give_back_turn s.parents a (view_at s.views i).errand)
give_back_lowers s i n tier k size a q left =
    let v : View = view_at s.views i in
    let b : claimed_by (view_at s.views i).errand ≡ suc k = ap claimed_by q in
    subst (λ (e : Errand). Lowers s i n (give_back_turn s.parents a e)) (sym q)
    (λ _. backs s.parents (words_after s.words (SettleBack tier k size) (ancestor s.parents tier k) v) k (n - 1) a
    (stepped_view s.parents s.words (SettleBack tier k size) (ancestor s.parents tier k) v) (claims_kept tier k size GoingBack)
    (omega arith))

-- The step that passes a tier: it leaves the phases of all tiers and the token's, and what the token owes by the word before.
pub record Steps (s : State) (i t : ℕ) (passage : Passage) (kind : Kind) : Type 0 where
  pub within : t < length s.words
  pub current : (view_at s.views i).phase ≡ root_phase s.words
  pub word : (word_after kind t (word_at s.words t) (view_at s.views i)).phase ≡ (word_at s.words t).phase
  pub phase : (stepped_view s.parents s.words kind t (view_at s.views i)).phase ≡ (view_at s.views i).phase
  pub errand : (stepped_view s.parents s.words kind t (view_at s.views i)).errand
      ≡ owed (parent_of s.parents t) t passage (word_at s.words t)

kept_phases : (ws : List Fields) (t : ℕ) (w : Fields) (phase : ℕ) → t < length ws → w.phase ≡ (word_at ws t).phase
    → NoneFallsBehind phase ws (set ws t w)
kept_phases ws t w phase h e u k = ⊎_elim
    (λ (q : u ≡ t). ap (λ n. (word_at (set ws t w) n).phase) q
    ∙ (ap (λ (x : Fields). x.phase) (get_or-set_same ws t w blank h) ∙ (e ∙ (ap (λ n. (word_at ws n).phase) (sym q) ∙ k))))
    (λ (q : u ≢ t). ap (λ (x : Fields). x.phase) (get_or-set_other ws t u w blank q) ∙ k)
    (cases_eq u t)

-- the climb above a tier
above_it : (ps : List ℕ) (ws : List Fields) (phase t n levels : ℕ) → 0 < t → ancestor ps t levels ≡ 0 → climb_left levels ps ws phase t ≤ n
    → (above : ℕ) × (ancestor ps t (suc above) ≡ 0) × (1 + behind phase (word_at ws t) + climb_left above ps ws phase (parent_of ps t) ≤ n)
above_it ps ws phase t n zero below root left = absurd (omega arith)
above_it ps ws phase t n (suc levels) below root left = (levels, root, left)

-- a party passes a tier, or the tier is refreshed first, or the tree has ended
pass_lowers : (s : State) (i n : ℕ) (own : Passage) (t : ℕ) (passage : Passage) (kind : Kind) (here : Progress) (over : Played)
    → Steps s i t passage kind
    → ClimbsWithin s.parents s.words (view_at s.views i).phase t n
    → ((ws : List Fields) (m : ℕ) → ClimbsWithin s.parents ws (view_at s.views i).phase t m
    → Within s.parents ws here (view_at s.views i) m)
    → Lowers s i n (pass_turn s.parents own t passage kind here over (word_at s.words t) (view_at s.views i))
pass_lowers s i n own t passage kind here over is left stays =
    let w : Fields = word_at s.words t in
    let v : View = view_at s.views i in
    by_passing (Lowers s i n) s.parents own t passage kind here over w v (λ _ _. tt)
    (λ _ _ may.
    let other : (word_at s.words t).phase ≢ (view_at s.views i).phase = may.needs.behind in
    let below : t ≢ 0 = λ z. other (ap (λ m. (word_at s.words m).phase) z ∙ sym is.current) in
    let up = above_it s.parents s.words v.phase t n left.levels (omega arith) left.root left.left in
    let w' : Fields = record (word_at s.words t) { phase = v.phase; unarrived = w.parties } in
    let one : behind v.phase (word_at s.words t) ≡ 1 = ap (λ b. cond {A = ℕ} b 0 1) (ne_eqb (word_at s.words t).phase v.phase other) in
    let none : behind v.phase (word_at (words_after s.words Refresh t v) t) ≡ 0 =
    ap (behind v.phase) (get_or-set_same s.words t w' blank is.within) ∙ ap (λ b. cond {A = ℕ} b 0 1) (eq-eqb v.phase v.phase refl) in
    let fewer = climb_less up.0 s.parents s.words (words_after s.words Refresh t v) v.phase (parent_of s.parents t)
    (written s.words t w' v.phase is.within refl) in
    stays (words_after s.words Refresh t v) (n - 1) record { levels = suc up.0; root = up.1; left = (let a = up.2 in omega arith) })
    (λ _ _ _. tt)
    (λ _ _ _ _. (let a = climb_some left.levels s.parents s.words v.phase t in let b = left.left in omega arith))
    (λ _ j below owes _.
    let up = above_it s.parents s.words v.phase t n left.levels below left.root left.left in
    let v' : View = stepped_view s.parents s.words kind t (view_at s.views i) in
    let ws' : List Fields = words_after s.words kind t v in
    let fewer = climb_less up.0 s.parents s.words (words_after s.words kind t v) v.phase (parent_of s.parents t)
    (kept_phases s.words t (word_after kind t (word_at s.words t) v) v.phase is.within is.word) in
    let to : climbs_to v'.errand ≡ parent_of s.parents t = ap climbs_to (is.errand ∙ owes) in
    subst (λ (m : ℕ). ClimbsWithin s.parents ws' v'.phase m (n - 1)) (sym to)
    (subst (λ (m : ℕ). ClimbsWithin s.parents ws' m (parent_of s.parents t) (n - 1)) (sym is.phase) record {
      levels = up.0;
      root = above_parent s.parents t up.0 ∙ up.1;
      left = (let a = up.2 in omega arith);
    }))

own_steps : (s : State) (i : ℕ) (passage : Passage) → (view_at s.views i).tier < length s.words
    → (view_at s.views i).phase ≡ root_phase s.words
    → Steps s i (view_at s.views i).tier passage (own_kind passage)
own_steps s i Arrival within current = record {
  within = within;
  current = current;
  word = phase_passed (view_at s.views i).tier Arrival (word_at s.words (view_at s.views i).tier);
  phase = refl;
  errand = refl;
}
own_steps s i Departure within current = record {
  within = within;
  current = current;
  word = phase_passed (view_at s.views i).tier Departure (word_at s.words (view_at s.views i).tier);
  phase = refl;
  errand = refl;
}

-- the first step of a call
first_pass : (s : State) (i n : ℕ) (passage : Passage) (answer : Played) (b c : Bool) → IsTiers s.parents
    → (view_at s.views i).tier < length s.parents → 15 ≤ n
    → Lowers s i n record { kind = Look; tier = 0; next = cond b Idle (cond c Idle (Passing passage)); answer = answer }
first_pass s i n passage answer true c tiers place left = λ _. tt
first_pass s i n passage answer false true tiers place left = λ _. tt
first_pass s i n passage answer false false tiers place left = λ _.
    let v' : View = looked (word_at s.words 0) (view_at s.views i) in
    let deep = shallow s.parents (view_at s.views i).tier tiers place in
    let most = climb_most deep.0 s.parents (words_after s.words Look 0 (view_at s.views i)) v'.phase v'.tier in
    record {
      levels = deep.0;
      root = ap (λ t. ancestor s.parents t deep.0) (looked_tier (word_at s.words 0) (view_at s.views i)) ∙ deep.2;
      left = (let a = deep.1 in omega arith);
    }

first_poll : (s : State) (i n : ℕ) (answer : Played) (b c d e : Bool) → 2 ≤ n
    → Lowers s i n record { kind = Look; tier = 0; next = cond b Idle (cond c Idle (cond d (Refreshing e) Idle)); answer = answer }
first_poll s i n answer true c d e left = λ _. tt
first_poll s i n answer false true d e left = λ _. tt
first_poll s i n answer false false true e left = λ _. (let a = left in omega arith)
first_poll s i n answer false false false e left = λ _. tt

seeks_first : (ps : List ℕ) (tier n : ℕ) (e : Errand) → IsTiers ps → tier < length ps → 14 ≤ n → e ≡ Rest
    → SeeksWithin ps tier (claimed_by e) (n - 1)
seeks_first ps tier n e tiers place left q =
    let deep = shallow ps tier tiers place in
    let none : claimed_by e ≡ 0 = ap claimed_by q in
    record { levels = deep.0; root = deep.2; reached = omega arith; left = (let a = deep.1 in omega arith) }

first_join : (s : State) (i n tier size : ℕ) (answer : Played) (b c : Bool) → IsTiers s.parents → tier < length s.parents
    → (view_at s.views i).errand ≡ Rest → 14 ≤ n
    → Lowers s i n
    record { kind = cond b Look (cond c (Refuse 0 0 size) Look); tier = 0; next = cond b Idle (ToSeek tier size); answer = answer }
first_join s i n tier size answer true c tiers place rest left = λ _. tt
first_join s i n tier size answer false true tiers place rest left = λ _.
    seeks_first s.parents tier n (refused 0 (word_at s.words 0) (view_at s.views i)).errand tiers place left
    (ap given_up (looked_rests (word_at s.words 0) (view_at s.views i) rest))
first_join s i n tier size answer false false tiers place rest left = λ _.
    seeks_first s.parents tier n (looked (word_at s.words 0) (view_at s.views i)).errand tiers place left
    (looked_rests (word_at s.words 0) (view_at s.views i) rest)

-- each step of a call takes one of those that are left
pub turn_lowers : (s : State) (i n : ℕ) (p : Progress) → IsTiers s.parents → IsCore s → i < length s.views → is_active p ≡ true
    → CallFits s.parents p (view_at s.views i) → Within s.parents s.words p (view_at s.views i) n
    → Lowers s i n (turn s.parents s.words p (view_at s.views i))
turn_lowers s i n Idle tiers core h active fits left = not_both false active refl
turn_lowers s i n (Due own) tiers core h active fits left = not_both false active refl
turn_lowers s i n (Begun (call.Join tier size)) tiers core h active fits left =
    let w : Fields = word_at s.words 0 in
    first_join s i n tier size (cond w.ended (end_shown w) GoesOn) w.ended (eqb tier 0 && is_refusing size w) tiers fits.1.place fits.0 left
turn_lowers s i n (Begun call.Arrive) tiers core h active fits left =
    let w : Fields = word_at s.words 0 in
    let v : View = view_at s.views i in
    first_pass s i n Arrival (turn s.parents s.words (Begun call.Arrive) v).answer w.ended (eqb (looked w v).arrived v.size) tiers
    ((fits_at s i core h).placed fits.1) left
turn_lowers s i n (Begun call.Leave) tiers core h active fits left =
    let w : Fields = word_at s.words 0 in
    let v : View = view_at s.views i in
    first_pass s i n Departure (turn s.parents s.words (Begun call.Leave) v).answer w.ended (eqb (looked w v).arrived v.size) tiers
    ((fits_at s i core h).placed fits.1) left
turn_lowers s i n (Begun call.Poll) tiers core h active fits left =
    let w : Fields = word_at s.words 0 in
    let v : View = view_at s.views i in
    first_poll s i n (turn s.parents s.words (Begun call.Poll) v).answer w.ended (eqb (looked w v).arrived v.size)
    (lags (word_at s.words v.tier) (looked w v)) (not (eqb (looked w v).phase v.phase)) left
turn_lowers s i n (Begun call.Force) tiers core h active fits left = λ _. tt
turn_lowers s i n (ToSeek tier size) tiers core h active fits left =
    let k : ℕ = claimed_by (view_at s.views i).errand in
    seek_lowers s i n tier k size (ancestor s.parents tier k) core
    (subst (λ (m : ℕ). ancestor s.parents tier k < m) (sym core.tally.long) (ancestor_within s.parents tier k core.shape fits.1.place))
    (record { here = refl; errand = fits.0; none = fits.1.none; some = fits.1.some; few = fits.1.few; place = fits.1.place }) left
turn_lowers s i n Settling tiers core h active fits left = settle_lowers s i n fits.0 fits.1 fits.2 fits.3 left
turn_lowers s i n (ToGiveBack answer) tiers core h active fits left = give_back_lowers s i n fits.0 fits.1 fits.2 answer fits.3 left
turn_lowers s i n (Passing passage) tiers core h active fits left =
    let v : View = view_at s.views i in
    let fit = fits_at s i core h in
    let some : (view_at s.views i).arrived < (view_at s.views i).size = fits.1 in
    let current = unarrived_is_current s.parents (root_phase s.words) (word_at s.words 0).ended (view_at s.views i) fit fits.1 in
    let within : v.tier < length s.words = subst (λ (m : ℕ). v.tier < m) (sym core.tally.long) (fit.placed (omega arith)) in
    pass_lowers s i n passage v.tier passage (own_kind passage) (Passing passage) (end_shown (word_at s.words v.tier))
    (own_steps s i passage within current) left
    (λ ws m is. is)
turn_lowers s i n (Owing own) tiers core h active fits left =
    let v : View = view_at s.views i in
    let fit : ErrandFits s.parents (root_phase s.words) (view_at s.views i) (Climbing fits.0 fits.1) =
    subst (λ (x : Errand). ErrandFits s.parents (root_phase s.words) (view_at s.views i) x) fits.2 (fits_at s i core h).errand in
    let to : climbs_to (view_at s.views i).errand ≡ fits.0 = ap climbs_to fits.2 in
    subst (λ (x : Errand). Lowers s i n (climb_turn s.parents own (word_at s.words (errand_place s.parents x)) v x)) (sym fits.2)
    (pass_lowers s i n own fits.0 fits.1 (Climb fits.1) (Owing own) (Done v.phase)
    (record {
      within = subst (λ (m : ℕ). fits.0 < m) (sym core.tally.long) fit.1;
      current = fit.0;
      word = phase_passed fits.0 fits.1 (word_at s.words fits.0);
      phase = refl;
      errand = refl;
    })
    (subst (λ (m : ℕ). ClimbsWithin s.parents s.words v.phase m n) to left)
    (λ ws m is. subst (λ (x : ℕ). ClimbsWithin s.parents ws v.phase x m) (sym to) is))
turn_lowers s i n (Refreshing has_moved) tiers core h active fits left = λ _. tt

-- no turn is an advance while the root's field isn't 0
kind_owes : (s : State) (j : ℕ) (k : Kind) (t : ℕ) → Needs s.parents k t (word_at s.words t) (view_at s.views j) → is_advance k ≡ true
    → (t ≡ 0) × ((view_at s.views j).errand ≡ Advancing) × ((word_at s.words t).ended ≡ false)
kind_owes s j Look t needs e = not_both false e refl
kind_owes s j Glance t needs e = not_both false e refl
kind_owes s j (Refuse tier claimed size) t needs e = not_both false e refl
kind_owes s j (Join tier claimed size) t needs e = not_both false e refl
kind_owes s j Arrive t needs e = not_both false e refl
kind_owes s j Leave t needs e = not_both false e refl
kind_owes s j (Advance ends) t needs e = (needs.0, needs.1.errand, needs.1.going)
kind_owes s j Force t needs e = not_both false e refl
kind_owes s j (Claim tier claimed size) t needs e = not_both false e refl
kind_owes s j (Settle tier claimed size) t needs e = not_both false e refl
kind_owes s j (SettleBack tier claimed size) t needs e = not_both false e refl
kind_owes s j (Climb passage) t needs e = not_both false e refl
kind_owes s j Refresh t needs e = not_both false e refl

no_advance : (s : State) (j : ℕ) (r : Turn) → IsCore s → j < length s.views → MayPlay s j r
    → ((word_at s.words 0).ended ≡ false → (word_at s.words 0).unarrived ≢ 0) → is_advance r.kind ≡ false
no_advance s j r core h may holds = ⊎_elim
    (λ (e : is_advance r.kind ≡ true).
    let owes = kind_owes s j r.kind r.tier may.needs e in
    let going : (word_at s.words 0).ended ≡ false = ap (λ m. (word_at s.words m).ended) (sym owes.0) ∙ owes.2 in
    absurd (nobody_advances s j core going (holds going) h owes.1))
    (λ e. e)
    (either (is_advance r.kind))

-- a turn of another token leaves each tier in the phase that a token holds up
others_keep : (s : State) (j : ℕ) (r : Turn) (phase : ℕ) → IsCore s → j < length s.views → MayPlay s j r → phase ≡ root_phase s.words
    → ((word_at s.words 0).ended ≡ false → (word_at s.words 0).unarrived ≢ 0)
    → NoneFallsBehind phase s.words (words_after s.words r.kind r.tier (view_at s.views j))
others_keep s j r phase core h may e holds u here = ⊎_elim
    (λ (k : u < length s.words).
    phases_stay s.parents s.words (take j s.views) (view_at s.views j) (drop (suc j) s.views) r.tier r.kind u (is_step s j r core h may)
    (no_advance s j r core h may holds) k (here ∙ e) ∙ sym e)
    (λ (k : length s.words ≤ u).
    let w' : Fields = word_after r.kind r.tier (word_at s.words r.tier) (view_at s.views j) in
    ap (λ (x : Fields). x.phase) (get_or_past (set s.words r.tier w') u blank
    (subst (λ (m : ℕ). m ≤ u) (sym (length-set s.words r.tier (word_after r.kind r.tier (word_at s.words r.tier) (view_at s.views j)))) k)
    ∙ sym (get_or_past s.words u blank k)) ∙ here)
    (cases_lt u (length s.words))

-- and adds nothing to the steps that are left
pub left_stays : (s : State) (i j n : ℕ) (p : Progress) (r : Turn) → IsCore s → i < length s.views → j < length s.views → MayPlay s j r
    → CallFits s.parents p (view_at s.views i) → Within s.parents s.words p (view_at s.views i) n
    → Within s.parents (words_after s.words r.kind r.tier (view_at s.views j)) p (view_at s.views i) n
left_stays s i j n Idle r core h k may fits left = left
left_stays s i j n (Begun c) r core h k may fits left = left
left_stays s i j n (ToSeek tier size) r core h k may fits left = left
left_stays s i j n Settling r core h k may fits left = left
left_stays s i j n (ToGiveBack answer) r core h k may fits left = left
left_stays s i j n (Passing passage) r core h k may fits left =
    let v : View = view_at s.views i in
    let current =
    unarrived_is_current s.parents (root_phase s.words) (word_at s.words 0).ended (view_at s.views i) (fits_at s i core h) fits.1 in
    climbs_still s.parents s.words (words_after s.words r.kind r.tier (view_at s.views j)) v.phase v.tier n
    (others_keep s j r v.phase core k may current
    (λ going. awaited_field s i core going (is_awaited s i core h fits.0 fits.1))) left
left_stays s i j n (Owing own) r core h k may fits left =
    let v : View = view_at s.views i in
    let fit : ErrandFits s.parents (root_phase s.words) (view_at s.views i) (Climbing fits.0 fits.1) =
    subst (λ (x : Errand). ErrandFits s.parents (root_phase s.words) (view_at s.views i) x) fits.2 (fits_at s i core h).errand in
    let late : 0 < late_share (root_phase s.words) s.parents fits.0 (view_at s.views i) =
    (let a = climbing_late (root_phase s.words) s.parents fits.0 fits.1 fits.0 (view_at s.views i) fits.2 in
    let b = only_here fits.0 1 in
    omega arith) in
    climbs_still s.parents s.words (words_after s.words r.kind r.tier (view_at s.views j)) v.phase (climbs_to v.errand) n
    (others_keep s j r v.phase core k may fit.0 (λ going. held s i fits.0 core h going fit.1 late)) left
left_stays s i j n (Due own) r core h k may fits left = left
left_stays s i j n (Refreshing has_moved) r core h k may fits left = left
