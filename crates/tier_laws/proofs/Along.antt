-- What is true along a call, whatever other tokens do between its steps, and whatever tokens come in.
use Rattle.std.proofs.Common.{◌≡◌, ◌≢◌, ℕ, zero, suc, ◌+◌, ◌<◌, Bool, true, cond, eqb, ltb, List, [], ◌∷◌, ◌++◌, length, length-set, get_or, refl, sym, subst, arith}
use Rattle.std.specs.Prelude.{◌&&◌}
use Rattle.flat_phaser.proofs.Everyone.{both_true}
use Rattle.std.proofs.lemmas.Bool.{eqb-true, eqb-false, ltb-true}
use Rattle.std.proofs.lemmas.List.{length-append, get_or-set_same, get_or-set_other}
use Rattle.tier_steps.specs.declared.view.View.{View}
use Rattle.tier_steps.specs.View.{new_view}
use Rattle.tier_steps.specs.Tally.{word_at}
use Rattle.tier_steps.specs.Laws.{stepped_view}
use Rattle.tier_core.specs.declared.call.Call.{Call}
use Rattle.tier_core.specs.declared.call.Progress.TheVariants.{Idle, Begun}
use Rattle.tier_core.specs.declared.call.Progress.{Progress}
use Rattle.tier_core.specs.declared.call.Step.{Step}
use Rattle.tier_core.specs.declared.call.Step.TheVariants.{Begin, Go, Finish}
use Rattle.tier_core.specs.declared.call.Turn.{Turn}
use Rattle.tier_core.specs.Machine.{State, IsCore, view_at, call_at, is_active, is_due, turn_at, played, with_token}
use Rattle.tier_core.specs.Run.{is_idle, may_call, may_begin, may_go, may_finish, begun, finish_at, plan_ends, after, IsCall, IsStepOfCalls}
use Rattle.tier_core.proofs.Turns.{by_test}
use Rattle.tier_core.proofs.Places.{MayPlay, turn_may}
use Rattle.tier_core.proofs.Runs.{finish_may, step_moves, begun_core}
use Rattle.tier_core.proofs.Opening.{token_core}
use Rattle.tier_laws.specs.Frame.{flat_of}
use Rattle.tier_laws.specs.Moments.{Moment, Event, Takes, Enters, run_of, AreEvents, IsOfCall, AreOfCall}
use Rattle.tier_laws.proofs.Framing.{after_either, turned}
use Rattle.tier_laws.proofs.Planning.{known_active, known_due}
use Rattle.tier_laws.proofs.Ending.{alike_itself, at, own_imaged, imaged}

-- what is kept by the call's steps, by others' steps and calls, and by a token that is added
pub record Carries (i : ℕ) (P : State → List Moment → Type 0) : Type 0 where
  pub goes : (s : State) (past : List Moment) → IsCore s → i < length s.views → is_active (call_at s.calls i) ≡ true
      → MayPlay s i (turn_at s i)
      → P s past → P (played s i (turn_at s i)) (at i s (turn_at s i) ∷ past)
  pub ends : (s : State) (past : List Moment) → IsCore s → i < length s.views → is_due (call_at s.calls i) ≡ true
      → MayPlay s i (finish_at s i (plan_ends s))
      → P s past → P (played s i (finish_at s i (plan_ends s))) (at i s (finish_at s i (plan_ends s)) ∷ past)
  pub others : (s : State) (past : List Moment) (j : ℕ) (r : Turn) → IsCore s → i < length s.views → j < length s.views → i ≢ j
      → MayPlay s j r
      → P s past → P (played s j r) past
  pub begins : (s : State) (past : List Moment) (j : ℕ) (d : Call) → IsCore s → i < length s.views → i ≢ j → P s past → P (begun s j d) past
  pub enters : (s : State) (past : List Moment) → IsCore s → i < length s.views → P s past → P (with_token s) past

pub core_after : (s : State) (x : Step) → IsCore s → IsStepOfCalls x → IsCore (after s x)
core_after s x core is = (step_moves s x (flat_of s) core is (alike_itself (flat_of s))).2

-- no step takes a token away
pub tokens_stay : (s : State) (x : Step) → length (after s x).views ≡ length s.views
tokens_stay s (Begin j d) = after_either (λ x. length x.views ≡ length s.views) (may_begin s j d) s (begun s j d) (λ _. refl) refl
tokens_stay s (Go j) =
    let r : Turn = turn_at s j in
    after_either (λ x. length x.views ≡ length s.views) (may_go s j) s (played s j (turn_at s j))
    (λ _. length-set s.views j (stepped_view s.parents s.words r.kind r.tier (view_at s.views j))) refl
tokens_stay s (Finish j) =
    let r : Turn = finish_at s j (plan_ends s) in
    after_either (λ x. length x.views ≡ length s.views) (may_finish s j) s (played s j (finish_at s j (plan_ends s)))
    (λ _. length-set s.views j (stepped_view s.parents s.words r.kind r.tier (view_at s.views j))) refl

-- a token that comes in leaves what is known of the others
one_behind : {X : Type 0} (xs : List X) (y d : X) (i : ℕ) → i < length xs → get_or (xs ++ y ∷ []) i d ≡ get_or xs i d
one_behind [] y d i h = absurd (omega arith)
one_behind (x ∷ xs) y d zero h = refl
one_behind (x ∷ xs) y d (suc i) h = one_behind xs y d i (omega arith)

pub view_stays : (s : State) (i : ℕ) → i < length s.views → view_at (with_token s).views i ≡ view_at s.views i
view_stays s i h = one_behind s.views (new_view (word_at s.words 0).phase) (new_view 0) i h

pub call_stays : (s : State) (i : ℕ) → IsCore s → i < length s.views → call_at (with_token s).calls i ≡ call_at s.calls i
call_stays s i core h = one_behind s.calls Idle Idle i (let l = core.long in omega arith)

pub one_more : (s : State) → length (with_token s).views ≡ length s.views + 1
one_more s = length-append s.views (new_view (word_at s.words 0).phase ∷ [])

-- a turn of some token, if it may be taken
turn_step : (i : ℕ) (P : State → List Moment → Type 0) (s : State) (past : List Moment) (j : ℕ) (r : Turn) (may : Bool) → P s past
    → (may ≡ true → j ≡ i → P (played s j r) (at j s r ∷ past)) → (may ≡ true → j ≢ i → P (played s j r) past)
    → P (cond may (played s j r) s) (cond (eqb j i) (cond may (at j s r ∷ []) []) [] ++ past)
turn_step i P s past j r may here own other =
    by_test (λ g. P (cond g (played s j r) s) (cond (eqb j i) (cond g (at j s r ∷ []) []) [] ++ past)) may
    (λ e. by_test (λ b. P (played s j r) (cond b (at j s r ∷ []) [] ++ past)) (eqb j i)
    (λ q. own e (eqb-true j i q)) (λ n. other e (eqb-false j i n)))
    (λ _. by_test (λ b. P s (cond b [] [] ++ past)) (eqb j i) (λ _. here) (λ _. here))

one_step : (i : ℕ) (P : State → List Moment → Type 0) → Carries i P → (s : State) (past : List Moment) (x : Step) → IsCore s
    → i < length s.views
    → IsOfCall i x → P s past → P (after s x) (own_imaged i s x ++ past)
one_step i P carries s past (Begin j d) core h other here =
    after_either (λ x. P x past) (may_begin s j d) s (begun s j d) (λ _. carries.begins s past j d core h other here) here
one_step i P carries s past (Go j) core h other here =
    turn_step i P s past j (turn_at s j) (may_go s j) here
    (λ may e. let a = known_active s j may in
    subst (λ (n : ℕ). P (played s n (turn_at s n)) (at n s (turn_at s n) ∷ past)) (sym e)
    (carries.goes s past core h (subst (λ (n : ℕ). is_active (call_at s.calls n) ≡ true) e a.1)
    (subst (λ (n : ℕ). MayPlay s n (turn_at s n)) e (turn_may s j core a.0 a.1)) here))
    (λ may n. let a = known_active s j may in
    carries.others s past j (turn_at s j) core h a.0 (λ e. n (sym e)) (turn_may s j core a.0 a.1) here)
one_step i P carries s past (Finish j) core h other here =
    turn_step i P s past j (finish_at s j (plan_ends s)) (may_finish s j) here
    (λ may e. let a = known_due s j may in
    subst (λ (n : ℕ). P (played s n (finish_at s n (plan_ends s))) (at n s (finish_at s n (plan_ends s)) ∷ past)) (sym e)
    (carries.ends s past core h (subst (λ (n : ℕ). is_due (call_at s.calls n) ≡ true) e a.1)
    (subst (λ (n : ℕ). MayPlay s n (finish_at s n (plan_ends s))) e (finish_may s j (plan_ends s) core a.0 a.1)) here))
    (λ may n. let a = known_due s j may in
    carries.others s past j (finish_at s j (plan_ends s)) core h a.0 (λ e. n (sym e)) (finish_may s j (plan_ends s) core a.0 a.1) here)

-- what is left of a run
pub record Left (i : ℕ) (P : State → List Moment → Type 0) (s : State) (ms : List Moment) : Type 0 where
  pub core : IsCore s
  pub known : i < length s.views
  pub holds : P s ms

pub along : (i : ℕ) (P : State → List Moment → Type 0) → Carries i P → (events : List Event) (s : State) (past : List Moment) → IsCore s
    → i < length s.views → P s past → AreEvents events → AreOfCall i events → Left i P (run_of events s) (imaged i events s past)
along i P carries [] s past core h here are own = record { core = core; known = h; holds = here }
along i P carries (Takes x ∷ events) s past core h here are own =
    along i P carries events (after s x) (own_imaged i s x ++ past) (core_after s x core are.0)
    (subst (λ (n : ℕ). i < n) (sym (tokens_stay s x)) h) (one_step i P carries s past x core h own.0 here) are.1 own.1
along i P carries (Enters ∷ events) s past core h here are own =
    along i P carries events (with_token s) past (token_core s core) (let a = one_more s in omega arith)
    (carries.enters s past core h here) are own

-- what is said of the token's call and view, and of the moments so far
abbrev pub OfToken : ℕ → (List Moment → Progress → View → Type 0) → State → List Moment → Type 0
OfToken i Q s past = Q past (call_at s.calls i) (view_at s.views i)

abbrev pub TurnKeeps : ℕ → (List Moment → Progress → View → Type 0) → State → List Moment → Turn → Type 0
TurnKeeps i Q s past r =
    MayPlay s i r → OfToken i Q s past → Q (at i s r ∷ past) r.next (stepped_view s.parents s.words r.kind r.tier (view_at s.views i))

played_own : (i : ℕ) (Q : List Moment → Progress → View → Type 0) (s : State) (past : List Moment) (r : Turn) → IsCore s
    → i < length s.views
    → Q (at i s r ∷ past) r.next (stepped_view s.parents s.words r.kind r.tier (view_at s.views i))
    → OfToken i Q (played s i r) (at i s r ∷ past)
played_own i Q s past r core h here =
    subst (λ (p : Progress). Q (at i s r ∷ past) p (view_at (played s i r).views i))
    (sym (get_or-set_same s.calls i r.next Idle (let l = core.long in omega arith)))
    (subst (λ (v : View). Q (at i s r ∷ past) r.next v)
    (sym (get_or-set_same s.views i (stepped_view s.parents s.words r.kind r.tier (view_at s.views i)) (new_view 0) h)) here)

same_own : (i : ℕ) (Q : List Moment → Progress → View → Type 0) (s s' : State) (past : List Moment) → call_at s'.calls i ≡ call_at s.calls i
    → view_at s'.views i ≡ view_at s.views i → OfToken i Q s past → OfToken i Q s' past
same_own i Q s s' past call view here =
    subst (λ (p : Progress). Q past p (view_at s'.views i)) (sym call) (subst (λ (v : View). Q past (call_at s.calls i) v) (sym view) here)

-- it holds along the call, since nobody else changes them
pub of_token : (i : ℕ) (Q : List Moment → Progress → View → Type 0)
    → ((s : State) (past : List Moment) → IsCore s → i < length s.views → is_active (call_at s.calls i) ≡ true
    → TurnKeeps i Q s past (turn_at s i))
    → ((s : State) (past : List Moment) → IsCore s → i < length s.views → is_due (call_at s.calls i) ≡ true
    → TurnKeeps i Q s past (finish_at s i (plan_ends s)))
    → Carries i (OfToken i Q)
of_token i Q goes ends = record {
  goes = λ s past core h active may here. played_own i Q s past (turn_at s i) core h (goes s past core h active may here);
  ends = λ s past core h due may here. played_own i Q s past (finish_at s i (plan_ends s)) core h (ends s past core h due may here);
  others = λ s past j r core h k n may here. let same = turned s j i r n in same_own i Q s (played s j r) past same.call same.view here;
  begins = λ s past j d core h n here. same_own i Q s (begun s j d) past (get_or-set_other s.calls j i (Begun d) Idle n) refl here;
  enters = λ s past core h here. same_own i Q s (with_token s) past (call_stays s i core h) (view_stays s i h) here;
}

pub begun_known : (s : State) (i : ℕ) (c : Call) → may_begin s i c ≡ true → i < length s.views
begun_known s i c may =
    ltb-true i (length s.views)
    (both_true (ltb i (length s.views)) (is_idle (call_at s.calls i) && may_call (length s.parents) c (view_at s.views i)) may).0

-- the state in which a call begins
pub begun_own : (i : ℕ) (Q : List Moment → Progress → View → Type 0) (s : State) (c : Call) → IsCore s → may_begin s i c ≡ true
    → Q [] (Begun c) (view_at s.views i) → OfToken i Q (begun s i c) []
begun_own i Q s c core may here =
    subst (λ (p : Progress). Q [] p (view_at s.views i))
    (sym (get_or-set_same s.calls i (Begun c) Idle (let l = core.long in let h = begun_known s i c may in omega arith))) here

-- from the begin of a call
pub along_call : (i : ℕ) (c : Call) (Q : List Moment → Progress → View → Type 0) → Carries i (OfToken i Q)
    → (events : List Event) (s : State)
    → IsCore s → IsCall c → may_begin s i c ≡ true → Q [] (Begun c) (view_at s.views i) → AreEvents events → AreOfCall i events
    → Left i (OfToken i Q) (run_of events (begun s i c)) (imaged i events (begun s i c) [])
along_call i c Q carries events s core is may here are own =
    along i (OfToken i Q) carries events (begun s i c) [] (begun_core s i c core is may) (begun_known s i c may)
    (begun_own i Q s c core may here) are own
