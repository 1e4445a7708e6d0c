-- Who may begin a call, and what calls do on a tree that has ended.
use Rattle.std.proofs.Common.{◌≡◌, ℕ, zero, suc, ◌-◌, ◌<◌, Bool, true, false, cond, eqb, ltb, List, [], ◌∷◌, ◌++◌, length, get_or, set, refl, sym, ◌∙◌, ap, subst, arith, Some, None}
use Rattle.std.specs.Prelude.{◌&&◌, not, replicate}
use Rattle.std.proofs.lemmas.Bool.{and_from, eq-eqb, eqb-true, lt-ltb, ltb-true}
use Rattle.std.proofs.lemmas.List.{get_or-set_same, set-get_or}
use Rattle.phaser_word.specs.Fields.{Fields}
use Rattle.phaser_word.specs.Phase.{shown_of}
use Rattle.flat_phaser.specs.Flat.{everyone_arrived}
use Rattle.flat_phaser.specs.Step.{newcomers}
use Rattle.flat_phaser.proofs.Everyone.{both_true}
use Rattle.tier_steps.specs.declared.view.View.{View}
use Rattle.tier_steps.specs.View.{new_view}
use Rattle.tier_steps.specs.Tally.{blank, word_at}
use Rattle.tier_steps.specs.Word.{forced}
use Rattle.tier_steps.specs.Step.{looked, moved, dropped, is_going_back}
use Rattle.tier_steps.specs.Laws.{words_after, stepped_view}
use Rattle.tier_steps.specs.Image.{token_members, all_members, some_climbing, image}
use Rattle.tier_steps.specs.declared.view.Passage.TheVariants.{Arrival, Departure}
use Rattle.tier_steps.specs.declared.kind.Kind.{Kind}
use Rattle.tier_steps.specs.declared.kind.Kind.TheVariants.{Look, Force, Refuse}
use Rattle.tier_core.specs.declared.call.Call.{Call}
use Rattle.tier_core.specs.declared.call.Call.TheVariants as call
use Rattle.tier_core.specs.declared.call.Played.TheVariants.{GoesOn, Waiting, AlreadyArrived, Ended}
use Rattle.tier_core.specs.declared.call.Progress.{Progress}
use Rattle.tier_core.specs.declared.call.Progress.TheVariants.{Idle, Begun, Seeking as ToSeek, Settling, GivingBack as ToGiveBack, Passing, Owing, Due, Refreshing}
use Rattle.tier_core.specs.declared.call.Step.TheVariants.{Go}
use Rattle.tier_core.specs.declared.call.Turn.{Turn}
use Rattle.tier_core.specs.Turn.{end_shown, is_refusing, lags, polled, first_turn}
use Rattle.tier_core.specs.Machine.{State, view_at, call_at}
use Rattle.tier_core.specs.Run.{is_idle, may_call, after}
use Rattle.tier_core.proofs.Turns.{not_both}
use Rattle.tier_laws.specs.Frame.{flat_of}
use Rattle.tier_laws.specs.Calls.{IsSame}
use Rattle.tier_laws.specs.Ended.{IsFor, TokensBeginCalls, EndedTreesTurnCallsAway, ForceEndsTheTree}
use Rattle.tier_laws.proofs.Stepping.{Gone, gone}

idle_is : (p : Progress) → is_idle p ≡ true → p ≡ Idle
idle_is Idle e = refl
idle_is (Begun c) e = not_both false e refl
idle_is (ToSeek tier size) e = not_both false e refl
idle_is Settling e = not_both false e refl
idle_is (ToGiveBack answer) e = not_both false e refl
idle_is (Passing passage) e = not_both false e refl
idle_is (Owing own) e = not_both false e refl
idle_is (Due own) e = not_both false e refl
idle_is (Refreshing has_moved) e = not_both false e refl

is_for : (ps : List ℕ) (c : Call) (v : View) → may_call (length ps) c v ≡ true → IsFor ps c v
is_for ps (call.Join tier size) v e =
    let a = both_true (ltb tier (length ps)) (eqb v.size 0) e in (ltb-true tier (length ps) a.0, eqb-true v.size 0 a.1)
is_for ps call.Arrive v e = ltb-true 0 v.size e
is_for ps call.Leave v e = ltb-true 0 v.size e
is_for ps call.Poll v e = ltb-true 0 v.size e
is_for ps call.Force v e = tt

may_for : (ps : List ℕ) (c : Call) (v : View) → IsFor ps c v → may_call (length ps) c v ≡ true
may_for ps (call.Join tier size) v is = and_from (ltb tier (length ps)) (eqb v.size 0) (lt-ltb tier (length ps) is.0) (eq-eqb v.size 0 is.1)
may_for ps call.Arrive v is = lt-ltb 0 v.size is
may_for ps call.Leave v is = lt-ltb 0 v.size is
may_for ps call.Poll v is = lt-ltb 0 v.size is
may_for ps call.Force v is = refl

pub tokens_begin_calls : TokensBeginCalls
tokens_begin_calls s i c = (
  λ may.
      let a = both_true (ltb i (length s.views)) (is_idle (call_at s.calls i) && may_call (length s.parents) c (view_at s.views i)) may in
      let b = both_true (is_idle (call_at s.calls i)) (may_call (length s.parents) c (view_at s.views i)) a.1 in
      record {
        known = ltb-true i (length s.views) a.0;
        idle = idle_is (call_at s.calls i) b.0;
        fits = is_for s.parents c (view_at s.views i) b.1;
      },
  λ is. and_from (ltb i (length s.views)) (is_idle (call_at s.calls i) && may_call (length s.parents) c (view_at s.views i))
      (lt-ltb i (length s.views) is.known)
      (and_from (is_idle (call_at s.calls i)) (may_call (length s.parents) c (view_at s.views i)) (ap is_idle is.idle)
      (may_for s.parents c (view_at s.views i) is.fits)),
)

-- the first turn of a call on a tree that has ended
first_over : (c : Call) (root own : Fields) (v : View) → root.ended ≡ true
    → ((first_turn c root own v).answer ≡ end_shown root) × ((first_turn c root own v).next ≡ Idle) × ((first_turn c root own v).tier ≡ 0)
first_over (call.Join tier size) root own v e =
    (ap (λ b. cond b (end_shown root) GoesOn) e, ap (λ b. cond b Idle (ToSeek tier size)) e, refl)
first_over call.Arrive root own v e = (
  ap (λ b. cond b (end_shown root) (cond (eqb (looked root v).arrived v.size) (AlreadyArrived (looked root v).phase) GoesOn)) e,
  ap (λ b. cond b Idle (cond (eqb (looked root v).arrived v.size) Idle (Passing Arrival))) e,
  refl,
)
first_over call.Leave root own v e = (
  ap (λ b. cond b (end_shown root) (cond (eqb (looked root v).arrived v.size) (AlreadyArrived (looked root v).phase) GoesOn)) e,
  ap (λ b. cond b Idle (cond (eqb (looked root v).arrived v.size) Idle (Passing Departure))) e,
  refl,
)
first_over call.Poll root own v e = (
  ap (λ b. cond b (end_shown root) (cond (eqb (looked root v).arrived v.size) Waiting (cond (lags own (looked root v)) GoesOn
      (polled (not (eqb (looked root v).phase v.phase)) (looked root v).phase)))) e,
  ap (λ b. cond b Idle (cond (eqb (looked root v).arrived v.size) Idle
      (cond (lags own (looked root v)) (Refreshing (not (eqb (looked root v).phase v.phase))) Idle))) e,
  refl,
)
first_over call.Force root own v e = (refl, refl, refl)

-- it is a look, or the end by force, which change neither the word nor the members
record StillAt (s : State) (i : ℕ) (kind : Kind) (t : ℕ) : Type 0 where
  word : words_after s.words kind t (view_at s.views i) ≡ s.words
  same : IsSame (view_at s.views i) (stepped_view s.parents s.words kind t (view_at s.views i))

abbrev IsStill : State → ℕ → Turn → Type 0
IsStill s i r = StillAt s i r.kind r.tier

same_if : (b : Bool) (x y v : View) → b ≡ true → IsSame v x → IsSame v (cond b x y)
same_if true x y v e h = h
same_if false x y v e h = not_both false e refl

pub looked_same : (w : Fields) (v : View) → w.ended ≡ true → IsSame v (looked w v)
looked_same w v e =
    let u : View = record v { led = false; note = cond (is_going_back v.errand) v.note None } in
    same_if w.ended (record u { end_seen = Some w.phase; errand = dropped v.errand }) (moved w u) v e
    (record { tier = refl; size = refl; phase = refl; arrived = refl })

-- so a turn that looks at the root of a tree that has ended
look_still : (s : State) (i : ℕ) (r : Turn) → r.kind ≡ Look → r.tier ≡ 0 → (word_at s.words 0).ended ≡ true → IsStill s i r
look_still s i r kind tier e =
    let v : View = view_at s.views i in
    subst (λ (k : Kind). StillAt s i k r.tier) (sym kind) (subst (λ (t : ℕ). StillAt s i Look t) (sym tier) (record {
      word = set-get_or s.words 0 blank;
      same = looked_same (word_at s.words 0) v e;
    }))

force_still : (s : State) (i : ℕ) → (word_at s.words 0).ended ≡ true → StillAt s i Force 0
force_still s i e =
    let w : Fields = word_at s.words 0 in
    record {
      word = ap (λ b. set s.words 0 (record w { ended = b })) (sym e) ∙ set-get_or s.words 0 blank;
      same = record { tier = refl; size = refl; phase = refl; arrived = refl };
    }

first_still : (s : State) (i : ℕ) (c : Call) → (word_at s.words 0).ended ≡ true
    → IsStill s i (first_turn c (word_at s.words 0) (word_at s.words (view_at s.views i).tier) (view_at s.views i))
first_still s i (call.Join tier size) e =
    look_still s i (first_turn (call.Join tier size) (word_at s.words 0) (word_at s.words (view_at s.views i).tier) (view_at s.views i))
    (ap (λ b. cond b Look (cond (eqb tier 0 && is_refusing size (word_at s.words 0)) (Refuse 0 0 size) Look)) e) refl e
first_still s i call.Arrive e =
    look_still s i (first_turn call.Arrive (word_at s.words 0) (word_at s.words (view_at s.views i).tier) (view_at s.views i)) refl refl e
first_still s i call.Leave e =
    look_still s i (first_turn call.Leave (word_at s.words 0) (word_at s.words (view_at s.views i).tier) (view_at s.views i)) refl refl e
first_still s i call.Poll e =
    look_still s i (first_turn call.Poll (word_at s.words 0) (word_at s.words (view_at s.views i).tier) (view_at s.views i)) refl refl e
first_still s i call.Force e = force_still s i e

-- views with the same members have the same members in the flat phaser
token_same : (owner : ℕ) (v v' : View) → IsSame v v' → token_members owner v' ≡ token_members owner v
token_same owner v v' same =
    ap (λ n. replicate n (record { owner = owner; mark = Some v'.phase }) ++ newcomers owner (v'.size - n)) same.arrived
    ∙ (ap (λ n. replicate v.arrived (record { owner = owner; mark = Some n }) ++ newcomers owner (v'.size - v.arrived)) same.phase
    ∙ ap (λ n. replicate v.arrived (record { owner = owner; mark = Some v.phase }) ++ newcomers owner (n - v.arrived)) same.size)

members_same : (owner : ℕ) (vs : List View) (i : ℕ) (v' : View) → i < length vs → IsSame (get_or vs i (new_view 0)) v'
    → all_members owner (set vs i v') ≡ all_members owner vs
members_same owner [] i v' h same = absurd (omega arith)
members_same owner (v ∷ vs) zero v' h same = ap (λ ms. ms ++ all_members (suc owner) vs) (token_same owner v v' same)
members_same owner (v ∷ vs) (suc i) v' h same = ap (λ ms. token_members owner v ++ ms) (members_same (suc owner) vs i v' (omega arith) same)

-- images of trees that have ended are given by their members
ended_image : (ws : List Fields) (xs ys : List View) → (word_at ws 0).ended ≡ true → all_members 0 xs ≡ all_members 0 ys
    → image ws xs ≡ image ws ys
ended_image ws xs ys e members =
    let none : (b : Bool) → cond (word_at ws 0).ended false b ≡ false = λ b. ap (λ x. cond x false b) e in
    ap (λ ms. record {
      phase = (word_at ws 0).phase;
      ended = (word_at ws 0).ended;
      members = ms;
      due = cond (word_at ws 0).ended false (everyone_arrived (word_at ws 0).phase ms && some_climbing xs);
    }) members
    ∙ ap (λ b. record { phase = (word_at ws 0).phase; ended = (word_at ws 0).ended; members = all_members 0 ys; due = b })
    (none (everyone_arrived (word_at ws 0).phase (all_members 0 ys) && some_climbing xs)
    ∙ sym (none (everyone_arrived (word_at ws 0).phase (all_members 0 ys) && some_climbing ys)))

pub ended_trees_turn_calls_away : EndedTreesTurnCallsAway
ended_trees_turn_calls_away s i c core h ended is =
    let r : Turn = first_turn c (word_at s.words 0) (word_at s.words (view_at s.views i).tier) (view_at s.views i) in
    let g : Gone s i r = gone s i (Begun c) core h is refl in
    let turn_is = first_over c (word_at s.words 0) (word_at s.words (view_at s.views i).tier) (view_at s.views i) ended in
    let still = first_still s i c ended in
    let words = g.words ∙ still.word in
    record {
      answer = g.answer ∙ (turn_is.0 ∙ ap (λ b. Ended (shown_of (word_at s.words 0).phase b)) (sym ended));
      call = g.call ∙ turn_is.1;
      flat = ap (λ (ws : List Fields). image ws (after s (Go i)).views) words
          ∙ (ap (λ (vs : List View). image s.words vs) g.views
          ∙ ended_image s.words (set s.views i (stepped_view s.parents s.words r.kind r.tier (view_at s.views i))) s.views ended
          (members_same 0 s.views i (stepped_view s.parents s.words r.kind r.tier (view_at s.views i)) h still.same));
      words = words;
      same = subst (λ (v : View). IsSame (view_at s.views i) v) (sym g.view) still.same;
    }

pub force_ends_the_tree : ForceEndsTheTree
force_ends_the_tree s i core h is =
    let v : View = view_at s.views i in
    let w : Fields = word_at s.words 0 in
    let g = gone s i (Begun call.Force) core h is refl in
    let root : word_at (after s (Go i)).words 0 ≡ forced (word_at s.words 0) =
    ap (λ (ws : List Fields). word_at ws 0) g.words ∙ get_or-set_same s.words 0 (forced (word_at s.words 0)) blank core.tally.some in
    let ended : (flat_of (after s (Go i))).ended ≡ true = ap (λ (x : Fields). x.ended) root in
    let phase : (flat_of (after s (Go i))).phase ≡ (flat_of s).phase = ap (λ (x : Fields). x.phase) root in
    record {
      ended = ended;
      phase = phase;
      members = ap (all_members 0) g.views ∙ members_same 0 s.views i (stepped_view s.parents s.words Force 0 (view_at s.views i)) h
          (record { tier = refl; size = refl; phase = refl; arrived = refl });
      answer = g.answer ∙ (ap (λ n. Ended (shown_of n true)) (sym phase)
          ∙ ap (λ b. Ended (shown_of (flat_of (after s (Go i))).phase b)) (sym ended));
      call = g.call;
    }
