-- From the flat phasers that a tree represents to any that takes the labels of its steps.
use Rattle.std.proofs.Common.{◌≡◌, ℕ, zero, suc, ◌<◌, ◌⊎◌, inl, inr, ⊎_elim, Bool, true, false, cond, eqb, List, [], ◌∷◌, ◌++◌, length, get_or, refl, sym, ◌∙◌, ap, subst, arith}
use Rattle.std.specs.List.{Any, AllByRecursion}
use Rattle.std.proofs.lemmas.Bool.{eq-eqb, eqb-true}
use Rattle.phaser_word.specs.Phase.{shown_of}
use Rattle.flat_phaser.specs.declared.Member.{Member}
use Rattle.flat_phaser.specs.Flat.{Flat, members_of, arrived_of, is_owned}
use Rattle.flat_phaser.specs.Alike.{IsAlike}
use Rattle.flat_phaser.proofs.Counts.{count_cons}
use Rattle.tier_steps.specs.Marks.{sees_root}
use Rattle.tier_steps.specs.Image.{label, labelled, LooksAlike}
use Rattle.tier_core.specs.declared.call.Call.{Call}
use Rattle.tier_core.specs.declared.call.Call.TheVariants as call
use Rattle.tier_core.specs.declared.call.Cause.{Cause}
use Rattle.tier_core.specs.declared.call.Cause.TheVariants as cause
use Rattle.tier_core.specs.declared.call.Played.{Played}
use Rattle.tier_core.specs.declared.call.Played.TheVariants.{GoesOn, Done, Passed, Waiting, Held, Full, AlreadyArrived, Ended, MustAdvance}
use Rattle.tier_core.specs.declared.call.Step.{Step}
use Rattle.tier_core.specs.declared.call.Step.TheVariants.{Begin, Go, Finish}
use Rattle.tier_core.specs.declared.call.Turn.{Turn}
use Rattle.tier_core.specs.Machine.{State, IsCore, turn_at, with_token}
use Rattle.tier_core.specs.Run.{may_go, may_finish, finish_at, plan_ends, after, step_label}
use Rattle.tier_core.proofs.Turns.{by_test}
use Rattle.tier_core.proofs.Places.{MayPlay, played_flat, turn_may}
use Rattle.tier_core.proofs.Runs.{finish_may, step_moves}
use Rattle.tier_core.proofs.Opening.{token_core}
use Rattle.tier_laws.specs.Frame.{flat_of}
use Rattle.tier_laws.specs.Moments.{Moment, Event, Takes, Enters, moment_of, own_turn, moments, AreEvents, LooksLikeTheTree, MomentsLookLikeTheTree}
use Rattle.tier_laws.specs.Reports.{IsCounted, IsFirstLook, IsAwaiting, AreAllHere, HasPassed, HasEnded, MakesDue, IsCause, IsHeldBy, IsFullWith, last_seen, IsDoneIn, Tells, LatestTells, is_last}
use Rattle.tier_core.specs.declared.call.Progress.TheVariants.{Idle}
use Rattle.tier_laws.proofs.Planning.{known_active, known_due}
use Rattle.tier_laws.proofs.Ending.{at, own_imaged, imaged}
use Rattle.tier_laws.proofs.Entering.{same_flat}
use Rattle.tier_laws.proofs.Memory.{any_here, any_later}

-- the same moment beside other flat phasers, which look alike
abbrev pub beside : Moment → Flat → Flat → Moment
beside n f g = record { state = n.state; turn = n.turn; before = f; afterwards = g }

pub record Alike (m n : Moment) : Type 0 where
  pub before_ : Flat
  pub after_ : Flat
  pub is : m ≡ beside n before_ after_
  pub before : LooksAlike before_ n.before
  pub afterwards : LooksAlike after_ n.afterwards

abbrev pub Alikes : List Moment → List Moment → Type 0
Alikes [] [] = Unit {0}
Alikes [] (n ∷ ns) = ⊥
Alikes (m ∷ ms) [] = ⊥
Alikes (m ∷ ms) (n ∷ ns) = Alike m n × Alikes ms ns

append_alikes : (ms ns past past' : List Moment) → Alikes ms ns → Alikes past past' → Alikes (ms ++ past) (ns ++ past')
append_alikes [] [] past past' h k = k
append_alikes [] (n ∷ ns) past past' h k = absurd h
append_alikes (m ∷ ms) [] past past' h k = absurd h
append_alikes (m ∷ ms) (n ∷ ns) past past' h k = (h.0, append_alikes ms ns past past' h.1 k)

one_moment : (b g : Bool) (m n : Moment) → (g ≡ true → Alike m n) → Alikes (cond b (cond g (m ∷ []) []) []) (cond b (cond g (n ∷ []) []) [])
one_moment true true m n h = (h refl, tt)
one_moment true false m n h = tt
one_moment false g m n h = tt

turn_alike : (s : State) (f : Flat) (j : ℕ) (r : Turn) → IsCore s → LooksAlike f (flat_of s) → j < length s.views → MayPlay s j r
    → Alike (moment_of j s f r) (at j s r)
turn_alike s f j r core alike h may = record {
  before_ = f;
  after_ = labelled (label j r.kind) f;
  is = refl;
  before = alike;
  afterwards = (played_flat s j r f core h may alike).1;
}

own_alike : (i : ℕ) (s : State) (f : Flat) (x : Step) → IsCore s → LooksAlike f (flat_of s) → Alikes (own_turn i s f x) (own_imaged i s x)
own_alike i s f (Begin j c) core alike = tt
own_alike i s f (Go j) core alike = one_moment (eqb j i) (may_go s j) (moment_of j s f (turn_at s j)) (at j s (turn_at s j))
    (λ e. let a = known_active s j e in turn_alike s f j (turn_at s j) core alike a.0 (turn_may s j core a.0 a.1))
own_alike i s f (Finish j) core alike =
    one_moment (eqb j i) (may_finish s j) (moment_of j s f (finish_at s j (plan_ends s))) (at j s (finish_at s j (plan_ends s)))
    (λ e. let a = known_due s j e in
    turn_alike s f j (finish_at s j (plan_ends s)) core alike a.0 (finish_may s j (plan_ends s) core a.0 a.1))

pub reached : (i : ℕ) (events : List Event) (s : State) (f : Flat) (past past' : List Moment) → IsCore s → AreEvents events
    → LooksAlike f (flat_of s)
    → Alikes past past' → Alikes (moments i events s f past) (imaged i events s past')
reached i [] s f past past' core are alike h = h
reached i (Takes x ∷ events) s f past past' core are alike h =
    let one = step_moves s x f core are.0 alike in
    reached i events (after s x) (labelled (step_label s x) f) (own_turn i s f x ++ past) (own_imaged i s x ++ past') one.2 are.1 one.1
    (append_alikes (own_turn i s f x) (own_imaged i s x) past past' (own_alike i s f x core alike) h)
reached i (Enters ∷ events) s f past past' core are alike h =
    reached i events (with_token s) f past past' (token_core s core) are
    (subst (λ (g : Flat). LooksAlike f g) (sym (same_flat s)) alike) h

-- what is said of a moment by its state and turn is said of it beside other flat phasers
pub carried : (P : Moment → Type 0) (m n : Moment) → (a : Alike m n) → P (beside n a.before_ a.after_) → P m
carried P m n a h = subst P (sym a.is) h

any_cases : {X : Type 0} (P : X → Type 0) (x : X) (xs : List X) (k : ℕ) (y : X) → k < length (x ∷ xs) → get_or (x ∷ xs) k y ≡ y → P y
    → P x ⊎ Any P xs
any_cases P x xs zero y h e p = inl (subst P (sym e) p)
any_cases P x xs (suc k) y h e p = inr (k, y, (omega arith), e, p)

-- what each moment says beside one flat phaser it says beside the other
abbrev pub Tells_ : (Moment → Type 0) → (Moment → Type 0) → Type 0
Tells_ P Q = (n : Moment) (f g : Flat) → LooksAlike f n.before → LooksAlike g n.afterwards → P n → Q (beside n f g)

pub any_alike : (P Q : Moment → Type 0) → Tells_ P Q → (ms ns : List Moment) → Alikes ms ns → Any P ns → Any Q ms
any_alike P Q tells [] [] h a = absurd (let b = a.2 in omega arith)
any_alike P Q tells [] (n ∷ ns) h a = absurd h
any_alike P Q tells (m ∷ ms) [] h a = absurd h
any_alike P Q tells (m ∷ ms) (n ∷ ns) h a = ⊎_elim
    (λ (p : P n). any_here Q m ms (carried Q m n h.0 (tells n h.0.before_ h.0.after_ h.0.before h.0.afterwards p)))
    (λ (b : Any P ns). any_later Q m ms (any_alike P Q tells ms ns h.1 b))
    (any_cases P n ns a.0 a.1 a.2 a.3 a.4)

counted : (token : ℕ) (c : Call) (now : ℕ) → Tells_ (IsCounted token c now) (IsCounted token c now)
counted token c now n f g before afterwards is = record { label = is.label; phase = before.phase ∙ is.phase }

first_look : (token : ℕ) (c : Call) (now : ℕ) → Tells_ (IsFirstLook token c now) (IsFirstLook token c now)
first_look token c now n f g before afterwards is =
    record { first = is.first; going = before.ended ∙ is.going; phase = before.phase ∙ is.phase }

-- the members of a token, in the phase of both
same_members : (token : ℕ) (f g : Flat) → LooksAlike f g → g.ended ≡ false → members_of token f.members ≡ members_of token g.members
same_members token f g alike going = (alike.going (alike.ended ∙ going)).members token

same_arrived : (token now : ℕ) (f g : Flat) → LooksAlike f g → g.ended ≡ false → g.phase ≡ now
    → arrived_of now token f.members ≡ arrived_of now token g.members
same_arrived token now f g alike going here =
    ap (λ p. arrived_of p token f.members) (sym (alike.phase ∙ here))
    ∙ ((alike.going (alike.ended ∙ going)).arrived token ∙ ap (λ p. arrived_of p token g.members) here)

awaiting : (token now : ℕ) → Tells_ (IsAwaiting token now) (IsAwaiting token now)
awaiting token now n f g before afterwards is =
    let a = same_members token f n.before before is.look.going in
    let b = same_arrived token now f n.before before is.look.going is.look.phase in
    let c = is.some in
    record { look = first_look token call.Poll now n f g before afterwards is.look; some = omega arith }

all_here : (token : ℕ) (c : Call) (now : ℕ) → Tells_ (AreAllHere token c now) (AreAllHere token c now)
all_here token c now n f g before afterwards is = record {
  look = first_look token c now n f g before afterwards is.look;
  all =
      same_arrived token now f n.before before is.look.going is.look.phase
      ∙ (is.all ∙ sym (same_members token f n.before before is.look.going));
}

waiting : (token : ℕ) (c : Call) → Tells_ (λ n. AreAllHere token c n.before.phase n) (λ n. AreAllHere token c n.before.phase n)
waiting token c n f g before afterwards is =
    subst (λ (p : ℕ). AreAllHere token c p (beside n f g)) (sym before.phase) (all_here token c n.before.phase n f g before afterwards is)

has_passed : (token now : ℕ) → Tells_ (HasPassed token now) (HasPassed token now)
has_passed token now n f g before afterwards is = record {
  look = first_look token call.Poll now n f g before afterwards is.look;
  next = is.next;
  all = is.all;
}

has_ended : (token : ℕ) (number : _) → Tells_ (HasEnded token number) (HasEnded token number)
has_ended token number n f g before afterwards is = record {
  ended = afterwards.ended ∙ is.ended;
  shows = ap (λ p. shown_of p g.ended) afterwards.phase ∙ (ap (λ b. shown_of n.afterwards.phase b) afterwards.ended ∙ is.shows);
}

-- there is no member in the one if there is none in the other
none_too : (ms ns : List Member) → ((owner : ℕ) → members_of owner ms ≡ members_of owner ns) → length ns ≡ 0 → length ms ≡ 0
none_too [] ns same e = refl
none_too (m ∷ ms) [] same e = absurd (
    let a = count_cons (is_owned m.owner) m ms in
    let b : cond {A = ℕ} (is_owned m.owner m) 1 0 ≡ 1 = ap (λ x. cond {A = ℕ} x 1 0) (eq-eqb m.owner m.owner refl) in
    let c : members_of m.owner (m ∷ ms) ≡ 0 = same m.owner in omega arith)
none_too (m ∷ ms) (n ∷ ns) same e = absurd (omega arith)

makes_due : (token now parties : ℕ) → Tells_ (MakesDue token now parties) (MakesDue token now parties)
makes_due token now parties n f g before afterwards is =
    let alike : IsAlike g n.afterwards = afterwards.going (afterwards.ended ∙ is.going) in
    record {
      going = afterwards.ended ∙ is.going;
      due = alike.due ∙ is.due;
      phase = afterwards.phase ∙ is.phase;
      root = is.root;
      nobody = (
        (λ e. none_too g.members n.afterwards.members alike.members (is.nobody.0 e)),
        (λ e. is.nobody.1 (none_too n.afterwards.members g.members (λ o. sym (alike.members o)) e)),
      );
    }

is_cause : (token now : ℕ) (n : Moment) (f g : Flat) (why : Cause) → IsCause token now n why → IsCause token now (beside n f g) why
is_cause token now n f g cause.BeingOpened is = is
is_cause token now n f g cause.AllArrived is = (record { below = is.0.below; arrived = is.0.arrived }, is.1)
is_cause token now n f g cause.Lagging is = (record { below = is.0.below; arrived = is.0.arrived }, is.1)
is_cause token now n f g cause.Advancing is = is

held_by : (token : ℕ) (c : Call) (now : ℕ) (why : Cause) → Tells_ (IsHeldBy token c now why) (IsHeldBy token c now why)
held_by token c now why n f g before afterwards is = record {
  tier = is.tier;
  claimed = is.claimed;
  size = is.size;
  refusal = record { call = is.refusal.call; kind = is.refusal.kind; next = is.refusal.next };
  capacity = is.capacity;
  cause = is_cause token now n f g why is.cause;
}

full_with : (c : Call) (parties : ℕ) → Tells_ (IsFullWith c parties) (IsFullWith c parties)
full_with c parties n f g before afterwards is = record {
  tier = is.tier;
  claimed = is.claimed;
  size = is.size;
  refusal = record { call = is.refusal.call; kind = is.refusal.kind; next = is.refusal.next };
  here = is.here;
  many = is.many;
}

seen_alike : (ms ns : List Moment) → Alikes ms ns → last_seen ms ≡ last_seen ns
seen_alike [] [] h = refl
seen_alike [] (n ∷ ns) h = absurd h
seen_alike (m ∷ ms) [] h = absurd h
seen_alike (m ∷ ms) (n ∷ ns) h =
    ap (λ (x : Moment). cond (sees_root x.turn.tier x.turn.kind) x.before.phase (last_seen ms)) h.0.is
    ∙ (ap (λ p. cond (sees_root n.turn.tier n.turn.kind) p (last_seen ms)) h.0.before.phase
    ∙ ap (λ p. cond (sees_root n.turn.tier n.turn.kind) n.before.phase p) (seen_alike ms ns h.1))

done_alike : (token : ℕ) (c : Call) (now : ℕ) (ms ns : List Moment) → Alikes ms ns → IsDoneIn token c now ns → IsDoneIn token c now ms
done_alike token (call.Join tier size) now ms ns h d =
    any_alike (IsCounted token (call.Join tier size) now) (IsCounted token (call.Join tier size) now)
    (counted token (call.Join tier size) now) ms ns h d
done_alike token call.Arrive now ms ns h d =
    any_alike (IsCounted token call.Arrive now) (IsCounted token call.Arrive now) (counted token call.Arrive now) ms ns h d
done_alike token call.Leave now ms ns h d =
    any_alike (IsCounted token call.Leave now) (IsCounted token call.Leave now) (counted token call.Leave now) ms ns h d
done_alike token call.Poll now ms ns h d = any_alike (IsAwaiting token now) (IsAwaiting token now) (awaiting token now) ms ns h d
done_alike token call.Force now ms ns h d = d

tells_alike : (token : ℕ) (c : Call) (m n : Moment) (past past' : List Moment) (a : Played) → Alike m n → Alikes past past'
    → Tells token c n past' a → Tells token c m past a
tells_alike token c m n past past' GoesOn one h t = carried (λ (x : Moment). Tells token c x past GoesOn) m n one t
tells_alike token c m n past past' (Done phase) one h t = done_alike token c phase (m ∷ past) (n ∷ past') (one, h) t
tells_alike token c m n past past' (Passed phase) one h t =
    any_alike (HasPassed token phase) (HasPassed token phase) (has_passed token phase) (m ∷ past) (n ∷ past') (one, h) t
tells_alike token c m n past past' Waiting one h t =
    any_alike (λ x. AreAllHere token c x.before.phase x) (λ x. AreAllHere token c x.before.phase x) (waiting token c) (m ∷ past) (n ∷ past')
    (one, h) t
tells_alike token c m n past past' (Held phase why) one h t = (
  t.0 ∙ sym (seen_alike (m ∷ past) (n ∷ past') (one, h)),
  any_alike (IsHeldBy token c phase why) (IsHeldBy token c phase why) (held_by token c phase why) (m ∷ past) (n ∷ past') (one, h) t.1,
)
tells_alike token c m n past past' (Full parties) one h t =
    any_alike (IsFullWith c parties) (IsFullWith c parties) (full_with c parties) (m ∷ past) (n ∷ past') (one, h) t
tells_alike token c m n past past' (AlreadyArrived phase) one h t =
    any_alike (AreAllHere token c phase) (AreAllHere token c phase) (all_here token c phase) (m ∷ past) (n ∷ past') (one, h) t
tells_alike token c m n past past' (Ended number) one h t =
    any_alike (HasEnded token number) (HasEnded token number) (has_ended token number) (m ∷ past) (n ∷ past') (one, h) t
tells_alike token c m n past past' (MustAdvance phase parties) one h t =
    carried (λ (x : Moment). Tells token c x past (MustAdvance phase parties)) m n one
    (t.0, makes_due token phase parties n one.before_ one.after_ one.before one.afterwards t.1)

pub latest_alike : (token : ℕ) (c : Call) (ms ns : List Moment) → Alikes ms ns → LatestTells token c ns → LatestTells token c ms
latest_alike token c [] [] h t = tt
latest_alike token c [] (n ∷ ns) h t = absurd h
latest_alike token c (m ∷ ms) [] h t = absurd h
latest_alike token c (m ∷ ms) (n ∷ ns) h t =
    let turn : m.turn ≡ n.turn = ap (λ (x : Moment). x.turn) h.0.is in
    record {
      tells = subst (λ (r : Turn). Tells token c m ms r.answer) (sym turn) (tells_alike token c m n ms ns n.turn.answer h.0 h.1 t.tells);
      ends = subst (λ (r : Turn). is_last r.answer ≡ true → r.next ≡ Idle) (sym turn) t.ends;
    }

pub as_many : (ms ns : List Moment) → Alikes ms ns → length ms ≡ length ns
as_many [] [] h = refl
as_many [] (n ∷ ns) h = absurd h
as_many (m ∷ ms) [] h = absurd h
as_many (m ∷ ms) (n ∷ ns) h = let a = as_many ms ns h.1 in omega arith

-- the flat phasers of moments look like the tree
abbrev AllLike : ℕ → List Moment → Type 0
AllLike i ms = AllByRecursion (LooksLikeTheTree i) ms

append_all : (i : ℕ) (ms past : List Moment) → AllLike i ms → AllLike i past → AllLike i (ms ++ past)
append_all i [] past h k = k
append_all i (m ∷ ms) past h k = (h.0, append_all i ms past h.1 k)

one_like : (i j : ℕ) (g : Bool) (m : Moment) → (g ≡ true → LooksLikeTheTree j m) → AllLike i (cond (eqb j i) (cond g (m ∷ []) []) [])
one_like i j true m h = by_test (λ b. b ≡ eqb j i → AllLike i (cond b (m ∷ []) [])) (eqb j i)
    (λ e _. (subst (λ (k : ℕ). LooksLikeTheTree k m) (eqb-true j i e) (h refl), tt)) (λ _ _. tt) refl
one_like i j false m h = by_test (λ b. AllLike i (cond b [] [])) (eqb j i) (λ _. tt) (λ _. tt)

turn_like : (s : State) (f : Flat) (j : ℕ) (r : Turn) → IsCore s → LooksAlike f (flat_of s) → j < length s.views → MayPlay s j r
    → LooksLikeTheTree j (moment_of j s f r)
turn_like s f j r core alike h may = record { before = alike; afterwards = (played_flat s j r f core h may alike).1 }

own_like : (i : ℕ) (s : State) (f : Flat) (x : Step) → IsCore s → LooksAlike f (flat_of s) → AllLike i (own_turn i s f x)
own_like i s f (Begin j c) core alike = tt
own_like i s f (Go j) core alike = one_like i j (may_go s j) (moment_of j s f (turn_at s j))
    (λ e. let a = known_active s j e in turn_like s f j (turn_at s j) core alike a.0 (turn_may s j core a.0 a.1))
own_like i s f (Finish j) core alike = one_like i j (may_finish s j) (moment_of j s f (finish_at s j (plan_ends s)))
    (λ e. let a = known_due s j e in
    turn_like s f j (finish_at s j (plan_ends s)) core alike a.0 (finish_may s j (plan_ends s) core a.0 a.1))

all_like : (i : ℕ) (events : List Event) (s : State) (f : Flat) (past : List Moment) → IsCore s → AreEvents events
    → LooksAlike f (flat_of s)
    → AllLike i past → AllLike i (moments i events s f past)
all_like i [] s f past core are alike h = h
all_like i (Takes x ∷ events) s f past core are alike h =
    let one = step_moves s x f core are.0 alike in
    all_like i events (after s x) (labelled (step_label s x) f) (own_turn i s f x ++ past) one.2 are.1 one.1
    (append_all i (own_turn i s f x) past (own_like i s f x core alike) h)
all_like i (Enters ∷ events) s f past core are alike h =
    all_like i events (with_token s) f past (token_core s core) are (subst (λ (g : Flat). LooksAlike f g) (sym (same_flat s)) alike) h

pub moments_look_like_the_tree : MomentsLookLikeTheTree
moments_look_like_the_tree s i events f core are alike = all_like i events s f [] core are alike tt
