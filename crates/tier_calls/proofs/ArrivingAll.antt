-- What each of several tokens did.
use Rattle.std.proofs.Common.{◌≡◌, ◌≢◌, ℕ, zero, suc, ◌+◌, ◌<◌, ◌≤◌, inl, ⊎_elim, Bool, true, false, cond, Option, Some, None, List, [], ◌∷◌, ◌==◌, length, refl, ap, sym, ◌∙◌, subst, arith, ne_eqb}
use Rattle.std.specs.Prelude.{MatchOption}
use Rattle.atomic_table.specs.Table.{Me}
use Rattle.atomic_table.specs.Seated.{TableId}
use Rattle.phaser_word.specs.Fields.{Fields, IsLegal}
use Rattle.tier_core.specs.declared.call.Turn.{Turn}
use Rattle.tier_core.specs.Turn.{lags, turn_by}
use Rattle.tier_core.specs.declared.call.Progress.TheVariants.{Passing}
use Rattle.tier_core.proofs.Turns.{one_word_is_enough}
use Rattle.tier_steps.specs.declared.view.View.{View}
use Rattle.tier_steps.specs.declared.view.Errand.TheVariants.{Rest}
use Rattle.tier_steps.specs.declared.view.Passage.TheVariants.{Arrival}
use Rattle.tier_steps.specs.declared.kind.Kind.{Kind}
use Rattle.tier_steps.specs.declared.kind.Kind.TheVariants.{Arrive, Refresh}
use Rattle.tier_steps.specs.Tally.{word_at}
use Rattle.tier_steps.specs.Step.{Needs, CanPass, CanRefresh, looked, moved, dropped, IsRunnable}
use Rattle.tier_rule.specs.declared.sight.Key.{Key}
use Rattle.tier_rule.specs.declared.sight.Sight.{Sight}
use Rattle.tier_rule.specs.Look.{glance}
use Rattle.tier_rule.specs.Reach.{those}
use Rattle.tier_rule.specs.Tell.{Beside}
use Rattle.tier_rule.specs.Group.{stepped_sight, AreAlike, Among, Goes, stays, moves, all_stepped, looked_all}
use Rattle.tier_calls.specs.Holding.{Named, Holding, first_of, no_sight, sight_of, sight_held}
use Rattle.tier_calls.specs.LastOnes.{tokens_in, Others, LastArrived}
use Rattle.tier_calls.specs.Made.{MadeOnly, is_quiet, is_upward, HasLooked, HasStepped}
use Rattle.tier_calls.specs.Passes.{IsFresh}
use Rattle.tier_calls.proofs.Passing.{looked_fresh}
use Rattle.tier_calls.proofs.Settling.{looked_first, looked_same, none_of, end_found}
use Rattle.tier_core.proofs.Turns.{not_both}
use Rattle.tier_steps.proofs.KindLaw.{mine}
use Rattle.tier_calls.specs.Waited.{AllSawAdvance, AllSawEnd}
use Rattle.tier_rule.proofs.Ends.{each_end_has_a_cause}
use Rattle.tier_rule.proofs.Waited.{looked_where, each_token_is_waited_for}
use Rattle.tier_calls.specs.Groups.{GroupHeld, group_of, IsOne, AreSeated, glanced, AllLooked, MayGo, HaveGone, HaveLost, AllArrived, AllLost, first_stepped}
use Rattle.tier_calls.specs.Arrives.{IsLooked}
use Rattle.tier_calls.specs.ArrivesWith.{FirstLook}
use Rattle.tier_calls.specs.declared.groups.TriedAll.{TriedAll}
use Rattle.tier_calls.specs.declared.groups.TriedAll.TheVariants as tried
use Rattle.tier_calls.specs.Splits.{AreTogether}
use Rattle.tier_calls.specs.ArrivesAll.{Each, Did, HasSpent, OnlyLooks, ArrivesOnce, Looks, StillHere, AllHere, KeepsAll, KeepsSoon, CountsAll, CountsLast, TriesAll, HavePassed, AllPassedOn}
use Rattle.std.proofs.lemmas.Bool.{cases_eq}
use Rattle.phaser_word.specs.Phase.{next_phase_of}
use Rattle.tier_calls.proofs.Making.{made_more, made_none, made_then, glance_quiet}
use Rattle.tier_calls.proofs.Seating.{runnable, legal_word}
use Rattle.tier_calls.proofs.Waits.{lags_parts}
use Rattle.tier_calls.proofs.Grouping.{alike_own, unled, looked_cases, all_looked}
use Rattle.tier_calls.proofs.LastOnes.{front_beside}
use Rattle.tier_calls.proofs.Arrivals.{enough}

abbrev Seat : Type 0
Seat = Me Kind (List Sight)

pub each_looked : (t : ℕ) (w : Fields) (tries : ℕ) (l : List Sight) → Each (Did OnlyLooks tries) l (looked_all t w tries l)
each_looked t w tries [] = tt
each_looked t w tries (x ∷ xs) = (
  record {
    key = refl;
    tried = omega arith;
    since = omega arith;
    steps = made_more is_quiet (glance t) x.steps x.steps (glance_quiet t) (made_none is_quiet x.steps);
    opened = refl;
  },
  each_looked t w tries xs,
)

pub each_came : (t : ℕ) (v : View) (w : Fields) (l : List Sight) → Each (Did ArrivesOnce 1) l (all_stepped Arrive 1 t v w l)
each_came t v w [] = tt
each_came t v w (x ∷ xs) = (
  record { key = refl; tried = omega arith; since = omega arith; steps = (x.steps, made_none is_quiet x.steps, refl); opened = refl },
  each_came t v w xs,
)

each_still : (tries : ℕ) (l : List Sight) → Each (Did OnlyLooks tries) l l
each_still tries [] = tt
each_still tries (x ∷ xs) = (
  record { key = refl; tried = omega arith; since = omega arith; steps = made_none is_quiet x.steps; opened = refl },
  each_still tries xs,
)

pub each_first : (t : ℕ) (w : Fields) (l : List Sight) → Each (Did OnlyLooks 1) l (first_stepped Refresh t w l)
each_first t w [] = tt
each_first t w (x ∷ xs) = (
  record {
    key = refl;
    tried = omega arith;
    since = omega arith;
    steps = made_more is_quiet Refresh x.steps x.steps refl (made_none is_quiet x.steps);
    opened = refl;
  },
  each_still 1 xs,
)

pub each_then : (P Q R : List Kind → List Kind → Type 0) (m n o : ℕ) → ((a b c : List Kind) → P a b → Q b c → R a c) → m + n ≤ o
    → (xs ys zs : List Sight) → Each (Did P m) xs ys → Each (Did Q n) ys zs → Each (Did R o) xs zs
each_then P Q R m n o both few [] [] [] a b = tt
each_then P Q R m n o both few [] [] (z ∷ zs) a b = absurd b
each_then P Q R m n o both few [] (y ∷ ys) zs a b = absurd a
each_then P Q R m n o both few (x ∷ xs) [] zs a b = absurd a
each_then P Q R m n o both few (x ∷ xs) (y ∷ ys) [] a b = absurd b
each_then P Q R m n o both few (x ∷ xs) (y ∷ ys) (z ∷ zs) a b =
    let p = a.0.tried in
    let q = b.0.tried in
    let r = a.0.since in
    let s = b.0.since in (
      record {
        key = b.0.key ∙ a.0.key;
        tried = omega arith;
        since = omega arith;
        steps = both x.steps y.steps z.steps a.0.steps b.0.steps;
        opened = b.0.opened ∙ a.0.opened;
      },
      each_then P Q R m n o both few xs ys zs a.1 b.1,
    )

pub each_long : (R : Sight → Sight → Type 0) (xs ys : List Sight) → Each R xs ys → length ys ≡ length xs
each_long R [] [] e = refl
each_long R [] (y ∷ ys) e = absurd e
each_long R (x ∷ xs) [] e = absurd e
each_long R (x ∷ xs) (y ∷ ys) e = let a = each_long R xs ys e.1 in omega arith

pub waits_waits : (a b c : List Kind) → OnlyLooks a b → OnlyLooks b c → OnlyLooks a c
waits_waits a b c p q = made_then is_quiet p q

pub waits_comes : (a b c : List Kind) → OnlyLooks a b → ArrivesOnce b c → ArrivesOnce a c
waits_comes a b c p q = (q.0, made_then is_quiet p q.1, q.2)

-- a look by a token that is to arrive moves nobody
pub glanced_here : (t : ℕ) (w : Fields) (v : View) → v.arrived ≢ v.size → StillHere v (glanced t w v)
glanced_here (suc t) w v some' = record { same = record { tier = refl; size = refl; phase = refl; arrived = refl }; unled = λ e. e }
glanced_here zero w v some' = go w.ended (v.arrived == v.size) (v.phase == w.phase) (ne_eqb v.arrived v.size some')
  where
    go : (e g h : Bool) → g ≡ false
        → StillHere v
        (cond e (record (unled v) { end_seen = Some w.phase; errand = dropped v.errand }) (cond g (cond h (unled v) (record (unled v) { phase = w.phase; arrived = 0 })) (unled v)))
    go true g h n = record { same = record { tier = refl; size = refl; phase = refl; arrived = refl }; unled = λ e. refl }
    go false false h n = record { same = record { tier = refl; size = refl; phase = refl; arrived = refl }; unled = λ e. refl }
    go false true h n = absurd (let a = sym n in cc)

pub yet : (v : View) → IsOne v → v.arrived ≡ 0 → v.arrived ≢ v.size
yet v one none e = let a = one.one in omega arith

pub glanced_below : (t : ℕ) (w : Fields) (v : View) → 0 < t → glanced t w v ≡ v
glanced_below zero w v h = absurd (omega arith)
glanced_below (suc t) w v h = refl

-- how many tries the first token made
pub spent_looks : (t : ℕ) (w : Fields) (tries : ℕ) (l : List Sight) → 0 < length l → HasSpent tries l (looked_all t w tries l)
spent_looks t w tries [] h = absurd (omega arith)
spent_looks t w tries (x ∷ xs) h = refl

pub all_spent : (t : ℕ) (w : Fields) (tries : ℕ) (l m : List Sight) → 0 < length l → m ≡ looked_all t w tries l → HasSpent tries l m
all_spent t w tries l m h is = subst (HasSpent tries l) (sym is) (spent_looks t w tries l h)

spent_first : (t : ℕ) (w : Fields) (l : List Sight) → 0 < length l → HasSpent 1 l (first_stepped Refresh t w l)
spent_first t w [] h = absurd (omega arith)
spent_first t w (x ∷ xs) h = refl

spent_then : (m n o : ℕ) (xs ys zs : List Sight) → m + n ≡ o → HasSpent m xs ys → HasSpent n ys zs → HasSpent o xs zs
spent_then m n o xs ys zs few a b = omega arith

spent_none : (P : List Kind → List Kind → Type 0) (xs ys : List Sight) → Each (Did P 0) xs ys → HasSpent 0 xs ys
spent_none P [] [] a = refl
spent_none P [] (y ∷ ys) a = absurd a
spent_none P (x ∷ xs) [] a = absurd a
spent_none P (x ∷ xs) (y ∷ ys) a = let t = a.0.tried in let s = a.0.since in omega arith

pub looked_keeps : {t : ℕ} {w : Fields} {tries : ℕ} {old new : GroupHeld} → t ≡ old.view.tier → old.view.arrived ≢ old.view.size
    → AllLooked t w tries old new → KeepsAll tries old new
looked_keeps {t} {w} {tries} {old} {new} here some' r = record {
  below = λ h. r.view ∙ glanced_below t w old.view (omega arith);
  tree = r.tree;
  view = subst (StillHere old.view) (sym r.view) (glanced_here t w old.view some');
  tokens = subst (Each (Did OnlyLooks tries) old.tokens) (sym r.looked.all) (each_looked t w tries old.tokens);
  spent = all_spent t w tries old.tokens new.tokens r.was.some r.looked.all;
}

still_then : (a b c : View) → StillHere a b → StillHere b c → StillHere a c
still_then a b c p q =
    let s = p.same in let r = q.same in
    record {
      same = record { tier = r.tier ∙ s.tier; size = r.size ∙ s.size; phase = r.phase ∙ s.phase; arrived = r.arrived ∙ s.arrived };
      unled = λ e. q.unled (p.unled e);
    }

pub keeps_then : {a b c : GroupHeld} (m n o : ℕ) → m + n ≡ o → KeepsAll m a b → KeepsAll n b c → KeepsAll o a c
keeps_then {a} {b} {c} m n o few p q = record {
  tree = q.tree ∙ p.tree;
  view = still_then a.view b.view c.view p.view q.view;
  below = λ h. q.below (let t = p.view.same.tier in omega arith) ∙ p.below h;
  tokens = each_then OnlyLooks OnlyLooks OnlyLooks m n o waits_waits (omega arith) a.tokens b.tokens c.tokens p.tokens q.tokens;
  spent = spent_then m n o a.tokens b.tokens c.tokens few p.spent q.spent;
}

-- what a token may do that looks at the tier of its members, which are to arrive
kind_of_cond : (c : Bool) (A B : Turn) → c ≡ false → (cond c A B).kind ≡ B.kind
kind_of_cond c A B e = ap (λ (b : Bool). (cond b A B).kind) e

pass_kind : (ps : List ℕ) (w : Fields) (v : View) → w.ended ≡ false → lags w v ≡ false
    → (turn_by ps false w (Passing Arrival) v).kind ≡ Arrive
pass_kind ps w v e b = kind_of_cond w.ended _ _ e ∙ kind_of_cond (lags w v) _ _ b

pass_here : (ps : List ℕ) (t : ℕ) (w : Fields) (v : View) → Beside ps t w v → v.tier ≡ t → v.errand ≡ Rest → v.arrived < v.size
    → w.ended ≡ false → lags w v ≡ false → CanPass t w v
pass_here ps t w v b own rests some' going keeps =
    let q : CanPass v.tier (word_at b.words v.tier) v =
    let here : word_at b.words v.tier ≡ w = ap (word_at b.words) own ∙ b.word in
    let n = one_word_is_enough ps b.words b.front v b.back (Passing Arrival) false b.shape.shape b.tally refl (rests, some') in
    subst (λ (k : Kind). Needs ps k v.tier (word_at b.words v.tier) v)
    (pass_kind ps (word_at b.words v.tier) v (ap (λ (z : Fields). z.ended) here ∙ going) (ap (λ (z : Fields). lags z v) here ∙ keeps))
    n.next.needs in
    record {
      rest = rests;
      own = own;
      going = going;
      current = ap (λ (z : Fields). z.phase) (sym (ap (word_at b.words) own ∙ b.word)) ∙ q.current;
      unarrived = some';
    }

pub among_beside : (k : Key) (t : ℕ) (w : Fields) (v : View) (l : List Sight) → Among k.shape t w (those l) → AreAlike k v l → 0 < length l
    → Beside k.shape t w v
among_beside k t w v [] a alike h = absurd (omega arith)
among_beside k t w v (x ∷ xs) a alike h = subst (Beside k.shape t w) alike.0.1 (front_beside k t w x xs a)

pub may_pass : (k : Key) (t : ℕ) (w : Fields) (v : View) (l : List Sight) → Among k.shape t w (those l) → AreAlike k v l → 0 < length l
    → v.tier ≡ t → IsOne v → v.arrived ≡ 0 → w.ended ≡ false → lags w v ≡ false → CanPass t w v
may_pass k t w v l a alike some' own one none going keeps =
    pass_here k.shape t w v (among_beside k t w v l a alike some') own one.rests (let x = one.one in omega arith) going keeps

pub may_refresh_all : (t : ℕ) (w : Fields) (v : View) → v.tier ≡ t → IsOne v → v.arrived ≡ 0 → lags w v ≡ true → CanRefresh t w v
may_refresh_all t w v own one none behind =
    let p = lags_parts w v behind in
    record { some = p.0; arrived = p.1; behind = p.2; leave = inl (one.rests, own, (let x = one.one in omega arith)) }

-- the first token brings its tier into its phase
refresh_goes : (k : Key) (t : ℕ) (w : Fields) (v : View) (l : List Sight) → 0 < length l → AreAlike k v l → CanRefresh t w v
    → Goes k t w l (record w { phase = v.phase; unarrived = w.parties }) (first_stepped Refresh t w l)
refresh_goes k t w v [] h alike can = absurd (omega arith)
refresh_goes k t w v (x ∷ xs) h alike can =
    let y : Sight = stepped_sight Refresh t w 1 x in
    moves w (record w { phase = v.phase; unarrived = w.parties }) x xs (y ∷ xs) Refresh 1 (subst (CanRefresh t w) (sym alike.0.1) can) tt
    alike.0.0 (record { few = omega arith; changes = λ c j. refl })
    (subst
    (λ (u : View). Goes k t (record w { phase = u.phase; unarrived = w.parties }) (y ∷ xs) (record w { phase = v.phase; unarrived = w.parties }) (y ∷ xs))
    (sym alike.0.1) (stays (record w { phase = v.phase; unarrived = w.parties }) (y ∷ xs)))

pub crowd_alike : {id : TableId} {me : Seat} {v : View} {count : ℕ} {h : GroupHeld} {n : Named} → AreSeated me v count
    → group_of id me v ≡ h → h.tree ≡ n → AreAlike n.key v me.0
crowd_alike {id} {me} {v} {count} {h} {n} seated is own =
    subst (λ (z : Key). AreAlike z v me.0) (ap (λ (z : GroupHeld). z.tree.key) is ∙ ap (λ (z : Named). z.key) own) seated.alike

pub refresh_may : {id : TableId} {me : Seat} {v : View} {count : ℕ} {h : GroupHeld} {n : Named} {w next : Fields} → AreSeated me v count
    → group_of id me v ≡ h → h.tree ≡ n → IsLegal w → CanRefresh h.view.tier w h.view
    → next ≡ record w { phase = v.phase; unarrived = w.parties } → MayGo n.key v.tier w next me (first_stepped Refresh v.tier w me.0)
refresh_may {id} {me} {v} {count} {h} {n} {w} {next} seated is own legal can to =
    let alike = crowd_alike {id = id} {me = me} seated is own in record {
      bare = seated.bare;
      legal = legal;
      own = alike_own n.key v me.0 alike;
      goes = subst (λ (z : Fields). Goes n.key v.tier w me.0 z (first_stepped Refresh v.tier w me.0)) (sym to)
          (refresh_goes n.key v.tier w v me.0 (let a = seated.long in let b = seated.some in omega arith) alike (subst (λ (z : GroupHeld). CanRefresh z.view.tier w z.view) (sym is) can));
    }

pub refresh_runs : {id : TableId} {me : Seat} {v : View} {count : ℕ} {h : GroupHeld} {n : Named} {w : Fields} → AreSeated me v count
    → group_of id me v ≡ h → h.tree ≡ n → Among n.key.shape h.view.tier w (those h.tokens) → CanRefresh h.view.tier w h.view
    → IsRunnable Refresh v.tier w v × IsLegal w
refresh_runs {id} {me} {v} {count} {h} {n} {w} seated is own among can =
    let alike = crowd_alike {id = id} {me = me} seated is own in
    let a : Among n.key.shape v.tier w (those me.0) =
    subst (λ (z : GroupHeld). Among n.key.shape z.view.tier w (those z.tokens)) (sym is) among in
    let b = among_beside n.key v.tier w v me.0 a alike (let x = seated.long in let y = seated.some in omega arith) in (
      runnable n.key.shape Refresh v.tier w v b (subst (λ (z : GroupHeld). CanRefresh z.view.tier w z.view) (sym is) can),
      legal_word n.key.shape v.tier w v b,
    )

first_long : (kind : Kind) (t : ℕ) (w : Fields) (l : List Sight) → length (first_stepped kind t w l) ≡ length l
first_long kind t w [] = refl
first_long kind t w (x ∷ xs) = refl

first_keys : (kind : Kind) (t : ℕ) (w : Fields) (l : List Sight)
    → (first_of no_sight (first_stepped kind t w l)).key ≡ (first_of no_sight l).key
first_keys kind t w [] = refl
first_keys kind t w (x ∷ xs) = refl

refreshed_alike : (k : Key) (t : ℕ) (w : Fields) (v : View) (l : List Sight) → AreAlike k v l → AreAlike k v (first_stepped Refresh t w l)
refreshed_alike k t w v [] alike = tt
refreshed_alike k t w v (x ∷ xs) alike = alike

refreshed_key : (t : ℕ) (w : Fields) (me me' : Seat) → me'.0 ≡ first_stepped Refresh t w me.0 → (sight_of me').key ≡ (sight_of me).key
refreshed_key t w me me' is = ap (λ (l : List Sight). (first_of no_sight l).key) is ∙ first_keys Refresh t w me.0

pub refreshed_crowd : {k : Key} {me me' : Seat} {v : View} {count : ℕ} {w next : Fields} → AreSeated me v count
    → HaveGone k v.tier w next me me' (first_stepped Refresh v.tier w me.0) → AreSeated me' v count
refreshed_crowd {k} {me} {me'} {v} {count} {w} {next} seated g =
    let key = refreshed_key v.tier w me me' g.now in record {
      bare = g.bare;
      long = ap length g.now ∙ (first_long Refresh v.tier w me.0 ∙ seated.long);
      some = seated.some;
      alike =
          subst (λ (z : Key). AreAlike z v me'.0) (sym key)
          (subst (AreAlike (sight_of me).key v) (sym g.now) (refreshed_alike (sight_of me).key v.tier w v me.0 seated.alike));
      view = seated.view;
    }

pub still : (v : View) → StillHere v v
still v = record { same = record { tier = refl; size = refl; phase = refl; arrived = refl }; unled = λ e. e }

pub refreshed_keeps : {id one : TableId} {k : Key} {v : View} {count : ℕ} {h : GroupHeld} {w next : Fields} (me me' : Seat)
    → AreSeated me v count → group_of id me v ≡ h → one ≡ id → HaveGone k v.tier w next me me' (first_stepped Refresh v.tier w me.0)
    → KeepsAll 1 h (group_of one me' v)
refreshed_keeps {id} {one} {k} {v} {count} {h} {w} {next} me me' seated is same g =
    let key = refreshed_key v.tier w me me' g.now in
    let a : KeepsAll 1 (group_of id me v) (group_of one me' v) = record {
      tree = λ i. record { id = same i; key = key i };
      view = still v;
      below = λ h. refl;
      tokens = subst (Each (Did OnlyLooks 1) me.0) (sym g.now) (each_first v.tier w me.0);
      spent = subst (HasSpent 1 me.0) (sym g.now) (spent_first v.tier w me.0 (let a = seated.long in let b = seated.some in omega arith));
    } in
    subst (λ (z : GroupHeld). KeepsAll 1 z (group_of one me' v)) is a

-- a lost try of all tokens
pub lost_keeps : {id one : TableId} {v u : View} {count : ℕ} {h : GroupHeld} {n : Named} {w z : Fields} (me me' : Seat)
    → AreSeated me v count → group_of id me v ≡ h → h.tree ≡ n → h.view.arrived ≡ 0 → one ≡ id → HaveLost n.key v.tier w z me me'
    → u ≡ glanced v.tier z v
    → KeepsAll 1 h (group_of one me' u)
lost_keeps {id} {one} {v} {u} {count} {h} {n} {w} {z} me me' seated is own none same lost at =
    let key : (sight_of me).key ≡ n.key = ap (λ (y : GroupHeld). y.tree.key) is ∙ ap (λ (y : Named). y.key) own in
    let r : AllLooked v.tier z 1 h (group_of one me' u) = all_looked me me' seated lost.bare is key same lost.looked at in
    looked_keeps (ap (λ (y : GroupHeld). y.view.tier) is)
    (let a : v.arrived ≡ 0 = ap (λ (y : GroupHeld). y.view.arrived) is ∙ none in
    λ e. yet v seated.view a (subst (λ (y : GroupHeld). y.view.arrived ≡ y.view.size) (sym is) e))
    r

-- what a word found by all tells of it
pub last_count : {t : ℕ} {w : Fields} {old new : GroupHeld} → AllLooked t w 0 old new → CanPass t w new.view
    → length new.tokens ≤ w.unarrived
last_count {t} {w} {old} {new} r can =
    enough new.tree.key t w new.view new.tokens
    (subst (λ (z : Named). Among z.key.shape t w (those new.tokens)) (sym r.tree) r.looked.after) r.group.alike can r.group.view
    r.group.some

pub may_pass_all : {t : ℕ} {w : Fields} {old new : GroupHeld} → AllLooked t w 0 old new → new.view.tier ≡ t → new.view.arrived ≡ 0
    → w.ended ≡ false → lags w new.view ≡ false → CanPass t w new.view
may_pass_all {t} {w} {old} {new} r own none going keeps =
    may_pass new.tree.key t w new.view new.tokens
    (subst (λ (z : Named). Among z.key.shape t w (those new.tokens)) (sym r.tree) r.looked.after) r.group.alike r.group.some own
    r.group.view none going keeps

-- the members have arrived
pub arrived_counts : {w : Fields} {old new : GroupHeld} → old.view.arrived ≡ 0 → AllArrived w old new → CountsAll ArrivesOnce 1 old new
arrived_counts {w} {old} {new} none r = record {
  tree = r.tree;
  view = subst (AllHere old.view) (sym r.view) (record { tier = refl; size = refl; phase = refl; arrived = refl; unled = λ e. e });
  tokens = subst (Each (Did ArrivesOnce 1) old.tokens) (sym r.tokens) (each_came old.view.tier old.view w old.tokens);
}

pub here_then : (a b c : View) → StillHere a b → AllHere b c → AllHere a c
here_then a b c p q = let s = p.same in
    record {
      tier = q.tier ∙ s.tier;
      size = q.size ∙ s.size;
      phase = q.phase ∙ s.phase;
      arrived = q.arrived;
      unled = λ e. q.unled (p.unled e);
    }

pub counts_then : {a b c : GroupHeld} (m o : ℕ) → m + 1 ≤ o → KeepsAll m a b → CountsAll ArrivesOnce 1 b c → CountsAll ArrivesOnce o a c
counts_then {a} {b} {c} m o few p q = record {
  tree = q.tree ∙ p.tree;
  view = here_then a.view b.view c.view p.view q.view;
  tokens = each_then OnlyLooks ArrivesOnce ArrivesOnce m 1 o waits_comes few a.tokens b.tokens c.tokens p.tokens q.tokens;
}

others_here : (old : GroupHeld) (rest : Option GroupHeld) → Others old rest → (c : GroupHeld) → rest ≡ Some c
    → (c.tree ≡ old.tree) × AllHere old.view c.view
others_here old None a c is = absurd (let b = sym is in cc)
others_here old (Some d) a c is =
    let e : d ≡ c = ap (λ (o : Option GroupHeld). crowd_or d o) is in (
      ap (λ (z : GroupHeld). z.tree) (sym e) ∙ a.0,
      subst (AllHere old.view) (sym a.1 ∙ ap (λ (z : GroupHeld). z.view) e)
          (record { tier = refl; size = refl; phase = refl; arrived = refl; unled = λ e. e }),
    )
  where
    crowd_or : GroupHeld → Option GroupHeld → GroupHeld
    crowd_or d None = d
    crowd_or d (Some c) = c

pub last_counts : {w : Fields} {old : GroupHeld} {first : Holding} {rest : Option GroupHeld} → LastArrived w old first rest
    → CountsLast ArrivesOnce 1 old first rest
last_counts {w} {old} {first} {rest} r = record {
  tree = r.tree;
  view = subst (AllHere old.view) (sym r.view) (record { tier = refl; size = refl; phase = refl; arrived = refl; unled = λ e. e });
  tokens = subst (Each (Did ArrivesOnce 1) old.tokens) (sym r.tokens) (each_came old.view.tier old.view w old.tokens);
  others = others_here old rest r.others;
}

pub last_then : {a b : GroupHeld} {first : Holding} {rest : Option GroupHeld} (m o : ℕ) → m + 1 ≤ o → KeepsAll m a b
    → CountsLast ArrivesOnce 1 b first rest → CountsLast ArrivesOnce o a first rest
last_then {a} {b} {first} {rest} m o few p q = record {
  tree = q.tree ∙ p.tree;
  view = here_then a.view b.view first.view p.view q.view;
  tokens =
      each_then OnlyLooks ArrivesOnce ArrivesOnce m 1 o waits_comes few a.tokens b.tokens (sight_held first ∷ tokens_in rest) p.tokens
      q.tokens;
  others = λ c is. let r = q.others c is in (r.0 ∙ p.tree, here_then a.view b.view c.view p.view r.1);
}

-- of a load by all tokens that are to arrive
pub looked_yet : {t : ℕ} {w : Fields} {old new : GroupHeld} → AllLooked t w 0 old new → t ≡ old.view.tier → old.view.arrived ≡ 0
    → KeepsAll 0 old new
looked_yet {t} {w} {old} {new} r here none = looked_keeps here (yet old.view r.was.view none) r

pub none_now : {tries : ℕ} {old new : GroupHeld} → KeepsAll tries old new → old.view.arrived ≡ 0 → new.view.arrived ≡ 0
none_now {tries} {old} {new} k none = k.view.same.arrived ∙ none

pub ready : {t : ℕ} {w : Fields} {old new : GroupHeld} → AllLooked t w 0 old new → t ≡ old.view.tier → old.view.arrived ≡ 0
    → w.ended ≡ false → lags w new.view ≡ false → CanPass new.view.tier w new.view
ready {t} {w} {old} {new} r here none going keeps =
    let k = looked_yet r here none in
    let own : new.view.tier ≡ t = k.view.same.tier ∙ sym here in
    subst (λ (n : ℕ). CanPass n w new.view) (sym own) (may_pass_all r own (none_now k none) going keeps)

pub behind : {t : ℕ} {w : Fields} {old new : GroupHeld} → AllLooked t w 0 old new → t ≡ old.view.tier → old.view.arrived ≡ 0
    → lags w new.view ≡ true → CanRefresh new.view.tier w new.view
behind {t} {w} {old} {new} r here none lag =
    let k = looked_yet r here none in may_refresh_all new.view.tier w new.view refl r.group.view (none_now k none) lag

pub lost_after : {t : ℕ} {w z : Fields} {a b c : GroupHeld} → AllLooked t w 0 a b → t ≡ a.view.tier → a.view.arrived ≡ 0 → AllLost w z b c
    → KeepsAll 1 a c
lost_after {t} {w} {z} {a} {b} {c} r here none lost =
    let k = looked_yet r here none in
    keeps_then 0 1 1 refl k (looked_keeps refl (yet b.view r.group.view (none_now k none)) lost.looked)

-- a try by which nobody arrived last
pub early_tried : {t : ℕ} {w : Fields} {a b : GroupHeld} (c : GroupHeld) (r : TriedAll) (lost : Option Fields) → AllLooked t w 0 a b
    → t ≡ a.view.tier → a.view.arrived ≡ 0 → MatchOption lost (AllArrived w b c) (λ z. AllLost w z b c)
    → MatchOption lost (r ≡ tried.Done c) (λ z. r ≡ tried.Yet c) → TriesAll 1 a r
early_tried {t} {w} {a} {b} c r None l here none came is =
    let k = looked_yet l here none in
    subst (TriesAll 1 a) (sym is) (counts_then 0 1 (omega arith) k (arrived_counts (none_now k none) came))
early_tried {t} {w} {a} {b} c r (Some z) l here none lost is = subst (TriesAll 1 a) (sym is) (lost_after l here none lost)

-- only the root ends
pub end_shown_all : {t tries : ℕ} {w : Fields} {old new : GroupHeld} → AllLooked t w tries old new → w.ended ≡ true
    → new.view.end_seen ≡ Some w.phase
end_shown_all {t = zero} {tries} {w} {old} {new} r e =
    ap (λ (v : View). v.end_seen) r.view
    ∙ ap
    (λ (b : Bool). (cond b (record (unled old.view) { end_seen = Some w.phase; errand = dropped old.view.errand }) (moved w (unled old.view))).end_seen)
    e
end_shown_all {t = suc t} {tries} {w} {old} {new} r e =
    let b = r.looked.before in
    let f = b.tally.ends (suc t) (omega arith) b.within in
    absurd (let x : true ≡ false = sym e ∙ (ap (λ (z : Fields). z.ended) (sym b.word) ∙ f) in cc)

pub keeps_none : (c : GroupHeld) → KeepsAll 0 c c
keeps_none c = record { tree = refl; view = still c.view; below = λ h. refl; tokens = each_still 0 c.tokens; spent = omega arith }

pub keeps_soon : {a b : GroupHeld} (m n : ℕ) → m ≤ n → KeepsAll m a b → KeepsSoon n a b
keeps_soon m n h k = record { used = m; few = h; kept = k }

pub soon_then : {a b c : GroupHeld} (m n o : ℕ) → m + n ≤ o → KeepsAll m a b → KeepsSoon n b c → KeepsSoon o a c
soon_then m n o few p q = let h = q.few in
    record { used = m + q.used; few = omega arith; kept = keeps_then m q.used (m + q.used) refl p q.kept }

-- one more try, unless none of the members has arrived by it
pub comes_then : {a b : GroupHeld} (m o : ℕ) → m + 1 ≤ o → KeepsAll m a b → (r : TriedAll) → ((group : GroupHeld) → r ≢ tried.Yet group)
    → TriesAll 1 b r → TriesAll o a r
comes_then {a} {b} m o few k (tried.Yet group) other q = absurd (other group refl)
comes_then {a} {b} m o few k (tried.Done group) other q = counts_then m o few k q
comes_then {a} {b} m o few k (tried.Owing errand rest) other q = last_then m o few k q
comes_then {a} {b} m o few k (tried.Ended group word) other q = (soon_then m 1 o few k q.0, q.1, q.2)

pub first_tokens : (w : Fields) (l : List Sight) → Each (Did Looks 0) l (looked_all 0 w 0 l)
first_tokens w [] = tt
first_tokens w (x ∷ xs) = (record { key = refl; tried = omega arith; since = omega arith; steps = refl; opened = refl }, first_tokens w xs)

pub looked_unled : (w : Fields) (v : View) → (looked w v).led ≡ false
looked_unled w v = looked_cases (λ u. u.led ≡ false) w v (λ e. refl) (λ e. refl) (λ e. refl)

pub first_beside : {t : ℕ} {w : Fields} {old new : GroupHeld} → AllLooked t w 0 old new → Beside old.tree.key.shape t w old.view
first_beside {t} {w} {old} {new} r = among_beside old.tree.key t w old.view old.tokens r.looked.before r.was.alike r.was.some

pub first_look : {w : Fields} {old mid : GroupHeld} → AllLooked 0 w 0 old mid → FirstLook old mid
first_look {w} {old} {mid} r =
    let b = first_beside r in
    let one = r.was.view.one in
    let l : IsLooked old.view mid.view =
    subst (IsLooked old.view) (sym r.view) (looked_first old.tree.key.shape w old.view b (omega arith)) in
    let place : old.view.tier < length old.tree.key.shape =
    (mine old.tree.key.shape b.words b.front b.back old.view b.tally).placed (omega arith) in
    record {
      tree = r.tree;
      looked = l;
      unled = ap (λ (v : View). v.led) r.view ∙ looked_unled w old.view;
      tokens = subst (Each (Did Looks 0) old.tokens) (sym r.looked.all) (first_tokens w old.tokens);
      place = subst (λ (n : ℕ). n < length old.tree.key.shape) (sym l.tier) place;
    }

pub first_fresh_all : {w : Fields} {old mid : GroupHeld} → AllLooked 0 w 0 old mid → w.ended ≡ false → IsFresh mid.view
first_fresh_all {w} {old} {mid} r going =
    subst IsFresh (sym r.view)
    (looked_fresh w old.view going (none_of old.view.end_seen (λ p is. not_both w.ended (end_found old.tree.key.shape w old.view p (first_beside r) is) going)))

-- a token that has seen the end finds no root that goes on
pub unseen_all : {A : Type 0} {w : Fields} {old mid : GroupHeld} → AllLooked 0 w 0 old mid → w.ended ≡ false → (phase : ℕ)
    → old.view.end_seen ≡ Some phase → A
unseen_all {A} {w} {old} {mid} r going p is = not_both w.ended (end_found old.tree.key.shape w old.view p (first_beside r) is) going

looks_waits : (a b c : List Kind) → Looks a b → OnlyLooks b c → HasLooked a c
looks_waits a b c p q = subst (λ (k : List Kind). MadeOnly is_quiet k c) p q

looks_comes : (a b c : List Kind) → Looks a b → ArrivesOnce b c → HasStepped Arrival a c
looks_comes a b c p q = (
  q.0,
  subst (λ (k : List Kind). MadeOnly is_quiet k q.0) p q.1,
  subst (λ (k : List Kind). MadeOnly is_upward (Arrive ∷ q.0) k) (sym q.2) (made_none is_upward (Arrive ∷ q.0)),
)

-- some tries after the first look
pub record Waited (tries : ℕ) (old new : GroupHeld) : Type 0 where
  pub tree : new.tree ≡ old.tree
  pub looked : IsLooked old.view new.view
  pub tokens : Each (Did HasLooked tries) old.tokens new.tokens

pub waited : {old mid new : GroupHeld} (tries : ℕ) → FirstLook old mid → KeepsSoon tries mid new → Waited tries old new
waited {old} {mid} {new} tries f k = record {
  tree = k.kept.tree ∙ f.tree;
  looked = looked_same old.view mid.view new.view f.looked k.kept.view.same;
  tokens =
      each_then Looks OnlyLooks HasLooked 0 k.used tries looks_waits (let h = k.few in omega arith) old.tokens mid.tokens new.tokens
      f.tokens k.kept.tokens;
}

pub spent_since : {old mid new : GroupHeld} (tries : ℕ) → FirstLook old mid → KeepsAll tries mid new → HasSpent tries old.tokens new.tokens
spent_since {old} {mid} {new} tries f k =
    spent_then 0 tries tries old.tokens mid.tokens new.tokens (omega arith) (spent_none Looks old.tokens mid.tokens f.tokens) k.spent

passed_by : {a b c : View} → IsLooked a b → b.led ≡ false → AllHere b c → HavePassed a c
passed_by {a} {b} {c} l unled h = record { from = b; looked = l; here = h; unled = h.unled unled }

pub done_all : {old mid new : GroupHeld} (tries phase : ℕ) → FirstLook old mid → CountsAll ArrivesOnce tries mid new
    → phase ≡ new.view.phase
    → (new.tree ≡ old.tree) × HavePassed old.view new.view × (phase ≡ new.view.phase)
    × Each (Did (HasStepped Arrival) tries) old.tokens new.tokens
done_all {old} {mid} {new} tries phase f k is = (
  k.tree ∙ f.tree,
  passed_by f.looked f.unled k.view,
  is,
  each_then Looks ArrivesOnce (HasStepped Arrival) 0 tries tries looks_comes (omega arith) old.tokens mid.tokens new.tokens f.tokens
      k.tokens,
)

pub owing_all : {old mid : GroupHeld} {first : Holding} {rest : Option GroupHeld} (tries : ℕ) → FirstLook old mid
    → CountsLast ArrivesOnce tries mid first rest
    → (first.tree ≡ old.tree) × HavePassed old.view first.view
    × ((c : GroupHeld) → rest ≡ Some c → (c.tree ≡ old.tree) × HavePassed old.view c.view × AreTogether first.view c.view)
    × Each (Did (HasStepped Arrival) tries) old.tokens (sight_held first ∷ tokens_in rest)
owing_all {old} {mid} {first} {rest} tries f k = (
  k.tree ∙ f.tree,
  passed_by f.looked f.unled k.view,
  λ c is.
      (let r = k.others c is in (
        r.0 ∙ f.tree,
        passed_by f.looked f.unled r.1,
        record { tier = r.1.tier ∙ sym k.view.tier; phase = r.1.phase ∙ sym k.view.phase; arrived = r.1.arrived ∙ sym k.view.arrived },
      )),
  each_then Looks ArrivesOnce (HasStepped Arrival) 0 tries tries looks_comes (omega arith) old.tokens mid.tokens
      (sight_held first ∷ tokens_in rest) f.tokens k.tokens,
)

pub no_more : {old mid : GroupHeld} (tries : ℕ) → FirstLook old mid → Waited tries old mid
no_more {old} {mid} tries f = waited tries f (keeps_soon 0 tries (omega arith) (keeps_none mid))

-- a member that is not counted as arrived is to arrive
pub to_arrive : (v : View) → IsOne v → v.arrived ≢ 1 → v.arrived ≡ 0
to_arrive v one never = let a = one.within in omega arith

-- the root is looked at once, before
pub fresh_still : {w : Fields} {old mid new : GroupHeld} (tries : ℕ) → AllLooked 0 w 0 old mid → w.ended ≡ false → KeepsSoon tries mid new
    → (mid.view.tier ≡ 0 → new.view ≡ mid.view) → IsFresh new.view
fresh_still {w} {old} {mid} {new} tries r going k at_root =
    let same : new.view ≡ mid.view =
    ⊎_elim at_root (λ (no_root : mid.view.tier ≢ 0). k.kept.below (omega arith)) (cases_eq mid.view.tier 0) in
    subst IsFresh (sym same) (first_fresh_all r going)

-- if the look has brought the tokens into another phase, all had arrived in the one before
pub all_waited : {w : Fields} {old mid new : GroupHeld} {phase : ℕ} (tries : ℕ) → AllLooked 0 w 0 old mid → w.ended ≡ false
    → KeepsSoon tries mid new → (mid.view.tier ≡ 0 → new.view ≡ mid.view) → phase ≡ new.view.phase
    → new.view.phase ≢ old.view.phase → AllSawAdvance old new phase
all_waited {w} {old} {mid} {new} {phase} tries r going k at_root is other =
    let same : new.view ≡ mid.view =
    ⊎_elim at_root (λ (no_root : mid.view.tier ≢ 0). k.kept.below (omega arith)) (cases_eq mid.view.tier 0) in
    let saw : new.view ≡ looked w old.view = same ∙ r.view in
    let view : new.view.phase ≡ (looked w old.view).phase = ap (λ (v : View). v.phase) saw in
    record {
      root = w;
      going = going;
      now =
          ⊎_elim (λ (e : (looked w old.view).phase ≡ old.view.phase). absurd (other (view ∙ e)))
          (λ (e : (looked w old.view).phase ≡ w.phase). sym (is ∙ (view ∙ e))) (looked_where w old.view);
      saw = saw;
      found = r.looked.found;
      waited = each_token_is_waited_for old.tree.key old.view.phase phase (λ e. other (sym is ∙ e));
    }

pub all_end : {w : Fields} {old mid : GroupHeld} → AllLooked 0 w 0 old mid → w.ended ≡ true → AllSawEnd old mid
all_end {w} {old} {mid} r over = record {
  root = w;
  ended = over;
  saw = r.view;
  found = r.looked.found;
  waited = λ other. each_token_is_waited_for old.tree.key old.view.phase w.phase other;
  cause = each_end_has_a_cause old.tree.key;
}

-- which phase a poll finds
pub passed_on : (old new : View) → IsOne old → IsLooked old new → new.arrived ≡ 0 → new.phase ≢ old.phase → AllPassedOn old new
passed_on old new one l none other = ⊎_elim
    (λ (z : (new.phase ≡ old.phase) × (new.arrived ≡ old.arrived)). absurd (other z.0))
    (λ (z : (old.arrived ≡ old.size) × (new.phase ≡ next_phase_of old.phase) × (new.arrived ≡ 0)). record { all = z.0 ∙ one.one; next = z.1; nobody = z.2 })
    l.phase
